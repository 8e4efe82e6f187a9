-- What each number that a call gives says of the script, of the room for the report and of the size.
use Rattle.std.specs.Prelude.{◌≡◌, ℕ, ◌≤◌, ◌<◌, List, ◌++◌, length, take, drop}
use Rattle.command_line.specs.declared.status.Ending.{Ending}
use Rattle.command_line.specs.declared.status.Ending.TheVariants as ending
use Rattle.command_line.specs.declared.status.Status.{Status}
use Rattle.command_line.specs.declared.status.Status.TheVariants as status
use Rattle.command_line.specs.Statuses.{Ran}

-- the text is the report of a run that ended so, or the line of the first fault; of a script that is too long, its first
-- 1,048,577 bytes are read
abbrev pub Answers : Ending → List ℕ → List ℕ → Type 0
Answers how script text = Ran how (take 1048577 script) text

-- the text is written at the front of the room, and what lies behind it is as it was
pub record IsWritten (text old new : List ℕ) : Type 0 where
  pub fits : length text ≤ length old
  pub written : new ≡ text ++ drop (length text) old

-- the text answers the script, and is written
pub record Writes (how : Ending) (script old new : List ℕ) (n : ℕ) : Type 0 where
  pub text : List ℕ
  pub size : n ≡ length text
  pub answers : Answers how script text
  pub written : IsWritten text old new

-- the text that answers the script is longer than the room, which is left as it was
pub record Outgrows (script old new : List ℕ) (n : ℕ) : Type 0 where
  pub how : Ending
  pub text : List ℕ
  pub size : n ≡ length text
  pub answers : Answers how script text
  pub longer : length old < length text
  pub same : new ≡ old

-- nothing is written
pub record Nothing (old new : List ℕ) (n : ℕ) : Type 0 where
  pub same : new ≡ old
  pub size : n ≡ 0

-- a call that found the room so, and left it and the size so; it is never refused, and never fails to read
abbrev pub Says : Status → List ℕ → List ℕ → List ℕ → ℕ → Type 0
Says status.Completed script old new n = Writes ending.Completed script old new n
Says status.Cancelled script old new n = Writes ending.Cancelled script old new n
Says status.Refused script old new n = ⊥
Says status.NoScript script old new n = Writes ending.NoScript script old new n
Says status.Unfinished script old new n = Writes ending.Unfinished script old new n
Says status.ReadFault script old new n = ⊥
Says status.WriteFault script old new n = Outgrows script old new n
Says status.NoMemory script old new n = Nothing old new n

-- where the text fits it is written and the number is that of the ending, and else the number is 6 and nothing is written
pub record Leaves (number : ℕ) (text old new : List ℕ) (n result : ℕ) : Type 0 where
  pub size : n ≡ length text
  pub fits : length text ≤ length old → (result ≡ number) × (new ≡ text ++ drop (length text) old)
  pub longer : length old < length text → (result ≡ 6) × (new ≡ old)
