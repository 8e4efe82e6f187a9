-- What it means that the answer to a command was written, or a part of it.
use Rattle.std.specs.Prelude.{◌≡◌, ℕ, List, Option, Some, None}
use Rattle.std.proofs.Common.{subst, sym}
use Rattle.co_base.specs.Streams.{Took, TookPart}
use Rattle.command_line.specs.declared.words.Command.{Command}
use Rattle.command_line.specs.declared.words.Command.TheVariants.{Run, Check, Sum}
use Rattle.command_line.specs.declared.status.Ending.{Ending}
use Rattle.command_line.specs.declared.status.Ending.TheVariants as ending
use Rattle.command_line.specs.declared.status.Status.{Status}
use Rattle.command_line.specs.declared.status.Status.TheVariants as status
use Rattle.command_line.specs.declared.answer.Answer.{Answer}
use Rattle.command_line.specs.Preparing.{IsAnswer}
use Rattle.command_line.specs.Statuses.{Means, Serves, Stream, Writes, status_of}
use Rattle.command_line.specs.Writing.{IsWritten}

-- so much of the text was taken
serves_with : (command : Command) (how : Ending) (source source' : Stream) (made : List ℕ) (IsTaken : List ℕ → Type 0)
    → Serves command how source source' (λ text. made ≡ text) → IsTaken made → Serves command how source source' IsTaken
serves_with (Run workers) how source source' made IsTaken m t =
    record { input = m.input; given = m.given; all = m.all; text = m.text; answers = m.answers; taken = subst IsTaken m.taken t }
serves_with Check how source source' made IsTaken m t =
    record { input = m.input; given = m.given; all = m.all; text = m.text; answers = m.answers; taken = subst IsTaken m.taken t }
serves_with (Sum size workers) how source source' made IsTaken m t =
    record { unread = m.unread; text = m.text; answers = m.answers; taken = subst IsTaken m.taken t }

written_means : (how : Ending) (command : Command) (source source' sink sink' : Stream)
    → Writes (Some command) how source source' sink sink' → Means (status_of how) (Some command) source source' sink sink'
written_means ending.Completed command source source' sink sink' w = w
written_means other command source source' sink sink' w = w

-- the whole text was taken
whole : (s : Status) (command : Command) (how : Ending) (made : List ℕ) (source source' sink sink' : Stream)
    → Serves command how source source' (λ text. made ≡ text) → (s ≡ status_of how) × Took sink.bytes sink'.bytes made
    → Means s (Some command) source source' sink sink'
whole s command how made source source' sink sink' m w =
    subst (λ st. Means st (Some command) source source' sink sink') (sym w.0)
    (written_means how command source source' sink sink' (serves_with command how source source' made
    (λ text. Took sink.bytes sink'.bytes text) m w.1))

means : (s : Status) (command : Command) (how : Ending) (made : List ℕ) (source source' sink sink' : Stream)
    → Serves command how source source' (λ text. made ≡ text) → IsWritten how made sink sink' s
    → Means s (Some command) source source' sink sink'
means status.WriteFault command how made source source' sink sink' m w =
    record {
      rose = w.0;
      how = how;
      serves = serves_with command how source source' made (λ text. TookPart text sink.bytes sink'.bytes) m
          w.1;
    }
means status.Completed command how made source source' sink sink' m w =
    whole status.Completed command how made source source' sink sink' m w
means status.Cancelled command how made source source' sink sink' m w =
    whole status.Cancelled command how made source source' sink sink' m w
means status.Refused command how made source source' sink sink' m w = whole status.Refused command how made source source' sink sink' m w
means status.NoScript command how made source source' sink sink' m w = whole status.NoScript command how made source source' sink sink' m w
means status.Unfinished command how made source source' sink sink' m w =
    whole status.Unfinished command how made source source' sink sink' m w
means status.ReadFault command how made source source' sink sink' m w =
    whole status.ReadFault command how made source source' sink sink' m w
means status.NoMemory command how made source source' sink sink' m w = whole status.NoMemory command how made source source' sink sink' m w

pub answer_means : (s : Status) (asked : Option Command) (answer : Answer) (source source' sink sink' : Stream)
    → IsAnswer asked source source' answer → IsWritten answer.ending answer.text.items sink sink' s
    → Means s asked source source' sink sink'
answer_means s None answer source source' sink sink' m w = absurd m
answer_means s (Some command) answer source source' sink sink' m w =
    means s command answer.ending answer.text.items source source' sink sink' m w
