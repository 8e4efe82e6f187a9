-- Which words are a command, and which.
use Rattle.std.specs.Prelude.{◌≤◌, ℕ, ◌==◌, Bool, true, false, ◌&&◌, nat_le, List, [], ◌∷◌, Option, Some, None, option_map, option_and_then, if◌then◌else◌}
use lib.Chars.{codes}
use Rattle.std.specs.Str.{bytes_eq}
use Rattle.clap.specs.Words.{App, Row, Rule, first_of, new_app, with_rule}
use Rattle.program_input.specs.Words.{matches_by, option}
use Rattle.script_grammar.specs.Places.{value_at}
use Rattle.command_line.specs.declared.words.Command.{Command}
use Rattle.command_line.specs.declared.words.Command.TheVariants.{Run, Check, Sum}

-- ---- the command lines, as clap defines them

-- run [--workers N]
abbrev pub run_line : App
run_line = with_rule (new_app (codes "run")) (option (codes "workers"))

-- check
abbrev pub check_line : App
check_line = new_app (codes "check")

-- the option that has to be given
abbrev pub size_option : Rule
size_option = record (option (codes "size")) { required = true }

-- sum --size N [--workers N]
abbrev pub sum_line : App
sum_line = with_rule (with_rule (new_app (codes "sum")) size_option) (option (codes "workers"))

-- ---- the values

-- a number that lies in these limits
abbrev pub within : ℕ → ℕ → Option ℕ → Option ℕ
within low high None = None
within low high (Some n) = if nat_le low n && nat_le n high then Some n else None

-- the number of workers, 4 where none is given
abbrev pub workers_of : Option (List ℕ) → Option ℕ
workers_of None = Some 4
workers_of (Some word) = within 1 16 (value_at word)

-- the size, which has to be given
abbrev pub size_of : Option (List ℕ) → Option ℕ
size_of None = None
size_of (Some word) = within 1 100000 (value_at word)

-- ---- the commands

-- run, with the value of its option
abbrev pub run_by : List Row → Option Command
run_by rows = option_map (λ workers. Run workers) (workers_of (first_of (codes "workers") rows))

-- sum, with the values of its options
abbrev pub sum_by : List Row → Option Command
sum_by rows =
    option_and_then (λ size. option_map (λ workers. Sum size workers) (workers_of (first_of (codes "workers") rows)))
    (size_of (first_of (codes "size") rows))

-- the command that the words are, if they are one
abbrev pub command_of : List (List ℕ) → Option Command
command_of [] = None
command_of (name ∷ words) =
    if bytes_eq name (codes "run") then option_and_then run_by (matches_by run_line (name ∷ words))
    else if bytes_eq name (codes "check") then option_map (λ rows. Check) (matches_by check_line (name ∷ words))
    else if bytes_eq name (codes "sum") then option_and_then sum_by (matches_by sum_line (name ∷ words))
    else None

-- ---- what a command says

-- the command reads its script from the source
abbrev pub reads : Command → Bool
reads (Run workers) = true
reads Check = true
reads (Sum size workers) = false

-- how many workers the command asks for
abbrev pub workers_asked : Command → ℕ
workers_asked (Run workers) = workers
workers_asked Check = 1
workers_asked (Sum size workers) = workers

-- the command asks for one worker, or for none
abbrev pub is_alone : Command → Bool
is_alone (Run workers) = workers == 1
is_alone Check = true
is_alone (Sum size workers) = workers == 1

-- the command, where it asks for no second worker
abbrev pub alone : Option Command → Option Command
alone None = None
alone (Some command) = if is_alone command then Some command else None

-- what is asked reads from the source, if it is a command
abbrev pub is_asked_to_read : Option Command → Bool
is_asked_to_read None = false
is_asked_to_read (Some command) = reads command

-- the numbers of a command lie in their limits
abbrev pub IsInLimits : Command → Type 0
IsInLimits (Run workers) = (1 ≤ workers) × (workers ≤ 16)
IsInLimits Check = Unit {0}
IsInLimits (Sum size workers) = (1 ≤ size) × (size ≤ 100000) × (1 ≤ workers) × (workers ≤ 16)
