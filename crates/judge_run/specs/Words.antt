-- Which words are accepted, and what they ask for.
use Rattle.std.specs.Prelude.{ℕ, List, Bool, true, false, Option, Some, None, option_and_then, option_map}
use Rattle.std.specs.Str.{bytes_eq}
use lib.Chars.{codes}
use Rattle.clap.specs.Words.{App, Row, first_of, new_app, with_rule}
use Rattle.program_input.specs.Words.{matches_by, option, switch}
use Rattle.report_reader.specs.Words.{value_at}
use Rattle.judge_run.specs.declared.words.Asked.{Asked}
use Rattle.judge_run.specs.declared.words.Asked.TheVariants.{Verdict, Log}

-- ---- the command line, as clap defines it

-- judge_run [--log] [--seed N]
abbrev pub judge_line : App
judge_line = with_rule (with_rule (new_app (codes "judge_run")) (switch (codes "log"))) (option (codes "seed"))

-- ---- what is asked for

-- whether a log is asked for
abbrev pub log_of : Option (List ℕ) → Bool
log_of None = false
log_of (Some word) = bytes_eq word (codes "true")

-- a verdict, or a log by a number, 0 where nothing is said; only a log has a number
abbrev pub asked_with : Bool → Option (List ℕ) → Option Asked
asked_with false None = Some Verdict
asked_with false (Some seed) = None
asked_with true None = Some (Log 0)
asked_with true (Some seed) = option_map Log (value_at seed)

abbrev pub log_in : List Row → Bool
log_in rows = log_of (first_of (codes "log") rows)

-- by the values of the options
abbrev pub asked_by : List Row → Option Asked
asked_by rows = asked_with (log_in rows) (first_of (codes "seed") rows)

-- by the words, of which the first is the program's name
abbrev pub asked_of : List (List ℕ) → Option Asked
asked_of words = option_and_then asked_by (matches_by judge_line words)
