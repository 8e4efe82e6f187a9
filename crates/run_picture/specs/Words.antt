-- Which words are accepted, and what they ask for.
use Rattle.std.specs.Prelude.{ℕ, ◌∷◌, [], List, Bool, true, false, nat_le, Option, Some, None, option_and_then, if◌then◌else◌}
use Rattle.std.specs.List.{slice_split}
use Rattle.std.specs.Prelude.{◌==◌, ◌^◌, ◌-◌}
use Rattle.std.specs.Str.{bytes_eq}
use lib.Chars.{codes}
use Rattle.clap.specs.Words.{App, Row, first_of, new_app, with_rule}
use Rattle.program_input.specs.Words.{matches_by, option, switch}
use Rattle.report_reader.specs.Words.{value_at}
use Rattle.report_picture.specs.declared.columns.Wanted.{Wanted}
use Rattle.run_picture.specs.declared.words.Format.{Format}
use Rattle.run_picture.specs.declared.words.Format.TheVariants.{Svg, Mermaid, Trace}
use Rattle.run_picture.specs.declared.words.Range.{Range}
use Rattle.run_picture.specs.declared.words.Asked.{Asked}

-- ---- the command line, as clap defines it

-- run_picture [--format F] [--coroutines A-B] [--only channels] [--lines A-B] [--script]
abbrev pub picture_line : App
picture_line =
    with_rule
    (with_rule (with_rule (with_rule (with_rule (new_app (codes "run_picture")) (option (codes "format")))
    (option (codes "coroutines")))
    (option (codes "only"))) (option (codes "lines"))) (switch (codes "script"))

-- ---- the values

-- how the picture is written, SVG where nothing is said
abbrev pub format_of : Option (List ℕ) → Option Format
format_of None = Some Svg
format_of (Some word) =
    if bytes_eq word (codes "svg") then Some Svg
    else if bytes_eq word (codes "mermaid") then Some Mermaid
    else if bytes_eq word (codes "trace") then Some Trace
    else None

-- a trace is of all lines
abbrev pub format_for : Option Format → Option (List ℕ) → Option Format
format_for (Some Trace) (Some lines) = None
format_for format lines = format

-- whether the bookkeeping of Jobs is left out
abbrev pub only_of : Option (List ℕ) → Option Bool
only_of None = Some false
only_of (Some word) = if bytes_eq word (codes "channels") then Some true else None

-- whether a script stands in front of the report
abbrev pub script_of : Option (List ℕ) → Bool
script_of None = false
script_of (Some word) = bytes_eq word (codes "true")

-- from the first number to the last, which is not less
abbrev pub range_between : Option ℕ → Option ℕ → Option Range
range_between None last = None
range_between (Some first) None = None
range_between (Some first) (Some last) = if nat_le first last then Some (record { first = first; last = last }) else None

abbrev pub range_by : List (List ℕ) → Option Range
range_by [] = None
range_by (first ∷ []) = None
range_by (first ∷ (last ∷ [])) = range_between (value_at first) (value_at last)
range_by (first ∷ (last ∷ (other ∷ more))) = None

-- two numbers with a hyphen between them
abbrev pub range_of : List ℕ → Option Range
range_of word = range_by (slice_split (λ b. b == 45) word)

-- all from this one on where nothing is said
abbrev pub range_or : ℕ → Option (List ℕ) → Option Range
range_or first None = Some (record { first = first; last = 2 ^ 32 - 1 })
range_or first (Some word) = range_of word

-- ---- what is asked for

-- which coroutines are drawn, which lines of theirs, and which rows
abbrev pub wanted_by : Range → Bool → Range → Wanted
wanted_by coroutines only lines = record {
  first = coroutines.first;
  last = coroutines.last;
  only_channels = only;
  from = lines.first;
  to = lines.last;
}

abbrev pub asked_with : Bool → Option Format → Option Range → Option Bool → Option Range → Option Asked
asked_with script None coroutines only lines = None
asked_with script (Some format) None only lines = None
asked_with script (Some format) (Some coroutines) None lines = None
asked_with script (Some format) (Some coroutines) (Some only) None = None
asked_with script (Some format) (Some coroutines) (Some only) (Some lines) =
    Some (record { format = format; wanted = wanted_by coroutines only lines; script = script })

abbrev pub format_in : List Row → Option Format
format_in rows = format_for (format_of (first_of (codes "format") rows)) (first_of (codes "lines") rows)

abbrev pub script_in : List Row → Bool
script_in rows = script_of (first_of (codes "script") rows)

-- by the values of the options
abbrev pub asked_by : List Row → Option Asked
asked_by rows =
    asked_with (script_in rows) (format_in rows) (range_or 0 (first_of (codes "coroutines") rows)) (only_of (first_of (codes "only") rows))
    (range_or 1 (first_of (codes "lines") rows))

-- by the words, of which the first is the program's name
abbrev pub asked_of : List (List ℕ) → Option Asked
asked_of words = option_and_then asked_by (matches_by picture_line words)
