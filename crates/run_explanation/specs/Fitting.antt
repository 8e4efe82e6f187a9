-- Which lines can be those of a report of a script: they name only what it has.
use Rattle.std.specs.Prelude.{ℕ, ◌+◌, List, [], ◌∷◌, length, min, Bool, true, false, ◌==◌, ◌&&◌, ◌||◌, not, nat_le, nat_lt, Option, Some, None, Result, Ok, Err, if◌then◌else◌}
use Rattle.std.specs.List.{slice_split, list_all, list_any}
use Rattle.std.specs.Str.{bytes_eq}
use lib.Chars.{codes}
use Rattle.script_grammar.specs.Programs.{Program, channel_names}
use Rattle.script_grammar.specs.Tags.{coroutine_count, job_count}
use Rattle.report_reader.specs.Words.{value_at, words_of}
use Rattle.report_reader.specs.Reports.{Line, report_of}

abbrev pub is_below : ℕ → Option ℕ → Bool
is_below count None = false
is_below count (Some n) = nat_lt n count

-- the word is the row of a Job
abbrev pub is_row : Program → List ℕ → Bool
is_row p word = is_below (job_count p) (value_at word)

-- the word is the number of a coroutine
abbrev pub is_tag : Program → List ℕ → Bool
is_tag p word = is_below (coroutine_count p) (value_at word)

-- the word is a channel: one that the script declares, or the done channel of a Job
abbrev pub is_channel_of : Program → List ℕ → Bool
is_channel_of p [] = false
is_channel_of p (b ∷ rest) = if b == 64 then is_row p rest else list_any (λ name. bytes_eq name (b ∷ rest)) (channel_names p.channels)

-- what stands before the first point is a channel
abbrev pub begins_with_channel : Program → List (List ℕ) → Bool
begins_with_channel p [] = false
begins_with_channel p (channel ∷ more) = is_channel_of p channel

-- the word is a channel, or a wait on one
abbrev pub is_on_channel : Program → List ℕ → Bool
is_on_channel p word = begins_with_channel p (slice_split (λ b. b == 46) word)

abbrev pub is_figure : ℕ → Bool
is_figure b = nat_le 48 b && nat_le b 57

-- the word is a row, or a channel or a wait
abbrev pub is_known : Program → List ℕ → Bool
is_known p [] = false
is_known p (b ∷ rest) = if is_figure b then is_row p (b ∷ rest) else is_on_channel p (b ∷ rest)

-- a word with a point is a wait
abbrev pub has_point : List ℕ → Bool
has_point word = list_any (λ b. b == 46) word

-- a word that is a wait is one on a channel
abbrev pub wait_fits : Program → List ℕ → Bool
wait_fits p word = not (has_point word) || is_on_channel p word

abbrev pub waits_fit : Program → List (List ℕ) → Bool
waits_fit p words = list_all (wait_fits p) words

-- what stands behind the verb: a channel, a wait or a row; behind `fail` stands a code
abbrev pub object_fits : Program → List ℕ → List (List ℕ) → Bool
object_fits p verb [] = true
object_fits p verb (word ∷ words) = (bytes_eq verb (codes "fail") || is_known p word) && waits_fit p words

-- what stands behind the tag
abbrev pub note_fits : Program → List (List ℕ) → Bool
note_fits p [] = false
note_fits p (verb ∷ words) = object_fits p verb words

abbrev pub row_fits : Program → List (List ℕ) → Bool
row_fits p [] = false
row_fits p (row ∷ words) = is_row p row

abbrev pub channel_fits : Program → List (List ℕ) → Bool
channel_fits p [] = false
channel_fits p (channel ∷ words) = is_channel_of p channel

-- a line with this first word names only what the script has
unfoldable pub line_fits : Program → List ℕ → List (List ℕ) → Bool
line_fits p first words =
    if bytes_eq first (codes "job") then row_fits p words
    else if bytes_eq first (codes "element") then channel_fits p words
    else if length first == 0 then true
    else is_tag p first && note_fits p words

-- the same of all words of a line
abbrev pub words_fit : Program → List (List ℕ) → Bool
words_fit p [] = true
words_fit p (first ∷ words) = line_fits p first words

-- the line names only what the script has
abbrev pub fits : Program → List ℕ → Bool
fits p line = words_fit p (words_of line)

-- the number of the first of these lines that names something else; the first of them has the number n
unfoldable pub misfit_from : Program → ℕ → List (List ℕ) → Option ℕ
misfit_from p n [] = None
misfit_from p n (line ∷ more) = if fits p line then misfit_from p (n + 1) more else Some n

-- the number of the first line of a text that names something that the script has not
abbrev pub misfit_in : Program → List ℕ → Option ℕ
misfit_in p text = misfit_from p 1 (slice_split (λ b. b == 10) text)

-- the lines of a report of this script, or the number of the first line that cannot be one: it is none of a report, or does not fit
abbrev pub lines_unless : Option ℕ → Result (List Line) ℕ → Result (List Line) ℕ
lines_unless None report = report
lines_unless (Some n) (Ok lines) = Err n
lines_unless (Some n) (Err m) = Err (min n m)

abbrev pub lines_for : Program → List ℕ → Result (List Line) ℕ
lines_for p text = lines_unless (misfit_in p text) (report_of text)
