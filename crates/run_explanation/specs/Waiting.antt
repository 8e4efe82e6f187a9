-- Which coroutines a report leaves waiting.
use Rattle.std.specs.Prelude.{ℕ, List, [], ◌∷◌, Bool, false, ◌==◌, ◌&&◌, ◌||◌, not, Option, Some, None, option_map, slice_get, if◌then◌else◌}
use Rattle.std.specs.List.{list_any}
use Rattle.std.specs.Str.{bytes_eq}
use lib.Chars.{codes}
use Rattle.report_reader.specs.Words.{words_of}
use Rattle.report_reader.specs.Reports.{Line}
use Rattle.report_reader.specs.declared.line.Said.{Said}
use Rattle.report_reader.specs.declared.line.Said.TheVariants.{Note, Job, Element}
use Rattle.run_explanation.specs.declared.marks.Mark.{Mark as InMemory}

abbrev pub or_empty : Option (List ℕ) → List ℕ
or_empty None = []
or_empty (Some word) = word

-- the word of this number, counted from 0
abbrev pub word_at : List (List ℕ) → ℕ → List ℕ
word_at words i = or_empty (slice_get words i)

-- ---- waits that lines begin and end

-- the wait that a line begins: `1 await a 0 a.0 0`, `1 offer a 0 5 a.0 0`
unfoldable pub begun_by : List (List ℕ) → Option (List ℕ)
begun_by words =
    if bytes_eq (word_at words 1) (codes "await") then Some (word_at words 4)
    else if bytes_eq (word_at words 1) (codes "offer") then Some (word_at words 5)
    else None

-- the wait that a line ends: `1 settle a.0 sent 0`, `1 withdraw a.0 cancelled`
unfoldable pub ended_by : List (List ℕ) → Option (List ℕ)
ended_by words =
    if bytes_eq (word_at words 1) (codes "settle") || bytes_eq (word_at words 1) (codes "withdraw") then Some (word_at words 2)
    else None

-- a line of a book: its coroutine, and the waits that it begins and ends
pub record Mark : Type 0 where
  pub tag : ℕ
  pub begun : Option (List ℕ)
  pub ended : Option (List ℕ)

-- the same as it lies in memory
abbrev pub mark_of : InMemory → Mark
mark_of m = record { tag = m.tag; begun = option_map (λ w. w.now) m.begun; ended = option_map (λ w. w.now) m.ended }

abbrev pub marked : ℕ → List (List ℕ) → Mark
marked tag words = record { tag = tag; begun = begun_by words; ended = ended_by words }

abbrev pub with_mark : Said → List ℕ → List Mark → List Mark
with_mark (Note tag) text marks = marked tag (words_of text) ∷ marks
with_mark (Job row) text marks = marks
with_mark Element text marks = marks

-- the lines of the books
abbrev pub marks_of : List Line → List Mark
marks_of [] = []
marks_of (line ∷ lines) = with_mark line.0 line.1 (marks_of lines)

-- ---- who waits

abbrev pub is_the_wait : List ℕ → Option (List ℕ) → Bool
is_the_wait wait None = false
is_the_wait wait (Some other) = bytes_eq other wait

-- the line is of this coroutine, and ends this wait
abbrev pub does_end : ℕ → List ℕ → Mark → Bool
does_end tag wait m = m.tag == tag && is_the_wait wait m.ended

-- the coroutine begins this wait, and none of these later lines of its own ends it
abbrev pub is_left_at : ℕ → Option (List ℕ) → List Mark → Bool
is_left_at tag None later = false
is_left_at tag (Some wait) later = not (list_any (does_end tag wait) later)

abbrev pub is_last : ℕ → Option ℕ → Bool
is_last tag None = false
is_last tag (Some last) = last == tag

-- the coroutines that these lines leave waiting, each once, in their order; this one was the last before
abbrev pub waiting_from : Option ℕ → List Mark → List ℕ
waiting_from last [] = []
waiting_from last (m ∷ later) =
    if is_left_at m.tag m.begun later && not (is_last m.tag last) then m.tag ∷ waiting_from (Some m.tag) later
    else waiting_from last later

-- the coroutines that a report leaves waiting
abbrev pub waiting : List Line → List ℕ
waiting lines = waiting_from None (marks_of lines)
