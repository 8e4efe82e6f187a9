-- What is printed of the ends of a script.
use Rattle.std.specs.Prelude.{◌≡◌, ◌==◌, ℕ, ◌+◌, ◌<◌, ◌≤◌, if◌then◌else◌, Bool, true, false, not, ◌&&◌, List, [], ◌∷◌, ◌++◌, length, Option, Some, None, is_none, is_some, nat_lt, slice_get}
use Rattle.std.specs.List.{ends_with, flat_map, list_any, slice_split}
use Rattle.std.specs.Str.{bytes_eq}
use Rattle.std.specs.Fmt.{decimal}
use lib.Chars.{codes}
use Rattle.channel_model.specs.declared.acts.ChannelNote.TheVariants as note
use Rattle.job_model.specs.declared.acts.Cause.TheVariants as cause
use Rattle.job_model.specs.declared.acts.End.{End}
use Rattle.job_model.specs.declared.acts.End.TheVariants as ends
use Rattle.note_book.specs.declared.book.Item.{Item}
use Rattle.note_book.specs.declared.book.Item.TheVariants as item
use Rattle.script_grammar.specs.Programs.{Declared, Program}
use Rattle.script_grammar.specs.Tags.{block_of_tag, coroutine_count}
use Rattle.report_reader.specs.Words.{value_at, words_of}
use Rattle.run_report.specs.Elements.{ends_text, report_text}
use Rattle.run_explanation.specs.Answers.{WaitsOf, name_by}
use Rattle.run_explanation.specs.Fitting.{lines_for}
use Rattle.engine_one.specs.Orders.{MadeInOrder}
use Rattle.end_search.specs.declared.answers.Report.{Report}
use Rattle.end_search.specs.declared.wanted.Wanted.{Wanted}
use Rattle.end_search.specs.declared.wanted.Wanted.TheVariants as wanted
use Rattle.end_search.specs.declared.ways.Verdict.{Verdict}
use Rattle.end_search.specs.declared.ways.Verdict.TheVariants as verdict
use Rattle.run_claims.specs.Runs.{RunsTo}

-- ---- the parts of a block

-- how the root has ended, if it has
abbrev pub status_text : Option End → List ℕ
status_text None = codes "unfinished\n"
status_text (Some (ends.Completed v)) = codes "completed " ++ (decimal v ++ codes "\n")
status_text (Some (ends.Cancelled cause)) = codes "cancelled\n"

-- the first line of a block: the number of the end, and how the root has ended
abbrev pub head_text : ℕ → Option End → List ℕ
head_text number root = (codes "end " ++ (decimal number ++ codes ": ")) ++ status_text root

-- the line of a send of this value that a closed channel refused
abbrev pub refused_on : Option Declared → ℕ → List ℕ
refused_on None value = []
refused_on (Some channel) value = codes "  refused " ++ (channel.name ++ (codes " " ++ (decimal value ++ codes "\n")))

-- the line of an item that says so
abbrev pub refused_line : Program → Item → List ℕ
refused_line p (item.Channel (note.SendClosed c value closed)) = refused_on (slice_get p.channels c) value
refused_line p (item.Channel (note.TrySendClosed c value closed)) = refused_on (slice_get p.channels c) value
refused_line p other = []

-- the lines of all sends that closed channels refused, in the order of the books
abbrev pub refused_text : Program → List (List Item) → List ℕ
refused_text p books = flat_map (λ book. flat_map (refused_line p) book) books

-- a tag behind another
abbrev pub tag_part : ℕ → List ℕ
tag_part k = codes "," ++ decimal k

-- tags with commas between them
abbrev pub tags_text : List ℕ → List ℕ
tags_text [] = []
tags_text (k ∷ ks) = decimal k ++ flat_map tag_part ks

-- the line of an order, and an empty line
abbrev pub order_text : List ℕ → List ℕ
order_text order = codes "turns " ++ (decimal (length order) ++ (codes ": " ++ (tags_text order ++ codes "\n\n")))

-- what stands in place of who waits, if the report is too long to be explained
abbrev pub too_long_text : List ℕ
too_long_text = codes "  who waits is not told: the report has more than 67108864 bytes\n"

-- the lines of the coroutines that a report leaves waiting; of a report that is too long to be explained, that it is
pub record AreWaits (p : Program) (report text : List ℕ) : Type 0 where
  pub short : length report ≤ 67108864 → WaitsOf p (lines_for p report) text
  pub long : 67108864 < length report → text ≡ too_long_text

-- ---- Jobs by name

-- the Job of a row is called by the block of its coroutine; that of a scope by this word
abbrev pub name_of_row : Program → Option ℕ → List ℕ
name_of_row p None = codes "scope"
name_of_row p (Some row) = if nat_lt row (coroutine_count p) then name_by p (block_of_tag p row) else codes "scope"

-- a word behind a blank
abbrev pub behind_blank : List ℕ → List ℕ
behind_blank word = codes " " ++ word

-- the line of a Job by name, whose row, state and further words are these: `  worker 3 completed 1`
abbrev pub line_by_name : List ℕ → List ℕ → List ℕ → List (List ℕ) → List ℕ
line_by_name name row state more =
    codes "  " ++ (name ++ (behind_blank row ++ (behind_blank state ++ (flat_map behind_blank more ++ codes "\n"))))

-- that of a line with these words, if it is of a Job that is not active; a coroutine whose Job is active waits, which has a line of its own
abbrev pub named_line : Program → List (List ℕ) → List ℕ
named_line p (what ∷ row ∷ state ∷ more) =
    if bytes_eq what (codes "job") && not (bytes_eq state (codes "active")) then line_by_name (name_of_row p (value_at row)) row state more
    else []
named_line p other = []

-- those of the lines of a text
abbrev pub named_text : Program → List ℕ → List ℕ
named_text p text = flat_map (λ line. named_line p (words_of line)) (slice_split (λ b. b == 10) text)

-- ---- which ends are looked for

-- the root was cancelled by a failure
abbrev pub is_failed : Option End → Bool
is_failed (Some (ends.Cancelled (cause.Failure row))) = true
is_failed other = false

-- it was cancelled for another reason
abbrev pub is_cancelled : Option End → Bool
is_cancelled (Some (ends.Cancelled cause.None)) = true
is_cancelled (Some (ends.Cancelled cause.Request)) = true
is_cancelled other = false

-- an end with this root is one that is looked for, as far as its root says; elements and refused sends are not looked at
abbrev pub does_suit : Option Wanted → Option End → Bool
does_suit (Some wanted.Unfinished) root = is_none root
does_suit (Some wanted.Failed) root = is_failed root
does_suit (Some wanted.Cancelled) root = is_cancelled root
does_suit other root = true

-- a line of the text ends so
abbrev pub has_end : List ℕ → List ℕ → Bool
has_end back text = list_any (λ line. ends_with (λ a b. a == b) line back) (slice_split (λ b. b == 10) text)

-- an end with these refused sends, and these lines of Jobs and elements, is one that is looked for, as far as they say
abbrev pub shows_kind : Option Wanted → List ℕ → List ℕ → Bool
shows_kind (Some wanted.Undelivered) refused lines = has_end (codes " undelivered") lines
shows_kind (Some wanted.Held) refused lines = has_end (codes " held") lines
shows_kind (Some wanted.Refused) refused lines = nat_lt 0 (length refused)
shows_kind other refused lines = true

-- ---- blocks

-- the block is that of a run of the script that was made in the order which it shows, and came to rest: how its root ended, which
-- coroutines wait, how its Jobs ended by name, which sends were refused, the lines of its Jobs and of its elements, and the order
pub record IsBlock (p : Program) (wanted : Option Wanted) (number : ℕ) (block : List ℕ) : Type 0 where
  pub root : Option End
  pub run : RunsTo root p
  pub order : List ℕ
  pub made : MadeInOrder p order run.books run.channels run.jobs
  pub suits : does_suit wanted root ≡ true
  pub kind : shows_kind wanted (refused_text p run.books) (ends_text p run.books) ≡ true
  pub waits : List ℕ
  pub are_waits : AreWaits p (report_text p run.books) waits
  pub is_text : block
      ≡ ((((head_text number root ++ waits) ++ named_text p (ends_text p run.books)) ++ refused_text p run.books) ++ ends_text p run.books)
      ++ order_text order

-- blocks of so many ends, numbered from 1
pub data Blocks (p : Program) (wanted : Option Wanted) : ℕ → List ℕ → Type 0 where
  no_block : Blocks p wanted 0 []
  one_more : (n : ℕ) (text block : List ℕ) → Blocks p wanted n text → IsBlock p wanted (n + 1) block
      → Blocks p wanted (n + 1) (text ++ block)

-- ---- the whole text

-- how many ends there are
abbrev pub count_text : ℕ → List ℕ
count_text count = if count == 1 then codes "1 end, " else decimal count ++ codes " ends, "

-- an end is found that was looked for, or not; where all are looked for, one is shown at least
pub record Fits (wanted : Option Wanted) (how : Verdict) (count : ℕ) : Type 0 where
  pub some : wanted ≡ None → 0 < count
  pub found : how ≡ verdict.Found → (is_some wanted ≡ true) × (0 < count)
  pub then_found : is_some wanted ≡ true → 0 < count → how ≡ verdict.Found

-- what is printed of a search: the blocks, and a line that begins with their number
pub record Explores (p : Program) (wanted : Option Wanted) (how : Verdict) (text : List ℕ) : Type 0 where
  pub count : ℕ
  pub blocks : List ℕ
  pub are_blocks : Blocks p wanted count blocks
  pub fits : Fits wanted how count
  pub rest : List ℕ
  pub is_text : text ≡ blocks ++ (count_text count ++ rest)

-- the text is the report of a run of the script that came to rest, whose root ended so, if it has
pub record TellsOf (p : Program) (report : Report) : Type 0 where
  pub run : RunsTo report.root p
  pub is_report : report.text.items ≡ report_text p run.books

-- the same of a run that was made in this order
pub record TellsInOrder (p : Program) (order : List ℕ) (report : Report) : Type 0 where
  pub tells : TellsOf p report
  pub made : MadeInOrder p order tells.run.books tells.run.channels tells.run.jobs
