-- What the report says: the lines of the elements that were not received, and the whole text.
use Rattle.std.specs.Prelude.{ℕ, ◌+◌, List, [], ◌∷◌, ◌++◌, Option, Some, None}
use Rattle.std.specs.List.{flat_map, range_with_len}
use Rattle.std.specs.Fmt.{decimal}
use lib.Chars.{codes}
use Rattle.channel_model.specs.declared.acts.Act.{Act}
use Rattle.channel_model.specs.declared.acts.Fate.{Fate}
use Rattle.channel_model.specs.declared.acts.Fate.TheVariants as fate
use Rattle.channel_model.specs.Fates.{element_at, fate_at}
use Rattle.note_book.specs.declared.book.Item.{Item}
use Rattle.note_book.specs.Items.{channel_acts_in}
use Rattle.script_grammar.specs.Programs.{Declared, Program}
use Rattle.script_grammar.specs.Tags.{job_count}
use Rattle.run_report.specs.Texts.{books_text}
use Rattle.run_report.specs.Jobs.{job_acts_noted, jobs_text}

-- ---- the elements

-- the acts on channels that are noted in all books
abbrev pub channel_acts_noted : List (List Item) → List Act
channel_acts_noted [] = []
channel_acts_noted (book ∷ books) = channel_acts_in book ++ channel_acts_noted books

-- an element with its fate
abbrev pub with_fate : Option ℕ → Fate → Option (ℕ × Fate)
with_fate None fate = None
with_fate (Some value) fate = Some (value, fate)

-- the element of a place and what became of it
abbrev pub element_of : List Act → ℕ → ℕ → Option (ℕ × Fate)
element_of acts c p = with_fate (element_at c p acts) (fate_at c p acts)

-- ---- their lines

-- the line of an element, with the word for its fate
abbrev pub fate_line : List ℕ → ℕ → ℕ → List ℕ → List ℕ
fate_line name place value word =
    codes "element " ++ name ++ codes " " ++ decimal place ++ codes " " ++ decimal value ++ codes " " ++ word ++ codes "\n"

-- the line of an element; one that was received has none
abbrev pub unless_received : List ℕ → ℕ → ℕ → Fate → List ℕ
unless_received name place value fate.Received = []
unless_received name place value fate.Undelivered = fate_line name place value (codes "undelivered")
unless_received name place value fate.Dropped = fate_line name place value (codes "dropped")
unless_received name place value fate.Spurned = fate_line name place value (codes "spurned")
unless_received name place value fate.Withdrawn = fate_line name place value (codes "withdrawn")
unless_received name place value fate.Held = fate_line name place value (codes "held")

-- the line of a place, if it has an element
abbrev pub element_line : List ℕ → ℕ → Option (ℕ × Fate) → List ℕ
element_line name place None = []
element_line name place (Some x) = unless_received name place x.0 x.1

-- the lines of one channel, in the order of its places
abbrev pub places_text : (ℕ → ℕ → Option (ℕ × Fate)) → ℕ → Declared → List ℕ
places_text elements c channel = flat_map (λ p. element_line channel.name p (elements c p)) (range_with_len 0 channel.places)

-- the lines of all channels from this one on
abbrev pub elements_text : (ℕ → ℕ → Option (ℕ × Fate)) → ℕ → List Declared → List ℕ
elements_text elements c [] = []
elements_text elements c (channel ∷ channels) = places_text elements c channel ++ elements_text elements (c + 1) channels

-- ---- the report

-- the lines of the books, then those of the Jobs, then those of the elements
abbrev pub report_of : List Declared → ℕ → List (List Item) → List ℕ
report_of channels jobs books =
    books_text channels 0 books ++ jobs_text jobs (job_acts_noted books) ++ elements_text (element_of (channel_acts_noted books)) 0 channels

-- its lines behind those of the books
abbrev pub ends_text : Program → List (List Item) → List ℕ
ends_text program books =
    jobs_text (job_count program) (job_acts_noted books) ++ elements_text (element_of (channel_acts_noted books)) 0 program.channels

-- the report of a run of this program with these books
abbrev pub report_text : Program → List (List Item) → List ℕ
report_text program books = report_of program.channels (job_count program) books
