-- A trace, and its text: events in the trace event format.
use Rattle.std.specs.Prelude.{◌≡◌, ℕ, ◌+◌, ◌*◌, List, [], ◌∷◌, ◌++◌, map, filter, Bool, true, false, ◌&&◌, not, nat_le}
use Rattle.std.specs.Fmt.{decimal}
use lib.Chars.{codes}
use Rattle.report_reader.specs.declared.line.Said.{Said}
use Rattle.report_reader.specs.declared.line.Said.TheVariants.{Note, Job, Element}
use Rattle.report_reader.specs.Reports.{Line as Told}
use Rattle.report_reader.specs.Reading.{told}
use Rattle.report_picture.specs.declared.columns.Wanted.{Wanted}
use Rattle.report_picture.specs.declared.trace.Track.{Track}
use Rattle.report_picture.specs.declared.trace.Moment.{Moment}
use Rattle.report_picture.specs.declared.trace.Happening.{Happening}
use Rattle.report_picture.specs.declared.trace.Happening.TheVariants.{Lasts, Leaves, Arrives}
use Rattle.report_picture.specs.declared.trace.Event.{Event}
use Rattle.report_picture.specs.declared.trace.Trace.{Trace}
use Rattle.picture_parts.specs.LineWords.{is_bookkeeping}
use Rattle.picture_parts.specs.Members.{arguments_text, arriving_fields, field_text, fields_text, instant_fields, leaving_fields, naming_fields, quoted, slice_fields}
use Rattle.picture_parts.specs.Names.{heading}
use Rattle.report_picture.specs.Elements.{job_heading, label_of}
use Rattle.report_picture.specs.Json.{Json, value}

-- ---- which lines

-- the line is in the book of a coroutine that is asked for
abbrev pub is_asked_for : Wanted → Said → Bool
is_asked_for wanted (Note tag) = nat_le wanted.first tag && nat_le tag wanted.last
is_asked_for wanted (Job row) = false
is_asked_for wanted Element = false

-- the line is in the trace: it is asked for, and not left out
abbrev pub is_traced : Wanted → Told → Bool
is_traced wanted line = is_asked_for wanted line.0 && not (wanted.only_channels && is_bookkeeping line.1)

-- the trace has each line that is asked for once
abbrev pub Tells : Wanted → List Told → Trace → Type 0
Tells wanted lines trace = map (λ m. told m.line) trace.moments.items ≡ filter (is_traced wanted) lines

-- ---- an event as a text

-- an event: its name, its category, its track, what happens, and its last member, in which the line of a script may stand too
abbrev pub object_text : List ℕ → List ℕ → ℕ → List (List ℕ × List ℕ) → List ℕ → List ℕ → List ℕ → List ℕ
object_text name category track fields argument words source =
    codes "{" ++ field_text (codes "name") (quoted name) ++ field_text (codes "cat") (quoted category)
    ++ field_text (codes "pid") (decimal 1) ++ field_text (codes "tid") (decimal track) ++ fields_text fields
    ++ arguments_text argument words source ++ codes "}"

-- ---- what happens

abbrev pub happening_fields : Happening → List (List ℕ × List ℕ)
happening_fields (Lasts from lasts) = slice_fields from lasts
happening_fields (Leaves at flow) = leaving_fields at flow
happening_fields (Arrives at flow) = arriving_fields at flow

abbrev pub event_text : Event → List ℕ
event_text e = object_text e.name.now e.category.now e.track (happening_fields e.happening) (codes "line") e.line.now e.source.now

-- the track of a coroutine
abbrev pub track_of : Said → ℕ
track_of (Note tag) = tag * 2
track_of (Job row) = row * 2 + 1
track_of Element = 0

-- a line that is joined to another is a slice, which arrows begin and end at; another is an instant
abbrev pub moment_fields : Bool → ℕ → List (List ℕ × List ℕ)
moment_fields true at = slice_fields at 8
moment_fields false at = instant_fields at

-- a line of a book, in the track of its coroutine, named by what is behind its first word
abbrev pub moment_text : Moment → List ℕ
moment_text m =
    object_text (label_of m.line.text.now) (codes "line") (track_of m.line.said) (moment_fields m.joined m.at) (codes "line")
    m.line.text.now m.source.now

-- the name of a track
abbrev pub track_name : List (List ℕ) → Bool → ℕ → List ℕ
track_name names true row = job_heading row
track_name names false tag = heading names tag

abbrev pub track_number : Bool → ℕ → ℕ
track_number true row = row * 2 + 1
track_number false tag = tag * 2

abbrev pub track_text : List (List ℕ) → Track → List ℕ
track_text names t =
    object_text (codes "thread_name") (codes "") (track_number t.is_job t.number) naming_fields (codes "name")
    (track_name names t.is_job t.number) []

-- ---- the whole

-- texts, each with a comma behind it
abbrev pub elements_text : List (List ℕ) → List ℕ
elements_text [] = []
elements_text (t ∷ texts) = t ++ codes ",\n" ++ elements_text texts

-- the last event, which names the run
abbrev pub last_text : List ℕ
last_text = object_text (codes "process_name") (codes "") 0 naming_fields (codes "name") (codes "run") []

-- a trace as a text: an object whose events are its tracks, its lines and what else happens
abbrev pub trace_text : Trace → List ℕ
trace_text trace =
    codes "{\"displayTimeUnit\":\"ms\",\"traceEvents\":[\n"
    ++ elements_text (map (track_text (map (λ n. n.items) trace.names.now)) trace.tracks.items)
    ++ elements_text (map moment_text trace.moments.items) ++ elements_text (map event_text trace.events.items)
    ++ (last_text ++ codes "\n") ++ codes "]}\n"

-- the text is well-formed JSON, with a line feed behind it
abbrev pub IsJson : List ℕ → Type 0
IsJson t = (inner : List ℕ) × Json value inner × (t ≡ inner ++ codes "\n")
