-- In which order the lines of the books are drawn in a picture.
use Rattle.std.specs.Prelude.{◌≡◌, ℕ, ◌+◌, List, [], ◌∷◌, Bool, true, false, ◌&&◌, ◌||◌, not, nat_lt, Option, Some, None, slice_get}
use Rattle.std.specs.Str.{bytes_eq}
use lib.Chars.{codes}
use Rattle.report_reader.specs.Reports.{Line as Told}
use Rattle.report_picture.specs.declared.picture.Drawn.{Drawn}
use Rattle.report_picture.specs.declared.sources.Standing.{Standing}
use Rattle.report_picture.specs.declared.sources.Standing.TheVariants.{InPicture, InReport}
use Rattle.report_picture.specs.declared.sources.Sources.{Sources}
use Rattle.report_picture.specs.declared.columns.Wanted.{Wanted}
use Rattle.picture_parts.specs.LineWords.{tells, word}
use Rattle.report_picture.specs.Pictures.{is_drawn}

-- ---- what two lines share

-- a word of the one line is a word of the other
abbrev pub agree : ℕ → List ℕ → ℕ → List ℕ → Bool
agree m line n other = bytes_eq (word m line) (word n other)

-- both lines speak of one place of one channel
abbrev pub agree_on_place : List ℕ → List ℕ → Bool
agree_on_place line other = agree 2 line 2 other && agree 3 line 3 other

-- ---- what a line presupposes

-- the line is one of the root, or the other attaches its coroutine
abbrev pub attaches : List ℕ → List ℕ → Bool
attaches above line = bytes_eq (word 0 line) (codes "0") || (tells (codes "attach") above && agree 2 above 0 line)

-- the line gets no element, or the other brought it
abbrev pub brings : List ℕ → List ℕ → Bool
brings above line =
    not (tells (codes "take") line
    || (tells (codes "drop") line || (tells (codes "spurn") line || tells (codes "drain") line)))
    || ((tells (codes "put") above || tells (codes "offer") above) && agree_on_place above line)

-- the line placed this wait
abbrev pub places : List ℕ → List ℕ → Bool
places placing line =
    (tells (codes "offer") placing && agree 5 placing 2 line) || (tells (codes "await") placing && agree 4 placing 2 line)

-- the line resolves a wait at its place
abbrev pub is_resolving : List ℕ → Bool
is_resolving line =
    tells (codes "hand") line
    || (tells (codes "take") line || (tells (codes "admit") line || (tells (codes "drain") line || tells (codes "wakeclosed") line)))

-- the line settles no wait, or the other resolved it: by a withdrawal, or at a place at which it was placed
abbrev pub resolves : List ℕ → List ℕ → List ℕ → Bool
resolves placing above line =
    not (tells (codes "settle") line)
    || ((tells (codes "withdraw") above && agree 2 above 2 line)
    || (is_resolving above && (agree_on_place above placing && places placing line)))

-- the line cancels a Job, or attaches it as cancelled
abbrev pub is_cancelling : List ℕ → Bool
is_cancelling line = tells (codes "cancel") line || (tells (codes "attach") line && bytes_eq (word 8 line) (codes "cancelled"))

-- the line sees no cancellation, or the other cancelled the Job
abbrev pub cancels : List ℕ → List ℕ → Bool
cancels above line = not (tells (codes "saw") line) || (is_cancelling above && agree 2 above 2 line)

-- ---- where it stands

abbrev pub text_if : Bool → List ℕ → List ℕ
text_if true text = text
text_if false text = []

-- a line that is drawn above this row
abbrev pub above_row : ℕ → Option Drawn → List ℕ
above_row row None = []
above_row row (Some drawn) = text_if (nat_lt drawn.row row) drawn.line.text.now

-- a line of the report that is not drawn
abbrev pub outside : Wanted → List ℕ → Option Told → List ℕ
outside wanted tags None = []
outside wanted tags (Some line) = text_if (not (is_drawn wanted tags line)) line.1

-- the line at a place, if it is drawn above this row or not drawn; else an empty one, which brings nothing about
abbrev pub line_above : Wanted → List ℕ → List Told → List Drawn → ℕ → Standing → List ℕ
line_above wanted tags lines drawn row (InPicture number) = above_row row (slice_get drawn number)
line_above wanted tags lines drawn row (InReport number) = outside wanted tags (slice_get lines number)

abbrev pub text_or : Option Told → List ℕ
text_or None = []
text_or (Some line) = line.1

-- what this line presupposes stands above it or is not drawn: the `attach` of its coroutine, what brought the element that it gets, what
-- resolved the wait that it settles, and the `cancel` that it saw
abbrev pub stands_below : Wanted → List ℕ → List Told → List Drawn → Drawn → Sources → Bool
stands_below wanted tags lines drawn line sources =
    attaches (line_above wanted tags lines drawn line.row sources.attach) line.line.text.now
    && (brings (line_above wanted tags lines drawn line.row sources.bring) line.line.text.now
    && (resolves (text_or (slice_get lines sources.placing)) (line_above wanted tags lines drawn line.row sources.resolve)
    line.line.text.now
    && cancels (line_above wanted tags lines drawn line.row sources.cancel) line.line.text.now))

-- the same of each of these lines
abbrev pub all_stand_below : Wanted → List ℕ → List Told → List Drawn → List Drawn → List Sources → Bool
all_stand_below wanted tags lines drawn [] sources = true
all_stand_below wanted tags lines drawn (line ∷ rest) [] = false
all_stand_below wanted tags lines drawn (line ∷ rest) (s ∷ sources) =
    stands_below wanted tags lines drawn line s && all_stand_below wanted tags lines drawn rest sources

-- each line stands below what it presupposes, which has a place
abbrev pub StandBelow : Wanted → List ℕ → List Told → List Drawn → Type 0
StandBelow wanted tags lines drawn = (sources : List Sources) × (all_stand_below wanted tags lines drawn drawn sources ≡ true)

-- the lines stand one below another, the first in this row
abbrev pub StandFrom : ℕ → List Drawn → Type 0
StandFrom row [] = Unit {0}
StandFrom row (line ∷ lines) = (line.row ≡ row) × StandFrom (row + 1) lines

-- each line stands below what it presupposes; or, where that is not so, the lines stand in the order of the report
abbrev pub AreOrdered : Bool → Wanted → List ℕ → List Told → List Drawn → Type 0
AreOrdered true wanted tags lines drawn = StandBelow wanted tags lines drawn
AreOrdered false wanted tags lines drawn = StandFrom 0 drawn
