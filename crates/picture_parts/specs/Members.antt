-- Texts in JSON, and members of events of the trace event format.
use Rattle.std.specs.Prelude.{ℕ, ◌+◌, ◌/◌, ◌%◌, List, [], ◌∷◌, ◌++◌, ◌==◌, ◌&&◌, nat_le, nat_lt, if◌then◌else◌}
use Rattle.std.specs.Fmt.{decimal}
use lib.Chars.{codes}

-- ---- texts

-- a hexadecimal digit
abbrev pub digit : ℕ → List ℕ
digit n = (if nat_lt n 10 then 48 + n else 87 + n) ∷ []

-- a byte of a text: itself if it is a printable character of ASCII other than `"` and `\`, and else what stands for it
abbrev pub escape : ℕ → List ℕ
escape b =
    if b == 34 then codes "\\\""
    else if b == 92 then codes "\\\\"
    else if nat_le 32 b && nat_lt b 127 then b ∷ []
    else codes "\\u00" ++ digit (b / 16) ++ digit (b % 16)

abbrev pub escaped : List ℕ → List ℕ
escaped [] = []
escaped (b ∷ text) = escape b ++ escaped text

-- a text in quotes
abbrev pub quoted : List ℕ → List ℕ
quoted text = codes "\"" ++ escaped text ++ codes "\""

-- ---- members

-- a member of an object, with a comma behind it
abbrev pub field_text : List ℕ → List ℕ → List ℕ
field_text name v = quoted name ++ codes ":" ++ v ++ codes ","

abbrev pub fields_text : List (List ℕ × List ℕ) → List ℕ
fields_text [] = []
fields_text (f ∷ fields) = field_text f.0 f.1 ++ fields_text fields

-- a member for the line of a script, if there is one
abbrev pub source_text : List ℕ → List ℕ
source_text [] = []
source_text (b ∷ source) = codes ",\"script\":" ++ quoted (b ∷ source)

-- the last member of an event, which is an object: a member, and that of the line of a script
abbrev pub arguments_text : List ℕ → List ℕ → List ℕ → List ℕ
arguments_text name words source = codes "\"args\":{" ++ quoted name ++ codes ":" ++ quoted words ++ source_text source ++ codes "}"

-- ---- what happens

-- a slice
abbrev pub slice_fields : ℕ → ℕ → List (List ℕ × List ℕ)
slice_fields from lasts =
    (codes "ph", quoted (codes "X")) ∷ ((codes "ts", decimal from) ∷ ((codes "dur", decimal lasts) ∷ []))

-- an instant of a track
abbrev pub instant_fields : ℕ → List (List ℕ × List ℕ)
instant_fields at = (codes "ph", quoted (codes "i")) ∷ ((codes "s", quoted (codes "t")) ∷ ((codes "ts", decimal at) ∷ []))

-- the beginning of an arrow
abbrev pub leaving_fields : ℕ → ℕ → List (List ℕ × List ℕ)
leaving_fields at flow = (codes "ph", quoted (codes "s")) ∷ ((codes "id", decimal flow) ∷ ((codes "ts", decimal at) ∷ []))

-- the end of an arrow
abbrev pub arriving_fields : ℕ → ℕ → List (List ℕ × List ℕ)
arriving_fields at flow =
    (codes "ph", quoted (codes "f")) ∷ ((codes "bp", quoted (codes "e")) ∷ ((codes "id", decimal flow)
    ∷ ((codes "ts", decimal at) ∷ [])))

-- what names a track
abbrev pub naming_fields : List (List ℕ × List ℕ)
naming_fields = (codes "ph", quoted (codes "M")) ∷ []
