-- Texts in markup: attributes, titles, and the ends of elements.
use Rattle.std.specs.Prelude.{ℕ, List, [], ◌∷◌, ◌++◌, ◌==◌, if◌then◌else◌}
use lib.Chars.{codes}
use Rattle.picture_parts.specs.LineWords.{word}

-- ---- texts

-- a byte of a text that is no markup
abbrev pub escape : ℕ → List ℕ
escape b =
    if b == 60 then codes "&lt;"
    else if b == 62 then codes "&gt;"
    else if b == 38 then codes "&amp;"
    else if b == 34 then codes "&quot;"
    else b ∷ []

-- a text that is no markup
abbrev pub escaped : List ℕ → List ℕ
escaped [] = []
escaped (b ∷ text) = escape b ++ escaped text

-- ---- elements

abbrev pub attribute_text : List ℕ → List ℕ → List ℕ
attribute_text name value = codes " " ++ name ++ codes "=\"" ++ escaped value ++ codes "\""

abbrev pub title_text : List ℕ → List ℕ
title_text [] = []
title_text (b ∷ title) = codes "<title>" ++ escaped (b ∷ title) ++ codes "</title>"

-- what stands behind the attributes, to the end of the element
abbrev pub rest_text : List ℕ → List ℕ → List ℕ → List ℕ
rest_text name title text = codes ">" ++ title_text title ++ escaped text ++ codes "</" ++ name ++ codes ">\n"

-- ---- fates

-- what became of an element, by the line that tells it
abbrev pub fate_of : List ℕ → List ℕ
fate_of line = word 4 line

-- an element that was not received: its channel, its place, its value and its fate, by the line that tells it
abbrev pub fate_label : List ℕ → List ℕ
fate_label line = word 1 line ++ codes "." ++ word 2 line ++ codes ": " ++ word 3 line ++ codes " " ++ fate_of line
