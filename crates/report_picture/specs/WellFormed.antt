-- Well-formed texts of markup: every element is closed, and every text is escaped.
use Rattle.std.specs.Prelude.{◌≡◌, ℕ, List, [], ◌∷◌, ◌++◌, Bool, true, ◌&&◌, nat_le}
use Rattle.std.specs.List.{list_all}
use lib.Chars.{codes}
use Rattle.report_picture.specs.Elements.{escaped}

abbrev pub is_letter : ℕ → Bool
is_letter b = nat_le 97 b && nat_le b 122

-- the name of an element or of an attribute: lower-case letters
abbrev pub IsName : List ℕ → Type 0
IsName [] = ⊥
IsName (b ∷ name) = list_all is_letter (b ∷ name) ≡ true

-- attributes, each with its value in quotes
pub data Attributes : List ℕ → Type 0 where
  no_more : Attributes []
  attribute : (name value rest : List ℕ) → IsName name → Attributes rest
      → Attributes (codes " " ++ name ++ codes "=\"" ++ escaped value ++ codes "\"" ++ rest)

-- what stands in an element: texts without markup, and elements, each from its opening to its closing
pub data Content : List ℕ → Type 0 where
  no_content : Content []
  words_then : (words rest : List ℕ) → Content rest → Content (escaped words ++ rest)
  element_then : (name attributes inner rest : List ℕ) → IsName name → Attributes attributes → Content inner → Content rest
      → Content (codes "<" ++ name ++ attributes ++ codes ">" ++ inner ++ codes "</" ++ name ++ codes ">" ++ rest)

-- a document of one element, with a line feed behind it
pub record IsDocument (name document : List ℕ) : Type 0 where
  pub attributes : List ℕ
  pub inner : List ℕ
  pub is_name : IsName name
  pub well_attributed : Attributes attributes
  pub well_formed : Content inner
  pub is_whole : document ≡ codes "<" ++ name ++ attributes ++ codes ">" ++ inner ++ codes "</" ++ name ++ codes ">\n"
