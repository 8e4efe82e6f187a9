-- Well-formed JSON: every text is in quotes and escaped, and what is opened is closed.
use Rattle.std.specs.Prelude.{ℕ, List, [], ◌++◌}
use Rattle.std.specs.Fmt.{decimal}
use lib.Chars.{codes}
pub use Rattle.picture_parts.specs.Members.{quoted}

-- a value, the members of an object, or the elements of an array
pub data Kind : Type 0 where
  value : Kind
  members : Kind
  elements : Kind

-- a well-formed text of this kind
pub data Json : Kind → List ℕ → Type 0 where
  number : (n : ℕ) → Json value (decimal n)
  text : (t : List ℕ) → Json value (quoted t)
  object : (ms : List ℕ) → Json members ms → Json value (codes "{" ++ ms ++ codes "}")
  array : (es : List ℕ) → Json elements es → Json value (codes "[\n" ++ es ++ codes "]")
  no_member : Json members []
  last_member : (name v : List ℕ) → Json value v → Json members (quoted name ++ codes ":" ++ v)
  member_then : (name v ms : List ℕ) → Json value v → Json members ms → Json members (quoted name ++ codes ":" ++ v ++ codes "," ++ ms)
  no_element : Json elements []
  last_element : (v : List ℕ) → Json value v → Json elements (v ++ codes "\n")
  element_then : (v es : List ℕ) → Json value v → Json elements es → Json elements (v ++ codes ",\n" ++ es)
