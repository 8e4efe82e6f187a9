-- What is added to a text that remembers whether memory ran out.
use Rattle.std.specs.Prelude.{◌≡◌, ℕ, true, false, List, ◌++◌}
use Rattle.gathered.specs.declared.text.Text.{Text}

-- this stands behind the old text, if memory has held the new one; then it has held the old one too
pub record Adds (old new : Text) (more : List ℕ) : Type 0 where
  pub held : new.full ≡ false → old.full ≡ false
  pub behind : new.full ≡ false → new.bytes.items ≡ old.bytes.items ++ more

-- the same of all that is to stand behind the old text, where the rest is still to be added
pub record GoesOn (old new : Text) (rest all : List ℕ) : Type 0 where
  pub held : new.full ≡ false → old.full ≡ false
  pub behind : new.full ≡ false → new.bytes.items ++ rest ≡ old.bytes.items ++ all

-- a piece is missing, of which nothing stands in the text
abbrev pub IsMissing : Text → Text → Type 0
IsMissing old new = (new.full ≡ true) × (new.bytes.items ≡ old.bytes.items)
