-- What is added to a text that remembers whether memory ran out.
use Rattle.std.specs.Prelude.{◌≡◌, ℕ, false, List, ◌++◌, string_bytes}
use Rattle.run_report.specs.declared.gathered.Gathered.{Gathered}

-- this stands behind the old text, if memory has held the new one; then it has held the old one too
pub record Adds (old new : Gathered) (more : List ℕ) : Type 0 where
  pub held : new.full ≡ false → old.full ≡ false
  pub behind : new.full ≡ false → string_bytes new.text ≡ string_bytes old.text ++ more

-- the same of all that is to stand behind the old text, where the rest is still to be added
pub record GoesOn (old new : Gathered) (rest all : List ℕ) : Type 0 where
  pub held : new.full ≡ false → old.full ≡ false
  pub behind : new.full ≡ false → string_bytes new.text ++ rest ≡ string_bytes old.text ++ all
