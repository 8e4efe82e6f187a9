-- What it comes to to remove the element of an offer.
use Rattle.std.specs.Prelude.{ℕ, ◌+◌, Option, Some, None}
use Rattle.channel_model.specs.Laws.{NoneBelow}
use Rattle.cell_words.specs.declared.found.Removal.{Removal}
use Rattle.cell_words.specs.Seen.{Seen, Sees, at_channel}
use Rattle.cell_words.specs.Answers.{RemovesFrom}

-- it was removed, after what was looked at
pub record RemovedFirst (by : Removal) (who c p v : ℕ) (t : Option ℕ) (old new : Seen) : Type 0 where
  pub then : Seen
  pub sees : Sees old then
  pub removes : RemovesFrom by who c p v t then new

-- or no offer stands up to here
abbrev pub RemovedAt : Removal → ℕ → ℕ → ℕ → ℕ → Seen → Seen → Option (Option ℕ) → Type 0
RemovedAt by who c p v old new (Some t) = RemovedFirst by who c p v t old new
RemovedAt by who c p v old new None = Sees old new × NoneBelow 0 (p + 1) (at_channel new.seen c)
