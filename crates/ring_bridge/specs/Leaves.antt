-- Who gives its wait up.
use Rattle.std.specs.Prelude.{ℕ}
use Rattle.ring_channel.specs.declared.act.RingSide.{RingSide}
use Rattle.ring_channel.specs.declared.answers.Called.{Called}
use Rattle.ring_channel.specs.Seen.{Seen}
use Rattle.ring_channel.specs.Looks.{CallAnswer}

module _ {T : Type 0} where
  -- it waits no more on this side, and named another in its place
  abbrev pub LeftBy : ℕ → ℕ → RingSide → Seen T → Seen T → Type 0
  LeftBy n who d v w = (called : Called) × CallAnswer n who d v w called
