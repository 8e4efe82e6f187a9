-- How an element is removed.
use Rattle.std.specs.Prelude.{◌≡◌, ℕ}
use Rattle.channel_model.specs.declared.acts.Act.{Act}
use Rattle.channel_model.specs.declared.acts.Act.TheVariants.{Take, Drop, Spurn, Drain}
use Rattle.channel_model.specs.declared.standing.Resolution.{Resolution}
use Rattle.channel_model.specs.declared.standing.Resolution.TheVariants as resolved
use Rattle.cell_words.specs.declared.found.Removal.{Removal}
use Rattle.cell_words.specs.declared.found.Removal.TheVariants as removal

-- the act
abbrev pub removal_act : Removal → ℕ → ℕ → ℕ → Act
removal_act removal.Take c p v = Take c p v
removal_act removal.Drop c p v = Drop c p v
removal_act removal.Spurn c p v = Spurn c p v
removal_act removal.Drain c p v = Drain c p v

pub record IsRemovalAt (c p : ℕ) (act : Act) : Type 0 where
  pub by : Removal
  pub value : ℕ
  pub is : act ≡ removal_act by c p value

-- how it resolves the wait of an offer; a drop and a spurn meet none that waits
abbrev pub how_removed : Removal → ℕ → Resolution
how_removed removal.Take k = resolved.Taken k
how_removed removal.Drop k = resolved.Voided
how_removed removal.Spurn k = resolved.Voided
how_removed removal.Drain k = resolved.Voided
