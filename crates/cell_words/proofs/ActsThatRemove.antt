-- The acts that empty a cell.
use Rattle.std.proofs.Common.{◌≡◌, ℕ, true, arith}
use Rattle.std.proofs.lemmas.Bool.Decides.{nat_tests}
use Rattle.channel_model.specs.declared.acts.Act.{Act}
use Rattle.channel_model.specs.declared.acts.Act.TheVariants.{Take, Drop, Spurn, Drain}
use Rattle.channel_model.specs.Fates.{removes, is_at}
use Rattle.cell_words.specs.declared.found.Removal.{Removal}
use Rattle.cell_words.specs.declared.found.Removal.TheVariants as removal
use Rattle.cell_words.specs.Removals.{removal_act, IsRemovalAt}

same_place : (c p : ℕ) → is_at c p c p ≡ true
same_place c p = grind (arith, nat_tests)

at_place : (c p d q : ℕ) → is_at c p d q ≡ true → (d ≡ c) × (q ≡ p)
at_place c p d q e = (grind (arith, nat_tests), grind (arith, nat_tests))

pub removing_removes : (by : Removal) (c p v : ℕ) → removes c p (removal_act by c p v) ≡ true
removing_removes removal.Take c p v = same_place c p
removing_removes other c p v = same_place c p

pub removes_only : (act : Act) (c p : ℕ) → removes c p act ≡ true → IsRemovalAt c p act
removes_only (Take d q v) c p e = let h = at_place c p d q e in record { by = removal.Take; value = v; is = λ i. Take (h.0 i) (h.1 i) v }
removes_only (Drop d q v) c p e = let h = at_place c p d q e in record { by = removal.Drop; value = v; is = λ i. Drop (h.0 i) (h.1 i) v }
removes_only (Spurn d q v) c p e = let h = at_place c p d q e in record { by = removal.Spurn; value = v; is = λ i. Spurn (h.0 i) (h.1 i) v }
removes_only (Drain d q v) c p e = let h = at_place c p d q e in record { by = removal.Drain; value = v; is = λ i. Drain (h.0 i) (h.1 i) v }
removes_only other c p e = cc
