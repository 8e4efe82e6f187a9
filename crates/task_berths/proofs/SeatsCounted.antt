-- How many seats have not ended.
use Rattle.std.proofs.Common.{◌≡◌, ℕ, zero, suc, ◌+◌, Bool, true, false, List, [], ◌∷◌, ◌++◌, set, sym, refl, ap, ◌∙◌, arith}
use mathlib.Core.Option.{some, some-injective, some-ne-none}
use mathlib.Core.Logic.{dite}
use native.Mathlib.Decide.{ℕ_discrete}
use lib.ListN.{get_elem?}
use Rattle.atomic_table.proofs.Lists.{set_else}
use Rattle.task_berths.specs.declared.rule.SeatView.{SeatView}
use Rattle.task_berths.specs.Views.{count_if, live_count, spent_view, takes_made}

pub live_same : (vs : List SeatView) (id : ℕ) (v w : SeatView) → get_elem? vs id ≡ some v → w.live ≡ v.live
    → live_count (set vs id w) ≡ live_count vs
live_same [] id v w at e = refl
live_same (x ∷ xs) zero v w at e = ap (λ b. count_if b (live_count xs)) (e ∙ sym (ap (λ (z : SeatView). z.live) (some-injective x v at)))
live_same (x ∷ xs) (suc id) v w at e = ap (count_if x.live) (live_same xs id v w at e)

count_up : (b : Bool) (n m : ℕ) → n ≡ suc m → count_if b n ≡ suc (count_if b m)
count_up true n m e = ap suc e
count_up false n m e = e

pub live_spent : (vs : List SeatView) (id : ℕ) (v w : SeatView) → get_elem? vs id ≡ some v → v.live ≡ true → w.live ≡ false
    → live_count vs ≡ suc (live_count (set vs id w))
live_spent [] id v w at live dead = absurd (some-ne-none v (sym at))
live_spent (x ∷ xs) zero v w at live dead = ap (λ b. count_if b (live_count xs)) (ap (λ (z : SeatView). z.live) (some-injective x v at)
    ∙ live) ∙ sym (ap (λ b. suc (count_if b (live_count xs))) dead)
live_spent (x ∷ xs) (suc id) v w at live dead = count_up x.live (live_count xs) (live_count (set xs id w))
    (live_spent xs id v w at live dead)

pub live_added : (vs : List SeatView) (w : SeatView) → w.live ≡ true → live_count (vs ++ w ∷ []) ≡ suc (live_count vs)
live_added [] w live = ap (λ b. count_if b 0) live
live_added (x ∷ xs) w live = count_up x.live (live_count (xs ++ w ∷ [])) (live_count xs) (live_added xs w live)

-- the only seat that has not ended
pub live_one : (vs : List SeatView) (id j : ℕ) (v w : SeatView) → live_count vs ≡ 1 → get_elem? vs id ≡ some v → v.live ≡ true
    → get_elem? vs j ≡ some w → w.live ≡ true → j ≡ id
live_one vs id j v w one at live at' live' = dite (ℕ_discrete j id) (λ e. e) (λ ne.
    let a = live_spent vs id v spent_view at live refl in
    let b = live_spent (set vs id spent_view) j w spent_view (set_else vs id j spent_view ne ∙ at') live' refl in
    absurd (omega (arith, a, b, one)))

pub takes_set : (vs : List SeatView) (id : ℕ) (v w : SeatView) → get_elem? vs id ≡ some v
    → takes_made (set vs id w) + v.takes ≡ takes_made vs + w.takes
takes_set [] id v w at = absurd (some-ne-none v (sym at))
takes_set (x ∷ xs) zero v w at = omega (arith, ap (λ (z : SeatView). z.takes) (some-injective x v at))
takes_set (x ∷ xs) (suc id) v w at = let q = takes_set xs id v w at in omega (arith, q)

pub takes_added : (vs : List SeatView) (w : SeatView) → takes_made (vs ++ w ∷ []) ≡ takes_made vs + w.takes
takes_added [] w = omega arith
takes_added (x ∷ xs) w = let q = takes_added xs w in omega (arith, q)
