-- How many offers stand up to a place, by one look: at the index of a number, more than so many stand up to the place
-- exactly where an offer stands there whose place is no higher.
use Rattle.std.specs.Prelude.{◌≡◌, ℕ, zero, suc, ◌+◌, ◌<◌, ◌≤◌, nat_le, Bool, true, false, cond, List, [], ◌∷◌, length, Some, None, slice_get, refl}
use Rattle.std.proofs.Common.{sym, subst, arith}
use Rattle.std.proofs.lemmas.Bool.Decides.{nat_tests}
use Rattle.channel_model.specs.declared.standing.Standing.{Standing}
use Rattle.channel_model.specs.Owing.{offers_up_to}
use Rattle.channel_model.proofs.InOrder.{OffersAscend}

at_most_one : (b : Bool) (n m : ℕ) → n ≤ m → cond b 1 0 + n ≤ suc m
at_most_one true n m h = omega arith
at_most_one false n m h = omega arith

-- above the place none stands
none_up_to : (mine p next : ℕ) (q : List Standing) → mine < p → OffersAscend p next q → offers_up_to mine q ≡ 0
none_up_to mine p next [] h b = refl
none_up_to mine p next (o ∷ os) h b = not_counted (nat_le o.place mine) _ (above o.place (let k = b.0 in omega arith))
    (none_up_to mine (o.place + 1) next os (let k = b.0 in omega arith) b.1)
  where
    above : (x : ℕ) → mine < x → nat_le x mine ≡ false
    above x h = grind (arith, nat_tests)

    not_counted : (b : Bool) (n : ℕ) → b ≡ false → n ≡ 0 → cond b 1 0 + n ≡ 0
    not_counted true n e f = cc
    not_counted false n e f = omega arith

pub at_most_length : (mine : ℕ) (q : List Standing) → offers_up_to mine q ≤ length q
at_most_length mine [] = omega arith
at_most_length mine (o ∷ os) = at_most_one (nat_le o.place mine) _ (length os) (at_most_length mine os)

-- nothing stands at the index
pub few_stand : (mine k : ℕ) (q : List Standing) → slice_get q k ≡ None → offers_up_to mine q ≤ k
few_stand mine k [] e = omega arith
few_stand mine zero (o ∷ os) e = cc
few_stand mine (suc k) (o ∷ os) e = at_most_one (nat_le o.place mine) _ k (few_stand mine k os e)

-- what stands at the index came later
pub later_stands : (mine p next k : ℕ) (q : List Standing) (o : Standing) → OffersAscend p next q → slice_get q k ≡ Some o → mine < o.place
    → offers_up_to mine q ≤ k
later_stands mine p next k [] o b e h = cc
later_stands mine p next zero (x ∷ xs) o b e h =
    let is : x ≡ o = cc in
    let above : mine < x.place = subst (λ (y : Standing). mine < y.place) (sym is) h in
    let none : offers_up_to mine (x ∷ xs) ≡ 0 = none_up_to mine x.place next (x ∷ xs) above (omega arith, b.1) in
    omega (arith, none)
later_stands mine p next (suc k) (x ∷ xs) o b e h = at_most_one (nat_le x.place mine) _ k
    (later_stands mine (x.place + 1) next k xs o b.1 e h)

-- what stands at the index came no later, and so did all before it
pub more_stand : (mine p next k : ℕ) (q : List Standing) (o : Standing) → OffersAscend p next q → slice_get q k ≡ Some o → o.place ≤ mine
    → (k < offers_up_to mine q) × (p ≤ o.place)
more_stand mine p next k [] o b e h = cc
more_stand mine p next zero (x ∷ xs) o b e h =
    let is : x ≡ o = cc in
    let low : x.place ≤ mine = subst (λ (y : Standing). y.place ≤ mine) (sym is) h in
    (counted (nat_le x.place mine) _ (within x.place low), subst (λ (y : Standing). p ≤ y.place) is b.0)
  where
    within : (x : ℕ) → x ≤ mine → nat_le x mine ≡ true
    within x h = grind (arith, nat_tests)

    counted : (b : Bool) (n : ℕ) → b ≡ true → 0 < cond b 1 0 + n
    counted true n e = omega arith
    counted false n e = cc
more_stand mine p next (suc k) (x ∷ xs) o b e h =
    let r = more_stand mine (x.place + 1) next k xs o b.1 e h in
    (counted (nat_le x.place mine) _ (within x.place (omega (arith, r.1))) r.0, omega (arith, r.1, b.0))
  where
    within : (x : ℕ) → x ≤ mine → nat_le x mine ≡ true
    within x h = grind (arith, nat_tests)

    counted : (b : Bool) (n : ℕ) → b ≡ true → k < n → suc k < cond b 1 0 + n
    counted true n e h = omega arith
    counted false n e h = cc
