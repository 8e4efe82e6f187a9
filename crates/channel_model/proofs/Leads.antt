-- Which offer is to be admitted next: that behind the buffered ones that lead the queue, and one look at it answers.
use Rattle.std.specs.Prelude.{◌≡◌, ℕ, zero, suc, ◌+◌, ◌≤◌, ◌==◌, nat_lt, Bool, true, false, not, ◌&&◌, ◌||◌, List, [], ◌∷◌, length, take, drop, Some, None, is_some, slice_get, slice_set, refl, if◌then◌else◌, MatchBool}
use Rattle.std.specs.List.{list_all}
use Rattle.std.proofs.Common.{sym, ap, ◌∙◌, subst, arith}
use Rattle.std.proofs.lemmas.Bool.Decides.{nat_tests}
use Rattle.std.proofs.lemmas.Bool.{le-ltb}
use Rattle.channel_model.specs.declared.acts.Kind.{Kind}
use Rattle.channel_model.specs.declared.acts.Kind.TheVariants.{Rendezvous, Buffered, Signal}
use Rattle.channel_model.specs.declared.standing.Standing.{Standing}
use Rattle.channel_model.specs.Channels.{is_full}
use Rattle.channel_model.specs.Effects.{admitted, holder_at}
use Rattle.channel_model.specs.Needs.{MayBeAdmitted}
use Rattle.channel_model.specs.Owing.{is_buffered, owes_admission_below}
use Rattle.channel_model.proofs.InOrder.{OffersAscend}

full_more : (kind : Kind) (n : ℕ) → is_full kind n ≡ true → is_full kind (n + 1) ≡ true
full_more Rendezvous n h = refl
full_more (Buffered k) n h = grind (arith, nat_tests)
full_more Signal n h = refl
full_more other n h = cc

none_here : (a b f r : Bool) → (b && not f) ≡ false → r ≡ false → ((a && (b && not f)) || r) ≡ false
none_here true b f r h k = ap (λ x. x || r) h ∙ k
none_here false b f r h k = k

-- a full queue owes nothing from here on
pub full_owes : (kind : Kind) (mark n : ℕ) (os : List Standing) → is_full kind n ≡ true → owes_admission_below kind mark n os ≡ false
full_owes kind mark n [] h = refl
full_owes kind mark n (o ∷ os) h = none_here (is_some o.holder) (nat_lt o.place mark) (is_full kind n) _
    (closed (nat_lt o.place mark) (is_full kind n) h) (full_owes kind mark (n + 1) os (full_more kind n h))
  where
    closed : (b f : Bool) → f ≡ true → (b && not f) ≡ false
    closed true true h = refl
    closed false f h = refl
    closed true false h = cc

-- nor does a queue that stands at the mark or above
pub above_owes : (kind : Kind) (mark p next n : ℕ) (os : List Standing) → mark ≤ p → OffersAscend p next os
    → owes_admission_below kind mark n os ≡ false
above_owes kind mark p next n [] h a = refl
above_owes kind mark p next n (o ∷ os) h a = none_here (is_some o.holder) (nat_lt o.place mark) (is_full kind n) _
    (ap (λ b. b && not (is_full kind n)) (le-ltb o.place mark (let k = a.0 in omega arith)))
    (above_owes kind mark (o.place + 1) next (n + 1) os (let k = a.0 in omega arith) a.1)

-- buffered offers that lead are owed nothing
pub skip_leading : (kind : Kind) (mark k n : ℕ) (q : List Standing) → list_all is_buffered (take n q) ≡ true → n ≤ length q
    → owes_admission_below kind mark k q ≡ owes_admission_below kind mark (k + n) (drop n q)
skip_leading kind mark k zero q e h = ap (λ m. owes_admission_below kind mark m q) (no_more k)
  where
    no_more : (k : ℕ) → k ≡ k + 0
    no_more k = omega arith
skip_leading kind mark k (suc n) [] e h = absurd (omega arith)
skip_leading kind mark k (suc n) (o ∷ os) e h =
    let b : is_some o.holder ≡ false = held (is_some o.holder) _ e in
    let rest : list_all is_buffered (take n os) ≡ true = tail (is_some o.holder) _ e in
    ap (λ b. (b && (nat_lt o.place mark && not (is_full kind k))) || owes_admission_below kind mark (k + 1) os) b
    ∙ skip_leading kind mark (k + 1) n os rest (omega arith)
    ∙ ap (λ m. owes_admission_below kind mark m (drop n os)) (one_more k n)
  where
    held : (b r : Bool) → (not b && r) ≡ true → b ≡ false
    held true r e = cc
    held false r e = refl

    tail : (b r : Bool) → (not b && r) ≡ true → r ≡ true
    tail true r e = cc
    tail false r e = e

    one_more : (k n : ℕ) → k + 1 + n ≡ k + suc n
    one_more k n = omega arith

-- what stands from an index on
pub drop_past : (q : List Standing) (i : ℕ) → slice_get q i ≡ None → drop i q ≡ []
drop_past [] zero e = refl
drop_past [] (suc i) e = refl
drop_past (x ∷ xs) zero e = cc
drop_past (x ∷ xs) (suc i) e = drop_past xs i e

pub between_from : (q : List Standing) (p next i : ℕ) (o : Standing) → OffersAscend p next q → slice_get q i ≡ Some o
    → OffersAscend o.place next (drop i q)
between_from [] p next i o b e = cc
between_from (x ∷ xs) p next zero o b e =
    let k : x ≡ o = cc in
    subst (λ (y : Standing). OffersAscend y.place next (x ∷ xs)) k (omega arith, b.1)
between_from (x ∷ xs) p next (suc i) o b e = between_from xs (x.place + 1) next i o b.1 e

-- ---- one look answers

-- no offer stands behind the buffered ones
pub none_stands : (kind : Kind) (mark n : ℕ) (q : List Standing) → list_all is_buffered (take n q) ≡ true → n ≤ length q
    → slice_get q n ≡ None → owes_admission_below kind mark 0 q ≡ false
none_stands kind mark n q e h k = skip_leading kind mark 0 n q e h ∙ ap (owes_admission_below kind mark (0 + n)) (drop_past q n k)

-- the channel keeps no more than these
pub none_fits : (kind : Kind) (mark n : ℕ) (q : List Standing) → list_all is_buffered (take n q) ≡ true → n ≤ length q
    → is_full kind n ≡ true → owes_admission_below kind mark 0 q ≡ false
none_fits kind mark n q e h full = skip_leading kind mark 0 n q e h
    ∙ full_owes kind mark (0 + n) (drop n q) (ap (is_full kind) (same n) ∙ full)
  where
    same : (n : ℕ) → 0 + n ≡ n
    same n = omega arith

-- the next came after the mark, and so did all behind it
pub none_below : (kind : Kind) (mark next n : ℕ) (q : List Standing) (o : Standing) → OffersAscend 0 next q
    → list_all is_buffered (take n q) ≡ true → n ≤ length q → slice_get q n ≡ Some o → mark ≤ o.place
    → owes_admission_below kind mark 0 q ≡ false
none_below kind mark next n q o b e h k above = skip_leading kind mark 0 n q e h
    ∙ above_owes kind mark o.place next (0 + n) (drop n q) above (between_from q 0 next n o b k)

-- ---- the offer at an index, by its place

-- those before it have other places
other_place : (x o : Standing) (xs : List Standing) (next i : ℕ) → OffersAscend (x.place + 1) next xs → slice_get xs i ≡ Some o
    → (x.place == o.place) ≡ false
other_place x o xs next i b e = grind (arith, nat_tests, later xs (x.place + 1) i b e)
  where
    later : (q : List Standing) (p i : ℕ) → OffersAscend p next q → slice_get q i ≡ Some o → p ≤ o.place
    later [] p i b e = cc
    later (y ∷ ys) p zero b e = let k : y ≡ o = cc in subst (λ (z : Standing). p ≤ z.place) k b.0
    later (y ∷ ys) p (suc i) b e = omega (arith, later ys (y.place + 1) i b.1 e, b.0)

same_place : (x o : Standing) → x ≡ o → (x.place == o.place) ≡ true
same_place x o e = grind (arith, nat_tests, ap (λ (y : Standing). y.place) e)

-- it alone is freed of its holder
pub admitted_is : (q : List Standing) (p next i : ℕ) (o : Standing) → OffersAscend p next q → slice_get q i ≡ Some o
    → admitted o.place q ≡ slice_set q i (record o { holder = None })
admitted_is [] p next i o b e = cc
admitted_is (x ∷ xs) p next zero o b e =
    let k : x ≡ o = cc in
    ap (λ t. if t then record x { holder = None } ∷ xs else x ∷ admitted o.place xs) (same_place x o k)
    ∙ ap (λ (y : Standing). record y { holder = None } ∷ xs) k
admitted_is (x ∷ xs) p next (suc i) o b e =
    ap (λ t. if t then record x { holder = None } ∷ xs else x ∷ admitted o.place xs) (other_place x o xs next i b.1 e)
    ∙ ap (λ ys. x ∷ ys) (admitted_is xs (x.place + 1) next i o b.1 e)

pub holder_is : (q : List Standing) (p next i : ℕ) (o : Standing) → OffersAscend p next q → slice_get q i ≡ Some o
    → holder_at o.place q ≡ o.holder
holder_is [] p next i o b e = cc
holder_is (x ∷ xs) p next zero o b e =
    let k : x ≡ o = cc in
    ap (λ t. if t then x.holder else holder_at o.place xs) (same_place x o k) ∙ ap (λ (y : Standing). y.holder) k
holder_is (x ∷ xs) p next (suc i) o b e =
    ap (λ t. if t then x.holder else holder_at o.place xs) (other_place x o xs next i b.1 e) ∙ holder_is xs (x.place + 1) next i o b.1 e

-- it may be admitted, where it is held and so many before it leave room
pub may_be_admitted : (kind : Kind) (q : List Standing) (p next n i : ℕ) (o : Standing) → OffersAscend p next q → slice_get q i ≡ Some o
    → is_some o.holder ≡ true → is_full kind (n + i) ≡ false → MayBeAdmitted kind o.place n q
may_be_admitted kind [] p next n i o b e held room = cc
may_be_admitted kind (x ∷ xs) p next n zero o b e held room =
    let k : x ≡ o = cc in
    let P : Bool → Type 0 = λ t. MatchBool t ((is_some x.holder ≡ true)
    × (is_full kind n ≡ false)) (MayBeAdmitted kind o.place (n + 1) xs) in
    subst P (sym (same_place x o k)) (ap (λ (y : Standing). is_some y.holder) k ∙ held, ap (is_full kind) (no_more n) ∙ room)
  where
    no_more : (n : ℕ) → n ≡ n + 0
    no_more n = omega arith
may_be_admitted kind (x ∷ xs) p next n (suc i) o b e held room =
    let P : Bool → Type 0 = λ t. MatchBool t ((is_some x.holder ≡ true)
    × (is_full kind n ≡ false)) (MayBeAdmitted kind o.place (n + 1) xs) in
    subst P (sym (other_place x o xs next i b.1 e)) (may_be_admitted kind xs (x.place + 1) next (n + 1) i o b.1 e held
    (ap (is_full kind) (one_more n i) ∙ room))
  where
    one_more : (n i : ℕ) → n + 1 + i ≡ n + suc i
    one_more n i = omega arith
