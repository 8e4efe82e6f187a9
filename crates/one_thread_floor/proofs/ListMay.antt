-- Which acts may come now, by the lists.
use Rattle.std.specs.Prelude.{◌≡◌, ℕ, zero, suc, ◌+◌, ◌<◌, ◌≤◌, ◌==◌, nat_le, nat_lt, Bool, true, false, not, ◌&&◌, List, [], ◌∷◌, length, Option, Some, None, is_some, slice_get, refl, IfSome, if◌then◌else◌}
use Rattle.std.proofs.Common.{get_or, sym, ap, ◌∙◌, subst, arith, ne_eqb}
use Rattle.std.proofs.lemmas.Bool.Decides.{nat_tests}
use Rattle.std.proofs.lemmas.Option.{slice_get-get_or, get_or_from_slice_get}
use Rattle.std.proofs.lemmas.Bool.{or_parts}
use Rattle.channel_model.specs.declared.acts.Act.{Act}
use Rattle.channel_model.specs.declared.acts.Entry.{Entry}
use Rattle.channel_model.specs.declared.acts.Kind.{Kind}
use Rattle.channel_model.specs.declared.standing.Receiver.{Receiver}
use Rattle.channel_model.specs.declared.standing.Standing.{Standing}
use Rattle.channel_model.specs.Channels.{Shape, State, Channel, is_full}
use Rattle.channel_model.specs.Effects.{after}
use Rattle.channel_model.specs.Needs.{Needs}
use Rattle.channel_model.specs.Steps.{stands_none, gives_place, is_offer_at, is_admissible, may_come}
use Rattle.channel_model.proofs.InOrder.{OffersAscend}
use Rattle.channel_model.proofs.Stepped.{step_taken}
use Rattle.one_thread_floor.specs.declared.list_channel.ListChannel.{ListChannel}
use Rattle.one_thread_floor.specs.declared.list_may.Admission.{Admission}
use Rattle.one_thread_floor.specs.ListStands.{IsAt, IsBehind, stands_behind}
use Rattle.one_thread_floor.specs.ListSteps.{AreOf, state_in}
use Rattle.one_thread_floor.proofs.ListEntries.{at_state}

-- ---- needs as tests

chosen : {A : Type 0} (b : Bool) (x y : A) → (if b then Some x else None) ≡ Some y → b ≡ true
chosen true x y e = refl
chosen false x y e = cc

pub needs_of : (shape : Shape) (s : State) (who : ℕ) (act : Act) → may_come shape s who act ≡ true → Needs shape s who act
needs_of shape s who act e =
    let e1 : Entry = record { who = who; act = act } in
    ((step_taken shape s (after s who act) e1).0 (ap (λ b. if b then Some (after s who act) else None) e)).0

pub may_of : (shape : Shape) (s : State) (who : ℕ) (act : Act) → Needs shape s who act → may_come shape s who act ≡ true
may_of shape s who act h =
    let e1 : Entry = record { who = who; act = act } in
    chosen (may_come shape s who act) (after s who act) (after s who act) ((step_taken shape s (after s who act) e1).1 (h, refl))

-- the lists are those of the state
pub may_at : (shape : Shape) (xs : List ListChannel) (s : State) (who : ℕ) (act : Act) → IsAt shape xs s
    → may_come shape (state_in s.stood xs) who act ≡ may_come shape s who act
may_at shape xs s who act at = ap (λ (t : State). may_come shape t who act) (sym (at_state shape xs s at))

-- what an act needs that may come by the lists
pub told_needs : (shape : Shape) (xs : List ListChannel) (s : State) (who : ℕ) (act : Act) → IsAt shape xs s
    → true ≡ may_come shape (state_in s.stood xs) who act → Needs shape s who act
told_needs shape xs s who act at e = needs_of shape s who act (sym (e ∙ may_at shape xs s who act at))

pub are_of : (shape : Shape) (xs : List ListChannel) (s : State) → IsAt shape xs s → AreOf shape xs
are_of shape xs s at = record { count = at.count; places = at.places }

-- ---- who stands first

-- ---- an offer at a place

-- none stands there
not_there : (p n : ℕ) (o : Standing) → ((o.place == p) && nat_le 0 n) ≡ false → (o.place == p) ≡ false
not_there p n o e = drop_true (o.place == p) (nat_le 0 n) (let k : nat_le 0 n ≡ true = grind (arith, nat_tests) in k) e
  where
    drop_true : (a b : Bool) → b ≡ true → (a && b) ≡ false → a ≡ false
    drop_true true true e f = cc
    drop_true true false e f = cc
    drop_true false b e f = refl

pub none_admissible : (kind : Kind) (p n : ℕ) (q : List Standing) → stands_behind 0 p n q ≡ false → is_admissible kind p n q ≡ false
none_admissible kind p n [] e = refl
none_admissible kind p n (o ∷ os) e =
    let k = or_parts ((o.place == p) && nat_le 0 n) _ e in
    ap (λ b. if b then is_some o.holder && not (is_full kind n) else is_admissible kind p (n + 1) os) (not_there p n o k.0)
    ∙ none_admissible kind p (n + 1) os k.1

pub none_at : (p v n : ℕ) (q : List Standing) → stands_behind 0 p n q ≡ false → is_offer_at p v q ≡ false
none_at p v n [] e = refl
none_at p v n (o ∷ os) e =
    let k = or_parts ((o.place == p) && nat_le 0 n) _ e in
    ap (λ b. if b then o.value == v else is_offer_at p v os) (not_there p n o k.0) ∙ none_at p v (n + 1) os k.1

-- one stands there
later_place : (a m i : ℕ) (q : List Standing) (o : Standing) → OffersAscend a m q → slice_get q i ≡ Some o → a ≤ o.place
later_place a m i [] o h e = cc
later_place a m zero (x ∷ xs) o h e = let k : x ≡ o = cc in subst (λ (y : Standing). a ≤ y.place) k h.0
later_place a m (suc i) (x ∷ xs) o h e =
    let k = later_place (x.place + 1) m i xs o h.1 e in let l = h.0 in omega arith

same_place : (x o : Standing) → x ≡ o → (x.place == o.place) ≡ true
same_place x o e = subst (λ (y : Standing). (x.place == y.place) ≡ true) e (let k : (x.place == x.place) ≡ true = grind (arith, nat_tests)
    in k)

other_place : (a m i : ℕ) (xs : List Standing) (x o : Standing) → OffersAscend (x.place + 1) m xs → slice_get xs i ≡ Some o
    → (x.place == o.place) ≡ false
other_place a m i xs x o h e = let k = later_place (x.place + 1) m i xs o h e in ne_eqb x.place o.place (λ f. omega (arith, f, k))

pub admissible_at : (kind : Kind) (a m n i : ℕ) (q : List Standing) (o : Standing) → OffersAscend a m q → slice_get q i ≡ Some o
    → is_admissible kind o.place n q ≡ (is_some o.holder && not (is_full kind (n + i)))
admissible_at kind a m n i [] o h e = cc
admissible_at kind a m n zero (x ∷ xs) o h e =
    let k : x ≡ o = cc in
    ap (λ b. if b then is_some x.holder && not (is_full kind n) else is_admissible kind o.place (n + 1) xs) (same_place x o k)
    ∙ ap (λ (y : Standing). is_some y.holder && not (is_full kind n)) k
    ∙ ap (λ j. is_some o.holder && not (is_full kind j)) (no_more n)
  where
    no_more : (n : ℕ) → n ≡ n + 0
    no_more n = omega arith
admissible_at kind a m n (suc i) (x ∷ xs) o h e =
    ap (λ b. if b then is_some x.holder && not (is_full kind n) else is_admissible kind o.place (n + 1) xs) (other_place a m i xs x o h.1 e)
    ∙ admissible_at kind (x.place + 1) m (n + 1) i xs o h.1 e
    ∙ ap (λ j. is_some o.holder && not (is_full kind j)) (one_more n i)
  where
    one_more : (n i : ℕ) → n + 1 + i ≡ n + suc i
    one_more n i = omega arith

pub offer_at_index : (a m v i : ℕ) (q : List Standing) (o : Standing) → OffersAscend a m q → slice_get q i ≡ Some o
    → is_offer_at o.place v q ≡ (o.value == v)
offer_at_index a m v i [] o h e = cc
offer_at_index a m v zero (x ∷ xs) o h e =
    let k : x ≡ o = cc in
    ap (λ b. if b then x.value == v else is_offer_at o.place v xs) (same_place x o k) ∙ ap (λ (y : Standing). y.value == v) k
offer_at_index a m v (suc i) (x ∷ xs) o h e =
    ap (λ b. if b then x.value == v else is_offer_at o.place v xs) (other_place a m i xs x o h.1 e)
    ∙ offer_at_index (x.place + 1) m v i xs o h.1 e

-- ---- waits

-- ---- several tests at once

pub less_told : (m n : ℕ) → m < n → nat_lt m n ≡ true
less_told m n h = grind (arith, nat_tests)

pub one_more : (a d : Bool) → a ≡ true → d ≡ (a && d)
one_more true d e = refl
one_more false d e = cc

pub three_more : (a b c d : Bool) → a ≡ true → b ≡ true → c ≡ true → d ≡ (a && (b && (c && d)))
three_more a b c d e f g = one_more c d g ∙ one_more b (c && d) f ∙ one_more a (b && (c && d)) e

pub four_more : (a b c x d : Bool) → a ≡ true → b ≡ true → c ≡ true → x ≡ true → d ≡ (a && (b && (c && (x && d))))
four_more a b c x d e f g h = one_more x d h ∙ three_more a b c (x && d) e f g

pub and_false : (a : Bool) → (a && false) ≡ false
and_false true = refl
and_false false = refl

pub gives_told : (m n p : ℕ) (ch : Channel) → m ≡ n → true ≡ gives_place m p ch → gives_place n p ch ≡ true
gives_told m n p ch e h = ap (λ k. gives_place k p ch) (sym e) ∙ sym h

pub nothing_told : (os : List Standing) (n : ℕ) → n ≡ length os → n ≡ 0 → stands_none os ≡ true
nothing_told [] n e f = refl
nothing_told (o ∷ os) n e f = absurd (omega (arith, e, f))

pub nobody_told : (rs : List Receiver) (x : Option Receiver) → x ≡ slice_get rs 0 → false ≡ is_some x → stands_none rs ≡ true
nobody_told [] x e f = refl
nobody_told (r ∷ rs) x e f = let k : is_some x ≡ true = ap is_some e in cc

-- ---- an offer at an index

pub nowhere_told : (q : List Standing) (i : ℕ) → i < length q → None ≡ slice_get q i → ⊥
nowhere_told q i lt e = let k = slice_get-get_or q i (record { place = 0; value = 0; holder = None }) lt in cc

pub place_told : (q : List Standing) (p i : ℕ) (o : Standing) → IsBehind 0 p i q → Some o ≡ slice_get q i → o.place ≡ p
place_told q p i o behind e = ap (λ (y : Standing). y.place) (sym (get_or_from_slice_get q i o o (sym e))) ∙ behind.at o

pub admission_place : (q : List Standing) (p i : ℕ) (r : Option Admission) → IsBehind 0 p i q
    → IfSome r (λ a. slice_get q a.index ≡ Some a.offer) → IfSome r (λ a. a.index ≡ i) → IfSome r (λ a. a.offer.place ≡ p)
admission_place q p i None behind h k = h
admission_place q p i (Some a) behind h k = place_told q p i a.offer behind (sym h ∙ ap (slice_get q) k)

pub admissible_told : (kind : Kind) (m p i : ℕ) (q : List Standing) (b : Bool) → OffersAscend 0 m q → IsBehind 0 p i q
    → ((o : Standing) → slice_get q i ≡ Some o → b ≡ (is_some o.holder && not (is_full kind i)))
    → b ≡ is_admissible kind p 0 q
admissible_told kind m p i q b asc behind h =
    let d : Standing = record { place = 0; value = 0; holder = None } in
    let o : Standing = get_or q i d in
    let here : slice_get q i ≡ Some o = slice_get-get_or q i d behind.within in
    h o here ∙ ap (λ k. is_some o.holder && not (is_full kind k)) (from_zero i) ∙ sym (admissible_at kind 0 m 0 i q o asc here)
    ∙ ap (λ k. is_admissible kind k 0 q) (place_told q p i o behind (sym here))
  where
    from_zero : (i : ℕ) → i ≡ 0 + i
    from_zero i = omega arith

pub offer_told : (m p v i : ℕ) (q : List Standing) (o : Standing) → OffersAscend 0 m q → IsBehind 0 p i q → Some o ≡ slice_get q i
    → is_offer_at p v q ≡ (o.value == v)
offer_told m p v i q o asc behind e = ap (λ k. is_offer_at k v q) (sym (place_told q p i o behind e))
    ∙ offer_at_index 0 m v i q o asc (sym e)
