-- Who made an entry at a place has passed it: nobody of the other side stands there, nor below.
use Rattle.std.specs.Prelude.{◌≡◌, ℕ, ◌+◌, ◌≤◌, nat_le, Bool, true, false, not, cond, List, [], ◌∷◌, ◌++◌, filter, Option, Some, None, refl}
use Rattle.std.specs.List.{list_all}
use Rattle.std.proofs.Common.{sym, ap, subst, arith}
use Rattle.std.proofs.lemmas.Bool.{le-leb}
use Rattle.co_base.specs.declared.names.WaitId.{WaitId}
use Rattle.channel_model.specs.declared.acts.Act.TheVariants.{Hand, Put, Offer, Await, WakeClosed}
use Rattle.channel_model.specs.declared.acts.Entry.{Entry}
use Rattle.channel_model.specs.declared.standing.Party.{Party}
use Rattle.channel_model.specs.declared.standing.Standing.{Standing}
use Rattle.channel_model.specs.declared.standing.Receiver.{Receiver}
use Rattle.channel_model.specs.declared.standing.Resolution.{Resolution}
use Rattle.channel_model.specs.Channels.{Shape, Channel, State, same_wait}
use Rattle.channel_model.specs.Effects.{after, is_held_by, place_offer, place_receiver, resolve_first, resolve_holder, resolve_offer, remove_first, with_queue}
use Rattle.channel_model.specs.Needs.{Needs, HasPlace, IsFirstReceiver, IsFirstOffer}
use Rattle.channel_model.specs.Histories.{replay, Legal}
use Rattle.channel_model.specs.Laws.{NoneBelow, Ascends}
use Rattle.channel_model.proofs.Elements.{all_filter, all_more}
use Rattle.channel_model.proofs.GoneForGood.{below_keeps}
use Rattle.channel_model.proofs.Histories.{Legal-last, replay_push}
use Rattle.channel_model.proofs.InOrder.{replay_in_order}
use Rattle.channel_model.proofs.Left.{put_here}
use Rattle.channel_model.proofs.Waits.{same_wait-refl}
use Rattle.cell_words.specs.Seen.{Seen, Makes, at_channel}
use Rattle.cell_words.specs.declared.found.Removal.{Removal}
use Rattle.cell_words.specs.declared.found.Removal.TheVariants as removal
use Rattle.cell_words.specs.Answers.{RemovesFrom}

-- ---- lists of those who stand

module _ {X : Type 0} (number : X → ℕ) where
  all_from_zero : (xs : List X) → list_all (λ x. nat_le 0 (number x)) xs ≡ true
  all_from_zero [] = refl
  all_from_zero (x ∷ xs) = all_more (λ x. nat_le 0 (number x)) x xs (le-leb 0 (number x) (omega arith)) (all_from_zero xs)

  all_above : (n m : ℕ) (xs : List X) → Ascends number n m xs → list_all (λ x. nat_le n (number x)) xs ≡ true
  all_above n m xs a = from n xs (omega arith) a
    where
      from : (k : ℕ) (ys : List X) → n ≤ k → Ascends number k m ys → list_all (λ x. nat_le n (number x)) ys ≡ true
      from k [] le b = refl
      from k (y ∷ ys) le b = all_more (λ x. nat_le n (number x)) y ys (le-leb n (number y) (let g = b.0 in omega arith))
          (from (number y + 1) ys (let g = b.0 in omega arith) b.1)

  ends_above : (n m : ℕ) (xs : List X) → Ascends number n m xs → n ≤ m
  ends_above n m [] a = a
  ends_above n m (x ∷ xs) a = let g = a.0 in let e = ends_above (number x + 1) m xs a.1 in omega arith

-- ---- the effects on one channel

-- who has a place found nobody of the other side
past_offer : (p places : ℕ) (b : Bool) (o : Standing) (ch : Channel) → HasPlace places p ch → ch.receivers ≡ []
    → NoneBelow (p + 1) 0 (place_offer b o ch)
past_offer p places false o ch h e = record {
  given = let f = h.first in omega arith;
  given_offers = omega arith;
  receivers = ap (list_all (λ (r : Receiver). nat_le (p + 1) r.place)) e;
  offers = all_from_zero (λ (x : Standing). x.place) ch.queue;
}
past_offer p places true o ch h e = record {
  given = let f = h.first in omega arith;
  given_offers = omega arith;
  receivers = ap (list_all (λ (r : Receiver). nat_le (p + 1) r.place)) e;
  offers = all_from_zero (λ (x : Standing). x.place) (ch.queue ++ o ∷ []);
}

past_receiver : (p places : ℕ) (b : Bool) (r : Receiver) (ch : Channel) → HasPlace places p ch → ch.queue ≡ []
    → NoneBelow 0 (p + 1) (place_receiver b r ch)
past_receiver p places false r ch h e = record {
  given = omega arith;
  given_offers = let f = h.first in omega arith;
  receivers = all_from_zero (λ (x : Receiver). x.place) ch.receivers;
  offers = ap (list_all (λ (o : Standing). nat_le (p + 1) o.place)) e;
}
past_receiver p places true r ch h e = record {
  given = omega arith;
  given_offers = let f = h.first in omega arith;
  receivers = all_from_zero (λ (x : Receiver). x.place) (ch.receivers ++ r ∷ []);
  offers = ap (list_all (λ (o : Standing). nat_le (p + 1) o.place)) e;
}

-- the first receiver is gone, and the others stand above
past_first : (c p : ℕ) (rs : List Receiver) (how : ℕ → Resolution) (s : State) → (s.channels c).receivers ≡ rs → IsFirstReceiver p rs
    → Ascends (λ (r : Receiver). r.place) 0 (s.channels c).next rs → NoneBelow (p + 1) 0 ((resolve_first rs how s).channels c)
past_first c p [] how s e h a = absurd h
past_first c p (r ∷ rs) how s e h a =
    let above : Ascends (λ (x : Receiver). x.place) (p + 1) (s.channels c).next rs =
    subst (λ (n : ℕ). Ascends (λ (x : Receiver). x.place) (n + 1) (s.channels c).next rs) h a.1 in
    record {
      given = ends_above (λ (x : Receiver). x.place) (p + 1) (s.channels c).next rs above;
      given_offers = omega arith;
      receivers = subst (λ (l : List Receiver). list_all high (filter kept l) ≡ true) (sym e)
          (by_test (same_wait r.party.wait r.party.wait) (same_wait-refl r.party.wait)
          (all_filter high kept rs (all_above (λ (x : Receiver). x.place) (p + 1) (s.channels c).next rs above)));
      offers = all_from_zero (λ (x : Standing). x.place) (filter (λ (o : Standing). not (is_held_by r.party.wait o.holder))
          (s.channels c).queue);
    }
  where
    high : Receiver → Bool
    high x = nat_le (p + 1) x.place

    kept : Receiver → Bool
    kept x = not (same_wait r.party.wait x.party.wait)

    by_test : (b : Bool) → b ≡ true → list_all high (filter kept rs) ≡ true
        → list_all high (cond (not b) (r ∷ filter kept rs) (filter kept rs)) ≡ true
    by_test true f k = k
    by_test false f k = cc

-- the first offer is gone, and the others stand above
past_removed_offer : (c p v : ℕ) (q : List Standing) (s : State) → (s.channels c).queue ≡ q → IsFirstOffer p v q
    → Ascends (λ (o : Standing). o.place) 0 (s.channels c).next q → NoneBelow 0 (p + 1) ((remove_first c q s).channels c)
past_removed_offer c p v [] s e h a = absurd h
past_removed_offer c p v (o ∷ os) s e h a = subst (NoneBelow 0 (p + 1)) (sym (put_here c (record (s.channels c) { queue = os }) s.channels))
    rest
  where
    above : Ascends (λ (x : Standing). x.place) (p + 1) (s.channels c).next os
    above = subst (λ (n : ℕ). Ascends (λ (x : Standing). x.place) (n + 1) (s.channels c).next os) h.0 a.1

    rest : NoneBelow 0 (p + 1) (record (s.channels c) { queue = os })
    rest = record {
      given = omega arith;
      given_offers = ends_above (λ (x : Standing). x.place) (p + 1) (s.channels c).next os above;
      receivers = all_from_zero (λ (x : Receiver). x.place) (s.channels c).receivers;
      offers = all_above (λ (x : Standing). x.place) (p + 1) (s.channels c).next os above;
    }

-- and whoever waited with it was resolved
past_taken_offer : (c p v : ℕ) (shape : Shape) (q : List Standing) (how : ℕ → Resolution) (s : State) → (s.channels c).queue ≡ q
    → IsFirstOffer p v q
    → Ascends (λ (o : Standing). o.place) 0 (s.channels c).next q → NoneBelow 0 (p + 1) ((resolve_offer c q how s).channels c)
past_taken_offer c p v shape [] how s e h a = absurd h
past_taken_offer c p v shape (o ∷ os) how s e h a = by_holder o.holder
  where
    here : NoneBelow 0 (p + 1) ((with_queue c os s).channels c)
    here = past_removed_offer c p v (o ∷ os) s e h a

    by_holder : (x : Option Party) → NoneBelow 0 (p + 1) ((resolve_holder x how (with_queue c os s)).channels c)
    by_holder None = here
    by_holder (Some x) = (below_keeps shape 0 (p + 1)).without x.wait c ((with_queue c os s).channels c) here

-- ---- after the own entry

-- what an entry leaves where it was legal
entry_leaves : (shape : Shape) (v w : Seen) (e : Entry) (P : State → Type 0) → Makes v e w → Legal shape w.seen
    → ((xs : List Entry) → Legal shape xs → Needs shape (replay xs) e.who e.act → P (after (replay xs) e.who e.act)) → P (replay w.seen)
entry_leaves shape v w e P m l f =
    let xs = v.seen ++ m.others in
    let k = Legal-last shape xs e (subst (Legal shape) m.now l) in
    subst (λ (es : List Entry). P (replay es)) (sym m.now) (subst P (sym (replay_push xs e)) (f xs k.0 k.1))

-- the act removes what stands first
abbrev pub FromFront : Removal → Type 0
FromFront removal.Spurn = ⊥
FromFront other = Unit {0}

module _ (shape : Shape) (who c p : ℕ) (old new : Seen) (l : Legal shape new.seen) where
  pub held_past : (v k : ℕ) (w : WaitId) → Makes old (record { who = who; act = Offer c p v w k }) new
      → NoneBelow (p + 1) 0 (at_channel new.seen c)
  held_past v k w m = entry_leaves shape old new _ (λ (s : State). NoneBelow (p + 1) 0 (s.channels c)) m l
      (λ xs legal n. subst (NoneBelow (p + 1) 0) (sym (put_here c _ (replay xs).channels))
      (past_offer p _ _ _ ((replay xs).channels c) n.1 n.2))

  pub put_past : (v : ℕ) → Makes old (record { who = who; act = Put c p v }) new → NoneBelow (p + 1) 0 (at_channel new.seen c)
  put_past v m = entry_leaves shape old new _ (λ (s : State). NoneBelow (p + 1) 0 (s.channels c)) m l
      (λ xs legal n. subst (NoneBelow (p + 1) 0) (sym (put_here c _ (replay xs).channels))
      (past_offer p _ true _ ((replay xs).channels c) n.1 n.2))

  pub handed_past : (v : ℕ) → Makes old (record { who = who; act = Hand c p v }) new → NoneBelow (p + 1) 0 (at_channel new.seen c)
  handed_past v m = entry_leaves shape old new _ (λ (s : State). NoneBelow (p + 1) 0 (s.channels c)) m l
      (λ xs legal n. past_first c p ((replay xs).channels c).receivers _ (replay xs) refl n.2 (replay_in_order shape xs c legal).receivers)

  pub woken_past : Makes old (record { who = who; act = WakeClosed c p }) new → NoneBelow (p + 1) 0 (at_channel new.seen c)
  woken_past m = entry_leaves shape old new _ (λ (s : State). NoneBelow (p + 1) 0 (s.channels c)) m l
      (λ xs legal n. past_first c p ((replay xs).channels c).receivers _ (replay xs) refl n.2 (replay_in_order shape xs c legal).receivers)

  pub awaited_past : (k : ℕ) (w : WaitId) → Makes old (record { who = who; act = Await c p w k }) new
      → NoneBelow 0 (p + 1) (at_channel new.seen c)
  awaited_past k w m = entry_leaves shape old new _ (λ (s : State). NoneBelow 0 (p + 1) (s.channels c)) m l
      (λ xs legal n. subst (NoneBelow 0 (p + 1)) (sym (put_here c _ (replay xs).channels))
      (past_receiver p _ _ _ ((replay xs).channels c) n.1 n.2))

  pub removed_past : (by : Removal) → FromFront by → (v : ℕ) (t : Option ℕ) → RemovesFrom by who c p v t old new
      → NoneBelow 0 (p + 1) (at_channel new.seen c)
  removed_past removal.Take front v t h = entry_leaves shape old new _ (λ (s : State). NoneBelow 0 (p + 1) (s.channels c)) h.made l
      (λ xs legal n. past_taken_offer c p v shape ((replay xs).channels c).queue _ (replay xs) refl n.1
      (replay_in_order shape xs c legal).offers)
  removed_past removal.Drop front v t h = entry_leaves shape old new _ (λ (s : State). NoneBelow 0 (p + 1) (s.channels c)) h.made l
      (λ xs legal n. past_removed_offer c p v ((replay xs).channels c).queue (replay xs) refl n.2 (replay_in_order shape xs c legal).offers)
  removed_past removal.Spurn front v t h = absurd front
  removed_past removal.Drain front v t h = entry_leaves shape old new _ (λ (s : State). NoneBelow 0 (p + 1) (s.channels c)) h.made l
      (λ xs legal n. past_taken_offer c p v shape ((replay xs).channels c).queue _ (replay xs) refl n.2
      (replay_in_order shape xs c legal).offers)
