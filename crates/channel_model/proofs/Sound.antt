-- What holds of each channel and of each wait after a legal history, and what a history keeps that goes on.
use Rattle.std.specs.Prelude.{◌≡◌, ℕ, ◌≤◌, ◌==◌, Bool, true, false, not, List, [], ◌∷◌, ◌++◌, Option, Some, None, is_none, is_some, refl, if◌then◌else◌}
use mathlib.Core.List.{IsPrefix}
use Rattle.std.specs.List.{list_all}
use Rattle.std.proofs.Common.{sym, ◌∙◌, subst, arith}
use Rattle.std.proofs.lemmas.Bool.{true≢false}
use Rattle.co_base.specs.declared.names.WaitId.{WaitId}
use Rattle.channel_model.specs.declared.acts.Act.{Act}
use Rattle.channel_model.specs.declared.acts.Entry.{Entry}
use Rattle.channel_model.specs.declared.acts.Settled.{Settled}
use Rattle.channel_model.specs.declared.standing.Standing.{Standing}
use Rattle.channel_model.specs.declared.standing.Receiver.{Receiver}
use Rattle.channel_model.specs.declared.standing.Resolution.{Resolution}
use Rattle.channel_model.specs.Channels.{Shape, State, Channel, Wait, start, places_at, kind_at, suspends}
use Rattle.channel_model.specs.Effects.{after, is_held_by, admitted, place_offer, place_receiver, resolved_wait, settled_wait, name_clause, is_elsewhere}
use Rattle.channel_model.specs.Needs.{Needs, HasPlace, MaySettle}
use Rattle.channel_model.specs.Outcomes.{IsOutcome}
use Rattle.channel_model.specs.Histories.{replay, replay_from, Legal, LegalFrom}
use Rattle.channel_model.specs.Laws.{AllStandOpen}
use Rattle.channel_model.proofs.Histories.{replay_from-append, LegalFrom-parts}
use Rattle.channel_model.proofs.OpenWaits.{after_open, start_open}
use Rattle.channel_model.proofs.Placed.{Placed, placed_after, start_placed}
use Rattle.channel_model.proofs.Elements.{all_filter, all_rest, all_first, all_more, all_push}
use Rattle.channel_model.proofs.EveryAct.{ChannelKeeps, after_keeps, WaitKeeps, after_waits}

abbrev is_kept : Standing → Bool
is_kept o = is_none o.holder

-- ---- each channel

pub record ChannelSound (shape : Shape) (d : ℕ) (ch : Channel) : Type 0 where
  -- an offer waits only where the kind lets it
  pub kept : suspends (kind_at shape d) ≡ false → list_all (λ (o : Standing). is_none o.holder) ch.queue ≡ true
  -- only a closed channel is cancelled
  pub voided : ch.closed ≡ None → ch.voided ≡ false
  pub within : ch.next ≤ places_at shape d

admitted_kept : (p : ℕ) (os : List Standing) → list_all is_kept os ≡ true → list_all is_kept (admitted p os) ≡ true
admitted_kept p [] h = refl
admitted_kept p (o ∷ os) h = by_test (admitted_kept p os (all_rest is_kept o os h)) (o.place == p)
  where
    by_test : list_all is_kept (admitted p os) ≡ true → (b : Bool)
        → list_all is_kept (if b then record o { holder = None } ∷ os else o ∷ admitted p os) ≡ true
    by_test rest true = all_rest is_kept o os h
    by_test rest false = all_more is_kept o (admitted p os) (all_first is_kept o os h) rest

offer_sound : (shape : Shape) (d p : ℕ) (b : Bool) (o : Standing) (ch : Channel) → HasPlace (places_at shape d) p ch
    → suspends (kind_at shape d) ≡ true → ChannelSound shape d ch → ChannelSound shape d (place_offer b o ch)
offer_sound shape d p true o ch h s x = record {
  kept = λ e. absurd (true≢false (sym s ∙ e));
  voided = x.voided;
  within = let l = h.left
      in omega arith;
}
offer_sound shape d p false o ch h s x = record {
  kept = λ e. absurd (true≢false (sym s ∙ e));
  voided = x.voided;
  within = let l = h.left
      in omega arith;
}

receiver_sound : (shape : Shape) (d p : ℕ) (b : Bool) (r : Receiver) (ch : Channel) → HasPlace (places_at shape d) p ch
    → ChannelSound shape d ch → ChannelSound shape d (place_receiver b r ch)
receiver_sound shape d p true r ch h x = record { kept = x.kept; voided = x.voided; within = let l = h.left in omega arith }
receiver_sound shape d p false r ch h x = record { kept = x.kept; voided = x.voided; within = let l = h.left in omega arith }

some_not : (x : Option ℕ) → is_some x ≡ true → x ≡ None → ⊥
some_not None e f = cc
some_not (Some v) e f = cc

pub sound_keeps : (shape : Shape) → ChannelKeeps shape (ChannelSound shape)
sound_keeps shape = record {
  without = λ w d ch h. record {
    kept = λ e. all_filter is_kept (λ (o : Standing). not (is_held_by w o.holder)) ch.queue (h.kept e);
    voided = h.voided;
    within = h.within;
  };
  rest = λ d o os ch e h. record {
    kept = λ s. all_rest is_kept o os
        (subst (λ (l : List Standing). list_all is_kept l ≡ true) e (h.kept s));
    voided = h.voided;
    within = h.within;
  };
  admit = λ d p ch h. record { kept = λ e. admitted_kept p ch.queue (h.kept e); voided = h.voided; within = h.within };
  spurn = λ d p ch h. record { kept = λ e. all_filter is_kept (is_elsewhere p) ch.queue (h.kept e); voided = h.voided; within = h.within };
  put = λ d p v ch h n x. record {
    kept = λ e. all_push is_kept ch.queue (record { place = p; value = v; holder = None }) (x.kept e) refl;
    voided = x.voided;
    within = let l = h.left in omega arith;
  };
  offer = λ d p b o ch h n s e x. offer_sound shape d p b o ch h s x;
  await = λ d p b r ch h n e x. receiver_sound shape d p b r ch h x;
  close = λ d v ch e h. record { kept = h.kept; voided = λ f. cc; within = h.within };
  void = λ d ch e h. record { kept = h.kept; voided = λ f. absurd (some_not ch.closed e f); within = h.within };
}

-- ---- each wait

-- a wait that nobody resolved did not end
abbrev pub EndsResolved : Option Wait → Type 0
EndsResolved None = Unit {0}
EndsResolved (Some x) = x.resolved ≡ None → x.settled ≡ None

not_open : (outcome : Settled) (how : Option Resolution) → IsOutcome outcome how → how ≡ None → ⊥
not_open outcome None h e = h
not_open outcome (Some how) h e = cc

ends_resolved : (how : Resolution) (x : Option Wait) → EndsResolved x → EndsResolved (resolved_wait how x)
ends_resolved how None h = h
ends_resolved how (Some x) h = λ e. cc

ends_joined : (who k c : ℕ) (x : Option Wait) → EndsResolved x → EndsResolved (name_clause who k c x)
ends_joined who k c None h = λ e. refl
ends_joined who k c (Some x) h = h

ends_settled : (who : ℕ) (outcome : Settled) (x : Option Wait) → MaySettle who outcome x → EndsResolved x
    → EndsResolved (settled_wait outcome x)
ends_settled who outcome None m h = h
ends_settled who outcome (Some x) m h = λ e. absurd (not_open outcome x.resolved m.2 e)

pub ends_keeps : WaitKeeps EndsResolved
ends_keeps = record {
  resolved = ends_resolved;
  begun = λ who k c le e. refl;
  joined = λ who k c x m h. ends_joined who k c x h;
  settled = ends_settled;
}

-- ---- the state

pub record Sound (shape : Shape) (s : State) : Type 0 where
  pub placed : Placed s
  pub stand : AllStandOpen s
  pub ended : (w : WaitId) → EndsResolved (s.waits w)
  pub channels : (d : ℕ) → ChannelSound shape d (s.channels d)

pub sound_step : (shape : Shape) (s : State) (who : ℕ) (act : Act) → Needs shape s who act → Sound shape s → Sound shape (after s who act)
sound_step shape s who act n h = record {
  placed = placed_after shape s who act n h.placed;
  stand = after_open s who act h.stand;
  ended = λ w. after_waits EndsResolved ends_keeps shape s who act w h.placed n (h.ended w);
  channels = λ d. after_keeps shape (ChannelSound shape) (sound_keeps shape) s who act d n (h.channels d);
}

pub sound_start : (shape : Shape) → Sound shape start
sound_start shape = record {
  placed = start_placed;
  stand = start_open;
  ended = λ w. tt;
  channels =
      λ d. record { kept = λ e. refl; voided = λ e. refl; within = omega arith };
}

-- ---- histories that go on

-- a fact of states that every legal entry keeps
pub record Lasts (shape : Shape) (P : State → Type 0) : Type 0 where
  pub step : (s : State) (who : ℕ) (act : Act) → Sound shape s → Needs shape s who act → P s → P (after s who act)

module _ (shape : Shape) where
  pub lasts_from : (P : State → Type 0) → Lasts shape P → (s : State) (es : List Entry) → LegalFrom shape s es → Sound shape s → P s
      → P (replay_from s es)
  unfolding LegalFrom replay_from
  lasts_from P k s [] l h p = p
  lasts_from P k s (e ∷ es) l h p = lasts_from P k (after s e.who e.act) es l.1 (sound_step shape s e.who e.act l.0 h)
      (k.step s e.who e.act h l.0 p)

  pub sound : (es : List Entry) → Legal shape es → Sound shape (replay es)
  sound es l = lasts_from (Sound shape) (record { step = λ s who act h n p. sound_step shape s who act n p }) start es l (sound_start shape)
      (sound_start shape)

  -- it holds of what every history leaves that goes on
  pub lasts : (P : State → Type 0) → Lasts shape P → (xs ys : List Entry) → IsPrefix xs ys → Legal shape ys → P (replay xs) → P (replay ys)
  lasts P k xs ys le l p =
      let l' : Legal shape (xs ++ le.0) = rw le.1 l in
      let parts = LegalFrom-parts shape start xs le.0 l' in
      let r = lasts_from P k (replay xs) le.0 parts.1 (sound xs parts.0) p in
      subst (λ es. P (replay es)) le.1 (subst P (sym (replay_from-append start xs le.0)) r)

  pub channel_lasts : (P : ℕ → Channel → Type 0) → ChannelKeeps shape P → (c : ℕ) (xs ys : List Entry) → IsPrefix xs ys → Legal shape ys
      → P c ((replay xs).channels c) → P c ((replay ys).channels c)
  channel_lasts P k c xs ys le l p = lasts (λ s. P c (s.channels c))
      (record { step = λ s who act h n p. after_keeps shape P k s who act c n p }) xs ys le l p

-- ---- what lasts

pub given_keeps : (shape : Shape) (p : ℕ) → ChannelKeeps shape (λ d ch. p ≤ ch.next)
given_keeps shape p = record {
  without = λ w d ch h. h;
  rest = λ d o os ch e h. h;
  admit = λ d q ch h. h;
  spurn = λ d q ch h. h;
  put = λ d q v ch h n x. omega arith;
  offer = λ d q b o ch h n s e x. next_offer b o ch x;
  await = λ d q b r ch h n e x. next_receiver b r ch x;
  close = λ d v ch e h. h;
  void = λ d ch e h. h;
}
  where
    next_offer : (b : Bool) (o : Standing) (ch : Channel) → p ≤ ch.next → p ≤ (place_offer b o ch).next
    next_offer true o ch h = omega arith
    next_offer false o ch h = omega arith

    next_receiver : (b : Bool) (r : Receiver) (ch : Channel) → p ≤ ch.next → p ≤ (place_receiver b r ch).next
    next_receiver true r ch h = omega arith
    next_receiver false r ch h = omega arith

pub closed_keeps : (shape : Shape) (v : ℕ) → ChannelKeeps shape (λ d ch. ch.closed ≡ Some v)
closed_keeps shape v = record {
  without = λ w d ch h. h;
  rest = λ d o os ch e h. h;
  admit = λ d q ch h. h;
  spurn = λ d q ch h. h;
  put = λ d q u ch h n x. x;
  offer = λ d q b o ch h n s e x. by_offer b o ch x;
  await = λ d q b r ch h n e x. by_receiver b r ch x;
  close = λ d u ch e h. cc;
  void = λ d ch e h. h;
}
  where
    by_offer : (b : Bool) (o : Standing) (ch : Channel) → ch.closed ≡ Some v → (place_offer b o ch).closed ≡ Some v
    by_offer true o ch h = h
    by_offer false o ch h = h

    by_receiver : (b : Bool) (r : Receiver) (ch : Channel) → ch.closed ≡ Some v → (place_receiver b r ch).closed ≡ Some v
    by_receiver true r ch h = h
    by_receiver false r ch h = h

pub voided_keeps : (shape : Shape) → ChannelKeeps shape (λ d ch. ch.voided ≡ true)
voided_keeps shape = record {
  without = λ w d ch h. h;
  rest = λ d o os ch e h. h;
  admit = λ d q ch h. h;
  spurn = λ d q ch h. h;
  put = λ d q u ch h n x. x;
  offer = λ d q b o ch h n s e x. by_offer b o ch x;
  await = λ d q b r ch h n e x. by_receiver b r ch x;
  close = λ d u ch e h. h;
  void = λ d ch e h. refl;
}
  where
    by_offer : (b : Bool) (o : Standing) (ch : Channel) → ch.voided ≡ true → (place_offer b o ch).voided ≡ true
    by_offer true o ch h = h
    by_offer false o ch h = h

    by_receiver : (b : Bool) (r : Receiver) (ch : Channel) → ch.voided ≡ true → (place_receiver b r ch).voided ≡ true
    by_receiver true r ch h = h
    by_receiver false r ch h = h
