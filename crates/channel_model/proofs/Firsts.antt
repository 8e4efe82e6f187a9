-- The first receiver and the first offer, and what an act needs of a state.
use Rattle.std.specs.Prelude.{◌≡◌, ℕ, ◌≤◌, Bool, true, false, List, [], ◌∷◌, Option, Some, None, slice_get, refl, MatchBool, is_none}
use Rattle.std.specs.Option.{option_and_then}
use Rattle.std.proofs.Common.{sym, ap, ◌∙◌, subst}
use Rattle.co_base.specs.declared.names.WaitId.{WaitId}
use Rattle.channel_model.specs.declared.acts.Kind.{Kind}
use Rattle.channel_model.specs.declared.acts.Kind.TheVariants.{Rendezvous, Buffered, Unlimited}
use Rattle.channel_model.specs.declared.acts.Settled.{Settled}
use Rattle.channel_model.specs.declared.standing.Standing.{Standing}
use Rattle.channel_model.specs.declared.standing.Receiver.{Receiver}
use Rattle.channel_model.specs.declared.standing.Party.{Party}
use Rattle.channel_model.specs.declared.standing.Resolution.{Resolution}
use Rattle.channel_model.specs.declared.standing.Resolution.TheVariants as resolved
use Rattle.channel_model.specs.Channels.{State, Wait, same_wait, is_full, suspends, is_signal}
use Rattle.channel_model.specs.Outcomes.{outcome_of, IsOutcome}
use Rattle.channel_model.specs.Effects.{resolve, resolve_first, with_queue, is_open}
use Rattle.channel_model.specs.Needs.{MayName, JoinsWait, IsFirstReceiver, IsFirstOffer, IsOpenOf, MaySettle}
use Rattle.channel_model.specs.Answers.{first_receiver, first_holder, owner_of, owner_of_holder, outcome_at, outcome_of_some, IsOwnWait, IsReadyWait}
use Rattle.channel_model.specs.Laws.{AllStandOpen, OffersStand, HolderStands}
use Rattle.channel_model.proofs.Waits.{same_wait-refl, same_wait-eq}
use Rattle.channel_model.proofs.OpenWaits.{with_queue_open}

-- ---- the first receiver

pub first_receiver_is : (rs : List Receiver) (r : Receiver) → slice_get rs 0 ≡ Some r → IsFirstReceiver r.place rs
first_receiver_is [] r e = cc
first_receiver_is (x ∷ rs) r e = let k : x ≡ r = cc in ap (λ (y : Receiver). y.place) k

pub first_resolved : (rs : List Receiver) (r : Receiver) (how : ℕ → Resolution) (s : State) → slice_get rs 0 ≡ Some r
    → resolve_first rs how s ≡ resolve r.party.wait (how r.party.clause) s
first_resolved [] r how s e = cc
first_resolved (x ∷ rs) r how s e = let k : x ≡ r = cc in ap (λ (y : Receiver). resolve y.party.wait (how y.party.clause) s) k

pub no_receiver : (rs : List Receiver) → None ≡ slice_get rs 0 → rs ≡ []
no_receiver [] e = refl
no_receiver (r ∷ rs) e = cc

pub owner_of_first : (s : State) (rs : List Receiver) (r : Receiver) → slice_get rs 0 ≡ Some r
    → first_receiver s rs ≡ owner_of (s.waits r.party.wait)
owner_of_first s [] r e = cc
owner_of_first s (x ∷ rs) r e = let k : x ≡ r = cc in ap (λ (y : Receiver). owner_of (s.waits y.party.wait)) k

-- ---- the first offer

pub first_offer_is : (q os : List Standing) (o : Standing) → q ≡ o ∷ os → IsFirstOffer o.place o.value q
first_offer_is q os o e = subst (IsFirstOffer o.place o.value) (sym e) (refl, refl)

pub first_stands : (waits : WaitId → Option Wait) (c : ℕ) (q os : List Standing) (o : Standing) → OffersStand waits c q → q ≡ o ∷ os
    → HolderStands waits c o.holder × OffersStand waits c os
unfolding OffersStand
first_stands waits c q os o h e = subst (OffersStand waits c) e h

pub popped_open : (s : State) (c : ℕ) (o : Standing) (os : List Standing) → AllStandOpen s → (s.channels c).queue ≡ o ∷ os
    → AllStandOpen (with_queue c os s)
popped_open s c o os h e = with_queue_open c os s h (first_stands s.waits c _ os o (h c).offers e).1

pub first_holder_is : (s : State) (o : Standing) (os q : List Standing) → q ≡ o ∷ os → first_holder s q ≡ owner_of_holder s o.holder
first_holder_is s o os q e = ap (first_holder s) e

pub holder_owner : (s : State) (f : WaitId → Option Wait) (p : Option Party) → ((w : WaitId) → s.waits w ≡ f w)
    → owner_of_holder s p ≡ option_and_then (λ (p : Party). owner_of (f p.wait)) p
holder_owner s f None h = refl
holder_owner s f (Some p) h = ap owner_of (h p.wait)

-- ---- what acts need

-- a kind that is full, and no signal, lets offers wait
pub full_suspends : (k : Kind) (n : ℕ) → is_full k n ≡ true → is_signal k ≡ false → suspends k ≡ true
full_suspends Rendezvous n e h = refl
full_suspends (Buffered k) n e h = refl
full_suspends Unlimited n e h = cc
full_suspends other n e h = cc

abbrev pub at_place : ℕ → ℕ → WaitId
at_place c p = record { channel = c; place = p }

-- a wait may begin with this clause
pub may_begin : (who k c p : ℕ) (s : State) → k ≤ 7 → MayName who k c p (at_place c p) s
may_begin who k c p s le = let P : Bool → Type 0 = λ b. MatchBool b (k ≤ 7) (JoinsWait who k c (s.waits (at_place c p)))
    in subst P (sym (same_wait-refl (at_place c p))) le

-- a wait that may have the clause as one more has no name of a place that no wait has
pub may_join : (who k c p : ℕ) (w : WaitId) (s : State) → s.waits (at_place c p) ≡ None → JoinsWait who k c (s.waits w)
    → MayName who k c p w s
may_join who k c p w s none h = by_test (same_wait w (at_place c p)) refl
  where
    not_none : (x : Option Wait) → x ≡ None → JoinsWait who k c x → ⊥
    not_none None e h = h
    not_none (Some x) e h = cc

    by_test : (b : Bool) → same_wait w (at_place c p) ≡ b → MatchBool b (k ≤ 7) (JoinsWait who k c (s.waits w))
    by_test true e = absurd (not_none (s.waits w) (ap s.waits (same_wait-eq w (at_place c p) e) ∙ none) h)
    by_test false e = h

pub outcome_is : (how : Resolution) (cancelled : Bool) → IsOutcome (outcome_of how cancelled) (Some how)
outcome_is (resolved.Handed k v) false = refl
outcome_is (resolved.Handed k v) true = refl
outcome_is (resolved.Taken k) false = refl
outcome_is (resolved.Taken k) true = refl
outcome_is (resolved.Admitted k) false = refl
outcome_is (resolved.Admitted k) true = refl
outcome_is (resolved.Closed k v) false = refl
outcome_is (resolved.Closed k v) true = refl
outcome_is (resolved.Withdrawn why) false = refl
outcome_is (resolved.Withdrawn why) true = refl
outcome_is resolved.Voided false = refl
outcome_is resolved.Voided true = refl

pub outcome_fits : (how : Option Resolution) (cancelled : Bool) (outcome : Settled) → outcome_of_some cancelled how ≡ Some outcome
    → IsOutcome outcome how
outcome_fits None cancelled outcome e = cc
outcome_fits (Some how) cancelled outcome e = let k : outcome_of how cancelled ≡ outcome = cc
    in subst (λ (x : Settled). IsOutcome x (Some how)) k (outcome_is how cancelled)

pub may_settle : (who : ℕ) (x : Option Wait) (cancelled : Bool) (outcome : Settled) → IsReadyWait who x
    → outcome_at cancelled x ≡ Some outcome → MaySettle who outcome x
may_settle who None cancelled outcome h e = absurd h
may_settle who (Some x) cancelled outcome h e = (h.0, h.2, outcome_fits x.resolved cancelled outcome e)

pub may_withdraw : (who : ℕ) (x : Option Wait) → IsOwnWait who x → is_open x ≡ true → IsOpenOf who x
may_withdraw who None h e = absurd h
may_withdraw who (Some x) h e = (h, open_is x.resolved e)
  where
    open_is : (how : Option Resolution) → is_none how ≡ true → how ≡ None
    open_is None e = refl
    open_is (Some r) e = cc
