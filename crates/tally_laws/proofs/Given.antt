-- After a legal history the places that were given out are places of the channels, and a wait that was handed an element has
-- the place of that Hand.
use Rattle.std.specs.Prelude.{◌≡◌, ℕ, ◌+◌, ◌<◌, ◌≤◌, Bool, true, false, cond, List, [], ◌∷◌, ◌++◌, length, Option, Some, None, refl, ◌⊎◌, is_some, if◌then◌else◌}
use Rattle.std.specs.List.{list_any}
use Rattle.std.proofs.Common.{sym, ap, ◌∙◌, subst, arith, inl, inr, ⊎_elim, append_assoc}
use Rattle.std.proofs.lemmas.Bool.{cases_lt, cases_Bool, and_parts}
use Rattle.co_base.specs.declared.names.WaitId.{WaitId}
use Rattle.channel_model.specs.declared.acts.Act.{Act}
use Rattle.channel_model.specs.declared.acts.Act.TheVariants.{Hand, Put, Offer, Await, Take, Admit, Drop, Drain, WakeClosed, Withdraw, Settle}
use Rattle.channel_model.specs.declared.acts.Entry.{Entry}
use Rattle.channel_model.specs.declared.acts.Settled.{Settled}
use Rattle.channel_model.specs.declared.acts.Settled.TheVariants as settled
use Rattle.channel_model.specs.declared.standing.Party.{Party}
use Rattle.channel_model.specs.declared.standing.Standing.{Standing}
use Rattle.channel_model.specs.declared.standing.Receiver.{Receiver}
use Rattle.channel_model.specs.declared.standing.Resolution.{Resolution}
use Rattle.channel_model.specs.declared.standing.Resolution.TheVariants as resolved
use Rattle.channel_model.specs.Channels.{Shape, State, Wait, places_at, same_wait, start}
use Rattle.channel_model.specs.Effects.{after, put_wait, resolve_first, resolve_holder, resolve_offer, remove_first, with_queue, resolved_wait, name_clause, settled_wait, admitted, holder_at}
use Rattle.channel_model.specs.Needs.{Needs, HasPlace, MaySettle}
use Rattle.channel_model.specs.Outcomes.{IsOutcome, value_given}
use Rattle.channel_model.specs.Fates.{is_at, hands, wait_at, places_wait, is_value, is_undelivered, settles_value, settles_undelivered}
use Rattle.channel_model.specs.Laws.{how_many, resolves}
use Rattle.channel_model.specs.Histories.{replay, replay_from, acts_in, Legal, LegalFrom}
use Rattle.channel_model.proofs.Waits.{same_wait-eq, at_wait}
use Rattle.channel_model.proofs.Others.{Stays}
use Rattle.channel_model.proofs.OwnWaits.{change_from}
use Rattle.channel_model.proofs.Causes.{resolution_of, resolution_kept}
use Rattle.channel_model.proofs.Resolutions.{resolves_turns, always_keeps}
use Rattle.channel_model.proofs.Spans.{nothing_more}
use Rattle.channel_fates.proofs.Appended.{any_kept, any_last, any_cases, first_kept, first_last}
use Rattle.channel_fates.proofs.OncePlaced.{enters, awaits, at_both}
use Rattle.channel_fates.proofs.StandsByActs.{here}
use Rattle.channel_fates.proofs.Chosen.{source_of}
use Rattle.channel_fates.proofs.ChosenOnce.{Told, told_after, start_told}
use Rattle.channel_fates.proofs.Endings.{is_handed, handed_resolved}
use Rattle.channel_model.proofs.Apart.{how_many_push}

-- ---- places

-- the place is one of a channel's
abbrev pub IsPlace : Shape → ℕ → ℕ → Type 0
IsPlace shape c p = (c < length shape) × (p < places_at shape c)

abbrev pub GivenInRange : Shape → List Act → Type 0
GivenInRange shape acts = (c p : ℕ) → 1 ≤ how_many (enters c p) acts + how_many (awaits c p) acts → IsPlace shape c p

moved : (shape : Shape) (c p d q : ℕ) → is_at c p d q ≡ true → IsPlace shape d q → IsPlace shape c p
moved shape c p d q e h =
    let k = at_both c p d q e in
    subst (λ x. IsPlace shape x p) k.0 (subst (λ x. IsPlace shape d x) k.1 h)

next_in_range : (places q n : ℕ) → n < places → q ≡ n → q < places
next_in_range places q n l e = omega arith

given_there : (shape : Shape) (s : State) (c p d q : ℕ) → d < length shape → HasPlace (places_at shape d) q (s.channels d)
    → 1 ≤ cond (is_at c p d q) 1 0 → IsPlace shape c p
given_there shape s c p d q n place h = ⊎_elim
    (λ e. moved shape c p d q e (n, next_in_range (places_at shape d) q (s.channels d).next place.left place.first))
    (λ e. let none : ◌≡◌ {A = ℕ} (cond (is_at c p d q) 1 0) 0 = ap (λ b. cond b 1 0) e in absurd (omega arith))
    (cases_Bool (is_at c p d q))

placed_now : (shape : Shape) (s : State) (who : ℕ) (act : Act) (c p : ℕ) → Needs shape s who act
    → 1 ≤ cond (enters c p act) 1 0 + cond (awaits c p act) 1 0 → IsPlace shape c p
placed_now shape s who (Put d q v) c p n h = given_there shape s c p d q n.0 n.1 (omega arith)
placed_now shape s who (Offer d q v w k) c p n h = given_there shape s c p d q n.0 n.1 (omega arith)
placed_now shape s who (Await d q w k) c p n h = given_there shape s c p d q n.0 n.1 (omega arith)
placed_now shape s who other c p n h = absurd (omega arith)

range_after : (shape : Shape) (acts : List Act) (s : State) (who : ℕ) (act : Act) → Needs shape s who act → GivenInRange shape acts
    → GivenInRange shape (acts ++ act ∷ [])
range_after shape acts s who act n h c p l =
    let a = how_many_push (enters c p) acts act in
    let b = how_many_push (awaits c p) acts act in
    ⊎_elim (λ k. h c p k) (λ k. placed_now shape s who act c p n (omega arith))
    (cases_lt 0 (how_many (enters c p) acts + how_many (awaits c p) acts))

-- ---- what was handed

abbrev pub WasHanded : Option Wait → Type 0
WasHanded x = is_handed (resolution_of x) ≡ true

-- the wait's place is one at which an element was handed
abbrev pub HandPlace : List Act → WaitId → Type 0
HandPlace acts w = (c : ℕ) × (p : ℕ) × (wait_at c p acts ≡ Some w) × (list_any (hands c p) acts ≡ true)

given_value : (outcome : Settled) (how : Option Resolution) → IsOutcome outcome how → is_value outcome ≡ true → is_handed how ≡ true
given_value outcome None h e = absurd h
given_value (settled.Value k v) (Some how) h e = ap (λ x. is_some (value_given x)) h
given_value other (Some how) h e = cc

given_undelivered : (outcome : Settled) (how : Option Resolution) → IsOutcome outcome how → is_undelivered outcome ≡ true
    → is_handed how ≡ true
given_undelivered outcome None h e = absurd h
given_undelivered (settled.Undelivered v) (Some how) h e = ap is_some h
given_undelivered other (Some how) h e = cc

settled_handed : (test : Settled → Bool) → ((outcome : Settled) (how : Option Resolution) → IsOutcome outcome how → test outcome ≡ true
    → is_handed how ≡ true)
    → (who : ℕ) (outcome : Settled) (x : Option Wait) → MaySettle who outcome x → test outcome ≡ true → WasHanded x
settled_handed test k who outcome None n e = absurd n
settled_handed test k who outcome (Some x) n e = k outcome x.resolved n.2 e

value_now : (shape : Shape) (s : State) (who : ℕ) (act : Act) (w : WaitId) → Needs shape s who act → settles_value w act ≡ true
    → WasHanded (s.waits w)
value_now shape s who (Settle v outcome) w n e =
    let k = and_parts (same_wait w v) (is_value outcome) e in
    subst (λ u. WasHanded (s.waits u)) (sym (same_wait-eq w v k.0)) (settled_handed is_value given_value who outcome (s.waits v) n k.1)
value_now shape s who other w n e = cc

undelivered_now : (shape : Shape) (s : State) (who : ℕ) (act : Act) (w : WaitId) → Needs shape s who act → settles_undelivered w act ≡ true
    → WasHanded (s.waits w)
undelivered_now shape s who (Settle v outcome) w n e =
    let k = and_parts (same_wait w v) (is_undelivered outcome) e in
    subst (λ u. WasHanded (s.waits u)) (sym (same_wait-eq w v k.0))
    (settled_handed is_undelivered given_undelivered who outcome (s.waits v) n k.1)
undelivered_now shape s who other w n e = cc

-- ---- no other act hands

not_given : (how : Resolution) → value_given how ≡ None → (x : Option Wait) → WasHanded (resolved_wait how x) → WasHanded x
not_given how e None h = h
not_given how e (Some x) h = let k : is_some (value_given how) ≡ true = h in cc

named_same : (who k c : ℕ) (x : Option Wait) → WasHanded (name_clause who k c x) → WasHanded x
named_same who k c None h = cc
named_same who k c (Some x) h = h

settled_same : (outcome : Settled) (x : Option Wait) → WasHanded (settled_wait outcome x) → WasHanded x
settled_same outcome None h = h
settled_same outcome (Some x) h = h

first_not : (w : WaitId) (rs : List Receiver) (how : ℕ → Resolution) (s : State) → ((k : ℕ) → value_given (how k) ≡ None)
    → WasHanded ((resolve_first rs how s).waits w) → WasHanded (s.waits w)
first_not w [] how s e h = h
first_not w (r ∷ rs) how s e h = change_from WasHanded s.waits r.party.wait w (resolved_wait (how r.party.clause))
    (not_given (how r.party.clause) (e r.party.clause)) h

holder_not : (w : WaitId) (p : Option Party) (how : ℕ → Resolution) (s : State) → ((k : ℕ) → value_given (how k) ≡ None)
    → WasHanded ((resolve_holder p how s).waits w) → WasHanded (s.waits w)
holder_not w None how s e h = h
holder_not w (Some p) how s e h = change_from WasHanded s.waits p.wait w (resolved_wait (how p.clause))
    (not_given (how p.clause) (e p.clause)) h

offer_not : (w : WaitId) (c : ℕ) (os : List Standing) (how : ℕ → Resolution) (s : State) → ((k : ℕ) → value_given (how k) ≡ None)
    → WasHanded ((resolve_offer c os how s).waits w) → WasHanded (s.waits w)
offer_not w c [] how s e h = h
offer_not w c (o ∷ os) how s e h = holder_not w o.holder how (with_queue c os s) e h

removed_not : (w : WaitId) (c : ℕ) (os : List Standing) (s : State) → WasHanded ((remove_first c os s).waits w) → WasHanded (s.waits w)
removed_not w c [] s h = h
removed_not w c (o ∷ os) s h = h

module _ (shape : Shape) (acts : List Act) (s : State) (t : Told acts s) where
  handed_now : (c p v : ℕ) (w : WaitId) (who : ℕ) → Needs shape s who (Hand c p v) → resolves s (Hand c p v) ≡ Some w
      → HandPlace (acts ++ Hand c p v ∷ []) w
  handed_now c p v w who n e =
      ⊎_elim
      (λ u. let f = u.0 in cc)
      (λ k. let same : k.0 ≡ w = (let f = k.1 in cc) in (
        c,
        p,
        first_kept (places_wait c p) acts (Hand c p v ∷ []) w (k.2 ∙ ap (λ u. Some u) same),
        any_last (hands c p) acts (Hand c p v) (here c p),
      ))
      (source_of shape acts s who (Hand c p v) n t.known (c, p) refl)

  -- a wait that was handed an element was so before, or is so by a Hand at its place
  handed_from : (who : ℕ) (act : Act) (w : WaitId) → Needs shape s who act → WasHanded ((after s who act).waits w) → WasHanded (s.waits w)
      ⊎ HandPlace (acts ++ act ∷ []) w
  handed_from who (Hand c p v) w n h =
      ⊎_elim (λ e. inl (ap is_handed (sym e) ∙ h)) (λ e. inr (handed_now c p v w who n e)) (resolution_kept s who (Hand c p v) w)
  handed_from who (Offer c p v u k) w n h = inl (change_from WasHanded s.waits u w (name_clause who k c) (named_same who k c) h)
  handed_from who (Await c p u k) w n h = inl (change_from WasHanded s.waits u w (name_clause who k c) (named_same who k c) h)
  handed_from who (Take c p v) w n h = inl (offer_not w c (s.channels c).queue resolved.Taken s (λ k. refl) h)
  handed_from who (Admit c p) w n h = inl (holder_not w (holder_at p (s.channels c).queue) resolved.Admitted
      (with_queue c (admitted p (s.channels c).queue) s) (λ k. refl) h)
  handed_from who (Drop c p v) w n h = inl (removed_not w c (s.channels c).queue s h)
  handed_from who (Drain c p v) w n h = inl (offer_not w c (s.channels c).queue (λ k. resolved.Voided) s (λ k. refl) h)
  handed_from who (WakeClosed c p) w n h = inl (first_not w (s.channels c).receivers _ s (λ k. refl) h)
  handed_from who (Withdraw u why) w n h = inl (change_from WasHanded s.waits u w (resolved_wait (resolved.Withdrawn why))
      (not_given (resolved.Withdrawn why) refl) h)
  handed_from who (Settle u outcome) w n h = inl (change_from WasHanded s.waits u w (settled_wait outcome) (settled_same outcome) h)
  handed_from who other w n h = inl h

-- ---- named waits

-- the wait began
abbrev pub HasBegun : Option Wait → Type 0
HasBegun x = is_some x ≡ true

pub begun_stays : (who : ℕ) → Stays who HasBegun
begun_stays who = record {
  resolved = λ how x h. elim x as (λ y. HasBegun y → HasBegun (resolved_wait how y)) [ None ↦ λ k. k | Some y ↦ λ k. k ] h;
  named = λ n k c x h. elim x as (λ y. HasBegun y → HasBegun (name_clause n k c y)) [ None ↦ λ k. refl | Some y ↦ λ k. k ] h;
  settled = λ n outcome x apart m h. elim x as (λ y. HasBegun y → HasBegun (settled_wait outcome y)) [ None ↦ λ k. k | Some y ↦ λ k. k ] h;
}

clause_begins : (who k c : ℕ) (x : Option Wait) → HasBegun (name_clause who k c x)
clause_begins who k c None = refl
clause_begins who k c (Some x) = refl

begun_at : (who k c : ℕ) (u w : WaitId) (waits : WaitId → Option Wait) (b : Bool) → (if b then Some u else None) ≡ Some w
    → HasBegun (put_wait u (name_clause who k c (waits u)) waits w)
begun_at who k c u w waits true e =
    let same : u ≡ w = cc in
    subst (λ v. HasBegun (put_wait u (name_clause who k c (waits u)) waits v)) same
    (subst HasBegun (sym (at_wait u (name_clause who k c (waits u)) waits)) (clause_begins who k c (waits u)))
begun_at who k c u w waits false e = cc

begun_now : (s : State) (who : ℕ) (act : Act) (c p : ℕ) (w : WaitId) → places_wait c p act ≡ Some w → HasBegun ((after s who act).waits w)
begun_now s who (Offer d q v u k) c p w e = begun_at who k d u w s.waits (is_at c p d q) e
begun_now s who (Await d q u k) c p w e = begun_at who k d u w s.waits (is_at c p d q) e
begun_now s who other c p w e = cc

-- ---- all acts

pub record Given (shape : Shape) (acts : List Act) (s : State) : Type 0 where
  pub range : GivenInRange shape acts
  pub value : (w : WaitId) → list_any (settles_value w) acts ≡ true → WasHanded (s.waits w)
  pub undelivered : (w : WaitId) → list_any (settles_undelivered w) acts ≡ true → WasHanded (s.waits w)
  pub handed : (w : WaitId) → WasHanded (s.waits w) → HandPlace acts w
  pub begun : (c p : ℕ) (w : WaitId) → wait_at c p acts ≡ Some w → HasBegun (s.waits w)

module _ (shape : Shape) (acts : List Act) (s : State) (who : ℕ) (act : Act) (n : Needs shape s who act) (t : Told acts s)
    (h : Given shape acts s) where
  stays : (w : WaitId) → WasHanded (s.waits w) → WasHanded ((after s who act).waits w)
  stays w k =
      ⊎_elim
      (λ e. ap is_handed e ∙ k)
      (λ e. absurd ((resolves_turns shape s who act t.stand n w e).before (handed_resolved (s.waits w) k)))
      (resolution_kept s who act w)

  handed_place : (w : WaitId) → WasHanded ((after s who act).waits w) → HandPlace (acts ++ act ∷ []) w
  handed_place w k =
      ⊎_elim
      (λ old. let x = h.handed w old in (
        x.0,
        x.1,
        first_kept (places_wait x.0 x.1) acts (act ∷ []) w x.2,
        any_kept (hands x.0 x.1) acts (act ∷ []) x.3,
      ))
      (λ new. new)
      (handed_from shape acts s t who act w n k)

  begun_after : (c p : ℕ) (w : WaitId) → wait_at c p (acts ++ act ∷ []) ≡ Some w → HasBegun ((after s who act).waits w)
  begun_after c p w e = by_wait (wait_at c p acts) refl
    where
      by_wait : (o : Option WaitId) → wait_at c p acts ≡ o → HasBegun ((after s who act).waits w)
      by_wait (Some u) k =
          let m = first_kept (places_wait c p) acts (act ∷ []) u k in
          let same : u ≡ w = cc in
          always_keeps shape HasBegun begun_stays who w s act n (h.begun c p w (k ∙ ap (λ v. Some v) same))
      by_wait None k = begun_now s who act c p w (sym (first_last (places_wait c p) acts act k) ∙ e)

  given_after : Given shape (acts ++ act ∷ []) (after s who act)
  given_after = record {
    range = range_after shape acts s who act n h.range;
    value = λ w e. stays w (⊎_elim (λ old. h.value w old) (λ new. value_now shape s who act w n new)
        (any_cases (settles_value w) acts act e));
    undelivered = λ w e. stays w (⊎_elim (λ old. h.undelivered w old) (λ new. undelivered_now shape s who act w n new)
        (any_cases (settles_undelivered w) acts act e));
    handed = handed_place;
    begun = begun_after;
  }

start_given : (shape : Shape) → Given shape [] start
start_given shape = record {
  range = λ c p l. absurd (omega arith);
  value = λ w e. cc;
  undelivered = λ w e. cc;
  handed = λ w e. cc;
  begun =
      λ c p w e. cc;
}

from_given : (shape : Shape) (acts : List Act) (s : State) (es : List Entry) → LegalFrom shape s es → Told acts s → Given shape acts s
    → Given shape (acts ++ acts_in es) (replay_from s es)
unfolding LegalFrom replay_from
from_given shape acts s [] l t h = subst (λ xs. Given shape xs s) (sym (nothing_more acts)) h
from_given shape acts s (e ∷ es) l t h =
    subst (λ xs. Given shape xs (replay_from (after s e.who e.act) es)) (append_assoc acts (e.act ∷ []) (acts_in es))
    (from_given shape (acts ++ e.act ∷ []) (after s e.who e.act) es l.1 (told_after shape acts s e.who e.act l.0 t)
    (given_after shape acts s e.who e.act l.0 t h))

pub replay_given : (shape : Shape) (history : List Entry) → Legal shape history → Given shape (acts_in history) (replay history)
replay_given shape history l = from_given shape [] start history l start_told (start_given shape)
