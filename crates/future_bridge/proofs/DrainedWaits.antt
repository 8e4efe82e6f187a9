-- A receive's wait that was resolved as closed was so on a channel of which nothing was left, with the value that it was closed with, and
-- nothing comes after.
use Rattle.std.specs.Prelude.{◌≡◌, ℕ, Bool, true, false, not, ◌⊎◌, filter, List, [], ◌∷◌, ◌++◌, Option, Some, None, is_some, refl, if◌then◌else◌}
use Rattle.std.proofs.Common.{sym, ap, ◌∙◌, subst, ⊎_elim}
use Rattle.co_base.specs.declared.names.WaitId.{WaitId}
use Rattle.channel_model.specs.declared.acts.Act.{Act}
use Rattle.channel_model.specs.declared.acts.Act.TheVariants.{Await, WakeClosed}
use Rattle.channel_model.specs.declared.acts.Entry.{Entry}
use Rattle.channel_model.specs.declared.acts.Settled.TheVariants as settled
use Rattle.channel_model.specs.declared.standing.Standing.{Standing}
use Rattle.channel_model.specs.declared.standing.Receiver.{Receiver}
use Rattle.channel_model.specs.declared.standing.Resolution.{Resolution}
use Rattle.channel_model.specs.declared.standing.Resolution.TheVariants as resolved
use Rattle.channel_model.specs.Answers.{outcome_at, outcome_of_some}
use Rattle.channel_model.specs.Steps.{stands_none}
use Rattle.channel_model.specs.Channels.{Shape, State, Channel, Wait, start}
use Rattle.channel_model.specs.Effects.{after, admitted, spurned, is_held_by, close_value}
use Rattle.channel_model.specs.Needs.{Needs, IsFirstReceiver}
use Rattle.channel_model.specs.Laws.{StandsInOrder}
use Rattle.channel_model.specs.Histories.{replay, replay_from, acts_of, Legal, LegalFrom}
use Rattle.channel_model.proofs.Histories.{replay_from-append, LegalFrom-parts}
use Rattle.channel_model.proofs.OneClause.{ClosedIf, IsOn, waits_on, weaker_on, begun_on}
use Rattle.channel_model.proofs.ClosedWaits.{own_entry}
use Rattle.channel_model.proofs.EveryAct.{ChannelKeeps, after_keeps}
use Rattle.channel_model.proofs.InOrder.{order_keeps, replay_in_order}
use Rattle.channel_model.proofs.Sound.{sound, sound_step, Lasts, lasts_from}

-- the value that a channel was closed with of which nothing is left
end_of : Channel → Option ℕ
end_of ch = if stands_none ch.queue then ch.closed else None

-- the wait has one clause, at this channel, of which nothing is left but the value that it was closed with, if it was resolved as closed
abbrev IsOnDrained : ℕ → State → WaitId → Type 0
IsOnDrained c s w = IsOn c (λ v. end_of (s.channels c) ≡ Some v) (s.waits w)

-- ---- every act

queue_gone : (p : ℕ) (os : List Standing) (rs : List Receiver) → IsFirstReceiver p rs → (os ≡ []) ⊎ (rs ≡ []) → stands_none os ≡ true
queue_gone p os [] first side = absurd first
queue_gone p os (r ∷ rs) first side = ⊎_elim (λ e. ap stands_none e) (λ e. cc) side

value_there : (o : Option ℕ) → is_some o ≡ true → o ≡ Some (close_value o)
value_there None e = cc
value_there (Some v) e = refl

-- who wakes a receiver as closed finds nothing left
woken : (shape : Shape) (c : ℕ) (s : State) (who : ℕ) (act : Act) → StandsInOrder (s.channels c) → Needs shape s who act → (p : ℕ)
    → act ≡ WakeClosed c p → end_of (s.channels c) ≡ Some (close_value (s.channels c).closed)
unfolding end_of
woken shape c s who act o n p e =
    let m = subst (Needs shape s who) e n in
    ap (λ b. if b then (s.channels c).closed else None) (queue_gone p (s.channels c).queue (s.channels c).receivers m.2 o.one_side)
    ∙ value_there (s.channels c).closed m.1

-- nothing comes to a closed channel
abbrev pub IsDone : ℕ → Channel → Type 0
IsDone v ch = (ch.closed ≡ Some v) × (ch.queue ≡ [])

done_keeps : (shape : Shape) (v : ℕ) → ChannelKeeps shape (λ d ch. IsDone v ch)
done_keeps shape v = record {
  without = λ w d ch h. (h.0, ap (filter (λ (o : Standing). not (is_held_by w o.holder))) h.1);
  rest = λ d o os ch e h. absurd (cons_none o os ch.queue e h.1);
  admit = λ d p ch h. (h.0, ap (admitted p) h.1);
  spurn = λ d p ch h. (h.0, ap (spurned p) h.1);
  put = λ d p u ch n e h. absurd (open_closed ch.closed n.open_now h.0);
  offer = λ d p b o ch n e f g h. absurd (open_closed ch.closed n.open_now h.0);
  await = λ d p b r ch n e g h. absurd (open_closed ch.closed n.open_now h.0);
  close = λ d u ch e h. absurd (open_closed ch.closed e h.0);
  void = λ d ch e h. h;
}
  where
    open_closed : (x : Option ℕ) → x ≡ None → x ≡ Some v → ⊥
    open_closed None e f = cc
    open_closed (Some u) e f = cc

    cons_none : (o : Standing) (os q : List Standing) → q ≡ o ∷ os → q ≡ [] → ⊥
    cons_none o os [] e f = cc
    cons_none o os (x ∷ q) e f = cc

none_stands : (os : List Standing) → stands_none os ≡ true → os ≡ []
none_stands [] e = refl
none_stands (o ∷ os) e = cc

at_end : (ch : Channel) (v : ℕ) → end_of ch ≡ Some v → IsDone v ch
unfolding end_of
at_end ch v e = by_test (stands_none ch.queue) refl e
  where
    by_test : (b : Bool) → stands_none ch.queue ≡ b → (if b then ch.closed else None) ≡ Some v → IsDone v ch
    by_test true q f = (f, none_stands ch.queue q)
    by_test false q f = cc

ends_at : (ch : Channel) (v : ℕ) → IsDone v ch → end_of ch ≡ Some v
unfolding end_of
ends_at ch v h = ap (λ q. if stands_none q then ch.closed else None) h.1 ∙ h.0

still_drained : (shape : Shape) (c : ℕ) (s : State) (who : ℕ) (act : Act) → Needs shape s who act → (v : ℕ) → end_of (s.channels c) ≡ Some v
    → end_of ((after s who act).channels c) ≡ Some v
still_drained shape c s who act n v e =
    ends_at ((after s who act).channels c) v (after_keeps shape (λ d ch. IsDone v ch) (done_keeps shape v) s who act c n
    (at_end (s.channels c) v e))

record Lasting (c : ℕ) (w : WaitId) (s : State) : Type 0 where
  order : StandsInOrder (s.channels c)
  on : IsOnDrained c s w

on_lasts : (shape : Shape) (c : ℕ) (w : WaitId) → Lasts shape (Lasting c w)
on_lasts shape c w = record {
  step = λ s who act l n h. record {
    order = after_keeps shape (λ d ch. StandsInOrder ch) (order_keeps shape) s who act c n h.order;
    on = weaker_on c _ (λ v. end_of ((after s who act).channels c) ≡ Some v) _ (still_drained shape c s who act n)
        (waits_on shape c (λ v. end_of (s.channels c) ≡ Some v) w s who act l n (woken shape c s who act h.order n) h.on);
  };
}

-- ---- the end

by_outcome : (c k v : ℕ) (b : ℕ → Type 0) (x : Option Wait) → IsOn c b x → outcome_at false x ≡ Some (settled.Closed k v) → b v
by_outcome c k v b None h e = absurd h
by_outcome c k v b (Some x) h e = by_how x.resolved h.1 e
  where
    by_how : (o : Option Resolution) → ClosedIf b o → outcome_of_some false o ≡ Some (settled.Closed k v) → b v
    by_how None q e = cc
    by_how (Some (resolved.Handed j u)) q e = cc
    by_how (Some (resolved.Taken j)) q e = cc
    by_how (Some (resolved.Admitted j)) q e = cc
    by_how (Some (resolved.Closed j u)) q e = let same : u ≡ v = cc in subst b same q
    by_how (Some (resolved.Withdrawn why)) q e = cc
    by_how (Some resolved.Voided) q e = cc

-- a wait that a receive began, and that ends as closed with a value: its channel was closed with it, and nothing is left of it
pub closed_drained : (shape : Shape) (history : List Entry) (who c p k v : ℕ) (us vs : List Act) → Legal shape history
    → acts_of who history ≡ us ++ Await c p (record { channel = c; place = p }) 0 ∷ vs
    → outcome_at false ((replay history).waits (record { channel = c; place = p })) ≡ Some (settled.Closed k v)
    → IsDone v ((replay history).channels c)
unfolding LegalFrom replay_from
closed_drained shape history who c p k v us vs l e o =
    let w : WaitId = record { channel = c; place = p } in
    let a = own_entry who (Await c p w 0) history us vs e in
    let first = LegalFrom-parts shape start a.before (record { who = who; act = Await c p w 0 } ∷ a.rest) (subst (Legal shape) a.parts l) in
    let s : State = replay a.before in
    let t : State = after s who (Await c p w 0) in
    let there = sound shape a.before first.0 in
    let begun : Lasting c w t = record {
      order = after_keeps shape (λ d ch. StandsInOrder ch) (order_keeps shape) s who (Await c p w 0) c first.1.0
          (replay_in_order shape a.before c first.0);
      on = begun_on shape s who c p there first.1.0 (λ u. end_of (t.channels c) ≡ Some u);
    } in
    let lasted = lasts_from shape (Lasting c w) (on_lasts shape c w) t a.rest first.1.1
    (sound_step shape s who (Await c p w 0) first.1.0 there) begun in
    let all : replay history ≡ replay_from t a.rest = ap replay a.parts
    ∙ replay_from-append start a.before (record { who = who; act = Await c p w 0 } ∷ a.rest) in
    let is = by_outcome c k v (λ u. end_of ((replay_from t a.rest).channels c) ≡ Some u) ((replay_from t a.rest).waits w) lasted.on
    (ap (λ (z : State). outcome_at false (z.waits w)) (sym all) ∙ o) in
    subst (λ (z : State). IsDone v (z.channels c)) (sym all) (at_end ((replay_from t a.rest).channels c) v is)
