-- A wait is resolved, and ended, and a channel closed, and cancelled, exactly where one entry does it; none does it twice.
use Rattle.std.specs.Prelude.{◌≡◌, ℕ, ◌+◌, ◌≤◌, ◌==◌, Bool, true, false, cond, List, [], ◌∷◌, Option, Some, None, refl, if◌then◌else◌, ◌↔◌, is_some}
use Rattle.std.proofs.Common.{ap, subst, arith}
use Rattle.std.proofs.lemmas.Bool.{eqb-true}
use Rattle.co_base.specs.declared.names.WaitId.{WaitId}
use Rattle.channel_model.specs.declared.acts.Act.{Act}
use Rattle.channel_model.specs.declared.acts.Act.TheVariants.{Hand, Put, Offer, Await, Take, Admit, Drop, Spurn, Close, Void, Drain, WakeClosed}
use Rattle.channel_model.specs.declared.acts.Entry.{Entry}
use Rattle.channel_model.specs.declared.standing.Party.{Party}
use Rattle.channel_model.specs.declared.standing.Standing.{Standing}
use Rattle.channel_model.specs.declared.standing.Receiver.{Receiver}
use Rattle.channel_model.specs.declared.standing.Resolution.{Resolution}
use Rattle.channel_model.specs.Channels.{Shape, State, Channel, start}
use Rattle.channel_model.specs.Effects.{after, resolve_first, resolve_holder, resolve_offer, remove_first, with_queue, put_channel, admitted, holder_at, is_open, place_offer, place_receiver}
use Rattle.channel_model.specs.Needs.{Needs}
use Rattle.channel_model.specs.Histories.{replay, replay_from, Legal, LegalFrom}
use Rattle.channel_model.specs.Answers.{IsResolvedWait, IsSettledWait}
use Rattle.channel_model.specs.Laws.{AllStandOpen, resolves, settles, resolutions_from, resolutions_of, settlements_of, closes, voids, closings_of, voidings_of}
use Rattle.channel_model.proofs.OpenWaits.{after_open, start_open}
use Rattle.channel_model.proofs.Resolutions.{resolves_turns, settles_turns, always_keeps, resolved_stays, settled_stays}
use Rattle.channel_model.proofs.Causes.{resolved_before, settled_before, is_resolved, has_ended, resolved_is, ended_is, counted_one}

-- a test holds after a history exactly where one entry made it so
one_entry : (b : Bool) (n : ℕ) → ◌≡◌ {A = ℕ} (cond b 1 0) (0 + n) → (n ≤ 1) × ((n ≡ 1) ↔ (b ≡ true))
one_entry true n e = (omega arith, (λ f. refl, λ f. omega arith))
one_entry false n e = (omega arith, (λ f. absurd (omega arith), λ f. cc))

-- ---- waits

resolutions_add : (shape : Shape) (w : WaitId) (s : State) (es : List Entry) → AllStandOpen s → LegalFrom shape s es
    → ◌≡◌ {A = ℕ} (cond (is_resolved ((replay_from s es).waits w)) 1 0) (cond (is_resolved (s.waits w)) 1 0 + resolutions_from w s es)
unfolding LegalFrom replay_from resolutions_from
resolutions_add shape w s [] h l = omega arith
resolutions_add shape w s (e ∷ es) h l =
    let rest = resolutions_add shape w (after s e.who e.act) es (after_open s e.who e.act h) l.1 in
    let first = counted_one is_resolved IsResolvedWait resolved_is w (resolves s e.act) s.waits (after s e.who e.act).waits
    (resolves_turns shape s e.who e.act h l.0)
    (always_keeps shape IsResolvedWait resolved_stays e.who w s e.act l.0) (resolved_before s e.who e.act w) in
    omega arith

settlements_add : (shape : Shape) (w : WaitId) (s : State) (es : List Entry) → LegalFrom shape s es
    → ◌≡◌ {A = ℕ} (cond (has_ended ((replay_from s es).waits w)) 1 0) (cond (has_ended (s.waits w)) 1 0 + settlements_of w es)
unfolding LegalFrom replay_from settlements_of
settlements_add shape w s [] l = omega arith
settlements_add shape w s (e ∷ es) l =
    let rest = settlements_add shape w (after s e.who e.act) es l.1 in
    let first = counted_one has_ended IsSettledWait ended_is w (settles e.act) s.waits (after s e.who e.act).waits
    (settles_turns shape s e.who e.act l.0)
    (always_keeps shape IsSettledWait settled_stays e.who w s e.act l.0) (settled_before s e.who e.act w) in
    omega arith

iff_then : {P Q R : Type 0} → (P ↔ Q) → (Q ↔ R) → P ↔ R
iff_then h k = (λ p. k.0 (h.0 p), λ r. h.1 (k.1 r))

resolutions_one : (shape : Shape) (history : List Entry) (w : WaitId) → Legal shape history → (resolutions_of w history ≤ 1)
    × ((resolutions_of w history ≡ 1) ↔ (is_resolved ((replay history).waits w) ≡ true))
resolutions_one shape history w l = one_entry (is_resolved ((replay history).waits w)) (resolutions_of w history)
    (resolutions_add shape w start history start_open l)

settlements_one : (shape : Shape) (history : List Entry) (w : WaitId) → Legal shape history → (settlements_of w history ≤ 1)
    × ((settlements_of w history ≡ 1) ↔ (has_ended ((replay history).waits w) ≡ true))
settlements_one shape history w l = one_entry (has_ended ((replay history).waits w)) (settlements_of w history)
    (settlements_add shape w start history l)

pub resolutions_of_bound : (shape : Shape) (history : List Entry) (w : WaitId) → Legal shape history → resolutions_of w history ≤ 1
resolutions_of_bound shape history w l = (resolutions_one shape history w l).0

pub settlements_of_bound : (shape : Shape) (history : List Entry) (w : WaitId) → Legal shape history → settlements_of w history ≤ 1
settlements_of_bound shape history w l = (settlements_one shape history w l).0

pub resolved_by_one : (shape : Shape) (history : List Entry) (w : WaitId) → Legal shape history
    → (resolutions_of w history ≡ 1) ↔ IsResolvedWait ((replay history).waits w)
resolved_by_one shape history w l = iff_then (resolutions_one shape history w l).1 (resolved_is ((replay history).waits w))

pub settled_by_one : (shape : Shape) (history : List Entry) (w : WaitId) → Legal shape history
    → (settlements_of w history ≡ 1) ↔ IsSettledWait ((replay history).waits w)
settled_by_one shape history w l = iff_then (settlements_one shape history w l).1 (ended_is ((replay history).waits w))

-- ---- channels

-- the channel is as open as before, but for what the tests say
record Ends (closing voiding : Bool) (ch ch' : Channel) : Type 0 where
  closed : ◌≡◌ {A = ℕ} (cond (is_some ch'.closed) 1 0) (cond (is_some ch.closed) 1 0 + cond closing 1 0)
  voided : ◌≡◌ {A = ℕ} (cond ch'.voided 1 0) (cond ch.voided 1 0 + cond voiding 1 0)

as_open : (ch ch' : Channel) → ch'.closed ≡ ch.closed → ch'.voided ≡ ch.voided → Ends false false ch ch'
as_open ch ch' e f = record {
  closed = let k : ◌≡◌ {A = ℕ} (cond (is_some ch'.closed) 1 0) (cond (is_some ch.closed) 1 0) =
      ap (λ (x : Option ℕ). cond (is_some x) 1 0) e in omega arith;
  voided = let k : ◌≡◌ {A = ℕ} (cond ch'.voided 1 0) (cond ch.voided 1 0) = ap (λ b. cond b 1 0) f in omega arith;
}

ends_then : (a b : Bool) (x y z : Channel) → Ends false false x y → Ends a b y z → Ends a b x z
ends_then a b x y z h k = record {
  closed = let m = h.closed in let n = k.closed in omega arith;
  voided = let m = h.voided
      in let n = k.voided in omega arith;
}

first_ends : (c : ℕ) (rs : List Receiver) (how : ℕ → Resolution) (s : State)
    → Ends false false (s.channels c) ((resolve_first rs how s).channels c)
first_ends c [] how s = as_open (s.channels c) _ refl refl
first_ends c (r ∷ rs) how s = as_open (s.channels c) _ refl refl

holder_ends : (c : ℕ) (p : Option Party) (how : ℕ → Resolution) (s : State)
    → Ends false false (s.channels c) ((resolve_holder p how s).channels c)
holder_ends c None how s = as_open (s.channels c) _ refl refl
holder_ends c (Some p) how s = as_open (s.channels c) _ refl refl

put_open : (d c : ℕ) (x : Channel) (s : State) → x.closed ≡ (s.channels d).closed → x.voided ≡ (s.channels d).voided
    → Ends false false (s.channels c) (put_channel d x s.channels c)
put_open d c x s e f = by_test (d == c) refl
  where
    by_test : (t : Bool) → (d == c) ≡ t → Ends false false (s.channels c) (if t then x else s.channels c)
    by_test true k = subst (λ n. Ends false false (s.channels n) x) (eqb-true d c k) (as_open (s.channels d) x e f)
    by_test false k = as_open (s.channels c) (s.channels c) refl refl

offer_ends : (d c : ℕ) (os : List Standing) (how : ℕ → Resolution) (s : State)
    → Ends false false (s.channels c) ((resolve_offer d os how s).channels c)
offer_ends d c [] how s = as_open (s.channels c) _ refl refl
offer_ends d c (o ∷ os) how s = ends_then false false (s.channels c) ((with_queue d os s).channels c) _
    (put_open d c (record (s.channels d) { queue = os }) s refl refl) (holder_ends c o.holder how (with_queue d os s))

removed_ends : (d c : ℕ) (os : List Standing) (s : State) → Ends false false (s.channels c) ((remove_first d os s).channels c)
removed_ends d c [] s = as_open (s.channels c) _ refl refl
removed_ends d c (o ∷ os) s = put_open d c (record (s.channels d) { queue = os }) s refl refl

offered_ends : (b : Bool) (o : Standing) (ch : Channel) → ((place_offer b o ch).closed ≡ ch.closed)
    × ((place_offer b o ch).voided ≡ ch.voided)
offered_ends true o ch = (refl, refl)
offered_ends false o ch = (refl, refl)

awaited_ends : (b : Bool) (r : Receiver) (ch : Channel) → ((place_receiver b r ch).closed ≡ ch.closed)
    × ((place_receiver b r ch).voided ≡ ch.voided)
awaited_ends true r ch = (refl, refl)
awaited_ends false r ch = (refl, refl)

closing : (d c v : ℕ) (s : State) → (s.channels d).closed ≡ None
    → Ends (d == c) false (s.channels c) (put_channel d (record (s.channels d) { closed = Some v }) s.channels c)
closing d c v s e = by_test (d == c) refl
  where
    by_test : (t : Bool) → (d == c) ≡ t → Ends t false (s.channels c)
        (if t then record (s.channels d) { closed = Some v } else s.channels c)
    by_test true k = subst (λ n. Ends true false (s.channels n) (record (s.channels d) { closed = Some v })) (eqb-true d c k)
        (record {
          closed = let m : ◌≡◌ {A = ℕ} (cond (is_some (s.channels d).closed) 1 0) 0 = ap (λ (x : Option ℕ). cond (is_some x) 1 0) e
              in omega arith;
          voided = omega arith;
        })
    by_test false k = as_open (s.channels c) (s.channels c) refl refl

voiding : (d c : ℕ) (s : State) → (s.channels d).voided ≡ false
    → Ends false (d == c) (s.channels c) (put_channel d (record (s.channels d) { voided = true }) s.channels c)
voiding d c s e = by_test (d == c) refl
  where
    by_test : (t : Bool) → (d == c) ≡ t → Ends false t (s.channels c) (if t then record (s.channels d) { voided = true } else s.channels c)
    by_test true k = subst (λ n. Ends false true (s.channels n) (record (s.channels d) { voided = true })) (eqb-true d c k)
        (record {
          closed = omega arith;
          voided = let m : ◌≡◌ {A = ℕ} (cond (s.channels d).voided 1 0) 0 = ap (λ b. cond b 1 0) e
              in omega arith;
        })
    by_test false k = as_open (s.channels c) (s.channels c) refl refl

act_ends : (shape : Shape) (s : State) (who : ℕ) (act : Act) (c : ℕ) → Needs shape s who act
    → Ends (closes c act) (voids c act) (s.channels c) ((after s who act).channels c)
act_ends shape s who (Hand d p v) c n = first_ends c (s.channels d).receivers _ s
act_ends shape s who (Put d p v) c n = put_open d c _ s refl refl
act_ends shape s who (Offer d p v w k) c n = let e = offered_ends (is_open (s.waits w)) _ (s.channels d) in put_open d c _ s e.0 e.1
act_ends shape s who (Await d p w k) c n = let e = awaited_ends (is_open (s.waits w)) _ (s.channels d) in put_open d c _ s e.0 e.1
act_ends shape s who (Take d p v) c n = offer_ends d c (s.channels d).queue _ s
act_ends shape s who (Admit d p) c n =
    ends_then false false (s.channels c) ((with_queue d (admitted p (s.channels d).queue) s).channels c) _
    (put_open d c (record (s.channels d) { queue = admitted p (s.channels d).queue }) s refl refl)
    (holder_ends c (holder_at p (s.channels d).queue) _ (with_queue d (admitted p (s.channels d).queue) s))
act_ends shape s who (Drop d p v) c n = removed_ends d c (s.channels d).queue s
act_ends shape s who (Spurn d p v) c n = put_open d c _ s refl refl
act_ends shape s who (Close d v) c n = closing d c v s n.1
act_ends shape s who (Void d) c n = voiding d c s n.2
act_ends shape s who (Drain d p v) c n = offer_ends d c (s.channels d).queue _ s
act_ends shape s who (WakeClosed d p) c n = first_ends c (s.channels d).receivers _ s
act_ends shape s who other c n = as_open (s.channels c) _ refl refl

ends_add : (shape : Shape) (c : ℕ) (s : State) (es : List Entry) → LegalFrom shape s es
    → (◌≡◌ {A = ℕ} (cond (is_some ((replay_from s es).channels c).closed) 1 0)
    (cond (is_some (s.channels c).closed) 1 0 + closings_of c es))
    × (◌≡◌ {A = ℕ} (cond ((replay_from s es).channels c).voided 1 0) (cond (s.channels c).voided 1 0 + voidings_of c es))
unfolding LegalFrom replay_from
ends_add shape c s [] l = (omega arith, omega arith)
ends_add shape c s (e ∷ es) l =
    let rest = ends_add shape c (after s e.who e.act) es l.1 in
    let first = act_ends shape s e.who e.act c l.0 in
    (let m = first.closed in let n = rest.0 in omega arith, let m = first.voided in let n = rest.1 in omega arith)

closings_one : (shape : Shape) (history : List Entry) (c : ℕ) → Legal shape history → (closings_of c history ≤ 1)
    × ((closings_of c history ≡ 1) ↔ (is_some ((replay history).channels c).closed ≡ true))
closings_one shape history c l = one_entry (is_some ((replay history).channels c).closed) (closings_of c history)
    (ends_add shape c start history l).0

voidings_one : (shape : Shape) (history : List Entry) (c : ℕ) → Legal shape history → (voidings_of c history ≤ 1)
    × ((voidings_of c history ≡ 1) ↔ (((replay history).channels c).voided ≡ true))
voidings_one shape history c l = one_entry ((replay history).channels c).voided (voidings_of c history) (ends_add shape c start history l).1

pub closed_by_one : (shape : Shape) (history : List Entry) (c : ℕ) → Legal shape history
    → (closings_of c history ≡ 1) ↔ (is_some ((replay history).channels c).closed ≡ true)
closed_by_one shape history c l = (closings_one shape history c l).1

pub voided_by_one : (shape : Shape) (history : List Entry) (c : ℕ) → Legal shape history
    → (voidings_of c history ≡ 1) ↔ (((replay history).channels c).voided ≡ true)
voided_by_one shape history c l = (voidings_one shape history c l).1

pub closings_of_bound : (shape : Shape) (history : List Entry) (c : ℕ) → Legal shape history → closings_of c history ≤ 1
closings_of_bound shape history c l = (closings_one shape history c l).0

pub voidings_of_bound : (shape : Shape) (history : List Entry) (c : ℕ) → Legal shape history → voidings_of c history ≤ 1
voidings_of_bound shape history c l = (voidings_one shape history c l).0

pub endings_of_bound : (shape : Shape) (history : List Entry) (c : ℕ) → Legal shape history
    → closings_of c history + voidings_of c history ≤ 2
endings_of_bound shape history c l = omega (arith, closings_of_bound shape history c l, voidings_of_bound shape history c l)
