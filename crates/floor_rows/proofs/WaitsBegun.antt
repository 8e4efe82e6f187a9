-- Whose a wait is: its coroutine's, from the act that begins it on; and that it was seen resolved.
use Rattle.std.specs.Prelude.{◌≡◌, ◌≢◌, ℕ, ◌+◌, true, List, [], ◌∷◌, ◌++◌, Option, Some, None, is_some, refl}
use mathlib.Core.List.{IsPrefix}
use Rattle.std.proofs.Common.{sym, ap, ◌∙◌, subst, arith}
use Rattle.co_base.specs.declared.names.WaitId.{WaitId}
use Rattle.channel_model.specs.declared.acts.Act.{Act}
use Rattle.channel_model.specs.declared.acts.Act.TheVariants.{Offer, Await}
use Rattle.channel_model.specs.declared.acts.Entry.{Entry}
use Rattle.channel_model.specs.declared.acts.Settled.{Settled}
use Rattle.channel_model.specs.declared.standing.Resolution.{Resolution}
use Rattle.channel_model.specs.declared.floor.WaitState.TheVariants as state
use Rattle.channel_model.specs.Channels.{Shape, State, Wait, start}
use Rattle.channel_model.specs.Effects.{after, put_wait, name_clause, settled_wait}
use Rattle.channel_model.specs.Needs.{HasPlace}
use Rattle.channel_model.specs.Histories.{replay, replay_from, acts_of, Legal, LegalFrom}
use Rattle.channel_model.specs.Floors.{Floor, Made}
use Rattle.channel_model.specs.Answers.{LookAnswer, IsOwn, IsOwnWait, IsReady, IsReadyWait, state_of_wait, state_of_parts}
use Rattle.channel_model.proofs.Histories.{replay_from-append, replay_push, LegalFrom-parts, Legal-last, Legal-prefix}
use Rattle.channel_model.proofs.Entries.{entry_of}
use Rattle.channel_model.proofs.Others.{Stays, own_stays, ready_stays, other_keeps, others_keep, between}
use Rattle.channel_model.proofs.Placed.{Placed, replay_placed}
use Rattle.channel_model.proofs.Waits.{at_wait}
use Rattle.call_meaning.specs.ChannelCalls.{wait_at}

-- ---- a wait keeps its owner

stays_whoever : (who m : ℕ) → Stays m (IsOwnWait who)
stays_whoever who m = record {
  resolved = (own_stays who).resolved;
  named = (own_stays who).named;
  settled = λ n outcome x apart may h. elim x as (λ y. IsOwnWait who y
      → IsOwnWait who (settled_wait outcome y)) [ None ↦ λ k. k | Some y ↦ λ k. k ] h;
}

stays_own : (shape : Shape) (who : ℕ) (w : WaitId) (s : State) (es : List Entry) → LegalFrom shape s es → IsOwnWait who (s.waits w)
    → IsOwnWait who ((replay_from s es).waits w)
unfolding LegalFrom replay_from
stays_own shape who w s [] l h = h
stays_own shape who w s (e ∷ es) l h =
    let apart : e.who ≢ e.who + 1 = λ q. omega (arith, q) in
    stays_own shape who w (after s e.who e.act) es l.1 (other_keeps shape (e.who + 1) (IsOwnWait who) (stays_whoever who (e.who + 1)) e.who
    w s e.act apart l.0 h)

-- ---- the act that begins a wait

pub data Begun : WaitId → Act → Type 0 where
  offer : (c q v k : ℕ) → Begun (wait_at c q) (Offer c q v (wait_at c q) k)
  await : (c q k : ℕ) → Begun (wait_at c q) (Await c q (wait_at c q) k)

named_here : (who c q n places : ℕ) (s : State) → Placed s → HasPlace places q (s.channels c)
    → IsOwnWait who (put_wait (wait_at c q) (name_clause who n c (s.waits (wait_at c q))) s.waits (wait_at c q))
named_here who c q n places s placed place =
    let none : s.waits (wait_at c q) ≡ None = placed (wait_at c q) (let i = place.first in omega arith) in
    subst (IsOwnWait who) (sym (at_wait (wait_at c q) (name_clause who n c (s.waits (wait_at c q))) s.waits
    ∙ ap (name_clause who n c) none)) refl

begun_here : (shape : Shape) (who : ℕ) (w : WaitId) (before : List Entry) (act : Act) → Begun w act
    → Legal shape (before ++ record { who = who; act = act } ∷ [])
    → IsOwnWait who ((replay (before ++ record { who = who; act = act } ∷ [])).waits w)
begun_here shape who _ before _ (Begun.offer c q v k) l =
    let e : Entry = record { who = who; act = Offer c q v (wait_at c q) k } in
    let parts = Legal-last shape before e l in
    subst (λ (s : State). IsOwnWait who (s.waits (wait_at c q))) (sym (replay_push before e))
    (named_here who c q k _ (replay before) (replay_placed shape before parts.0) parts.1.1)
begun_here shape who _ before _ (Begun.await c q k) l =
    let e : Entry = record { who = who; act = Await c q (wait_at c q) k } in
    let parts = Legal-last shape before e l in
    subst (λ (s : State). IsOwnWait who (s.waits (wait_at c q))) (sym (replay_push before e))
    (named_here who c q k _ (replay before) (replay_placed shape before parts.0) parts.1.1)

pub begun_own : (shape : Shape) (who : ℕ) (w : WaitId) (es : List Entry) (earlier rest : List Act) (act : Act) → Legal shape es
    → acts_of who es ≡ earlier ++ act ∷ rest → Begun w act → IsOwnWait who ((replay es).waits w)
begun_own shape who w es earlier rest act l e b =
    let h = entry_of who earlier act rest es e in
    let first : List Entry = h.before ++ record { who = who; act = act } ∷ [] in
    let parts = LegalFrom-parts shape start first h.follows.0 (subst (Legal shape) (sym h.follows.1) l) in
    let there : IsOwnWait who ((replay_from (replay first) h.follows.0).waits w) =
    stays_own shape who w (replay first) h.follows.0 parts.1 (begun_here shape who w h.before act b parts.0) in
    subst (λ (xs : List Entry). IsOwnWait who ((replay xs).waits w)) h.follows.1
    (subst (λ (s : State). IsOwnWait who (s.waits w)) (sym (replay_from-append start first h.follows.0)) there)

-- right after the act that begins it
pub made_own : (who : ℕ) (w : WaitId) (act : Act) (a b : Floor) → Legal b.shape b.seen → Made who act a b → Begun w act → IsOwn who w b
made_own who w act a b l m begun = subst (λ (es : List Entry). IsOwnWait who ((replay es).waits w)) (sym m.last)
    (begun_here b.shape who w m.before act begun (subst (Legal b.shape) m.last l))

-- and for good
pub own_lasts : (who : ℕ) (w : WaitId) (a b : Floor) → Legal b.shape b.seen → IsPrefix a.seen b.seen → IsOwn who w a → IsOwn who w b
own_lasts who w a b l p h =
    let parts = LegalFrom-parts b.shape start a.seen p.0 (subst (Legal b.shape) (sym p.1) l) in
    subst (λ (es : List Entry). IsOwnWait who ((replay es).waits w)) p.1
    (subst (λ (s : State). IsOwnWait who (s.waits w)) (sym (replay_from-append start a.seen p.0))
    (stays_own b.shape who w (replay a.seen) p.0 parts.1 h))

-- ---- it is seen resolved

ready_parts : (r : Option Resolution) (o : Option Settled) → state_of_parts r o ≡ state.Resolved → (is_some r ≡ true) × (o ≡ None)
ready_parts r (Some x) e = cc
ready_parts None None e = cc
ready_parts (Some how) None e = (refl, refl)

ready_of : (who : ℕ) (x : Option Wait) → IsOwnWait who x → state_of_wait x ≡ Some state.Resolved → IsReadyWait who x
ready_of who None h e = absurd h
ready_of who (Some x) h e =
    let k : state_of_parts x.resolved x.settled ≡ state.Resolved = cc in
    let p = ready_parts x.resolved x.settled k in
    (h, p.0, p.1)

pub ready_seen : (who : ℕ) (w : WaitId) (a b : Floor) → Legal b.shape b.seen → IsOwn who w a → LookAnswer who w a b state.Resolved
    → IsReady who w b
ready_seen who w a b l h look =
    let m = look.1 in
    let t = between who a.seen m.moment b.seen m.after m.before look.0.mine in
    let l' : Legal b.shape m.moment = Legal-prefix b.shape m.moment m.before.0 (rw m.before.1 l) in
    let own : IsOwnWait who ((replay m.moment).waits w) =
    others_keep b.shape who (IsOwnWait who) (own_stays who) w a.seen m.moment l' m.after t.0 h in
    others_keep b.shape who (IsReadyWait who) (ready_stays who) w m.moment b.seen l m.before t.1
    (ready_of who ((replay m.moment).waits w) own m.holds)
