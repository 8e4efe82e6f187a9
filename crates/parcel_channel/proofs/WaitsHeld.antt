-- A wait that did not end, after a look and after it was withdrawn.
use Rattle.std.specs.Prelude.{◌≡◌, ℕ, true, Option, Some, None, is_some, refl}
use Rattle.std.proofs.Common.{sym, ap, ◌∙◌, subst}
use Rattle.co_base.specs.declared.names.WaitId.{WaitId}
use Rattle.channel_model.specs.declared.acts.Act.TheVariants.{Withdraw}
use Rattle.channel_model.specs.declared.acts.Entry.{Entry}
use Rattle.channel_model.specs.declared.acts.Settled.{Settled}
use Rattle.channel_model.specs.declared.acts.Why.{Why}
use Rattle.channel_model.specs.declared.standing.Resolution.{Resolution}
use Rattle.channel_model.specs.declared.standing.Resolution.TheVariants as resolved
use Rattle.channel_model.specs.declared.floor.WaitState.TheVariants as state
use Rattle.channel_model.specs.declared.floor.Withdrawn.{Withdrawn}
use Rattle.channel_model.specs.declared.floor.Withdrawn.TheVariants as withdrawn
use Rattle.channel_model.specs.Channels.{State, Wait}
use Rattle.channel_model.specs.Effects.{resolved_wait}
use Rattle.channel_model.specs.Histories.{replay, Legal}
use Rattle.channel_model.specs.Floors.{Floor, Looked, Made}
use Rattle.channel_model.specs.Answers.{IsOwnWait, IsUnsettledOf, IsResolvedWait, IsReadyWait, IsReady, LookAnswer, WithdrawAnswer, state_of_wait, state_of_parts}
use Rattle.channel_model.proofs.Histories.{replay_push, Legal-prefix, Legal-last}
use Rattle.channel_model.proofs.Waits.{at_wait}
use Rattle.channel_model.proofs.Others.{others_keep, between, ready_stays, unsettled_stays}
use Rattle.parcel_channel.specs.Numbers.{HoldsWait}

pub holds_own : (who : ℕ) (y : Option Wait) → IsUnsettledOf who y → IsOwnWait who y
holds_own who None h = h
holds_own who (Some x) h = h.0

ready_of : (who : ℕ) (y : Option Wait) → IsUnsettledOf who y → IsResolvedWait y → IsReadyWait who y
ready_of who None h r = h
ready_of who (Some x) h r = (h.0, r, h.1)

-- ---- after a look

pub look_holds : (who : ℕ) (w : WaitId) (a b : Floor) → Legal b.shape b.seen → Looked who a b → HoldsWait who w a → HoldsWait who w b
look_holds who w a b l look h = others_keep b.shape who (IsUnsettledOf who) (unsettled_stays who) w a.seen b.seen l look.longer look.mine h

resolved_state : (y : Option Wait) → state_of_wait y ≡ Some state.Resolved → IsResolvedWait y
resolved_state None e = cc
resolved_state (Some x) e = by_parts x.resolved x.settled e
  where
    by_parts : (how : Option Resolution) (o : Option Settled) → Some (state_of_parts how o) ≡ Some state.Resolved → is_some how ≡ true
    by_parts None None q = cc
    by_parts None (Some z) q = cc
    by_parts (Some how) o q = refl

pub look_ready : (who : ℕ) (w : WaitId) (a b : Floor) → Legal b.shape b.seen → LookAnswer who w a b state.Resolved → HoldsWait who w a
    → IsReady who w b
look_ready who w a b l look h =
    let m = look.1 in
    let t = between who a.seen m.moment b.seen m.after m.before look.0.mine in
    let legal : Legal b.shape m.moment = Legal-prefix b.shape m.moment m.before.0 (rw m.before.1 l) in
    let held : IsUnsettledOf who ((replay m.moment).waits w) =
    others_keep b.shape who (IsUnsettledOf who) (unsettled_stays who) w a.seen m.moment legal m.after t.0 h in
    others_keep b.shape who (IsReadyWait who) (ready_stays who) w m.moment b.seen l m.before t.1
    (ready_of who ((replay m.moment).waits w) held (resolved_state ((replay m.moment).waits w) m.holds))

-- ---- after it was withdrawn, or resolved before

withdrawn_ready : (who : ℕ) (why : Why) (y : Option Wait) → IsUnsettledOf who y → IsReadyWait who (resolved_wait (resolved.Withdrawn why) y)
withdrawn_ready who why None h = h
withdrawn_ready who why (Some x) h = (h.0, refl, h.1)

pub withdraw_ready : (who : ℕ) (w : WaitId) (why : Why) (a b : Floor) (r : Withdrawn) → Legal b.shape b.seen
    → WithdrawAnswer who w why a b r → HoldsWait who w a → IsReady who w b
withdraw_ready who w why a b (withdrawn.Done t) l h held =
    let m : Made who (Withdraw w why) a b = h.0 in
    let last : Entry = record { who = who; act = Withdraw w why } in
    let before = Legal-last b.shape m.before last (subst (Legal b.shape) m.last l) in
    let at : (replay b.seen).waits w ≡ resolved_wait (resolved.Withdrawn why) ((replay m.before).waits w) =
    ap (λ es. (replay es).waits w) m.last
    ∙ ap (λ (s : State). s.waits w) (replay_push m.before last)
    ∙ at_wait w (resolved_wait (resolved.Withdrawn why) ((replay m.before).waits w)) (replay m.before).waits in
    subst (IsReadyWait who) (sym at)
    (withdrawn_ready who why ((replay m.before).waits w) (others_keep b.shape who (IsUnsettledOf who) (unsettled_stays who) w a.seen
    m.before before.0 m.longer m.mine held))
withdraw_ready who w why a b withdrawn.Late l h held = ready_of who ((replay b.seen).waits w) (look_holds who w a b l h.0 held) h.1
