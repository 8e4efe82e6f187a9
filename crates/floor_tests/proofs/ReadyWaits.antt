-- A wait that is the caller's own and did not end is ready once a look finds it resolved, and stays its own.
use Rattle.std.specs.Prelude.{ℕ, Option, Some, None, refl}
use Rattle.co_base.specs.declared.names.WaitId.{WaitId}
use Rattle.channel_model.specs.declared.floor.WaitState.TheVariants as state
use Rattle.channel_model.specs.Channels.{Wait}
use Rattle.channel_model.specs.Histories.{replay, Legal}
use Rattle.channel_model.specs.Floors.{Floor, Looked}
use Rattle.channel_model.specs.Answers.{LookAnswer, IsOwnWait, IsReady, IsReadyWait, IsUnsettledOf}
use Rattle.channel_model.proofs.Histories.{Legal-prefix}
use Rattle.channel_model.proofs.Others.{others_keep, unsettled_stays, ready_stays, between}
use Rattle.cell_calls.proofs.OwnCells.{ready_told}
use Rattle.floor_tests.specs.KnownPermits.{HoldsWait}

-- a wait of one that did not end is its own
pub own_of : (who : ℕ) (x : Option Wait) → IsUnsettledOf who x → IsOwnWait who x
own_of who None h = absurd h
own_of who (Some x) h = h.0

pub held_seen : (who : ℕ) (w : WaitId) (a b : Floor) → Legal b.shape b.seen → Looked who a b → HoldsWait who w a → HoldsWait who w b
held_seen who w a b l m h = others_keep b.shape who (IsUnsettledOf who) (unsettled_stays who) w a.seen b.seen l m.longer m.mine h

pub ready_seen : (who : ℕ) (w : WaitId) (a b : Floor) → Legal b.shape b.seen → HoldsWait who w a → LookAnswer who w a b state.Resolved
    → IsReady who w b
ready_seen who w a b l h look =
    let m = look.1 in
    let t = between who a.seen m.moment b.seen m.after m.before look.0.mine in
    let l' : Legal b.shape m.moment = Legal-prefix b.shape m.moment m.before.0 (rw m.before.1 l) in
    let own : IsUnsettledOf who ((replay m.moment).waits w) =
    others_keep b.shape who (IsUnsettledOf who) (unsettled_stays who) w a.seen m.moment l' m.after t.0 h in
    others_keep b.shape who (IsReadyWait who) (ready_stays who) w m.moment b.seen l m.before t.1
    (ready_told who ((replay m.moment).waits w) state.Resolved (own_of who ((replay m.moment).waits w) own) m.holds refl)
