use Rattle.std.proofs.Common.{subst}
use Rattle.parcel_channel.specs.Hubs.{floor_by}
use Rattle.parcel_channel.proofs.ClosesSeen.{closed_seen}
use Rattle.waiting.specs.Closes.{TellsAll}
use Rattle.waiting.proofs.ClosesGo.{pass_then}
use Rattle.waiting.proofs.closing.close.Goals as goal

pub tell_close-requires-clause-closed : goal.tell_close-requires-clause-closed
tell_close-requires-clause-closed g c =
    let hub = c.args.hub.now in
    closed_seen c.args.pass.now.tag 0 c.args.v (floor_by hub c.args.pass.now) (floor_by hub c.close-closed.new.pass) c.close-closed.result
    c.close-closed.ensures.answer

pub returns-clause-same : goal.returns-clause-same
returns-clause-same g c =
    pass_then c.args.pass.now c.close-closed.new.pass c.tell_close.new.pass c.close-closed.ensures.same c.tell_close.ensures.same

pub returns-clause-closed : goal.returns-clause-closed
returns-clause-closed g c =
    let hub = c.args.hub.now in
    let q = c.close-closed.new.pass in
    let r = c.tell_close.new.pass in
    record {
      mid = floor_by hub q;
      closed = c.close-closed.ensures.answer;
      told = subst (λ n. TellsAll n (floor_by hub q) (floor_by hub r)) c.close-closed.ensures.same.0.0 c.tell_close.ensures.told;
    }
