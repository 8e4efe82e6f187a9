use Rattle.std.proofs.Common.{sym, arith}
use Rattle.one_thread_floor.proofs.ByHalves.{one_stands, none_stands}
use Rattle.one_thread_floor.proofs.list_removal.stands_in.Goals as goal

pub returns-in-Some : goal.returns-in-Some
returns-in-Some g c = sym (one_stands g.T.Queued.stands_at c.args.place c.in-Some.field-0 c.args.queue.now.items
    (omega (arith, c.in-Some.ensures.within)) c.in-Some.ensures.at)

pub returns-in-None : goal.returns-in-None
returns-in-None g c = sym (none_stands g.T.Queued.stands_at c.args.place c.args.queue.now.items c.in-None.ensures.none)
