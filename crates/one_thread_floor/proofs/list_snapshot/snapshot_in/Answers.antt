use Rattle.std.proofs.Common.{sym, subst, refl, arith}
use Rattle.one_thread_floor.specs.ListSnapshots.{Shows}
use Rattle.one_thread_floor.proofs.OneChannel.{nothing_there}
use Rattle.one_thread_floor.proofs.list_snapshot.snapshot_in.Goals as goal

pub returns-then-len-c : goal.returns-then-len-c
returns-then-len-c c =
    subst (Shows _) (sym (nothing_there c.args.channels.now.items c.args.c (omega (arith, c.len.ensures, c.if-len-c.true))))
    (record { next = refl; queued = refl; first_offer = refl; first_receiver = refl; is_closed = refl })
