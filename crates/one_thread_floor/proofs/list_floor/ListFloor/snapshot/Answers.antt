use Rattle.std.proofs.Common.{sym, subst}
use Rattle.one_thread_floor.specs.ListSnapshots.{Shows}
use Rattle.one_thread_floor.proofs.list_floor.ListFloor.snapshot.Goals as goal

pub returns : goal.returns
returns c = subst (Shows c.snapshot_in.result) (sym (c.args.self.now.stands.channels_are c.args.c)) c.snapshot_in.ensures
