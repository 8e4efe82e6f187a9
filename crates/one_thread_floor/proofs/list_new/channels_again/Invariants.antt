use Rattle.std.proofs.Common.{take}
use Rattle.channel_model.specs.Channels.{start}
use Rattle.one_thread_floor.specs.ListStands.{IsAt}
use Rattle.one_thread_floor.proofs.list_new.channels_again.Given as goal

abbrev pub invariant-loop-i : goal.invariant-loop-i
invariant-loop-i l = IsAt (take l.i l.kinds) l.channels.items start
