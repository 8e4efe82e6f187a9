use Rattle.channel_model.specs.Channels.{kind_at}
use Rattle.channel_model.proofs.Left.{left_of}
use Rattle.channel_calls.specs.Calls.{SameCaller, seen}
use Rattle.channel_calls.proofs.Repeated.{Repeats}
use Rattle.channel_calls.proofs.DropsTold.{drop_of, AllFollow}
use Rattle.channel_calls.proofs.caller.Caller.trim_all.Given as goal

abbrev pub invariant-loop-memory : goal.invariant-loop-memory
invariant-loop-memory g l = record {
  same : SameCaller g.F.ChannelFloor.anchor l.initial.self l.self;
  each : Repeats (drop_of l.c) (seen g.F.ChannelFloor.view g.B.NoteBook.items l.initial.self)
      (seen g.F.ChannelFloor.view g.B.NoteBook.items l.self);
  follow : AllFollow (kind_at (g.F.ChannelFloor.view l.initial.self.floor.now).shape l.c) l.c l.place each.of;
}

abbrev pub decreases-loop-memory : goal.decreases-loop-memory
decreases-loop-memory g l = left_of (g.F.ChannelFloor.view l.initial.self.floor.now).shape l.c (g.F.ChannelFloor.view l.self.floor.now).seen
