use Rattle.channel_model.specs.Answers.{IsSeenVoided}
use Rattle.channel_model.proofs.Left.{left_of}
use Rattle.channel_calls.specs.Calls.{SameCaller, seen}
use Rattle.channel_calls.proofs.Repeated.{Repeats}
use Rattle.channel_calls.proofs.ClosesTold.{drain_of}
use Rattle.channel_calls.proofs.caller.Caller.drain_all.Given as goal

abbrev pub invariant-loop-memory : goal.invariant-loop-memory
invariant-loop-memory g l = record {
  same : SameCaller g.F.ChannelFloor.anchor l.initial.self l.self;
  each : Repeats (drain_of l.c) (seen g.F.ChannelFloor.view g.B.NoteBook.items l.initial.self)
      (seen g.F.ChannelFloor.view g.B.NoteBook.items l.self);
  ever : IsSeenVoided l.c (g.F.ChannelFloor.view l.self.floor.now);
}

abbrev pub decreases-loop-memory : goal.decreases-loop-memory
decreases-loop-memory g l = left_of (g.F.ChannelFloor.view l.initial.self.floor.now).shape l.c (g.F.ChannelFloor.view l.self.floor.now).seen
