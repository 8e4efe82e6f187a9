use Rattle.channel_calls.specs.Calls.{SameCaller, seen, Tells}
use Rattle.permits.specs.Answers.{GivesAll}
use Rattle.permits.proofs.FillsGo.{Filling}
use Rattle.permits.proofs.filling.fill.Given as goal

abbrev pub invariant-loop-value : goal.invariant-loop-value
invariant-loop-value g l = record {
  same : SameCaller g.F.ChannelFloor.anchor l.initial.x l.x;
  filling : Filling l.p.c l.p.n l.initial.x.who l.value (g.F.ChannelFloor.view l.x.floor.now);
  told : Tells (GivesAll l.p.c l.value 0) (seen g.F.ChannelFloor.view g.B.NoteBook.items l.initial.x)
      (seen g.F.ChannelFloor.view g.B.NoteBook.items l.x);
}
