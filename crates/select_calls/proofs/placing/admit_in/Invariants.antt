use Rattle.std.proofs.Common.{◌-◌, ◌≤◌, take}
use Rattle.channel_calls.specs.Calls.{SameCaller, seen, Tells}
use Rattle.call_meaning.specs.ChannelCalls.{AdmitsIn}
use Rattle.select_calls.specs.Clauses.{calls_of}
use Rattle.select_calls.proofs.placing.admit_in.Given as goal

abbrev pub invariant-loop-i : goal.invariant-loop-i
invariant-loop-i g l = record {
  within : l.i ≤ l.count;
  same : SameCaller g.F.ChannelFloor.anchor l.fn.x l.x;
  admitted : Tells (AdmitsIn (take l.i (calls_of l.clauses)))
      (seen g.F.ChannelFloor.view g.B.NoteBook.items l.fn.x) (seen g.F.ChannelFloor.view g.B.NoteBook.items l.x);
}

abbrev pub decreases-loop-i : goal.decreases-loop-i
decreases-loop-i g l = l.count - l.i
