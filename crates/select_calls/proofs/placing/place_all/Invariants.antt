use Rattle.std.proofs.Common.{◌-◌, ◌≤◌, length}
use Rattle.channel_calls.specs.Calls.{SameCaller, seen}
use Rattle.select_calls.specs.Clauses.{calls_of}
use Rattle.select_calls.specs.Parts.{PlacedSoFar}
use Rattle.select_calls.proofs.AllPlaced.{StillLeft}
use Rattle.select_calls.proofs.placing.place_all.Given as goal

abbrev pub invariant-loop-i : goal.invariant-loop-i
invariant-loop-i g l = record {
  within : l.i ≤ length l.clauses;
  same : SameCaller g.F.ChannelFloor.anchor l.fn.x l.x;
  so_far : PlacedSoFar (calls_of l.clauses) l.i l.held
      (seen g.F.ChannelFloor.view g.B.NoteBook.items l.fn.x) (seen g.F.ChannelFloor.view g.B.NoteBook.items l.x);
  left : StillLeft (calls_of l.clauses) l.i
      (seen g.F.ChannelFloor.view g.B.NoteBook.items l.fn.x) (seen g.F.ChannelFloor.view g.B.NoteBook.items l.x);
}

abbrev pub decreases-loop-i : goal.decreases-loop-i
decreases-loop-i g l = length l.clauses - l.i
