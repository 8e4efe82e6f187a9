use Rattle.std.proofs.Common.{◌≡◌}
use Rattle.call_meaning.specs.Seen.{tree_in}
use Rattle.job_tree.specs.Callers.{SameCaller, seen, HasRoomForAll}
use Rattle.job_tree.specs.Passes.{IsCovered}
use Rattle.job_tree.specs.declared.caller.Reserve.TheVariants.{Before}
use Rattle.job_model.proofs.Ranks.{ranks}
use Rattle.job_tree.proofs.Climbs.{IsClimb}
use Rattle.job_tree.proofs.caller.JobCaller.climb.Given as goal

abbrev pub invariant-loop-parent : goal.invariant-loop-parent
invariant-loop-parent g l = record {
  same : SameCaller g.F.JobFloor.anchor l.initial.self l.self;
  climb : IsClimb l.row l.at (seen g.F.JobFloor.view g.B.NoteBook.items l.initial.self) (seen g.F.JobFloor.view g.B.NoteBook.items l.self);
  covered : IsCovered (tree_in (seen g.F.JobFloor.view g.B.NoteBook.items l.self)) l.covered;
  room : l.reserve ≡ Before → HasRoomForAll g.F.JobFloor.view g.B.NoteBook.spare l.self;
}

abbrev pub decreases-loop-parent : goal.decreases-loop-parent
decreases-loop-parent g l = (ranks (g.F.JobFloor.view l.initial.self.floor.now).shape (g.F.JobFloor.view l.self.floor.now).seen).rank l.at
