use Rattle.job_model.proofs.Ranks.{ranks}
use Rattle.job_tree.specs.Callers.{SameCaller, seen}
use Rattle.job_tree.specs.Endings.{seen_with}
use Rattle.job_tree.proofs.Endings.{IsRise}
use Rattle.job_tree.proofs.caller.JobCaller.finish_up.Given as goal

abbrev pub invariant-loop-parent : goal.invariant-loop-parent
invariant-loop-parent g l = record {
  same : SameCaller g.F.JobFloor.anchor l.initial.self l.self;
  rise : IsRise g.E.Ends.prepares g.E.Ends.does g.E.Ends.leaves l.row l.at
      (seen_with (seen g.F.JobFloor.view g.B.NoteBook.items l.initial.self) l.initial.ends)
      (seen_with (seen g.F.JobFloor.view g.B.NoteBook.items l.self) l.ends);
}

abbrev pub decreases-loop-parent : goal.decreases-loop-parent
decreases-loop-parent g l = (ranks (g.F.JobFloor.view l.initial.self.floor.now).shape (g.F.JobFloor.view l.self.floor.now).seen).rank l.at
