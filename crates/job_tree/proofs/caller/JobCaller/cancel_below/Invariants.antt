use Rattle.job_tree.specs.Callers.{SameCaller, seen}
use Rattle.job_tree.proofs.Walks.{IsOnWay, progress, left}
use Rattle.job_tree.proofs.caller.JobCaller.cancel_below.Given as goal

abbrev pub invariant-loop-done : goal.invariant-loop-done
invariant-loop-done g l = record {
  same : SameCaller g.F.JobFloor.anchor l.initial.self l.self;
  way : IsOnWay l.row l.reserve l.most (progress l.at l.done l.count) (seen g.F.JobFloor.view g.B.NoteBook.items l.initial.self)
      (seen g.F.JobFloor.view g.B.NoteBook.items l.self) (g.B.NoteBook.spare l.self.book.now);
}

abbrev pub decreases-loop-done : goal.decreases-loop-done
decreases-loop-done g l = left (g.F.JobFloor.view l.initial.self.floor.now).shape (g.F.JobFloor.view l.self.floor.now).seen l.at l.done
