use Rattle.task_berths.specs.Seats.{count_of, view_of, IsSeatOf}
use Rattle.task_crew.specs.AtHand.{AreHeld, tag_at}
use Rattle.task_crew.proofs.worker.work.Given as goal

abbrev pub invariant-turns : goal.invariant-turns
invariant-turns g l = record {
  finite : (goal.iterator-turns g).can_next l.iterator' × (goal.iterator-turns g).is_finite l.iterator';
  seat : IsSeatOf l.berths l.seat;
  held : AreHeld (count_of l.berths) (view_of l.seat).held (tag_at g.T.Tagged.tag_of l.last) (tag_at g.T.Tagged.tag_of l.before);
}
