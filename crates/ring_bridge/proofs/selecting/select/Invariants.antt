use Rattle.ring_bridge.proofs.SelectsGo.{TriedSo}
use Rattle.ring_bridge.proofs.selecting.select.Given as goal

abbrev pub invariant-loop : goal.invariant-loop
invariant-loop g l = record {
  finite : (goal.iterator-loop g).can_next l.iterator' × (goal.iterator-loop g).is_finite l.iterator';
  tag : g.C.RingClause.tagged l.clause l.tag;
  still : g.C.RingClause.stays l.initial.clause l.clause;
  tried : TriedSo g.C.RingClause.turns l.initial.clause l.clause;
}
