use Rattle.std.proofs.Common.{inl, inr}
use Rattle.ring_bridge.proofs.SelectsGo.{none_tried, tried_more}
use Rattle.ring_bridge.proofs.selecting.select.Goals as goal

pub loop-init : goal.loop-init
loop-init g c = record {
  finite = (tt, tt);
  tag = c.requires.tag.0;
  still = g.met.C.RingClause.stays_self c.args.clause.now;
  tried = none_tried g.C.RingClause.turns c.args.clause.now;
}

pub loop-preserved-in-Waits : goal.loop-preserved-in-Waits
loop-preserved-in-Waits g c =
    let a = c.args.clause.now in
    let b = c.loop.clause in
    let d = c.attempt.new.self in
    let old = c.loop.invariant in
    record {
      finite = (tt, tt);
      tag = c.attempt.ensures.tag;
      still = g.met.C.RingClause.stays_on a b d old.still c.attempt.ensures.still;
      tried = tried_more g.C.RingClause.turns a b d old.tried (inl c.in-Waits.ensures.turn);
    }

pub loop-preserved : goal.loop-preserved
loop-preserved g c =
    let a = c.args.clause.now in
    let b = c.loop.clause in
    let d = c.attempt.new.self in
    let old = c.loop.invariant in
    record {
      finite = (tt, tt);
      tag = c.attempt.ensures.tag;
      still = g.met.C.RingClause.stays_on a b d old.still c.attempt.ensures.still;
      tried = tried_more g.C.RingClause.turns a b d old.tried (inr c.in-Again.ensures.turn);
    }
