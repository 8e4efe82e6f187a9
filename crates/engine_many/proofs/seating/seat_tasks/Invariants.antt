use Rattle.std.proofs.Common.{◌≡◌, ◌+◌, length}
use Rattle.cell_calls.specs.HubFloors.{hub_floor}
use Rattle.word_seats.specs.Seats.{hub_anchor, hub_may_act, may_act_beside, NobodyFrom}
use Rattle.run_laws.specs.Sights.{CountUp}
use Rattle.engine_many.specs.Parts.{tags_of}
use Rattle.engine_many.specs.WordRuns.{IsFreshHub}
use Rattle.engine_many.proofs.seating.seat_tasks.Given as goal

abbrev pub invariant-loop-tag : goal.invariant-loop-tag
invariant-loop-tag g l = record {
  channels : IsFreshHub g.N.ScriptName.program (hub_floor l.root.hub.now l.root.pass);
  nobody : NobodyFrom l.tag (hub_may_act (hub_anchor l.root.hub.now l.root.pass));
  nobody_on_jobs : NobodyFrom l.tag (may_act_beside (hub_anchor l.root.hub.now l.root.pass));
  count : 1 + length l.tasks.items ≡ l.tag;
  tags : CountUp 1 (tags_of l.tasks.items);
}
