use Rattle.script_reader.specs.Scripts.{program_of}
use Rattle.engine_one.proofs.TurnsInOrder.{no_turns, turns_then}
use Rattle.engine_one.proofs.run.Run+ListFloor+TreeFloor+B.run_out.Goals as goal

pub turns-init : goal.turns-init
turns-init g c = record { stand = c.requires; turns = no_turns (program_of c.args.script.now) _ }

pub turns-preserved : goal.turns-preserved
turns-preserved g c = record {
  stand = c.in_ok-one_turn.ensures.stand;
  turns = turns_then (program_of c.args.script.now) _ _ _ c.turns.invariant.turns c.in_ok-one_turn.ensures.turns;
}

pub returns-then-branch-clause-turns : goal.returns-then-branch-clause-turns
returns-then-branch-clause-turns g c = turns_then (program_of c.args.script.now) _ _ _ c.turns.invariant.turns c.in_ok-one_turn.ensures.turns
