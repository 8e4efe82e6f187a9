use Rattle.cell_words.specs.Hubs.{shape_of, seen_by}
use Rattle.cell_words.proofs.LooksAtCells.{sees_then, given_seen, hub_legal}
use Rattle.cell_calls.proofs.ending.end_from.Goals as goal

pub returns-then-sends-receives-clause-sees : goal.returns-then-sends-receives-clause-sees
returns-then-sends-receives-clause-sees c = sees_then (seen_by c.args.pass.now) (seen_by c.sends_from-sends.new.pass)
    (seen_by c.receives_from-receives.new.pass) c.sends_from-sends.ensures.sees c.receives_from-receives.ensures.sees

pub returns-else-sends-receives-clause-sees : goal.returns-else-sends-receives-clause-sees
returns-else-sends-receives-clause-sees c = sees_then (seen_by c.args.pass.now) (seen_by c.sends_from-sends.new.pass)
    (seen_by c.receives_from-receives.new.pass) c.sends_from-sends.ensures.sees c.receives_from-receives.ensures.sees

pub returns-else-sends-receives-clause-given : goal.returns-else-sends-receives-clause-given
returns-else-sends-receives-clause-given c = given_seen (shape_of c.args.hub.now) c.sends_from-sends.result c.args.c
    (seen_by c.sends_from-sends.new.pass) (seen_by c.receives_from-receives.new.pass) c.receives_from-receives.ensures.sees
    (hub_legal c.args.hub.now c.receives_from-receives.new.pass c.receives_from-receives.ensures.own.0) c.sends_from-sends.ensures.low.given
