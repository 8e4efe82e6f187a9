use Rattle.future_bridge.proofs.StartsGo.{row_here, starts_here, left_here, not_new_here}
use Rattle.future_bridge.proofs.starts.start_first.Goals as goal

pub start_by-requires-clause-row : goal.start_by-requires-clause-row
start_by-requires-clause-row c = row_here c.args.row c.args.pass.now c.args.wait c.in-None.is c.requires.row

pub returns-in-None-clause-starts : goal.returns-in-None-clause-starts
returns-in-None-clause-starts c = starts_here c.args.who c.args.row c.args.pass.now c.start_by.new.pass c.args.wait c.in-None.is
    c.start_by.ensures.started

pub returns-in-Some-clause-starts : goal.returns-in-Some-clause-starts
returns-in-Some-clause-starts c = left_here c.args.who c.args.row c.in-Some._place c.args.pass.now c.args.wait c.in-Some.is

pub returns-in-Some-clause-not_new : goal.returns-in-Some-clause-not_new
returns-in-Some-clause-not_new c = not_new_here c.args.row c.in-Some._place c.args.pass.now c.args.wait c.in-Some.is c.requires.row
