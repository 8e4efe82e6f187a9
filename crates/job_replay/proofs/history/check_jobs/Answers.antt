use Rattle.std.proofs.Common.{◌-◌, arith, drop, length, length-drop}
use Rattle.std.proofs.lemmas.List.{take_all}
use Rattle.job_replay.proofs.Walks.{begun, goes_on, stops}
use Rattle.job_replay.proofs.history.check_jobs.Goals as goal

pub loop-rest-init : goal.loop-rest-init
loop-rest-init c = begun _ c.args.entries.now c.in_ok-tree.tree c.in_ok-tree.ensures.size c.in_ok-tree.ensures.tree

pub returns-then-not-step : goal.returns-then-not-step
returns-then-not-step c =
    stops _ c.args.entries.now c.loop-rest.number c.loop-rest.rest.now _ c.loop-rest.tree c.step.new.self c.loop-rest.invariant
    c.in-len1-up.len_at_least c.if-not-step.ensures.step

pub loop-rest-preserved : goal.loop-rest-preserved
loop-rest-preserved c =
    let rest = c.loop-rest.rest.now in
    goes_on _ c.args.entries.now c.loop-rest.number rest _ _ c.loop-rest.tree c.step.new.self c.loop-rest.invariant
    c.in-len1-up.len_at_least (take_all (length rest - 1) (drop 1 rest) (omega (arith, length-drop 1 rest))) c.if-not-step.ensures.size
    c.if-not-step.ensures.step
