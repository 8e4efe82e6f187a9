use Rattle.std.proofs.Common.{arith, subst}
use Rattle.script_grammar.specs.WellFormed.{IsProgram}
use Rattle.engine_many.proofs.run.run_tasks.Goals as goal

pub no_tickets-requires-clause-few : goal.no_tickets-requires-clause-few
no_tickets-requires-clause-few g c = omega (arith, c.min-workers.ensures, c.requires.workers.1)

pub run_rounds-requires-clause-few : goal.run_rounds-requires-clause-few
run_rounds-requires-clause-few g c = λ lifetimes. omega (
  arith,
  c.deal.ensures.count,
  c.in_ok-lanes.ensures.count,
  c.min-workers.ensures,
  c.requires.workers.1,
)

pub end_run-requires-clause-script : goal.end_run-requires-clause-script
end_run-requires-clause-script g c = subst IsProgram c.requires.script c.args.script.now.well_formed

pub end_run-requires-clause-rested : goal.end_run-requires-clause-rested
end_run-requires-clause-rested g c = c.in_ok-tasks.ensures.rested

pub returns : goal.returns
returns g c = c.end_run.ensures
