use Rattle.std.proofs.Common.{subst, arith}
use Rattle.script_grammar.specs.WellFormed.{IsProgram}
use Rattle.run_laws.proofs.Lists.{have_tags, count_up, few_coroutines}
use Rattle.engine_many.specs.Parts.{tag_of}
use Rattle.engine_many.proofs.run.run_tickets.Goals as goal

pub run_crew-requires-clause-few : goal.run_crew-requires-clause-few
run_crew-requires-clause-few g c = let few = few_coroutines g.N.ScriptName.program
    (subst IsProgram c.requires.script c.args.script.now.well_formed) in let n = c.requires.count in omega (arith, few, n)

pub run_crew-requires-clause-tags : goal.run_crew-requires-clause-tags
run_crew-requires-clause-tags g c κs within = have_tags tag_of c.args.tasks.items c.requires.tags

pub returns-clause-tags : goal.returns-clause-tags
returns-clause-tags g c = count_up tag_of c.in_ok-left.left.items c.in_ok-left.ensures.tags
