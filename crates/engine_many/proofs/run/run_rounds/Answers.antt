use Rattle.std.proofs.Common.{◌<◌, sym, subst, ◌∙◌, arith}
use Rattle.script_grammar.specs.WellFormed.{IsProgram}
use Rattle.run_laws.specs.Sights.{CountUp}
use Rattle.run_laws.proofs.Lists.{same_length, some_coroutine}
use Rattle.engine_many.specs.Parts.{tag_of}
use Rattle.engine_many.proofs.run.run_rounds.Goals as goal

pub last_round-requires-clause-some : goal.last_round-requires-clause-some
last_round-requires-clause-some g c = subst (λ n. 0 < n) (sym c.in_ok-left.ensures.count)
    (some_coroutine g.N.ScriptName.program (subst IsProgram c.requires.script c.args.script.now.well_formed))

pub returns-then-not-moved-clause-count : goal.returns-then-not-moved-clause-count
returns-then-not-moved-clause-count g c =
    same_length tag_of c.in_ok-left.left.items c.in_ok-polled.polled.items c.in_ok-polled.ensures.tags ∙ c.in_ok-left.ensures.count

pub returns-then-not-moved-clause-tags : goal.returns-then-not-moved-clause-tags
returns-then-not-moved-clause-tags g c = subst (CountUp 0) (sym c.in_ok-polled.ensures.tags) c.in_ok-left.ensures.tags

pub rounds-preserved : goal.rounds-preserved
rounds-preserved g c = record {
  finite = (tt, tt);
  count = same_length tag_of c.in_ok-left.left.items c.in_ok-polled.polled.items c.in_ok-polled.ensures.tags ∙ c.in_ok-left.ensures.count;
  tags = subst (CountUp 0) (sym c.in_ok-polled.ensures.tags) c.in_ok-left.ensures.tags;
  some = omega (arith, c.in_ok-left.ensures.lanes);
  few = omega (arith, c.in_ok-left.ensures.lanes);
}

pub rounds-init : goal.rounds-init
rounds-init g c = record {
  finite = (tt, tt);
  count = c.requires.count;
  tags = c.requires.tags;
  some = c.requires.some;
  few = c.requires.few;
}

pub index_mut-requires : goal.index_mut-requires
index_mut-requires g c = omega (arith, c.in_ok-left.ensures.lanes, c.rounds.invariant.some)
