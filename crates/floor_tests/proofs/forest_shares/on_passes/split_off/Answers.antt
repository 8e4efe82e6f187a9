use Rattle.std.proofs.Common.{ap, ◌∙◌}
use Rattle.job_model.specs.Floors.{Floor}
use Rattle.floor_tests.proofs.TagsGivenOut.{gives_more}
use Rattle.floor_tests.proofs.forest_shares.on_passes.split_off.Goals as goal

pub returns-clause-own : goal.returns-clause-own
returns-clause-own c = (c.split.ensures.of, ap (λ (f : Floor). f.callers 0) c.split.ensures.same ∙ c.requires.own.1)

pub returns-clause-gives : goal.returns-clause-gives
returns-clause-gives c = gives_more c.args.forest.now c.args.main.now c.split.new.pass c.args.tag c.requires.gives c.split.ensures.of
    c.split.ensures.gives
