use Rattle.std.proofs.Common.{ap, ◌∙◌}
use Rattle.word_rules.specs.declared.size.ForestSize.{ForestSize}
use Rattle.forest_calls.proofs.PassesStayOwn.{stays_own, gives_on}
use Rattle.floor_tests.proofs.forest_shares.on_passes.make_on.Goals as goal

pub make-requires-clause-size : goal.make-requires-clause-size
make-requires-clause-size c = ap (λ (k : ForestSize). k.coroutines) c.args.ranger.now.of.1 ∙ c.requires.size

pub returns-clause-own : goal.returns-clause-own
returns-clause-own c =
    stays_own c.args.ranger.now c.make.new.jobs c.args.who c.make.ensures.anchor c.make.ensures.same c.requires.caller

pub returns-clause-giving : goal.returns-clause-giving
returns-clause-giving c = gives_on c.args.ranger.now c.make.new.jobs c.make.ensures.anchor
