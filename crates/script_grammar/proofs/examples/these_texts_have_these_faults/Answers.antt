use Rattle.script_grammar.proofs.FaultsComputed.{smallest_are, common_are, cut_off_are, too_large_are, of_rules_are}
use Rattle.script_grammar.proofs.examples.these_texts_have_these_faults.Goals as goal

pub returns-clause-smallest : goal.returns-clause-smallest
returns-clause-smallest c = smallest_are

pub returns-clause-common : goal.returns-clause-common
returns-clause-common c = common_are

pub returns-clause-cut_off : goal.returns-clause-cut_off
returns-clause-cut_off c = cut_off_are

pub returns-clause-too_large : goal.returns-clause-too_large
returns-clause-too_large c = too_large_are

pub returns-clause-of_rules : goal.returns-clause-of_rules
returns-clause-of_rules c = of_rules_are
