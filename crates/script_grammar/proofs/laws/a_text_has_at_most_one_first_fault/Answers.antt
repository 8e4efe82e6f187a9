use Rattle.script_grammar.proofs.TextsRead.{one_first_fault, fault_again}
use Rattle.script_grammar.proofs.laws.a_text_has_at_most_one_first_fault.Goals as goal

pub returns-clause-one : goal.returns-clause-one
returns-clause-one c = one_first_fault

pub returns-clause-read : goal.returns-clause-read
returns-clause-read c = fault_again
