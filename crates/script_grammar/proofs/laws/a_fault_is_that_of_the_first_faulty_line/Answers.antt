use Rattle.script_grammar.proofs.TextsRead.{first_fault}
use Rattle.script_grammar.proofs.laws.a_fault_is_that_of_the_first_faulty_line.Goals as goal

pub returns : goal.returns
returns c = first_fault
