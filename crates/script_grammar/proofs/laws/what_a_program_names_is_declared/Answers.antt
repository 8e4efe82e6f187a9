use Rattle.script_grammar.proofs.NamedIsDeclared.{Declares-from_program}
use Rattle.script_grammar.proofs.laws.what_a_program_names_is_declared.Goals as goal

pub returns : goal.returns
returns c = Declares-from_program
