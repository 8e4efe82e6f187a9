use Rattle.script_grammar.proofs.SpelledIsProgram.{IsProgram-from_Spells}
use Rattle.script_grammar.proofs.laws.what_is_spelled_is_a_program.Goals as goal

pub returns : goal.returns
returns c = IsProgram-from_Spells
