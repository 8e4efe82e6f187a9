use Rattle.script_grammar.proofs.SpelledIsProgram.{read-canonical_text}
use Rattle.script_grammar.proofs.laws.a_printed_program_is_read_again.Goals as goal

pub returns : goal.returns
returns c = read-canonical_text
