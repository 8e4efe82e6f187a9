use Rattle.script_grammar.proofs.TextPrinted.{Spells-canonical_text}
use Rattle.script_grammar.proofs.laws.the_canonical_text_of_a_program_spells_it.Goals as goal

pub returns : goal.returns
returns c = Spells-canonical_text
