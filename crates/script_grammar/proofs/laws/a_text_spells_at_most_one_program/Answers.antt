use Rattle.script_grammar.proofs.SpelledOnce.{spelled_once}
use Rattle.script_grammar.proofs.laws.a_text_spells_at_most_one_program.Goals as goal

pub returns : goal.returns
returns c = spelled_once
