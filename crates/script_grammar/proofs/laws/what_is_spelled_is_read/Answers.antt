use Rattle.script_grammar.proofs.TextsRead.{read-from_Spells}
use Rattle.script_grammar.proofs.laws.what_is_spelled_is_read.Goals as goal

pub returns : goal.returns
returns c = read-from_Spells
