use Rattle.script_grammar.proofs.TextsRead.{Spells-from_read}
use Rattle.script_grammar.proofs.laws.what_is_read_is_spelled.Goals as goal

pub returns : goal.returns
returns c = Spells-from_read
