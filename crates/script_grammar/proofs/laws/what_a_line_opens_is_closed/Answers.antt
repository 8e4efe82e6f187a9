use Rattle.script_grammar.proofs.OpenedIsClosed.{program-closes}
use Rattle.script_grammar.proofs.laws.what_a_line_opens_is_closed.Goals as goal

pub returns : goal.returns
returns c = program-closes
