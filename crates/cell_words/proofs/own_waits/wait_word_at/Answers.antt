use Rattle.std.proofs.Common.{sym}
use Rattle.cell_words.proofs.own_waits.wait_word_at.Goals as goal

pub load_wait-requires-clause-number : goal.load_wait-requires-clause-number
load_wait-requires-clause-number c = record { wait = c.args.w; at = c.requires.at; is = sym c.number_of-cell.ensures }

pub returns-clause-word : goal.returns-clause-word
returns-clause-word c = c.load_wait.ensures.word c.args.w c.requires.at (sym c.number_of-cell.ensures)
