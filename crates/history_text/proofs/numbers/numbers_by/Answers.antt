use Rattle.std.proofs.Common.{sym, ◌∙◌}
use Rattle.history_text.proofs.WordCounts.{numbers_few, numbers_many}
use Rattle.history_text.proofs.numbers.numbers_by.Goals as goal

pub returns-in_default : goal.returns-in_default
returns-in_default c = numbers_few c.args.words.now (sym c.is_empty.ensures ∙ c.if-is_empty.false) c.in_default.len_below

pub returns-in_default-2 : goal.returns-in_default-2
returns-in_default-2 c = numbers_many c.args.words.now c.in_default.len_at_least
