use Rattle.history_text.proofs.WordCounts.{attach_few}
use Rattle.history_text.proofs.job_items.attach_by.Goals as goal

pub returns-in_default : goal.returns-in_default
returns-in_default c = attach_few c.args.words.now c.in_default.len_below
