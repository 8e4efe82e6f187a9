use Rattle.task_berths.proofs.WordsSayWhere.{says_where}
use Rattle.task_berths.proofs.laws.each_word_says_where_its_task_is.Goals as goal

pub returns : goal.returns
returns c = says_where
