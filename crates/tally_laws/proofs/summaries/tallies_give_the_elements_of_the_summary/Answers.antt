use Rattle.tally_laws.proofs.SummaryFolds.{summary_tallied}
use Rattle.tally_laws.proofs.summaries.tallies_give_the_elements_of_the_summary.Goals as goal

pub returns : goal.returns
returns c = summary_tallied
