use Rattle.tally_laws.proofs.Summarised.{summary_told}
use Rattle.tally_laws.proofs.summaries.the_summary_of_a_run_is_told_by_its_tallies.Goals as goal

pub returns : goal.returns
returns c = summary_told
