use Rattle.task_berths.proofs.AtHomeOrOut.{at_home_or_out}
use Rattle.task_berths.proofs.laws.each_task_is_at_home_or_out.Goals as goal

pub returns : goal.returns
returns g c = at_home_or_out g.T.Tagged.tag_of
