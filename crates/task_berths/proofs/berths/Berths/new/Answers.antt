use Rattle.std.proofs.Common.{rules}
use Rattle.task_berths.proofs.OpensAndCloses.{opens}
use Rattle.task_berths.proofs.berths.Berths.new.Goals as goal

pub new-requires : goal.new-requires
new-requires g c = opens g.T.Tagged.tag_of _ _ (search rules) (search rules) c.in_ok-slots.ensures.home.1
