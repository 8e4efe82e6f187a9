use Rattle.std.proofs.Common.{rules, arith}
use Rattle.task_berths.proofs.StepsKeepHomes.{claim_allowed}
use Rattle.task_berths.proofs.steps.claim.Goals as goal

pub compare_exchange-requires : goal.compare_exchange-requires
compare_exchange-requires g c = (
  search rules,
  omega (arith, c.requires.table),
  claim_allowed g.T.Tagged.tag_of _ _ _ _ _ (search rules) c.requires.idle.0 c.requires.idle.1 c.requires.idle.2 c.requires.idle.3,
)
