use Rattle.std.proofs.Common.{rules, arith}
use Rattle.task_berths.proofs.StepsKeepHomes.{ask_allowed}
use Rattle.task_berths.proofs.steps.ask.Goals as goal

pub compare_exchange-requires : goal.compare_exchange-requires
compare_exchange-requires g c = (
  search rules,
  omega (arith, c.requires.table),
  ask_allowed g.T.Tagged.tag_of _ _ _ _ _ (search rules) c.requires.out.0 c.requires.out.1 c.requires.out.2,
)
