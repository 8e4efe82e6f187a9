use Rattle.std.proofs.Common.{rules, arith}
use Rattle.task_berths.proofs.StepsKeepHomes.{lift_allowed}
use Rattle.task_berths.proofs.steps.lift.Goals as goal

pub load-requires : goal.load-requires
load-requires g c = (
  search rules,
  omega (arith, c.requires.table, c.requires.slots),
  rw c.requires.slots.0 (lift_allowed g.T.Tagged.tag_of _ _ c.args.tag _ (search rules) c.requires.idle.0 c.requires.idle.1
      c.requires.has),
)
