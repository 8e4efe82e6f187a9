use Rattle.std.proofs.Common.{rules, arith}
use Rattle.task_berths.proofs.StepsKeepHomes.{lay_allowed}
use Rattle.task_berths.proofs.steps.lay_down.Goals as goal

pub load-requires : goal.load-requires
load-requires g c = (
  search rules,
  omega (arith, c.requires.table, c.requires.slots),
  lay_allowed g.T.Tagged.tag_of _ _ _ c.args.tag _ (search rules) c.requires.carried.0 c.requires.carried.1 c.requires.has,
)
