use Rattle.std.proofs.Common.{rules, arith}
use Rattle.task_berths.proofs.StepsKeepHomes.{leave_allowed}
use Rattle.task_berths.proofs.steps.leave_word.Goals as goal

pub swap-requires : goal.swap-requires
swap-requires g c = (
  search rules,
  omega (arith, c.requires.table),
  leave_allowed g.T.Tagged.tag_of _ _ _ _ c.requires.carried.0 (search rules) c.requires.carried.1 c.requires.carried.2 c.requires.has.1
      c.requires.has.0,
)
