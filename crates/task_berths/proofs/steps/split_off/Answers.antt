use Rattle.std.proofs.Common.{rules, arith}
use Rattle.task_berths.proofs.SeatsComeAndGo.{split_allowed}
use Rattle.task_berths.proofs.steps.split_off.Goals as goal

pub split_seat-requires : goal.split_seat-requires
split_seat-requires g c = (
  search rules,
  omega (arith, c.requires.table.0),
  split_allowed g.T.Tagged.tag_of _ _ c.requires.main.0 c.requires.main.1,
)
