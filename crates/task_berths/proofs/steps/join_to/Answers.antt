use Rattle.std.proofs.Common.{rules, arith}
use Rattle.task_berths.proofs.SeatsComeAndGo.{end_allowed}
use Rattle.task_berths.proofs.steps.join_to.Goals as goal

pub join_seat-requires : goal.join_seat-requires
join_seat-requires g c = (
  search rules,
  search rules,
  search rules,
  omega (arith, c.requires.table.0),
  end_allowed g.T.Tagged.tag_of _ _ _ _ c.requires.main.0 c.requires.main.1 c.requires.seat.1 c.requires.seat.2,
)
