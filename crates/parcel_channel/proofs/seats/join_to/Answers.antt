use Rattle.std.proofs.Common.{rules, arith}
use Rattle.parcel_channel.proofs.StepsKeep.{hears}
use Rattle.parcel_channel.proofs.seats.join_to.Goals as goal

pub join_seat-requires : goal.join_seat-requires
join_seat-requires g c = (
  search rules,
  search rules,
  search rules,
  omega (arith, c.requires.table.0.words),
  hears _ _ _ _ _ c.requires.main.1 c.requires.idle,
)
