use Rattle.std.proofs.Common.{rules, arith}
use Rattle.parcel_channel.proofs.StepsKeep.{names_at, gives_out}
use Rattle.parcel_channel.proofs.seats.split_off.Goals as goal

pub compare_exchange-requires : goal.compare_exchange-requires
compare_exchange-requires g c = (search rules, omega (arith, c.requires.table.0.words), names_at _ _ _ _ _ _)

pub split_seat-requires : goal.split_seat-requires
split_seat-requires g c = (search rules, omega (arith, c.requires.table.0.words), gives_out _ _ _ (search rules) (search rules))
