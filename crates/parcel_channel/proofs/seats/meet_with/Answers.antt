use Rattle.std.proofs.Common.{rules, arith}
use Rattle.parcel_channel.proofs.StepsKeep.{tells}
use Rattle.parcel_channel.proofs.seats.meet_with.Goals as goal

pub split_seat-told-requires : goal.split_seat-told-requires
split_seat-told-requires g c = (search rules, omega (arith, c.requires.table.0.words), tells _ _ _)
