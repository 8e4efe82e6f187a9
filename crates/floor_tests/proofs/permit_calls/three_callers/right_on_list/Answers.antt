use Rattle.std.proofs.Common.{ap, arith, refl}
use Rattle.channel_model.specs.Histories.{acts_of}
use Rattle.floor_tests.proofs.KnownAtFirst.{fresh_there}
use Rattle.floor_tests.proofs.permit_calls.three_callers.right_on_list.Goals as goal

pub right_on-requires : goal.right_on-requires
right_on-requires c =
    let of = c.in_ok-floor.ensures in
    record {
      alone = refl;
      fresh = λ t. fresh_there 8 1 t _ of.shape (omega arith) (omega arith) (of.callers t) (ap (acts_of t) of.seen);
    }
