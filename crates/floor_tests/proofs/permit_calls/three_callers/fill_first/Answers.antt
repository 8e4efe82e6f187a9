use Rattle.floor_tests.proofs.KnownAtFirst.{all_filled}
use Rattle.floor_tests.proofs.permit_calls.three_callers.fill_first.Goals as goal

pub returns-in-Ok : goal.returns-in-Ok
returns-in-Ok g c = record {
  knows = all_filled c.none_held.result _ _ (g.met.F.ChannelFloor.legal c.fill_on.new.floor) c.requires.alone c.requires.fresh c.fill_on.ensures.adds
      c.in-Ok.ensures.uses c.none_held.ensures.a c.none_held.ensures.b c.none_held.ensures.c;
}

pub fill_on-requires : goal.fill_on-requires
fill_on-requires g c = record { may = c.requires.fresh 0 }
