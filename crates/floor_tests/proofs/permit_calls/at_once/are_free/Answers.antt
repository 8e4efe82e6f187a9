use Rattle.std.proofs.Common.{sym, subst}
use Rattle.cell_calls.specs.HubFloors.{hub_floor}
use Rattle.floor_tests.specs.declared.permit_calls.known_calls.Known.{Known}
use Rattle.floor_tests.specs.KnownPermits.{Knows}
use Rattle.floor_tests.proofs.permit_calls.at_once.are_free.Goals as goal

pub loop-init : goal.loop-init
loop-init c = record {
  of = c.requires.of;
  knows = subst (λ (k : Known). Knows c.args.p.now.c c.args.p.now.n 0 k (hub_floor c.args.hub.now c.args.pass.now))
      (sym c.used-known.ensures)
      (record { uses = c.requires.uses; wait = tt });
}
