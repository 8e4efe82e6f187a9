use Rattle.cell_words.proofs.LooksAtCells.{hub_legal}
use Rattle.parcel_channel.specs.Hubs.{seen_by, floor_by}
use Rattle.parcel_channel.proofs.ClosesSeen.{voided_still}
use Rattle.bridge_tests.proofs.parcels.parcel_calls.drain_one.Goals as goal

pub returns-clause-voided : goal.returns-clause-voided
returns-clause-voided g c =
    let hub = c.args.hub.now in
    let old = c.args.pass.now in
    let new = c.drain.new.pass in
    voided_still hub.parcels old.tag (seen_by old) (seen_by new) (floor_by hub old) (floor_by hub new) c.drain.result
    (hub_legal hub.hub new.pass c.drain.ensures.of.2.0) c.drain.ensures.answer c.requires.voided
