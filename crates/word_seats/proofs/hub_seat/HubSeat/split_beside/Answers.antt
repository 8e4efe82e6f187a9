use Rattle.std.proofs.Common.{sym, ◌∙◌, ap}
use Rattle.word_rules.specs.Deeds.{shape_of}
use Rattle.cell_words.specs.Hubs.{seen_by}
use Rattle.cell_words.specs.Seen.{on_channels}
use Rattle.joined_words.specs.Parts.{tags_in}
use Rattle.word_seats.proofs.Given.{ungiven}
use Rattle.word_seats.proofs.NewSeats.{same_floor, hub_gives_beside, new_beside}
use Rattle.word_seats.proofs.hub_seat.HubSeat.split_beside.Goals as goal

pub split_beside-seat-requires-clause-new : goal.split_beside-seat-requires-clause-new
unfolding on_channels
split_beside-seat-requires-clause-new g c = ungiven (seen_by c.args.self.now.pass).chief
    (tags_in 1 (seen_by c.args.self.now.pass).given_all) c.args.tag c.requires.new

pub returns-clause-same : goal.returns-clause-same
returns-clause-same g c = same_floor c.args.self.now.hub.now c.args.self.now.pass c.split_beside-seat.new.pass
    c.split_beside-seat.ensures.same c.split_beside-seat.ensures.tags c.split_beside-seat.ensures.order

pub returns-clause-gives : goal.returns-clause-gives
returns-clause-gives g c = hub_gives_beside c.args.self.now.hub.now c.args.self.now.pass c.split_beside-seat.new.pass c.args.tag
    c.requires.new c.split_beside-seat.ensures.gives c.split_beside-seat.ensures.all
