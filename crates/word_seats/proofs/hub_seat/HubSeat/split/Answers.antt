use Rattle.cell_words.specs.Hubs.{seen_by}
use Rattle.word_seats.proofs.Given.{ungiven}
use Rattle.word_seats.proofs.NewSeats.{same_floor, hub_gives, new_floor}
use Rattle.word_seats.proofs.hub_seat.HubSeat.split.Goals as goal

pub split-requires-clause-new : goal.split-requires-clause-new
split-requires-clause-new g c = ungiven (seen_by c.args.self.now.pass).chief (seen_by c.args.self.now.pass).given c.args.tag c.requires

pub returns-clause-same : goal.returns-clause-same
returns-clause-same g c = same_floor c.args.self.now.hub.now c.args.self.now.pass c.split.new.pass c.split.ensures.same c.split.ensures.tags
    c.split.ensures.order.0

pub returns-clause-gives : goal.returns-clause-gives
returns-clause-gives g c = hub_gives c.args.self.now.hub.now c.args.self.now.pass c.split.new.pass c.args.tag c.requires
    c.split.ensures.gives c.split.ensures.all

pub returns-clause-seat : goal.returns-clause-seat
returns-clause-seat g c = new_floor c.args.self.now.hub.now c.args.self.now.pass c.split.result c.args.tag c.split.ensures.callers
    c.split.ensures.sees c.split.ensures.none
