use Rattle.word_seats.proofs.SeatsTell.{met_on_channels}
use Rattle.word_seats.proofs.hub_meetings.HubSeatSharedChannels.meet.Goals as goal

pub returns-clause-met : goal.returns-clause-met
returns-clause-met g c = met_on_channels c.args.self.now.hub.now c.args.other.now.hub.now c.args.self.now.pass c.args.other.now.pass
    c.meet.new.a c.meet.new.b c.meet.ensures.met c.meet.ensures.same
