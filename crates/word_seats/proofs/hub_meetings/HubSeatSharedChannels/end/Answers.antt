use Rattle.word_seats.proofs.SeatsTell.{ended_on_channels, no_calls}
use Rattle.word_seats.proofs.hub_meetings.HubSeatSharedChannels.end.Goals as goal

pub returns-clause-ended : goal.returns-clause-ended
returns-clause-ended g c = ended_on_channels c.args.self.now.hub.now c.args.other.hub.now c.args.self.now.pass c.args.other.pass
    c.end.new.main c.end.ensures.ended

pub returns-clause-none : goal.returns-clause-none
returns-clause-none g c = no_calls c.args.self.now.hub.now c.end.new.main c.end.new.main.ungiven
