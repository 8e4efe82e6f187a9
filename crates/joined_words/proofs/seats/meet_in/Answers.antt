use Rattle.joined_words.proofs.PartsOfSteps.{met_in}
use Rattle.joined_words.proofs.seats.meet_in.Goals as goal

pub returns-clause-met : goal.returns-clause-met
returns-clause-met g c = met_in _ _ _ _ _ _ _ _ _ g.met.P.HistoryPart.is_part c.args.table.now.key c.args.seat.now.me.0 c.meet.new.seat.me.0
    c.args.other.now.me.0.seen c.meet.ensures.met
