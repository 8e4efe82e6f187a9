use Rattle.joined_words.proofs.PartsOfSteps.{took_in}
use Rattle.joined_words.proofs.seats.end_in.Goals as goal

pub returns-clause-took : goal.returns-clause-took
returns-clause-took g c = took_in _ _ _ _ _ _ _ _ _ g.met.P.HistoryPart.is_part c.args.table.now.key c.args.main.now.me.0 c.args.seat.me.0
    c.end.new.main.me.0
    c.end.ensures.took
