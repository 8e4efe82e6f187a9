use Rattle.joined_words.proofs.PartsOfLists.{prefix_in}
use Rattle.joined_words.proofs.PartsOfSteps.{met_all}
use Rattle.joined_words.proofs.seats.hear.Goals as goal

pub returns-clause-heard : goal.returns-clause-heard
returns-clause-heard g c = prefix_in g.Q.HistoryPart.part.read c.args.other.now.me.0.seen c.meet_in.new.seat.me.0.seen
    (met_all c.meet_in.ensures.whole).1

pub returns-clause-all : goal.returns-clause-all
returns-clause-all g c = met_all c.meet_in.ensures.whole
