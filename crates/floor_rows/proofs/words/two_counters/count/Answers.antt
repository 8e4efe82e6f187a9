use Rattle.std.proofs.Common.{◌∙◌}
use Rattle.joined_words.specs.Parts.{view_in}
use Rattle.floor_rows.proofs.TwoCounters.{may_count, idle_after}
use Rattle.floor_rows.proofs.words.two_counters.count.Goals as goal

pub exchange_in-requires-clause-may : goal.exchange_in-requires-clause-may
exchange_in-requires-clause-may g c = may_count (view_in g.P.HistoryPart.part c.args.seat.now.me.0) c.args.n
    (g.P.HistoryPart.part.read c.args.entry.now) c.requires.own

pub returns-clause-seat : goal.returns-clause-seat
returns-clause-seat g c = (
  c.exchange_in.ensures.same.0 ∙ c.requires.seat.0,
  (idle_after _ _ _ _ _ _ _ _ _ c.exchange_in.ensures.whole).0 ∙ c.requires.seat.1,
)

pub returns-clause-idle : goal.returns-clause-idle
returns-clause-idle g c = (idle_after _ _ _ _ _ _ _ _ _ c.exchange_in.ensures.whole).1
