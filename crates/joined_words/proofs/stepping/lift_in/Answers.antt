use Rattle.std.proofs.Common.{arith}
use Rattle.joined_words.proofs.PartsOfSteps.{at_word, may_lift_at}
use Rattle.joined_words.proofs.stepping.lift_in.Goals as goal

pub overflow_add-at : goal.overflow_add-at
overflow_add-at g c =
    let lt = at_word _ _ _ _ _ _ _ _ _ g.met.P.HistoryPart.is_part c.args.table.now.key c.args.first c.args.word c.requires.word.0
    c.requires.word.1 in
    omega (arith, lt, c.requires.table.1)

pub lift-requires-clause-word : goal.lift-requires-clause-word
lift-requires-clause-word g c = (
  c.requires.table.0,
  at_word _ _ _ _ _ _ _ _ _ g.met.P.HistoryPart.is_part c.args.table.now.key c.args.first c.args.word c.requires.word.0 c.requires.word.1,
)

pub lift-requires-clause-may : goal.lift-requires-clause-may
lift-requires-clause-may g c = may_lift_at _ _ _ _ _ _ _ _ _ g.met.P.HistoryPart.is_part c.args.table.now.key c.args.first
    c.args.seat.now.me.0 c.args.word c.args.least
    c.requires.word.0 c.requires.word.1 c.requires.may
