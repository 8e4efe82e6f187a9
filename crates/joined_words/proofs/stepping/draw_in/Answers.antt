use Rattle.std.proofs.Common.{arith}
use Rattle.joined_words.proofs.PartsOfSteps.{at_word, may_draw_at, entered_at}
use Rattle.joined_words.proofs.stepping.draw_in.Goals as goal

pub overflow_add-at : goal.overflow_add-at
overflow_add-at g c =
    let lt = at_word _ _ _ _ _ _ _ _ _ g.met.P.HistoryPart.is_part c.args.table.now.key c.args.first c.args.word c.requires.word.0
    c.requires.word.1 in
    omega (arith, lt, c.requires.table.1)

pub draw-requires-clause-word : goal.draw-requires-clause-word
draw-requires-clause-word g c = (
  c.requires.table.0,
  at_word _ _ _ _ _ _ _ _ _ g.met.P.HistoryPart.is_part c.args.table.now.key c.args.first c.args.word c.requires.word.0 c.requires.word.1,
)

pub draw-requires-clause-may : goal.draw-requires-clause-may
draw-requires-clause-may g c = may_draw_at _ _ _ _ _ _ _ _ _ g.met.P.HistoryPart.is_part c.args.table.now.key c.args.first
    c.args.seat.now.me.0 c.args.word _ _
    c.requires.word.0 c.requires.word.1 c.requires.one c.requires.may

pub returns-clause-entered : goal.returns-clause-entered
returns-clause-entered g c = entered_at _ _ _ _ _ _ _ _ _ g.met.P.HistoryPart.is_part c.args.table.now.key c.args.first c.args.word
    c.draw.result _ _ c.args.seat.now.me.0 c.draw.new.seat.me.0
    c.requires.word.0 c.requires.word.1 (c.requires.one c.draw.result) c.draw.ensures.entered
