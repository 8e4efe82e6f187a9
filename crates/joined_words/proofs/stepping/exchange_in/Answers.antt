use Rattle.std.proofs.Common.{arith}
use Rattle.joined_words.proofs.PartsOfSteps.{at_word, may_enter_at, exchanged_at}
use Rattle.joined_words.proofs.stepping.exchange_in.Goals as goal

pub overflow_add-at : goal.overflow_add-at
overflow_add-at g c =
    let lt = at_word _ _ _ _ _ _ _ _ _ g.met.P.HistoryPart.is_part c.args.table.now.key c.args.first c.args.word c.requires.word.0
    c.requires.word.1 in
    omega (arith, lt, c.requires.table.1)

pub exchange-requires-clause-word : goal.exchange-requires-clause-word
exchange-requires-clause-word g c = (
  c.requires.table.0,
  at_word _ _ _ _ _ _ _ _ _ g.met.P.HistoryPart.is_part c.args.table.now.key c.args.first c.args.word c.requires.word.0 c.requires.word.1,
)

pub exchange-requires-clause-may : goal.exchange-requires-clause-may
exchange-requires-clause-may g c = may_enter_at _ _ _ _ _ _ _ _ _ g.met.P.HistoryPart.is_part c.args.table.now.key c.args.first
    c.args.seat.now.me.0 c.args.word c.args.old c.args.new c.args.entry.now
    c.requires.word.0 c.requires.word.1 c.requires.may

pub returns-clause-told : goal.returns-clause-told
returns-clause-told g c = exchanged_at _ _ _ _ _ _ _ _ _ g.met.P.HistoryPart.is_part c.args.table.now.key c.args.first c.args.word
    c.args.old c.exchange.result c.args.entry.now
    c.args.seat.now.me.0 c.exchange.new.seat.me.0 c.requires.word.0 c.requires.word.1 c.exchange.ensures.told
