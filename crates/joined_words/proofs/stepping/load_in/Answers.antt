use Rattle.std.proofs.Common.{arith}
use Rattle.joined_words.proofs.PartsOfSteps.{at_word, loaded_at}
use Rattle.joined_words.proofs.stepping.load_in.Goals as goal

pub overflow_add-at : goal.overflow_add-at
overflow_add-at g c =
    let lt = at_word _ _ _ _ _ _ _ _ _ g.met.P.HistoryPart.is_part c.args.table.now.key c.args.first c.args.word c.requires.word.0
    c.requires.word.1 in
    omega (arith, lt, c.requires.table.1)

pub load-requires-clause-word : goal.load-requires-clause-word
load-requires-clause-word g c = (
  c.requires.table.0,
  at_word _ _ _ _ _ _ _ _ _ g.met.P.HistoryPart.is_part c.args.table.now.key c.args.first c.args.word c.requires.word.0 c.requires.word.1,
)

pub returns-clause-loaded : goal.returns-clause-loaded
returns-clause-loaded g c = loaded_at _ _ _ _ _ _ _ _ _ g.met.P.HistoryPart.is_part c.args.table.now.key c.args.first c.args.word
    c.load.result c.args.seat.now.me.0 c.load.new.seat.me.0
    c.requires.word.0 c.requires.word.1 c.load.ensures.loaded
