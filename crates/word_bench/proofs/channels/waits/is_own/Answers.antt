use Rattle.cell_words.specs.Hubs.{shape_of, seen_by}
use Rattle.cell_words.proofs.LooksAtCells.{hub_legal}
use Rattle.cell_calls.proofs.OwnCells.{own_told}
use Rattle.word_bench.proofs.channels.waits.is_own.Goals as goal

pub returns-then-word-clause-mine : goal.returns-then-word-clause-mine
returns-then-word-clause-mine c e = own_told (shape_of c.args.hub.now) c.args.place c.args.who (seen_by c.load_cell-word.new.pass).seen
    (hub_legal c.args.hub.now c.load_cell-word.new.pass c.load_cell-word.ensures.own.0) c.load_cell-word.result
    c.load_cell-word.ensures.word c.if-word.true e
