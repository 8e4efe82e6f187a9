use Rattle.cell_words.specs.Hubs.{shape_of, seen_by}
use Rattle.cell_words.proofs.CountersAreTrue.{raises_sends}
use Rattle.cell_words.proofs.counters.raise_sends.Goals as goal

pub lift_word-requires-clause-may : goal.lift_word-requires-clause-may
lift_word-requires-clause-may c = rw c.send_counter.ensures
    (raises_sends (shape_of c.args.hub.now) c.args.c c.args.place (seen_by c.args.pass.now) c.requires.channel c.requires.low)
