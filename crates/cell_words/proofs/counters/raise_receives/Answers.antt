use Rattle.cell_words.specs.Hubs.{shape_of, seen_by}
use Rattle.cell_words.proofs.CountersAreTrue.{raises_receives}
use Rattle.cell_words.proofs.counters.raise_receives.Goals as goal

pub lift_word-requires-clause-may : goal.lift_word-requires-clause-may
lift_word-requires-clause-may c = rw c.receive_counter.ensures
    (raises_receives (shape_of c.args.hub.now) c.args.c c.args.place (seen_by c.args.pass.now) c.requires.channel c.requires.low)
