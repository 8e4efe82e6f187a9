use Rattle.cell_words.specs.Hubs.{shape_of, seen_by}
use Rattle.cell_words.proofs.CountersAreTrue.{raises_run, run_is}
use Rattle.cell_words.proofs.counters.lift_run.Goals as goal

pub lift_word-requires-clause-may : goal.lift_word-requires-clause-may
lift_word-requires-clause-may c = rw c.run_word.ensures
    (raises_run (shape_of c.args.hub.now) c.args.c _ (seen_by c.args.pass.now) c.requires.channel
    (run_is _ c.args.c c.args.from c.args.to c.ranges.from.fits c.requires.kept))
