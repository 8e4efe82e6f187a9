use Rattle.cell_words.specs.Hubs.{shape_of, seen_by}
use Rattle.cell_words.proofs.CountersAreTrue.{hint_fits}
use Rattle.cell_words.proofs.LooksAtCells.{hub_legal}
use Rattle.cell_words.proofs.counters.sends_from.Goals as goal

pub overflow_cast-result : goal.overflow_cast-result
overflow_cast-result c =
    let h = c.load_word.ensures in
    record {
      fits = (hint_fits (shape_of c.args.hub.now) c.args.c _ _ (seen_by c.load_word.new.pass).seen
          (hub_legal c.args.hub.now c.load_word.new.pass h.own.0) (c.args.hub.now.sized.places c.args.c c.requires.channel).few
          (h.found.sends c.args.c c.requires.channel c.send_counter.ensures)).0;
    }
