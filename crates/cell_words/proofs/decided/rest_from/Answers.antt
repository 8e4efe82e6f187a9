use Rattle.std.proofs.Common.{refl}
use Rattle.cell_words.specs.Hubs.{shape_of, seen_by}
use Rattle.cell_words.proofs.PlacesDecided.{decided_none}
use Rattle.cell_words.proofs.decided.rest_from.Goals as goal

pub returns-then-low-word-clause-decided : goal.returns-then-low-word-clause-decided
returns-then-low-word-clause-decided c = decided_none (shape_of c.args.hub.now) (seen_by c.args.pass.now).seen c.args.c c.args.low
    c.args.low 0 refl refl
