use Rattle.std.proofs.Common.{arith}
use Rattle.cell_words.specs.Hubs.{shape_of, seen_by}
use Rattle.cell_words.proofs.LooksAtCells.{hub_legal}
use Rattle.cell_words.proofs.CountsOfDecided.{decided_within}
use Rattle.cell_words.proofs.decided.up_to.Goals as goal

pub drop_back-requires-clause-at : goal.drop_back-requires-clause-at
drop_back-requires-clause-at c = (
  c.requires.at.0,
  decided_within (shape_of c.args.hub.now) (seen_by c.args.pass.now).seen c.args.c c.args.known.from c.args.known.to c.args.known.count
      (hub_legal c.args.hub.now c.args.pass.now c.requires.own.0) (omega (arith, c.if-known-end.true, c.requires.within))
      c.requires.decided,
)
