use Rattle.std.proofs.Common.{arith, rules}
use Rattle.cell_words.specs.Hubs.{shape_of, seen_by}
use Rattle.cell_words.proofs.LooksAtCells.{hub_legal}
use Rattle.cell_calls.proofs.CallsTell.{no_more_places, not_open, voided_of, void_giving}
use Rattle.cell_calls.proofs.cancelling.void.Goals as goal

pub void_at-requires-clause-at : goal.void_at-requires-clause-at
void_at-requires-clause-at c = (
  c.requires.can.channel,
  no_more_places (shape_of c.args.hub.now) (seen_by c.find_end-place.new.pass).seen c.args.c _
      (hub_legal c.args.hub.now c.find_end-place.new.pass c.find_end-place.ensures.own.0) (let e = c.find_end-place.ensures.end.0
      in omega arith),
)

pub unreachable-requires : goal.unreachable-requires
unreachable-requires c = not_open (shape_of c.args.hub.now) c.args.c (seen_by c.args.pass.now) (seen_by c.find_end-place.new.pass)
    c.find_end-place.ensures.sees (hub_legal c.args.hub.now c.find_end-place.new.pass c.find_end-place.ensures.own.0) c.requires.closed
    (search rules)

pub returns-clause-answer : goal.returns-clause-answer
returns-clause-answer c = voided_of c.args.hub.now c.args.who c.args.pass.now c.void_at.new.pass (seen_by c.find_end-place.new.pass)
    c.args.c c.requires.can.caller c.find_end-place.ensures.sees c.void_at.result c.void_at.ensures.voided

pub returns-clause-giving : goal.returns-clause-giving
returns-clause-giving c = void_giving c.args.hub.now c.args.who c.args.pass.now c.void_at.new.pass (seen_by c.find_end-place.new.pass)
    c.args.c c.find_end-place.ensures.sees c.void_at.result c.void_at.ensures.voided
