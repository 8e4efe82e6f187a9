use Rattle.cell_words.specs.Hubs.{shape_of, seen_by}
use Rattle.cell_words.proofs.LooksAtCells.{hub_legal}
use Rattle.cell_calls.proofs.CallsTell.{made_of, ready_place}
use Rattle.cell_calls.proofs.waiting.settle.Goals as goal
use Rattle.cell_words.proofs.WalksToAdmit.{sees_self}

pub settle_at-requires-clause-at : goal.settle_at-requires-clause-at
settle_at-requires-clause-at c = (
  c.requires.can.channel,
  ready_place (shape_of c.args.hub.now) (seen_by c.args.pass.now).seen c.args.who c.args.w
      (hub_legal c.args.hub.now c.args.pass.now c.requires.of) c.requires.ready,
)

pub returns-clause-answer : goal.returns-clause-answer
returns-clause-answer c = (
  made_of c.args.hub.now c.args.who c.args.pass.now c.settle_at.new.pass (seen_by c.args.pass.now) _
      c.requires.can.caller (sees_self (seen_by c.args.pass.now)) c.settle_at.ensures.settled,
  c.settle_at.ensures.outcome,
)

pub returns-clause-giving : goal.returns-clause-giving
returns-clause-giving c = c.settle_at.ensures.settled.giving
