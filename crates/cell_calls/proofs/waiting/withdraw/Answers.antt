use Rattle.std.proofs.Common.{refl}
use Rattle.cell_words.specs.Hubs.{shape_of, seen_by}
use Rattle.cell_words.proofs.LooksAtCells.{hub_legal}
use Rattle.cell_calls.proofs.CallsTell.{looked_of, made_of, wait_place}
use Rattle.cell_calls.proofs.waiting.withdraw.Goals as goal
use Rattle.cell_words.proofs.WalksToAdmit.{sees_self}

pub withdraw_at-requires-clause-at : goal.withdraw_at-requires-clause-at
withdraw_at-requires-clause-at c = (
  c.requires.can.channel,
  wait_place (shape_of c.args.hub.now) (seen_by c.args.pass.now).seen c.args.who c.args.w
      (hub_legal c.args.hub.now c.args.pass.now c.requires.of) c.requires.own,
)

pub returns-then-withdraw_at-clause-answer : goal.returns-then-withdraw_at-clause-answer
returns-then-withdraw_at-clause-answer c = (
  made_of c.args.hub.now c.args.who c.args.pass.now c.withdraw_at.new.pass
      (seen_by c.args.pass.now) _ c.requires.can.caller (sees_self (seen_by c.args.pass.now)) c.if-withdraw_at.ensures.done,
  refl,
)

pub returns-else-withdraw_at-clause-answer : goal.returns-else-withdraw_at-clause-answer
returns-else-withdraw_at-clause-answer c = (
  looked_of c.args.hub.now c.args.who c.args.pass.now c.withdraw_at.new.pass c.requires.can.caller
      c.if-withdraw_at.ensures.done.0,
  c.if-withdraw_at.ensures.done.1,
)

pub returns-then-withdraw_at-clause-giving : goal.returns-then-withdraw_at-clause-giving
returns-then-withdraw_at-clause-giving c = c.if-withdraw_at.ensures.done.giving

pub returns-else-withdraw_at-clause-giving : goal.returns-else-withdraw_at-clause-giving
returns-else-withdraw_at-clause-giving c = c.if-withdraw_at.ensures.done.0.giving
