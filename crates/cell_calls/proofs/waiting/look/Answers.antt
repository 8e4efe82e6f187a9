use Rattle.std.proofs.Common.{◌≡◌, Some}
use Rattle.channel_model.specs.Channels.{State}
use Rattle.channel_model.specs.Answers.{state_of_wait}
use Rattle.cell_words.specs.Hubs.{shape_of, seen_by}
use Rattle.cell_words.proofs.LooksAtCells.{hub_legal}
use Rattle.cell_calls.proofs.CallsTell.{looked_of, step_of, prefix_self, wait_place}
use Rattle.cell_calls.proofs.waiting.look.Goals as goal

pub look_at-requires-clause-at : goal.look_at-requires-clause-at
look_at-requires-clause-at c = (
  c.requires.can.channel,
  wait_place (shape_of c.args.hub.now) (seen_by c.args.pass.now).seen c.args.who c.args.w
      (hub_legal c.args.hub.now c.args.pass.now c.requires.of) c.requires.own,
)

pub returns-clause-answer : goal.returns-clause-answer
returns-clause-answer c =
    let h = c.look_at.ensures in (
      looked_of c.args.hub.now c.args.who c.args.pass.now c.look_at.new.pass c.requires.can.caller h.sees,
      step_of c.args.hub.now c.args.who c.args.pass.now c.look_at.new.pass (seen_by c.look_at.new.pass)
          (λ (s : State). state_of_wait (s.waits c.args.w) ≡ Some c.look_at.result) h.sees (prefix_self (seen_by c.look_at.new.pass).seen)
          h.state,
    )

pub returns-clause-giving : goal.returns-clause-giving
returns-clause-giving c = c.look_at.ensures.sees.giving
