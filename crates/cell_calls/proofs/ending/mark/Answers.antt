use Rattle.std.proofs.Common.{◌≡◌}
use Rattle.channel_model.specs.Channels.{State}
use Rattle.cell_calls.proofs.CallsTell.{looked_of, step_of, prefix_self}
use Rattle.cell_words.specs.Hubs.{seen_by}
use Rattle.cell_calls.proofs.ending.mark.Goals as goal

pub returns-clause-answer : goal.returns-clause-answer
returns-clause-answer c = (
  looked_of c.args.hub.now c.args.who c.args.pass.now c.find_end.new.pass c.requires.can.caller c.find_end.ensures.sees,
  step_of c.args.hub.now c.args.who c.args.pass.now c.find_end.new.pass (seen_by c.find_end.new.pass)
      (λ (s : State). (s.channels c.args.c).next ≡ c.find_end.result.0) c.find_end.ensures.sees
      (prefix_self (seen_by c.find_end.new.pass).seen) c.find_end.ensures.end.0,
)

pub returns-clause-giving : goal.returns-clause-giving
returns-clause-giving c = c.find_end.ensures.sees.giving
