use Rattle.cell_calls.specs.Desks.{desk_floor}
use Rattle.cell_calls.proofs.CallersStay.{stays_own}
use Rattle.parcel_channel.proofs.CallsOnNumbers.{giving_on, answer_on}
use Rattle.channel_model.specs.Answers.{LookAnswer}
use Rattle.parcel_channel.proofs.numbers.look_on.Goals as goal

pub returns-clause-own : goal.returns-clause-own
returns-clause-own c = stays_own c.args.desk.now c.look.new.self c.args.who c.look.ensures.anchor (c.look.ensures.answer.0.same.callers)
    c.requires.caller

pub returns-clause-answer : goal.returns-clause-answer
returns-clause-answer c = answer_on c.args.desk.now c.look.new.self c.look.ensures.anchor
    (λ f. LookAnswer c.args.who c.args.w (desk_floor c.args.desk.now) f c.look.result) c.look.ensures.answer

pub returns-clause-giving : goal.returns-clause-giving
returns-clause-giving c = giving_on c.args.desk.now c.look.new.self c.look.ensures.anchor
