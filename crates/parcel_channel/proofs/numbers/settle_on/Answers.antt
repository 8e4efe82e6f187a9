use Rattle.cell_calls.specs.Desks.{desk_floor}
use Rattle.cell_calls.proofs.CallersStay.{stays_own}
use Rattle.parcel_channel.proofs.CallsOnNumbers.{giving_on, answer_on}
use Rattle.channel_model.specs.Answers.{SettleAnswer}
use Rattle.parcel_channel.proofs.numbers.settle_on.Goals as goal

pub returns-clause-own : goal.returns-clause-own
returns-clause-own c = stays_own c.args.desk.now c.settle.new.self c.args.who c.settle.ensures.anchor
    (c.settle.ensures.answer.0.same.callers) c.requires.caller

pub returns-clause-answer : goal.returns-clause-answer
returns-clause-answer c = answer_on c.args.desk.now c.settle.new.self c.settle.ensures.anchor
    (λ f. SettleAnswer c.args.who c.args.w c.args.cancelled (desk_floor c.args.desk.now) f c.settle.result) c.settle.ensures.answer

pub returns-clause-giving : goal.returns-clause-giving
returns-clause-giving c = giving_on c.args.desk.now c.settle.new.self c.settle.ensures.anchor
