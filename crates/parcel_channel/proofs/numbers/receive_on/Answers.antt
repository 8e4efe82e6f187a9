use Rattle.cell_calls.specs.Desks.{desk_floor}
use Rattle.cell_calls.proofs.CallersStay.{got_callers, stays_own}
use Rattle.parcel_channel.proofs.CallsOnNumbers.{giving_on, answer_on}
use Rattle.channel_model.specs.Answers.{GotAnswer}
use Rattle.parcel_channel.proofs.numbers.receive_on.Goals as goal

pub returns-clause-own : goal.returns-clause-own
returns-clause-own c = stays_own c.args.desk.now c.receive.new.self c.args.who c.receive.ensures.anchor
    (got_callers c.args.who 0 (desk_floor c.args.desk.now) (desk_floor c.receive.new.self) c.receive.result c.receive.ensures.answer)
    c.requires.caller

pub returns-clause-answer : goal.returns-clause-answer
returns-clause-answer c = answer_on c.args.desk.now c.receive.new.self c.receive.ensures.anchor
    (λ f. GotAnswer c.args.who 0 (desk_floor c.args.desk.now) f c.receive.result) c.receive.ensures.answer

pub returns-clause-giving : goal.returns-clause-giving
returns-clause-giving c = giving_on c.args.desk.now c.receive.new.self c.receive.ensures.anchor
