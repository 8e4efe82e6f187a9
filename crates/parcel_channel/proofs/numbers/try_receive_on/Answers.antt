use Rattle.cell_calls.specs.Desks.{desk_floor}
use Rattle.cell_calls.proofs.CallersStay.{stays_own}
use Rattle.parcel_channel.proofs.CallsOnNumbers.{giving_on, answer_on, tried_callers}
use Rattle.channel_model.specs.Answers.{TriedGotAnswer}
use Rattle.parcel_channel.proofs.numbers.try_receive_on.Goals as goal

pub returns-clause-own : goal.returns-clause-own
returns-clause-own c = stays_own c.args.desk.now c.try_receive.new.self c.args.who c.try_receive.ensures.anchor
    (tried_callers c.args.who 0 (desk_floor c.args.desk.now) (desk_floor c.try_receive.new.self) c.try_receive.result
    c.try_receive.ensures.answer) c.requires.caller

pub returns-clause-answer : goal.returns-clause-answer
returns-clause-answer c = answer_on c.args.desk.now c.try_receive.new.self c.try_receive.ensures.anchor
    (λ f. TriedGotAnswer c.args.who 0 (desk_floor c.args.desk.now) f c.try_receive.result) c.try_receive.ensures.answer

pub returns-clause-giving : goal.returns-clause-giving
returns-clause-giving c = giving_on c.args.desk.now c.try_receive.new.self c.try_receive.ensures.anchor
