use Rattle.cell_calls.specs.Desks.{desk_floor}
use Rattle.cell_calls.proofs.CallersStay.{stays_own}
use Rattle.parcel_channel.proofs.CallsOnNumbers.{giving_on, answer_on, close_callers}
use Rattle.channel_model.specs.Answers.{CloseAnswer}
use Rattle.parcel_channel.proofs.numbers.close_on.Goals as goal

pub returns-clause-own : goal.returns-clause-own
returns-clause-own c = stays_own c.args.desk.now c.close.new.self c.args.who c.close.ensures.anchor
    (close_callers c.args.who 0 c.args.v (desk_floor c.args.desk.now) (desk_floor c.close.new.self) c.close.result c.close.ensures.answer)
    c.requires.caller

pub returns-clause-answer : goal.returns-clause-answer
returns-clause-answer c = answer_on c.args.desk.now c.close.new.self c.close.ensures.anchor
    (λ f. CloseAnswer c.args.who 0 c.args.v (desk_floor c.args.desk.now) f c.close.result) c.close.ensures.answer

pub returns-clause-giving : goal.returns-clause-giving
returns-clause-giving c = giving_on c.args.desk.now c.close.new.self c.close.ensures.anchor
