use Rattle.cell_calls.specs.Desks.{desk_floor}
use Rattle.cell_calls.proofs.CallersStay.{stays_own}
use Rattle.parcel_channel.proofs.CallsOnNumbers.{giving_on, answer_on, void_callers}
use Rattle.channel_model.specs.Answers.{VoidAnswer}
use Rattle.parcel_channel.proofs.numbers.void_on.Goals as goal

pub returns-clause-own : goal.returns-clause-own
returns-clause-own c = stays_own c.args.desk.now c.void.new.self c.args.who c.void.ensures.anchor
    (void_callers c.args.who 0 (desk_floor c.args.desk.now) (desk_floor c.void.new.self) c.void.result c.void.ensures.answer)
    c.requires.caller

pub returns-clause-answer : goal.returns-clause-answer
returns-clause-answer c = answer_on c.args.desk.now c.void.new.self c.void.ensures.anchor
    (λ f. VoidAnswer c.args.who 0 (desk_floor c.args.desk.now) f c.void.result) c.void.ensures.answer

pub returns-clause-giving : goal.returns-clause-giving
returns-clause-giving c = giving_on c.args.desk.now c.void.new.self c.void.ensures.anchor
