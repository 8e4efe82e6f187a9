use Rattle.cell_calls.specs.Desks.{desk_floor}
use Rattle.cell_calls.proofs.CallersStay.{stays_own}
use Rattle.parcel_channel.proofs.CallsOnNumbers.{giving_on, answer_on, wake_callers}
use Rattle.channel_model.specs.Answers.{WakeAnswer}
use Rattle.parcel_channel.proofs.numbers.wake_closed_on.Goals as goal

pub returns-clause-own : goal.returns-clause-own
returns-clause-own c = stays_own c.args.desk.now c.wake_closed.new.self c.args.who c.wake_closed.ensures.anchor
    (wake_callers c.args.who 0 (desk_floor c.args.desk.now) (desk_floor c.wake_closed.new.self) c.wake_closed.result
    c.wake_closed.ensures.answer) c.requires.caller

pub returns-clause-answer : goal.returns-clause-answer
returns-clause-answer c = answer_on c.args.desk.now c.wake_closed.new.self c.wake_closed.ensures.anchor
    (λ f. WakeAnswer c.args.who 0 (desk_floor c.args.desk.now) f c.wake_closed.result) c.wake_closed.ensures.answer

pub returns-clause-giving : goal.returns-clause-giving
returns-clause-giving c = giving_on c.args.desk.now c.wake_closed.new.self c.wake_closed.ensures.anchor
