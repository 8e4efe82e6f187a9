use Rattle.cell_calls.specs.Desks.{desk_floor}
use Rattle.channel_model.specs.declared.acts.Why.TheVariants as why
use Rattle.cell_calls.proofs.CallersStay.{withdraw_callers, stays_own}
use Rattle.parcel_channel.proofs.CallsOnNumbers.{giving_on, answer_on}
use Rattle.channel_model.specs.Answers.{WithdrawAnswer}
use Rattle.parcel_channel.proofs.numbers.withdraw_on.Goals as goal

pub returns-clause-own : goal.returns-clause-own
returns-clause-own c = stays_own c.args.desk.now c.withdraw.new.self c.args.who c.withdraw.ensures.anchor
    (withdraw_callers c.args.who c.args.w why.Cancelled (desk_floor c.args.desk.now) (desk_floor c.withdraw.new.self) c.withdraw.result
    c.withdraw.ensures.answer) c.requires.caller

pub returns-clause-answer : goal.returns-clause-answer
returns-clause-answer c = answer_on c.args.desk.now c.withdraw.new.self c.withdraw.ensures.anchor
    (λ f. WithdrawAnswer c.args.who c.args.w why.Cancelled (desk_floor c.args.desk.now) f c.withdraw.result) c.withdraw.ensures.answer

pub returns-clause-giving : goal.returns-clause-giving
returns-clause-giving c = giving_on c.args.desk.now c.withdraw.new.self c.withdraw.ensures.anchor
