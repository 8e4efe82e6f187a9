use Rattle.cell_calls.specs.Desks.{desk_floor}
use Rattle.cell_calls.proofs.CallersStay.{offer_callers, stays_own}
use Rattle.parcel_channel.proofs.CallsOnNumbers.{giving_on, answer_on}
use Rattle.channel_model.specs.Answers.{OfferAnswer}
use Rattle.parcel_channel.proofs.numbers.offer_on.Goals as goal

pub returns-clause-own : goal.returns-clause-own
returns-clause-own c = stays_own c.args.desk.now c.offer.new.self c.args.who c.offer.ensures.anchor
    (offer_callers c.args.who 0 c.args.value (desk_floor c.args.desk.now) (desk_floor c.offer.new.self) c.offer.result
    c.offer.ensures.answer) c.requires.caller

pub returns-clause-answer : goal.returns-clause-answer
returns-clause-answer c = answer_on c.args.desk.now c.offer.new.self c.offer.ensures.anchor
    (λ f. OfferAnswer c.args.who 0 c.args.value (desk_floor c.args.desk.now) f c.offer.result) c.offer.ensures.answer

pub returns-clause-giving : goal.returns-clause-giving
returns-clause-giving c = giving_on c.args.desk.now c.offer.new.self c.offer.ensures.anchor
