use Rattle.cell_calls.specs.Desks.{desk_floor}
use Rattle.cell_calls.proofs.CallersStay.{stays_own}
use Rattle.parcel_channel.proofs.CallsOnNumbers.{giving_on, answer_on, tried_offer_callers}
use Rattle.channel_model.specs.Answers.{TriedOfferAnswer}
use Rattle.parcel_channel.proofs.numbers.try_offer_on.Goals as goal

pub returns-clause-own : goal.returns-clause-own
returns-clause-own c = stays_own c.args.desk.now c.try_offer.new.self c.args.who c.try_offer.ensures.anchor
    (tried_offer_callers c.args.who 0 c.args.value (desk_floor c.args.desk.now) (desk_floor c.try_offer.new.self) c.try_offer.result
    c.try_offer.ensures.answer) c.requires.caller

pub returns-clause-answer : goal.returns-clause-answer
returns-clause-answer c = answer_on c.args.desk.now c.try_offer.new.self c.try_offer.ensures.anchor
    (λ f. TriedOfferAnswer c.args.who 0 c.args.value (desk_floor c.args.desk.now) f c.try_offer.result) c.try_offer.ensures.answer

pub returns-clause-giving : goal.returns-clause-giving
returns-clause-giving c = giving_on c.args.desk.now c.try_offer.new.self c.try_offer.ensures.anchor
