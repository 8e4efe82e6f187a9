use Rattle.std.proofs.Common.{ap, ◌∙◌}
use Rattle.channel_model.specs.Registers.{RegisterOfferAnswer}
use Rattle.cell_words.specs.Seen.{tags_given}
use Rattle.cell_calls.specs.HubFloors.{hub_floor}
use Rattle.cell_calls.specs.Registrations.{StandingFirst}
use Rattle.cell_calls.proofs.CallsTell.{same_floor}
use Rattle.cell_calls.proofs.registering.register_offer.Goals as goal

pub returns-clause-answer : goal.returns-clause-answer
returns-clause-answer c = same_floor c.args.hub.now c.walk_to_offer-registered.new.pass c.raise_sends.new.pass
    (λ f. RegisterOfferAnswer c.args.who c.args.main c.args.clause c.args.c c.args.value (hub_floor c.args.hub.now c.args.pass.now) f
    c.walk_to_offer-registered.result.0) c.raise_sends.ensures.same c.walk_to_offer-registered.ensures.answer

pub returns-clause-first : goal.returns-clause-first
returns-clause-first c = same_floor c.args.hub.now c.walk_to_offer-registered.new.pass c.raise_sends.new.pass
    (λ f. StandingFirst c.args.who c.args.main (hub_floor c.args.hub.now c.args.pass.now) f c.walk_to_offer-registered.result.0)
    c.raise_sends.ensures.same c.walk_to_offer-registered.ensures.first

pub returns-clause-giving : goal.returns-clause-giving
returns-clause-giving c = ap tags_given c.raise_sends.ensures.same ∙ c.walk_to_offer-registered.ensures.giving
