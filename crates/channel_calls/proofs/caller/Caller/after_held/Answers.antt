use Rattle.channel_calls.proofs.OwnOffers.{plain_admits, held_then}
use Rattle.channel_calls.proofs.caller.Caller.after_held.Goals as goal

pub settle_offer-requires-clause-plain : goal.settle_offer-requires-clause-plain
settle_offer-requires-clause-plain g c = plain_admits _ (g.met.F.ChannelFloor.legal c.admit_all.new.self.floor.now) c.requires.plain
    c.in-Ok.ensures.answer

pub returns-in-Ok-clause-answer : goal.returns-in-Ok-clause-answer
returns-in-Ok-clause-answer g c = held_then _ _ _ c.in-Ok.ensures.answer c.settle_offer.ensures.answer
