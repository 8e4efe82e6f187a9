use Rattle.floor_rows.proofs.KnownLater.{tried_offer_then}
use Rattle.floor_rows.proofs.known_calls.try_offer.Goals as goal

pub returns-clause-then : goal.returns-clause-then
returns-clause-then g c =
    tried_offer_then c.args.known c.args.who c.args.value (g.F.ChannelFloor.view c.args.floor.now) (g.F.ChannelFloor.view c.try_offer.new.self) c.try_offer.result
    (g.met.F.ChannelFloor.legal c.try_offer.new.self) c.requires.knows c.try_offer.ensures.answer
