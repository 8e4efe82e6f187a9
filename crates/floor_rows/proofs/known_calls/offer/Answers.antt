use Rattle.std.proofs.Common.{sym, subst}
use Rattle.floor_rows.specs.declared.known.Known.{Known}
use Rattle.floor_rows.specs.Known.{KnownThen}
use Rattle.floor_rows.proofs.KnownLater.{offered_then}
use Rattle.floor_rows.proofs.known_calls.offer.Goals as goal

pub returns-clause-then : goal.returns-clause-then
returns-clause-then g c =
    let a = g.F.ChannelFloor.view c.args.floor.now in
    let b = g.F.ChannelFloor.view c.offer-answer.new.self in
    subst (λ (k : Known). KnownThen k a b) (sym c.after_offer.ensures)
    (offered_then c.args.known.now c.args.who c.args.value a b c.offer-answer.result (g.met.F.ChannelFloor.legal c.offer-answer.new.self)
    c.requires.caller c.requires.knows c.offer-answer.ensures.answer)
