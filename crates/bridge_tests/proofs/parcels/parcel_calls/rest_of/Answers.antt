use Rattle.std.proofs.Common.{ap, ◌∙◌, [], ◌∷◌}
use Rattle.parcel_channel.proofs.PassesEnded.{covers_first, covers_end, all_ended}
use Rattle.bridge_tests.proofs.parcels.parcel_calls.rest_of.Goals as goal

pub into_rest-requires-clause-first : goal.into_rest-requires-clause-first
into_rest-requires-clause-first g c = c.end-2.ensures.first (c.end.ensures.first c.requires.main.1)

pub into_rest-requires-clause-ended : goal.into_rest-requires-clause-ended
into_rest-requires-clause-ended g c =
    let a = c.args.main.seat.me.0.tags in
    let b = c.end.new.main.seat.me.0.tags in
    let d = c.end-2.new.main.seat.me.0.tags in
    let one = covers_end (0 ∷ []) a b c.args.one.seat.me.0.tags 1 c.requires.one.1 c.end.ensures.values.callers
    (covers_first a c.requires.main.3) in
    let two = covers_end (1 ∷ 0 ∷ []) b d c.args.two.seat.me.0.tags 2 c.requires.two.1 c.end-2.ensures.values.callers one in
    all_ended c.end-2.new.main.seat.me.0.given (2 ∷ 1 ∷ 0 ∷ []) d
    (ap (λ x. x.1) c.end-2.ensures.values.giving ∙ ap (λ x. x.1) c.end.ensures.values.giving ∙ c.requires.main.2) two
