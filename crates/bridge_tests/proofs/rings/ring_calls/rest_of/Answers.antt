use Rattle.std.proofs.Common.{ap, ◌∙◌}
use Rattle.bridge_tests.proofs.TagsEnded.{all_ended}
use Rattle.bridge_tests.proofs.rings.ring_calls.rest_of.Goals as goal

pub into_rest-requires-clause-first : goal.into_rest-requires-clause-first
into_rest-requires-clause-first g c = c.end-2.ensures.first (c.end.ensures.first c.requires.main.1)

pub into_rest-requires-clause-ended : goal.into_rest-requires-clause-ended
into_rest-requires-clause-ended g c =
    all_ended c.end-2.new.main.seat.me.0.given c.args.main.seat.me.0.tags c.end.new.main.seat.me.0.tags c.end-2.new.main.seat.me.0.tags
    c.args.one.seat.me.0.tags c.args.two.seat.me.0.tags
    (ap (λ x. x.1) c.end-2.ensures.ended.giving ∙ ap (λ x. x.1) c.end.ensures.ended.giving
    ∙ c.requires.main.2) c.requires.main.3 c.requires.one.1 c.requires.two.1 c.end.ensures.ended.callers c.end-2.ensures.ended.callers
