use mathlib.Core.List.{IsPrefix}
use Rattle.std.proofs.Common.{ap, ◌∙◌, subst}
use Rattle.library_examples.proofs.Prefixes.{longer}
use Rattle.library_examples.proofs.TagsEnded.{both_ended}
use Rattle.library_examples.proofs.rings.left_in.Goals as goal

pub into_rest-requires-clause-first : goal.into_rest-requires-clause-first
into_rest-requires-clause-first g c = c.end.ensures.first (ap (λ x. x.0) c.meet.ensures.met.giving ∙ c.requires.receiver.1)

pub into_rest-requires-clause-ended : goal.into_rest-requires-clause-ended
into_rest-requires-clause-ended g c =
    both_ended c.end.new.main.seat.me.0.given c.meet.new.a.seat.me.0.tags c.end.new.main.seat.me.0.tags c.meet.new.b.seat.me.0.tags
    (ap (λ x. x.1) c.end.ensures.ended.giving ∙ ap (λ x. x.1) c.meet.ensures.met.giving ∙ c.requires.given)
    (c.meet.ensures.met.tags ∙ c.requires.tags.0) (ap (λ s. s.tags) c.meet.ensures.same.1 ∙ c.requires.tags.1)
    c.end.ensures.ended.callers

pub returns : goal.returns
returns g c = record {
  left = record {
    log = c.end.new.main.seat.me.0.seen;
    from_a = longer _ _ _ c.meet.ensures.met.goes_on c.end.ensures.ended.goes_on;
    from_b = subst (λ l. IsPrefix l c.end.new.main.seat.me.0.seen) (ap (λ s. s.seen) c.meet.ensures.same.1) c.end.ensures.ended.told;
    left = c.into_rest.ensures.rest;
  };
}
