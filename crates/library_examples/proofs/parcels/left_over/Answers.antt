use Rattle.std.proofs.Common.{ap, ◌∙◌}
use Rattle.library_examples.proofs.TagsEnded.{both_ended}
use Rattle.library_examples.proofs.parcels.left_over.Goals as goal

pub into_rest-requires-clause-first : goal.into_rest-requires-clause-first
into_rest-requires-clause-first c = c.end.ensures.first c.requires.receiver.1

pub into_rest-requires-clause-ended : goal.into_rest-requires-clause-ended
into_rest-requires-clause-ended c =
    both_ended c.end.new.main.seat.me.0.given c.args.receiver.seat.me.0.tags c.end.new.main.seat.me.0.tags c.args.sender.seat.me.0.tags
    (ap (λ x. x.1) c.end.ensures.values.giving ∙ c.requires.given) c.requires.tags.0 c.requires.tags.1 c.end.ensures.values.callers
