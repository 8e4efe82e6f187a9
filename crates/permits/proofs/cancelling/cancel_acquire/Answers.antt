use Rattle.permits.proofs.UsesGo.{count_small, one_more_fits, uses_cancelling, uses_cancelling_none, ends_then, ends_given, ends_alone}
use Rattle.permits.specs.Answers.{StopsEarly}
use Rattle.permits.specs.Parts.{UsesPermits}
use Rattle.std.proofs.Common.{refl, subst, sym, ◌+◌}
use Rattle.permits.proofs.cancelling.cancel_acquire.Goals as goal

pub overflow_add-held : goal.overflow_add-held
overflow_add-held g c =
    let f = c.args.x.now.floor.now in
    one_more_fits c.args.held.now (count_small _ _ _ _ _ (g.met.F.ChannelFloor.legal f) (g.met.F.ChannelFloor.shaped f) c.requires.uses)

pub give_back-requires-clause-uses : goal.give_back-requires-clause-uses
give_back-requires-clause-uses g c =
    subst (λ k. UsesPermits c.args.p.now.c c.args.p.now.n k (c.args.held.now + 1) (g.F.ChannelFloor.view c.end_once.new.x.floor.now))
    (sym c.end_once.ensures.same.who)
    (uses_cancelling c.requires.here (rw c.in-Ok-Undelivered.field-0-is at c.in-Ok-Undelivered.ensures.answer) c.requires.uses)

pub returns-in-Ok-Done-clause-answer : goal.returns-in-Ok-Done-clause-answer
returns-in-Ok-Done-clause-answer g c =
    ends_given (rw c.in-Ok-Undelivered.field-0-is at c.in-Ok-Undelivered.ensures.answer)
    (rw c.in-Ok-Done.field-0-is at c.in-Ok-Done.ensures.answer)

pub returns-in-Ok-Closed-give_back-clause-answer : goal.returns-in-Ok-Closed-give_back-clause-answer
returns-in-Ok-Closed-give_back-clause-answer g c =
    ends_then (rw c.in-Ok-Undelivered.field-0-is at c.in-Ok-Undelivered.ensures.answer) refl
    (rw c.in-Ok-Closed-give_back.field-0-is at c.in-Ok-Closed-give_back.ensures.answer)

pub returns-in-Ok-Spent-clause-answer : goal.returns-in-Ok-Spent-clause-answer
returns-in-Ok-Spent-clause-answer g c =
    ends_then (rw c.in-Ok-Undelivered.field-0-is at c.in-Ok-Undelivered.ensures.answer) refl
    (rw c.in-Ok-Spent.field-0-is at c.in-Ok-Spent.ensures.answer)

pub returns-in-Err-give_back-clause-answer : goal.returns-in-Err-give_back-clause-answer
returns-in-Err-give_back-clause-answer g c =
    StopsEarly.ended (ends_alone (rw c.in-Ok-Undelivered.field-0-is at c.in-Ok-Undelivered.ensures.answer)
    c.in-Err-give_back.ensures.answer)

pub returns-in-Ok-Cancelled-clause-uses : goal.returns-in-Ok-Cancelled-clause-uses
returns-in-Ok-Cancelled-clause-uses g c = uses_cancelling_none c.requires.here
    (rw c.in-Ok-Cancelled.field-0-is at c.in-Ok-Cancelled.ensures.answer) c.requires.uses
