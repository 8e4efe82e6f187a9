use Rattle.std.proofs.Common.{refl}
use Rattle.job_tree.proofs.Looks.{may_later}
use Rattle.scope_builders.proofs.Breaks.{broken_own, broken_up, broken_later, part_begun, not_both}
use Rattle.scope_builders.proofs.parts.fail_off.Goals as goal

pub fail_up-requires-clause-can : goal.fail_up-requires-clause-can
fail_up-requires-clause-can g c =
    let added = c.in-Ok.ensures.answer.noted.added in
    may_later _ _ _ _ added.same added.longer (g.met.J.JobFloor.legal c.cancel_tree.new.jobs) c.requires.can

pub fail_up-requires-clause-failed : goal.fail_up-requires-clause-failed
fail_up-requires-clause-failed g c = c.in-Ok.ensures.answer.failed c.if-passed.true refl

pub returns-in-Ok-fail_up-clause-broken : goal.returns-in-Ok-fail_up-clause-broken
returns-in-Ok-fail_up-clause-broken g c =
    broken_up refl c.if-passed.true c.if-row-who.true (g.met.J.JobFloor.legal c.cancel_tree.new.jobs)
    (g.met.J.JobFloor.legal c.fail_up.new.jobs) c.requires.own c.in-Ok.ensures.answer c.in-Ok-fail_up.ensures.answer

pub returns-in-Err-fail_up-clause-broken : goal.returns-in-Err-fail_up-clause-broken
returns-in-Err-fail_up-clause-broken g c =
    broken_later c.if-passed.true c.if-row-who.true c.in-Ok.ensures.answer c.in-Err-fail_up.ensures.answer.1

pub returns-else-passed-clause-broken : goal.returns-else-passed-clause-broken
returns-else-passed-clause-broken g c =
    broken_own refl (not_both _ _ _ c.else-passed.either) (g.met.J.JobFloor.legal c.cancel_tree.new.jobs) c.requires.own
    c.in-Ok.ensures.answer

pub returns-in-Err-clause-broken : goal.returns-in-Err-clause-broken
returns-in-Err-clause-broken g c = part_begun c.in-Err.ensures.answer.1
