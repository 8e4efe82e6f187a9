use Rattle.std.proofs.Common.{◌+◌, ap}
use Rattle.job_tree.proofs.Walks.{passed, part_none, part_passed, covered_kept}
use Rattle.job_tree.proofs.caller.JobCaller.pass_except.Goals as goal

pub cancel_below-requires-clause-covered : goal.cancel_below-requires-clause-covered
cancel_below-requires-clause-covered g c = covered_kept _ _ _ _ (g.met.F.JobFloor.legal c.cancel_job.new.self.floor.now)
    c.in-Ok.ensures.answer.noted.added.longer c.requires.covered

pub returns-in-Ok-cancel_below-clause-answer : goal.returns-in-Ok-cancel_below-clause-answer
returns-in-Ok-cancel_below-clause-answer g c =
    let h = c.in-Ok.ensures in
    let counted = ap (λ x. c.in-Ok-cancel_below.below + x) c.from.ensures in
    passed counted (g.met.F.JobFloor.legal c.cancel_below.new.self.floor.now) h.answer c.in-Ok-cancel_below.ensures.answer.0

pub returns-in-Err-clause-answer : goal.returns-in-Err-clause-answer
returns-in-Err-clause-answer g c = (c.in-Err.ensures.answer.0, part_none c.in-Err.ensures.answer.1)

pub returns-in-Err-cancel_below-clause-answer : goal.returns-in-Err-cancel_below-clause-answer
returns-in-Err-cancel_below-clause-answer g c =
    let h = c.in-Ok.ensures in
    (c.in-Err-cancel_below.ensures.answer.0, part_passed h.answer c.in-Err-cancel_below.ensures.answer.1)
