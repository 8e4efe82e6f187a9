use Rattle.call_meaning.proofs.HeardCalls.{told_now}
use Rattle.scope_builders.proofs.Bodies.{did_cancels, broken, begun_as, first_as}
use Rattle.scope_builders.proofs.builder.Builder.break_job.Goals as goal

pub returns-in-Err-clause-answer : goal.returns-in-Err-clause-answer
returns-in-Err-clause-answer g c =
    did_cancels _ (g.met.J.JobFloor.legal c.tell.new.self)
    (told_now c.tell.ensures.jobs (c.tell.ensures.looked c.args.self.now.who c.requires.may.of_channels) c.tell.ensures.told)
    (begun_as c.tell.ensures.jobs c.in-Err.ensures.begun)

pub returns-clause-answer : goal.returns-clause-answer
returns-clause-answer g c =
    broken _ _ _ _ _ (g.met.J.JobFloor.legal c.tell.new.self)
    (told_now c.tell.ensures.jobs (c.tell.ensures.looked c.args.self.now.who c.requires.may.of_channels) c.tell.ensures.told)
    (first_as c.tell.ensures.jobs c.in_default.ensures.cancelled) c.end_job.ensures.answer
