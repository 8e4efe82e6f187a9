use Rattle.library_examples.proofs.AfterLaunches.{attached_later, saw_completed}
use Rattle.library_examples.proofs.scopes.result_of.Goals as goal

pub returns-in-Ok-Some-Completed-clause-saw : goal.returns-in-Ok-Some-Completed-clause-saw
returns-in-Ok-Some-Completed-clause-saw g c =
    saw_completed _ _ _ _ _ _ _ _ _ _ c.in-Ok-Some-Completed.field-0-is c.in-Ok-Some-Completed.field-0-0-is
    c.in-Ok-Some-Completed.ensures.answer

pub seen_end-requires-clause-row : goal.seen_end-requires-clause-row
seen_end-requires-clause-row g c =
    attached_later c.args.row (g.J.JobFloor.view c.args.builder.now.jobs.now) (g.J.JobFloor.view c.receive_done.new.self.jobs.now)
    (g.met.J.JobFloor.legal c.receive_done.new.self.jobs.now) c.receive_done.ensures.jobs.longer c.requires.row
