use Rattle.std.proofs.Common.{◌∙◌}
use Rattle.poll_states.proofs.DoneReceived.{build_later, ends_attached, row_later, end_received}
use Rattle.poll_states.proofs.scopes.end_and_receive.Goals as goal

pub receive_done-requires-clause-may : goal.receive_done-requires-clause-may
receive_done-requires-clause-may g c = build_later c.in-Ok.ensures.same.base c.requires.may c.in-Ok.ensures.answer.noted

pub receive_done-requires-clause-row : goal.receive_done-requires-clause-row
receive_done-requires-clause-row g c = row_later _ c.requires.may (ends_attached _ _ c.requires.own)
    (g.met.J.JobFloor.legal c.end_job.new.self.jobs.now) c.in-Ok.ensures.answer.noted

pub returns-in-Ok-clause-answer : goal.returns-in-Ok-clause-answer
returns-in-Ok-clause-answer g c = end_received _ _ c.in-Ok.ensures.same.base c.in-Ok.ensures.answer
    c.receive_done.ensures.answer

pub returns-in-Ok-clause-same : goal.returns-in-Ok-clause-same
returns-in-Ok-clause-same g c = record {
  channels = c.receive_done.ensures.same.channels ∙ c.in-Ok.ensures.same.channels;
  jobs = c.receive_done.ensures.same.jobs ∙ c.in-Ok.ensures.same.jobs;
  book = c.receive_done.ensures.same.book ∙ c.in-Ok.ensures.same.book;
  wakes = c.receive_done.ensures.same.wakes ∙ c.in-Ok.ensures.same.wakes;
  who = c.receive_done.ensures.same.who ∙ c.in-Ok.ensures.same.who;
  base = c.receive_done.ensures.same.base ∙ c.in-Ok.ensures.same.base;
  of_channels = c.receive_done.ensures.same.of_channels ∙ c.in-Ok.ensures.same.of_channels;
  of_jobs = c.receive_done.ensures.same.of_jobs ∙ c.in-Ok.ensures.same.of_jobs;
}

pub returns-in-Err-clause-same : goal.returns-in-Err-clause-same
returns-in-Err-clause-same g c = c.in-Err.ensures.same
