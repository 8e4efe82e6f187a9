use Rattle.std.proofs.Common.{refl, ap, ◌∙◌}
use Rattle.scope_builders.specs.Calls.{seen}
use Rattle.poll_states.proofs.Hearing.{started_heard, cancelled_heard}
use Rattle.poll_states.proofs.Stepping.{some_jobs, cut_some}
use Rattle.poll_states.proofs.named.make.Goals as goal

pub returns-in-Ok-clause-answer : goal.returns-in-Ok-clause-answer
returns-in-Ok-clause-answer g c = rw c.in-Start.is (
  refl,
  started_heard (seen g.C.ChannelFloor.view g.J.JobFloor.view g.B.NoteBook.items c.start.new.self) _ _
      (ap g.C.ChannelFloor.view c.in-Ok.ensures.channels) c.requires.may.of_channels c.in-Ok.ensures.answer c.tell.ensures.told
      c.tell.ensures.same.who c.tell.ensures.jobs (ap g.B.NoteBook.items c.tell.ensures.book),
)

pub returns-in-Ok-answer-clause-answer : goal.returns-in-Ok-answer-clause-answer
returns-in-Ok-answer-clause-answer g c = rw c.in-Cancel.is (
  refl,
  cancelled_heard (seen g.C.ChannelFloor.view g.J.JobFloor.view g.B.NoteBook.items c.cancel-answer.new.self) _ _
      (ap g.C.ChannelFloor.view c.in-Ok-answer.ensures.channels) c.requires.may.of_channels c.in-Ok-answer.ensures.answer
      c.tell-in-Ok-answer.ensures.told c.tell-in-Ok-answer.ensures.same.who c.tell-in-Ok-answer.ensures.jobs
      (ap g.B.NoteBook.items c.tell-in-Ok-answer.ensures.book),
)

pub returns-in-Ok-join-clause-answer : goal.returns-in-Ok-join-clause-answer
returns-in-Ok-join-clause-answer g c = rw c.in-Join.is (record {
  how = c.in-Ok-join.answer;
  answer_is = c.of_joined.ensures;
  answer = c.in-Ok-join.ensures.answer;
})

pub returns-in-Ok-await_end-clause-answer : goal.returns-in-Ok-await_end-clause-answer
returns-in-Ok-await_end-clause-answer g c = rw c.in-Await.is (record {
  how = c.in-Ok-await_end.answer;
  answer_is = c.of_joined-in-Ok-await_end.ensures;
  answer = c.in-Ok-await_end.ensures.answer;
})

pub returns-in-Err-clause-answer : goal.returns-in-Err-clause-answer
returns-in-Err-clause-answer g c = some_jobs (ap g.C.ChannelFloor.view c.in-Err.ensures.channels) c.in-Err.ensures.answer

pub returns-in-Err-join-clause-answer : goal.returns-in-Err-join-clause-answer
returns-in-Err-join-clause-answer g c = cut_some _ _ _ c.in-Err-join.ensures.same.who c.in-Err-join.ensures.answer

pub returns-in-Err-await_end-clause-answer : goal.returns-in-Err-await_end-clause-answer
returns-in-Err-await_end-clause-answer g c = cut_some _ _ _ c.in-Err-await_end.ensures.same.who c.in-Err-await_end.ensures.answer

pub returns-in-Ok-join-clause-same : goal.returns-in-Ok-join-clause-same
returns-in-Ok-join-clause-same g c = c.in-Ok-join.ensures.same

pub returns-in-Ok-await_end-clause-same : goal.returns-in-Ok-await_end-clause-same
returns-in-Ok-await_end-clause-same g c = c.in-Ok-await_end.ensures.same

pub returns-in-Err-clause-same : goal.returns-in-Err-clause-same
returns-in-Err-clause-same g c = c.in-Err.ensures.same

pub returns-in-Err-answer-clause-same : goal.returns-in-Err-answer-clause-same
returns-in-Err-answer-clause-same g c = c.in-Err-answer.ensures.same

pub returns-in-Err-join-clause-same : goal.returns-in-Err-join-clause-same
returns-in-Err-join-clause-same g c = c.in-Err-join.ensures.same

pub returns-in-Err-await_end-clause-same : goal.returns-in-Err-await_end-clause-same
returns-in-Err-await_end-clause-same g c = c.in-Err-await_end.ensures.same

pub returns-in-Ok-clause-same : goal.returns-in-Ok-clause-same
returns-in-Ok-clause-same g c = record {
  channels = c.tell.ensures.same.channels ∙ c.in-Ok.ensures.same.channels;
  jobs = c.tell.ensures.same.jobs ∙ c.in-Ok.ensures.same.jobs;
  book = c.tell.ensures.same.book ∙ c.in-Ok.ensures.same.book;
  wakes = c.tell.ensures.same.wakes ∙ c.in-Ok.ensures.same.wakes;
  who = c.tell.ensures.same.who ∙ c.in-Ok.ensures.same.who;
  base = c.tell.ensures.same.base ∙ c.in-Ok.ensures.same.base;
  of_channels = c.tell.ensures.same.of_channels ∙ c.in-Ok.ensures.same.of_channels;
  of_jobs = c.tell.ensures.same.of_jobs ∙ c.in-Ok.ensures.same.of_jobs;
}

pub returns-in-Ok-answer-clause-same : goal.returns-in-Ok-answer-clause-same
returns-in-Ok-answer-clause-same g c = record {
  channels = c.tell-in-Ok-answer.ensures.same.channels ∙ c.in-Ok-answer.ensures.same.channels;
  jobs = c.tell-in-Ok-answer.ensures.same.jobs ∙ c.in-Ok-answer.ensures.same.jobs;
  book = c.tell-in-Ok-answer.ensures.same.book ∙ c.in-Ok-answer.ensures.same.book;
  wakes = c.tell-in-Ok-answer.ensures.same.wakes ∙ c.in-Ok-answer.ensures.same.wakes;
  who = c.tell-in-Ok-answer.ensures.same.who ∙ c.in-Ok-answer.ensures.same.who;
  base = c.tell-in-Ok-answer.ensures.same.base ∙ c.in-Ok-answer.ensures.same.base;
  of_channels = c.tell-in-Ok-answer.ensures.same.of_channels ∙ c.in-Ok-answer.ensures.same.of_channels;
  of_jobs = c.tell-in-Ok-answer.ensures.same.of_jobs ∙ c.in-Ok-answer.ensures.same.of_jobs;
}
