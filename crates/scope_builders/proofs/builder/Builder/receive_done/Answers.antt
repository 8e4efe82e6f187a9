use Rattle.call_meaning.proofs.HeardCalls.{heard_now}
use Rattle.job_model.proofs.Short.{attached_within}
use Rattle.scope_builders.proofs.ReceivesDone.{short_done, call_done, signal_done, done_answer, signal_as}
use Rattle.scope_builders.proofs.builder.Builder.receive_done.Goals as goal

pub done_channel-requires : goal.done_channel-requires
done_channel-requires g c =
    short_done _ c.requires.may
    (attached_within _ _ _ (g.met.J.JobFloor.shaped c.args.self.now.jobs.now) (g.met.J.JobFloor.legal c.args.self.now.jobs.now)
    c.requires.row)

pub receive_signal-answer-requires-clause-can : goal.receive_signal-answer-requires-clause-can
receive_signal-answer-requires-clause-can g c =
    call_done _ c.done_channel.ensures c.requires.may
    (attached_within _ _ _ (g.met.J.JobFloor.shaped c.args.self.now.jobs.now) (g.met.J.JobFloor.legal c.args.self.now.jobs.now)
    c.requires.row)

pub receive_signal-answer-requires-clause-signal : goal.receive_signal-answer-requires-clause-signal
receive_signal-answer-requires-clause-signal g c =
    signal_done _ c.done_channel.ensures c.requires.may
    (attached_within _ _ _ (g.met.J.JobFloor.shaped c.args.self.now.jobs.now) (g.met.J.JobFloor.legal c.args.self.now.jobs.now)
    c.requires.row)

pub returns-clause-answer : goal.returns-clause-answer
returns-clause-answer g c =
    let looked = c.hear.ensures.looked c.args.self.now.who c.requires.may.of_jobs in
    done_answer _ _ _ _ _ _ c.done_channel.ensures (record { looked = looked; heard = heard_now looked.same c.hear.ensures.heard })
    (signal_as _ _ _ _ _ c.hear.ensures.channels c.receive_signal-answer.ensures.answer)

pub returns-clause-jobs : goal.returns-clause-jobs
returns-clause-jobs g c = c.hear.ensures.looked c.args.self.now.who c.requires.may.of_jobs
