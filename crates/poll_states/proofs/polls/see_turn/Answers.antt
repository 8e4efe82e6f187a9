use Rattle.poll_states.proofs.GoneOn.{see_polled}
use Rattle.poll_states.proofs.polls.see_turn.Goals as goal

pub returns-in-Ok-clause-polled : goal.returns-in-Ok-clause-polled
returns-in-Ok-clause-polled g c = see_polled (g.met.J.JobFloor.legal c.see_end.new.floors.jobs.now) c.requires.stands
    c.requires.seeing c.in-Ok.ensures.came

pub returns-in-Ok-clause-same : goal.returns-in-Ok-clause-same
returns-in-Ok-clause-same g c = c.in-Ok.ensures.same

pub returns-in-Err-clause-same : goal.returns-in-Err-clause-same
returns-in-Err-clause-same g c = c.in-Err.ensures.same
