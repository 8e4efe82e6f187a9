use Rattle.script_meaning.proofs.OwnRows.{never_ended}
use Rattle.poll_states.proofs.OwnSeen.{unattached, not_started, may_run}
use Rattle.poll_states.proofs.jobs.own_state.Goals as goal

pub unreachable-requires : goal.unreachable-requires
unreachable-requires g c = never_ended _ _ c.in-Some.view _ _ (g.met.J.JobFloor.legal c.look.new.self) c.requires.at
    (rw c.in-Some.is at c.look.ensures.answer) c.in-Completing.is

pub returns-in-None-clause-seen : goal.returns-in-None-clause-seen
returns-in-None-clause-seen g c = unattached _ _ _ _ (rw c.in-None.is at c.look.ensures.answer)

pub returns-in-New-clause-seen : goal.returns-in-New-clause-seen
returns-in-New-clause-seen g c = not_started _ _ c.in-Some.view _ _ (rw c.in-Some.is at c.look.ensures.answer) c.in-New.is

pub returns-in-Active-clause-seen : goal.returns-in-Active-clause-seen
returns-in-Active-clause-seen g c = may_run _ _ c.in-Some.view _ _ (rw c.in-Some.is at c.look.ensures.answer) c.in-Active.is
