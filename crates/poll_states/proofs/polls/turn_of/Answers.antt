use Rattle.std.proofs.Common.{◌∙◌}
use Rattle.poll_states.specs.Frames.{noted}
use Rattle.poll_states.proofs.Moving.{step_stands}
use Rattle.poll_states.proofs.Turning.{polled_ended}
use Rattle.poll_states.proofs.GoneOn.{poll_on, quiet_on, sees_end}
use Rattle.poll_states.proofs.SelectLines.{still_moves_on}
use Rattle.poll_states.proofs.polls.turn_of.Goals as goal

pub returns-in-Ended-clause-polled : goal.returns-in-Ended-clause-polled
returns-in-Ended-clause-polled g c = polled_ended _ _ _ _ (g.met.J.JobFloor.legal c.args.floors.now.jobs.now) c.requires c.in-Ended.is

pub see_turn-requires-clause-seeing : goal.see_turn-requires-clause-seeing
see_turn-requires-clause-seeing g c = sees_end _ c.in-SeesJob.is

pub go_on-requires : goal.go_on-requires
go_on-requires g c = step_stands c.requires c.in-Ok.ensures.came

pub returns-in-Ok-clause-polled : goal.returns-in-Ok-clause-polled
returns-in-Ok-clause-polled g c = poll_on c.args.script.now _ c.go_on.result
    (g.met.J.JobFloor.legal c.go_on.new.floors.jobs.now) c.requires c.in-Ok.ensures.came c.go_on.ensures.went

pub returns-in-Ok-clause-quiet : goal.returns-in-Ok-clause-quiet
returns-in-Ok-clause-quiet g c = quiet_on _ c.args.script.now _ c.go_on.result
    (g.met.J.JobFloor.legal c.go_on.new.floors.jobs.now) c.requires c.in-Ok.ensures.came c.go_on.ensures.went

pub returns-in-Ok-clause-moves : goal.returns-in-Ok-clause-moves
returns-in-Ok-clause-moves g c = still_moves_on c.args.script.now (g.C.ChannelFloor.view c.args.floors.now.channels.now)
    (noted g.B.NoteBook.items c.args.frame.now) _ _ c.go_on.result c.go_on.ensures.went c.in-Ok.ensures.moves

pub returns-in-Fresh-clause-polled : goal.returns-in-Fresh-clause-polled
returns-in-Fresh-clause-polled g c = c.first_turn.ensures.polled

pub returns-in-Fresh-clause-quiet : goal.returns-in-Fresh-clause-quiet
returns-in-Fresh-clause-quiet g c = c.first_turn.ensures.quiet

pub returns-in-Fresh-clause-same : goal.returns-in-Fresh-clause-same
returns-in-Fresh-clause-same g c = c.first_turn.ensures.same

pub returns-in-Waiting-clause-polled : goal.returns-in-Waiting-clause-polled
returns-in-Waiting-clause-polled g c = c.wait_turn.ensures.polled

pub returns-in-Waiting-clause-quiet : goal.returns-in-Waiting-clause-quiet
returns-in-Waiting-clause-quiet g c = c.wait_turn.ensures.quiet

pub returns-in-Waiting-clause-same : goal.returns-in-Waiting-clause-same
returns-in-Waiting-clause-same g c = c.wait_turn.ensures.same

pub returns-in-Unwinding-clause-polled : goal.returns-in-Unwinding-clause-polled
returns-in-Unwinding-clause-polled g c = c.last_turn.ensures.polled

pub returns-in-Unwinding-clause-quiet : goal.returns-in-Unwinding-clause-quiet
returns-in-Unwinding-clause-quiet g c = c.last_turn.ensures.quiet

pub returns-in-Unwinding-clause-same : goal.returns-in-Unwinding-clause-same
returns-in-Unwinding-clause-same g c = c.last_turn.ensures.same

pub returns-in-Leaving-clause-polled : goal.returns-in-Leaving-clause-polled
returns-in-Leaving-clause-polled g c = c.leave_turn.ensures.polled

pub returns-in-Leaving-clause-quiet : goal.returns-in-Leaving-clause-quiet
returns-in-Leaving-clause-quiet g c = c.leave_turn.ensures.quiet

pub returns-in-Leaving-clause-same : goal.returns-in-Leaving-clause-same
returns-in-Leaving-clause-same g c = c.leave_turn.ensures.same

pub returns-in-SeesJob-clause-polled : goal.returns-in-SeesJob-clause-polled
returns-in-SeesJob-clause-polled g c = c.see_turn.ensures.polled

pub returns-in-SeesJob-clause-quiet : goal.returns-in-SeesJob-clause-quiet
returns-in-SeesJob-clause-quiet g c = c.see_turn.ensures.quiet

pub returns-in-SeesJob-clause-same : goal.returns-in-SeesJob-clause-same
returns-in-SeesJob-clause-same g c = c.see_turn.ensures.same

pub returns-in-Ok-clause-same : goal.returns-in-Ok-clause-same
returns-in-Ok-clause-same g c = record {
  channels_lent = c.go_on.ensures.same.channels_lent ∙ c.in-Ok.ensures.same.channels_lent;
  jobs_lent = c.go_on.ensures.same.jobs_lent ∙ c.in-Ok.ensures.same.jobs_lent;
  wakes_lent = c.go_on.ensures.same.wakes_lent ∙ c.in-Ok.ensures.same.wakes_lent;
  channels_are = c.go_on.ensures.same.channels_are ∙ c.in-Ok.ensures.same.channels_are;
  jobs_are = c.go_on.ensures.same.jobs_are ∙ c.in-Ok.ensures.same.jobs_are;
}

pub returns-in-Err-clause-same : goal.returns-in-Err-clause-same
returns-in-Err-clause-same g c = c.in-Err.ensures.same
