use Rattle.std.specs.Prelude.{is_some}
use Rattle.std.proofs.Common.{refl, ap, ◌∙◌, arith}
use Rattle.job_model.specs.Histories.{replay}
use Rattle.script_reader.specs.Scripts.{program_of}
use Rattle.poll_states.specs.Frames.{noted, config_of}
use Rattle.script_meaning.specs.Bodies.{is_fresh}
use Rattle.poll_states.proofs.Standing.{line_short, stands_attached}
use Rattle.poll_states.proofs.LineNeeds.{stands_build, launched_block, free_short, free_row, jobs_same, launch_config, rows_config}
use Rattle.poll_states.proofs.Hearing.{told_first}
use Rattle.poll_states.proofs.Stepping.{cut_nothing, cut_jobs}
use Rattle.poll_states.proofs.JobLines.{has_launched, launch_refused, refused_for}
use Rattle.poll_states.proofs.jobs.launch.Goals as goal

pub launch-answer-requires-clause-may : goal.launch-answer-requires-clause-may
launch-answer-requires-clause-may g c = stands_build _ _ _ _ _ c.args.script.now.well_formed c.requires.stands c.first_done.ensures

pub returns-then-is_err-clause-came : goal.returns-then-is_err-clause-came
returns-then-is_err-clause-came g c = cut_nothing refl refl refl refl

pub size_of-size-requires : goal.size_of-size-requires
size_of-size-requires g c = launched_block (program_of c.args.script.now) _ _ _ _ _ c.args.script.now.well_formed c.requires.at.line_is

pub overflow_cast-free : goal.overflow_cast-free
overflow_cast-free g c = let h = free_short _ _ _ _ _ _ _ c.args.script.now.well_formed (g.met.J.JobFloor.legal c.args.floors.now.jobs.now)
    c.requires.stands c.requires.at in omega (arith, h)

pub launch-answer-requires-clause-parent : goal.launch-answer-requires-clause-parent
launch-answer-requires-clause-parent g c =
    ap (λ r. is_some (replay (g.J.JobFloor.view c.args.floors.now.jobs.now).seen r)) c.innermost-parent.ensures
    ∙ stands_attached _ _ _ _ (g.met.J.JobFloor.legal c.args.floors.now.jobs.now) c.requires.stands (ap is_fresh c.requires.at.stage)

pub launch-answer-requires-clause-tag : goal.launch-answer-requires-clause-tag
launch-answer-requires-clause-tag g c = free_row _ _ _ _ _ _ _ c.args.script.now.well_formed
    (g.met.J.JobFloor.legal c.args.floors.now.jobs.now) c.requires.stands c.requires.at

pub skip_launched-requires-clause-line : goal.skip_launched-requires-clause-line
skip_launched-requires-clause-line g c = let h = line_short c.args.script.now c.args.frame.now.tag _ _ c.requires.at.line_is
    in omega (arith, h)

pub skip_launched-requires-clause-free : goal.skip_launched-requires-clause-free
skip_launched-requires-clause-free g c = let h = free_short _ _ _ _ _ _ _ c.args.script.now.well_formed
    (g.met.J.JobFloor.legal c.args.floors.now.jobs.now) c.requires.stands c.requires.at in omega (arith, h, c.size_of-size.ensures)

pub returns-in-Ok-clause-came : goal.returns-in-Ok-clause-came
returns-in-Ok-clause-came g c = rw c.tell.ensures.jobs
    (has_launched (program_of c.args.script.now) (told_first (ap g.C.ChannelFloor.view c.in-Ok.ensures.channels)
    c.requires.stands.on.of_channels (c.tell.ensures.told _))
    (g.met.J.JobFloor.legal c.launch-answer.new.self.jobs.now) c.requires.at c.innermost-parent.ensures c.is_lazy.ensures
    c.size_of-size.ensures (jobs_same _ _ _ _ (noted g.B.NoteBook.items c.args.frame.now)
    (noted g.B.NoteBook.items c.skip_launched.new.self) _ _ c.in-Ok.ensures.answer.1 c.skip_launched.ensures.tag
    c.skip_launched.ensures.items) c.skip_launched.ensures.tag
    (c.skip_launched.ensures.config ∙ launch_config (config_of c.args.frame.now) _ _ _ c.reserve.ensures.items))

pub returns-in-Used-clause-came : goal.returns-in-Used-clause-came
returns-in-Used-clause-came g c = rw c.tell-in-Used.ensures.jobs
    (launch_refused (program_of c.args.script.now)
    (told_first (ap g.C.ChannelFloor.view c.in-Err.ensures.channels) c.requires.stands.on.of_channels (c.tell-in-Used.ensures.told _))
    (g.met.J.JobFloor.legal c.args.floors.now.jobs.now)
    (g.met.J.JobFloor.legal c.launch-answer.new.self.jobs.now) c.requires.stands c.requires.at c.innermost-parent.ensures
    (refused_for c.is_lazy.result c.in-Used.is c.in-Err.ensures.answer) c.fail.ensures.tag
    (c.fail.ensures.config ∙ rows_config (config_of c.args.frame.now) _ _ c.reserve.ensures.items) c.fail.ensures.items)

pub returns-in-Memory-clause-came : goal.returns-in-Memory-clause-came
returns-in-Memory-clause-came g c = cut_jobs _ (ap g.C.ChannelFloor.view c.in-Err.ensures.channels) refl
    (rw c.in-Memory.is at c.in-Err.ensures.answer)

pub returns-in-Ok-clause-same : goal.returns-in-Ok-clause-same
returns-in-Ok-clause-same g c = record {
  channels_lent = c.tell.ensures.same.channels_lent;
  jobs_lent = c.tell.ensures.same.jobs_lent;
  wakes_lent = c.tell.ensures.same.wakes_lent;
  channels_are = c.tell.ensures.same.channels_are ∙ c.in-Ok.ensures.same.of_channels;
  jobs_are = c.tell.ensures.same.jobs_are ∙ c.in-Ok.ensures.same.of_jobs;
}

pub returns-in-Used-clause-same : goal.returns-in-Used-clause-same
returns-in-Used-clause-same g c = record {
  channels_lent = c.tell-in-Used.ensures.same.channels_lent;
  jobs_lent = c.tell-in-Used.ensures.same.jobs_lent;
  wakes_lent = c.tell-in-Used.ensures.same.wakes_lent;
  channels_are = c.tell-in-Used.ensures.same.channels_are ∙ c.in-Err.ensures.same.of_channels;
  jobs_are = c.tell-in-Used.ensures.same.jobs_are ∙ c.in-Err.ensures.same.of_jobs;
}

pub returns-in-Memory-clause-same : goal.returns-in-Memory-clause-same
returns-in-Memory-clause-same g c = record {
  channels_lent = refl;
  jobs_lent = refl;
  wakes_lent = refl;
  channels_are = c.in-Err.ensures.same.of_channels;
  jobs_are = c.in-Err.ensures.same.of_jobs;
}
