use Rattle.std.proofs.Common.{refl, ap, arith, ◌∙◌}
use Rattle.script_reader.specs.Scripts.{program_of}
use Rattle.script_meaning.specs.Configs.{Config}
use Rattle.script_meaning.specs.Bodies.{is_fresh}
use Rattle.poll_states.specs.Frames.{noted}
use Rattle.poll_states.proofs.Standing.{line_short, stands_attached}
use Rattle.poll_states.proofs.LineNeeds.{stands_build}
use Rattle.poll_states.proofs.Hearing.{told_first}
use Rattle.poll_states.proofs.Stepping.{cut_jobs, cut_nothing, cut_from}
use Rattle.poll_states.proofs.WaitsForEnds.{enter_refused_by, has_entered, stands_same, at_same, stepped_from}
use Rattle.poll_states.proofs.scopes.enter_scope.Goals as goal

pub returns-in-Err-clause-came : goal.returns-in-Err-clause-came
returns-in-Err-clause-came g c = cut_nothing refl refl c.room_to_enter.ensures.tag c.room_to_enter.ensures.items

pub enter-answer-requires-clause-may : goal.enter-answer-requires-clause-may
enter-answer-requires-clause-may g c =
    stands_build (program_of c.args.script.now) _ _ _ (noted g.B.NoteBook.items c.room_to_enter.new.self) c.args.script.now.well_formed
    (stands_same (program_of c.args.script.now) _ _ (noted g.B.NoteBook.items c.args.frame.now)
    (noted g.B.NoteBook.items c.room_to_enter.new.self) c.room_to_enter.ensures.tag c.room_to_enter.ensures.config
    c.room_to_enter.ensures.items c.requires.stands) c.first_done.ensures

pub enter-answer-requires-clause-parent : goal.enter-answer-requires-clause-parent
enter-answer-requires-clause-parent g c =
    rw c.innermost-parent.ensures (stands_attached (program_of c.args.script.now) _ _ (noted g.B.NoteBook.items c.room_to_enter.new.self)
    (g.met.J.JobFloor.legal c.args.floors.now.jobs.now)
    (stands_same (program_of c.args.script.now) _ _ (noted g.B.NoteBook.items c.args.frame.now)
    (noted g.B.NoteBook.items c.room_to_enter.new.self) c.room_to_enter.ensures.tag c.room_to_enter.ensures.config
    c.room_to_enter.ensures.items c.requires.stands) (ap (λ (x : Config). is_fresh x.stage) c.room_to_enter.ensures.config
    ∙ ap is_fresh c.requires.at.stage))

pub enter-requires-clause-line : goal.enter-requires-clause-line
enter-requires-clause-line g c = let h = line_short c.args.script.now c.args.frame.now.tag _ _ c.requires.at.line_is
    in omega (arith, h, ap (λ (x : Config). x.line) c.room_to_enter.ensures.config)

pub returns-in-Ok-clause-came : goal.returns-in-Ok-clause-came
returns-in-Ok-clause-came g c = rw c.tell.ensures.jobs
    (stepped_from (program_of c.args.script.now) _ _ _ _ (noted g.B.NoteBook.items c.args.frame.now)
    (noted g.B.NoteBook.items c.room_to_enter.new.self) _ c.room_to_enter.ensures.tag c.room_to_enter.ensures.config
    c.room_to_enter.ensures.items
    (has_entered (program_of c.args.script.now)
    (told_first (ap g.C.ChannelFloor.view c.in-Ok.ensures.channels)
    (ap (g.C.ChannelFloor.view c.args.floors.now.channels.now).callers c.room_to_enter.ensures.tag ∙ c.requires.stands.on.of_channels)
    (c.tell.ensures.told _)) (g.met.J.JobFloor.legal c.enter-answer.new.self.jobs.now)
    (at_same (program_of c.args.script.now) (noted g.B.NoteBook.items c.args.frame.now) (noted g.B.NoteBook.items c.room_to_enter.new.self)
    _ c.room_to_enter.ensures.tag c.room_to_enter.ensures.config c.requires.at) c.innermost-parent.ensures refl c.in-Ok.ensures.answer
    c.enter.ensures.tag c.enter.ensures.config c.enter.ensures.items))

pub returns-in-NoRow-clause-came : goal.returns-in-NoRow-clause-came
returns-in-NoRow-clause-came g c = rw c.tell-in-NoRow.ensures.jobs
    (stepped_from (program_of c.args.script.now) _ _ _ _ (noted g.B.NoteBook.items c.args.frame.now)
    (noted g.B.NoteBook.items c.room_to_enter.new.self) _ c.room_to_enter.ensures.tag c.room_to_enter.ensures.config
    c.room_to_enter.ensures.items
    (enter_refused_by (program_of c.args.script.now) _ _ _ _ _ _ c.in-Err-answer.error c.in-NoRow.is
    (told_first (ap g.C.ChannelFloor.view c.in-Err-answer.ensures.channels)
    (ap (g.C.ChannelFloor.view c.args.floors.now.channels.now).callers c.room_to_enter.ensures.tag ∙ c.requires.stands.on.of_channels)
    (c.tell-in-NoRow.ensures.told _)) (g.met.J.JobFloor.legal c.args.floors.now.jobs.now)
    (g.met.J.JobFloor.legal c.enter-answer.new.self.jobs.now)
    (stands_same (program_of c.args.script.now) _ _ (noted g.B.NoteBook.items c.args.frame.now)
    (noted g.B.NoteBook.items c.room_to_enter.new.self) c.room_to_enter.ensures.tag c.room_to_enter.ensures.config
    c.room_to_enter.ensures.items c.requires.stands)
    (at_same (program_of c.args.script.now) (noted g.B.NoteBook.items c.args.frame.now) (noted g.B.NoteBook.items c.room_to_enter.new.self)
    _ c.room_to_enter.ensures.tag c.room_to_enter.ensures.config c.requires.at) c.innermost-parent.ensures
    c.in-Err-answer.ensures.answer c.fail.ensures.tag c.fail.ensures.config c.fail.ensures.items))

pub returns-in-Memory-clause-came : goal.returns-in-Memory-clause-came
returns-in-Memory-clause-came g c =
    cut_from c.room_to_enter.new.self.tag (g.B.NoteBook.items c.room_to_enter.new.self.book) c.room_to_enter.ensures.tag
    c.room_to_enter.ensures.items
    (cut_jobs _ (ap g.C.ChannelFloor.view c.in-Err-answer.ensures.channels) refl (rw c.in-Memory.is at c.in-Err-answer.ensures.answer))

pub returns-in-Ok-clause-same : goal.returns-in-Ok-clause-same
returns-in-Ok-clause-same g c = record {
  channels_lent = c.tell.ensures.same.channels_lent;
  jobs_lent = c.tell.ensures.same.jobs_lent;
  wakes_lent = c.tell.ensures.same.wakes_lent;
  channels_are = c.tell.ensures.same.channels_are ∙ c.in-Ok.ensures.same.of_channels;
  jobs_are = c.tell.ensures.same.jobs_are ∙ c.in-Ok.ensures.same.of_jobs;
}

pub returns-in-NoRow-clause-same : goal.returns-in-NoRow-clause-same
returns-in-NoRow-clause-same g c = record {
  channels_lent = c.tell-in-NoRow.ensures.same.channels_lent;
  jobs_lent = c.tell-in-NoRow.ensures.same.jobs_lent;
  wakes_lent = c.tell-in-NoRow.ensures.same.wakes_lent;
  channels_are = c.tell-in-NoRow.ensures.same.channels_are ∙ c.in-Err-answer.ensures.same.of_channels;
  jobs_are = c.tell-in-NoRow.ensures.same.jobs_are ∙ c.in-Err-answer.ensures.same.of_jobs;
}

pub returns-in-Memory-clause-same : goal.returns-in-Memory-clause-same
returns-in-Memory-clause-same g c = record {
  channels_lent = refl;
  jobs_lent = refl;
  wakes_lent = refl;
  channels_are = c.in-Err-answer.ensures.same.of_channels;
  jobs_are = c.in-Err-answer.ensures.same.of_jobs;
}
