use Rattle.std.proofs.Common.{refl, ap, sym, subst, ◌∙◌, arith}
use Rattle.channel_model.specs.Floors.{MayCall}
use Rattle.script_reader.specs.Scripts.{program_of}
use Rattle.script_meaning.specs.Configs.{Config}
use Rattle.poll_states.specs.Frames.{noted}
use Rattle.poll_states.specs.Calls.{channel_in}
use Rattle.poll_states.proofs.Standing.{line_short}
use Rattle.poll_states.proofs.FloorsOfScripts.{no_signal}
use Rattle.poll_states.proofs.LineNeeds.{stands_call}
use Rattle.poll_states.proofs.ChannelLines.{line_channel, call_channel, has_called}
use Rattle.poll_states.proofs.Stepping.{cut_nothing, cut_told, cut_from}
use Rattle.poll_states.proofs.WaitsForEnds.{at_same, stepped_from}
use Rattle.poll_states.proofs.calls.call.Goals as goal

pub returns-in-Err-clause-came : goal.returns-in-Err-clause-came
returns-in-Err-clause-came g c = cut_nothing refl refl c.room_for.ensures.tag c.room_for.ensures.items

pub make-answer-requires-clause-can : goal.make-answer-requires-clause-can
make-answer-requires-clause-can g c =
    let may = stands_call _ _ _ _ _ c.requires.stands (line_channel (program_of c.args.script.now) _ _ _ _ c.args.script.now.well_formed
    c.requires.at (call_channel c.args.line c.requires.calls)) in
    subst (λ who. MayCall who (channel_in c.args.line) (g.C.ChannelFloor.view c.args.floors.now.channels.now))
    (sym c.room_for.ensures.tag) may

pub make-answer-requires-clause-kind : goal.make-answer-requires-clause-kind
make-answer-requires-clause-kind g c = no_signal (program_of c.args.script.now) _ _ c.args.script.now.well_formed
    c.requires.stands.on.channels (line_channel (program_of c.args.script.now) _ _ _ _ c.args.script.now.well_formed c.requires.at
    (call_channel c.args.line c.requires.calls))

pub go_on-requires-clause-at : goal.go_on-requires-clause-at
go_on-requires-clause-at g c =
    (at_same (program_of c.args.script.now) (noted g.B.NoteBook.items c.args.frame.now)
    (noted g.B.NoteBook.items c.room_for.new.self) _ c.room_for.ensures.tag c.room_for.ensures.config
    c.requires.at).line_is

pub go_on-requires-clause-line : goal.go_on-requires-clause-line
go_on-requires-clause-line g c = let h = line_short c.args.script.now c.args.frame.now.tag _ _ c.requires.at.line_is
    in omega (arith, h, ap (λ (x : Config). x.line) c.room_for.ensures.config)

pub returns-in-Ok-clause-came : goal.returns-in-Ok-clause-came
returns-in-Ok-clause-came g c = rw c.hear.ensures.channels
    (stepped_from (program_of c.args.script.now) _ _ _ _ (noted g.B.NoteBook.items c.args.frame.now)
    (noted g.B.NoteBook.items c.room_for.new.self) _ c.room_for.ensures.tag c.room_for.ensures.config
    c.room_for.ensures.items
    (has_called (program_of c.args.script.now) _ _ _ (noted g.B.NoteBook.items c.room_for.new.self) _ _ c.args.line _ c.in-Ok.answer
    (c.hear.ensures.heard _ (ap (g.J.JobFloor.view c.args.floors.now.jobs.now).callers c.room_for.ensures.tag
    ∙ c.requires.stands.on.of_jobs))
    c.args.script.now.well_formed (g.met.J.JobFloor.legal c.hear.new.self.jobs.now)
    (at_same (program_of c.args.script.now) (noted g.B.NoteBook.items c.args.frame.now) (noted g.B.NoteBook.items c.room_for.new.self)
    _ c.room_for.ensures.tag c.room_for.ensures.config c.requires.at) c.element_of-value.ensures c.in-Ok.ensures.answer
    c.in-Ok.ensures.same.who c.go_on.ensures.tag
    c.go_on.ensures.config c.go_on.ensures.items))

pub returns-in-Err-answer-clause-came : goal.returns-in-Err-answer-clause-came
returns-in-Err-answer-clause-came g c =
    cut_from c.room_for.new.self.tag (g.B.NoteBook.items c.room_for.new.self.book) c.room_for.ensures.tag
    c.room_for.ensures.items
    (cut_told _ refl refl c.in-Err-answer.ensures.answer)

pub returns-in-Ok-clause-same : goal.returns-in-Ok-clause-same
returns-in-Ok-clause-same g c = record {
  channels_lent = c.hear.ensures.same.channels_lent;
  jobs_lent = c.hear.ensures.same.jobs_lent;
  wakes_lent = c.hear.ensures.same.wakes_lent;
  channels_are = c.hear.ensures.same.channels_are ∙ c.in-Ok.ensures.same.anchor_is;
  jobs_are = c.hear.ensures.same.jobs_are;
}

pub returns-in-Err-answer-clause-same : goal.returns-in-Err-answer-clause-same
returns-in-Err-answer-clause-same g c = record {
  channels_lent = refl;
  jobs_lent = refl;
  wakes_lent = refl;
  channels_are = c.in-Err-answer.ensures.same.anchor_is;
  jobs_are = refl;
}
