use Rattle.std.proofs.Common.{ap, arith, refl, sym, subst, ◌∙◌}
use Rattle.channel_model.specs.Floors.{MayCall}
use Rattle.channel_model.specs.Answers.{IsReady}
use Rattle.script_reader.specs.Scripts.{program_of}
use Rattle.script_meaning.specs.Configs.{Config}
use Rattle.poll_states.specs.Frames.{noted}
use Rattle.poll_states.proofs.EndedWaits.{wait_done}
use Rattle.poll_states.proofs.Codes.{code_long, code_at_line, place_short, line_kept}
use Rattle.poll_states.proofs.waits.end_wait.Goals as goal

pub bounds-code_of-frame : goal.bounds-code_of-frame
bounds-code_of-frame g c = code_long (program_of c.args.script.now) c.args.frame.now.tag _ _ c.code_of.ensures c.requires.line

pub go_on_after-requires-clause-at : goal.go_on_after-requires-clause-at
go_on_after-requires-clause-at g c = line_kept (program_of c.args.script.now) c.room_for.ensures.tag c.room_for.ensures.config
    (code_at_line (program_of c.args.script.now) _ _ _ _ c.code_of.ensures c.requires.line)

pub go_on_after-requires-clause-line : goal.go_on_after-requires-clause-line
go_on_after-requires-clause-line g c = let h = place_short c.args.script.now c.args.frame.now.tag _ c.requires.line
    in omega (arith, h, ap (λ (x : Config). x.line) c.room_for.ensures.config)

pub returns-in-Ok-clause-same : goal.returns-in-Ok-clause-same
returns-in-Ok-clause-same g c = record {
  channels_lent = refl;
  jobs_lent = refl;
  wakes_lent = refl;
  channels_are = c.in-Ok.ensures.same.anchor_is;
}

pub returns-in-Err-dispatch-clause-same : goal.returns-in-Err-dispatch-clause-same
returns-in-Err-dispatch-clause-same g c = record {
  channels_lent = refl;
  jobs_lent = refl;
  wakes_lent = refl;
  channels_are = c.in-Err-dispatch.ensures.same.anchor_is;
}

pub dispatch-requires-clause-can : goal.dispatch-requires-clause-can
dispatch-requires-clause-can g c = subst (λ who. MayCall who c.args.w.channel (g.C.ChannelFloor.view c.args.floors.now.channels.now))
    (sym c.room_for.ensures.tag) c.requires.can

pub dispatch-requires-clause-ready : goal.dispatch-requires-clause-ready
dispatch-requires-clause-ready g c = subst (λ who. IsReady who c.args.w (g.C.ChannelFloor.view c.args.floors.now.channels.now))
    (sym c.room_for.ensures.tag) c.requires.ready

pub returns-in-Ok-clause-tag : goal.returns-in-Ok-clause-tag
returns-in-Ok-clause-tag g c = c.go_on_after.ensures.tag ∙ c.room_for.ensures.tag

pub returns-in-Ok-clause-answer : goal.returns-in-Ok-clause-answer
returns-in-Ok-clause-answer g c = wait_done (program_of c.args.script.now) c.args.w _ _ (noted g.B.NoteBook.items c.args.frame.now)
    (noted g.B.NoteBook.items c.room_for.new.self) (noted g.B.NoteBook.items c.go_on_after.new.self) c.dispatch.new.self.who
    (g.B.NoteBook.items c.dispatch.new.self.book.now) _ c.in-Ok.outcome c.room_for.ensures.tag c.room_for.ensures.config
    c.room_for.ensures.items c.in-Ok.ensures.answer
    (code_at_line (program_of c.args.script.now) _ _ _ _ c.code_of.ensures c.requires.line) c.go_on_after.ensures.tag
    c.go_on_after.ensures.config c.go_on_after.ensures.items

pub returns-in-Err-dispatch-clause-answer : goal.returns-in-Err-dispatch-clause-answer
returns-in-Err-dispatch-clause-answer g c = record {
  who = c.room_for.ensures.tag;
  floor = c.in-Err-dispatch.ensures.answer.floor;
  book = c.in-Err-dispatch.ensures.answer.book ∙ c.room_for.ensures.items;
}

pub returns-in-Err-clause-answer : goal.returns-in-Err-clause-answer
returns-in-Err-clause-answer g c = record { who = c.room_for.ensures.tag; floor = refl; book = c.room_for.ensures.items }
