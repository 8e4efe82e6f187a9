use Rattle.std.proofs.Common.{refl, sym, ap, subst, ◌∙◌, ◌≤◌, length, List, arith}
use Rattle.call_meaning.specs.ChannelCalls.{Call}
use Rattle.script_reader.specs.Scripts.{program_of}
use Rattle.select_calls.specs.Clauses.{calls_of}
use Rattle.poll_states.specs.Frames.{noted}
use Rattle.poll_states.proofs.SelectLines.{few_clauses, may_select, has_selected, behind_select, moves_on}
use Rattle.script_reader.specs.Lines.{does_open}
use Rattle.poll_states.proofs.Codes.{line_read}
use Rattle.poll_states.proofs.Standing.{line_short}
use Rattle.poll_states.proofs.Stepping.{cut_told}
use Rattle.poll_states.proofs.selects.select.Goals as goal

pub clauses_of-clauses-requires : goal.clauses_of-clauses-requires
clauses_of-clauses-requires g c =
    subst (λ (calls : List Call). length calls ≤ 7) (sym (behind_select (program_of c.args.script.now)
    (noted g.B.NoteBook.items c.args.frame.now) _ c.code_of-code.ensures))
    (few_clauses (program_of c.args.script.now) (noted g.B.NoteBook.items c.args.frame.now) c.args.script.now.well_formed c.requires.at)

pub select_poll-answer-requires-clause-may : goal.select_poll-answer-requires-clause-may
select_poll-answer-requires-clause-may g c =
    may_select (program_of c.args.script.now) _ _ (noted g.B.NoteBook.items c.args.frame.now) _ c.args.script.now.well_formed
    c.requires.stands c.requires.at
    (ap calls_of c.as_slice.ensures.value ∙ c.clauses_of-clauses.ensures
    ∙ behind_select (program_of c.args.script.now) (noted g.B.NoteBook.items c.args.frame.now) _ c.code_of-code.ensures)

pub returns-in-Ok-clause-came : goal.returns-in-Ok-clause-came
returns-in-Ok-clause-came g c = rw c.hear.ensures.channels
    (has_selected (program_of c.args.script.now) _ _ _ (noted g.B.NoteBook.items c.go_on_selected.new.self) _ _ c.in-Ok.answer
    (c.hear.ensures.heard _ c.requires.stands.on.of_jobs) c.args.script.now.well_formed
    (g.met.J.JobFloor.legal c.hear.new.self.jobs.now) c.requires.at
    (ap calls_of c.as_slice.ensures.value ∙ c.clauses_of-clauses.ensures
    ∙ behind_select (program_of c.args.script.now) (noted g.B.NoteBook.items c.args.frame.now) _ c.code_of-code.ensures)
    c.in-Ok.ensures.answer c.in-Ok.ensures.same.who c.go_on_selected.ensures.tag c.go_on_selected.ensures.config
    c.go_on_selected.ensures.items)

pub returns-in-Err-clause-came : goal.returns-in-Err-clause-came
returns-in-Err-clause-came g c = cut_told _ refl refl c.in-Err.ensures.answer

pub returns-in-Ok-clause-moves : goal.returns-in-Ok-clause-moves
returns-in-Ok-clause-moves g c = moves_on (program_of c.args.script.now) (noted g.B.NoteBook.items c.args.frame.now)
    (noted g.B.NoteBook.items c.go_on_selected.new.self) _ _ _ _ c.in-Ok.answer c.in-Ok.ensures.answer c.go_on_selected.ensures.config

pub overflow_add-frame : goal.overflow_add-frame
overflow_add-frame g c = let h = line_short c.args.script.now c.args.frame.now.tag _ _ c.requires.at.line_is in omega (arith, h)

pub slice_bounds-clauses_of-start : goal.slice_bounds-clauses_of-start
slice_bounds-clauses_of-start g c =
    line_read (program_of c.args.script.now) (noted g.B.NoteBook.items c.args.frame.now) _ c.code_of-code.ensures c.requires.at

pub go_on_selected-requires-clause-opens : goal.go_on_selected-requires-clause-opens
go_on_selected-requires-clause-opens g c = ap does_open c.requires.at.line_is

pub returns-in-Ok-clause-same : goal.returns-in-Ok-clause-same
returns-in-Ok-clause-same g c = record {
  channels_lent = c.hear.ensures.same.channels_lent;
  jobs_lent = c.hear.ensures.same.jobs_lent;
  wakes_lent = c.hear.ensures.same.wakes_lent;
  channels_are = c.hear.ensures.same.channels_are ∙ c.in-Ok.ensures.same.anchor_is;
  jobs_are = c.hear.ensures.same.jobs_are;
}

pub returns-in-Err-clause-same : goal.returns-in-Err-clause-same
returns-in-Err-clause-same g c = record {
  channels_lent = refl;
  jobs_lent = refl;
  wakes_lent = refl;
  channels_are = c.in-Err.ensures.same.anchor_is;
  jobs_are = refl;
}

pub code_of-code-requires : goal.code_of-code-requires
code_of-code-requires g c = c.requires.stands.on.in_run

pub go_on_selected-requires-clause-tag : goal.go_on_selected-requires-clause-tag
go_on_selected-requires-clause-tag g c = c.requires.stands.on.in_run

pub select_poll-answer-requires-clause-none : goal.select_poll-answer-requires-clause-none
select_poll-answer-requires-clause-none g c = refl
