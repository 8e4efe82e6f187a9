use Rattle.script_reader.specs.Scripts.{program_of}
use Rattle.poll_states.specs.Frames.{noted}
use Rattle.poll_states.proofs.LineNeeds.{at_end, at_line}
use Rattle.poll_states.proofs.SelectLines.{run_moves, end_moves}
use Rattle.poll_states.proofs.lines.run.Goals as goal

pub end_body-requires-clause-left : goal.end_body-requires-clause-left
end_body-requires-clause-left g c = at_end (program_of c.args.script.now) _ _ _ _ c.requires.stands c.requires.running
    c.code_of-code.ensures c.if-frame-code.true

pub run_line-requires-clause-at : goal.run_line-requires-clause-at
run_line-requires-clause-at g c = at_line (program_of c.args.script.now) (g.C.ChannelFloor.view c.args.floors.now.channels.now)
    (g.J.JobFloor.view c.args.floors.now.jobs.now) (noted g.B.NoteBook.items c.args.frame.now) _ _ c.requires.running c.code_of-code.ensures
    c.if-frame-code.false

pub returns-clause-moves : goal.returns-clause-moves
returns-clause-moves g c =
    run_moves (program_of c.args.script.now) (g.C.ChannelFloor.view c.args.floors.now.channels.now)
    (noted g.B.NoteBook.items c.args.frame.now) (noted g.B.NoteBook.items c.run_line.new.frame) _ c.run_line.result
    (at_line (program_of c.args.script.now) (g.C.ChannelFloor.view c.args.floors.now.channels.now)
    (g.J.JobFloor.view c.args.floors.now.jobs.now) (noted g.B.NoteBook.items c.args.frame.now) _ _ c.requires.running
    c.code_of-code.ensures c.if-frame-code.false) c.run_line.ensures.moves

pub bounds-code-frame : goal.bounds-code-frame
bounds-code-frame g c = c.if-frame-code.false

pub returns-then-frame-code-clause-moves : goal.returns-then-frame-code-clause-moves
returns-then-frame-code-clause-moves g c = end_moves (program_of c.args.script.now) (g.C.ChannelFloor.view c.args.floors.now.channels.now)
    (noted g.B.NoteBook.items c.args.frame.now) (noted g.B.NoteBook.items c.end_body.new.frame) _ c.end_body.result
    c.code_of-code.ensures c.if-frame-code.true

pub returns-then-frame-code-clause-came : goal.returns-then-frame-code-clause-came
returns-then-frame-code-clause-came g c = c.end_body.ensures.came

pub returns-clause-came : goal.returns-clause-came
returns-clause-came g c = c.run_line.ensures.came
