use Rattle.std.proofs.Common.{refl, ap, arith}
use Rattle.script_reader.specs.Scripts.{program_of}
use Rattle.script_meaning.specs.Configs.{Config, in_repeat}
use Rattle.poll_states.specs.Frames.{noted}
use Rattle.poll_states.proofs.Standing.{line_short, head_short, end_entered}
use Rattle.poll_states.proofs.FrameLines.{turns_again, turns_no_more, receives_again}
use Rattle.poll_states.proofs.loops.end_turn.Goals as goal

pub next_line-requires : goal.next_line-requires
next_line-requires g c =
    let top = rw c.in-Some-InRepeat.field-0-is at c.in-Some-InRepeat.ensures in
    let short = line_short c.args.script.now c.args.frame.now.tag _ _ c.requires.at.line_is in
    omega (
      arith,
      short,
      ap (λ (x : Config). x.line) (c.leave.ensures.config (in_repeat c.in-Some-InRepeat.head c.in-Some-InRepeat.left)
          top.0 top.1),
    )

pub overflow_add-head : goal.overflow_add-head
overflow_add-head g c =
    let top = rw c.in-Some-InRepeat.field-0-is at c.in-Some-InRepeat.ensures in
    let short = head_short c.args.script.now _ _ (noted g.B.NoteBook.items c.args.frame.now)
    (in_repeat c.in-Some-InRepeat.head c.in-Some-InRepeat.left) top.0 c.requires.stands top.1 in
    omega (arith, short)

pub unreachable-requires : goal.unreachable-requires
unreachable-requires g c = let top = rw c.in-Some-InScope.field-0-is at c.in-Some-InScope.ensures
    in c.requires.turn (record { head = _; row = _ }) top

pub unreachable-requires-in-None : goal.unreachable-requires-in-None
unreachable-requires-in-None g c = end_entered (program_of c.args.script.now) _ _ (noted g.B.NoteBook.items c.args.frame.now)
    c.args.script.now.well_formed c.requires.stands c.requires.at c.in-None.ensures

pub returns-then-left-eq0-clause-came : goal.returns-then-left-eq0-clause-came
returns-then-left-eq0-clause-came g c =
    turns_no_more (program_of c.args.script.now) _ _ (noted g.B.NoteBook.items c.args.frame.now) (noted g.B.NoteBook.items c.leave.new.self)
    _ c.in-Some-InRepeat.head c.in-Some-InRepeat.left (g.met.J.JobFloor.legal c.args.floors.now.jobs.now) c.requires.at
    (rw c.in-Some-InRepeat.field-0-is at c.in-Some-InRepeat.ensures) c.if-left-eq0.true c.leave.ensures.tag c.leave.ensures.config
    c.leave.ensures.items c.next_line.ensures.tag c.next_line.ensures.config c.next_line.ensures.items

pub returns-else-left-eq0-clause-came : goal.returns-else-left-eq0-clause-came
returns-else-left-eq0-clause-came g c =
    turns_again (program_of c.args.script.now) _ _ (noted g.B.NoteBook.items c.args.frame.now)
    (noted g.B.NoteBook.items c.change_top.new.self) _ c.in-Some-InRepeat.head c.in-Some-InRepeat.left _
    (g.met.J.JobFloor.legal c.args.floors.now.jobs.now) c.requires.at (rw c.in-Some-InRepeat.field-0-is at c.in-Some-InRepeat.ensures)
    (let some = c.if-left-eq0.false in omega (arith, some)) refl c.change_top.ensures.tag c.change_top.ensures.config
    c.change_top.ensures.items c.at_line.ensures.tag c.at_line.ensures.config c.at_line.ensures.items

pub returns-in-Some-InEach-clause-came : goal.returns-in-Some-InEach-clause-came
returns-in-Some-InEach-clause-came g c =
    receives_again (program_of c.args.script.now) _ _ (noted g.B.NoteBook.items c.args.frame.now)
    (noted g.B.NoteBook.items c.leave-in-Some-InEach.new.self) _ c.in-Some-InEach.head
    (g.met.J.JobFloor.legal c.args.floors.now.jobs.now) c.requires.at (rw c.in-Some-InEach.field-0-is at c.in-Some-InEach.ensures)
    c.leave-in-Some-InEach.ensures.tag c.leave-in-Some-InEach.ensures.config c.leave-in-Some-InEach.ensures.items
    c.at_line-in-Some-InEach.ensures.tag c.at_line-in-Some-InEach.ensures.config c.at_line-in-Some-InEach.ensures.items
