use Rattle.std.proofs.Common.{refl, ap, arith}
use Rattle.script_reader.specs.Scripts.{program_of}
use Rattle.script_meaning.specs.Configs.{Config}
use Rattle.script_meaning.proofs.LinesPlaced.{repeat_turns}
use Rattle.poll_states.specs.Frames.{noted}
use Rattle.poll_states.proofs.Standing.{line_short}
use Rattle.poll_states.proofs.Stepping.{cut_nothing}
use Rattle.poll_states.proofs.FrameLines.{has_repeated}
use Rattle.poll_states.proofs.loops.repeat.Goals as goal

pub returns-in-Err-clause-came : goal.returns-in-Err-clause-came
returns-in-Err-clause-came g c = cut_nothing refl refl c.room_to_enter.ensures.tag c.room_to_enter.ensures.items

pub overflow_sub-turns : goal.overflow_sub-turns
overflow_sub-turns g c = (repeat_turns (program_of c.args.script.now) _ _ _ c.args.script.now.well_formed c.requires.at.line_is).0

pub enter-requires-clause-line : goal.enter-requires-clause-line
enter-requires-clause-line g c = let h = line_short c.args.script.now c.args.frame.now.tag _ _ c.requires.at.line_is
    in omega (arith, h, ap (λ (x : Config). x.line) c.room_to_enter.ensures.config)

pub returns-clause-came : goal.returns-clause-came
returns-clause-came g c =
    has_repeated (program_of c.args.script.now) _ _ (noted g.B.NoteBook.items c.args.frame.now)
    (noted g.B.NoteBook.items c.room_to_enter.new.self) _ _ _ c.args.script.now.well_formed
    (g.met.J.JobFloor.legal c.args.floors.now.jobs.now) c.requires.at refl c.room_to_enter.ensures.config c.room_to_enter.ensures.tag
    c.room_to_enter.ensures.items c.enter.ensures.tag c.enter.ensures.config c.enter.ensures.items
