use Rattle.std.proofs.Common.{refl, ◌∙◌}
use Rattle.script_reader.specs.Scripts.{program_of}
use Rattle.poll_states.proofs.LineNeeds.{note_after}
use Rattle.poll_states.proofs.Stepping.{cut_nothing}
use Rattle.poll_states.proofs.FrameLines.{failed_by}
use Rattle.poll_states.proofs.lines.fail.Goals as goal

pub returns-in-Err-clause-came : goal.returns-in-Err-clause-came
returns-in-Err-clause-came g c = cut_nothing refl refl refl c.room.ensures.items

pub returns-clause-came : goal.returns-clause-came
returns-clause-came g c = failed_by (program_of c.args.script.now) _ _ _ _ _ (g.met.J.JobFloor.legal c.args.floors.now.jobs.now)
    c.requires.at c.fail.ensures.tag c.fail.ensures.config (c.fail.ensures.items
    ∙ note_after _ _ _ _ c.note.ensures.items c.room.ensures.items)
