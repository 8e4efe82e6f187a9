use Rattle.std.proofs.Common.{ap, ◌∙◌, arith}
use Rattle.script_reader.specs.Scripts.{program_of}
use Rattle.script_meaning.specs.Configs.{next, with_result}
use Rattle.poll_states.specs.Frames.{config_of}
use Rattle.poll_states.proofs.Standing.{line_short}
use Rattle.poll_states.proofs.FrameLines.{result_set}
use Rattle.poll_states.proofs.lines.set_result.Goals as goal

pub next_line-requires : goal.next_line-requires
next_line-requires g c = let h = line_short c.args.script.now c.args.frame.now.tag _ _ c.requires.at.line_is in omega (arith, h)

pub returns-clause-came : goal.returns-clause-came
returns-clause-came g c = result_set (program_of c.args.script.now) _ _ _ _ _ (g.met.J.JobFloor.legal c.args.floors.now.jobs.now)
    c.requires.at c.next_line.ensures.tag (c.next_line.ensures.config
    ∙ ap (λ v. next (with_result v (config_of c.args.frame.now))) c.value_of-frame.ensures) c.next_line.ensures.items
