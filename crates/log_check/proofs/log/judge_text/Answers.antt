use Rattle.std.proofs.Common.{Ok, ap, sym, ◌∙◌}
use Rattle.script_reader.specs.Scripts.{program_of}
use Rattle.log_check.proofs.Judging.{of_lines}
use Rattle.log_check.proofs.log.judge_text.Goals as goal

pub returns-in-Ok : goal.returns-in-Ok
returns-in-Ok g c =
    of_lines c.judge_lines.result (program_of c.args.script.now) c.args.text.now c.as_slice.result.now
    (c.in-Ok.ensures ∙ ap Ok (sym c.as_slice.ensures.value)) c.judge_lines.ensures
