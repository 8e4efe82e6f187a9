use Rattle.std.proofs.Common.{◌≡◌, ◌++◌, length, map}
use Rattle.script_reader.specs.Scripts.{program_of}
use Rattle.run_explanation.specs.Answers.{headed, waits_text}
use Rattle.run_explanation.proofs.entries.push_waits.Given as goal

abbrev pub invariant-loop-rest : goal.invariant-loop-rest
invariant-loop-rest l = headed l.entries.items ++ map (waits_text (program_of l.script)) l.rest
    ≡ headed l.fn.entries.items ++ map (waits_text (program_of l.script)) l.tags

abbrev pub decreases-loop-rest : goal.decreases-loop-rest
decreases-loop-rest l = length l.rest
