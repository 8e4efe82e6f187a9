use Rattle.std.proofs.Common.{◌≡◌, ◌++◌, length}
use Rattle.script_reader.specs.Scripts.{program_of}
use Rattle.report_reader.specs.Reading.{told_lines}
use Rattle.run_explanation.specs.Answers.{headed, texts_from}
use Rattle.run_explanation.proofs.entries.push_class.Given as goal

abbrev pub invariant-loop-rest : goal.invariant-loop-rest
invariant-loop-rest l = headed l.entries.items ++ texts_from (program_of l.script) l.waits l.class (told_lines l.rest)
    ≡ headed l.fn.entries.items ++ texts_from (program_of l.script) l.waits l.class (told_lines l.lines)

abbrev pub decreases-loop-rest : goal.decreases-loop-rest
decreases-loop-rest l = length l.rest
