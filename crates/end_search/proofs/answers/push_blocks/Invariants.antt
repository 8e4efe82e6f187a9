use Rattle.script_reader.specs.Scripts.{program_of}
use Rattle.end_search.specs.Blocks.{Blocks}
use Rattle.end_search.proofs.answers.push_blocks.Given as goal

abbrev pub invariant-loop-way : goal.invariant-loop-way
invariant-loop-way g l = Blocks (program_of l.shown.script.now) l.shown.wanted l.count l.out.items
