use Rattle.std.proofs.Common.{◌≡◌, ◌≤◌, ◌-◌, map}
use Rattle.script_grammar.specs.Tags.{coroutine_count}
use Rattle.script_reader.specs.Scripts.{program_of}
use Rattle.run_explanation.specs.Naming.{names_below}
use Rattle.run_explanation.proofs.naming.names_of.Given as goal

abbrev pub invariant-loop-tag : goal.invariant-loop-tag
invariant-loop-tag l = record {
  made : map (λ n. n.items) l.names.items ≡ names_below (program_of l.script) l.tag;
  within : l.tag ≤ coroutine_count (program_of l.script);
}

abbrev pub decreases-loop-tag : goal.decreases-loop-tag
decreases-loop-tag l = coroutine_count (program_of l.script) - l.tag
