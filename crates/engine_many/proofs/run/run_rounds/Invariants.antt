use Rattle.std.proofs.Common.{◌≡◌, ◌<◌, ◌≤◌, length}
use Rattle.std.specs.Prelude.{vec_len}
use Rattle.script_grammar.specs.Tags.{coroutine_count}
use Rattle.engine_many.specs.Parts.{tags_of}
use Rattle.run_laws.specs.Sights.{CountUp}
use Rattle.engine_many.proofs.run.run_rounds.Given as goal

abbrev pub invariant-rounds : goal.invariant-rounds
invariant-rounds g l = record {
  finite : (goal.iterator-rounds g).can_next l.iterator' × (goal.iterator-rounds g).is_finite l.iterator';
  count : length l.tasks.items ≡ coroutine_count g.N.ScriptName.program;
  tags : CountUp 0 (tags_of l.tasks.items);
  some : 0 < vec_len l.lanes;
  few : vec_len l.lanes ≤ 16;
}
