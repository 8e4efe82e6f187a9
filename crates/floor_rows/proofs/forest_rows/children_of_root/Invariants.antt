use Rattle.job_words.specs.Forests.{IsOwn}
use Rattle.floor_rows.proofs.forest_rows.children_of_root.Given as goal

abbrev pub invariant-loop : goal.invariant-loop
invariant-loop l = IsOwn l.forest l.pass 0
