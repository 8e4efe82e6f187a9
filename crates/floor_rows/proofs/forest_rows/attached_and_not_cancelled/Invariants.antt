use Rattle.job_words.specs.Forests.{IsOwn}
use Rattle.floor_rows.proofs.forest_rows.attached_and_not_cancelled.Given as goal

abbrev pub invariant-loop-row : goal.invariant-loop-row
invariant-loop-row l = IsOwn l.forest l.pass 0
