use Rattle.std.proofs.Common.{sym, arith}
use Rattle.std.specs.Prelude.{[], refl}
use Rattle.std.proofs.lemmas.List.{append-nil}
use Rattle.job_tree.proofs.Looks.{looked_self}
use Rattle.floor_rows.proofs.forest_rows.LastEndEnds.ended.Goals as goal

pub returns-clause-ended : goal.returns-clause-ended
returns-clause-ended g c = record {
  ended = [];
  does_it = tt;
  few = omega arith;
  no_jobs = refl;
  appended = sym (append-nil _);
  room = omega arith;
}

pub returns-clause-looked : goal.returns-clause-looked
returns-clause-looked g c = λ who h. looked_self who _
