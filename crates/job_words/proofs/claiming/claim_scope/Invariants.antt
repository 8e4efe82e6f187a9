use Rattle.std.proofs.Common.{◌≤◌, []}
use Rattle.word_rules.specs.Deeds.{store_of, AreClaimedBelow}
use Rattle.job_words.specs.Passes.{Goes}
use Rattle.job_words.specs.Forests.{seen_by, IsOwn}
use Rattle.job_words.proofs.claiming.claim_scope.Given as goal

abbrev pub invariant-loop-row : goal.invariant-loop-row
invariant-loop-row l = record {
  own : IsOwn l.forest l.pass l.who;
  goes : Goes l.who [] (seen_by l.fn.pass) (seen_by l.pass);
  from : l.forest.size.coroutines ≤ l.row;
  claimed : AreClaimedBelow l.forest.size (store_of (seen_by l.pass).seen) l.row;
}
