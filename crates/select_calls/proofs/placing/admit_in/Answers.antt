use Rattle.std.proofs.Common.{rules, arith}
use Rattle.select_calls.specs.Clauses.{calls_of}
use Rattle.select_calls.proofs.AdmittedIn.{none_yet, one_more_admits, one_stops}
use Rattle.select_calls.proofs.placing.admit_in.Goals as goal

pub loop-i-init : goal.loop-i-init
loop-i-init g c = record { within = omega arith; same = search rules; admitted = none_yet (calls_of c.args.clauses.now) _ }

pub loop-i-preserved : goal.loop-i-preserved
loop-i-preserved g c = record {
  within = omega (arith, c.loop-i-test.true);
  same = search rules;
  admitted = one_more_admits _ _ c.loop-i.invariant.admitted _ c.in-Ok.ensures.answer;
}

pub returns-in-Err-clause-answer : goal.returns-in-Err-clause-answer
returns-in-Err-clause-answer g c = one_stops (calls_of c.args.clauses.now) _ c.loop-i.invariant.admitted _ _ c.loop-i-test.true
    c.in-Err.ensures.answer
