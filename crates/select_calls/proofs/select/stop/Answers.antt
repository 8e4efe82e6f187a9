use Rattle.select_calls.specs.Clauses.{calls_of}
use Rattle.select_calls.proofs.Stopping.{withdrawn_then, late_then, stopped_withdrawn, stopped_late, stopped_untold}
use Rattle.select_calls.proofs.select.stop.Goals as goal

pub revoke-requires-clause-can : goal.revoke-requires-clause-can
revoke-requires-clause-can g c = (c.requires.may.wait _ c.in-Some.is).0

pub revoke-requires-clause-holds : goal.revoke-requires-clause-holds
revoke-requires-clause-holds g c = (c.requires.may.wait _ c.in-Some.is).1

pub returns-in-Ok-clause-stopped : goal.returns-in-Ok-clause-stopped
returns-in-Ok-clause-stopped g c =
    record {
      answer = withdrawn_then (calls_of c.args.clauses.now) _ _ _ c.in-Some.is c.in-Ok-true.ensures.answer c.in-Ok-true.field-0-test
          c.in-Ok.ensures.answer;
    }

pub returns-in-Err-admit_in-clause-stopped : goal.returns-in-Err-admit_in-clause-stopped
returns-in-Err-admit_in-clause-stopped g c =
    record {
      answer = stopped_withdrawn (calls_of c.args.clauses.now) c.args.count c.args.answer _ c.in-Some.is c.in-Ok-true.ensures.answer
          c.in-Ok-true.field-0-test c.in-Err-admit_in.ensures.answer;
    }

pub returns-in-Ok-admit_in-clause-stopped : goal.returns-in-Ok-admit_in-clause-stopped
returns-in-Ok-admit_in-clause-stopped g c =
    record {
      answer = late_then (calls_of c.args.clauses.now) _ _ _ c.in-Some.is c.in-Ok-false.ensures.answer c.in-Ok-false.field-0-test
          c.in-Ok-admit_in.ensures.answer;
    }

pub returns-in-Err-admit_in-2-clause-stopped : goal.returns-in-Err-admit_in-2-clause-stopped
returns-in-Err-admit_in-2-clause-stopped g c =
    record {
      answer = stopped_late (calls_of c.args.clauses.now) c.args.count c.args.answer _ c.in-Some.is c.in-Ok-false.ensures.answer
          c.in-Ok-false.field-0-test c.in-Err-admit_in-2.ensures.answer;
    }

pub returns-in-Err-clause-stopped : goal.returns-in-Err-clause-stopped
returns-in-Err-clause-stopped g c = record { answer = stopped_untold (calls_of c.args.clauses.now) _ c.in-Some.is c.in-Err.ensures.answer }
