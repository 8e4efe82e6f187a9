use Rattle.std.proofs.Common.{sym}
use Rattle.call_meaning.specs.ChannelCalls.{LooksAgain, NoPlace}
use Rattle.select_calls.proofs.ClausesAt.{length_calls}
use Rattle.select_calls.proofs.Stopping.{waits_on_all, stops_on_all, waits_resolved, stops_resolved, stops_placing, may_stop, changed_then, spent_then}
use Rattle.select_calls.proofs.select.wait_on_all.Goals as goal

pub stop-requires : goal.stop-requires
stop-requires g c = record {
  may = may_stop LooksAgain c.requires.may
      (rw c.in-Ok-Changed.field-0-is at c.in-Ok-Changed.ensures.all.answer).0;
}

pub stop-requires-in-Ok-Spent : goal.stop-requires-in-Ok-Spent
stop-requires-in-Ok-Spent g c = record {
  may = may_stop NoPlace c.requires.may
      (rw c.in-Ok-Spent.field-0-is at c.in-Ok-Spent.ensures.all.answer);
}

pub returns-in-Ok-clause-waited : goal.returns-in-Ok-clause-waited
returns-in-Ok-clause-waited g c =
    record {
      answer = waits_on_all _ (sym (length_calls c.args.clauses.now)) c.requires.may
          (rw c.in-Ok-All.field-0-is at c.in-Ok-All.ensures.all.answer) c.in-Ok.ensures.answer;
    }

pub returns-in-Err-admit_in-clause-waited : goal.returns-in-Err-admit_in-clause-waited
returns-in-Err-admit_in-clause-waited g c =
    record {
      answer = stops_on_all _ _ (sym (length_calls c.args.clauses.now)) c.requires.may
          (rw c.in-Ok-All.field-0-is at c.in-Ok-All.ensures.all.answer) c.in-Err-admit_in.ensures.answer;
    }

pub returns-in-Ok-admit_in-clause-waited : goal.returns-in-Ok-admit_in-clause-waited
returns-in-Ok-admit_in-clause-waited g c =
    let placed = rw c.in-Ok-Resolved.field-0-is at c.in-Ok-Resolved.ensures.all.answer in
    record { answer = waits_resolved _ placed.0 placed.1 c.in-Ok-admit_in.ensures.answer }

pub returns-in-Err-admit_in-2-clause-waited : goal.returns-in-Err-admit_in-2-clause-waited
returns-in-Err-admit_in-2-clause-waited g c =
    let placed = rw c.in-Ok-Resolved.field-0-is at c.in-Ok-Resolved.ensures.all.answer in
    record { answer = stops_resolved _ _ placed.0 placed.1 c.in-Err-admit_in-2.ensures.answer }

pub returns-in-Ok-Changed-clause-waited : goal.returns-in-Ok-Changed-clause-waited
returns-in-Ok-Changed-clause-waited g c =
    changed_then (rw c.in-Ok-Changed.field-0-is at c.in-Ok-Changed.ensures.all.answer) c.stop.ensures.stopped

pub returns-in-Ok-Spent-clause-waited : goal.returns-in-Ok-Spent-clause-waited
returns-in-Ok-Spent-clause-waited g c =
    spent_then (rw c.in-Ok-Spent.field-0-is at c.in-Ok-Spent.ensures.all.answer) c.stop-in-Ok-Spent.ensures.stopped

pub returns-in-Err-clause-waited : goal.returns-in-Err-clause-waited
returns-in-Err-clause-waited g c = record { answer = stops_placing c.in-Err.unplaced c.requires.may c.in-Err.ensures.all.answer }
