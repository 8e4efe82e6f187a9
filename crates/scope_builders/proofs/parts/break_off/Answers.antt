use Rattle.call_meaning.specs.Seen.{seen_jobs}
use Rattle.scope_builders.proofs.Breaks.{broken_request, broken_as, part_request}
use Rattle.scope_builders.proofs.parts.break_off.Goals as goal

pub returns-in-Ok-clause-broken : goal.returns-in-Ok-clause-broken
returns-in-Ok-clause-broken g c = broken_request c.in-None.is (g.met.J.JobFloor.legal c.cancel_tree.new.jobs) c.requires.own
    c.in-Ok.ensures.answer

pub returns-in-Err-clause-broken : goal.returns-in-Err-clause-broken
returns-in-Err-clause-broken g c = part_request c.in-None.is c.in-Err.ensures.answer.1

pub returns-in-Some-clause-broken : goal.returns-in-Some-clause-broken
returns-in-Some-clause-broken g c =
    broken_as c.args.row {f = c.in-Some.failed} {failure = c.args.failure}
    (seen_jobs g.J.JobFloor.view g.B.NoteBook.items c.args.who c.args.jobs.now c.args.book.now)
    (seen_jobs g.J.JobFloor.view g.B.NoteBook.items c.args.who c.fail_off.new.jobs c.fail_off.new.book) c.fail_off.result c.in-Some.is
    c.fail_off.ensures.broken
