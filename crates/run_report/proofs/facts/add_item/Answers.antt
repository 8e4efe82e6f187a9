use Rattle.std.proofs.Common.{◌≡◌, Some}
use Rattle.std.proofs.lemmas.Result.{on_ok_weaker}
use Rattle.run_report.specs.Facts.{told_by}
use Rattle.run_report.specs.Tables.{value_at}
use Rattle.run_report.proofs.Told.{added_at, nothing_added}
use Rattle.run_report.proofs.facts.add_item.Goals as goal

pub returns-in-Some-clause-joined : goal.returns-in-Some-clause-joined
returns-in-Some-clause-joined c =
    let all : told_by c.args.item ≡ Some (c.in-Some.at, c.in-Some.facts) = cc in
    on_ok_weaker c.set.result
    (λ sets d q. added_at (value_at c.args.table.now) c.in-Some.at c.in-Some.facts (told_by c.args.item) c.and.result
    (value_at c.set.new.self d q) d q all (cc) (sets d q))
    c.set.ensures.value

pub returns-in-None-clause-joined : goal.returns-in-None-clause-joined
returns-in-None-clause-joined c = λ d q. nothing_added (value_at c.args.table.now d q) (told_by c.args.item) d q (cc)
