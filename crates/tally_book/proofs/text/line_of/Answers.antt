use Rattle.std.proofs.Common.{◌≡◌, subst}
use Rattle.std.specs.Prelude.{IfOk, string_bytes}
use Rattle.tally_book.specs.Totals.{counts_in}
use Rattle.tally_book.proofs.LinesSame.{line_same}
use Rattle.tally_book.proofs.text.line_of.Goals as goal

pub returns : goal.returns
returns c =
    subst (λ l. IfOk c.line.result (λ text. string_bytes text ≡ l))
    (line_same c.args.version c.job_totals-jobs.result c.fates_of.result c.args.root c.args.tallies.now (counts_in c.act_totals-acts.result)
    c.act_totals-acts.ensures.sum c.fates_of.ensures c.job_totals-jobs.ensures.sum)
    c.line.ensures
