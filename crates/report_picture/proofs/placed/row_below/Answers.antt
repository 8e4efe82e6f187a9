use Rattle.std.proofs.Common.{◌≡◌, ◌<◌, subst, IfSome}
use Rattle.report_picture.specs.declared.picture.Drawn.{Drawn}
use Rattle.report_picture.proofs.Placing.{last_above}
use Rattle.report_picture.proofs.placed.row_below.Goals as goal

pub returns : goal.returns
returns c =
    last_above c.args.column c.in_ok-row.row c.args.drawn.now
    (subst (λ o. IfSome o (λ (d : Drawn). d.column ≡ c.args.column → d.row < c.in_ok-row.row)) c.last.ensures.value c.in_ok-row.ensures)
