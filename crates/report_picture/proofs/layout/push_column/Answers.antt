use Rattle.std.proofs.Common.{◌∙◌, ap, sym, subst, arith}
use Rattle.report_picture.specs.Pictures.{StandBeside, last_text}
use Rattle.report_picture.proofs.Beside.{beside_more, last_of_more}
use Rattle.report_picture.proofs.layout.push_column.Goals as goal

pub returns-clause-beside : goal.returns-clause-beside
returns-clause-beside c =
    subst (StandBeside 0) (sym c.in_ok-push.ensures.items)
    (beside_more 0 c.args.columns.now.items _ c.requires.beside
    (omega (arith, c.requires.edge, c.in_ok-left.ensures, c.room_of.ensures)) (omega (arith, c.in_ok-text.ensures)))

pub returns-clause-last : goal.returns-clause-last
returns-clause-last c = sym (ap (last_text 0) c.in_ok-push.ensures.items ∙ last_of_more 0 c.args.columns.now.items _)
