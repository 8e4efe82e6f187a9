use Rattle.run_report.proofs.Gathering.{adds}
use Rattle.run_report.proofs.books.add_line.Goals as goal

pub returns : goal.returns
returns c =
    adds _ _ _ _ _ (adds _ _ _ _ _ (adds _ _ _ _ _ c.add_index.ensures c.add.ensures) c.add_item.ensures) c.add-2.ensures
