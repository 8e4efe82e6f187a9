use Rattle.run_report.proofs.Gathering.{adds}
use Rattle.run_report.proofs.shown.add_row.Goals as goal

pub returns : goal.returns
returns c =
    adds _ _ _ _ _ c.add.ensures c.add_index.ensures
