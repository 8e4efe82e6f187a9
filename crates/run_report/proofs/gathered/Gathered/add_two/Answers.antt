use Rattle.run_report.proofs.Gathering.{adds}
use Rattle.run_report.proofs.gathered.Gathered.add_two.Goals as goal

pub returns : goal.returns
returns c =
    adds _ _ _ _ _ c.add.ensures c.add-2.ensures
