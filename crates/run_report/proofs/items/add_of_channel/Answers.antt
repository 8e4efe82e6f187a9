use Rattle.run_report.proofs.Gathering.{adds}
use Rattle.run_report.proofs.items.add_of_channel.Goals as goal

pub returns : goal.returns
returns c =
    adds _ _ _ _ _ c.add.ensures c.add_channel.ensures
