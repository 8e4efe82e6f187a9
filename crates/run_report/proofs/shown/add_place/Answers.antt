use Rattle.run_report.proofs.Gathering.{adds}
use Rattle.run_report.proofs.shown.add_place.Goals as goal

pub returns : goal.returns
returns c =
    adds _ _ _ _ _ (adds _ _ _ _ _ c.add_channel.ensures c.add.ensures) c.add_number.ensures
