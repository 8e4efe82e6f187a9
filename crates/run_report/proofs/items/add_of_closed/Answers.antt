use Rattle.run_report.proofs.Gathering.{adds}
use Rattle.run_report.proofs.items.add_of_closed.Goals as goal

pub returns : goal.returns
returns c =
    adds _ _ _ _ _ (adds _ _ _ _ _ (adds _ _ _ _ _ (adds _ _ _ _ _ (adds _ _ _ _ _ c.add.ensures c.add_channel.ensures) c.add-2.ensures)
    c.add_number.ensures) c.add-3.ensures) c.add_number-2.ensures
