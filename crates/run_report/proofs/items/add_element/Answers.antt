use Rattle.run_report.proofs.Gathering.{adds}
use Rattle.run_report.proofs.items.add_element.Goals as goal

pub returns : goal.returns
returns c =
    adds _ _ _ _ _ (adds _ _ _ _ _ (adds _ _ _ _ _ c.add.ensures c.add_place.ensures) c.add-2.ensures) c.add_number.ensures
