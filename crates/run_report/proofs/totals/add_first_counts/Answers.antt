use Rattle.run_report.proofs.Gathering.{adds}
use Rattle.run_report.proofs.totals.add_first_counts.Goals as goal

pub returns : goal.returns
returns c =
    adds _ _ _ _ _ c.add.ensures (adds _ _ _ _ _ c.add_number.ensures
    (adds _ _ _ _ _ c.add-2.ensures (adds _ _ _ _ _ c.add_number-2.ensures
    (adds _ _ _ _ _ c.add-3.ensures (adds _ _ _ _ _ c.add_number-3.ensures
    (adds _ _ _ _ _ c.add-4.ensures (adds _ _ _ _ _ c.add_number-4.ensures
    (adds _ _ _ _ _ c.add-5.ensures (adds _ _ _ _ _ c.add_number-5.ensures c.add-6.ensures)))))))))
