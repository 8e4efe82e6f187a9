use Rattle.run_report.proofs.Gathering.{adds}
use Rattle.run_report.proofs.job_lines.add_line.Goals as goal

pub returns : goal.returns
returns c =
    adds _ _ _ _ _ (adds _ _ _ _ _ (adds _ _ _ _ _ (adds _ _ _ _ _ c.add.ensures c.add_index.ensures) c.add-2.ensures) c.add_state.ensures)
    c.add-3.ensures
