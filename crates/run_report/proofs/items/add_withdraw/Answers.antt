use Rattle.std.proofs.Common.{subst}
use Rattle.run_report.specs.Gatherings.{Adds}
use Rattle.run_report.proofs.Gathering.{adds}
use Rattle.run_report.proofs.items.add_withdraw.Goals as goal

pub returns : goal.returns
returns c =
    adds _ _ _ _ _ (adds _ _ _ _ _ (adds _ _ _ _ _ c.add.ensures c.add_wait.ensures) c.add-2.ensures)
    (subst (λ l. Adds c.add-2.new.self c.add-3.new.self l) c.why_word.ensures c.add-3.ensures)
