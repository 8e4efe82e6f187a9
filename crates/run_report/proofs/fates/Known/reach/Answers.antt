use Rattle.std.proofs.Common.{◌∙◌}
use Rattle.run_report.proofs.Deduced.{no_element}
use Rattle.run_report.proofs.fates.Known.reach.Goals as goal

pub returns : goal.returns
returns c = λ p h. no_element _ _ (c.reach.ensures p h ∙ c.requires.plain)
