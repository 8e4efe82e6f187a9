use Rattle.std.proofs.Common.{◌∙◌, sym}
use Rattle.report_picture.proofs.arranged.is_allowed.Goals as goal

pub returns-clause-allowed : goal.returns-clause-allowed
returns-clause-allowed c = λ is. (c.as_slice.result.now, sym c.all_stand_below-found.ensures ∙ is)
