use Rattle.std.proofs.Common.{refl}
use Rattle.report_picture.proofs.Shows.{shown}
use Rattle.report_picture.proofs.drawing.depict.Goals as goal

pub returns-clause-shown : goal.returns-clause-shown
returns-clause-shown c =
    shown _ _ _ _ _ _ _ c.requires.tags refl c.in_ok-fill.ensures.tags c.in_ok-fill.ensures.beside
    c.in_ok-arrange.ensures.once c.in_ok-arrange.ensures.columns c.in_ok-arrange.ensures.order c.in_ok-arrange.ensures.ordered
    c.in_ok-fill.ensures.part c.in_ok-fill.ensures.fates
