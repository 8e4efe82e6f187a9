use Rattle.std.proofs.Common.{refl}
use Rattle.report_picture.proofs.Shows.{are_arranged, are_told}
use Rattle.report_picture.proofs.arranged.arrange.Goals as goal

pub returns-then-as_told-arranged-clause-ordered : goal.returns-then-as_told-arranged-clause-ordered
returns-then-as_told-arranged-clause-ordered c =
    are_arranged _ _ c.args.books.wanted _ _ _ c.if-as_told-arranged.true c.in_ok-arrange_in.ensures.told c.in_ok-arrange_in.ensures.allowed

pub returns-clause-ordered : goal.returns-clause-ordered
returns-clause-ordered c =
    are_told _ c.args.books.wanted _ _ _ (c.in_ok-arrange_in-2.ensures.told refl).0 (c.in_ok-arrange_in-2.ensures.told refl).1
