use Rattle.cell_words.specs.Hubs.{shape_of, seen_by}
use Rattle.cell_words.proofs.LooksAtCells.{hub_legal, sees_then}
use Rattle.cell_calls.proofs.CallsTell.{may_admitted}
use Rattle.cell_calls.proofs.removing.remove_offer.Goals as goal

pub remove_admitted-requires-clause-may : goal.remove_admitted-requires-clause-may
remove_admitted-requires-clause-may c = may_admitted (shape_of c.args.hub.now) c.args.removal c.args.c c.args.place
    (seen_by c.args.pass.now) (seen_by c.remove.new.pass) c.in-Admitted.ensures.tried.0
    (hub_legal c.args.hub.now c.remove.new.pass c.remove.ensures.own.0) c.requires.may

pub returns-else-remove_admitted-clause-removed : goal.returns-else-remove_admitted-clause-removed
returns-else-remove_admitted-clause-removed c = let t = c.if-remove_admitted.ensures.removed
    in (sees_then _ _ _ c.in-Admitted.ensures.tried.0 t.0, t.1)
