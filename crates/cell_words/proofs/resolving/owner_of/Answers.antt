use Rattle.std.proofs.Common.{sym, ap, ◌∙◌, subst}
use Rattle.cell_words.specs.declared.found.Holder.{Holder}
use Rattle.cell_words.specs.Hubs.{shape_of, seen_by}
use Rattle.cell_words.specs.Looks.{owner_told}
use Rattle.cell_words.specs.Answers.{IsHolder, OwnerAnswer}
use Rattle.cell_words.proofs.LooksAtCells.{hub_legal}
use Rattle.cell_words.proofs.WaitsResolved.{owner_found}
use Rattle.cell_words.proofs.resolving.owner_of.Goals as goal

pub returns-in-Own-holder_of-clause-owner : goal.returns-in-Own-holder_of-clause-owner
returns-in-Own-holder_of-clause-owner c h =
    let shape = shape_of c.args.hub.now in
    let w = c.load_numbered_cell-word in
    let at = subst (λ (z : Holder). IsHolder shape c.args.c c.args.place z h.who h.wait) c.in-At.is h.holder in
    subst (OwnerAnswer h.who h.wait (seen_by w.new.pass).seen) (ap owner_told (sym c.holder_of.ensures ∙ c.in-Own-holder_of.is))
    (owner_found shape h.wait h.who (seen_by c.args.pass.now) (seen_by w.new.pass) w.ensures.sees
    (hub_legal c.args.hub.now w.new.pass w.ensures.own.0) w.result (w.ensures.word h.wait (h.fits.channel, h.fits.place) at.0) h.owner)

pub returns-in-At-holder_of-clause-owner : goal.returns-in-At-holder_of-clause-owner
returns-in-At-holder_of-clause-owner c h =
    let shape = shape_of c.args.hub.now in
    let w = c.load_numbered_cell-word in
    let at = subst (λ (z : Holder). IsHolder shape c.args.c c.args.place z h.who h.wait) c.in-At.is h.holder in
    subst (OwnerAnswer h.who h.wait (seen_by w.new.pass).seen) (ap owner_told (sym c.holder_of.ensures ∙ c.in-At-holder_of.is))
    (owner_found shape h.wait h.who (seen_by c.args.pass.now) (seen_by w.new.pass) w.ensures.sees
    (hub_legal c.args.hub.now w.new.pass w.ensures.own.0) w.result (w.ensures.word h.wait (h.fits.channel, h.fits.place) at.0) h.owner)
