use Rattle.std.proofs.Common.{true, sym, ap, ◌∙◌, subst, refl}
use Rattle.word_rules.specs.declared.cell_word.CellWord.{CellWord}
use Rattle.word_rules.specs.Codes.{packed_cell}
use Rattle.cell_words.specs.Hubs.{shape_of, seen_by}
use Rattle.cell_words.specs.Seen.{Seen}
use Rattle.cell_words.specs.Answers.{SpurnAt}
use Rattle.cell_words.proofs.MayExchange.{may_by, spurns_kept}
use Rattle.cell_words.proofs.LooksAtCells.{hub_legal}
use Rattle.cell_words.proofs.ExchangesTell.{turns_by, spurn_lost}
use Rattle.cell_words.proofs.ElementsWithRoom.{spurned_is}
use Rattle.cell_words.proofs.removing.spurn_kept.Goals as goal

pub exchange_cell-requires-clause-may : goal.exchange_cell-requires-clause-may
exchange_cell-requires-clause-may c =
    let shape = shape_of c.args.hub.now in
    may_by shape _ _ _ _ _ _ _ _ (seen_by c.args.pass.now) refl (ap (λ (z : CellWord). packed_cell z) c.plain_cell-before.ensures.word)
    (ap (λ (z : CellWord). packed_cell z) c.plain_cell-after.ensures.word) c.removal_entry-entry.ensures
    (spurns_kept shape (seen_by c.args.pass.now) c.args.who c.args.c c.args.place c.requires.own.1 c.requires.at.0 c.args.value
    (hub_legal c.args.hub.now c.args.pass.now c.requires.own.0) c.requires.may c.requires.at.1 c.requires.kept)

pub mark-requires-clause-fate : goal.mark-requires-clause-fate
mark-requires-clause-fate c =
    let shape = shape_of c.args.hub.now in
    let u = seen_by c.args.pass.now in
    let w = seen_by c.exchange_cell.new.pass in
    spurned_is shape c.args.who c.args.c c.args.place c.args.value u w
    (turns_by shape _ _ _ _ u w c.removal_entry-entry.ensures c.in-None.ensures.told).made
    (hub_legal c.args.hub.now c.exchange_cell.new.pass c.exchange_cell.ensures.own.0) c.requires.kept

pub returns-in-None-clause-spurned : goal.returns-in-None-clause-spurned
returns-in-None-clause-spurned c =
    let u = seen_by c.args.pass.now in
    subst (λ (z : Seen). SpurnAt c.args.who c.args.c c.args.place c.args.value u z true) (sym c.mark.ensures.same)
    (turns_by (shape_of c.args.hub.now) _ _ _ _ u (seen_by c.exchange_cell.new.pass) c.removal_entry-entry.ensures
    c.in-None.ensures.told).made

pub returns-in-Some-clause-spurned : goal.returns-in-Some-clause-spurned
returns-in-Some-clause-spurned c =
    let t = c.in-Some.ensures.told in (
      t.0,
      spurn_lost (shape_of c.args.hub.now) (seen_by c.args.pass.now) (seen_by c.exchange_cell.new.pass)
          (hub_legal c.args.hub.now c.exchange_cell.new.pass c.exchange_cell.ensures.own.0) c.args.c c.args.place c.args.value
          c.requires.kept c.in-Some.field-0 t.0 t.1
          (λ e. t.2 (e ∙ sym (ap (λ (z : CellWord). packed_cell z) c.plain_cell-before.ensures.word))),
    )
