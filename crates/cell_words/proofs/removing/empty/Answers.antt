use Rattle.std.proofs.Common.{ap, refl}
use Rattle.word_rules.specs.declared.cell_word.CellWord.{CellWord}
use Rattle.word_rules.specs.Codes.{packed_cell}
use Rattle.cell_words.specs.Hubs.{shape_of, seen_by}
use Rattle.cell_words.proofs.MayExchange.{may_by, empties}
use Rattle.cell_words.proofs.LooksAtCells.{hub_legal}
use Rattle.cell_words.proofs.ExchangesTell.{turns_by, kept_told, kept_lost}
use Rattle.cell_words.proofs.removing.empty.Goals as goal

pub exchange_cell-requires-clause-may : goal.exchange_cell-requires-clause-may
exchange_cell-requires-clause-may c =
    let shape = shape_of c.args.hub.now in
    may_by shape _ _ _ _ _ _ _ _ (seen_by c.args.pass.now) refl refl (ap (λ (z : CellWord). packed_cell z) c.plain_cell-new.ensures.word)
    c.removal_entry-entry.ensures
    (empties shape (seen_by c.args.pass.now) c.args.who c.args.c c.args.place c.requires.own.1 c.requires.at.0 c.args.removal c.args.value
    c.args.old (hub_legal c.args.hub.now c.args.pass.now c.requires.own.0) c.requires.may c.requires.at.1 c.requires.low
    c.requires.kept)

pub returns-in-None-clause-emptied : goal.returns-in-None-clause-emptied
returns-in-None-clause-emptied c =
    kept_told (shape_of c.args.hub.now) (seen_by c.args.pass.now) (seen_by c.exchange_cell.new.pass)
    (hub_legal c.args.hub.now c.exchange_cell.new.pass c.exchange_cell.ensures.own.0) c.args.who c.args.c c.args.place c.args.value
    c.args.old c.requires.at.0 c.requires.at.1 c.requires.low c.requires.kept c.args.removal
    (turns_by (shape_of c.args.hub.now) _ _ _ _ (seen_by c.args.pass.now) (seen_by c.exchange_cell.new.pass)
    c.removal_entry-entry.ensures c.in-None.ensures.told)

pub returns-in-Some-clause-emptied : goal.returns-in-Some-clause-emptied
returns-in-Some-clause-emptied c =
    let t = c.in-Some.ensures.told in (
      t.0,
      kept_lost (shape_of c.args.hub.now) (seen_by c.args.pass.now) (seen_by c.exchange_cell.new.pass)
          (hub_legal c.args.hub.now c.exchange_cell.new.pass c.exchange_cell.ensures.own.0) c.args.who c.args.c c.args.place c.args.value
          c.args.old c.requires.at.0 c.requires.at.1 c.requires.low c.requires.kept c.in-Some.field-0 t.0 t.1 t.2,
    )
