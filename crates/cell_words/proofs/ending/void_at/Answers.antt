use Rattle.std.proofs.Common.{ap, refl}
use Rattle.word_rules.specs.declared.cell_word.CellWord.{CellWord}
use Rattle.word_rules.specs.Codes.{packed_cell}
use Rattle.cell_words.specs.Hubs.{shape_of, seen_by}
use Rattle.cell_words.proofs.MayExchange.{may_as}
use Rattle.cell_words.proofs.LooksAtCells.{hub_legal}
use Rattle.cell_words.proofs.ChannelsVoided.{voids, void_lost}
use Rattle.cell_words.proofs.ending.void_at.Goals as goal

pub exchange_cell-requires-clause-may : goal.exchange_cell-requires-clause-may
exchange_cell-requires-clause-may c =
    may_as (shape_of c.args.hub.now) _ _ _ _ _ _ _ (seen_by c.args.pass.now) refl
    (ap (λ (z : CellWord). packed_cell z) c.plain_cell-old.ensures.word)
    (ap (λ (z : CellWord). packed_cell z) c.plain_cell-new.ensures.word)
    (voids (shape_of c.args.hub.now) (seen_by c.args.pass.now) c.args.who c.args.c c.args.place c.args.value c.requires.own.1
    c.requires.at.0 c.requires.at.1 c.requires.closed)

pub returns-in-Some-clause-voided : goal.returns-in-Some-clause-voided
returns-in-Some-clause-voided c =
    let t = c.in-Some.ensures.told in (
      t.0,
      void_lost (shape_of c.args.hub.now) (seen_by c.args.pass.now) (seen_by c.exchange_cell.new.pass) c.args.c c.args.place
          c.args.value c.in-Some.field-0 c.plain_cell-old.result
          (hub_legal c.args.hub.now c.exchange_cell.new.pass c.exchange_cell.ensures.own.0) c.requires.closed t.0
          c.plain_cell-old.ensures.word t.1 t.2,
    )
