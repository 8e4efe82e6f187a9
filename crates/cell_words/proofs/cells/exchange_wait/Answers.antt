use Rattle.std.proofs.Common.{sym, ◌∙◌, refl, arith}
use Rattle.cell_words.specs.Hubs.{shape_of, seen_by}
use Rattle.cell_words.proofs.OneNumberOneWord.{number_within}
use Rattle.cell_words.proofs.ExchangesTell.{turned_as, not_turned}
use Rattle.cell_words.proofs.WordsFound.{numbered_wait, numbered_wait_some}
use Rattle.cell_words.proofs.cells.exchange_wait.Goals as goal

pub exchange_word-found-requires-clause-word : goal.exchange_word-found-requires-clause-word
exchange_word-found-requires-clause-word c = let i = c.requires.number
    in let n = number_within (shape_of c.args.hub.now) i.wait.channel i.wait.place i.at.0 i.at.1 in let e = i.is in omega arith

pub returns-then-found-number-clause-told : goal.returns-then-found-number-clause-told
returns-then-found-number-clause-told c =
    turned_as (shape_of c.args.hub.now) _ _ c.exchange_word-found.result _ _ c.args.entry.now (seen_by c.args.pass.now)
    (seen_by c.exchange_word-found.new.pass) refl c.pack-number.ensures c.exchange_word-found.ensures.told c.if-found-number.true

pub unreachable-requires : goal.unreachable-requires
unreachable-requires c =
    let h = not_turned (shape_of c.args.hub.now) _ _ c.exchange_word-found.result c.args.entry.now (seen_by c.args.pass.now)
    (seen_by c.exchange_word-found.new.pass) c.exchange_word-found.ensures.told c.if-found-number.false in
    numbered_wait_some (shape_of c.args.hub.now) (seen_by c.exchange_word-found.new.pass).seen c.exchange_word-found.result c.args.cell
    c.requires.number h.1 c.in-None.ensures

pub returns-clause-told : goal.returns-clause-told
returns-clause-told c =
    let h = not_turned (shape_of c.args.hub.now) _ _ c.exchange_word-found.result c.args.entry.now (seen_by c.args.pass.now)
    (seen_by c.exchange_word-found.new.pass) c.exchange_word-found.ensures.told c.if-found-number.false in (
      h.0,
      numbered_wait (shape_of c.args.hub.now) (seen_by c.exchange_word-found.new.pass).seen c.exchange_word-found.result c.args.cell h.1
          c.in-Some.word c.in-Some.ensures.0 c.in-Some.ensures.1,
      λ e. c.if-found-number.false (sym c.in-Some.ensures.0 ∙ e ∙ sym c.pack-number.ensures),
    )

pub overflow_mul-word : goal.overflow_mul-word
overflow_mul-word c = let i = c.requires.number in let n = number_within (shape_of c.args.hub.now) i.wait.channel i.wait.place i.at.0 i.at.1
    in let e = i.is in let w = c.args.hub.now.sized.few in record { fits = omega arith }

pub overflow_add-word : goal.overflow_add-word
overflow_add-word c = let i = c.requires.number in let n = number_within (shape_of c.args.hub.now) i.wait.channel i.wait.place i.at.0 i.at.1
    in let e = i.is in let w = c.args.hub.now.sized.few in record { fits = omega arith }
