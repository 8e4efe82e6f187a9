use Rattle.std.proofs.Common.{ℕ, ◌*◌, sym, ap, ◌∙◌, subst, arith}
use Rattle.cell_words.specs.Hubs.{shape_of, seen_by}
use Rattle.word_rules.specs.Words.{Fits}
use Rattle.cell_words.proofs.OneNumberOneWord.{cell_within, number_within}
use Rattle.cell_words.proofs.ExchangesTell.{turned_as, not_turned}
use Rattle.cell_words.proofs.WordsFound.{cell_found, cell_some}
use Rattle.cell_words.proofs.cells.exchange_cell.Goals as goal

pub exchange_word-found-requires-clause-word : goal.exchange_word-found-requires-clause-word
exchange_word-found-requires-clause-word c = let h = cell_within (shape_of c.args.hub.now) c.args.c c.args.place c.requires.at.0
    c.requires.at.1 in let e = c.number_of-word.ensures in omega arith

pub returns-then-found-number-clause-told : goal.returns-then-found-number-clause-told
returns-then-found-number-clause-told c =
    turned_as (shape_of c.args.hub.now) _ _ c.exchange_word-found.result _ _ c.args.entry.now (seen_by c.args.pass.now)
    (seen_by c.exchange_word-found.new.pass) (ap (λ (n : ℕ). 2 * n) c.number_of-word.ensures) c.pack-number.ensures
    c.exchange_word-found.ensures.told c.if-found-number.true

pub unreachable-requires : goal.unreachable-requires
unreachable-requires c =
    let h = not_turned (shape_of c.args.hub.now) _ _ c.exchange_word-found.result c.args.entry.now (seen_by c.args.pass.now)
    (seen_by c.exchange_word-found.new.pass) c.exchange_word-found.ensures.told c.if-found-number.false in
    cell_some (shape_of c.args.hub.now) (seen_by c.exchange_word-found.new.pass).seen c.exchange_word-found.result c.args.c c.args.place
    c.requires.at (subst (λ (n : ℕ). Fits (shape_of c.args.hub.now) (seen_by c.exchange_word-found.new.pass).seen (2 * n)
    c.exchange_word-found.result) c.number_of-word.ensures h.1) c.in-None.ensures

pub returns-clause-told : goal.returns-clause-told
returns-clause-told c =
    let h = not_turned (shape_of c.args.hub.now) _ _ c.exchange_word-found.result c.args.entry.now (seen_by c.args.pass.now)
    (seen_by c.exchange_word-found.new.pass) c.exchange_word-found.ensures.told c.if-found-number.false in (
      h.0,
      cell_found (shape_of c.args.hub.now) (seen_by c.exchange_word-found.new.pass).seen c.exchange_word-found.result c.args.c c.args.place
          c.requires.at (subst (λ (n : ℕ). Fits (shape_of c.args.hub.now) (seen_by c.exchange_word-found.new.pass).seen (2 * n)
          c.exchange_word-found.result) c.number_of-word.ensures h.1) c.in-Some.word c.in-Some.ensures.0 c.in-Some.ensures.1,
      λ e. c.if-found-number.false (sym c.in-Some.ensures.0 ∙ e ∙ sym c.pack-number.ensures),
    )

pub overflow_mul-word : goal.overflow_mul-word
overflow_mul-word c = let n = number_within (shape_of c.args.hub.now) c.args.c c.args.place c.requires.at.0 c.requires.at.1
    in let e = c.number_of-word.ensures in let w = c.args.hub.now.sized.few in record { fits = omega arith }
