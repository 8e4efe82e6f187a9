use Rattle.std.proofs.Common.{◌∙◌, sym, subst}
use Rattle.word_rules.specs.Words.{IsCell}
use Rattle.cell_words.specs.Hubs.{shape_of, seen_by}
use Rattle.cell_words.proofs.LooksAtCells.{sees_then, hub_legal}
use Rattle.cell_calls.proofs.CallsTell.{looked_of}
use Rattle.parcel_channel.proofs.NumbersWithdrawn.{none_withdrawn, was_withdrawn_at}
use Rattle.parcel_channel.proofs.waits.withdrawn_number.Goals as goal

pub wait_word_at-word-requires-clause-at : goal.wait_word_at-word-requires-clause-at
wait_word_at-word-requires-clause-at c = subst (λ n. IsCell (shape_of c.args.hub.now) n c.args.w.place) (sym c.requires.wait) c.requires.at

pub returns-then-not-was_withdrawn-clause-looked : goal.returns-then-not-was_withdrawn-clause-looked
returns-then-not-was_withdrawn-clause-looked c = looked_of c.args.hub.now c.args.who c.args.pass.now c.wait_word_at-word.new.pass
    c.requires.own.1 c.wait_word_at-word.ensures.sees

pub returns-then-not-was_withdrawn-clause-number : goal.returns-then-not-was_withdrawn-clause-number
returns-then-not-was_withdrawn-clause-number c =
    none_withdrawn c.args.w (seen_by c.wait_word_at-word.new.pass) c.wait_word_at-word.result c.wait_word_at-word.ensures.word
    (sym c.was_withdrawn.ensures ∙ c.if-not-was_withdrawn.true)

pub returns-clause-looked : goal.returns-clause-looked
returns-clause-looked c = looked_of c.args.hub.now c.args.who c.args.pass.now c.load_cell-cell.new.pass c.requires.own.1
    (sees_then (seen_by c.args.pass.now) (seen_by c.wait_word_at-word.new.pass) (seen_by c.load_cell-cell.new.pass)
    c.wait_word_at-word.ensures.sees c.load_cell-cell.ensures.sees)

pub returns-clause-number : goal.returns-clause-number
returns-clause-number c =
    c.number_offered.ensures
    ∙ was_withdrawn_at (shape_of c.args.hub.now) c.args.w (seen_by c.wait_word_at-word.new.pass) (seen_by c.load_cell-cell.new.pass)
    c.wait_word_at-word.result c.load_cell-cell.result
    c.load_cell-cell.ensures.sees (hub_legal c.args.hub.now c.load_cell-cell.new.pass c.load_cell-cell.ensures.own.0)
    c.wait_word_at-word.ensures.word (sym c.was_withdrawn.ensures ∙ c.if-not-was_withdrawn.false) c.load_cell-cell.ensures.word
