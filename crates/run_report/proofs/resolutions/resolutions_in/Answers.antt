use Rattle.std.proofs.Common.{ℕ, ◌||◌, List, ◌∷◌, ◌+◌, map, ap, sym, ◌∙◌, drop, arith}
use Rattle.std.proofs.Math.Bool.{or-false}
use Rattle.std.proofs.lemmas.List.{at_drop_all, at_drop_more}
use Rattle.note_book.specs.declared.notes.Notes.{Notes}
use Rattle.note_book.specs.Books.{notes_of}
use Rattle.note_book.specs.Items.{channel_acts_in}
use Rattle.run_report.specs.Elements.{channel_acts_noted}
use Rattle.run_report.specs.Resolutions.{is_elsewhere, is_resolved_elsewhere}
use Rattle.run_report.specs.Tables.{value_at}
use Rattle.run_report.proofs.Resolving.{all_resolved_more}
use Rattle.run_report.proofs.resolutions.resolutions_in.Goals as goal

pub loop-book-preserved : goal.loop-book-preserved
loop-book-preserved c = λ d q w.
    let books = c.args.books.now in
    let k = c.loop-book.book-index in
    let book = c.book-item.result in
    let waits = λ (e r : ℕ). (value_at c.args.facts.now e r).wait in
    let before = is_elsewhere d q (value_at c.loop-book.table w.channel w.place) in
    let resolved_in = λ (l : List Notes). is_resolved_elsewhere waits d q w (channel_acts_noted (map notes_of l)) in
    all_resolved_more waits d q w before (is_elsewhere d q (value_at c.add_book.new.table w.channel w.place)) (resolved_in books)
    (channel_acts_in (notes_of book)) (channel_acts_noted (map notes_of (drop (k + 1) books)))
    (c.in_ok-add_book.ensures d q w ∙ ap (λ l. before || is_resolved_elsewhere waits d q w (channel_acts_in l)) c.items.ensures)
    (ap (λ b. before || resolved_in (b ∷ drop (k + 1) books)) c.book-item.is
    ∙ ap (λ x. before || x) (sym (at_drop_more resolved_in books k book (omega arith)))
    ∙ c.loop-book.invariant d q w)

pub loop-book-init : goal.loop-book-init
loop-book-init c = λ d q w.
    let waits = λ (e r : ℕ). (value_at c.args.facts.now e r).wait in
    let resolved = is_resolved_elsewhere waits d q w (channel_acts_noted (map notes_of c.args.books.now)) in
    ap (λ x. is_elsewhere d q x || resolved) (c.new-table.ensures.value w.channel w.place)

pub returns : goal.returns
returns c = λ d q w.
    let waits = λ (e r : ℕ). (value_at c.args.facts.now e r).wait in
    let now = is_elsewhere d q (value_at c.loop-book.table w.channel w.place) in
    let resolved_in = λ (l : List Notes). is_resolved_elsewhere waits d q w (channel_acts_noted (map notes_of l)) in
    sym (or-false now)
    ∙ ap (λ x. now || x) (sym (at_drop_all resolved_in c.args.books.now c.loop-book.book-index (omega arith)))
    ∙ c.loop-book.invariant d q w
