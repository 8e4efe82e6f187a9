use Rattle.std.proofs.Common.{◌≡◌, ℕ, ◌||◌, drop, map}
use Rattle.co_base.specs.declared.names.WaitId.{WaitId}
use Rattle.note_book.specs.Books.{notes_of}
use Rattle.run_report.specs.Elements.{channel_acts_noted}
use Rattle.run_report.specs.Resolutions.{is_elsewhere, is_resolved_elsewhere}
use Rattle.run_report.specs.Tables.{value_at}
use Rattle.run_report.proofs.resolutions.resolutions_in.Given as goal

abbrev pub invariant-loop-book : goal.invariant-loop-book
invariant-loop-book l = (c p : ℕ) (w : WaitId) →
    (is_elsewhere c p (value_at l.table w.channel w.place)
    || is_resolved_elsewhere (λ d q. (value_at l.facts d q).wait) c p w (channel_acts_noted (map notes_of (drop l.book-index l.books))))
    ≡ is_resolved_elsewhere (λ d q. (value_at l.facts d q).wait) c p w (channel_acts_noted (map notes_of l.books))
