use Rattle.std.proofs.Common.{◌≡◌, ℕ, ◌||◌, drop}
use Rattle.co_base.specs.declared.names.WaitId.{WaitId}
use Rattle.note_book.specs.Items.{channel_acts_in}
use Rattle.run_report.specs.Resolutions.{is_elsewhere, is_resolved_elsewhere}
use Rattle.run_report.specs.Tables.{value_at}
use Rattle.run_report.proofs.resolutions.add_book.Given as goal

abbrev pub invariant-loop-item : goal.invariant-loop-item
invariant-loop-item l = (c p : ℕ) (w : WaitId) →
    (is_elsewhere c p (value_at l.table w.channel w.place)
    || is_resolved_elsewhere (λ d q. (value_at l.facts d q).wait) c p w (channel_acts_in (drop l.item-index l.notes)))
    ≡ (is_elsewhere c p (value_at l.fn.table w.channel w.place)
    || is_resolved_elsewhere (λ d q. (value_at l.facts d q).wait) c p w (channel_acts_in l.notes))
