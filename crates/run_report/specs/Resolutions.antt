-- Whether a wait was resolved at another place than this.
use Rattle.std.specs.Prelude.{ℕ, Bool, true, false, not, ◌&&◌, List, Option, Some, None, if◌then◌else◌}
use Rattle.std.specs.List.{list_any}
use Rattle.channel_model.specs.declared.acts.Act.{Act}
use Rattle.channel_model.specs.declared.acts.ChannelNote.TheVariants as note
use Rattle.co_base.specs.declared.names.WaitId.{WaitId}
use Rattle.channel_model.specs.Fates.{is_at, is_wait, resolves_at}
use Rattle.note_book.specs.declared.book.Item.{Item}
use Rattle.note_book.specs.declared.book.Item.TheVariants as item
use Rattle.run_report.specs.declared.resolutions.Resolved.{Resolved}
use Rattle.run_report.specs.declared.resolutions.Resolved.TheVariants.{Nowhere, At, Several}

-- one of the places of a wait's resolutions is another than this
abbrev pub is_elsewhere : ℕ → ℕ → Resolved → Bool
is_elsewhere c p Nowhere = false
is_elsewhere c p (At d q) = not (is_at c p d q)
is_elsewhere c p Several = true

-- with one more place
abbrev pub also : ℕ → ℕ → Resolved → Resolved
also d q Nowhere = At d q
also d q (At e r) = if is_at e r d q then At e r else Several
also d q Several = Several

-- the place whose wait is resolved by the act that an item notes
abbrev pub resolved_by : Item → Option (ℕ × ℕ)
resolved_by (item.Channel (note.Made act)) = resolves_at act
resolved_by other = None

-- an act that resolves the wait of this other place resolves the wait w elsewhere than here
abbrev pub is_resolved_at : (ℕ → ℕ → Option WaitId) → ℕ → ℕ → WaitId → Option (ℕ × ℕ) → Bool
is_resolved_at waits c p w None = false
is_resolved_at waits c p w (Some x) = not (is_at c p x.0 x.1) && is_wait w (waits x.0 x.1)

-- one of the acts resolves the wait w elsewhere than here
abbrev pub is_resolved_elsewhere : (ℕ → ℕ → Option WaitId) → ℕ → ℕ → WaitId → List Act → Bool
is_resolved_elsewhere waits c p w acts = list_any (λ a. is_resolved_at waits c p w (resolves_at a)) acts
