-- What the words tell a caller.
use Rattle.std.specs.Prelude.{ℕ, ◌%◌, ◌==◌, Bool, true, false, if◌then◌else◌, Option, Some, None}
use Rattle.channel_model.specs.declared.acts.Why.TheVariants.{Cancelled, Revoked}
use Rattle.channel_model.specs.declared.floor.WaitState.{WaitState}
use Rattle.channel_model.specs.declared.floor.WaitState.TheVariants as state
use Rattle.channel_model.specs.declared.standing.Resolution.{Resolution}
use Rattle.channel_model.specs.declared.standing.Resolution.TheVariants as resolved
use Rattle.word_rules.specs.declared.cell_word.CellState.{CellState}
use Rattle.word_rules.specs.declared.cell_word.CellState.TheVariants as cell
use Rattle.word_rules.specs.declared.cell_word.CellWord.{CellWord}
use Rattle.word_rules.specs.declared.wait_word.ResolvedBy.{ResolvedBy}
use Rattle.word_rules.specs.declared.wait_word.ResolvedBy.TheVariants as by
use Rattle.word_rules.specs.declared.wait_word.WaitWord.{WaitWord}
use Rattle.cell_words.specs.declared.found.Admission.{Admission}
use Rattle.cell_words.specs.declared.found.Admission.TheVariants as admission
use Rattle.cell_words.specs.declared.found.At.{At}
use Rattle.cell_words.specs.declared.found.At.TheVariants as at
use Rattle.cell_words.specs.declared.found.End.{End}
use Rattle.cell_words.specs.declared.found.End.TheVariants as end
use Rattle.cell_words.specs.declared.found.Holder.{Holder}
use Rattle.cell_words.specs.declared.found.Holder.TheVariants as holder
use Rattle.cell_words.specs.declared.found.Tried.{Tried}
use Rattle.cell_words.specs.declared.found.Tried.TheVariants as tried
use Rattle.cell_words.specs.declared.found.Waiter.{Waiter}

-- ---- a cell

abbrev pub holder_of : CellWord → Holder
holder_of w = if w.own_wait then holder.Own (w.holder % 65536) else holder.At w.holder

abbrev pub waiter_of : CellWord → Waiter
waiter_of w = record { holder = holder_of w; clause = w.clause; value = w.value }

abbrev pub found_by_sender : CellWord → CellState → At
found_by_sender w cell.Free = at.Gone
found_by_sender w cell.Receiver = at.Waiting (waiter_of w)
found_by_sender w cell.Offer = at.Gone
found_by_sender w cell.Buffered = at.Gone
found_by_sender w cell.Emptied = at.Gone
found_by_sender w cell.Closed = at.Closed w.value
found_by_sender w cell.Voided = at.Closed w.value

abbrev pub found_by_receiver : CellWord → CellState → At
found_by_receiver w cell.Free = at.Gone
found_by_receiver w cell.Receiver = at.Gone
found_by_receiver w cell.Offer = at.Waiting (waiter_of w)
found_by_receiver w cell.Buffered = at.Kept w.value
found_by_receiver w cell.Emptied = at.Gone
found_by_receiver w cell.Closed = at.Closed w.value
found_by_receiver w cell.Voided = at.Closed w.value

-- whether the channel ends here
abbrev pub end_found : CellWord → CellState → End
end_found w cell.Free = end.Open
end_found w cell.Receiver = end.Used
end_found w cell.Offer = end.Used
end_found w cell.Buffered = end.Used
end_found w cell.Emptied = end.Used
end_found w cell.Closed = end.Closed w.value
end_found w cell.Voided = end.Closed w.value

abbrev pub held_word : Holder → ℕ → ℕ → CellWord
held_word (holder.Own t) k v = record { state = cell.Offer; clause = k; own_wait = true; holder = t; value = v }
held_word (holder.At n) k v = record { state = cell.Offer; clause = k; own_wait = false; holder = n; value = v }

-- the word of the cell of an offer
abbrev pub offer_word : Waiter → CellWord
offer_word x = held_word x.holder x.clause x.value

-- the coroutine, where the cell holds its own wait
abbrev pub owner_told : Holder → Option ℕ
owner_told (holder.Own t) = Some t
owner_told (holder.At n) = None

-- the place was given out, or is the end of a closed channel
abbrev pub is_used_state : CellState → Bool
is_used_state cell.Free = false
is_used_state cell.Receiver = true
is_used_state cell.Offer = true
is_used_state cell.Buffered = true
is_used_state cell.Emptied = true
is_used_state cell.Closed = true
is_used_state cell.Voided = true

-- ---- a wait

abbrev pub stands_by : ResolvedBy → ℕ → ℕ → Bool
stands_by by.Nobody j k = true
stands_by by.Hand j k = false
stands_by by.Take j k = false
stands_by by.Admit j k = j == k
stands_by by.Close j k = false
stands_by by.Cancel j k = false
stands_by by.Revoke j k = false
stands_by by.Void j k = false

-- whether the offer of clause k was kept, by what its wait says; nothing while it stands
abbrev pub kept_told_by : ResolvedBy → ℕ → ℕ → Option Bool
kept_told_by by.Nobody j k = None
kept_told_by by.Hand j k = Some false
kept_told_by by.Take j k = Some false
kept_told_by by.Admit j k = Some (j == k)
kept_told_by by.Close j k = Some false
kept_told_by by.Cancel j k = Some false
kept_told_by by.Revoke j k = Some false
kept_told_by by.Void j k = Some false

abbrev pub kept_told : WaitWord → ℕ → Option Bool
kept_told w k = kept_told_by w.by w.clause k

-- nobody resolved it
abbrev pub is_nobody : ResolvedBy → Bool
is_nobody by.Nobody = true
is_nobody by.Hand = false
is_nobody by.Take = false
is_nobody by.Admit = false
is_nobody by.Close = false
is_nobody by.Cancel = false
is_nobody by.Revoke = false
is_nobody by.Void = false

-- the offer of clause k stands, held or kept
abbrev pub lets_stand : WaitWord → ℕ → Bool
lets_stand w k = stands_by w.by w.clause k

abbrev pub tried_by : Bool → Tried
tried_by true = tried.Admitted
tried_by false = tried.Gone

-- what a resolved wait says of the offer of clause k
abbrev pub tried_found : WaitWord → ℕ → Tried
tried_found w k = tried_by (lets_stand w k)

abbrev pub admission_by : Bool → Admission
admission_by true = admission.Kept
admission_by false = admission.Gone

-- what it says to one who would admit that offer
abbrev pub admission_found : WaitWord → ℕ → Admission
admission_found w k = admission_by (lets_stand w k)

abbrev pub state_by : ResolvedBy → WaitState
state_by by.Nobody = state.Standing
state_by by.Hand = state.Resolved
state_by by.Take = state.Resolved
state_by by.Admit = state.Resolved
state_by by.Close = state.Resolved
state_by by.Cancel = state.Resolved
state_by by.Revoke = state.Resolved
state_by by.Void = state.Resolved

-- how far the wait is
abbrev pub state_found : WaitWord → WaitState
state_found w = if w.settled then state.Settled else state_by w.by

abbrev pub resolution_by : ResolvedBy → ℕ → ℕ → Resolution
resolution_by by.Nobody k v = resolved.Voided
resolution_by by.Hand k v = resolved.Handed k v
resolution_by by.Take k v = resolved.Taken k
resolution_by by.Admit k v = resolved.Admitted k
resolution_by by.Close k v = resolved.Closed k v
resolution_by by.Cancel k v = resolved.Withdrawn Cancelled
resolution_by by.Revoke k v = resolved.Withdrawn Revoked
resolution_by by.Void k v = resolved.Voided

-- how a wait that was resolved was so
abbrev pub resolution_found : WaitWord → Resolution
resolution_found w = resolution_by w.by w.clause w.value
