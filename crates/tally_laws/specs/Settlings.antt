-- Waits that were resolved and are settled, callers that have one wait at a time, and the books of a history.
use Rattle.std.specs.Prelude.{◌≡◌, ℕ, Bool, true, ◌&&◌, List, [], ◌∷◌, Option, Some, None, slice_index_or}
use Rattle.channel_model.specs.declared.acts.Act.{Act}
use Rattle.channel_model.specs.declared.acts.Act.TheVariants.{Offer, Await, Settle}
use Rattle.channel_model.specs.declared.acts.Entry.{Entry}
use Rattle.co_base.specs.declared.names.WaitId.{WaitId}
use Rattle.channel_model.specs.Channels.{State, same_wait}
use Rattle.channel_model.specs.Answers.{IsResolvedWait, IsSettledWait}
use Rattle.channel_model.specs.Fates.{is_wait}
use Rattle.channel_model.specs.Histories.{acts_of}
use Rattle.note_book.specs.declared.book.Item.{Item}
use Rattle.note_book.specs.Items.{channel_acts_in}

-- each wait that was resolved is settled
abbrev pub ResolvedAreSettled : State → Type 0
ResolvedAreSettled s = (w : WaitId) → IsResolvedWait (s.waits w) → IsSettledWait (s.waits w)

-- the wait is the one that the caller has, or it has none
abbrev pub may_name : WaitId → Option WaitId → Bool
may_name w None = true
may_name w (Some u) = same_wait w u

-- a caller that has this wait, or none, names no other one until that is settled
abbrev pub has_one_wait : Option WaitId → List Act → Bool
has_one_wait o [] = true
has_one_wait o (Offer c p v w k ∷ acts) = may_name w o && has_one_wait (Some w) acts
has_one_wait o (Await c p w k ∷ acts) = may_name w o && has_one_wait (Some w) acts
has_one_wait o (Settle w outcome ∷ acts) = is_wait w o && has_one_wait None acts
has_one_wait o (other ∷ acts) = has_one_wait o acts

-- each book has its caller's acts, in their order, and past the last book nobody made one; each caller had one wait at a time
pub record AreBooks (books : List (List Item)) (history : List Entry) : Type 0 where
  pub parts : (k : ℕ) → acts_of k history ≡ channel_acts_in (slice_index_or books k [])
  pub one_wait : (k : ℕ) → has_one_wait None (channel_acts_in (slice_index_or books k [])) ≡ true
