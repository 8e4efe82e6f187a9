-- How a wait that was resolved ends.
use Rattle.std.specs.Prelude.{◌≡◌, ℕ, Bool, true, false, Option, Some, None}
use Rattle.channel_model.specs.declared.acts.Settled.{Settled}
use Rattle.channel_model.specs.declared.acts.Settled.TheVariants as settled
use Rattle.channel_model.specs.declared.standing.Resolution.{Resolution}
use Rattle.channel_model.specs.declared.standing.Resolution.TheVariants as resolved

-- with the Job cancelled before the dispatch, or not
abbrev pub outcome_of : Resolution → Bool → Settled
outcome_of (resolved.Handed k v) false = settled.Value k v
outcome_of (resolved.Handed k v) true = settled.Undelivered v
outcome_of (resolved.Taken k) false = settled.Sent k
outcome_of (resolved.Taken k) true = settled.Cancelled
outcome_of (resolved.Admitted k) false = settled.Sent k
outcome_of (resolved.Admitted k) true = settled.Cancelled
outcome_of (resolved.Closed k v) false = settled.Closed k v
outcome_of (resolved.Closed k v) true = settled.Cancelled
outcome_of (resolved.Withdrawn why) cancelled = settled.Cancelled
outcome_of resolved.Voided cancelled = settled.Cancelled

-- the element that the wait was given
abbrev pub value_given : Resolution → Option ℕ
value_given (resolved.Handed k v) = Some v
value_given (resolved.Taken k) = None
value_given (resolved.Admitted k) = None
value_given (resolved.Closed k v) = None
value_given (resolved.Withdrawn why) = None
value_given resolved.Voided = None

-- the clause at which its offer was received or kept
abbrev pub sent_at : Resolution → Option ℕ
sent_at (resolved.Handed k v) = None
sent_at (resolved.Taken k) = Some k
sent_at (resolved.Admitted k) = Some k
sent_at (resolved.Closed k v) = None
sent_at (resolved.Withdrawn why) = None
sent_at resolved.Voided = None

-- the wait was resolved, and ends so for a Job that was cancelled or for one that was not
abbrev pub IsOutcome : Settled → Option Resolution → Type 0
IsOutcome outcome None = ⊥
IsOutcome (settled.Value k v) (Some how) = how ≡ resolved.Handed k v
IsOutcome (settled.Sent k) (Some how) = sent_at how ≡ Some k
IsOutcome (settled.Closed k v) (Some how) = how ≡ resolved.Closed k v
IsOutcome settled.Cancelled (Some how) = value_given how ≡ None
IsOutcome (settled.Undelivered v) (Some how) = value_given how ≡ Some v
