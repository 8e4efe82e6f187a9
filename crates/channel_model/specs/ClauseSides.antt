-- At which clause, and on which side of it, a wait is resolved.
use Rattle.std.specs.Prelude.{◌≡◌, ◌⊎◌, ℕ, Bool, true, false, List, [], ◌∷◌, Option, Some, None}
use Rattle.channel_model.specs.declared.acts.Act.{Act}
use Rattle.channel_model.specs.declared.acts.Act.TheVariants.{Offer, Await, Withdraw}
use Rattle.channel_model.specs.declared.acts.Settled.{Settled}
use Rattle.channel_model.specs.declared.acts.Settled.TheVariants as settled
use Rattle.channel_model.specs.declared.standing.Resolution.{Resolution}
use Rattle.channel_model.specs.declared.standing.Resolution.TheVariants.{Handed, Taken, Admitted, Closed, Withdrawn, Voided}
use Rattle.co_base.specs.declared.names.WaitId.{WaitId}
use Rattle.channel_model.specs.Channels.{Shape, Wait, kind_at, is_signal, same_wait}

-- a clause is given by its side, true if it offers, its number and its channel

-- the act begins the wait, whose name is the place of its first clause
abbrev pub BeginsAt : WaitId → Act → Type 0
BeginsAt w (Offer c p v u n) = (u ≡ w) × (w ≡ record { channel = c; place = p })
BeginsAt w (Await c p u n) = (u ≡ w) × (w ≡ record { channel = c; place = p })
BeginsAt w other = ⊥

-- a clause that the act gives the wait is one of these, and where it withdraws the wait, that may be
abbrev pub Allows : (Bool → ℕ → ℕ → Type 0) → Type 0 → WaitId → Act → Type 0
Allows IsClause MayGo w (Offer c p v u n) = same_wait u w ≡ true → IsClause true n c
Allows IsClause MayGo w (Await c p u n) = same_wait u w ≡ true → IsClause false n c
Allows IsClause MayGo w (Withdraw u why) = same_wait u w ≡ true → MayGo
Allows IsClause MayGo w other = Unit {0}

unfoldable pub AllAllowed : (Bool → ℕ → ℕ → Type 0) → Type 0 → WaitId → List Act → Type 0
AllAllowed IsClause MayGo w [] = Unit {0}
AllAllowed IsClause MayGo w (act ∷ acts) = Allows IsClause MayGo w act × AllAllowed IsClause MayGo w acts

-- such a resolution comes at one of these clauses: an element is handed to a receive, on a channel that is no signal, and
-- an offer is taken or kept
abbrev pub IsAtClause : Shape → (Bool → ℕ → ℕ → Type 0) → Type 0 → Resolution → Type 0
IsAtClause shape IsClause MayGo (Handed n v) = (c : ℕ) × IsClause false n c × (is_signal (kind_at shape c) ≡ false)
IsAtClause shape IsClause MayGo (Taken n) = (c : ℕ) × IsClause true n c
IsAtClause shape IsClause MayGo (Admitted n) = (c : ℕ) × IsClause true n c
IsAtClause shape IsClause MayGo (Closed n v) = (c : ℕ) × IsClause false n c
IsAtClause shape IsClause MayGo (Withdrawn why) = MayGo
IsAtClause shape IsClause MayGo Voided = (n : ℕ) × (c : ℕ) × IsClause true n c

abbrev pub IsOpenOrAtClause : Shape → (Bool → ℕ → ℕ → Type 0) → Type 0 → Option Resolution → Type 0
IsOpenOrAtClause shape IsClause MayGo None = Unit {0}
IsOpenOrAtClause shape IsClause MayGo (Some how) = IsAtClause shape IsClause MayGo how

-- the wait began, and if it was resolved, so at one of these clauses
abbrev pub ResolvedAtClause : Shape → (Bool → ℕ → ℕ → Type 0) → Type 0 → Option Wait → Type 0
ResolvedAtClause shape IsClause MayGo None = ⊥
ResolvedAtClause shape IsClause MayGo (Some x) = IsOpenOrAtClause shape IsClause MayGo x.resolved

-- so a wait with these clauses ends for a Job that was not cancelled
abbrev pub EndsAtClause : Shape → (Bool → ℕ → ℕ → Type 0) → Type 0 → Settled → Type 0
EndsAtClause shape IsClause MayGo (settled.Value n v) = (c : ℕ) × IsClause false n c × (is_signal (kind_at shape c) ≡ false)
EndsAtClause shape IsClause MayGo (settled.Sent n) = (c : ℕ) × IsClause true n c
EndsAtClause shape IsClause MayGo (settled.Closed n v) = (c : ℕ) × IsClause false n c
EndsAtClause shape IsClause MayGo settled.Cancelled = MayGo ⊎ ((n : ℕ) × (c : ℕ) × IsClause true n c)
EndsAtClause shape IsClause MayGo (settled.Undelivered v) = ⊥
