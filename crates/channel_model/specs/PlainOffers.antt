-- The wait of a plain offer, while its owner neither withdraws nor settles it.
use Rattle.std.specs.Prelude.{◌≡◌, ℕ, Bool, true, [], ◌∷◌, Option, Some, None}
use Rattle.co_base.specs.declared.names.WaitId.{WaitId}
use Rattle.channel_model.specs.declared.acts.Act.TheVariants.{Offer}
use Rattle.channel_model.specs.declared.acts.Entry.{Entry}
use Rattle.channel_model.specs.declared.standing.Receiver.{Receiver}
use Rattle.channel_model.specs.declared.standing.Resolution.{Resolution}
use Rattle.channel_model.specs.declared.standing.Resolution.TheVariants as resolved
use Rattle.channel_model.specs.Channels.{State, Channel, Wait, same_wait}
use Rattle.channel_model.specs.Laws.{how_many}

-- how it may be resolved: received, admitted, or voided with its channel
abbrev pub EndsPlainly : Bool → Option Resolution → Type 0
EndsPlainly voided None = Unit {0}
EndsPlainly voided (Some (resolved.Handed k v)) = ⊥
EndsPlainly voided (Some (resolved.Taken k)) = Unit {0}
EndsPlainly voided (Some (resolved.Admitted k)) = Unit {0}
EndsPlainly voided (Some (resolved.Closed k v)) = ⊥
EndsPlainly voided (Some (resolved.Withdrawn why)) = ⊥
EndsPlainly voided (Some resolved.Voided) = voided ≡ true

-- a wait of who with clause 0 at this channel alone, which is open or resolved so
abbrev pub IsPlainOffer : ℕ → ℕ → Bool → Option Wait → Type 0
IsPlainOffer who c voided None = ⊥
IsPlainOffer who c voided (Some x) = (x.owner ≡ who) × (x.settled ≡ None) × (x.clauses ≡ (0, c) ∷ []) × EndsPlainly voided x.resolved

-- how many receivers of the wait stand at a channel
abbrev pub receivers_of : WaitId → Channel → ℕ
receivers_of w ch = how_many (λ (r : Receiver). same_wait w r.party.wait) ch.receivers

-- the wait is that of a plain offer of who, and stands nowhere as a receiver
pub record OffersPlainly (who : ℕ) (w : WaitId) (s : State) : Type 0 where
  pub wait : IsPlainOffer who w.channel (s.channels w.channel).voided (s.waits w)
  pub no_receiver : (c : ℕ) → receivers_of w (s.channels c) ≡ 0

-- who offers an element at a place, with a wait of its own
abbrev pub plain_offer : ℕ → ℕ → ℕ → ℕ → Entry
plain_offer who c place v = record { who = who; act = Offer c place v (record { channel = c; place = place }) 0 }
