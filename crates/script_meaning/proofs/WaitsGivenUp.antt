-- The forms in which a wait is told that is given up.
use Rattle.std.proofs.Common.{◌≡◌, true, [], ◌∷◌, refl, ap, sym, ◌∙◌, Option, Some, None}
use Rattle.co_base.specs.declared.names.WaitId.{WaitId}
use Rattle.channel_model.specs.declared.acts.Act.TheVariants.{Settle}
use Rattle.channel_model.specs.declared.acts.Settled.{Settled}
use Rattle.channel_model.specs.declared.acts.Settled.TheVariants as settled
use Rattle.channel_model.specs.declared.standing.Resolution.{Resolution}
use Rattle.channel_model.specs.declared.standing.Resolution.TheVariants as resolved
use Rattle.channel_model.specs.Channels.{Wait}
use Rattle.channel_model.specs.Outcomes.{outcome_of}
use Rattle.channel_model.specs.Answers.{outcome_at, outcome_of_some}
use Rattle.call_meaning.specs.Telling.{made}
use Rattle.call_meaning.specs.ChannelCalls.{GivesUp, is_given_up}

up_how : (how : Resolution) → is_given_up (outcome_of how true) ≡ true
up_how (resolved.Handed n v) = refl
up_how other = refl

up_some : (how : Option Resolution) (outcome : Settled) → outcome_of_some true how ≡ Some outcome → is_given_up outcome ≡ true
up_some None outcome e = cc
up_some (Some how) outcome e = let k : outcome_of how true ≡ outcome = cc in ap is_given_up (sym k) ∙ up_how how

-- the wait of a Job that was cancelled is given up, however it was resolved
pub given_up_end : (x : Option Wait) (outcome : Settled) → outcome_at true x ≡ Some outcome → is_given_up outcome ≡ true
given_up_end None outcome e = cc
given_up_end (Some x) outcome e = up_some x.resolved outcome e

-- a wait that was resolved before
pub dispatched : (w : WaitId) (outcome : Settled) → is_given_up outcome ≡ true → GivesUp w (made (Settle w outcome) ∷ [])
dispatched w settled.Cancelled e = GivesUp.dispatched
dispatched w (settled.Undelivered v) e = GivesUp.undelivered v
dispatched w other e = cc
