-- What each answer of a call says is what such a call may tell.
use Rattle.std.specs.Prelude.{◌≡◌, ℕ, Bool, true, List, ◌∷◌}
use Rattle.co_base.specs.declared.names.WaitId.{WaitId}
use Rattle.channel_model.specs.declared.acts.Act.TheVariants.{Settle}
use Rattle.channel_model.specs.declared.acts.Settled.{Settled}
use Rattle.channel_model.specs.declared.acts.Settled.TheVariants as settled
use Rattle.channel_model.specs.declared.acts.ChannelNote.TheVariants.{SendClosed, Late}
use Rattle.call_meaning.specs.Telling.{Told, made, heard}
use Rattle.call_meaning.specs.ChannelCalls.{Done, sends, Closes, CancelsChannel, EndsAtOnce, PlainCall, Refused, Admits, GivesUp, is_given_up}
use Rattle.channel_calls.specs.Calls.{IsSent, IsUnsent, ClosesBy, CancelsBy, TakesBack}

pub sent_goes : (c v : ℕ) (told : List Told) → IsSent c v told → PlainCall (sends c v) told Done
sent_goes c v _ (IsSent.at_once group h) = PlainCall.at_once (sends c v) group Done h
sent_goes c v _ (IsSent.offered q admits all h is) = PlainCall.offer_ends c v q admits _ all h EndsAtOnce.sent is

pub unsent_goes : (c v x : ℕ) (told : List Told) → IsUnsent c v x told → PlainCall (sends c v) told Done
unsent_goes c v x _ IsUnsent.refused = PlainCall.refused (sends c v) (heard (SendClosed c v x)) Done (Refused.send c v x)
unsent_goes c v x _ (IsUnsent.voided q admits all h is) = PlainCall.offer_ends c v q admits _ all h EndsAtOnce.voided is

pub closes_goes : (c v : ℕ) (first : Bool) (told : List Told) → ClosesBy c v first told → Closes c v told
closes_goes c v first told h = h.closes

pub cancels_goes : (c : ℕ) (first : Bool) (told : List Told) → CancelsBy c first told → CancelsChannel c told
cancels_goes c first told h = h.cancels

late_goes : (w : WaitId) (outcome : Settled) (admits : List Told) → is_given_up outcome ≡ true → Admits w.channel admits
    → GivesUp w (heard (Late w) ∷ made (Settle w outcome) ∷ admits)
late_goes w (settled.Value n v) admits e h = cc
late_goes w (settled.Sent n) admits e h = cc
late_goes w (settled.Closed n v) admits e h = cc
late_goes w settled.Cancelled admits e h = GivesUp.late admits h
late_goes w (settled.Undelivered v) admits e h = GivesUp.late_undelivered v admits h

pub takes_back_goes : (w : WaitId) (outcome : Settled) (told : List Told) → TakesBack w outcome told → GivesUp w told
takes_back_goes w _ _ (TakesBack.withdrawn admits h) = GivesUp.withdrawn admits h
takes_back_goes w _ _ (TakesBack.late outcome admits e h) = late_goes w outcome admits e h
