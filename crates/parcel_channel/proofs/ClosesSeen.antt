-- For callers: that a channel was closed or cancelled, as the answers of the calls show it.
use Rattle.std.specs.Prelude.{ℕ, Bool, true, false, Option, Some, None, Result, Ok, Err, is_some}
use Rattle.std.proofs.Common.{ap}
use Rattle.channel_model.specs.declared.floor.AlreadyClosed.{AlreadyClosed}
use Rattle.channel_model.specs.Histories.{Legal}
use Rattle.channel_model.specs.Floors.{Floor}
use Rattle.channel_model.specs.Answers.{CloseAnswer, VoidAnswer, IsSeenClosed, IsSeenVoided}
use Rattle.channel_model.proofs.Lasts.{close_made, void_made, voided_lasts}
use Rattle.channel_model.proofs.Spans.{added_made}
use Rattle.parcel_channel.specs.Seen.{Seen}
use Rattle.parcel_channel.specs.Hubs.{DrainParcel}

pub closed_seen : (who c v : ℕ) (a b : Floor) (r : Result (Unit {0}) AlreadyClosed) → CloseAnswer who c v a b r → IsSeenClosed c b
closed_seen who c v a b (Ok done) h = close_made who c v a b h
closed_seen who c v a b (Err first) h = ap is_some h.is_closed

pub voided_seen : (who c : ℕ) (a b : Floor) (r : Bool) → VoidAnswer who c a b r → IsSeenVoided c b
voided_seen who c a b true h = void_made who c a b h
voided_seen who c a b false h = h.1

module _ {T : Type 0} where
  pub voided_still : (parcels who : ℕ) (v w : Seen T) (a b : Floor) (r : Option (Option T × Option ℕ)) → Legal b.shape b.seen
      → DrainParcel parcels who v w a b r → IsSeenVoided 0 a → IsSeenVoided 0 b
  voided_still parcels who v w a b None l h s = voided_lasts 0 a b l h.0.0.longer s
  voided_still parcels who v w a b (Some (Some x, t)) l h s = voided_lasts 0 a b l (added_made who _ a b h.2.made).longer s
  voided_still parcels who v w a b (Some (None, t)) l h s = voided_lasts 0 a b l (added_made who _ a b h.2.made).longer s
