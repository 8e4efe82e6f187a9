-- What the callers of a floor know of its first channel, and how a call lets a floor grow.
use Rattle.std.specs.Prelude.{◌≡◌, ℕ, ◌<◌, true, false, length, Option, Some, None}
use mathlib.Core.List.{IsPrefix}
use Rattle.channel_model.specs.declared.floor.Offered.{Offered}
use Rattle.channel_model.specs.declared.floor.Offered.TheVariants as offered
use Rattle.channel_model.specs.declared.floor.Got.{Got}
use Rattle.channel_model.specs.declared.floor.Got.TheVariants as got
use Rattle.channel_model.specs.Channels.{kind_at, is_signal}
use Rattle.channel_model.specs.Floors.{Floor, SameSetting}
use Rattle.channel_model.specs.Answers.{IsOwn, IsSeenClosed, IsSeenVoided}
use Rattle.call_meaning.specs.ChannelCalls.{wait_at}
use Rattle.floor_rows.specs.declared.known.Known.{Known}

-- the channel carries elements; the wait is that caller's; a close and a cancel were seen
pub record Knows (k : Known) (f : Floor) : Type 0 where
  pub channel : 0 < length f.shape
  pub elements : is_signal (kind_at f.shape 0) ≡ false
  pub caller : k.owns ≡ true → f.callers k.tag ≡ true
  pub own : k.owns ≡ true → IsOwn k.tag (wait_at 0 k.place) f
  pub closed : k.closed ≡ true → IsSeenClosed 0 f
  pub voided : k.voided ≡ true → IsSeenVoided 0 f

-- entries were added
pub record Grows (old new : Floor) : Type 0 where
  pub same : SameSetting old new
  pub longer : IsPrefix old.seen new.seen

-- a call was made, after which this is known
pub record KnownThen (k : Known) (old new : Floor) : Type 0 where
  pub grows : Grows old new
  pub knows : Knows k new

-- a wait of who began here
abbrev pub with_wait : Known → ℕ → ℕ → Known
with_wait k who p = record { owns = true; tag = who; place = p; closed = k.closed; voided = k.voided }

abbrev pub after_offer : Known → ℕ → Offered → Known
after_offer k who (offered.Handed p t) = k
after_offer k who (offered.Put p) = k
after_offer k who (offered.Held p) = with_wait k who p
after_offer k who (offered.Closed x) = k
after_offer k who offered.Spent = k

abbrev pub after_receive : Known → ℕ → Got → Known
after_receive k who (got.Taken p v t) = k
after_receive k who (got.Waiting p) = with_wait k who p
after_receive k who (got.Closed x) = k
after_receive k who got.Spent = k

-- a close, or a cancel, was seen
abbrev pub after_close : Known → Known
after_close k = record { owns = k.owns; tag = k.tag; place = k.place; closed = true; voided = k.voided }

abbrev pub after_void : Known → Known
after_void k = record { owns = k.owns; tag = k.tag; place = k.place; closed = k.closed; voided = true }

-- nothing was seen
abbrev pub nothing : Known
nothing = record { owns = false; tag = 0; place = 0; closed = false; voided = false }
