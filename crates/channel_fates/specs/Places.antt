-- The entries that name a place.
use Rattle.std.specs.Prelude.{ℕ, Bool, false}
use Rattle.channel_model.specs.declared.acts.Act.{Act}
use Rattle.channel_model.specs.declared.acts.Act.TheVariants.{Hand, Put, Offer, Await, Take, Admit, Drop, Spurn, Close, Void, Drain, WakeClosed, Withdraw, Settle}
use Rattle.channel_model.specs.Channels.{same_wait}
use Rattle.channel_model.specs.Fates.{is_at}

-- the act names the place, or ends or takes back the wait that has its name
abbrev pub is_of_place : ℕ → ℕ → Act → Bool
is_of_place c p (Hand d q v) = is_at c p d q
is_of_place c p (Put d q v) = is_at c p d q
is_of_place c p (Offer d q v w k) = is_at c p d q
is_of_place c p (Await d q w k) = is_at c p d q
is_of_place c p (Take d q v) = is_at c p d q
is_of_place c p (Admit d q) = is_at c p d q
is_of_place c p (Drop d q v) = is_at c p d q
is_of_place c p (Spurn d q v) = is_at c p d q
is_of_place c p (Close d v) = false
is_of_place c p (Void d) = false
is_of_place c p (Drain d q v) = is_at c p d q
is_of_place c p (WakeClosed d q) = is_at c p d q
is_of_place c p (Withdraw w why) = same_wait (record { channel = c; place = p }) w
is_of_place c p (Settle w outcome) = same_wait (record { channel = c; place = p }) w
