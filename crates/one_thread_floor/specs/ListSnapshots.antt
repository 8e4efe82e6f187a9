-- What a snapshot of a channel shows.
use Rattle.std.specs.Prelude.{◌≡◌, ℕ, ◌==◌, ◌&&◌, ◌||◌, Bool, not, length, Option, is_some, slice_get}
use Rattle.std.specs.List.{list_any}
use Rattle.channel_model.specs.Channels.{Channel, Wait}
use Rattle.channel_model.specs.Effects.{is_open}
use Rattle.one_thread_floor.specs.declared.list_snapshot.Snapshot.{Snapshot}

-- this is what stands at the channel
pub record Shows (snapshot : Snapshot) (ch : Channel) : Type 0 where
  pub next : snapshot.next ≡ ch.next
  pub queued : snapshot.queued ≡ length ch.queue
  pub first_offer : snapshot.first_offer ≡ slice_get ch.queue 0
  pub first_receiver : snapshot.first_receiver ≡ slice_get ch.receivers 0
  pub is_closed : snapshot.closed ≡ ch.closed

-- a wait began, and was resolved
abbrev pub is_resolved : Option Wait → Bool
is_resolved x = is_some x && not (is_open x)

-- a receiver or an offer stands at this place of a channel
abbrev pub stands_at : ℕ → Channel → Bool
stands_at place ch = list_any (λ r. r.place == place) ch.receivers || list_any (λ o. o.place == place) ch.queue
