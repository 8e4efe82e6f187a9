-- The clauses of a select as calls, and which may be selected from.
use Rattle.std.specs.Prelude.{◌≡◌, ℕ, ◌≤◌, false, List, length, map, Some, slice_get}
use Rattle.channel_model.specs.Channels.{kind_at, is_signal}
use Rattle.call_meaning.specs.Seen.{SeenOnChannels, MayCallChannel}
use Rattle.call_meaning.specs.ChannelCalls.{Call, sends, receives, channel_of}
use Rattle.select_calls.specs.declared.clause.Clause.{Clause}
use Rattle.select_calls.specs.declared.clause.Clause.TheVariants.{OnSend, OnReceive}

-- what a clause asks of its channel
abbrev pub call_of : Clause → Call
call_of (OnSend c v) = sends c v
call_of (OnReceive c) = receives c

abbrev pub calls_of : List Clause → List Call
calls_of clauses = map call_of clauses

-- one to seven clauses on distinct channels that the caller may call, none of which sends on a signal
pub record MaySelect (calls : List Call) (seen : SeenOnChannels) : Type 0 where
  pub some : 1 ≤ length calls
  pub few : length calls ≤ 7
  pub may_call : (i : ℕ) (call : Call) → slice_get calls i ≡ Some call → MayCallChannel (channel_of call) seen
  pub no_signal : (i c v : ℕ) → slice_get calls i ≡ Some (sends c v) → is_signal (kind_at seen.floor.shape c) ≡ false
  pub apart : (i j : ℕ) (a b : Call) → slice_get calls i ≡ Some a → slice_get calls j ≡ Some b
      → channel_of a ≡ channel_of b → i ≡ j
