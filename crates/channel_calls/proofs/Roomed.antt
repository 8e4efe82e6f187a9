-- What a call needs holds also after room was made.
use Rattle.std.specs.Prelude.{◌≡◌, ℕ, Bool, false, List, length, Option, Some, None}
use Rattle.std.proofs.Common.{sym, ap, ◌∙◌, subst, refl}
use Rattle.co_base.specs.declared.names.WaitId.{WaitId}
use Rattle.channel_model.specs.Channels.{Shape, Wait, kind_at, is_signal}
use Rattle.channel_model.specs.Histories.{replay}
use Rattle.channel_model.specs.Floors.{Floor, HasRoom, MayCall}
use Rattle.channel_model.specs.Answers.{IsUnsettledOf, IsOwnWait, IsOwn, IsReadyWait, IsReady}
use Rattle.note_book.specs.declared.book.Item.{Item}
use Rattle.channel_calls.specs.Calls.{IsUntouched}
use Rattle.call_meaning.specs.Seen.{SeenOnChannels}
use Rattle.call_meaning.specs.Telling.{Told}
use Rattle.call_meaning.specs.Calls.{ToldOnChannels}
use Rattle.call_meaning.proofs.ChannelsHeard.{told_roomed}

pub call_roomed : (who c n : ℕ) (a b : Floor) → HasRoom n a b → MayCall who c a → MayCall who c b
call_roomed who c n a b h m = record {
  caller = ap (λ (k : ℕ → Bool). k who) h.same.callers ∙ m.caller;
  channel = rw (ap length h.same.shape) m.channel;
}

pub kind_roomed : (c n : ℕ) (a b : Floor) → HasRoom n a b → is_signal (kind_at a.shape c) ≡ false → is_signal (kind_at b.shape c) ≡ false
kind_roomed c n a b h e = ap (λ (x : Shape). is_signal (kind_at x c)) h.same.shape ∙ e

-- the wait was seen, is who's, and did not end
abbrev pub HoldsAt : ℕ → WaitId → Floor → Type 0
HoldsAt who w floor = IsUnsettledOf who ((replay floor.seen).waits w)

pub holds_roomed : (who n : ℕ) (w : WaitId) (a b : Floor) → HasRoom n a b → HoldsAt who w a → HoldsAt who w b
holds_roomed who n w a b h k = subst (λ es. IsUnsettledOf who ((replay es).waits w)) (sym h.seen) k

unsettled_own : (who : ℕ) (x : Option Wait) → IsUnsettledOf who x → IsOwnWait who x
unsettled_own who None h = h
unsettled_own who (Some x) h = h.0

pub own_roomed : (who n : ℕ) (w : WaitId) (a b : Floor) → HasRoom n a b → HoldsAt who w a → IsOwn who w b
own_roomed who n w a b h k = unsettled_own who _ (holds_roomed who n w a b h k)

pub ready_roomed : (who n : ℕ) (w : WaitId) (a b : Floor) → HasRoom n a b → IsReady who w a → IsReady who w b
ready_roomed who n w a b h k = subst (λ es. IsReadyWait who ((replay es).waits w)) (sym h.seen) k

-- ---- in the words of a caller

-- room was made for so many entries, and nothing was noted
pub record IsRoomed (n : ℕ) (a b : SeenOnChannels) : Type 0 where
  pub who : b.who ≡ a.who
  pub items : b.items ≡ a.items
  pub room : HasRoom n a.floor b.floor

pub made_room : {who n : ℕ} {a b : Floor} {i j : List Item} → HasRoom n a b → j ≡ i
    → IsRoomed n (record { who = who; floor = a; items = i }) (record { who = who; floor = b; items = j })
made_room h e = record { who = refl; items = e; room = h }

-- what was told after it was told from before it
pub roomed : {n : ℕ} {a b d : SeenOnChannels} {told : List Told} → IsRoomed n a b → ToldOnChannels (record b { who = a.who }) d told
    → ToldOnChannels a d told
roomed h t = told_roomed h.room refl h.items t

pub untouched : {a b : SeenOnChannels} → b.floor ≡ a.floor → b.who ≡ a.who → b.items ≡ a.items → IsUntouched a b
untouched e w f = record { who = w; floor = e; book = f }
