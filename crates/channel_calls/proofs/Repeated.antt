-- One act after another, until nothing is left to do.
use Rattle.std.specs.Prelude.{◌≡◌, ℕ, ◌<◌, Bool, length, List, [], ◌∷◌, ◌++◌, map, Some, refl}
use Rattle.std.proofs.Common.{sym, ap, ◌∙◌, subst}
use Rattle.channel_model.specs.declared.acts.Act.{Act}
use Rattle.channel_model.specs.Channels.{Shape, State}
use Rattle.channel_model.specs.Histories.{replay, Legal}
use Rattle.channel_model.specs.Floors.{Floor, HasRoom, Looked, Made, AtStep, MayCall, SameSetting}
use Rattle.channel_model.proofs.Left.{left_of, left_lower, removes_from}
use Rattle.call_meaning.specs.Telling.{Told, ChannelFact, on_channels, made}
use Rattle.call_meaning.specs.Facts.{ActHolds, ChannelFactHolds}
use Rattle.call_meaning.specs.Calls.{ToldOnChannels}
use Rattle.call_meaning.proofs.ChannelsHeard.{told_then, told_made, moment_before}
use Rattle.channel_calls.specs.Groups.{made_note}
use Rattle.channel_calls.specs.declared.caller.Caller.{Caller}
use Rattle.channel_calls.specs.Calls.{SameCaller, ToldPart, IsUntouched}
use Rattle.channel_calls.proofs.Untold.{told_none, told_seen, part_stopped}
use Rattle.call_meaning.specs.Seen.{SeenOnChannels}
use Rattle.channel_calls.proofs.Roomed.{IsRoomed, roomed}

-- ---- the caller, once more

pub same_self : {F B W A : Type 0} {anchor : F → A} (a : Caller F B W) → SameCaller anchor a a
same_self a = record { floor = refl; book = refl; wakes = refl; who = refl; anchor_is = refl }

-- it is the same while the floor, the book and the wakes that it holds change
pub still_same : {F B W A : Type 0} {anchor : F → A} (a b d : Caller F B W) → SameCaller anchor a b
    → d.floor.ghost_name ≡ b.floor.ghost_name → d.book.ghost_name ≡ b.book.ghost_name → d.wakes.ghost_name ≡ b.wakes.ghost_name
    → d.who ≡ b.who → anchor d.floor.now ≡ anchor b.floor.now
    → SameCaller anchor a d
still_same a b d s floor book wakes who is = record {
  floor = floor ∙ s.floor;
  book = book ∙ s.book;
  wakes = wakes ∙ s.wakes;
  who = who
      ∙ s.who;
  anchor_is = is ∙ s.anchor_is;
}

-- it may still call, also after room was made
pub may_still : (who who' c n : ℕ) (a b d : Floor) → who' ≡ who → MayCall who c a → SameSetting a b → HasRoom n b d → MayCall who' c d
may_still who who' c n a b d e m same h = record {
  caller = ap (λ (f : ℕ → Bool). f who') (h.same.callers ∙ same.callers) ∙ ap a.callers e ∙ m.caller;
  channel = subst (λ (s : Shape). c < length s) (sym (h.same.shape ∙ same.shape)) m.channel;
}

-- fewer acts may still come
pub fewer_left : {who c n : ℕ} {act : Act} {a b d e : Floor} → SameSetting a b → Legal e.shape e.seen → HasRoom n b d → Made who act d e
    → removes_from act ≡ Some c → left_of a.shape c e.seen < left_of a.shape c b.seen
fewer_left {who} {c} {n} {act} {a} {b} {d} {e} h l r m x =
    subst (λ es. left_of a.shape c e.seen < left_of a.shape c es) r.seen
    (left_lower who c act a.shape d e (sym (m.same.shape ∙ r.same.shape ∙ h.shape)) l m x)

-- ---- the acts

abbrev pub all_made : {X : Type 0} → (X → Act) → List X → List Told
all_made f xs = map (λ x. made (f x)) xs

pub made_append : {X : Type 0} (f : X → Act) (xs ys : List X) → all_made f (xs ++ ys) ≡ all_made f xs ++ all_made f ys
made_append f [] ys = refl
made_append f (x ∷ xs) ys = ap (λ l. made (f x) ∷ l) (made_append f xs ys)

-- the caller made one such act for each of these, and noted it
pub record Repeats {X : Type 0} (f : X → Act) (old new : SeenOnChannels) : Type 0 where
  pub of : List X
  pub left : ToldOnChannels old new (all_made f of)

module _ {X : Type 0} (f : X → Act) where
  abbrev pub none_repeated : (a : SeenOnChannels) → Repeats f a a
  none_repeated a = record { of = []; left = told_none a }

  -- one more
  unfoldable pub one_repeated : (x : X) {n : ℕ} {a b d e : SeenOnChannels} → (h : Repeats f a b) → IsRoomed n b d
      → Made b.who (f x) d.floor e.floor
      → ((s : State) → ActHolds (f x) s) → e.who ≡ b.who → e.items ≡ d.items ++ made_note (f x) ∷ [] → Repeats f a e
  one_repeated x {n} {a} {b} {d} {e} h r m holds w note =
      let at = moment_before b.who (f x) d.floor e.floor (ActHolds (f x)) m (holds (replay d.floor.seen)) in
      let one : ToldOnChannels (record d { who = b.who }) e (made (f x) ∷ []) = told_made (f x) m at w note in
      record {
        of = h.of ++ x ∷ [];
        left = subst (ToldOnChannels a e) (sym (made_append f h.of (x ∷ []))) (told_then h.left (roomed r one));
      }

  -- nothing is left to do
  pub repeated_until : (fact : ChannelFact) {n : ℕ} {a b d e : SeenOnChannels} → (h : Repeats f a b) → IsRoomed n b d
      → Looked b.who d.floor e.floor → AtStep d.floor e.floor (ChannelFactHolds d.floor.shape fact) → e.who ≡ b.who → e.items ≡ d.items
      → ToldOnChannels a e (all_made f h.of ++ on_channels fact ∷ [])
  repeated_until fact {n} {a} {b} {d} {e} h r look at w g =
      let seen : ToldOnChannels (record d { who = b.who }) e (on_channels fact ∷ []) = told_seen fact look at w g in
      told_then h.left (roomed r seen)

  -- no memory was found
  pub still_repeated : (P : List Told → Type 0) (end : List Told) {a b d : SeenOnChannels} → (h : Repeats f a b)
      → P (all_made f h.of ++ end)
      → IsUntouched b d → ToldPart P a d
  still_repeated P end h p u = part_stopped P (all_made f h.of) end p h.left u
