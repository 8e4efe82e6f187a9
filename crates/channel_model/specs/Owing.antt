-- What a state of the channels still owes to those who wait.
use Rattle.std.specs.Prelude.{◌≡◌, ℕ, ◌+◌, ◌==◌, ◌<◌, nat_le, nat_lt, Bool, true, false, not, cond, ◌&&◌, ◌||◌, List, [], ◌∷◌, length, is_some}
use Rattle.channel_model.specs.declared.acts.Kind.{Kind}
use Rattle.channel_model.specs.declared.standing.Standing.{Standing}
use Rattle.channel_model.specs.Channels.{Shape, kind_at, is_full, drops, spurns, Channel, State}

-- nobody waits with the offer
abbrev pub is_buffered : Standing → Bool
is_buffered o = not (is_some o.holder)

-- an offer of this queue is held, with fewer offers before it than the kind keeps; n offers stand before this list
abbrev pub owes_admission : Kind → ℕ → List Standing → Bool
owes_admission kind n [] = false
owes_admission kind n (o ∷ os) = (is_some o.holder && not (is_full kind n)) || owes_admission kind (n + 1) os

-- the same of the offers below this place
abbrev pub owes_admission_below : Kind → ℕ → ℕ → List Standing → Bool
owes_admission_below kind mark n [] = false
owes_admission_below kind mark n (o ∷ os) =
    (is_some o.holder && (nat_lt o.place mark && not (is_full kind n))) || owes_admission_below kind mark (n + 1) os

-- an offer of this queue has more before it than fit before it in a kind that does not keep its latest; n offers stand before
-- this list
abbrev pub owes_spurn : Kind → ℕ → List Standing → Bool
owes_spurn kind n [] = false
owes_spurn kind n (o ∷ os) = spurns kind n || owes_spurn kind (n + 1) os

-- the same of the offer at this place
abbrev pub owes_spurn_at : Kind → ℕ → ℕ → List Standing → Bool
owes_spurn_at kind p n [] = false
owes_spurn_at kind p n (o ∷ os) = ((o.place == p) && spurns kind n) || owes_spurn_at kind p (n + 1) os

-- how many offers stand at places up to this one
abbrev pub offers_up_to : ℕ → List Standing → ℕ
offers_up_to mine [] = 0
offers_up_to mine (o ∷ os) = cond (nat_le o.place mine) 1 0 + offers_up_to mine os

abbrev pub stands_any : {A : Type 0} → List A → Bool
stands_any [] = false
stands_any (x ∷ xs) = true

-- a held offer might be kept, a receiver of a closed channel was not told, an element of a cancelled channel was not
-- removed, more elements stand than a kind keeps that drops its oldest, or one that is too many for a kind that does not keep its
-- latest
abbrev pub owes : Kind → Channel → Bool
owes kind ch =
    owes_admission kind 0 ch.queue
    || ((is_some ch.closed && stands_any ch.receivers)
    || ((ch.voided && stands_any ch.queue)
    || (drops kind (length ch.queue)
    || owes_spurn kind 0 ch.queue)))

-- no channel owes anything
abbrev pub OwesNothing : Shape → State → Type 0
OwesNothing shape s = (c : ℕ) → c < length shape → owes (kind_at shape c) (s.channels c) ≡ false
