-- When an entry may come.
use Rattle.std.specs.Prelude.{◌≡◌, ℕ, ◌+◌, ◌==◌, nat_lt, ◌<◌, ◌≤◌, Bool, true, false, List, [], ◌∷◌, length, Option, Some, None, MatchBool, is_some}
use Rattle.std.specs.List.{list_any}
use Rattle.channel_model.specs.declared.acts.Kind.{Kind}
use Rattle.channel_model.specs.declared.acts.Act.{Act}
use Rattle.channel_model.specs.declared.acts.Act.TheVariants.{Hand, Put, Offer, Await, Take, Admit, Drop, Spurn, Close, Void, Drain, WakeClosed, Withdraw, Settle}
use Rattle.channel_model.specs.declared.acts.Settled.{Settled}
use Rattle.channel_model.specs.declared.standing.Standing.{Standing}
use Rattle.channel_model.specs.declared.standing.Receiver.{Receiver}
use Rattle.co_base.specs.declared.names.WaitId.{WaitId}
use Rattle.channel_model.specs.Channels.{Shape, kind_at, places_at, is_full, suspends, is_signal, drops, spurns, Channel, Wait, State, same_wait}
use Rattle.channel_model.specs.Outcomes.{IsOutcome}

-- ---- parts of the needs

abbrev pub IsFirstReceiver : ℕ → List Receiver → Type 0
IsFirstReceiver p [] = ⊥
IsFirstReceiver p (r ∷ rs) = r.place ≡ p

abbrev pub IsFirstOffer : ℕ → ℕ → List Standing → Type 0
IsFirstOffer p v [] = ⊥
IsFirstOffer p v (o ∷ os) = (o.place ≡ p) × (o.value ≡ v)

-- an offer stands at p, with this element
abbrev pub IsOfferAt : ℕ → ℕ → List Standing → Type 0
IsOfferAt p v [] = ⊥
IsOfferAt p v (o ∷ os) = MatchBool (o.place == p) (o.value ≡ v) (IsOfferAt p v os)

-- the channel is open, and p is the place that it gives out next
pub record HasPlace (places p : ℕ) (ch : Channel) : Type 0 where
  pub open_now : ch.closed ≡ None
  pub left : ch.next < places
  pub first : p ≡ ch.next

-- the wait began at a select's clause
abbrev pub began_by_select : List (ℕ × ℕ) → Bool
began_by_select [] = false
began_by_select (x ∷ xs) = nat_lt 0 x.0

-- the wait is who's, and may have clause k on channel c as one more
pub record MayJoin (who k c : ℕ) (x : Wait) : Type 0 where
  pub own : x.owner ≡ who
  pub select : began_by_select x.clauses ≡ true
  pub unsettled : x.settled ≡ None
  pub other_channel : list_any (λ y. y.1 == c) x.clauses ≡ false
  pub other_clause : list_any (λ y. y.0 == k) x.clauses ≡ false
  pub low : 1 ≤ k
  pub high : k ≤ 7

abbrev pub JoinsWait : ℕ → ℕ → ℕ → Option Wait → Type 0
JoinsWait who k c None = ⊥
JoinsWait who k c (Some x) = MayJoin who k c x

-- a wait begins that has the name of this very place, or an earlier one gets a clause more
abbrev pub MayName : ℕ → ℕ → ℕ → ℕ → WaitId → State → Type 0
MayName who k c p w s = MatchBool (same_wait w (record { channel = c; place = p })) (k ≤ 7) (JoinsWait who k c (s.waits w))

-- the wait is who's, and nobody resolved it
abbrev pub IsOpenOf : ℕ → Option Wait → Type 0
IsOpenOf who None = ⊥
IsOpenOf who (Some x) = (x.owner ≡ who) × (x.resolved ≡ None)

-- the wait is who's, resolved, and not settled, and may end so
abbrev pub MaySettle : ℕ → Settled → Option Wait → Type 0
MaySettle who outcome None = ⊥
MaySettle who outcome (Some x) = (x.owner ≡ who) × (x.settled ≡ None) × IsOutcome outcome x.resolved

-- the offer at p is held, with fewer offers before it than the kind keeps; n offers stand before this list
abbrev pub MayBeAdmitted : Kind → ℕ → ℕ → List Standing → Type 0
MayBeAdmitted kind p n [] = ⊥
MayBeAdmitted kind p n (o ∷ os) =
    MatchBool (o.place == p)
    ((is_some o.holder ≡ true) × (is_full kind n ≡ false))
    (MayBeAdmitted kind p (n + 1) os)

-- ---- the acts

-- who may make this act now
abbrev pub Needs : Shape → State → ℕ → Act → Type 0
Needs shape s who (Hand c p v) = (c < length shape) × (is_signal (kind_at shape c) ≡ false) × IsFirstReceiver p (s.channels c).receivers
Needs shape s who (Put c p v) =
    (c < length shape)
    × HasPlace (places_at shape c) p (s.channels c)
    × ((s.channels c).receivers ≡ [])
    × (is_full (kind_at shape c) (length (s.channels c).queue) ≡ false)
Needs shape s who (Offer c p v w k) =
    (c < length shape)
    × HasPlace (places_at shape c) p (s.channels c)
    × ((s.channels c).receivers ≡ [])
    × (suspends (kind_at shape c) ≡ true)
    × MayName who k c p w s
Needs shape s who (Await c p w k) =
    (c < length shape)
    × HasPlace (places_at shape c) p (s.channels c)
    × ((s.channels c).queue ≡ [])
    × MayName who k c p w s
Needs shape s who (Take c p v) = (c < length shape) × IsFirstOffer p v (s.channels c).queue
Needs shape s who (Admit c p) = (c < length shape) × MayBeAdmitted (kind_at shape c) p 0 (s.channels c).queue
Needs shape s who (Drop c p v) =
    (c < length shape)
    × (drops (kind_at shape c) (length (s.channels c).queue) ≡ true)
    × IsFirstOffer p v (s.channels c).queue
Needs shape s who (Spurn c p v) =
    (c < length shape)
    × (spurns (kind_at shape c) (s.stood c p) ≡ true)
    × IsOfferAt p v (s.channels c).queue
Needs shape s who (Close c v) = (c < length shape) × ((s.channels c).closed ≡ None)
Needs shape s who (Void c) = (c < length shape) × (is_some (s.channels c).closed ≡ true) × ((s.channels c).voided ≡ false)
Needs shape s who (Drain c p v) = (c < length shape) × ((s.channels c).voided ≡ true) × IsFirstOffer p v (s.channels c).queue
Needs shape s who (WakeClosed c p) =
    (c < length shape) × (is_some (s.channels c).closed ≡ true) × IsFirstReceiver p (s.channels c).receivers
Needs shape s who (Withdraw w why) = IsOpenOf who (s.waits w)
Needs shape s who (Settle w outcome) = MaySettle who outcome (s.waits w)
