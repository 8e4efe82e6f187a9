-- The words of what holds in every legal history.
use Rattle.std.specs.Prelude.{◌≡◌, ℕ, ◌+◌, ◌<◌, ◌≤◌, ◌==◌, nat_lt, nat_le, Bool, true, false, ◌&&◌, ◌⊎◌, length, cond, List, [], ◌∷◌, Option, Some, None, if◌then◌else◌}
use Rattle.std.specs.List.{list_any, list_all}
use Rattle.channel_model.specs.declared.acts.Act.{Act}
use Rattle.channel_model.specs.declared.acts.Act.TheVariants.{Hand, Put, Offer, Await, Take, Admit, Drop, Spurn, Close, Void, Drain, WakeClosed, Withdraw, Settle}
use Rattle.channel_model.specs.declared.acts.Entry.{Entry}
use Rattle.channel_model.specs.declared.acts.Kind.{Kind}
use Rattle.channel_model.specs.declared.acts.Kind.TheVariants.{Rendezvous, Buffered, Unlimited, Conflated, DropOldest, DropLatest, Signal}
use Rattle.channel_model.specs.declared.acts.Settled.{Settled}
use Rattle.channel_model.specs.declared.standing.Party.{Party}
use Rattle.channel_model.specs.declared.standing.Standing.{Standing}
use Rattle.channel_model.specs.declared.standing.Receiver.{Receiver}
use Rattle.channel_model.specs.declared.standing.Resolution.{Resolution}
use Rattle.channel_model.specs.declared.standing.Resolution.TheVariants as resolved
use Rattle.co_base.specs.declared.names.WaitId.{WaitId}
use Rattle.channel_model.specs.Channels.{State, Channel, Wait, start, same_wait}
use Rattle.channel_model.specs.Effects.{after, holder_at, is_held_by, is_elsewhere}
use Rattle.channel_model.specs.Needs.{began_by_select}

-- ---- whoever stands has an open wait

-- a clause of the wait is at this channel
abbrev pub names : ℕ → Wait → Bool
names c x = list_any (λ y. y.1 == c) x.clauses

-- the wait began, nobody resolved it, and a clause of it is at this channel
abbrev pub IsStandingAt : ℕ → Option Wait → Type 0
IsStandingAt c None = ⊥
IsStandingAt c (Some x) = (x.resolved ≡ None) × (names c x ≡ true)

abbrev pub HolderStands : (WaitId → Option Wait) → ℕ → Option Party → Type 0
HolderStands waits c None = Unit {0}
HolderStands waits c (Some p) = IsStandingAt c (waits p.wait)

unfoldable pub OffersStand : (WaitId → Option Wait) → ℕ → List Standing → Type 0
OffersStand waits c [] = Unit {0}
OffersStand waits c (o ∷ os) = HolderStands waits c o.holder × OffersStand waits c os

unfoldable pub ReceiversStand : (WaitId → Option Wait) → ℕ → List Receiver → Type 0
ReceiversStand waits c [] = Unit {0}
ReceiversStand waits c (r ∷ rs) = IsStandingAt c (waits r.party.wait) × ReceiversStand waits c rs

pub record StandOpen (waits : WaitId → Option Wait) (c : ℕ) (ch : Channel) : Type 0 where
  pub offers : OffersStand waits c ch.queue
  pub receivers : ReceiversStand waits c ch.receivers

-- each that stands at a channel has an open wait with a clause there
abbrev pub AllStandOpen : State → Type 0
AllStandOpen s = (c : ℕ) → StandOpen s.waits c (s.channels c)

-- ---- a wait stands at most once at a channel

-- how many elements pass the test
abbrev pub how_many : {X : Type 0} → (X → Bool) → List X → ℕ
how_many p [] = 0
how_many p (x ∷ xs) = cond (p x) 1 0 + how_many p xs

-- how many offers and receivers of the wait stand at a channel
abbrev pub standing_of : WaitId → Channel → ℕ
standing_of w ch =
    how_many (λ (o : Standing). is_held_by w o.holder) ch.queue
    + how_many (λ (r : Receiver). same_wait w r.party.wait) ch.receivers

-- no wait stands more than once at this channel
pub record StandsOnce (ch : Channel) : Type 0 where
  pub once : (w : WaitId) → standing_of w ch ≤ 1

-- no wait stands more than once at a channel
abbrev pub AllStandOnce : State → Type 0
AllStandOnce s = (c : ℕ) → StandsOnce (s.channels c)

-- ---- a wait is resolved once, and settled once

abbrev pub wait_of_party : Option Party → Option WaitId
wait_of_party None = None
wait_of_party (Some p) = Some p.wait

abbrev pub first_waiting : List Receiver → Option WaitId
first_waiting [] = None
first_waiting (r ∷ rs) = Some r.party.wait

abbrev pub first_holding : List Standing → Option WaitId
first_holding [] = None
first_holding (o ∷ os) = wait_of_party o.holder

-- the wait that the act resolves where it comes
abbrev pub resolves : State → Act → Option WaitId
resolves s (Hand c p v) = first_waiting (s.channels c).receivers
resolves s (Take c p v) = first_holding (s.channels c).queue
resolves s (Admit c p) = wait_of_party (holder_at p (s.channels c).queue)
resolves s (Drain c p v) = first_holding (s.channels c).queue
resolves s (WakeClosed c p) = first_waiting (s.channels c).receivers
resolves s (Withdraw w why) = Some w
resolves s other = None

-- the wait that the act settles
abbrev pub settles : Act → Option WaitId
settles (Settle w outcome) = Some w
settles other = None

abbrev pub one_if : WaitId → Option WaitId → ℕ
one_if w None = 0
one_if w (Some v) = if same_wait w v then 1 else 0

unfoldable pub resolutions_from : WaitId → State → List Entry → ℕ
resolutions_from w s [] = 0
resolutions_from w s (e ∷ es) = one_if w (resolves s e.act) + resolutions_from w (after s e.who e.act) es

-- how many entries of the history resolve the wait
abbrev pub resolutions_of : WaitId → List Entry → ℕ
resolutions_of w history = resolutions_from w start history

-- how many entries of the history settle the wait
unfoldable pub settlements_of : WaitId → List Entry → ℕ
settlements_of w [] = 0
settlements_of w (e ∷ es) = one_if w (settles e.act) + settlements_of w es

-- ---- a channel is closed once, and cancelled once

abbrev pub closes : ℕ → Act → Bool
closes c (Close d v) = d == c
closes c other = false

abbrev pub voids : ℕ → Act → Bool
voids c (Void d) = d == c
voids c other = false

-- how many entries of the history close the channel
abbrev pub closings_of : ℕ → List Entry → ℕ
closings_of c history = how_many (λ e. closes c e.act) history

-- how many entries of the history cancel the channel
abbrev pub voidings_of : ℕ → List Entry → ℕ
voidings_of c history = how_many (λ e. voids c e.act) history

-- ---- what stands, stands in order

-- the numbers of these ascend from n on, and lie below m
abbrev pub Ascends : {X : Type 0} → (X → ℕ) → ℕ → ℕ → List X → Type 0
Ascends number n m [] = n ≤ m
Ascends number n m (x ∷ xs) = (n ≤ number x) × Ascends number (number x + 1) m xs

-- the places of those who stand ascend and were given out, and offers and receivers never stand together
pub record StandsInOrder (ch : Channel) : Type 0 where
  pub offers : Ascends (λ (o : Standing). o.place) 0 ch.next ch.queue
  pub receivers : Ascends (λ (r : Receiver). r.place) 0 ch.next ch.receivers
  pub one_side : (ch.queue ≡ []) ⊎ (ch.receivers ≡ [])

-- each offer of this queue has at most so many before it as stood when it was placed; n offers stand before this list
unfoldable pub StoodAll : (ℕ → ℕ) → ℕ → List Standing → Type 0
StoodAll stood n [] = Unit {0}
StoodAll stood n (o ∷ os) = (n ≤ stood o.place) × StoodAll stood (n + 1) os

-- ---- the clauses of a wait

-- the clause is one of a select's
abbrev pub is_select_clause : ℕ × ℕ → Bool
is_select_clause y = nat_lt 0 y.0 && nat_le y.0 7

-- a wait has at most seven clauses, which are those of one select where it has several; none has the number or the channel of
-- another
pub record HasClauses (x : Wait) : Type 0 where
  pub some : 1 ≤ length x.clauses
  pub few : length x.clauses ≤ 7
  pub plain : began_by_select x.clauses ≡ false → length x.clauses ≡ 1
  pub select : began_by_select x.clauses ≡ true → list_all is_select_clause x.clauses ≡ true
  pub numbers : (k : ℕ) → how_many (λ y. y.0 == k) x.clauses ≤ 1
  pub channels : (c : ℕ) → how_many (λ y. y.1 == c) x.clauses ≤ 1

abbrev pub ClausesFit : Option Wait → Type 0
ClausesFit None = Unit {0}
ClausesFit (Some x) = HasClauses x

-- ---- what lasts

-- no receiver stands below place n, and no offer below place m
pub record NoneBelow (n m : ℕ) (ch : Channel) : Type 0 where
  pub given : n ≤ ch.next
  pub given_offers : m ≤ ch.next
  pub receivers : list_all (λ (r : Receiver). nat_le n r.place) ch.receivers ≡ true
  pub offers : list_all (λ (o : Standing). nat_le m o.place) ch.queue ≡ true

-- the place was given out, and no offer stands there
pub record NoOffer (p : ℕ) (ch : Channel) : Type 0 where
  pub given : p < ch.next
  pub none : list_all (is_elsewhere p) ch.queue ≡ true

-- the wait was resolved so
abbrev pub IsResolvedAs : Resolution → Option Wait → Type 0
IsResolvedAs how None = ⊥
IsResolvedAs how (Some x) = x.resolved ≡ Some how

-- the wait ended so
abbrev pub IsSettledAs : Settled → Option Wait → Type 0
IsSettledAs outcome None = ⊥
IsSettledAs outcome (Some x) = x.settled ≡ Some outcome

-- ---- histories in which nothing is closed, kept later, dropped or withdrawn

-- the act offers, receives, or ends a wait
abbrev pub is_plain_act : Act → Bool
is_plain_act (Hand c p v) = true
is_plain_act (Put c p v) = true
is_plain_act (Offer c p v w k) = true
is_plain_act (Await c p w k) = true
is_plain_act (Take c p v) = true
is_plain_act (Admit c p) = false
is_plain_act (Drop c p v) = false
is_plain_act (Spurn c p v) = false
is_plain_act (Close c v) = false
is_plain_act (Void c) = false
is_plain_act (Drain c p v) = false
is_plain_act (WakeClosed c p) = false
is_plain_act (Withdraw w why) = false
is_plain_act (Settle w outcome) = true

abbrev pub is_plain_history : List Entry → Bool
is_plain_history history = list_all (λ e. is_plain_act e.act) history

-- the two sides of an exchange met
abbrev pub is_exchange : Resolution → Bool
is_exchange (resolved.Handed k v) = true
is_exchange (resolved.Taken k) = true
is_exchange (resolved.Admitted k) = false
is_exchange (resolved.Closed k v) = false
is_exchange (resolved.Withdrawn why) = false
is_exchange resolved.Voided = false

abbrev pub is_open_or_exchanged : Option Resolution → Bool
is_open_or_exchanged None = true
is_open_or_exchanged (Some how) = is_exchange how

-- the wait did not begin, is open, or was resolved by an exchange
abbrev pub is_plain_wait : Option Wait → Bool
is_plain_wait None = true
is_plain_wait (Some x) = is_open_or_exchanged x.resolved

-- every channel is open, and every wait that was resolved was so by an exchange
pub record IsPlain (s : State) : Type 0 where
  pub not_closed : (c : ℕ) → (s.channels c).closed ≡ None
  pub not_voided : (c : ℕ) → (s.channels c).voided ≡ false
  pub waits : (w : WaitId) → is_plain_wait (s.waits w) ≡ true

-- a channel of this kind keeps no element without a wait
abbrev pub keeps_none : Kind → Bool
keeps_none Rendezvous = true
keeps_none (Buffered k) = false
keeps_none Unlimited = false
keeps_none Conflated = false
keeps_none (DropOldest k) = false
keeps_none (DropLatest k) = false
keeps_none Signal = true
