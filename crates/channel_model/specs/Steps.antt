-- One step on the channels: the state that an entry leaves, or nothing if the entry may not come.
use Rattle.std.specs.Prelude.{ℕ, ◌+◌, ◌==◌, nat_le, nat_lt, Bool, true, false, not, ◌&&◌, ◌||◌, List, [], ◌∷◌, length, Option, Some, None, is_none, is_some, if◌then◌else◌}
use Rattle.std.specs.List.{list_any}
use Rattle.channel_model.specs.declared.acts.Act.{Act}
use Rattle.channel_model.specs.declared.acts.Act.TheVariants.{Hand, Put, Offer, Await, Take, Admit, Drop, Spurn, Close, Void, Drain, WakeClosed, Withdraw, Settle}
use Rattle.channel_model.specs.declared.acts.Entry.{Entry}
use Rattle.channel_model.specs.declared.acts.Kind.{Kind}
use Rattle.channel_model.specs.declared.acts.Settled.{Settled}
use Rattle.channel_model.specs.declared.acts.Settled.TheVariants as settled
use Rattle.channel_model.specs.declared.standing.Receiver.{Receiver}
use Rattle.channel_model.specs.declared.standing.Resolution.{Resolution}
use Rattle.channel_model.specs.declared.standing.Standing.{Standing}
use Rattle.co_base.specs.declared.names.WaitId.{WaitId}
use Rattle.channel_model.specs.Channels.{Shape, kind_at, places_at, is_full, suspends, is_signal, drops, spurns, Channel, Wait, State, same_wait}
use Rattle.channel_model.specs.Effects.{after}
use Rattle.channel_model.specs.Needs.{began_by_select}
use Rattle.channel_model.specs.Outcomes.{outcome_of}

-- ---- parts of the tests

abbrev pub stands_none : {A : Type 0} → List A → Bool
stands_none [] = true
stands_none (x ∷ xs) = false

-- the first receiver stands at p
abbrev pub is_first_receiver : ℕ → List Receiver → Bool
is_first_receiver p [] = false
is_first_receiver p (r ∷ rs) = r.place == p

-- the first offer stands at p, with this element
abbrev pub is_first_offer : ℕ → ℕ → List Standing → Bool
is_first_offer p v [] = false
is_first_offer p v (o ∷ os) = (o.place == p) && (o.value == v)

-- an offer stands at p, with this element
abbrev pub is_offer_at : ℕ → ℕ → List Standing → Bool
is_offer_at p v [] = false
is_offer_at p v (o ∷ os) = if o.place == p then o.value == v else is_offer_at p v os

-- the channel is open, has a place left, and gives out p next
abbrev pub gives_place : ℕ → ℕ → Channel → Bool
gives_place places p ch = is_none ch.closed && (nat_lt ch.next places && (p == ch.next))

-- the offer at p is held, with fewer offers before it than the kind keeps; n offers stand before this list
abbrev pub is_admissible : Kind → ℕ → ℕ → List Standing → Bool
is_admissible kind p n [] = false
is_admissible kind p n (o ∷ os) =
    if o.place == p then is_some o.holder && not (is_full kind n) else is_admissible kind p (n + 1) os

-- a wait of who that began at a select's clause may have clause k on channel c as one more
abbrev pub may_join : ℕ → ℕ → ℕ → Option Wait → Bool
may_join who k c None = false
may_join who k c (Some x) =
    (x.owner == who)
    && (began_by_select x.clauses
    && (is_none x.settled
    && (not (list_any (λ y. y.1 == c) x.clauses)
    && (not (list_any (λ y. y.0 == k) x.clauses)
    && (nat_le 1 k && nat_le k 7)))))

-- a wait begins that has the name of this very place, or an earlier one gets a clause more
abbrev pub may_name : ℕ → ℕ → ℕ → ℕ → WaitId → State → Bool
may_name who k c p w s = if same_wait w (record { channel = c; place = p }) then nat_le k 7 else may_join who k c (s.waits w)

abbrev pub is_open_of : ℕ → Option Wait → Bool
is_open_of who None = false
is_open_of who (Some x) = (x.owner == who) && is_none x.resolved

abbrev pub same_settled : Settled → Settled → Bool
same_settled (settled.Value k v) (settled.Value j u) = (k == j) && (v == u)
same_settled (settled.Sent k) (settled.Sent j) = k == j
same_settled (settled.Closed k v) (settled.Closed j u) = (k == j) && (v == u)
same_settled settled.Cancelled settled.Cancelled = true
same_settled (settled.Undelivered v) (settled.Undelivered u) = v == u
same_settled x y = false

-- so a wait ends that was resolved, for a Job that was not cancelled or for one that was
abbrev pub is_outcome : Settled → Option Resolution → Bool
is_outcome outcome None = false
is_outcome outcome (Some how) = same_settled outcome (outcome_of how false) || same_settled outcome (outcome_of how true)

abbrev pub may_settle : ℕ → Settled → Option Wait → Bool
may_settle who outcome None = false
may_settle who outcome (Some x) = (x.owner == who) && (is_none x.settled && is_outcome outcome x.resolved)

-- ---- the step

-- whether who may make this act now
abbrev pub may_come : Shape → State → ℕ → Act → Bool
may_come shape s who (Hand c p v) =
    nat_lt c (length shape) && (not (is_signal (kind_at shape c)) && is_first_receiver p (s.channels c).receivers)
may_come shape s who (Put c p v) =
    nat_lt c (length shape)
    && (gives_place (places_at shape c) p (s.channels c)
    && (stands_none (s.channels c).receivers
    && not (is_full (kind_at shape c) (length (s.channels c).queue))))
may_come shape s who (Offer c p v w k) =
    nat_lt c (length shape)
    && (gives_place (places_at shape c) p (s.channels c)
    && (stands_none (s.channels c).receivers
    && (suspends (kind_at shape c) && may_name who k c p w s)))
may_come shape s who (Await c p w k) =
    nat_lt c (length shape)
    && (gives_place (places_at shape c) p (s.channels c)
    && (stands_none (s.channels c).queue && may_name who k c p w s))
may_come shape s who (Take c p v) = nat_lt c (length shape) && is_first_offer p v (s.channels c).queue
may_come shape s who (Admit c p) = nat_lt c (length shape) && is_admissible (kind_at shape c) p 0 (s.channels c).queue
may_come shape s who (Drop c p v) =
    nat_lt c (length shape) && (drops (kind_at shape c) (length (s.channels c).queue) && is_first_offer p v (s.channels c).queue)
may_come shape s who (Spurn c p v) =
    nat_lt c (length shape) && (spurns (kind_at shape c) (s.stood c p) && is_offer_at p v (s.channels c).queue)
may_come shape s who (Close c v) = nat_lt c (length shape) && is_none (s.channels c).closed
may_come shape s who (Void c) = nat_lt c (length shape) && (is_some (s.channels c).closed && not (s.channels c).voided)
may_come shape s who (Drain c p v) = nat_lt c (length shape) && ((s.channels c).voided && is_first_offer p v (s.channels c).queue)
may_come shape s who (WakeClosed c p) =
    nat_lt c (length shape) && (is_some (s.channels c).closed && is_first_receiver p (s.channels c).receivers)
may_come shape s who (Withdraw w why) = is_open_of who (s.waits w)
may_come shape s who (Settle w outcome) = may_settle who outcome (s.waits w)

-- the state after the entry, or nothing if it may not come
abbrev pub step : Shape → State → Entry → Option State
step shape s e = if may_come shape s e.who e.act then Some (after s e.who e.act) else None

abbrev pub or_nothing : Option State → (State → Option State) → Option State
or_nothing None f = None
or_nothing (Some s) f = f s

-- the state after these entries, or nothing if one of them may not come
unfoldable pub steps : Shape → State → List Entry → Option State
steps shape s [] = Some s
steps shape s (e ∷ es) = or_nothing (step shape s e) (λ t. steps shape t es)
