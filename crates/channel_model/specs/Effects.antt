-- What an entry leaves.
use Rattle.std.specs.Prelude.{ℕ, ◌+◌, ◌==◌, ◌&&◌, Bool, true, false, not, List, [], ◌∷◌, ◌++◌, length, filter, Option, Some, None, if◌then◌else◌, is_none}
use Rattle.channel_model.specs.declared.acts.Act.{Act}
use Rattle.channel_model.specs.declared.acts.Act.TheVariants.{Hand, Put, Offer, Await, Take, Admit, Drop, Spurn, Close, Void, Drain, WakeClosed, Withdraw, Settle}
use Rattle.channel_model.specs.declared.acts.Settled.{Settled}
use Rattle.channel_model.specs.declared.standing.Party.{Party}
use Rattle.channel_model.specs.declared.standing.Standing.{Standing}
use Rattle.channel_model.specs.declared.standing.Receiver.{Receiver}
use Rattle.channel_model.specs.declared.standing.Resolution.{Resolution}
use Rattle.channel_model.specs.declared.standing.Resolution.TheVariants as resolved
use Rattle.co_base.specs.declared.names.WaitId.{WaitId}
use Rattle.channel_model.specs.Channels.{Channel, Wait, State, same_wait}

-- ---- parts of the effects

-- only this channel becomes another
abbrev pub put_channel : ℕ → Channel → (ℕ → Channel) → ℕ → Channel
put_channel c x channels d = if c == d then x else channels d

-- only this wait becomes another
abbrev pub put_wait : WaitId → Option Wait → (WaitId → Option Wait) → WaitId → Option Wait
put_wait w x waits v = if same_wait w v then x else waits v

abbrev pub is_held_by : WaitId → Option Party → Bool
is_held_by w None = false
is_held_by w (Some p) = same_wait w p.wait

-- the channel without what the wait has there
abbrev pub without : WaitId → Channel → Channel
without w ch =
    record ch {
      queue = filter (λ o. not (is_held_by w o.holder)) ch.queue;
      receivers = filter (λ r. not (same_wait w r.party.wait)) ch.receivers;
    }

abbrev pub resolved_wait : Resolution → Option Wait → Option Wait
resolved_wait how None = None
resolved_wait how (Some x) = Some (record x { resolved = Some how })

-- the wait leaves every queue and every list of receivers
abbrev pub resolve : WaitId → Resolution → State → State
resolve w how s = record s { channels = λ c. without w (s.channels c); waits = put_wait w (resolved_wait how (s.waits w)) s.waits }

-- the holder of an offer is resolved, at its clause
abbrev pub resolve_holder : Option Party → (ℕ → Resolution) → State → State
resolve_holder None how s = s
resolve_holder (Some p) how s = resolve p.wait (how p.clause) s

-- the first receiver is resolved, at its clause
abbrev pub resolve_first : List Receiver → (ℕ → Resolution) → State → State
resolve_first [] how s = s
resolve_first (r ∷ rs) how s = resolve r.party.wait (how r.party.clause) s

-- the channel with this queue
abbrev pub with_queue : ℕ → List Standing → State → State
with_queue c queue s = record s { channels = put_channel c (record (s.channels c) { queue = queue }) s.channels }

-- the first offer goes
abbrev pub remove_first : ℕ → List Standing → State → State
remove_first c [] s = s
remove_first c (o ∷ os) s = with_queue c os s

abbrev pub is_elsewhere : ℕ → Standing → Bool
is_elsewhere p o = not (o.place == p)

-- the offers without that at this place
abbrev pub spurned : ℕ → List Standing → List Standing
spurned p queue = filter (is_elsewhere p) queue

-- the first offer goes, and its holder is resolved
abbrev pub resolve_offer : ℕ → List Standing → (ℕ → Resolution) → State → State
resolve_offer c [] how s = s
resolve_offer c (o ∷ os) how s = resolve_holder o.holder how (with_queue c os s)

-- the wait begins with this clause, or has this one more
abbrev pub name_clause : ℕ → ℕ → ℕ → Option Wait → Option Wait
name_clause who k c None = Some (record { owner = who; clauses = (k, c) ∷ []; resolved = None; settled = None })
name_clause who k c (Some x) = Some (record x { clauses = x.clauses ++ (k, c) ∷ [] })

-- nobody resolved the wait yet
abbrev pub is_open : Option Wait → Bool
is_open None = true
is_open (Some x) = is_none x.resolved

-- only of the offer at this place it becomes another number how many stood when it was placed
abbrev pub put_stood : ℕ → ℕ → ℕ → (ℕ → ℕ → ℕ) → ℕ → ℕ → ℕ
put_stood c p n stood d q = if (c == d) && (p == q) then n else stood d q

-- a place is given out, and the offer stands there unless its wait is resolved already
abbrev pub place_offer : Bool → Standing → Channel → Channel
place_offer false o ch = record ch { next = ch.next + 1 }
place_offer true o ch = record ch { next = ch.next + 1; queue = ch.queue ++ o ∷ [] }

-- the same for a receiver
abbrev pub place_receiver : Bool → Receiver → Channel → Channel
place_receiver false r ch = record ch { next = ch.next + 1 }
place_receiver true r ch = record ch { next = ch.next + 1; receivers = ch.receivers ++ r ∷ [] }

-- the offer at this place becomes buffered
abbrev pub admitted : ℕ → List Standing → List Standing
admitted p [] = []
admitted p (o ∷ os) = if o.place == p then record o { holder = None } ∷ os else o ∷ admitted p os

abbrev pub holder_at : ℕ → List Standing → Option Party
holder_at p [] = None
holder_at p (o ∷ os) = if o.place == p then o.holder else holder_at p os

abbrev pub close_value : Option ℕ → ℕ
close_value None = 0
close_value (Some v) = v

abbrev pub settled_wait : Settled → Option Wait → Option Wait
settled_wait outcome None = None
settled_wait outcome (Some x) = Some (record x { settled = Some outcome })

-- ---- the acts

-- the state after this act of who
abbrev pub after : State → ℕ → Act → State
after s who (Hand c p v) = resolve_first (s.channels c).receivers (λ k. resolved.Handed k v) s
after s who (Put c p v) =
    record s {
      channels = put_channel c (place_offer true (record { place = p; value = v; holder = None }) (s.channels c)) s.channels;
      stood = put_stood c p (length (s.channels c).queue) s.stood;
    }
after s who (Offer c p v w k) =
    record {
      channels = put_channel c
          (place_offer
          (is_open (s.waits w))
          (record { place = p; value = v; holder = Some (record { wait = w; clause = k }) })
          (s.channels c))
          s.channels;
      waits = put_wait w (name_clause who k c (s.waits w)) s.waits;
      stood = put_stood c p (length (s.channels c).queue) s.stood;
    }
after s who (Await c p w k) =
    record s {
      channels = put_channel c
          (place_receiver
          (is_open (s.waits w))
          (record { place = p; party = record { wait = w; clause = k } })
          (s.channels c))
          s.channels;
      waits = put_wait w (name_clause who k c (s.waits w)) s.waits;
    }
after s who (Take c p v) = resolve_offer c (s.channels c).queue resolved.Taken s
after s who (Admit c p) =
    resolve_holder (holder_at p (s.channels c).queue) resolved.Admitted (with_queue c (admitted p (s.channels c).queue) s)
after s who (Drop c p v) = remove_first c (s.channels c).queue s
after s who (Spurn c p v) = with_queue c (spurned p (s.channels c).queue) s
after s who (Close c v) = record s { channels = put_channel c (record (s.channels c) { closed = Some v }) s.channels }
after s who (Void c) = record s { channels = put_channel c (record (s.channels c) { voided = true }) s.channels }
after s who (Drain c p v) = resolve_offer c (s.channels c).queue (λ k. resolved.Voided) s
after s who (WakeClosed c p) = resolve_first (s.channels c).receivers (λ k. resolved.Closed k (close_value (s.channels c).closed)) s
after s who (Withdraw w why) = resolve w (resolved.Withdrawn why) s
after s who (Settle w outcome) = record s { waits = put_wait w (settled_wait outcome (s.waits w)) s.waits }
