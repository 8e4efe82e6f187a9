-- What became of an element, as a filter of the acts on its place and on its wait.
use Rattle.std.specs.Prelude.{ℕ, ◌==◌, nat_lt, Bool, true, false, not, ◌&&◌, ◌||◌, List, [], ◌∷◌, Option, Some, None, if◌then◌else◌}
use Rattle.std.specs.List.{list_any}
use Rattle.channel_model.specs.declared.acts.Act.{Act}
use Rattle.channel_model.specs.declared.acts.Act.TheVariants.{Hand, Put, Offer, Await, Take, Admit, Drop, Spurn, Drain, WakeClosed, Withdraw, Settle}
use Rattle.channel_model.specs.declared.acts.Fate.{Fate}
use Rattle.channel_model.specs.declared.acts.Fate.TheVariants as fate
use Rattle.channel_model.specs.declared.acts.Settled.{Settled}
use Rattle.channel_model.specs.declared.acts.Settled.TheVariants as settled
use Rattle.co_base.specs.declared.names.WaitId.{WaitId}
use Rattle.channel_model.specs.Channels.{same_wait}

-- ---- words on one act

-- the act names this channel and place
abbrev pub is_at : ℕ → ℕ → ℕ → ℕ → Bool
is_at c p d q = (d == c) && (q == p)

-- the element that the act brought to this place
abbrev pub brings : ℕ → ℕ → Act → Option ℕ
brings c p (Hand d q v) = if is_at c p d q then Some v else None
brings c p (Put d q v) = if is_at c p d q then Some v else None
brings c p (Offer d q v w k) = if is_at c p d q then Some v else None
brings c p other = None

-- the wait that the act placed here
abbrev pub places_wait : ℕ → ℕ → Act → Option WaitId
places_wait c p (Offer d q v w k) = if is_at c p d q then Some w else None
places_wait c p (Await d q w k) = if is_at c p d q then Some w else None
places_wait c p other = None

-- the clause of the offer that the act placed here
abbrev pub offers_at : ℕ → ℕ → Act → Option ℕ
offers_at c p (Offer d q v w k) = if is_at c p d q then Some k else None
offers_at c p other = None

abbrev pub hands : ℕ → ℕ → Act → Bool
hands c p (Hand d q v) = is_at c p d q
hands c p other = false

abbrev pub takes : ℕ → ℕ → Act → Bool
takes c p (Take d q v) = is_at c p d q
takes c p other = false

abbrev pub admits : ℕ → ℕ → Act → Bool
admits c p (Admit d q) = is_at c p d q
admits c p other = false

abbrev pub drops_at : ℕ → ℕ → Act → Bool
drops_at c p (Drop d q v) = is_at c p d q
drops_at c p other = false

abbrev pub spurns_at : ℕ → ℕ → Act → Bool
spurns_at c p (Spurn d q v) = is_at c p d q
spurns_at c p other = false

abbrev pub drains : ℕ → ℕ → Act → Bool
drains c p (Drain d q v) = is_at c p d q
drains c p other = false

abbrev pub withdraws : WaitId → Act → Bool
withdraws w (Withdraw v why) = same_wait w v
withdraws w other = false

abbrev pub is_value : Settled → Bool
is_value (settled.Value k v) = true
is_value other = false

abbrev pub is_undelivered : Settled → Bool
is_undelivered (settled.Undelivered v) = true
is_undelivered other = false

abbrev pub settles_value : WaitId → Act → Bool
settles_value w (Settle v outcome) = same_wait w v && is_value outcome
settles_value w other = false

abbrev pub settles_undelivered : WaitId → Act → Bool
settles_undelivered w (Settle v outcome) = same_wait w v && is_undelivered outcome
settles_undelivered w other = false

-- the act takes the offer of this place out of its queue
abbrev pub removes : ℕ → ℕ → Act → Bool
removes c p (Take d q v) = is_at c p d q
removes c p (Drop d q v) = is_at c p d q
removes c p (Spurn d q v) = is_at c p d q
removes c p (Drain d q v) = is_at c p d q
removes c p other = false

-- the place whose wait the act resolves, if it has one
abbrev pub resolves_at : Act → Option (ℕ × ℕ)
resolves_at (Hand d q v) = Some (d, q)
resolves_at (Take d q v) = Some (d, q)
resolves_at (Admit d q) = Some (d, q)
resolves_at (Drain d q v) = Some (d, q)
resolves_at (WakeClosed d q) = Some (d, q)
resolves_at other = None

-- ---- words on all acts

abbrev pub or_else : {A : Type 0} → Option A → Option A → Option A
or_else None y = y
or_else (Some x) y = Some x

-- what the first act that has it says
abbrev pub first_some : {A : Type 0} → (Act → Option A) → List Act → Option A
first_some f [] = None
first_some f (a ∷ acts) = or_else (f a) (first_some f acts)

-- the element of a place: the value put, offered or handed there
abbrev pub element_at : ℕ → ℕ → List Act → Option ℕ
element_at c p acts = first_some (brings c p) acts

-- the wait of a place
abbrev pub wait_at : ℕ → ℕ → List Act → Option WaitId
wait_at c p acts = first_some (places_wait c p) acts

abbrev pub is_wait : WaitId → Option WaitId → Bool
is_wait w None = false
is_wait w (Some v) = same_wait w v

-- the act resolves the wait w at another place than this
abbrev pub resolves_elsewhere : ℕ → ℕ → WaitId → List Act → Option (ℕ × ℕ) → Bool
resolves_elsewhere c p w acts None = false
resolves_elsewhere c p w acts (Some x) = not (is_at c p x.0 x.1) && is_wait w (wait_at x.0 x.1 acts)

-- a clause of the wait at another place was chosen
abbrev pub is_chosen_elsewhere : ℕ → ℕ → WaitId → List Act → Bool
is_chosen_elsewhere c p w acts = list_any (λ a. resolves_elsewhere c p w acts (resolves_at a)) acts

abbrev pub of_wait : (WaitId → Bool) → Option WaitId → Bool
of_wait f None = false
of_wait f (Some w) = f w

abbrev pub of_offer : (ℕ → Bool) → Option ℕ → Bool
of_offer f None = false
of_offer f (Some k) = f k

-- ---- the fates

-- taken, or handed to a receiver that ended with a value
abbrev pub is_received : ℕ → ℕ → List Act → Bool
is_received c p acts =
    list_any (takes c p) acts
    || (list_any (hands c p) acts && of_wait (λ w. list_any (settles_value w) acts) (wait_at c p acts))

-- an offer that was not admitted and whose wait was withdrawn
abbrev pub is_taken_back : ℕ → ℕ → List Act → Bool
is_taken_back c p acts = not (list_any (admits c p) acts) && of_wait (λ w. list_any (withdraws w) acts) (wait_at c p acts)

-- came back undelivered: drained, handed to a receiver that gave it up, or offered by a plain send that was
-- withdrawn
abbrev pub is_undelivered_at : ℕ → ℕ → List Act → Bool
is_undelivered_at c p acts =
    list_any (drains c p) acts
    || ((list_any (hands c p) acts && of_wait (λ w. list_any (settles_undelivered w) acts) (wait_at c p acts))
    || of_offer (λ k. (k == 0) && is_taken_back c p acts) (first_some (offers_at c p) acts))

abbrev pub is_dropped : ℕ → ℕ → List Act → Bool
is_dropped c p acts = list_any (drops_at c p) acts

abbrev pub is_spurned : ℕ → ℕ → List Act → Bool
is_spurned c p acts = list_any (spurns_at c p) acts

-- offered by a select that was withdrawn or that chose another clause
abbrev pub is_withdrawn : ℕ → ℕ → List Act → Bool
is_withdrawn c p acts =
    of_offer
    (λ k. nat_lt 0 k
    && (is_taken_back c p acts
    || (not (list_any (admits c p) acts) && of_wait (λ w. is_chosen_elsewhere c p w acts) (wait_at c p acts))))
    (first_some (offers_at c p) acts)

-- the fate of the element at a place; held if none of the others applies
abbrev pub fate_at : ℕ → ℕ → List Act → Fate
fate_at c p acts =
    if is_received c p acts then fate.Received
    else if is_undelivered_at c p acts then fate.Undelivered
    else if is_dropped c p acts then fate.Dropped
    else if is_spurned c p acts then fate.Spurned
    else if is_withdrawn c p acts then fate.Withdrawn
    else fate.Held
