-- What a coroutine tells of its waits: each begins where it has none, and how each ends.
use Rattle.std.proofs.Common.{◌≡◌, ℕ, Bool, true, false, List, [], ◌∷◌, ◌++◌, refl, ap, sym, ◌∙◌, subst, Option, Some, None}
use Rattle.std.specs.Prelude.{map, ◌+◌}
use Rattle.co_base.specs.declared.names.WaitId.{WaitId}
use Rattle.channel_model.specs.declared.acts.Act.{Act}
use Rattle.channel_model.specs.declared.acts.Act.TheVariants.{Hand, Put, Offer, Await, Take, Admit, Drop, Spurn, Close, Void, Drain, WakeClosed, Withdraw, Settle}
use Rattle.channel_model.specs.declared.acts.Why.TheVariants as why
use Rattle.channel_model.specs.declared.acts.Settled.{Settled}
use Rattle.channel_model.specs.declared.acts.Settled.TheVariants as settled
use Rattle.channel_model.specs.declared.acts.ChannelNote.TheVariants.{Late}
use Rattle.job_model.specs.declared.acts.JobAct.{JobAct}
use Rattle.job_model.specs.declared.acts.End.{End}
use Rattle.job_model.specs.Cancels.{own_cancel}
use Rattle.call_meaning.specs.Telling.{Told, on_channels, TakenBack, made, heard, did, saw}
use Rattle.call_meaning.specs.ChannelCalls.{Call, sends, receives, Answer, Done, Got, Closed, Waits, NoPlace, LooksAgain, PlainCall, TryCall, SelectCall, Admits, Drops, Spurns, Overflows, Wakes, Drains, Closes, CancelsChannel, AtOnce, Refused, TryRefused, blocked, spent, EndsAtOnce, Begins as BeginsPlaces, Places, PlacesFirst, AdmitsIn, Stops, GivesUp, placed, wait_at, revoked, is_given_up}
use Rattle.call_meaning.specs.JobCalls.{NotAttached, Starts, Passes, Breaks, Chain, EndsBody, BreaksOff}
use Rattle.script_grammar.specs.declared.instructions.Instruction.{Instruction}
use Rattle.script_grammar.specs.Programs.{Program}
use Rattle.script_grammar.specs.Tags.{spawned}
use Rattle.script_meaning.specs.declared.stage.Stage.{Stage}
use Rattle.script_meaning.specs.declared.stage.Stage.TheVariants as stage
use Rattle.script_meaning.specs.Configs.{Config, InScope, innermost}
use Rattle.script_meaning.specs.Lines.{StartsAndReceives, LineCalls, After, AfterAwait, Resumed, AtScopeEnd, AfterScope}
use Rattle.script_meaning.specs.Moves.{Move}
use Rattle.script_meaning.specs.Books.{Spawns, Begins, Reaches}
use Rattle.script_meaning.specs.Laws.{wait_of}
use Rattle.script_meaning.proofs.ActsFollowed.{call_told}

-- an act that neither names nor settles a wait, or none
abbrev pub is_waitless : Option Act → Bool
is_waitless None = true
is_waitless (Some (Hand c q v)) = true
is_waitless (Some (Put c q v)) = true
is_waitless (Some (Offer c q v w n)) = false
is_waitless (Some (Await c q w n)) = false
is_waitless (Some (Take c q v)) = true
is_waitless (Some (Admit c q)) = true
is_waitless (Some (Drop c q v)) = true
is_waitless (Some (Spurn c q v)) = true
is_waitless (Some (Close c v)) = true
is_waitless (Some (Void c)) = true
is_waitless (Some (Drain c q v)) = true
is_waitless (Some (WakeClosed c q)) = true
is_waitless (Some (Withdraw w why)) = true
is_waitless (Some (Settle w outcome)) = false

-- the wait of the clause that the act places
abbrev pub named_by : Act → Option WaitId
named_by (Offer c q v w n) = Some w
named_by (Await c q w n) = Some w
named_by other = None

-- from a coroutine that has this wait, or none, to one that has that, or none
pub data WaitsTold : Option WaitId → List Told → Option WaitId → Type 0 where
  none : (o : Option WaitId) → WaitsTold o [] o
  other : (o o' : Option WaitId) (t : Told) (more : List Told) → is_waitless (call_told t) ≡ true → WaitsTold o more o'
      → WaitsTold o (t ∷ more) o'
  -- a clause is placed
  begins : (w : WaitId) (o : Option WaitId) (a : Act) (more : List Told) → named_by a ≡ Some w → WaitsTold (Some w) more o
      → WaitsTold None (made a ∷ more) o
  joins : (w : WaitId) (o : Option WaitId) (a : Act) (more : List Told) → named_by a ≡ Some w → WaitsTold (Some w) more o
      → WaitsTold (Some w) (made a ∷ more) o
  -- the wait ends with an answer
  ends : (w : WaitId) (outcome : Settled) (o : Option WaitId) (more : List Told) → is_given_up outcome ≡ false → WaitsTold None more o
      → WaitsTold (Some w) (made (Settle w outcome) ∷ more) o
  -- or it was taken back
  taken_back : (w : WaitId) (o : Option WaitId) (more : List Told) → WaitsTold None more o
      → WaitsTold (Some w) (on_channels (TakenBack w) ∷ made (Settle w settled.Cancelled) ∷ more) o
  revokes : (w : WaitId) (o : Option WaitId) (more : List Told) → WaitsTold None more o
      → WaitsTold (Some w) (made (Withdraw w why.Revoked) ∷ made (Settle w settled.Cancelled) ∷ more) o
  -- or it meets a cancellation that was seen
  dispatched : (w : WaitId) (row : ℕ) (outcome : Settled) (o : Option WaitId) (more : List Told) → WaitsTold None more o
      → WaitsTold (Some w) (saw row ∷ made (Settle w outcome) ∷ more) o
  withdrawn : (w : WaitId) (row : ℕ) (outcome : Settled) (o : Option WaitId) (more : List Told) → WaitsTold None more o
      → WaitsTold (Some w) (saw row ∷ made (Withdraw w why.Cancelled) ∷ made (Settle w outcome) ∷ more) o
  late : (w : WaitId) (row : ℕ) (outcome : Settled) (o : Option WaitId) (more : List Told) → WaitsTold None more o
      → WaitsTold (Some w) (saw row ∷ heard (Late w) ∷ made (Settle w outcome) ∷ more) o

pub told_then : (o m o' : Option WaitId) (xs ys : List Told) → WaitsTold o xs m → WaitsTold m ys o' → WaitsTold o (xs ++ ys) o'
told_then _ _ o' _ ys (WaitsTold.none o) b = b
told_then _ _ o' _ ys (WaitsTold.other o m t more q h) b = WaitsTold.other o o' t (more ++ ys) q (told_then o m o' more ys h b)
told_then _ _ o' _ ys (WaitsTold.begins w m a more q h) b = WaitsTold.begins w o' a (more ++ ys) q (told_then (Some w) m o' more ys h b)
told_then _ _ o' _ ys (WaitsTold.joins w m a more q h) b = WaitsTold.joins w o' a (more ++ ys) q (told_then (Some w) m o' more ys h b)
told_then _ _ o' _ ys (WaitsTold.ends w outcome m more q h) b = WaitsTold.ends w outcome o' (more ++ ys) q (told_then None m o' more ys h b)
told_then _ _ o' _ ys (WaitsTold.taken_back w m more h) b = WaitsTold.taken_back w o' (more ++ ys) (told_then None m o' more ys h b)
told_then _ _ o' _ ys (WaitsTold.revokes w m more h) b = WaitsTold.revokes w o' (more ++ ys) (told_then None m o' more ys h b)
told_then _ _ o' _ ys (WaitsTold.dispatched w row outcome m more h) b =
    WaitsTold.dispatched w row outcome o' (more ++ ys) (told_then None m o' more ys h b)
told_then _ _ o' _ ys (WaitsTold.withdrawn w row outcome m more h) b =
    WaitsTold.withdrawn w row outcome o' (more ++ ys) (told_then None m o' more ys h b)
told_then _ _ o' _ ys (WaitsTold.late w row outcome m more h) b =
    WaitsTold.late w row outcome o' (more ++ ys) (told_then None m o' more ys h b)

-- ---- groups that say nothing of waits

-- whatever wait there is, it is there behind this too
abbrev pub IsWaitless : List Told → Type 0
IsWaitless g = (o : Option WaitId) → WaitsTold o g o

both : (xs ys : List Told) → IsWaitless xs → IsWaitless ys → IsWaitless (xs ++ ys)
both xs ys a b o = told_then o o o xs ys (a o) (b o)

same : (xs ys : List Told) → xs ≡ ys → IsWaitless ys → IsWaitless xs
same xs ys e h = subst IsWaitless (sym e) h

cons : (t : Told) (ts : List Told) → is_waitless (call_told t) ≡ true → IsWaitless ts → IsWaitless (t ∷ ts)
cons t ts q h o = WaitsTold.other o o t ts q (h o)

nothing : IsWaitless []
nothing o = WaitsTold.none o

one : (t : Told) → is_waitless (call_told t) ≡ true → IsWaitless (t ∷ [])
one t q = cons t [] q nothing

mapped : {A : Type 0} (f : A → Told) (xs : List A) → ((x : A) → is_waitless (call_told (f x)) ≡ true) → IsWaitless (map f xs)
mapped f [] h = nothing
mapped f (x ∷ xs) h = cons (f x) (map f xs) (h x) (mapped f xs h)

of_admits : (c : ℕ) (g : List Told) → Admits c g → IsWaitless g
of_admits c g h =
    same g _ h.all (cons _ _ refl (both (map (λ q. made (Admit c q)) h.places) _ (mapped (λ q. made (Admit c q)) h.places (λ q. refl))
    (one _ refl)))

of_drops : (c q : ℕ) (g : List Told) → Drops c q g → IsWaitless g
of_drops c q g h = same g _ h.all (both (map (λ d. made (Drop c d.0 d.1)) h.dropped) _
    (mapped (λ d. made (Drop c d.0 d.1)) h.dropped (λ d. refl)) (one _ refl))

of_spurns : (c q : ℕ) (g : List Told) → Spurns c q g → IsWaitless g
of_spurns c q _ (Spurns.gone v) = one _ refl
of_spurns c q _ Spurns.stays = one _ refl

of_overflows : (c q : ℕ) (g : List Told) → Overflows c q g → IsWaitless g
of_overflows c q g h = same g _ h.all (both h.drops h.spurns (of_drops c q h.drops h.dropped) (of_spurns c q h.spurns h.spurned))

of_wakes : (c : ℕ) (g : List Told) → Wakes c g → IsWaitless g
of_wakes c g h = same g _ h.all (both (map (λ q. made (WakeClosed c q)) h.places) _
    (mapped (λ q. made (WakeClosed c q)) h.places (λ q. refl)) (one _ refl))

of_drains : (c : ℕ) (g : List Told) → Drains c g → IsWaitless g
of_drains c g h = same g _ h.all (both (map (λ d. made (Drain c d.0 d.1)) h.drained) _
    (mapped (λ d. made (Drain c d.0 d.1)) h.drained (λ d. refl)) (cons _ _ refl (one _ refl)))

of_closes : (c v : ℕ) (g : List Told) → Closes c v g → IsWaitless g
of_closes c v _ (Closes.now wakes w) = cons _ wakes refl (of_wakes c wakes w)
of_closes c v _ (Closes.before u wakes w) = cons _ wakes refl (of_wakes c wakes w)

of_cancels : (c : ℕ) (g : List Told) → CancelsChannel c g → IsWaitless g
of_cancels c g (CancelsChannel.now closes drains _ a d e) =
    same g _ e (both closes _ (of_closes c 0 closes a) (cons _ drains refl (of_drains c drains d)))
of_cancels c g (CancelsChannel.before closes drains _ a d e) =
    same g _ e (both closes drains (of_closes c 0 closes a) (of_drains c drains d))

of_blocked : (call : Call) → is_waitless (call_told (blocked call)) ≡ true
of_blocked (sends c v) = refl
of_blocked (receives c) = refl

of_passed : (calls : List Call) → IsWaitless (map blocked calls)
of_passed calls = mapped blocked calls of_blocked

of_spent : (call : Call) → IsWaitless (spent call)
of_spent (sends c v) = cons _ _ refl (one _ refl)
of_spent (receives c) = cons _ _ refl (one _ refl)

of_refused : (call : Call) (t : Told) (a : Answer) → Refused call t a → is_waitless (call_told t) ≡ true
of_refused _ _ _ (Refused.send c v u) = refl
of_refused _ _ _ (Refused.receive c u) = refl

of_try_refused : (call : Call) (t : Told) → TryRefused call t → is_waitless (call_told t) ≡ true
of_try_refused _ _ (TryRefused.send c v u) = refl
of_try_refused _ _ (TryRefused.receive c u) = refl

of_at_once : (call : Call) (g : List Told) (a : Answer) → AtOnce call g a → IsWaitless g
of_at_once _ _ _ (AtOnce.hands c v q) = one _ refl
of_at_once _ _ _ (AtOnce.puts c v q more d) = cons _ more refl (of_overflows c q more d)
of_at_once _ _ _ (AtOnce.takes c v q admits d) = cons _ admits refl (of_admits c admits d)

of_stops : (call : Call) (g : List Told) (a : Answer) → Stops call g a → IsWaitless g
of_stops _ _ _ (Stops.receiver c v q) = cons _ _ refl (one _ refl)
of_stops _ _ _ (Stops.offer c q) = cons _ _ refl (one _ refl)
of_stops _ _ _ (Stops.closed call t a h) = one t (of_refused call t a h)
of_stops _ _ _ (Stops.no_place call all e) = same all _ e (of_spent call)

of_admits_in : (calls : List Call) (g : List Told) → AdmitsIn calls g → IsWaitless g
of_admits_in _ _ AdmitsIn.none = nothing
of_admits_in _ _ (AdmitsIn.offered c v calls admits more all a h e) =
    same all _ e (both admits more (of_admits c admits a) (of_admits_in calls more h))
of_admits_in _ _ (AdmitsIn.awaited c calls all h) = of_admits_in calls all h

of_refusal : (parent : ℕ) (b : Bool) (g : List Told) → NotAttached parent b g → IsWaitless g
of_refusal parent _ _ NotAttached.no_row = one _ refl
of_refusal parent _ _ NotAttached.used = one _ refl
of_refusal parent _ _ (NotAttached.parent_ended b) = cons _ _ refl (one _ refl)

of_starts : (row : ℕ) (g : List Told) → Starts row g → IsWaitless g
of_starts row _ Starts.now = cons _ _ refl (one _ refl)
of_starts row _ Starts.before = one _ refl

of_deeds : (acts : List JobAct) → IsWaitless (map did acts)
of_deeds acts = mapped did acts (λ a. refl)

of_passes : (row : ℕ) (reason : _) (newly : Bool) (g : List Told) → Passes row reason newly g → IsWaitless g
of_passes row reason newly g h = same g _ h.all (both (map did (own_cancel newly row reason ++ h.below)) _
    (of_deeds (own_cancel newly row reason ++ h.below)) (one _ refl))

of_breaks : (k row : ℕ) (failure : Option ℕ) (g : List Told) → Breaks k row failure g → IsWaitless g
of_breaks k row _ _ (Breaks.seen failure) = nothing
of_breaks k row _ _ (Breaks.had_been failure g h) = of_passes row _ false g h
of_breaks k row _ _ (Breaks.asked g h) = of_passes row _ true g h
of_breaks k row _ _ (Breaks.scope_fails f g n h) = of_passes row _ true g h
of_breaks k row _ _ (Breaks.fails f up pass all e h q) =
    same all _ q (both pass _ (of_passes row _ true pass h) (both (map did up) _ (of_deeds up) (one _ refl)))

of_chain : (base row : ℕ) (g : List Told) → Chain base row g → IsWaitless g
of_chain base _ _ (Chain.stops row) = one _ refl
of_chain base _ _ (Chain.root end closes c) = cons _ closes refl (of_closes _ _ closes c)
of_chain base row g (Chain.goes_up _ parent end closes rest _ n c up e) =
    same g _ e (cons _ _ refl (both closes _ (of_closes _ _ closes c) (cons _ _ refl (cons _ rest refl (of_chain base parent rest up)))))

of_end : (base row v : ℕ) (g : List Told) → EndsBody base row v g → IsWaitless g
of_end base row v _ (EndsBody.ends_body chain c) = cons _ chain refl (of_chain base row chain c)

of_off : (base k row : ℕ) (failure : Option ℕ) (g : List Told) → BreaksOff base k row failure g → IsWaitless g
of_off base k row failure g h = same g _ h.all (both h.cancels _ (of_breaks k row failure h.cancels h.breaks)
    (cons _ h.end refl (of_end base row 0 h.end h.ends)))

-- ---- calls

-- the wait that a call leaves
abbrev pub wait_by : Answer → Option WaitId
wait_by Done = None
wait_by (Got v) = None
wait_by (Closed v) = None
wait_by (Waits w) = Some w
wait_by NoPlace = None
wait_by LooksAgain = None

once_by : (call : Call) (g : List Told) (a : Answer) → AtOnce call g a → wait_by a ≡ None
once_by _ _ _ (AtOnce.hands c v q) = refl
once_by _ _ _ (AtOnce.puts c v q more d) = refl
once_by _ _ _ (AtOnce.takes c v q admits d) = refl

refused_by : (call : Call) (t : Told) (a : Answer) → Refused call t a → wait_by a ≡ None
refused_by _ _ _ (Refused.send c v u) = refl
refused_by _ _ _ (Refused.receive c u) = refl

stops_by : (call : Call) (g : List Told) (a : Answer) → Stops call g a → wait_by a ≡ None
stops_by _ _ _ (Stops.receiver c v q) = refl
stops_by _ _ _ call = refl

-- a call of one that has no wait
abbrev pub Leaves : List Told → Answer → Type 0
Leaves g a = WaitsTold None g (wait_by a)

leaves_none : (g : List Told) (a : Answer) → wait_by a ≡ None → IsWaitless g → Leaves g a
leaves_none g a e h = subst (λ o. WaitsTold None g o) (sym e) (h None)

ends_at_once : (w : WaitId) (g : List Told) → EndsAtOnce w g → WaitsTold (Some w) g None
ends_at_once w _ EndsAtOnce.sent = WaitsTold.ends w (settled.Sent 0) None [] refl (WaitsTold.none None)
ends_at_once w _ EndsAtOnce.voided = WaitsTold.taken_back w None [] (WaitsTold.none None)

plain_leaves : (call : Call) (g : List Told) (a : Answer) → PlainCall call g a → Leaves g a
plain_leaves _ _ _ (PlainCall.at_once call g a h) = leaves_none g a (once_by call g a h) (of_at_once call g a h)
plain_leaves _ _ _ (PlainCall.refused call t a h) = leaves_none (t ∷ []) a (refused_by call t a h) (one t (of_refused call t a h))
plain_leaves _ _ _ (PlainCall.no_place call all e) = leaves_none all NoPlace refl (same all _ e (of_spent call))
plain_leaves _ _ _ (PlainCall.offers c v q admits h) = WaitsTold.other None _ _ _ refl
    (WaitsTold.begins (wait_at c q) _ _ admits refl (of_admits c admits h (Some (wait_at c q))))
plain_leaves _ _ _ (PlainCall.offer_ends c v q admits settles all h s e) =
    subst (λ g. WaitsTold None g None) (sym e) (WaitsTold.other None None _ _ refl
    (WaitsTold.begins (wait_at c q) None _ (admits ++ settles) refl
    (told_then (Some (wait_at c q)) (Some (wait_at c q)) None admits settles (of_admits c admits h (Some (wait_at c q)))
    (ends_at_once (wait_at c q) settles s))))
plain_leaves _ _ _ (PlainCall.awaits c q) = WaitsTold.begins (wait_at c q) _ _ [] refl (WaitsTold.none (Some (wait_at c q)))

try_leaves : (call : Call) (g : List Told) (a : Answer) → TryCall call g a → Leaves g a
try_leaves _ _ _ (TryCall.at_once call g a h) = leaves_none g a (once_by call g a h) (of_at_once call g a h)
try_leaves _ _ _ (TryCall.refused call t h) = leaves_none (t ∷ []) Done refl (one t (of_try_refused call t h))
try_leaves _ _ _ (TryCall.blocks call) = leaves_none _ Done refl (one _ (of_blocked call))
try_leaves _ _ _ (TryCall.no_place c v) = leaves_none _ NoPlace refl (of_spent (sends c v))

-- ---- selects

names : (w : WaitId) (n q : ℕ) (call : Call) (more : List Told) → WaitsTold (Some w) more (Some w)
    → (WaitsTold None (placed w n q call ∷ more) (Some w)) × (WaitsTold (Some w) (placed w n q call ∷ more) (Some w))
names w n q (sends c v) more h = (WaitsTold.begins w (Some w) _ more refl h, WaitsTold.joins w (Some w) _ more refl h)
names w n q (receives c) more h = (WaitsTold.begins w (Some w) _ more refl h, WaitsTold.joins w (Some w) _ more refl h)

places_more : (w : WaitId) (n : ℕ) (calls : List Call) (g : List Told) → Places w n calls g → WaitsTold (Some w) g (Some w)
places_more w _ _ _ (Places.none n) = WaitsTold.none (Some w)
places_more w _ _ _ (Places.one n q call calls more h) = (names w n q call more (places_more w (n + 1) calls more h)).1

is_some_told : List Told → Bool
is_some_told [] = false
is_some_told (t ∷ ts) = true

begins_some : (w : WaitId) (g : List Told) → BeginsPlaces w g → is_some_told g ≡ true
unfolding is_some_told
begins_some _ _ (BeginsPlaces.send c v q more) = refl
begins_some _ _ (BeginsPlaces.receive c q more) = refl

places_first : (w : WaitId) (n : ℕ) (calls : List Call) (g : List Told) → Places w n calls g → is_some_told g ≡ true
    → WaitsTold None g (Some w)
unfolding is_some_told
places_first w _ _ _ (Places.none n) e = cc
places_first w _ _ _ (Places.one n q call calls more h) e = (names w n q call more (places_more w (n + 1) calls more h)).0

first_placed : (w : WaitId) (calls : List Call) (g : List Told) → PlacesFirst w calls g → WaitsTold None g (Some w)
first_placed w calls g h = places_first w 1 calls g h.places (begins_some w g h.begins)

revoking : (w : WaitId) → WaitsTold (Some w) (revoked w) None
revoking w = WaitsTold.revokes w None [] (WaitsTold.none None)

behind_passed : (calls : List Call) (g all : List Told) (o : Option WaitId) → all ≡ map blocked calls ++ g → WaitsTold None g o
    → WaitsTold None all o
behind_passed calls g all o e h = subst (λ l. WaitsTold None l o) (sym e)
    (told_then None None o (map blocked calls) g (of_passed calls None) h)

select_leaves : (calls : List Call) (g : List Told) (a : Answer) → SelectCall calls g a → Leaves g a
select_leaves calls _ _ (SelectCall.chooses before later call group all a f h e) =
    behind_passed before group all (wait_by a) e (leaves_none group a (once_by call group a h) (of_at_once call group a h))
select_leaves calls _ _ (SelectCall.meets_close before later call t all a f h e) =
    behind_passed before (t ∷ []) all (wait_by a) e (leaves_none (t ∷ []) a (refused_by call t a h) (one t (of_refused call t a h)))
select_leaves calls _ _ (SelectCall.no_place before later c v all f e) =
    behind_passed before (spent (sends c v)) all None e (of_spent (sends c v) None)
select_leaves calls _ _ (SelectCall.waits w group admits all h d e) =
    behind_passed calls (group ++ admits) all (Some w) e (told_then None (Some w) (Some w) group admits (first_placed w calls group h)
    (of_admits_in calls admits d (Some w)))
select_leaves calls _ _ (SelectCall.resolved w before later call group admits all f h d e) =
    behind_passed calls _ all (Some w) e (told_then None (Some w) (Some w) group _ (first_placed w before group h)
    (cons _ admits refl (of_admits_in before admits d) (Some w)))
select_leaves calls _ _ (SelectCall.stops_at_first later call stop all a f h e) =
    behind_passed calls stop all (wait_by a) e (leaves_none stop a (stops_by call stop a h) (of_stops call stop a h))
select_leaves calls _ _ (SelectCall.stops w before later call group stop admits all a f h s d e) =
    behind_passed calls _ all (wait_by a) e
    (subst (λ o. WaitsTold None (((group ++ stop) ++ revoked w) ++ admits) o) (sym (stops_by call stop a s))
    (told_then None None None ((group ++ stop) ++ revoked w) admits
    (told_then None (Some w) None (group ++ stop) (revoked w)
    (told_then None (Some w) (Some w) group stop (first_placed w before group h) (of_stops call stop a s (Some w))) (revoking w))
    (of_admits_in before admits d None)))
select_leaves calls _ _ (SelectCall.stops_late w before later call group stop admits all a f h s d e) =
    behind_passed calls _ all (Some w) e
    (told_then None (Some w) (Some w) (group ++ stop) _ (told_then None (Some w) (Some w) group stop (first_placed w before group h)
    (of_stops call stop a s (Some w))) (cons _ admits refl (of_admits_in before admits d) (Some w)))

-- ---- lines

both_leave : (p : Program) (row : ℕ) (g : List Told) (a : Answer) → StartsAndReceives p row g a → Leaves g a
both_leave p row g a (StartsAndReceives.both starts group _ _ s c e) =
    subst (λ l. WaitsTold None l (wait_by a)) (sym e) (told_then None None (wait_by a) starts group (of_starts row starts s None)
    (plain_leaves _ group a c))

line_leaves : (p : Program) (k : ℕ) (x : Config) (i : Instruction) (g : List Told) (a : Answer) → LineCalls p k x i g a → Leaves g a
line_leaves p k x _ _ _ (LineCalls.send c o g a h) = plain_leaves _ g a h
line_leaves p k x _ _ _ (LineCalls.receive c g a h) = plain_leaves _ g a h
line_leaves p k x _ _ _ (LineCalls.each c g a h) = plain_leaves _ g a h
line_leaves p k x _ _ _ (LineCalls.trysend c o g a h) = try_leaves _ g a h
line_leaves p k x _ _ _ (LineCalls.tryreceive c g a h) = try_leaves _ g a h
line_leaves p k x _ _ _ (LineCalls.select g a h) = select_leaves _ g a h
line_leaves p k x _ _ _ (LineCalls.join job row g a n h) = WaitsTold.other None (wait_by a) _ g refl (both_leave p row g a h)
line_leaves p k x _ _ _ (LineCalls.await job row g a n h) = both_leave p row g a h

-- the stage after an answer has the wait that the call left
after_answer : (p : Program) (k : ℕ) (x : Config) (i : Instruction) (a : Answer) (y : Config) → (a ≡ LooksAgain → wait_of x.stage ≡ None)
    → After p k x i a y → wait_of y.stage ≡ wait_by a
after_answer p k x _ _ _ n (After.waits i w) = refl
after_answer p k x _ _ _ n (After.no_place i) = refl
after_answer p k x _ _ _ n (After.sent c o) = refl
after_answer p k x _ _ _ n (After.tried_to_send c o) = refl
after_answer p k x _ _ _ n (After.got c v) = refl
after_answer p k x _ _ _ n (After.no_more c v) = refl
after_answer p k x _ _ _ n (After.tried_and_got c v) = refl
after_answer p k x _ _ _ n (After.tried_to_get c) = refl
after_answer p k x _ _ _ n (After.got_one_more c v) = refl
after_answer p k x _ _ _ n (After.got_all c v e h) = refl
after_answer p k x _ _ _ n (After.chose_send e h) = refl
after_answer p k x _ _ _ n (After.chose_got e v h) = refl
after_answer p k x _ _ _ n (After.chose_closed e v h) = refl
after_answer p k x _ _ _ n After.looks_again = n refl
after_answer p k x _ _ _ n (After.joined job v) = refl
after_answer p k x _ _ _ n (After.awaited job v) = refl

after_await : (x : Config) (end : End) (y : Config) → AfterAwait x end y → wait_of y.stage ≡ None
after_await x _ _ (AfterAwait.completed v) = refl
after_await x _ _ AfterAwait.cancelled = refl
after_await x _ _ (AfterAwait.failed f) = refl

at_scope_end : (k : ℕ) (x : Config) (s : InScope) (a : Answer) (y : Config) → AtScopeEnd k x s a y → wait_of y.stage ≡ wait_by a
at_scope_end k x s _ _ (AtScopeEnd.waits w) = refl
at_scope_end k x s _ _ (AtScopeEnd.closed v) = refl
at_scope_end k x s _ _ AtScopeEnd.no_place = refl

after_scope : (p : Program) (k : ℕ) (x : Config) (s : InScope) (end : End) (y : Config) → AfterScope p k x s end y → wait_of y.stage ≡ None
after_scope p k x s _ _ (AfterScope.completed v e h) = refl
after_scope p k x s _ _ AfterScope.cancelled = refl
after_scope p k x s _ _ (AfterScope.failed f) = refl

-- an answer for which it waited leaves no wait
resumed_by : (outcome : Settled) (a : Answer) → Resumed outcome a → (wait_by a ≡ None) × (is_given_up outcome ≡ false)
resumed_by _ _ (Resumed.value n v) = (refl, refl)
resumed_by _ _ (Resumed.sent n) = (refl, refl)
resumed_by _ _ (Resumed.closed n v) = (refl, refl)

resumed_not : (outcome : Settled) (a : Answer) → Resumed outcome a → a ≡ LooksAgain → ⊥
resumed_not _ _ (Resumed.value n v) e = cc
resumed_not _ _ (Resumed.sent n) e = cc
resumed_not _ _ (Resumed.closed n v) e = cc

given_up : (w : WaitId) (row : ℕ) (g : List Told) → GivesUp w g → WaitsTold (Some w) (saw row ∷ g) None
given_up w row _ GivesUp.dispatched = WaitsTold.dispatched w row settled.Cancelled None [] (WaitsTold.none None)
given_up w row _ (GivesUp.undelivered v) = WaitsTold.dispatched w row (settled.Undelivered v) None [] (WaitsTold.none None)
given_up w row _ (GivesUp.withdrawn admits h) = WaitsTold.withdrawn w row settled.Cancelled None admits (of_admits w.channel admits h None)
given_up w row _ (GivesUp.late admits h) = WaitsTold.late w row settled.Cancelled None admits (of_admits w.channel admits h None)
given_up w row _ (GivesUp.late_undelivered v admits h) =
    WaitsTold.late w row (settled.Undelivered v) None admits (of_admits w.channel admits h None)

-- ---- moves

from : (x : Config) (s : Stage) (g : List Told) (o : Option WaitId) → x.stage ≡ s → WaitsTold (wait_of s) g o
    → WaitsTold (wait_of x.stage) g o
from x s g o e h = subst (λ u. WaitsTold (wait_of u) g o) (sym e) h

to : (o o' o'' : Option WaitId) (g : List Told) → o'' ≡ o' → WaitsTold o g o' → WaitsTold o g o''
to o o' o'' g e h = subst (λ u. WaitsTold o g u) (sym e) h

pub move_told : (p : Program) (k : ℕ) (x y : Config) (g : List Told) → Move p k x g y → WaitsTold (wait_of x.stage) g (wait_of y.stage)
move_told p k _ _ _ (Move.runs x s) = from x stage.Fresh _ None s (one _ refl None)
move_told p k _ _ _ (Move.never_runs x s) = from x stage.Fresh _ None s (one _ refl None)
move_told p k _ _ _ (Move.calls x y i g a s h f) =
    to _ _ _ g (after_answer p k x i a y (λ e. ap wait_of s.stage) f)
    (from x stage.Running g (wait_by a) s.stage (line_leaves p k x i g a h))
move_told p k _ _ _ (Move.resumes x y w i outcome a s l r f) =
    let b = resumed_by outcome a r in
    to _ _ _ _ (after_answer p k x i a y (λ e. absurd (resumed_not outcome a r e)) f
    ∙ b.0) (from x (stage.Waiting w) _ None s (WaitsTold.other (Some w) None _ _ refl (WaitsTold.other (Some w) None _ _ refl
    (WaitsTold.ends w outcome None [] b.1 (WaitsTold.none None)))))
move_told p k _ _ _ (Move.cancelled x w s) = from x (stage.Waiting w) _ None s (WaitsTold.taken_back w None [] (WaitsTold.none None))
move_told p k _ _ _ (Move.gives_up x w g s h) = from x (stage.Waiting w) _ None s (given_up w (innermost k x) g h)
move_told p k _ _ _ (Move.sees_job x y job row end s l n f) =
    to _ _ _ _ (after_await x end y f) (from x stage.SeesJob _ None s (one _ refl None))
move_told p k _ _ _ (Move.closes x c g s h) = from x stage.Running g None s.stage (of_closes c 0 g h None)
move_told p k _ _ _ (Move.cancels_channel x c g s h) = from x stage.Running g None s.stage (of_cancels c g h None)
move_told p k _ _ _ (Move.yields x s) = from x stage.Running _ None s.stage (one _ refl None)
move_told p k _ _ _ (Move.stops_at_yield x s) = from x stage.Running _ None s.stage (one _ refl None)
move_told p k _ _ _ (Move.stops_at_join x job s) = from x stage.Running _ None s.stage (one _ refl None)
move_told p k _ _ _ (Move.launches x block how job now s) = from x stage.Running _ None s.stage (one _ refl None)
move_told p k _ _ _ (Move.launch_refused x block how job g s h) = from x stage.Running g None s.stage (of_refusal _ _ g h None)
move_told p k _ _ _ (Move.enters x supervisor row now s) = from x stage.Running _ None s.stage (one _ refl None)
move_told p k _ _ _ (Move.enter_refused x supervisor g s h) = from x stage.Running g None s.stage (of_refusal _ _ g h None)
move_told p k _ _ _ (Move.starts x job row g s n h) = from x stage.Running g None s.stage (of_starts row g h None)
move_told p k _ _ _ (Move.cancels x job row newly g s n h) = from x stage.Running g None s.stage (of_passes row _ newly g h None)
move_told p k _ _ _ (Move.fails x v s) = from x stage.Running _ None s.stage (one _ refl None)
move_told p k _ _ _ (Move.results x o s) = from x stage.Running _ None s.stage (nothing None)
move_told p k _ _ _ (Move.repeats x n s) = from x stage.Running _ None s.stage (nothing None)
move_told p k _ _ _ (Move.turns_again x head n es s e) = from x stage.Running _ None s.stage (nothing None)
move_told p k _ _ _ (Move.turns_no_more x head es s e) = from x stage.Running _ None s.stage (nothing None)
move_told p k _ _ _ (Move.receives_again x head es s e) = from x stage.Running _ None s.stage (nothing None)
move_told p k _ _ _ (Move.ends_scope x y s end g all a l e h c f q) =
    to _ _ _ _ (at_scope_end k x s a y f) (from x stage.Running all (wait_by a) l.stage
    (subst (λ u. WaitsTold None u (wait_by a)) (sym q) (told_then None None (wait_by a) end g (of_end _ s.row 0 end h None)
    (plain_leaves _ g a c))))
move_told p k _ _ _ (Move.scope_ended x w n v s) = from x (stage.Leaving w) _ None s
    (WaitsTold.ends w (settled.Closed n v) None [] refl (WaitsTold.none None))
move_told p k _ _ _ (Move.sees_scope x y s end l e f) =
    to _ _ _ _ (after_scope p k x s end y f) (from x stage.SeesScope _ None l (one _ refl None))
move_told p k _ _ _ (Move.breaks_scope x y s failure break g all a l e h c f q) =
    to _ _ _ _ (at_scope_end k x s a y f) (from x (stage.Unwinding failure) all (wait_by a) l
    (subst (λ u. WaitsTold None u (wait_by a)) (sym q) (told_then None None (wait_by a) break g (of_off _ k s.row failure break h None)
    (plain_leaves _ g a c))))
move_told p k _ _ _ (Move.breaks x failure g s e h) = from x (stage.Unwinding failure) g None s (of_off _ k k failure g h None)
move_told p k _ _ _ (Move.ends x g s e h) = from x stage.Running g None s (of_end _ k x.result g h None)

spawn_told : (p : Program) (blocks : List ℕ) (x y : Config) (g : List Told) → wait_of x.stage ≡ None → Spawns p blocks x g y
    → WaitsTold None g (wait_of y.stage)
spawn_told p _ _ _ _ n (Spawns.done x) = to _ _ _ [] n (WaitsTold.none None)
spawn_told p _ _ _ _ n (Spawns.attaches block blocks x y now rest h) = WaitsTold.other None _ _ rest refl (spawn_told p blocks _ y rest n h)
spawn_told p _ _ _ _ n (Spawns.refused block blocks x g h) = of_refusal _ _ g h None

begin_told : (p : Program) (k : ℕ) (g : List Told) (x : Config) → Begins p k g x → WaitsTold None g (wait_of x.stage)
begin_told p _ _ _ (Begins.root g x h) = spawn_told p (spawned p) _ x g refl h
begin_told p _ _ _ (Begins.child k n) = WaitsTold.none None

-- in all that a coroutine tells, from its beginning
pub all_told : (p : Program) (k : ℕ) (told : List Told) (x : Config) → Reaches p k told x → WaitsTold None told (wait_of x.stage)
all_told p k _ _ (Reaches.begins g x h) = begin_told p k g x h
all_told p k _ _ (Reaches.goes_on before g all x y r m e) =
    subst (λ l. WaitsTold None l (wait_of y.stage)) (sym e)
    (told_then None (wait_of x.stage) (wait_of y.stage) before g (all_told p k before x r) (move_told p k x y g m))
