-- In all that a coroutine tells, each act on a channel is followed by what takes away what it may leave owed.
use Rattle.std.proofs.Common.{◌≡◌, ℕ, Bool, true, false, List, [], ◌∷◌, ◌++◌, refl, ap, sym, ◌∙◌, subst, inl, inr, ◌⊎◌, ⊎_elim, append_assoc, Option, Some, None}
use Rattle.std.specs.Prelude.{map, ◌+◌}
use Rattle.channel_model.specs.declared.acts.Act.{Act}
use Rattle.channel_model.specs.declared.acts.Act.TheVariants.{Hand, Put, Offer, Take, Admit, Drop, Spurn, Close, Void, Drain, WakeClosed}
use Rattle.channel_model.specs.declared.acts.ChannelNote.{ChannelNote}
use Rattle.channel_model.specs.declared.acts.ChannelNote.TheVariants as of_channel
use Rattle.job_model.specs.declared.acts.JobAct.{JobAct}
use Rattle.job_model.specs.Cancels.{own_cancel}
use Rattle.note_book.specs.declared.book.Item.{Item}
use Rattle.note_book.specs.declared.book.Item.TheVariants as item
use Rattle.call_meaning.specs.Telling.{Told, note, on_channels, NextIs, NoneToAdmit, FitsUpTo, StandsWithRoom, NoReceiver, NothingQueued, IsVoided, did, made, heard}
use Rattle.call_meaning.specs.ChannelCalls.{Call, sends, receives, Answer, PlainCall, TryCall, SelectCall, Admits, Drops, Spurns, Overflows, Wakes, Drains, Closes, CancelsChannel, AtOnce, Refused, TryRefused, blocked, spent, EndsAtOnce, Places, AdmitsIn, GivesUp, Stops, wait_at, revoked}
use Rattle.call_meaning.specs.JobCalls.{NotAttached, Starts, Passes, Breaks, Chain, EndsBody, BreaksOff}
use Rattle.script_grammar.specs.Programs.{Program}
use Rattle.script_grammar.specs.Tags.{spawned}
use Rattle.script_meaning.specs.Configs.{Config}
use Rattle.script_meaning.specs.Moves.{Move}
use Rattle.script_meaning.specs.Lines.{LineCalls, StartsAndReceives}
use Rattle.script_meaning.specs.Books.{Spawns, Begins, Reaches}
use Rattle.script_meaning.specs.Shapes.{base_of}
use Rattle.script_meaning.proofs.Debts.{Exists, exists_first, exists_left, exists_right}

abbrev pub act_in_note : ChannelNote → Option Act
act_in_note (of_channel.Made act) = Some act
act_in_note (of_channel.SendClosed c value v) = None
act_in_note other = None

abbrev pub act_in_item : Item → Option Act
act_in_item (item.Channel n) = act_in_note n
act_in_item (item.Job n) = None

abbrev pub call_told : Told → Option Act
call_told (note i) = act_in_item i
call_told other = None

-- acts after which nothing new is owed, wherever they come
abbrev pub is_plain : Act → Bool
is_plain (Put c q v) = false
is_plain (Offer c q v w n) = false
is_plain (Take c q v) = false
is_plain (Drop c q v) = false
is_plain (Close c v) = false
is_plain (Void c) = false
is_plain (Drain c q v) = false
is_plain other = true

abbrev pub is_still : Option Act → Bool
is_still None = true
is_still (Some a) = is_plain a

unfoldable pub IsQuiet : List Told → Type 0
IsQuiet [] = Unit {0}
IsQuiet (t ∷ ts) = (is_still (call_told t) ≡ true) × IsQuiet ts

pub quiet_then : (xs ys : List Told) → IsQuiet xs → IsQuiet ys → IsQuiet (xs ++ ys)
unfolding IsQuiet
quiet_then [] ys a b = b
quiet_then (x ∷ xs) ys a b = (a.0, quiet_then xs ys a.1 b)

pub quiet_map : {A : Type 0} (f : A → Told) (xs : List A) → ((x : A) → is_still (call_told (f x)) ≡ true) → IsQuiet (map f xs)
unfolding IsQuiet
quiet_map f [] h = tt
quiet_map f (x ∷ xs) h = (h x, quiet_map f xs h)

one : (t : Told) → is_still (call_told t) ≡ true → IsQuiet (t ∷ [])
unfolding IsQuiet
one t h = (h, tt)

cons : (t : Told) (ts : List Told) → is_still (call_told t) ≡ true → IsQuiet ts → IsQuiet (t ∷ ts)
unfolding IsQuiet
cons t ts h k = (h, k)

-- ---- what stands behind an act

abbrev pub IsTold : Told → Told → Type 0
IsTold t u = u ≡ t

-- a mark of the channel, and later that no offer below it is to be admitted
unfoldable pub HasAdmits : ℕ → List Told → Type 0
HasAdmits c [] = ⊥
HasAdmits c (t ∷ ts) = ((m : ℕ) × (t ≡ on_channels (NextIs c m)) × Exists (IsTold (on_channels (NoneToAdmit c m))) ts) ⊎ HasAdmits c ts

pub admits_right : (c : ℕ) (xs ys : List Told) → HasAdmits c ys → HasAdmits c (xs ++ ys)
unfolding HasAdmits
admits_right c [] ys h = h
admits_right c (x ∷ xs) ys h = inr (admits_right c xs ys h)

pub admits_left : (c : ℕ) (xs ys : List Told) → HasAdmits c xs → HasAdmits c (xs ++ ys)
unfolding HasAdmits
admits_left c [] ys h = absurd h
admits_left c (x ∷ xs) ys h = ⊎_elim (λ (a : (m : ℕ) × (x ≡ on_channels (NextIs c m))
    × Exists (IsTold (on_channels (NoneToAdmit c m))) xs). inl (a.0, a.1, exists_left (IsTold (on_channels (NoneToAdmit c a.0))) xs ys a.2))
    (λ (b : HasAdmits c xs). inr (admits_left c xs ys b)) h

-- the element that was put at this place was found to fit before it, or is gone
abbrev pub IsSpurned : ℕ → ℕ → Told → Type 0
IsSpurned c q t = (t ≡ on_channels (StandsWithRoom c q)) ⊎ ((v : ℕ) × (t ≡ made (Spurn c q v)))

abbrev pub Follows : Act → List Told → Type 0
Follows (Put c q v) ts = Exists (IsTold (on_channels (FitsUpTo c q))) ts × Exists (IsSpurned c q) ts
Follows (Offer c q v w n) ts = HasAdmits c ts
Follows (Take c q v) ts = HasAdmits c ts
Follows (Close c v) ts = Exists (IsTold (on_channels (NoReceiver c))) ts
Follows (Void c) ts = Exists (IsTold (on_channels (NothingQueued c))) ts
Follows (Drain c q v) ts = Exists (IsTold (on_channels (NothingQueued c))) ts
Follows (Hand c q v) ts = Unit {0}
Follows other ts = Unit {0}

abbrev pub IsFollowed : Option Act → List Told → Type 0
IsFollowed None ts = Unit {0}
IsFollowed (Some a) ts = Follows a ts

unfoldable pub AllFollowed : List Told → Type 0
AllFollowed [] = Unit {0}
AllFollowed (t ∷ ts) = IsFollowed (call_told t) ts × AllFollowed ts

follows_left : (a : Act) (xs ys : List Told) → Follows a xs → Follows a (xs ++ ys)
follows_left (Put c q v) xs ys h = (exists_left (IsTold (on_channels (FitsUpTo c q))) xs ys h.0, exists_left (IsSpurned c q) xs ys h.1)
follows_left (Offer c q v w n) xs ys h = admits_left c xs ys h
follows_left (Take c q v) xs ys h = admits_left c xs ys h
follows_left (Close c v) xs ys h = exists_left (IsTold (on_channels (NoReceiver c))) xs ys h
follows_left (Void c) xs ys h = exists_left (IsTold (on_channels (NothingQueued c))) xs ys h
follows_left (Drain c q v) xs ys h = exists_left (IsTold (on_channels (NothingQueued c))) xs ys h
follows_left (Hand c q v) xs ys h = tt
follows_left other xs ys h = tt

pub followed_then : (xs ys : List Told) → AllFollowed xs → AllFollowed ys → AllFollowed (xs ++ ys)
unfolding AllFollowed
followed_then [] ys a b = b
followed_then (x ∷ xs) ys a b = (at (call_told x) a.0, followed_then xs ys a.1 b)
  where
    at : (o : Option Act) → IsFollowed o xs → IsFollowed o (xs ++ ys)
    at None h = tt
    at (Some act) h = follows_left act xs ys h

plain_followed : (a : Act) (ts : List Told) → is_plain a ≡ true → Follows a ts
plain_followed (Put c q v) ts h = cc
plain_followed (Offer c q v w n) ts h = cc
plain_followed (Take c q v) ts h = cc
plain_followed (Close c v) ts h = cc
plain_followed (Void c) ts h = cc
plain_followed (Drain c q v) ts h = cc
plain_followed (Hand c q v) ts h = tt
plain_followed other ts h = tt

still_followed : (o : Option Act) (ts : List Told) → is_still o ≡ true → IsFollowed o ts
still_followed None ts h = tt
still_followed (Some a) ts h = plain_followed a ts h

pub quiet_followed : (ts : List Told) → IsQuiet ts → AllFollowed ts
unfolding IsQuiet AllFollowed
quiet_followed [] h = tt
quiet_followed (t ∷ ts) h = (still_followed (call_told t) ts h.0, quiet_followed ts h.1)

front : (t : Told) (ts : List Told) → IsFollowed (call_told t) ts → AllFollowed ts → AllFollowed (t ∷ ts)
unfolding AllFollowed
front t ts h k = (h, k)

-- a told thing that is no act, or one after which nothing new is owed
still : (t : Told) (ts : List Told) → is_still (call_told t) ≡ true → AllFollowed ts → AllFollowed (t ∷ ts)
still t ts h k = front t ts (still_followed (call_told t) ts h) k

lone : (t : Told) → is_still (call_told t) ≡ true → AllFollowed (t ∷ [])
lone t h = quiet_followed (t ∷ []) (one t h)

-- ---- the parts of calls

last_of : (t : Told) (xs : List Told) → Exists (IsTold t) (xs ++ t ∷ [])
last_of t xs = exists_right (IsTold t) xs (t ∷ []) (exists_first (IsTold t) t [] refl)

admits_quiet : (c : ℕ) (g : List Told) → Admits c g → AllFollowed g
admits_quiet c g h = subst AllFollowed (sym h.all) (quiet_followed _
    (cons _ _ refl (quiet_then (map (λ q. made (Admit c q)) h.places) _ (quiet_map (λ q. made (Admit c q)) h.places (λ q. refl))
    (one _ refl))))

admits_has : (c : ℕ) (g : List Told) → Admits c g → HasAdmits c g
unfolding HasAdmits
admits_has c g h = subst (HasAdmits c) (sym h.all) (inl
    (h.mark, refl, last_of (on_channels (NoneToAdmit c h.mark)) (map (λ q. made (Admit c q)) h.places)))

drops_followed : (c q : ℕ) (g : List Told) → Drops c q g → AllFollowed g
drops_followed c q g h = subst AllFollowed (sym h.all) (all h.dropped)
  where
    all : (ds : List (ℕ × ℕ)) → AllFollowed (map (λ d. made (Drop c d.0 d.1)) ds ++ on_channels (FitsUpTo c q) ∷ [])
    all [] = lone _ refl
    all (d ∷ ds) = front _ _ tt (all ds)

drops_has : (c q : ℕ) (g : List Told) → Drops c q g → Exists (IsTold (on_channels (FitsUpTo c q))) g
drops_has c q g h = subst (Exists (IsTold (on_channels (FitsUpTo c q)))) (sym h.all)
    (last_of _ (map (λ d. made (Drop c d.0 d.1)) h.dropped))

spurns_followed : (c q : ℕ) (g : List Told) → Spurns c q g → AllFollowed g
spurns_followed c q _ (Spurns.gone v) = lone _ refl
spurns_followed c q _ Spurns.stays = lone _ refl

spurns_has : (c q : ℕ) (g : List Told) → Spurns c q g → Exists (IsSpurned c q) g
spurns_has c q _ (Spurns.gone v) = exists_first (IsSpurned c q) _ [] (inr (v, refl))
spurns_has c q _ Spurns.stays = exists_first (IsSpurned c q) _ [] (inl refl)

overflows_followed : (c q : ℕ) (g : List Told) → Overflows c q g → AllFollowed g
overflows_followed c q g h = subst AllFollowed (sym h.all)
    (followed_then h.drops h.spurns (drops_followed c q h.drops h.dropped) (spurns_followed c q h.spurns h.spurned))

overflows_has : (c q v : ℕ) (g : List Told) → Overflows c q g → Follows (Put c q v) g
overflows_has c q v g h =
    subst (Follows (Put c q v)) (sym h.all) (
      exists_left (IsTold (on_channels (FitsUpTo c q))) h.drops h.spurns (drops_has c q h.drops h.dropped),
      exists_right (IsSpurned c q) h.drops h.spurns (spurns_has c q h.spurns h.spurned),
    )

wakes_followed : (c : ℕ) (g : List Told) → Wakes c g → AllFollowed g
wakes_followed c g h = subst AllFollowed (sym h.all) (quiet_followed _
    (quiet_then (map (λ q. made (WakeClosed c q)) h.places) _ (quiet_map (λ q. made (WakeClosed c q)) h.places (λ q. refl)) (one _ refl)))

wakes_has : (c : ℕ) (g : List Told) → Wakes c g → Exists (IsTold (on_channels (NoReceiver c))) g
wakes_has c g h = subst (Exists (IsTold (on_channels (NoReceiver c)))) (sym h.all) (last_of _ (map (λ q. made (WakeClosed c q)) h.places))

drains_has : (c : ℕ) (ds : List (ℕ × ℕ)) → Exists (IsTold (on_channels (NothingQueued c))) (map (λ d. made (Drain c d.0 d.1)) ds
    ++ on_channels (NothingQueued c) ∷ on_channels (IsVoided c) ∷ [])
drains_has c ds = exists_right (IsTold (on_channels (NothingQueued c))) (map (λ d. made (Drain c d.0 d.1)) ds) _
    (exists_first (IsTold (on_channels (NothingQueued c))) _ _ refl)

drains_followed : (c : ℕ) (g : List Told) → Drains c g → AllFollowed g
drains_followed c g h = subst AllFollowed (sym h.all) (all h.drained)
  where
    all : (ds : List (ℕ × ℕ)) → AllFollowed (map (λ d. made (Drain c d.0 d.1)) ds
        ++ on_channels (NothingQueued c) ∷ on_channels (IsVoided c) ∷ [])
    all [] = still _ _ refl (lone _ refl)
    all (d ∷ ds) = front _ _ (drains_has c ds) (all ds)

closes_followed : (c v : ℕ) (g : List Told) → Closes c v g → AllFollowed g
closes_followed c v _ (Closes.now wakes w) = front _ wakes (wakes_has c wakes w) (wakes_followed c wakes w)
closes_followed c v _ (Closes.before u wakes w) = still _ wakes refl (wakes_followed c wakes w)

cancels_followed : (c : ℕ) (g : List Told) → CancelsChannel c g → AllFollowed g
cancels_followed c g (CancelsChannel.now closes drains _ a d e) =
    subst AllFollowed (sym e) (followed_then closes _ (closes_followed c 0 closes a)
    (front (made (Void c)) drains (subst (Exists (IsTold (on_channels (NothingQueued c)))) (sym d.all) (drains_has c d.drained))
    (drains_followed c drains d)))
cancels_followed c g (CancelsChannel.before closes drains _ a d e) =
    subst AllFollowed (sym e) (followed_then closes drains (closes_followed c 0 closes a) (drains_followed c drains d))

at_once_followed : (call : Call) (g : List Told) (a : Answer) → AtOnce call g a → AllFollowed g
at_once_followed _ _ _ (AtOnce.hands c v q) = lone _ refl
at_once_followed _ _ _ (AtOnce.puts c v q more d) = front _ more (overflows_has c q v more d) (overflows_followed c q more d)
at_once_followed _ _ _ (AtOnce.takes c v q admits d) = front _ admits (admits_has c admits d) (admits_quiet c admits d)

refused_still : (call : Call) (t : Told) (a : Answer) → Refused call t a → is_still (call_told t) ≡ true
refused_still _ _ _ (Refused.send c v u) = refl
refused_still _ _ _ (Refused.receive c u) = refl

try_refused_still : (call : Call) (t : Told) → TryRefused call t → is_still (call_told t) ≡ true
try_refused_still _ _ (TryRefused.send c v u) = refl
try_refused_still _ _ (TryRefused.receive c u) = refl

blocked_still : (call : Call) → is_still (call_told (blocked call)) ≡ true
blocked_still (sends c v) = refl
blocked_still (receives c) = refl

spent_followed : (call : Call) → AllFollowed (spent call)
spent_followed (sends c v) = still _ _ refl (lone _ refl)
spent_followed (receives c) = still _ _ refl (lone _ refl)

ends_followed : (w : _) (g : List Told) → EndsAtOnce w g → AllFollowed g
ends_followed w _ EndsAtOnce.sent = lone _ refl
ends_followed w _ EndsAtOnce.voided = still _ _ refl (lone _ refl)

plain_call_followed : (call : Call) (g : List Told) (a : Answer) → PlainCall call g a → AllFollowed g
plain_call_followed _ _ _ (PlainCall.at_once call g a h) = at_once_followed call g a h
plain_call_followed _ _ _ (PlainCall.refused call t a h) = lone t (refused_still call t a h)
plain_call_followed _ _ _ (PlainCall.no_place call all e) = subst AllFollowed (sym e) (spent_followed call)
plain_call_followed _ _ _ (PlainCall.offers c v q admits h) =
    still _ _ refl (front _ admits (admits_has c admits h) (admits_quiet c admits h))
plain_call_followed _ _ _ (PlainCall.offer_ends c v q admits settles all h s e) =
    subst AllFollowed (sym e) (still _ _ refl (front _ (admits
    ++ settles) (admits_left c admits settles (admits_has c admits h))
    (followed_then admits settles (admits_quiet c admits h) (ends_followed (wait_at c q) settles s))))
plain_call_followed _ _ _ (PlainCall.awaits c q) = lone _ refl

try_followed : (call : Call) (g : List Told) (a : Answer) → TryCall call g a → AllFollowed g
try_followed _ _ _ (TryCall.at_once call g a h) = at_once_followed call g a h
try_followed _ _ _ (TryCall.refused call t h) = lone t (try_refused_still call t h)
try_followed _ _ _ (TryCall.blocks call) = lone _ (blocked_still call)
try_followed _ _ _ (TryCall.no_place c v) = spent_followed (sends c v)

admits_in_followed : (calls : List Call) (g : List Told) → AdmitsIn calls g → AllFollowed g
unfolding AllFollowed
admits_in_followed _ _ AdmitsIn.none = tt
admits_in_followed _ _ (AdmitsIn.offered c v calls admits later all a h e) =
    subst AllFollowed (sym e) (followed_then admits later (admits_quiet c admits a) (admits_in_followed calls later h))
admits_in_followed _ _ (AdmitsIn.awaited c calls all h) = admits_in_followed calls all h

-- clauses that are placed, each of which is admitted behind all that stands between
places_followed : (w : _) (n : ℕ) (calls : List Call) (g between admits : List Told) → Places w n calls g → AdmitsIn calls admits
    → AllFollowed (between ++ admits) → AllFollowed (g ++ (between ++ admits))
places_followed w _ _ _ between admits (Places.none n) a h = h
places_followed w _ _ _ between admits (Places.one n q (receives c) calls later p) (AdmitsIn.awaited _ _ _ a) h =
    still _ _ refl (places_followed w _ calls later between admits p a h)
places_followed w _ _ _ between admits (Places.one n q (sends c v) calls later p) (AdmitsIn.offered _ _ _ mine others _ a d e) h =
    let apart : AllFollowed ((between ++ mine) ++ others) =
    subst AllFollowed (sym (append_assoc between mine others)) (subst (λ l. AllFollowed (between ++ l)) e h) in
    let all : AllFollowed (later ++ ((between ++ mine) ++ others)) =
    places_followed w (n + 1) calls later (between ++ mine) others p d apart in
    front _ _ (admits_right c later _ (admits_right c between admits
    (subst (HasAdmits c) (sym e) (admits_left c mine others (admits_has c mine a)))))
    (subst (λ l. AllFollowed (later ++ (between ++ l))) (sym e)
    (subst (λ l. AllFollowed (later ++ l)) (append_assoc between mine others) all))

stops_followed : (call : Call) (g : List Told) (a : Answer) → Stops call g a → AllFollowed g
stops_followed _ _ _ (Stops.closed call t a h) = lone t (refused_still call t a h)
stops_followed _ _ _ (Stops.no_place call all e) = subst AllFollowed (sym e) (spent_followed call)
stops_followed _ _ _ other = still _ _ refl (lone _ refl)

passed : (calls : List Call) → AllFollowed (map blocked calls)
passed calls = quiet_followed _ (quiet_map blocked calls blocked_still)

select_followed : (calls : List Call) (g : List Told) (a : Answer) → SelectCall calls g a → AllFollowed g
select_followed calls _ _ (SelectCall.chooses before later call group all a f h e) =
    subst AllFollowed (sym e) (followed_then (map blocked before) group (passed before) (at_once_followed call group a h))
select_followed calls _ _ (SelectCall.meets_close before later call t all a f h e) =
    subst AllFollowed (sym e) (followed_then (map blocked before) _ (passed before) (lone t (refused_still call t a h)))
select_followed calls _ _ (SelectCall.no_place before later c v all f e) =
    subst AllFollowed (sym e) (followed_then (map blocked before) _ (passed before) (spent_followed (sends c v)))
select_followed calls _ _ (SelectCall.waits w group admits all h d e) =
    subst AllFollowed (sym e) (followed_then (map blocked calls) _ (passed calls)
    (places_followed w 1 calls group [] admits h.places d (admits_in_followed calls admits d)))
select_followed calls _ _ (SelectCall.resolved w before later call group admits all f h d e) =
    subst AllFollowed (sym e) (followed_then (map blocked calls) _ (passed calls)
    (places_followed w 1 before group (_ ∷ []) admits h.places d (still _ admits refl (admits_in_followed before admits d))))
select_followed calls _ _ (SelectCall.stops_at_first later call stop all a f h e) =
    subst AllFollowed (sym e) (followed_then (map blocked calls) stop (passed calls) (stops_followed call stop a h))
select_followed calls _ _ (SelectCall.stops w before later call group stop admits all a f h s d e) =
    let body : AllFollowed (group ++ ((stop ++ revoked w) ++ admits)) =
    places_followed w 1 before group (stop ++ revoked w) admits h.places d
    (followed_then (stop ++ revoked w) admits (followed_then stop (revoked w) (stops_followed call stop a s)
    (still _ _ refl (lone _ refl))) (admits_in_followed before admits d)) in
    subst AllFollowed (sym e) (followed_then (map blocked calls) _ (passed calls)
    (subst AllFollowed (sym (append_assoc group (stop ++ revoked w) admits)
    ∙ ap (λ l. l ++ admits) (sym (append_assoc group stop (revoked w)))) body))
select_followed calls _ _ (SelectCall.stops_late w before later call group stop admits all a f h s d e) =
    let body : AllFollowed (group ++ ((stop ++ heard (of_channel.Late w) ∷ []) ++ admits)) =
    places_followed w 1 before group (stop ++ heard (of_channel.Late w) ∷ []) admits h.places d
    (followed_then (stop ++ heard (of_channel.Late w) ∷ []) admits
    (followed_then stop (heard (of_channel.Late w) ∷ []) (stops_followed call stop a s) (lone _ refl))
    (admits_in_followed before admits d)) in
    subst AllFollowed (sym e) (followed_then (map blocked calls) _ (passed calls)
    (subst AllFollowed (ap (λ l. group ++ l) (append_assoc stop (heard (of_channel.Late w) ∷ []) admits)
    ∙ sym (append_assoc group stop (heard (of_channel.Late w) ∷ admits))) body))

gives_up_followed : (w : _) (g : List Told) → GivesUp w g → AllFollowed g
gives_up_followed w _ (GivesUp.withdrawn admits h) = still _ _ refl (still _ admits refl (admits_quiet _ admits h))
gives_up_followed w _ (GivesUp.late admits h) = still _ _ refl (still _ admits refl (admits_quiet _ admits h))
gives_up_followed w _ (GivesUp.late_undelivered v admits h) = still _ _ refl (still _ admits refl (admits_quiet _ admits h))
gives_up_followed w _ other = lone _ refl

-- ---- Jobs say nothing of channels but their done ones

nothing : AllFollowed []
unfolding AllFollowed
nothing = tt

deeds_followed : (acts : List JobAct) (t : Told) → is_still (call_told t) ≡ true → AllFollowed (map did acts ++ t ∷ [])
deeds_followed [] t h = lone t h
deeds_followed (a ∷ acts) t h = still _ _ refl (deeds_followed acts t h)

refusal_followed : (parent : ℕ) (b : Bool) (g : List Told) → NotAttached parent b g → AllFollowed g
refusal_followed parent _ _ (NotAttached.parent_ended b) = still _ _ refl (lone _ refl)
refusal_followed parent _ _ other = lone _ refl

starts_followed : (row : ℕ) (g : List Told) → Starts row g → AllFollowed g
starts_followed row _ Starts.now = still _ _ refl (lone _ refl)
starts_followed row _ Starts.before = lone _ refl

passes_followed : (row : ℕ) (reason : _) (newly : Bool) (g : List Told) → Passes row reason newly g → AllFollowed g
passes_followed row reason newly g h = subst AllFollowed (sym h.all) (deeds_followed (own_cancel newly row reason ++ h.below) _ refl)

breaks_followed : (k row : ℕ) (failure : Option ℕ) (g : List Told) → Breaks k row failure g → AllFollowed g
breaks_followed k row _ _ (Breaks.seen failure) = nothing
breaks_followed k row _ _ (Breaks.had_been failure g h) = passes_followed row _ false g h
breaks_followed k row _ _ (Breaks.asked g h) = passes_followed row _ true g h
breaks_followed k row _ _ (Breaks.scope_fails f g n h) = passes_followed row _ true g h
breaks_followed k row _ _ (Breaks.fails f up pass all e h q) =
    subst AllFollowed (sym q) (followed_then pass _ (passes_followed row _ true pass h) (deeds_followed up _ refl))

chain_followed : (p : Program) (row : ℕ) (g : List Told) → Chain (base_of p) row g → AllFollowed g
chain_followed p _ _ (Chain.stops row) = lone _ refl
chain_followed p _ _ (Chain.root end closes c) = still _ closes refl (closes_followed _ _ closes c)
chain_followed p row g (Chain.goes_up _ parent end closes rest _ n c up e) =
    subst AllFollowed (sym e) (still _ _ refl (followed_then closes _ (closes_followed _ _ closes c)
    (still _ _ refl (still _ rest refl (chain_followed p parent rest up)))))

end_followed : (p : Program) (row v : ℕ) (g : List Told) → EndsBody (base_of p) row v g → AllFollowed g
end_followed p row v _ (EndsBody.ends_body chain c) = still _ chain refl (chain_followed p row chain c)

off_followed : (p : Program) (k row : ℕ) (failure : Option ℕ) (g : List Told) → BreaksOff (base_of p) k row failure g → AllFollowed g
off_followed p k row failure g h = subst AllFollowed (sym h.all)
    (followed_then h.cancels _ (breaks_followed k row failure h.cancels h.breaks) (still _ h.end refl (end_followed p row 0 h.end h.ends)))

both_followed : (p : Program) (row : ℕ) (g : List Told) (a : Answer) → StartsAndReceives p row g a → AllFollowed g
both_followed p row g a (StartsAndReceives.both starts group _ _ s c e) =
    subst AllFollowed (sym e) (followed_then starts group (starts_followed row starts s) (plain_call_followed _ group a c))

line_followed : (p : Program) (k : ℕ) (x : Config) (i : _) (g : List Told) (a : Answer) → LineCalls p k x i g a → AllFollowed g
line_followed p k x _ _ _ (LineCalls.send c o g a h) = plain_call_followed _ g a h
line_followed p k x _ _ _ (LineCalls.receive c g a h) = plain_call_followed _ g a h
line_followed p k x _ _ _ (LineCalls.each c g a h) = plain_call_followed _ g a h
line_followed p k x _ _ _ (LineCalls.trysend c o g a h) = try_followed _ g a h
line_followed p k x _ _ _ (LineCalls.tryreceive c g a h) = try_followed _ g a h
line_followed p k x _ _ _ (LineCalls.select g a h) = select_followed _ g a h
line_followed p k x _ _ _ (LineCalls.join job row g a n h) = still _ g refl (both_followed p row g a h)
line_followed p k x _ _ _ (LineCalls.await job row g a n h) = both_followed p row g a h

pub move_followed : (p : Program) (k : ℕ) (x y : Config) (g : List Told) → Move p k x g y → AllFollowed g
move_followed p k _ _ _ (Move.calls x y i g a s h f) = line_followed p k x i g a h
move_followed p k _ _ _ (Move.resumes x y w i outcome a s l r f) = still _ _ refl (still _ _ refl (lone _ refl))
move_followed p k _ _ _ (Move.cancelled x w s) = still _ _ refl (lone _ refl)
move_followed p k _ _ _ (Move.gives_up x w g s h) = still _ g refl (gives_up_followed w g h)
move_followed p k _ _ _ (Move.closes x c g s h) = closes_followed c 0 g h
move_followed p k _ _ _ (Move.cancels_channel x c g s h) = cancels_followed c g h
move_followed p k _ _ _ (Move.launch_refused x block how job g s h) = refusal_followed _ _ g h
move_followed p k _ _ _ (Move.enter_refused x supervisor g s h) = refusal_followed _ _ g h
move_followed p k _ _ _ (Move.starts x job row g s n h) = starts_followed row g h
move_followed p k _ _ _ (Move.cancels x job row newly g s n h) = passes_followed row _ newly g h
move_followed p k _ _ _ (Move.results x o s) = nothing
move_followed p k _ _ _ (Move.repeats x n s) = nothing
move_followed p k _ _ _ (Move.turns_again x head n es s e) = nothing
move_followed p k _ _ _ (Move.turns_no_more x head es s e) = nothing
move_followed p k _ _ _ (Move.receives_again x head es s e) = nothing
move_followed p k _ _ _ (Move.ends_scope x y s end g all a l e h c f q) =
    subst AllFollowed (sym q) (followed_then end g (end_followed p s.row 0 end h) (plain_call_followed _ g a c))
move_followed p k _ _ _ (Move.breaks_scope x y s failure break g all a l e h c f q) =
    subst AllFollowed (sym q) (followed_then break g (off_followed p k s.row failure break h) (plain_call_followed _ g a c))
move_followed p k _ _ _ (Move.breaks x failure g s e h) = off_followed p k k failure g h
move_followed p k _ _ _ (Move.ends x g s e h) = end_followed p k x.result g h
move_followed p k _ _ _ other = lone _ refl

spawn_followed : (p : Program) (blocks : List ℕ) (x y : Config) (g : List Told) → Spawns p blocks x g y → AllFollowed g
spawn_followed p _ _ _ _ (Spawns.done x) = nothing
spawn_followed p _ _ _ _ (Spawns.attaches block blocks x y now rest h) = still _ rest refl (spawn_followed p blocks _ y rest h)
spawn_followed p _ _ _ _ (Spawns.refused block blocks x g h) = refusal_followed _ _ g h

begin_followed : (p : Program) (k : ℕ) (g : List Told) (x : Config) → Begins p k g x → AllFollowed g
begin_followed p _ _ _ (Begins.root g x h) = spawn_followed p (spawned p) _ x g h
begin_followed p _ _ _ (Begins.child k n) = nothing

-- in all that a coroutine tells, from its beginning, each act is followed by what takes away what it may leave owed
pub all_followed : (p : Program) (k : ℕ) (told : List Told) (x : Config) → Reaches p k told x → AllFollowed told
all_followed p k _ _ (Reaches.begins g x h) = begin_followed p k g x h
all_followed p k _ _ (Reaches.goes_on before g all x y r m e) =
    subst AllFollowed (sym e) (followed_then before g (all_followed p k before x r) (move_followed p k x y g m))
