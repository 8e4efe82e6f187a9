-- Which calls attach a Job, or are refused one: none but those of launches and scopes.
use Rattle.std.proofs.lemmas.Bool.{or_from}
use Rattle.std.proofs.Common.{◌≡◌, ℕ, Bool, true, false, List, [], ◌∷◌, ◌++◌, Option, refl, ap, ◌∙◌, subst}
use Rattle.std.specs.Prelude.{◌||◌, map}
use Rattle.std.specs.List.{list_any}
use Rattle.std.proofs.lemmas.List.Folds.{list_any-append}
use Rattle.co_base.specs.declared.names.WaitId.{WaitId}
use Rattle.channel_model.specs.declared.acts.Act.{Act}
use Rattle.channel_model.specs.declared.acts.Act.TheVariants.{Admit, Drop, Drain, WakeClosed, Void}
use Rattle.job_model.specs.declared.acts.Reason.{Reason}
use Rattle.job_model.specs.declared.acts.JobAct.{JobAct}
use Rattle.job_model.specs.declared.acts.JobAct.TheVariants.{Attach, Start, EndBody, Cancel, Finish, Gone}
use Rattle.job_model.specs.declared.acts.JobNote.{JobNote}
use Rattle.job_model.specs.declared.acts.JobNote.TheVariants as known
use Rattle.job_model.specs.Cancels.{own_cancel}
use Rattle.note_book.specs.declared.book.Item.{Item}
use Rattle.note_book.specs.declared.book.Item.TheVariants as item
use Rattle.call_meaning.specs.Telling.{Told, on_channels, on_jobs, PassedBelow, FailedUp, IsCancelling, NoneToAdmit, FitsUpTo, NoReceiver, NothingQueued, IsVoided, ParentIs, made, did, items_in}
use Rattle.call_meaning.specs.ChannelCalls.{Call, sends, receives, Answer, spent, blocked, placed, revoked, wait_at, Admits, Drops, Spurns, Overflows, Drains, Wakes, Closes, CancelsChannel, AtOnce, Refused, TryRefused, EndsAtOnce, PlainCall, TryCall, SelectCall, Places, AdmitsIn, Stops, GivesUp, offer_told}
use Rattle.call_meaning.specs.JobCalls.{Starts, Passes, Breaks, reason_for, Chain, EndsBody, BreaksOff}
use Rattle.script_grammar.specs.Programs.{Program}
use Rattle.script_meaning.specs.Configs.{Config}
use Rattle.script_meaning.specs.Lines.{LineCalls, StartsAndReceives}
use Rattle.script_meaning.proofs.BooksGoOn.{items_in-append}
use Rattle.script_meaning.proofs.JobDebts.{Parents, AllKnown, AreCancels, known_left, known_right, cancels_then}

abbrev pub is_attach : JobAct → Bool
is_attach (Attach p r kind tag cancelled) = true
is_attach other = false

-- a Job was attached, or refused
abbrev pub note_attaches : JobNote → Bool
note_attaches (known.Made act) = is_attach act
note_attaches known.NoRow = true
note_attaches known.Used = true
note_attaches known.ParentEnded = true
note_attaches other = false

abbrev pub item_attaches : Item → Bool
item_attaches (item.Channel n) = false
item_attaches (item.Job n) = note_attaches n

abbrev pub attach_in : List Told → Bool
attach_in group = list_any item_attaches (items_in group)

pub attach_then : (xs ys : List Told) → attach_in (xs ++ ys) ≡ (attach_in xs || attach_in ys)
attach_then xs ys = ap (list_any item_attaches) (items_in-append xs ys) ∙ list_any-append item_attaches (items_in xs) (items_in ys)

pub neither : (xs ys : List Told) → attach_in xs ≡ false → attach_in ys ≡ false → attach_in (xs ++ ys) ≡ false
neither xs ys e f = attach_then xs ys ∙ or_from (attach_in xs) (attach_in ys) e f

-- ---- channels

none_made : {X : Type 0} (f : X → Act) (xs : List X) → attach_in (map (λ x. made (f x)) xs) ≡ false
unfolding items_in
none_made f [] = refl
none_made f (x ∷ xs) = none_made f xs

admits_none : (c : ℕ) (group : List Told) → Admits c group → attach_in group ≡ false
unfolding items_in
admits_none c group h = ap attach_in h.all ∙ neither (map (λ q. made (Admit c q)) h.places) (on_channels (NoneToAdmit c h.mark) ∷ [])
    (none_made (λ q. Admit c q) h.places) refl

drops_none : (c q : ℕ) (group : List Told) → Drops c q group → attach_in group ≡ false
unfolding items_in
drops_none c q group h = ap attach_in h.all ∙ neither (map (λ d. made (Drop c d.0 d.1)) h.dropped) (on_channels (FitsUpTo c q) ∷ [])
    (none_made (λ d. Drop c d.0 d.1) h.dropped) refl

spurns_none : (c q : ℕ) (group : List Told) → Spurns c q group → attach_in group ≡ false
unfolding items_in
spurns_none c q _ (Spurns.gone v) = refl
spurns_none c q _ Spurns.stays = refl

overflows_none : (c q : ℕ) (group : List Told) → Overflows c q group → attach_in group ≡ false
overflows_none c q group h = ap attach_in h.all ∙ neither h.drops h.spurns (drops_none c q h.drops h.dropped)
    (spurns_none c q h.spurns h.spurned)

drains_none : (c : ℕ) (group : List Told) → Drains c group → attach_in group ≡ false
unfolding items_in
drains_none c group h = ap attach_in h.all ∙ neither (map (λ d. made (Drain c d.0 d.1)) h.drained)
    (on_channels (NothingQueued c) ∷ on_channels (IsVoided c) ∷ []) (none_made (λ d. Drain c d.0 d.1) h.drained) refl

wakes_none : (c : ℕ) (group : List Told) → Wakes c group → attach_in group ≡ false
unfolding items_in
wakes_none c group h = ap attach_in h.all ∙ neither (map (λ q. made (WakeClosed c q)) h.places) (on_channels (NoReceiver c) ∷ [])
    (none_made (λ q. WakeClosed c q) h.places) refl

pub closes_none : (c v : ℕ) (group : List Told) → Closes c v group → attach_in group ≡ false
unfolding items_in
closes_none c v _ (Closes.now wakes w) = wakes_none c wakes w
closes_none c v _ (Closes.before u wakes w) = wakes_none c wakes w

pub cancels_channel_none : (c : ℕ) (group : List Told) → CancelsChannel c group → attach_in group ≡ false
unfolding items_in
cancels_channel_none c group (CancelsChannel.now closes drains _ h d e) = ap attach_in e
    ∙ neither closes (made (Void c) ∷ drains) (closes_none c 0 closes h) (drains_none c drains d)
cancels_channel_none c group (CancelsChannel.before closes drains _ h d e) = ap attach_in e
    ∙ neither closes drains (closes_none c 0 closes h) (drains_none c drains d)

at_once_none : (call : Call) (group : List Told) (a : Answer) → AtOnce call group a → attach_in group ≡ false
unfolding items_in
at_once_none _ _ _ (AtOnce.hands c v q) = refl
at_once_none _ _ _ (AtOnce.puts c v q more h) = overflows_none c q more h
at_once_none _ _ _ (AtOnce.takes c v q admits h) = admits_none c admits h

refused_none : (call : Call) (told : Told) (a : Answer) → Refused call told a → attach_in (told ∷ []) ≡ false
unfolding items_in
refused_none _ _ _ (Refused.send c v u) = refl
refused_none _ _ _ (Refused.receive c u) = refl

try_refused_none : (call : Call) (told : Told) → TryRefused call told → attach_in (told ∷ []) ≡ false
unfolding items_in
try_refused_none _ _ (TryRefused.send c v u) = refl
try_refused_none _ _ (TryRefused.receive c u) = refl

spent_none : (call : Call) → attach_in (spent call) ≡ false
unfolding items_in
spent_none (sends c v) = refl
spent_none (receives c) = refl

blocked_none : (call : Call) → attach_in (blocked call ∷ []) ≡ false
unfolding items_in
blocked_none (sends c v) = refl
blocked_none (receives c) = refl

ended_none : (w : WaitId) (group : List Told) → EndsAtOnce w group → attach_in group ≡ false
unfolding items_in
ended_none w _ EndsAtOnce.sent = refl
ended_none w _ EndsAtOnce.voided = refl

pub plain_none : (call : Call) (group : List Told) (a : Answer) → PlainCall call group a → attach_in group ≡ false
unfolding items_in
plain_none _ _ _ (PlainCall.at_once call group a h) = at_once_none call group a h
plain_none _ _ _ (PlainCall.refused call told a h) = refused_none call told a h
plain_none _ _ _ (PlainCall.no_place call all e) = ap attach_in e ∙ spent_none call
plain_none _ _ _ (PlainCall.offers c v q admits h) = admits_none c admits h
plain_none _ _ _ (PlainCall.offer_ends c v q admits settles all h s e) = ap attach_in e
    ∙ neither (offer_told c v q admits) settles (admits_none c admits h) (ended_none (wait_at c q) settles s)
plain_none _ _ _ (PlainCall.awaits c q) = refl

try_none : (call : Call) (group : List Told) (a : Answer) → TryCall call group a → attach_in group ≡ false
try_none _ _ _ (TryCall.at_once call group a h) = at_once_none call group a h
try_none _ _ _ (TryCall.refused call told h) = try_refused_none call told h
try_none _ _ _ (TryCall.blocks call) = blocked_none call
try_none _ _ _ (TryCall.no_place c v) = spent_none (sends c v)

passed_none : (calls : List Call) → attach_in (map blocked calls) ≡ false
unfolding items_in
passed_none [] = refl
passed_none (call ∷ calls) = neither (blocked call ∷ []) (map blocked calls) (blocked_none call) (passed_none calls)

placed_none : (w : WaitId) (n q : ℕ) (call : Call) → attach_in (placed w n q call ∷ []) ≡ false
unfolding items_in
placed_none w n q (sends c v) = refl
placed_none w n q (receives c) = refl

places_none : (w : WaitId) (n : ℕ) (calls : List Call) (group : List Told) → Places w n calls group → attach_in group ≡ false
unfolding items_in
places_none w _ _ _ (Places.none n) = refl
places_none w _ _ _ (Places.one n q call calls more h) =
    neither (placed w n q call ∷ []) more (placed_none w n q call) (places_none w _ calls more h)

admits_in_none : (calls : List Call) (group : List Told) → AdmitsIn calls group → attach_in group ≡ false
unfolding items_in
admits_in_none _ _ AdmitsIn.none = refl
admits_in_none _ _ (AdmitsIn.offered c v calls admits more all a h e) = ap attach_in e
    ∙ neither admits more (admits_none c admits a) (admits_in_none calls more h)
admits_in_none _ _ (AdmitsIn.awaited c calls all h) = admits_in_none calls all h

stops_none : (call : Call) (group : List Told) (a : Answer) → Stops call group a → attach_in group ≡ false
unfolding items_in
stops_none _ _ _ (Stops.closed call told a h) = refused_none call told a h
stops_none _ _ _ (Stops.no_place call all e) = ap attach_in e ∙ spent_none call
stops_none _ _ _ other = refl

select_none : (calls : List Call) (group : List Told) (a : Answer) → SelectCall calls group a → attach_in group ≡ false
unfolding items_in
select_none calls _ _ (SelectCall.chooses before later call group all a f h e) = ap attach_in e
    ∙ neither (map blocked before) group (passed_none before) (at_once_none call group a h)
select_none calls _ _ (SelectCall.meets_close before later call t all a f h e) = ap attach_in e
    ∙ neither (map blocked before) (t ∷ []) (passed_none before) (refused_none call t a h)
select_none calls _ _ (SelectCall.no_place before later c v all f e) = ap attach_in e
    ∙ neither (map blocked before) (spent (sends c v)) (passed_none before) (spent_none (sends c v))
select_none calls _ _ (SelectCall.waits w group admits all h d e) = ap attach_in e
    ∙ neither (map blocked calls) (group ++ admits) (passed_none calls)
    (neither group admits (places_none w 1 calls group h.places) (admits_in_none calls admits d))
select_none calls _ _ (SelectCall.resolved w before later call group admits all f h d e) = ap attach_in e
    ∙ neither (map blocked calls) _ (passed_none calls) (neither group _ (places_none w 1 before group h.places)
    (admits_in_none before admits d))
select_none calls _ _ (SelectCall.stops_at_first later call stop all a f h e) = ap attach_in e
    ∙ neither (map blocked calls) stop (passed_none calls) (stops_none call stop a h)
select_none calls _ _ (SelectCall.stops w before later call group stop admits all a f h s d e) = ap attach_in e
    ∙ neither (map blocked calls) _ (passed_none calls) (neither ((group ++ stop)
    ++ revoked w) admits (neither (group ++ stop) (revoked w)
    (neither group stop (places_none w 1 before group h.places) (stops_none call stop a s)) refl) (admits_in_none before admits d))
select_none calls _ _ (SelectCall.stops_late w before later call group stop admits all a f h s d e) = ap attach_in e
    ∙ neither (map blocked calls) _ (passed_none calls) (neither (group
    ++ stop) _ (neither group stop (places_none w 1 before group h.places) (stops_none call stop a s)) (admits_in_none before admits d))

pub gives_up_none : (w : WaitId) (group : List Told) → GivesUp w group → attach_in group ≡ false
unfolding items_in
gives_up_none w _ (GivesUp.withdrawn admits h) = admits_none w.channel admits h
gives_up_none w _ (GivesUp.late admits h) = admits_none w.channel admits h
gives_up_none w _ (GivesUp.late_undelivered v admits h) = admits_none w.channel admits h
gives_up_none w _ other = refl

-- ---- Jobs

pub starts_none : (row : ℕ) (group : List Told) → Starts row group → attach_in group ≡ false
unfolding items_in
starts_none row _ Starts.now = refl
starts_none row _ Starts.before = refl

both_none : (p : Program) (row : ℕ) (g : List Told) (a : Answer) → StartsAndReceives p row g a → attach_in g ≡ false
both_none p row g a (StartsAndReceives.both starts group _ _ s c e) = ap attach_in e
    ∙ neither starts group (starts_none row starts s) (plain_none _ group a c)

pub line_none : (p : Program) (k : ℕ) (x : Config) (i : _) (group : List Told) (a : Answer) → LineCalls p k x i group a
    → attach_in group ≡ false
unfolding items_in
line_none p k x _ _ _ (LineCalls.send c o g a h) = plain_none _ g a h
line_none p k x _ _ _ (LineCalls.receive c g a h) = plain_none _ g a h
line_none p k x _ _ _ (LineCalls.each c g a h) = plain_none _ g a h
line_none p k x _ _ _ (LineCalls.trysend c o g a h) = try_none _ g a h
line_none p k x _ _ _ (LineCalls.tryreceive c g a h) = try_none _ g a h
line_none p k x _ _ _ (LineCalls.select g a h) = select_none _ g a h
line_none p k x _ _ _ (LineCalls.join job row g a n h) = both_none p row g a h
line_none p k x _ _ _ (LineCalls.await job row g a n h) = both_none p row g a h

cancels_none : (acts : List JobAct) → AreCancels acts → attach_in (map did acts) ≡ false
unfolding AreCancels items_in
cancels_none [] h = refl
cancels_none (Attach p q kind tag cancelled ∷ acts) h = absurd h.0
cancels_none (Start q ∷ acts) h = absurd h.0
cancels_none (EndBody q v ∷ acts) h = absurd h.0
cancels_none (Cancel q reason ∷ acts) h = cancels_none acts h.1
cancels_none (Finish q end ∷ acts) h = absurd h.0
cancels_none (Gone q ∷ acts) h = absurd h.0

own_cancels : (newly : Bool) (row : ℕ) (reason : Reason) → AreCancels (own_cancel newly row reason)
unfolding AreCancels
own_cancels true row reason = (tt, tt)
own_cancels false row reason = tt

pub passes_none : (parents : Parents) (row : ℕ) (reason : Reason) (newly : Bool) (group : List Told) → AllKnown parents group
    → Passes row reason newly group → attach_in group ≡ false
unfolding AllKnown items_in
passes_none parents row reason newly group h g =
    let acts = own_cancel newly row reason ++ g.below in
    let parts = subst (AllKnown parents) g.all h in
    let below : AreCancels g.below = (known_right parents (map did acts) (on_jobs (PassedBelow row g.below) ∷ []) parts).0.0 in
    ap attach_in g.all
    ∙ neither (map did acts) (on_jobs (PassedBelow row g.below) ∷ [])
    (cancels_none acts (cancels_then (own_cancel newly row reason) g.below (own_cancels newly row reason) below)) refl

breaks_none : (parents : Parents) (k row : ℕ) (failure : Option ℕ) (group : List Told) → AllKnown parents group → Breaks k row failure group
    → attach_in group ≡ false
unfolding AllKnown items_in
breaks_none parents k row _ _ h (Breaks.seen failure) = refl
breaks_none parents k row _ _ h (Breaks.had_been failure group g) = passes_none parents row (reason_for failure) false group h g
breaks_none parents k row _ _ h (Breaks.asked group g) = passes_none parents row _ true group h g
breaks_none parents k row _ _ h (Breaks.scope_fails f group n g) = passes_none parents row _ true group h g
breaks_none parents k row _ _ h (Breaks.fails f up pass all is g e) =
    let parts = subst (AllKnown parents) e h in
    let behind = known_right parents pass (map did up ++ on_jobs (FailedUp row up) ∷ []) parts in
    let cancels : AreCancels up = (known_right parents (map did up) (on_jobs (FailedUp row up) ∷ []) behind).0.0 in
    ap attach_in e
    ∙ neither pass (map did up ++ on_jobs (FailedUp row up) ∷ [])
    (passes_none parents row _ true pass (known_left parents pass (map did up ++ on_jobs (FailedUp row up) ∷ []) parts) g)
    (neither (map did up) (on_jobs (FailedUp row up) ∷ []) (cancels_none up cancels) refl)

chain_none : (done row : ℕ) (group : List Told) → Chain done row group → attach_in group ≡ false
unfolding items_in
chain_none done _ _ (Chain.stops row) = refl
chain_none done _ _ (Chain.root end closes c) = closes_none _ _ closes c
chain_none done _ _ (Chain.goes_up row parent end closes more all n c m e) =
    ap attach_in e ∙ neither closes (did (Gone row) ∷ on_jobs (ParentIs row parent) ∷ more) (closes_none _ _ closes c)
    (chain_none done parent more m)

pub ends_none : (done row v : ℕ) (group : List Told) → EndsBody done row v group → attach_in group ≡ false
unfolding items_in
ends_none done row v _ (EndsBody.ends_body chain c) = chain_none done row chain c

pub breaks_off_none : (parents : Parents) (done k row : ℕ) (failure : Option ℕ) (group : List Told) → AllKnown parents group
    → BreaksOff done k row failure group → attach_in group ≡ false
unfolding items_in
breaks_off_none parents done k row failure group h b =
    let parts = subst (AllKnown parents) b.all h in
    let rest = on_jobs (IsCancelling row) ∷ b.end in
    ap attach_in b.all
    ∙ neither b.cancels rest (breaks_none parents k row failure b.cancels (known_left parents b.cancels rest parts) b.breaks)
    (ends_none done row 0 b.end b.ends)
