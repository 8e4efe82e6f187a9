-- What the groups that calls tell note, by a test of notes: where each note of a call passes it.
use Rattle.std.specs.Prelude.{◌≡◌, ℕ, ◌+◌, Bool, true, false, ◌&&◌, List, [], ◌∷◌, ◌++◌, map, Option, refl}
use Rattle.std.specs.List.{list_all}
use Rattle.std.proofs.Common.{sym, ap, ◌∙◌, subst}
use Rattle.co_base.specs.declared.names.WaitId.{WaitId}
use Rattle.channel_model.specs.declared.acts.Act.{Act}
use Rattle.channel_model.specs.declared.acts.Act.TheVariants.{Hand, Put, Offer, Await, Take, Admit, Drop, Spurn, Close, Void, Drain, WakeClosed, Settle}
use Rattle.channel_model.specs.declared.acts.ChannelNote.{ChannelNote}
use Rattle.channel_model.specs.declared.acts.ChannelNote.TheVariants as heard_as
use Rattle.channel_model.specs.declared.acts.Settled.{Settled}
use Rattle.job_model.specs.declared.acts.End.{End}
use Rattle.job_model.specs.declared.acts.Reason.{Reason}
use Rattle.job_model.specs.declared.acts.JobAct.{JobAct}
use Rattle.job_model.specs.declared.acts.JobAct.TheVariants.{Attach, Start, EndBody, Cancel, Finish, Gone}
use Rattle.job_model.specs.declared.acts.JobNote.TheVariants as known
use Rattle.job_model.specs.Done.{done_channel}
use Rattle.note_book.specs.declared.book.Item.{Item}
use Rattle.note_book.specs.declared.book.Item.TheVariants as item
use Rattle.call_meaning.specs.Telling.{Told, note, on_channels, on_jobs, ChannelFact, JobFact, TakenBack, FailedUp, IsCancelling, ParentIs, items_in, made, heard, did, knew, saw, saw_end}
use Rattle.call_meaning.specs.ChannelCalls.{Call, sends, receives, channel_of, Answer, NoPlace, Admits, Drops, Spurns, Overflows, Wakes, Drains, Closes, CancelsChannel, AtOnce, Refused, TryRefused, blocked, spent, EndsAtOnce, PlainCall, TryCall, SelectCall, Places, AdmitsIn, Stops, placed, revoked, offer_told, wait_at, GivesUp}
use Rattle.call_meaning.specs.JobCalls.{Starts, Passes, Breaks, reason_for, Chain, EndsBody, BreaksOff}
use Rattle.script_grammar.specs.Programs.{Program}
use Rattle.script_meaning.specs.Shapes.{base_of}
use Rattle.script_meaning.specs.Lines.{StartsAndReceives}
use Rattle.script_meaning.proofs.BooksGoOn.{items_in-append}
use Rattle.script_meaning.proofs.JobDebts.{Parents, AllKnown, AreCancels, known_left, known_right}
use Rattle.script_meaning.proofs.ScopesEntered.{passed_cancels, failed_cancels}

-- ---- a test of notes

-- each note of the group passes
abbrev pub AllPass : (Item → Bool) → List Told → Type 0
AllPass T told = list_all T (items_in told) ≡ true

abbrev pub is_no_close : Act → Bool
is_no_close (Close c v) = false
is_no_close other = true

-- neither an act nor that no place was left
abbrev pub is_answer : ChannelNote → Bool
is_answer (heard_as.Made act) = false
is_answer (heard_as.Spent c) = false
is_answer other = true

-- the note that this channel had no place left, and that it was closed
abbrev pub spent_note : ℕ → Item
spent_note c = item.Channel (heard_as.Spent c)

abbrev pub close_note : ℕ → ℕ → Item
close_note c v = item.Channel (heard_as.Made (Close c v))

abbrev pub job_note : JobAct → Item
job_note act = item.Job (known.Made act)

-- what most calls note passes
pub record PassesCalls (T : Item → Bool) : Type 0 where
  pub acts : (act : Act) → is_no_close act ≡ true → T (item.Channel (heard_as.Made act)) ≡ true
  pub answers : (n : ChannelNote) → is_answer n ≡ true → T (item.Channel n) ≡ true
  pub starts : (row : ℕ) → T (job_note (Start row)) ≡ true
  pub cancels : (row : ℕ) (reason : Reason) → T (job_note (Cancel row reason)) ≡ true
  pub saw : (row : ℕ) → T (item.Job (known.Saw row)) ≡ true
  pub saw_end : (row : ℕ) (end : End) → T (item.Job (known.SawEnd row end)) ≡ true
  pub fail : (code : ℕ) → T (item.Job (known.Fail code)) ≡ true

-- ---- lists

pub both : (a b : Bool) → (a && b) ≡ true → (a ≡ true) × (b ≡ true)
both true b k = (refl, k)
both false b k = cc

all_items : (T : Item → Bool) (xs ys : List Item) → list_all T xs ≡ true → list_all T ys ≡ true → list_all T (xs ++ ys) ≡ true
all_items T [] ys h k = k
all_items T (x ∷ xs) ys h k = let two = both (T x) (list_all T xs) h in ap (λ b. b && list_all T (xs ++ ys)) two.0
    ∙ all_items T xs ys two.1 k

pub all_then : (T : Item → Bool) (xs ys : List Told) → AllPass T xs → AllPass T ys → AllPass T (xs ++ ys)
all_then T xs ys h k = ap (list_all T) (items_in-append xs ys) ∙ all_items T (items_in xs) (items_in ys) h k

pub all_as : (T : Item → Bool) (xs ys : List Told) → xs ≡ ys → AllPass T ys → AllPass T xs
all_as T xs ys e h = subst (AllPass T) (sym e) h

pub all_none : (T : Item → Bool) → AllPass T []
unfolding items_in
all_none T = refl

pub channel_fact : (T : Item → Bool) (fact : ChannelFact) (told : List Told) → AllPass T told → AllPass T (on_channels fact ∷ told)
unfolding items_in
channel_fact T fact told h = h

pub job_fact : (T : Item → Bool) (fact : JobFact) (told : List Told) → AllPass T told → AllPass T (on_jobs fact ∷ told)
unfolding items_in
job_fact T fact told h = h

pub noted_all : (T : Item → Bool) (i : Item) (told : List Told) → T i ≡ true → AllPass T told → AllPass T (note i ∷ told)
unfolding items_in
noted_all T i told e h = ap (λ b. b && list_all T (items_in told)) e ∙ h

map_all : {A : Type 0} (T : Item → Bool) (f : A → Act) → ((a : A) → T (item.Channel (heard_as.Made (f a))) ≡ true)
    → (xs : List A) (more : List Told) → AllPass T more → AllPass T (map (λ a. made (f a)) xs ++ more)
map_all T f k [] more h = h
map_all T f k (x ∷ xs) more h = noted_all T _ (map (λ a. made (f a)) xs ++ more) (k x) (map_all T f k xs more h)

-- ---- what follows an act

pub admits_all : (T : Item → Bool) → PassesCalls T → (c : ℕ) (g : List Told) → Admits c g → AllPass T g
admits_all T a c g h = all_as T g _ h.all (channel_fact T _ _
    (map_all T (λ q. Admit c q) (λ q. a.acts (Admit c q) refl) h.places _ (channel_fact T _ [] (all_none T))))

drops_all : (T : Item → Bool) → PassesCalls T → (c q : ℕ) (g : List Told) → Drops c q g → AllPass T g
drops_all T a c q g h = all_as T g _ h.all (map_all T (λ (d : ℕ × ℕ). Drop c d.0 d.1) (λ d. a.acts (Drop c d.0 d.1) refl) h.dropped _
    (channel_fact T _ [] (all_none T)))

spurns_all : (T : Item → Bool) → PassesCalls T → (c q : ℕ) (g : List Told) → Spurns c q g → AllPass T g
spurns_all T a c q _ (Spurns.gone v) = noted_all T _ [] (a.acts (Spurn c q v) refl) (all_none T)
spurns_all T a c q _ Spurns.stays = channel_fact T _ [] (all_none T)

overflows_all : (T : Item → Bool) → PassesCalls T → (c q : ℕ) (g : List Told) → Overflows c q g → AllPass T g
overflows_all T a c q g h = all_as T g _ h.all (all_then T h.drops h.spurns (drops_all T a c q h.drops h.dropped)
    (spurns_all T a c q h.spurns h.spurned))

pub wakes_all : (T : Item → Bool) → PassesCalls T → (c : ℕ) (g : List Told) → Wakes c g → AllPass T g
wakes_all T a c g h = all_as T g _ h.all (map_all T (λ q. WakeClosed c q) (λ q. a.acts (WakeClosed c q) refl) h.places _
    (channel_fact T _ [] (all_none T)))

drains_all : (T : Item → Bool) → PassesCalls T → (c : ℕ) (g : List Told) → Drains c g → AllPass T g
drains_all T a c g h = all_as T g _ h.all (map_all T (λ (d : ℕ × ℕ). Drain c d.0 d.1) (λ d. a.acts (Drain c d.0 d.1) refl) h.drained _
    (channel_fact T _ _ (channel_fact T _ [] (all_none T))))

-- ---- close

pub closes_all : (T : Item → Bool) → PassesCalls T → (c v : ℕ) (g : List Told) → T (close_note c v) ≡ true → Closes c v g → AllPass T g
closes_all T a c v _ e (Closes.now wakes h) = noted_all T _ wakes e (wakes_all T a c wakes h)
closes_all T a c v _ e (Closes.before u wakes h) = noted_all T _ wakes (a.answers (heard_as.AlreadyClosed c u) refl)
    (wakes_all T a c wakes h)

pub cancels_channel_all : (T : Item → Bool) → PassesCalls T → (c : ℕ) (g : List Told) → T (close_note c 0) ≡ true → CancelsChannel c g
    → AllPass T g
cancels_channel_all T a c g e (CancelsChannel.now closes drains _ h d is) =
    all_as T g _ is (all_then T closes _ (closes_all T a c 0 closes e h)
    (noted_all T _ drains (a.acts (Void c) refl) (drains_all T a c drains d)))
cancels_channel_all T a c g e (CancelsChannel.before closes drains _ h d is) =
    all_as T g _ is (all_then T closes drains (closes_all T a c 0 closes e h) (drains_all T a c drains d))

-- ---- send and receive

once_all : (T : Item → Bool) → PassesCalls T → (call : Call) (g : List Told) (a : Answer) → AtOnce call g a → AllPass T g
once_all T al _ _ _ (AtOnce.hands c v q) = noted_all T _ [] (al.acts (Hand c q v) refl) (all_none T)
once_all T al _ _ _ (AtOnce.puts c v q more d) = noted_all T _ more (al.acts (Put c q v) refl) (overflows_all T al c q more d)
once_all T al _ _ _ (AtOnce.takes c v q admits d) = noted_all T _ admits (al.acts (Take c q v) refl) (admits_all T al c admits d)

refused_all : (T : Item → Bool) → PassesCalls T → (call : Call) (t : Told) (a : Answer) → Refused call t a → AllPass T (t ∷ [])
refused_all T al _ _ _ (Refused.send c v u) = noted_all T _ [] (al.answers (heard_as.SendClosed c v u) refl) (all_none T)
refused_all T al _ _ _ (Refused.receive c u) = noted_all T _ [] (al.answers (heard_as.ReceiveClosed c u) refl) (all_none T)

try_refused_all : (T : Item → Bool) → PassesCalls T → (call : Call) (t : Told) → TryRefused call t → AllPass T (t ∷ [])
try_refused_all T al _ _ (TryRefused.send c v u) = noted_all T _ [] (al.answers (heard_as.TrySendClosed c v u) refl) (all_none T)
try_refused_all T al _ _ (TryRefused.receive c u) = noted_all T _ [] (al.answers (heard_as.TryReceiveClosed c u) refl) (all_none T)

-- where a call is answered so, its note that no place was left passes
abbrev pub SpentPasses : (Item → Bool) → Call → Answer → Type 0
SpentPasses T call a = a ≡ NoPlace → T (spent_note (channel_of call)) ≡ true

spent_all : (T : Item → Bool) (call : Call) → T (spent_note (channel_of call)) ≡ true → AllPass T (spent call)
spent_all T (sends c v) e = channel_fact T _ _ (noted_all T (spent_note c) [] e (all_none T))
spent_all T (receives c) e = channel_fact T _ _ (noted_all T (spent_note c) [] e (all_none T))

ends_all : (T : Item → Bool) → PassesCalls T → (w : WaitId) (g : List Told) → EndsAtOnce w g → AllPass T g
ends_all T al w _ EndsAtOnce.sent = noted_all T _ [] (al.acts _ refl) (all_none T)
ends_all T al w _ EndsAtOnce.voided = channel_fact T _ _ (noted_all T _ [] (al.acts _ refl) (all_none T))

offer_all : (T : Item → Bool) → PassesCalls T → (c v q : ℕ) (admits : List Told) → AllPass T admits → AllPass T (offer_told c v q admits)
offer_all T al c v q admits h = channel_fact T _ _ (noted_all T _ admits (al.acts (Offer c q v (wait_at c q) 0) refl) h)

pub plain_all : (T : Item → Bool) → PassesCalls T → (call : Call) (g : List Told) (a : Answer) → SpentPasses T call a → PlainCall call g a
    → AllPass T g
plain_all T al _ _ _ s (PlainCall.at_once call g a h) = once_all T al call g a h
plain_all T al _ _ _ s (PlainCall.refused call t a h) = refused_all T al call t a h
plain_all T al _ _ _ s (PlainCall.no_place call all e) = all_as T all _ e (spent_all T call (s refl))
plain_all T al _ _ _ s (PlainCall.offers c v q admits h) = offer_all T al c v q admits (admits_all T al c admits h)
plain_all T al _ _ _ s (PlainCall.offer_ends c v q admits settles all h t e) =
    all_as T all _ e (all_then T (offer_told c v q admits) settles (offer_all T al c v q admits (admits_all T al c admits h))
    (ends_all T al (wait_at c q) settles t))
plain_all T al _ _ _ s (PlainCall.awaits c q) = noted_all T _ [] (al.acts (Await c q (wait_at c q) 0) refl) (all_none T)

-- ---- trysend and tryreceive

blocked_all : (T : Item → Bool) → PassesCalls T → (call : Call) (more : List Told) → AllPass T more → AllPass T (blocked call ∷ more)
blocked_all T al (sends c v) more h = noted_all T _ more (al.answers (heard_as.Full c v) refl) h
blocked_all T al (receives c) more h = noted_all T _ more (al.answers (heard_as.Empty c) refl) h

pub try_all : (T : Item → Bool) → PassesCalls T → (call : Call) (g : List Told) (a : Answer) → SpentPasses T call a → TryCall call g a
    → AllPass T g
try_all T al _ _ _ s (TryCall.at_once call g a h) = once_all T al call g a h
try_all T al _ _ _ s (TryCall.refused call t h) = try_refused_all T al call t h
try_all T al _ _ _ s (TryCall.blocks call) = blocked_all T al call [] (all_none T)
try_all T al _ _ _ s (TryCall.no_place c v) = spent_all T (sends c v) (s refl)

-- ---- select

-- the note that no place was left passes for the channel of each of these calls
unfoldable pub AllSpentPass : (Item → Bool) → List Call → Type 0
AllSpentPass T [] = Unit {0}
AllSpentPass T (call ∷ calls) = (T (spent_note (channel_of call)) ≡ true) × AllSpentPass T calls

one_passes : (T : Item → Bool) (before : List Call) (call : Call) (later : List Call) → AllSpentPass T (before ++ call ∷ later)
    → T (spent_note (channel_of call)) ≡ true
unfolding AllSpentPass
one_passes T [] call later h = h.0
one_passes T (b ∷ before) call later h = one_passes T before call later h.1

passed_all : (T : Item → Bool) → PassesCalls T → (calls : List Call) (more : List Told) → AllPass T more
    → AllPass T (map blocked calls ++ more)
passed_all T al [] more h = h
passed_all T al (call ∷ calls) more h = blocked_all T al call (map blocked calls ++ more) (passed_all T al calls more h)

placed_all : (T : Item → Bool) → PassesCalls T → (w : WaitId) (n q : ℕ) (call : Call) (more : List Told) → AllPass T more
    → AllPass T (placed w n q call ∷ more)
placed_all T al w n q (sends c v) more h = noted_all T _ more (al.acts (Offer c q v w n) refl) h
placed_all T al w n q (receives c) more h = noted_all T _ more (al.acts (Await c q w n) refl) h

places_all : (T : Item → Bool) → PassesCalls T → (w : WaitId) (n : ℕ) (calls : List Call) (g : List Told) → Places w n calls g → AllPass T g
places_all T al w _ _ _ (Places.none n) = all_none T
places_all T al w _ _ _ (Places.one n q call calls more h) = placed_all T al w n q call more (places_all T al w (n + 1) calls more h)

admits_in_all : (T : Item → Bool) → PassesCalls T → (calls : List Call) (g : List Told) → AdmitsIn calls g → AllPass T g
admits_in_all T al _ _ AdmitsIn.none = all_none T
admits_in_all T al _ _ (AdmitsIn.offered c v calls admits more all h rest e) =
    all_as T all _ e (all_then T admits more (admits_all T al c admits h) (admits_in_all T al calls more rest))
admits_in_all T al _ _ (AdmitsIn.awaited c calls all rest) = admits_in_all T al calls all rest

stops_all : (T : Item → Bool) → PassesCalls T → (call : Call) (g : List Told) (a : Answer) → T (spent_note (channel_of call)) ≡ true
    → Stops call g a → AllPass T g
stops_all T al _ _ _ s (Stops.receiver c v q) = channel_fact T _ _ (noted_all T _ [] (al.answers (heard_as.Partner c q) refl) (all_none T))
stops_all T al _ _ _ s (Stops.offer c q) = channel_fact T _ _ (noted_all T _ [] (al.answers (heard_as.Partner c q) refl) (all_none T))
stops_all T al _ _ _ s (Stops.closed call t a h) = refused_all T al call t a h
stops_all T al _ _ _ s (Stops.no_place call all e) = all_as T all _ e (spent_all T call s)

revoked_all : (T : Item → Bool) → PassesCalls T → (w : WaitId) → AllPass T (revoked w)
revoked_all T al w = noted_all T _ _ (al.acts _ refl) (noted_all T _ [] (al.acts _ refl) (all_none T))

pub select_all : (T : Item → Bool) → PassesCalls T → (clauses : List Call) (g : List Told) (a : Answer) → AllSpentPass T clauses
    → SelectCall clauses g a → AllPass T g
select_all T al cs _ _ s (SelectCall.chooses passed later call group all a is h e) =
    all_as T all _ e (passed_all T al passed group (once_all T al call group a h))
select_all T al cs _ _ s (SelectCall.meets_close passed later call t all a is h e) =
    all_as T all _ e (passed_all T al passed (t ∷ []) (refused_all T al call t a h))
select_all T al cs _ _ s (SelectCall.no_place passed later c v all is e) =
    all_as T all _ e (passed_all T al passed (spent (sends c v))
    (spent_all T (sends c v) (one_passes T passed (sends c v) later (subst (AllSpentPass T) is s))))
select_all T al cs _ _ s (SelectCall.waits w group admits all h d e) =
    all_as T all _ e (passed_all T al cs (group ++ admits)
    (all_then T group admits (places_all T al w 1 cs group h.places) (admits_in_all T al cs admits d)))
select_all T al cs _ _ s (SelectCall.resolved w before later call group admits all is h d e) =
    all_as T all _ e (passed_all T al cs (group ++ heard (heard_as.MainResolved w) ∷ admits)
    (all_then T group (heard (heard_as.MainResolved w) ∷ admits) (places_all T al w 1 before group h.places)
    (noted_all T _ admits (al.answers (heard_as.MainResolved w) refl) (admits_in_all T al before admits d))))
select_all T al cs _ _ s (SelectCall.stops_at_first later call stop all a is h e) =
    all_as T all _ e (passed_all T al cs stop (stops_all T al call stop a (one_passes T [] call later (subst (AllSpentPass T) is s)) h))
select_all T al cs _ _ s (SelectCall.stops w before later call group stop admits all a is h k d e) =
    all_as T all _ e (passed_all T al cs (((group ++ stop) ++ revoked w) ++ admits)
    (all_then T ((group ++ stop) ++ revoked w) admits
    (all_then T (group ++ stop) (revoked w) (all_then T group stop (places_all T al w 1 before group h.places)
    (stops_all T al call stop a (one_passes T before call later (subst (AllSpentPass T) is s)) k)) (revoked_all T al w))
    (admits_in_all T al before admits d)))
select_all T al cs _ _ s (SelectCall.stops_late w before later call group stop admits all a is h k d e) =
    all_as T all _ e (passed_all T al cs ((group ++ stop) ++ heard (heard_as.Late w) ∷ admits)
    (all_then T (group ++ stop) (heard (heard_as.Late w) ∷ admits)
    (all_then T group stop (places_all T al w 1 before group h.places)
    (stops_all T al call stop a (one_passes T before call later (subst (AllSpentPass T) is s)) k))
    (noted_all T _ admits (al.answers (heard_as.Late w) refl) (admits_in_all T al before admits d))))

-- ---- waits

pub settle_all : (T : Item → Bool) → PassesCalls T → (w : WaitId) (outcome : Settled) (more : List Told) → AllPass T more
    → AllPass T (made (Settle w outcome) ∷ more)
settle_all T al w outcome more h = noted_all T _ more (al.acts (Settle w outcome) refl) h

pub gives_up_all : (T : Item → Bool) → PassesCalls T → (w : WaitId) (g : List Told) → GivesUp w g → AllPass T g
gives_up_all T al w _ GivesUp.dispatched = settle_all T al w _ [] (all_none T)
gives_up_all T al w _ (GivesUp.undelivered v) = settle_all T al w _ [] (all_none T)
gives_up_all T al w _ (GivesUp.withdrawn admits h) = noted_all T _ _ (al.acts _ refl)
    (settle_all T al w _ admits (admits_all T al _ admits h))
gives_up_all T al w _ (GivesUp.late admits h) = noted_all T _ _ (al.answers (heard_as.Late w) refl)
    (settle_all T al w _ admits (admits_all T al _ admits h))
gives_up_all T al w _ (GivesUp.late_undelivered v admits h) =
    noted_all T _ _ (al.answers (heard_as.Late w) refl) (settle_all T al w _ admits (admits_all T al _ admits h))

pub resumed_all : (T : Item → Bool) → PassesCalls T → (w : WaitId) (outcome : Settled) (seen : ChannelFact) (fact : JobFact)
    → AllPass T (on_channels seen ∷ on_jobs fact ∷ made (Settle w outcome) ∷ [])
resumed_all T al w outcome seen fact = channel_fact T seen _ (job_fact T fact _ (settle_all T al w outcome [] (all_none T)))

pub taken_back_all : (T : Item → Bool) → PassesCalls T → (w : WaitId) (outcome : Settled)
    → AllPass T (on_channels (TakenBack w) ∷ made (Settle w outcome) ∷ [])
taken_back_all T al w outcome = channel_fact T _ _ (settle_all T al w outcome [] (all_none T))

-- ---- calls on Jobs

pub saw_all : (T : Item → Bool) → PassesCalls T → (row : ℕ) (more : List Told) → AllPass T more → AllPass T (saw row ∷ more)
saw_all T al row more h = noted_all T _ more (al.saw row) h

pub saw_end_all : (T : Item → Bool) → PassesCalls T → (row : ℕ) (end : End) → AllPass T (saw_end row end ∷ [])
saw_end_all T al row end = noted_all T _ [] (al.saw_end row end) (all_none T)

pub fail_all : (T : Item → Bool) → PassesCalls T → (v : ℕ) → AllPass T (knew (known.Fail v) ∷ [])
fail_all T al v = noted_all T _ [] (al.fail v) (all_none T)

pub one_fact_all : (T : Item → Bool) (fact : JobFact) → AllPass T (on_jobs fact ∷ [])
one_fact_all T fact = job_fact T fact [] (all_none T)

pub starts_all : (T : Item → Bool) → PassesCalls T → (row : ℕ) (g : List Told) → Starts row g → AllPass T g
starts_all T al row _ Starts.now = noted_all T _ _ (al.starts row) (job_fact T _ [] (all_none T))
starts_all T al row _ Starts.before = job_fact T _ [] (all_none T)

-- a start of the Job, and a receive on its done channel
pub both_all : (T : Item → Bool) → PassesCalls T → (p : Program) (row : ℕ) (g : List Told) (a : Answer)
    → SpentPasses T (receives (done_channel (base_of p) row)) a → StartsAndReceives p row g a → AllPass T g
both_all T al p row _ _ s (StartsAndReceives.both starts group all a h c e) =
    all_as T all _ e (all_then T starts group (starts_all T al row starts h) (plain_all T al _ group a s c))

cancels_all : (T : Item → Bool) → PassesCalls T → (acts : List JobAct) (more : List Told) → AreCancels acts → AllPass T more
    → AllPass T (map did acts ++ more)
unfolding AreCancels
cancels_all T al [] more h k = k
cancels_all T al (Attach p q kind tag now ∷ acts) more h k = absurd h.0
cancels_all T al (Start q ∷ acts) more h k = absurd h.0
cancels_all T al (EndBody q v ∷ acts) more h k = absurd h.0
cancels_all T al (Cancel q reason ∷ acts) more h k = noted_all T _ (map did acts
    ++ more) (al.cancels q reason) (cancels_all T al acts more h.1 k)
cancels_all T al (Finish q end ∷ acts) more h k = absurd h.0
cancels_all T al (Gone q ∷ acts) more h k = absurd h.0

pub passes_all : (T : Item → Bool) → PassesCalls T → (parents : Parents) (row : ℕ) (reason : Reason) (newly : Bool) (g : List Told)
    → AllKnown parents g → Passes row reason newly g → AllPass T g
passes_all T al parents row reason newly g k h = all_as T g _ h.all
    (cancels_all T al _ _ (passed_cancels parents row reason newly g k h) (job_fact T _ [] (all_none T)))

pub breaks_all : (T : Item → Bool) → PassesCalls T → (parents : Parents) (k row : ℕ) (failure : Option ℕ) (g : List Told)
    → AllKnown parents g → Breaks k row failure g → AllPass T g
breaks_all T al parents k row _ _ q (Breaks.seen failure) = all_none T
breaks_all T al parents k row _ _ q (Breaks.had_been failure g h) = passes_all T al parents row (reason_for failure) false g q h
breaks_all T al parents k row _ _ q (Breaks.asked g h) = passes_all T al parents row _ true g q h
breaks_all T al parents k row _ _ q (Breaks.scope_fails f g ne h) = passes_all T al parents row _ true g q h
breaks_all T al parents k row _ _ q (Breaks.fails f up pass all e h is) =
    let parts = subst (AllKnown parents) is q in
    let rest = map did up ++ on_jobs (FailedUp row up) ∷ [] in
    all_as T all _ is (all_then T pass rest (passes_all T al parents row _ true pass (known_left parents pass rest parts) h)
    (cancels_all T al up _ (failed_cancels parents row up (known_right parents pass rest parts)) (job_fact T _ [] (all_none T))))

-- ---- the ends of bodies

-- what the end of a body notes passes
pub record PassesEnds (T : Item → Bool) : Type 0 where
  pub closes : (c v : ℕ) → T (close_note c v) ≡ true
  pub end_bodies : (row v : ℕ) → T (job_note (EndBody row v)) ≡ true
  pub finishes : (row : ℕ) (end : End) → T (job_note (Finish row end)) ≡ true
  pub tells : (row : ℕ) → T (job_note (Gone row)) ≡ true

chain_all : (T : Item → Bool) → PassesCalls T → PassesEnds T → (base row : ℕ) (g : List Told) → Chain base row g → AllPass T g
chain_all T al en base _ _ (Chain.stops row) = job_fact T _ [] (all_none T)
chain_all T al en base _ _ (Chain.root end closes h) = noted_all T _ closes (en.finishes 0 end)
    (closes_all T al _ _ closes (en.closes _ _) h)
chain_all T al en base _ _ (Chain.goes_up row parent end closes more all ne h rest e) =
    all_as T all _ e (noted_all T _ _ (en.finishes row end)
    (all_then T closes (did (Gone row) ∷ on_jobs (ParentIs row parent) ∷ more) (closes_all T al _ _ closes (en.closes _ _) h)
    (noted_all T _ _ (en.tells row) (job_fact T _ more (chain_all T al en base parent more rest)))))

pub end_all : (T : Item → Bool) → PassesCalls T → PassesEnds T → (base row v : ℕ) (g : List Told) → EndsBody base row v g → AllPass T g
end_all T al en base row v _ (EndsBody.ends_body chain h) = noted_all T _ chain (en.end_bodies row v) (chain_all T al en base row chain h)

pub break_all : (T : Item → Bool) → PassesCalls T → PassesEnds T → (parents : Parents) (base k row : ℕ) (failure : Option ℕ) (g : List Told)
    → AllKnown parents g → BreaksOff base k row failure g → AllPass T g
break_all T al en parents base k row failure g q h =
    let parts = subst (AllKnown parents) h.all q in
    all_as T g _ h.all (all_then T h.cancels (on_jobs (IsCancelling row) ∷ h.end)
    (breaks_all T al parents k row failure h.cancels (known_left parents h.cancels _ parts) h.breaks)
    (job_fact T _ h.end (end_all T al en base row 0 h.end h.ends)))
