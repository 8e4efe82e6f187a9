-- What a coroutine tells, piece by piece, as far as the tree of Jobs goes.
use Rattle.std.proofs.lemmas.List.{append-nil}
use Rattle.std.proofs.Common.{◌≡◌, ◌≢◌, ℕ, Bool, true, false, List, [], ◌∷◌, ◌++◌, refl, ap, sym, ◌∙◌, subst, append_assoc, Option, Some, None}
use Rattle.std.specs.Prelude.{map}
use Rattle.channel_model.specs.declared.acts.Act.TheVariants.{Admit, Drop, Drain, WakeClosed}
use Rattle.job_model.specs.declared.acts.JobKind.{JobKind}
use Rattle.job_model.specs.declared.acts.Reason.{Reason}
use Rattle.job_model.specs.declared.acts.Reason.TheVariants as reasons
use Rattle.job_model.specs.declared.acts.JobAct.{JobAct}
use Rattle.job_model.specs.declared.acts.JobAct.TheVariants.{Attach, Start, EndBody}
use Rattle.job_model.specs.declared.acts.JobNote.{JobNote}
use Rattle.job_model.specs.declared.acts.JobNote.TheVariants as of_job
use Rattle.note_book.specs.declared.book.Item.{Item}
use Rattle.note_book.specs.declared.book.Item.TheVariants as item
use Rattle.call_meaning.specs.Telling.{Told, note, on_jobs, FailedUp, NotNew, IsCancelling, did, made}
use Rattle.call_meaning.specs.ChannelCalls.{Call, sends, receives, Answer, PlainCall, TryCall, SelectCall, Admits, Drops, Spurns, Overflows, Wakes, Drains, Closes, CancelsChannel, AtOnce, Refused, TryRefused, blocked, spent, EndsAtOnce, Places, AdmitsIn, GivesUp, Stops, placed, wait_at, revoked}
use Rattle.call_meaning.specs.JobCalls.{NotAttached, Starts, Passes, Breaks, reason_for, Chain, EndsBody, BreaksOff}
use Rattle.script_grammar.specs.Programs.{Program}
use Rattle.script_grammar.specs.Tags.{spawned}
use Rattle.script_meaning.specs.Configs.{Config}
use Rattle.script_meaning.specs.Moves.{Move}
use Rattle.script_meaning.specs.Lines.{LineCalls, StartsAndReceives}
use Rattle.script_meaning.specs.Books.{Spawns, Begins, Reaches}
use Rattle.script_meaning.specs.Shapes.{base_of}

-- ---- the act on a Job that is told

abbrev pub act_in_note : JobNote → Option JobAct
act_in_note (of_job.Made act) = Some act
act_in_note (of_job.Saw row) = None
act_in_note other = None

abbrev pub act_in_item : Item → Option JobAct
act_in_item (item.Channel n) = None
act_in_item (item.Job n) = act_in_note n

abbrev pub job_told : Told → Option JobAct
job_told (note i) = act_in_item i
job_told other = None

unfoldable pub IsQuiet : List Told → Type 0
IsQuiet [] = Unit {0}
IsQuiet (t ∷ ts) = (job_told t ≡ None) × IsQuiet ts

pub quiet_then : (xs ys : List Told) → IsQuiet xs → IsQuiet ys → IsQuiet (xs ++ ys)
unfolding IsQuiet
quiet_then [] ys a b = b
quiet_then (x ∷ xs) ys a b = (a.0, quiet_then xs ys a.1 b)

quiet_map : {A : Type 0} (f : A → Told) (xs : List A) → ((x : A) → job_told (f x) ≡ None) → IsQuiet (map f xs)
unfolding IsQuiet
quiet_map f [] h = tt
quiet_map f (x ∷ xs) h = (h x, quiet_map f xs h)

-- ---- channels say nothing of Jobs

one : (t : Told) → job_told t ≡ None → IsQuiet (t ∷ [])
unfolding IsQuiet
one t h = (h, tt)

cons : (t : Told) (ts : List Told) → job_told t ≡ None → IsQuiet ts → IsQuiet (t ∷ ts)
unfolding IsQuiet
cons t ts h k = (h, k)

quiet_admits : (c : ℕ) (g : List Told) → Admits c g → IsQuiet g
quiet_admits c g h = subst IsQuiet (sym h.all) (cons _ _ refl
    (quiet_then (map (λ q. made (Admit c q)) h.places) _ (quiet_map (λ q. made (Admit c q)) h.places (λ q. refl)) (one _ refl)))

quiet_drops : (c q : ℕ) (g : List Told) → Drops c q g → IsQuiet g
quiet_drops c q g h = subst IsQuiet (sym h.all) (quiet_then (map (λ d. made (Drop c d.0 d.1)) h.dropped) _
    (quiet_map (λ d. made (Drop c d.0 d.1)) h.dropped (λ d. refl)) (one _ refl))

quiet_spurns : (c q : ℕ) (g : List Told) → Spurns c q g → IsQuiet g
quiet_spurns c q _ (Spurns.gone v) = one _ refl
quiet_spurns c q _ Spurns.stays = one _ refl

quiet_overflows : (c q : ℕ) (g : List Told) → Overflows c q g → IsQuiet g
quiet_overflows c q g h = subst IsQuiet (sym h.all) (quiet_then h.drops h.spurns (quiet_drops c q h.drops h.dropped)
    (quiet_spurns c q h.spurns h.spurned))

quiet_wakes : (c : ℕ) (g : List Told) → Wakes c g → IsQuiet g
quiet_wakes c g h = subst IsQuiet (sym h.all) (quiet_then (map (λ q. made (WakeClosed c q)) h.places) _
    (quiet_map (λ q. made (WakeClosed c q)) h.places (λ q. refl)) (one _ refl))

quiet_drains : (c : ℕ) (g : List Told) → Drains c g → IsQuiet g
quiet_drains c g h = subst IsQuiet (sym h.all) (quiet_then (map (λ d. made (Drain c d.0 d.1)) h.drained) _
    (quiet_map (λ d. made (Drain c d.0 d.1)) h.drained (λ d. refl)) (cons _ _ refl (one _ refl)))

pub quiet_closes : (c v : ℕ) (g : List Told) → Closes c v g → IsQuiet g
quiet_closes c v _ (Closes.now wakes w) = cons _ wakes refl (quiet_wakes c wakes w)
quiet_closes c v _ (Closes.before u wakes w) = cons _ wakes refl (quiet_wakes c wakes w)

pub quiet_cancels : (c : ℕ) (g : List Told) → CancelsChannel c g → IsQuiet g
quiet_cancels c g (CancelsChannel.now closes drains _ a d e) =
    subst IsQuiet (sym e) (quiet_then closes _ (quiet_closes c 0 closes a) (cons _ drains refl (quiet_drains c drains d)))
quiet_cancels c g (CancelsChannel.before closes drains _ a d e) =
    subst IsQuiet (sym e) (quiet_then closes drains (quiet_closes c 0 closes a) (quiet_drains c drains d))

quiet_at_once : (call : Call) (g : List Told) (a : Answer) → AtOnce call g a → IsQuiet g
quiet_at_once _ _ _ (AtOnce.hands c v q) = one _ refl
quiet_at_once _ _ _ (AtOnce.puts c v q more d) = cons _ more refl (quiet_overflows c q more d)
quiet_at_once _ _ _ (AtOnce.takes c v q admits d) = cons _ admits refl (quiet_admits c admits d)

quiet_refused : (call : Call) (t : Told) (a : Answer) → Refused call t a → job_told t ≡ None
quiet_refused _ _ _ (Refused.send c v u) = refl
quiet_refused _ _ _ (Refused.receive c u) = refl

quiet_try_refused : (call : Call) (t : Told) → TryRefused call t → job_told t ≡ None
quiet_try_refused _ _ (TryRefused.send c v u) = refl
quiet_try_refused _ _ (TryRefused.receive c u) = refl

quiet_blocked : (call : Call) → job_told (blocked call) ≡ None
quiet_blocked (sends c v) = refl
quiet_blocked (receives c) = refl

quiet_spent : (call : Call) → IsQuiet (spent call)
quiet_spent (sends c v) = cons _ _ refl (one _ refl)
quiet_spent (receives c) = cons _ _ refl (one _ refl)

quiet_ends : (w : _) (g : List Told) → EndsAtOnce w g → IsQuiet g
quiet_ends w _ EndsAtOnce.sent = one _ refl
quiet_ends w _ EndsAtOnce.voided = cons _ _ refl (one _ refl)

pub quiet_plain : (call : Call) (g : List Told) (a : Answer) → PlainCall call g a → IsQuiet g
quiet_plain _ _ _ (PlainCall.at_once call g a h) = quiet_at_once call g a h
quiet_plain _ _ _ (PlainCall.refused call t a h) = one t (quiet_refused call t a h)
quiet_plain _ _ _ (PlainCall.no_place call all e) = subst IsQuiet (sym e) (quiet_spent call)
quiet_plain _ _ _ (PlainCall.offers c v q admits h) = cons _ _ refl (cons _ admits refl (quiet_admits c admits h))
quiet_plain _ _ _ (PlainCall.offer_ends c v q admits settles all h s e) =
    subst IsQuiet (sym e)
    (cons _ _ refl (cons _ _ refl (quiet_then admits settles (quiet_admits c admits h) (quiet_ends (wait_at c q) settles s))))
quiet_plain _ _ _ (PlainCall.awaits c q) = one _ refl

pub quiet_try : (call : Call) (g : List Told) (a : Answer) → TryCall call g a → IsQuiet g
quiet_try _ _ _ (TryCall.at_once call g a h) = quiet_at_once call g a h
quiet_try _ _ _ (TryCall.refused call t h) = one t (quiet_try_refused call t h)
quiet_try _ _ _ (TryCall.blocks call) = one _ (quiet_blocked call)
quiet_try _ _ _ (TryCall.no_place c v) = quiet_spent (sends c v)

quiet_placed : (w : _) (n q : ℕ) (call : Call) → job_told (placed w n q call) ≡ None
quiet_placed w n q (sends c v) = refl
quiet_placed w n q (receives c) = refl

quiet_places : (w : _) (n : ℕ) (calls : List Call) (g : List Told) → Places w n calls g → IsQuiet g
unfolding IsQuiet
quiet_places w _ _ _ (Places.none n) = tt
quiet_places w _ _ _ (Places.one n q call calls more h) = (quiet_placed w n q call, quiet_places w _ calls more h)

quiet_admits_in : (calls : List Call) (g : List Told) → AdmitsIn calls g → IsQuiet g
unfolding IsQuiet
quiet_admits_in _ _ AdmitsIn.none = tt
quiet_admits_in _ _ (AdmitsIn.offered c v calls admits more all a h e) =
    subst IsQuiet (sym e) (quiet_then admits more (quiet_admits c admits a) (quiet_admits_in calls more h))
quiet_admits_in _ _ (AdmitsIn.awaited c calls all h) = quiet_admits_in calls all h

quiet_stops : (call : Call) (g : List Told) (a : Answer) → Stops call g a → IsQuiet g
quiet_stops _ _ _ (Stops.closed call t a h) = one t (quiet_refused call t a h)
quiet_stops _ _ _ (Stops.no_place call all e) = subst IsQuiet (sym e) (quiet_spent call)
quiet_stops _ _ _ other = cons _ _ refl (one _ refl)

passed : (calls : List Call) → IsQuiet (map blocked calls)
passed calls = quiet_map blocked calls quiet_blocked

pub quiet_select : (calls : List Call) (g : List Told) (a : Answer) → SelectCall calls g a → IsQuiet g
quiet_select calls _ _ (SelectCall.chooses before later call group all a f h e) =
    subst IsQuiet (sym e) (quiet_then (map blocked before) group (passed before) (quiet_at_once call group a h))
quiet_select calls _ _ (SelectCall.meets_close before later call t all a f h e) =
    subst IsQuiet (sym e) (quiet_then (map blocked before) _ (passed before) (one t (quiet_refused call t a h)))
quiet_select calls _ _ (SelectCall.no_place before later c v all f e) =
    subst IsQuiet (sym e) (quiet_then (map blocked before) _ (passed before) (quiet_spent (sends c v)))
quiet_select calls _ _ (SelectCall.waits w group admits all h d e) =
    subst IsQuiet (sym e) (quiet_then (map blocked calls) _ (passed calls)
    (quiet_then group admits (quiet_places w 1 calls group h.places) (quiet_admits_in calls admits d)))
quiet_select calls _ _ (SelectCall.resolved w before later call group admits all f h d e) =
    subst IsQuiet (sym e) (quiet_then (map blocked calls) _ (passed calls)
    (quiet_then group _ (quiet_places w 1 before group h.places) (cons _ admits refl (quiet_admits_in before admits d))))
quiet_select calls _ _ (SelectCall.stops_at_first later call stop all a f h e) =
    subst IsQuiet (sym e) (quiet_then (map blocked calls) stop (passed calls) (quiet_stops call stop a h))
quiet_select calls _ _ (SelectCall.stops w before later call group stop admits all a f h s d e) =
    subst IsQuiet (sym e) (quiet_then (map blocked calls) _ (passed calls)
    (quiet_then ((group ++ stop) ++ revoked w) admits (quiet_then (group
    ++ stop) (revoked w) (quiet_then group stop (quiet_places w 1 before group h.places) (quiet_stops call stop a s))
    (cons _ _ refl (one _ refl))) (quiet_admits_in before admits d)))
quiet_select calls _ _ (SelectCall.stops_late w before later call group stop admits all a f h s d e) =
    subst IsQuiet (sym e) (quiet_then (map blocked calls) _ (passed calls)
    (quiet_then (group ++ stop) _ (quiet_then group stop (quiet_places w 1 before group h.places) (quiet_stops call stop a s))
    (cons _ admits refl (quiet_admits_in before admits d))))

pub quiet_gives_up : (w : _) (g : List Told) → GivesUp w g → IsQuiet g
quiet_gives_up w _ (GivesUp.withdrawn admits h) = cons _ _ refl (cons _ admits refl (quiet_admits _ admits h))
quiet_gives_up w _ (GivesUp.late admits h) = cons _ _ refl (cons _ admits refl (quiet_admits _ admits h))
quiet_gives_up w _ (GivesUp.late_undelivered v admits h) = cons _ _ refl (cons _ admits refl (quiet_admits _ admits h))
quiet_gives_up w _ other = one _ refl

pub quiet_refusal : (parent : ℕ) (b : Bool) (g : List Told) → NotAttached parent b g → IsQuiet g
quiet_refusal parent _ _ (NotAttached.parent_ended b) = cons _ _ refl (one _ refl)
quiet_refusal parent _ _ other = one _ refl

-- ---- pieces

-- the pass cancels nothing for a failure that could go up
pub data IsMild (k row : ℕ) (reason : Reason) (newly : Bool) : Type 0 where
  had_been : newly ≡ false → IsMild k row reason newly
  asked : reason ≡ reasons.Request → IsMild k row reason newly
  of_scope : row ≢ k → IsMild k row reason newly

abbrev pub IsOwnReason : Reason → Type 0
IsOwnReason (reasons.Child c) = ⊥
IsOwnReason other = Unit {0}

pub data JobPiece (p : Program) (k : ℕ) : List Told → Type 0 where
  quiet : (g : List Told) → IsQuiet g → JobPiece p k g
  attaches : (parent row : ℕ) (kind : JobKind) (tag : ℕ) (now : Bool) → JobPiece p k (did (Attach parent row kind tag now) ∷ [])
  starts : (row : ℕ) → JobPiece p k (did (Start row) ∷ [])
  passes : (row : ℕ) (reason : Reason) (newly : Bool) (g : List Told) → IsMild k row reason newly → IsOwnReason reason
      → Passes row reason newly g → JobPiece p k g
  fails : (f : ℕ) (up : List JobAct) (pass all : List Told) → Passes k (reasons.Own f) true pass → all ≡ pass
      ++ (map did up ++ on_jobs (FailedUp k up) ∷ []) → JobPiece p k all
  ends_body : (row v : ℕ) (chain : List Told) → Chain (base_of p) row chain → JobPiece p k (did (EndBody row v) ∷ chain)

pub data JobPieces (p : Program) (k : ℕ) : List Told → Type 0 where
  none : JobPieces p k []
  more : (g rest all : List Told) → JobPiece p k g → JobPieces p k rest → all ≡ g ++ rest → JobPieces p k all

pub pieces_then : (p : Program) (k : ℕ) (xs ys : List Told) → JobPieces p k xs → JobPieces p k ys → JobPieces p k (xs ++ ys)
pieces_then p k _ ys JobPieces.none b = b
pieces_then p k xs ys (JobPieces.more g rest _ a r e) b =
    JobPieces.more g (rest ++ ys) (xs ++ ys) a (pieces_then p k rest ys r b) (ap (λ l. l ++ ys) e ∙ append_assoc g rest ys)

alone : (p : Program) (k : ℕ) (g : List Told) → JobPiece p k g → JobPieces p k g
alone p k g h = JobPieces.more g [] g h JobPieces.none (sym (append-nil g))

silent : (p : Program) (k : ℕ) (g : List Told) → IsQuiet g → JobPieces p k g
silent p k g h = alone p k g (JobPiece.quiet g h)

start_pieces : (p : Program) (k row : ℕ) (g : List Told) → Starts row g → JobPieces p k g
start_pieces p k row _ Starts.now = JobPieces.more (did (Start row) ∷ []) (on_jobs (NotNew row) ∷ []) _ (JobPiece.starts row)
    (silent p k _ (one _ refl)) refl
start_pieces p k row _ Starts.before = silent p k _ (one _ refl)

both_pieces : (p : Program) (k row : ℕ) (g : List Told) (a : Answer) → StartsAndReceives p row g a → JobPieces p k g
both_pieces p k row g a (StartsAndReceives.both first group _ _ s c e) =
    subst (JobPieces p k) (sym e) (pieces_then p k first group (start_pieces p k row first s) (silent p k group (quiet_plain _ group a c)))

line_pieces : (p : Program) (k : ℕ) (x : Config) (i : _) (g : List Told) (a : Answer) → LineCalls p k x i g a → JobPieces p k g
line_pieces p k x _ _ _ (LineCalls.send c o g a h) = silent p k g (quiet_plain _ g a h)
line_pieces p k x _ _ _ (LineCalls.receive c g a h) = silent p k g (quiet_plain _ g a h)
line_pieces p k x _ _ _ (LineCalls.each c g a h) = silent p k g (quiet_plain _ g a h)
line_pieces p k x _ _ _ (LineCalls.trysend c o g a h) = silent p k g (quiet_try _ g a h)
line_pieces p k x _ _ _ (LineCalls.tryreceive c g a h) = silent p k g (quiet_try _ g a h)
line_pieces p k x _ _ _ (LineCalls.select g a h) = silent p k g (quiet_select _ g a h)
line_pieces p k x _ _ _ (LineCalls.join job row g a n h) =
    pieces_then p k (_ ∷ []) g (silent p k _ (one _ refl)) (both_pieces p k row g a h)
line_pieces p k x _ _ _ (LineCalls.await job row g a n h) = both_pieces p k row g a h

own_reason : (failure : Option ℕ) → IsOwnReason (reason_for failure)
own_reason None = tt
own_reason (Some f) = tt

break_pieces : (p : Program) (k row : ℕ) (failure : Option ℕ) (g : List Told) → Breaks k row failure g → JobPieces p k g
break_pieces p k row _ _ (Breaks.seen failure) = JobPieces.none
break_pieces p k row _ _ (Breaks.had_been failure g h) =
    alone p k g (JobPiece.passes row (reason_for failure) false g (IsMild.had_been refl) (own_reason failure) h)
break_pieces p k row _ _ (Breaks.asked g h) = alone p k g (JobPiece.passes row reasons.Request true g (IsMild.asked refl) tt h)
break_pieces p k row _ _ (Breaks.scope_fails f g n h) = alone p k g (JobPiece.passes row (reasons.Own f) true g (IsMild.of_scope n) tt h)
break_pieces p k row _ _ (Breaks.fails f up pass all e h q) =
    alone p k all (JobPiece.fails f up pass all (subst (λ r. Passes r (reasons.Own f) true pass) e h)
    (subst (λ r. all ≡ pass ++ (map did up ++ on_jobs (FailedUp r up) ∷ [])) e q))

end_pieces : (p : Program) (k row v : ℕ) (g : List Told) → EndsBody (base_of p) row v g → JobPieces p k g
end_pieces p k row v _ (EndsBody.ends_body chain c) = alone p k _ (JobPiece.ends_body row v chain c)

off_pieces : (p : Program) (k row : ℕ) (failure : Option ℕ) (g : List Told) → BreaksOff (base_of p) k row failure g → JobPieces p k g
off_pieces p k row failure g h = subst (JobPieces p k) (sym h.all)
    (pieces_then p k h.cancels _ (break_pieces p k row failure h.cancels h.breaks)
    (pieces_then p k (on_jobs (IsCancelling row) ∷ []) h.end (silent p k _ (one _ refl)) (end_pieces p k row 0 h.end h.ends)))

nothing : (p : Program) (k : ℕ) → JobPieces p k []
nothing p k = JobPieces.none

pub move_pieces : (p : Program) (k : ℕ) (x y : Config) (g : List Told) → Move p k x g y → JobPieces p k g
move_pieces p k _ _ _ (Move.calls x y i g a s h f) = line_pieces p k x i g a h
move_pieces p k _ _ _ (Move.resumes x y w i outcome a s l r f) = silent p k _ (cons _ _ refl (cons _ _ refl (one _ refl)))
move_pieces p k _ _ _ (Move.cancelled x w s) = silent p k _ (cons _ _ refl (one _ refl))
move_pieces p k _ _ _ (Move.gives_up x w g s h) = silent p k _ (cons _ g refl (quiet_gives_up w g h))
move_pieces p k _ _ _ (Move.closes x c g s h) = silent p k g (quiet_closes c 0 g h)
move_pieces p k _ _ _ (Move.cancels_channel x c g s h) = silent p k g (quiet_cancels c g h)
move_pieces p k _ _ _ (Move.launches x block how job now s) = alone p k _ (JobPiece.attaches _ _ _ _ _)
move_pieces p k _ _ _ (Move.launch_refused x block how job g s h) = silent p k g (quiet_refusal _ _ g h)
move_pieces p k _ _ _ (Move.enters x supervisor row now s) = alone p k _ (JobPiece.attaches _ _ _ _ _)
move_pieces p k _ _ _ (Move.enter_refused x supervisor g s h) = silent p k g (quiet_refusal _ _ g h)
move_pieces p k _ _ _ (Move.starts x job row g s n h) = start_pieces p k row g h
move_pieces p k _ _ _ (Move.cancels x job row newly g s n h) =
    alone p k g (JobPiece.passes row reasons.Request newly g (IsMild.asked refl) tt h)
move_pieces p k _ _ _ (Move.results x o s) = nothing p k
move_pieces p k _ _ _ (Move.repeats x n s) = nothing p k
move_pieces p k _ _ _ (Move.turns_again x head n es s e) = nothing p k
move_pieces p k _ _ _ (Move.turns_no_more x head es s e) = nothing p k
move_pieces p k _ _ _ (Move.receives_again x head es s e) = nothing p k
move_pieces p k _ _ _ (Move.ends_scope x y s end g all a l e h c f q) =
    subst (JobPieces p k) (sym q) (pieces_then p k end g (end_pieces p k s.row 0 end h) (silent p k g (quiet_plain _ g a c)))
move_pieces p k _ _ _ (Move.breaks_scope x y s failure break g all a l e h c f q) =
    subst (JobPieces p k) (sym q) (pieces_then p k break g (off_pieces p k s.row failure break h) (silent p k g (quiet_plain _ g a c)))
move_pieces p k _ _ _ (Move.breaks x failure g s e h) = off_pieces p k k failure g h
move_pieces p k _ _ _ (Move.ends x g s e h) = end_pieces p k k x.result g h
move_pieces p k _ _ _ other = silent p k _ (one _ refl)

spawn_pieces : (p : Program) (k : ℕ) (blocks : List ℕ) (x y : Config) (g : List Told) → Spawns p blocks x g y → JobPieces p k g
spawn_pieces p k _ _ _ _ (Spawns.done x) = nothing p k
spawn_pieces p k _ _ _ _ (Spawns.attaches block blocks x y now rest h) =
    JobPieces.more (_ ∷ []) rest _ (JobPiece.attaches _ _ _ _ _) (spawn_pieces p k blocks _ y rest h) refl
spawn_pieces p k _ _ _ _ (Spawns.refused block blocks x g h) = silent p k g (quiet_refusal _ _ g h)

begin_pieces : (p : Program) (k : ℕ) (g : List Told) (x : Config) → Begins p k g x → JobPieces p k g
begin_pieces p _ _ _ (Begins.root g x h) = spawn_pieces p 0 (spawned p) _ x g h
begin_pieces p _ _ _ (Begins.child k n) = nothing p k

-- all that a coroutine tells, from its beginning, comes in these pieces
pub all_pieces : (p : Program) (k : ℕ) (told : List Told) (x : Config) → Reaches p k told x → JobPieces p k told
all_pieces p k _ _ (Reaches.begins g x h) = begin_pieces p k g x h
all_pieces p k _ _ (Reaches.goes_on before g all x y r m e) =
    subst (JobPieces p k) (sym e) (pieces_then p k before g (all_pieces p k before x r) (move_pieces p k x y g m))
