-- Which bodies the acts of a coroutine end, wherever its moves lead it: its own where it has ended, and that of its innermost scope where
-- it leaves that; and that each scope it has entered is one that it attached.
use Rattle.std.specs.Prelude.{◌≡◌, ℕ, ◌+◌, ◌==◌, ◌<◌, ◌≤◌, Bool, true, false, ◌||◌, List, [], ◌∷◌, ◌++◌, map, Option, Some, None, refl}
use Rattle.std.specs.List.{list_any}
use Rattle.std.proofs.Common.{sym, ap, ◌∙◌, subst, arith, append_assoc}
use Rattle.std.proofs.lemmas.Bool.{eqb-true, eq-eqb, or_from, or_right}
use Rattle.std.proofs.lemmas.Bool.Decides.{nat_tests}
use Rattle.std.proofs.lemmas.List.Folds.{list_any-append}
use Rattle.std.proofs.Math.Bool.{or-false}
use Rattle.job_model.specs.declared.acts.End.{End}
use Rattle.job_model.specs.declared.acts.Reason.{Reason}
use Rattle.job_model.specs.declared.acts.JobAct.{JobAct}
use Rattle.job_model.specs.declared.acts.JobAct.TheVariants.{Attach, Start, EndBody, Cancel, Finish, Gone}
use Rattle.job_model.specs.declared.acts.JobNote.{JobNote}
use Rattle.job_model.specs.declared.acts.JobNote.TheVariants as known
use Rattle.job_model.specs.Acts.{ends_body, attaches}
use Rattle.job_model.specs.Cancels.{own_cancel}
use Rattle.job_model.specs.Trees.{Shape, is_among}
use Rattle.note_book.specs.declared.book.Item.TheVariants as item
use Rattle.note_book.specs.Items.{job_act, job_acts_in}
use Rattle.note_book.proofs.Appended.{job_acts_in-append}
use Rattle.call_meaning.specs.Telling.{Told, note, on_channels, on_jobs, MayRun, PassedBelow, FailedUp, IsCancelling, ParentIs, did, items_in}
use Rattle.call_meaning.specs.ChannelCalls.{Answer}
use Rattle.call_meaning.specs.JobCalls.{scope_kind, Starts, Passes, Breaks, reason_for, Chain, EndsBody, BreaksOff}
use Rattle.script_grammar.specs.declared.instructions.Instruction.{Instruction}
use Rattle.script_grammar.specs.Programs.{Program}
use Rattle.script_grammar.specs.Tags.{spawned}
use Rattle.script_meaning.specs.Shapes.{base_of}
use Rattle.script_meaning.specs.Configs.{Config, Entered, in_repeat, in_each, in_scope, InScope, fresh, past_launch, scope_in, innermost, row_or}
use Rattle.script_meaning.specs.Lines.{LineCalls, StartsAndReceives, After, AfterAwait, AtScopeEnd, AfterScope}
use Rattle.script_meaning.specs.Moves.{Move}
use Rattle.script_meaning.specs.Books.{Spawns, Begins, Reaches}
use Rattle.script_meaning.specs.Bodies.{is_over, is_leaving}
use Rattle.script_meaning.proofs.BodiesTold.{acts_told, ends_in, attaches_in, scope_rows, first_or, IsOwnScope, AreEntered}
use Rattle.script_meaning.proofs.BooksGoOn.{items_in-append}
use Rattle.script_meaning.proofs.JobPieces.{IsQuiet, job_told, act_in_note, quiet_plain, quiet_try, quiet_select, quiet_gives_up, quiet_closes, quiet_cancels, quiet_refusal}
use Rattle.script_meaning.proofs.JobDebts.{Parents, AllKnown, AreCancels, known_left, known_right, cancels_then}
use Rattle.script_meaning.proofs.OwnActs.{MayComeNext, AllMayCome, placed_left, placed_right, placed_first}

-- ---- acts on Jobs, put one behind the other

pub acts_told-append : (xs ys : List Told) → acts_told (xs ++ ys) ≡ acts_told xs ++ acts_told ys
acts_told-append xs ys = ap job_acts_in (items_in-append xs ys) ∙ job_acts_in-append (items_in xs) (items_in ys)

pub ends_then : (row : ℕ) (xs ys : List Told) → ends_in row (xs ++ ys) ≡ (ends_in row xs || ends_in row ys)
ends_then row xs ys = ap (list_any (ends_body row)) (acts_told-append xs ys) ∙ list_any-append (ends_body row) (acts_told xs) (acts_told ys)

pub attaches_then : (row : ℕ) (xs ys : List Told) → attaches_in row (xs ++ ys) ≡ (attaches_in row xs || attaches_in row ys)
attaches_then row xs ys = ap (list_any (attaches row)) (acts_told-append xs ys)
    ∙ list_any-append (attaches row) (acts_told xs) (acts_told ys)

act_none : (n : JobNote) → act_in_note n ≡ None → job_act n ≡ []
act_none (known.Made act) h = absurd (let no_way : ⊥ = cc in no_way)
act_none (known.Saw row) h = refl
act_none other h = refl

pub quiet_acts : (group : List Told) → IsQuiet group → acts_told group ≡ []
unfolding IsQuiet items_in
quiet_acts [] h = refl
quiet_acts (note (item.Channel n) ∷ ts) h = quiet_acts ts h.1
quiet_acts (note (item.Job n) ∷ ts) h = ap (λ l. l ++ job_acts_in (items_in ts)) (act_none n h.0) ∙ quiet_acts ts h.1
quiet_acts (on_channels fact ∷ ts) h = quiet_acts ts h.1
quiet_acts (on_jobs fact ∷ ts) h = quiet_acts ts h.1

-- ---- groups that end no body

-- no act of the group ends a body
abbrev pub NoneEnds : List Told → Type 0
NoneEnds group = (row : ℕ) → ends_in row group ≡ false

-- that of this row is the one body that it ends
abbrev pub EndsJust : ℕ → List Told → Type 0
EndsJust row group = (r : ℕ) → ends_in r group ≡ (r == row)

pub none_then : (xs ys : List Told) → NoneEnds xs → NoneEnds ys → NoneEnds (xs ++ ys)
none_then xs ys h k r = ends_then r xs ys ∙ or_from _ _ (h r) (k r)

none_as : (xs ys : List Told) → xs ≡ ys → NoneEnds ys → NoneEnds xs
none_as xs ys e h r = ap (ends_in r) e ∙ h r

pub quiet_none : (group : List Told) → IsQuiet group → NoneEnds group
quiet_none group h r = ap (list_any (ends_body r)) (quiet_acts group h)

cancels_none : (acts : List JobAct) → AreCancels acts → NoneEnds (map did acts)
unfolding AreCancels items_in
cancels_none [] h r = refl
cancels_none (Attach p q kind tag now ∷ acts) h r = absurd h.0
cancels_none (Start q ∷ acts) h r = absurd h.0
cancels_none (EndBody q v ∷ acts) h r = absurd h.0
cancels_none (Cancel q reason ∷ acts) h r = cancels_none acts h.1 r
cancels_none (Finish q end ∷ acts) h r = absurd h.0
cancels_none (Gone q ∷ acts) h r = absurd h.0

own_cancels : (newly : Bool) (row : ℕ) (reason : Reason) → AreCancels (own_cancel newly row reason)
unfolding AreCancels
own_cancels true row reason = (tt, tt)
own_cancels false row reason = tt

-- a pass makes no act but Cancels
pub passed_cancels : (parents : Parents) (row : ℕ) (reason : Reason) (newly : Bool) (g : List Told) → AllKnown parents g
    → (h : Passes row reason newly g) → AreCancels (own_cancel newly row reason ++ h.below)
unfolding AllKnown
passed_cancels parents row reason newly g k h =
    let acts = own_cancel newly row reason ++ h.below in
    let below : AreCancels h.below = (known_right parents (map did acts) (on_jobs (PassedBelow row h.below) ∷ [])
    (subst (AllKnown parents) h.all k)).0.0 in
    cancels_then (own_cancel newly row reason) h.below (own_cancels newly row reason) below

-- nor does a failure that goes up
pub failed_cancels : (parents : Parents) (row : ℕ) (up : List JobAct) → AllKnown parents (map did up ++ on_jobs (FailedUp row up) ∷ [])
    → AreCancels up
unfolding AllKnown
failed_cancels parents row up k = (known_right parents (map did up) (on_jobs (FailedUp row up) ∷ []) k).0.0

fact_none : (fact : _) → NoneEnds (on_jobs fact ∷ [])
unfolding items_in
fact_none fact r = refl

passes_none : (parents : Parents) (row : ℕ) (reason : Reason) (newly : Bool) (g : List Told) → AllKnown parents g
    → Passes row reason newly g → NoneEnds g
passes_none parents row reason newly g k h =
    none_as g _ h.all (none_then (map did (own_cancel newly row reason ++ h.below)) (on_jobs (PassedBelow row h.below) ∷ [])
    (cancels_none _ (passed_cancels parents row reason newly g k h)) (fact_none _))

breaks_none : (parents : Parents) (k row : ℕ) (failure : Option ℕ) (g : List Told) → AllKnown parents g → Breaks k row failure g
    → NoneEnds g
unfolding items_in
breaks_none parents k row _ _ q (Breaks.seen failure) = λ r. refl
breaks_none parents k row _ _ q (Breaks.had_been failure g h) = passes_none parents row (reason_for failure) false g q h
breaks_none parents k row _ _ q (Breaks.asked g h) = passes_none parents row _ true g q h
breaks_none parents k row _ _ q (Breaks.scope_fails f g ne h) = passes_none parents row _ true g q h
breaks_none parents k row _ _ q (Breaks.fails f up pass all e h is) =
    let parts = subst (AllKnown parents) is q in
    let rest = map did up ++ on_jobs (FailedUp row up) ∷ [] in
    let later = known_right parents pass rest parts in
    none_as all _ is (none_then pass rest (passes_none parents row _ true pass (known_left parents pass rest parts) h)
    (none_then (map did up) (on_jobs (FailedUp row up) ∷ []) (cancels_none up (failed_cancels parents row up later))
    (fact_none (FailedUp row up))))

starts_none : (row : ℕ) (g : List Told) → Starts row g → NoneEnds g
unfolding items_in
starts_none row _ Starts.now r = refl
starts_none row _ Starts.before r = refl

both_none : (p : Program) (row : ℕ) (g : List Told) (a : Answer) → StartsAndReceives p row g a → NoneEnds g
both_none p row _ _ (StartsAndReceives.both starts group all a s c e) =
    none_as all _ e (none_then starts group (starts_none row starts s) (quiet_none group (quiet_plain _ group a c)))

line_none : (p : Program) (k : ℕ) (x : Config) (i : Instruction) (g : List Told) (a : Answer) → LineCalls p k x i g a → NoneEnds g
line_none p k x _ _ _ (LineCalls.send c o g a h) = quiet_none g (quiet_plain _ g a h)
line_none p k x _ _ _ (LineCalls.receive c g a h) = quiet_none g (quiet_plain _ g a h)
line_none p k x _ _ _ (LineCalls.each c g a h) = quiet_none g (quiet_plain _ g a h)
line_none p k x _ _ _ (LineCalls.trysend c o g a h) = quiet_none g (quiet_try _ g a h)
line_none p k x _ _ _ (LineCalls.tryreceive c g a h) = quiet_none g (quiet_try _ g a h)
line_none p k x _ _ _ (LineCalls.select g a h) = quiet_none g (quiet_select _ g a h)
line_none p k x _ _ _ (LineCalls.join job row g a n h) =
    none_then (on_jobs (MayRun (innermost k x)) ∷ []) g (fact_none _) (both_none p row g a h)
line_none p k x _ _ _ (LineCalls.await job row g a n h) = both_none p row g a h

-- ---- groups that end one

chain_none : (base row : ℕ) (g : List Told) → Chain base row g → NoneEnds g
unfolding items_in
chain_none base _ _ (Chain.stops row) r = refl
chain_none base _ _ (Chain.root end closes h) r = quiet_none closes (quiet_closes _ _ closes h) r
chain_none base _ _ (Chain.goes_up row parent end closes more all ne h rest e) r =
    ap (ends_in r) e ∙ none_then closes (did (Gone row) ∷ on_jobs (ParentIs row parent) ∷ more)
    (quiet_none closes (quiet_closes _ _ closes h)) (λ q. chain_none base parent more rest q) r

end_just : (base row v : ℕ) (g : List Told) → EndsBody base row v g → EndsJust row g
unfolding items_in
end_just base row v _ (EndsBody.ends_body chain c) r = ap (λ b. (r == row) || b) (chain_none base row chain c r) ∙ or-false (r == row)

none_first : (xs ys : List Told) (row : ℕ) → NoneEnds xs → EndsJust row ys → EndsJust row (xs ++ ys)
none_first xs ys row h k r = ends_then r xs ys ∙ ap (λ b. b || ends_in r ys) (h r) ∙ k r

none_last : (xs ys : List Told) (row : ℕ) → EndsJust row xs → NoneEnds ys → EndsJust row (xs ++ ys)
none_last xs ys row h k r = ends_then r xs ys ∙ ap (λ b. ends_in r xs || b) (k r) ∙ or-false (ends_in r xs) ∙ h r

just_as : (xs ys : List Told) (row : ℕ) → xs ≡ ys → EndsJust row ys → EndsJust row xs
just_as xs ys row e h r = ap (ends_in r) e ∙ h r

break_just : (parents : Parents) (base k row : ℕ) (failure : Option ℕ) (g : List Told) → AllKnown parents g → BreaksOff base k row failure g
    → EndsJust row g
break_just parents base k row failure g q h =
    let known : AllKnown parents h.cancels = known_left parents h.cancels (on_jobs (IsCancelling row) ∷ h.end)
    (subst (AllKnown parents) h.all q) in
    just_as g _ row h.all
    (none_first h.cancels (on_jobs (IsCancelling row) ∷ h.end) row (breaks_none parents k row failure h.cancels known h.breaks)
    (none_first (on_jobs (IsCancelling row) ∷ []) h.end row (fact_none _) (end_just base row 0 h.end h.ends)))

-- ---- rows of scopes

pub found_rows : (es : List Entered) (s : InScope) → scope_in es ≡ Some s → scope_rows es ≡ s.row ∷ scope_rows s.around
unfolding scope_rows
found_rows [] s h = cc
found_rows (in_repeat head left ∷ es) s h = found_rows es s h
found_rows (in_each head ∷ es) s h = found_rows es s h
found_rows (in_scope head row ∷ es) s h = let is : record { head = head; row = row; around = es } ≡ s = cc
    in ap (λ (z : InScope). z.row ∷ scope_rows z.around) is

pub rows_found : (es : List Entered) (row : ℕ) (rows : List ℕ) → scope_rows es ≡ row ∷ rows → (s : InScope)
    × ((scope_in es ≡ Some s) × (s.row ≡ row) × (scope_rows s.around ≡ rows))
unfolding scope_rows
rows_found [] row rows h = cc
rows_found (in_repeat head left ∷ es) row rows h = rows_found es row rows h
rows_found (in_each head ∷ es) row rows h = rows_found es row rows h
rows_found (in_scope head r ∷ es) row rows h = (
  record { head = head; row = r; around = es },
  (refl, (let e : r ≡ row = cc in e), (let e : scope_rows es ≡ rows = cc in e)),
)

first_scope : (k : ℕ) (es : List Entered) → row_or k (scope_in es) ≡ first_or k (scope_rows es)
unfolding scope_rows
first_scope k [] = refl
first_scope k (in_repeat head left ∷ es) = first_scope k es
first_scope k (in_each head ∷ es) = first_scope k es
first_scope k (in_scope head row ∷ es) = refl

-- the innermost row is the first of the scopes' rows, or k
pub innermost_first : (k : ℕ) (x : Config) → innermost k x ≡ first_or k (scope_rows x.entered)
innermost_first k x = first_scope k x.entered

-- ---- what a move does with bodies and scopes

pub data BodyStep (k : ℕ) (x : Config) (group : List Told) (y : Config) : Type 0 where
  -- no body ends, and no scope is entered or left
  stays : NoneEnds group → scope_rows y.entered ≡ scope_rows x.entered → is_leaving y.stage ≡ is_leaving x.stage → is_over y.stage ≡ false
      → BodyStep k x group y
  -- a scope is entered
  enters : (row : ℕ) (supervisor now : Bool) → group ≡ did (Attach (innermost k x) row (scope_kind supervisor) k now) ∷ []
      → scope_rows y.entered ≡ row ∷ scope_rows x.entered → is_leaving x.stage ≡ false → is_leaving y.stage ≡ false
      → is_over y.stage ≡ false → BodyStep k x group y
  -- the body of the innermost scope ends, which is left later, or at once
  ends_scope : (row : ℕ) (around : List ℕ) → EndsJust row group → scope_rows x.entered ≡ row ∷ around → is_leaving x.stage ≡ false
      → scope_rows y.entered ≡ row ∷ around → is_leaving y.stage ≡ true → is_over y.stage ≡ false → BodyStep k x group y
  skips_scope : (row : ℕ) (around : List ℕ) → EndsJust row group → scope_rows x.entered ≡ row ∷ around → is_leaving x.stage ≡ false
      → scope_rows y.entered ≡ around → is_leaving y.stage ≡ false → is_over y.stage ≡ false → BodyStep k x group y
  -- the scope whose body has ended is left
  leaves : (row : ℕ) (around : List ℕ) → NoneEnds group → scope_rows x.entered ≡ row ∷ around → is_leaving x.stage ≡ true
      → scope_rows y.entered ≡ around → is_leaving y.stage ≡ false → is_over y.stage ≡ false → BodyStep k x group y
  -- its own body ends
  ends : EndsJust k group → scope_rows y.entered ≡ scope_rows x.entered → is_leaving x.stage ≡ false → is_leaving y.stage ≡ false
      → is_over y.stage ≡ true → BodyStep k x group y

-- where it goes on after a line it has entered the same scopes, and leaves none
pub record StaysIn (x y : Config) : Type 0 where
  pub rows : scope_rows y.entered ≡ scope_rows x.entered
  pub here : is_leaving y.stage ≡ false
  pub goes : is_over y.stage ≡ false

after_line : (p : Program) (k : ℕ) (x : Config) (i : Instruction) (a : Answer) (y : Config) → is_leaving x.stage ≡ false
    → is_over x.stage ≡ false → After p k x i a y → StaysIn x y
unfolding scope_rows
after_line p k x _ _ _ l o After.looks_again = record { rows = refl; here = l; goes = o }
after_line p k x _ _ _ l o other = record { rows = refl; here = refl; goes = refl }

after_await : (x : Config) (end : End) (y : Config) → AfterAwait x end y → StaysIn x y
after_await x _ _ (AfterAwait.completed v) = record { rows = refl; here = refl; goes = refl }
after_await x _ _ AfterAwait.cancelled = record { rows = refl; here = refl; goes = refl }
after_await x _ _ (AfterAwait.failed f) = record { rows = refl; here = refl; goes = refl }

stays_in : (k : ℕ) (x : Config) (group : List Told) (y : Config) → NoneEnds group → is_leaving x.stage ≡ false → StaysIn x y
    → BodyStep k x group y
stays_in k x group y h l s = BodyStep.stays h s.rows (s.here ∙ sym l) s.goes

at_end : (k : ℕ) (x : Config) (s : InScope) (group : List Told) (a : Answer) (y : Config) → EndsJust s.row group
    → is_leaving x.stage ≡ false → scope_rows x.entered ≡ s.row ∷ scope_rows s.around → AtScopeEnd k x s a y → BodyStep k x group y
at_end k x s group _ _ h l e AtScopeEnd.no_place = BodyStep.skips_scope s.row (scope_rows s.around) h e l refl refl refl
at_end k x s group _ _ h l e other = BodyStep.ends_scope s.row (scope_rows s.around) h e l e refl refl

left_behind : (p : Program) (k : ℕ) (x : Config) (s : InScope) (group : List Told) (end : End) (y : Config) → NoneEnds group
    → is_leaving x.stage ≡ true → scope_rows x.entered ≡ s.row ∷ scope_rows s.around → AfterScope p k x s end y → BodyStep k x group y
left_behind p k x s group _ _ h l e (AfterScope.completed v at is) = BodyStep.leaves s.row (scope_rows s.around) h e l refl refl refl
left_behind p k x s group _ _ h l e AfterScope.cancelled = BodyStep.leaves s.row (scope_rows s.around) h e l refl refl refl
left_behind p k x s group _ _ h l e (AfterScope.failed f) = BodyStep.leaves s.row (scope_rows s.around) h e l refl refl refl

-- ---- each move

none_at_all : NoneEnds []
unfolding items_in
none_at_all r = refl

one_quiet : (t : Told) → job_told t ≡ None → NoneEnds (t ∷ [])
unfolding IsQuiet
one_quiet t h = quiet_none (t ∷ []) (h, tt)

two_quiet : (t u : Told) → job_told t ≡ None → job_told u ≡ None → NoneEnds (t ∷ u ∷ [])
unfolding IsQuiet
two_quiet t u h k = quiet_none (t ∷ u ∷ []) (h, (k, tt))

three_quiet : (t u v : Told) → job_told t ≡ None → job_told u ≡ None → job_told v ≡ None → NoneEnds (t ∷ u ∷ v ∷ [])
unfolding IsQuiet
three_quiet t u v h k l = quiet_none (t ∷ u ∷ v ∷ []) (h, (k, (l, tt)))

first_quiet : (t : Told) (g : List Told) → job_told t ≡ None → IsQuiet g → NoneEnds (t ∷ g)
unfolding IsQuiet
first_quiet t g h k = quiet_none (t ∷ g) (h, k)

attach_none : (parent row : ℕ) (kind : _) (tag : ℕ) (now : Bool) → NoneEnds (did (Attach parent row kind tag now) ∷ [])
unfolding items_in
attach_none parent row kind tag now r = refl

entered_same : (x : Config) (a b : Entered) (es : List Entered) → x.entered ≡ a ∷ es → scope_rows (b ∷ es) ≡ scope_rows (a ∷ es)
    → scope_rows (b ∷ es) ≡ scope_rows x.entered
entered_same x a b es e h = h ∙ sym (ap scope_rows e)

-- whoever moves has not ended
pub move_open : (p : Program) (k : ℕ) (x : Config) (group : List Told) (y : Config) → Move p k x group y → is_over x.stage ≡ false
move_open p k _ _ _ (Move.runs x s) = ap is_over s
move_open p k _ _ _ (Move.never_runs x s) = ap is_over s
move_open p k _ _ _ (Move.calls x y i g a at h f) = ap is_over at.stage
move_open p k _ _ _ (Move.resumes x y w i outcome a s l r f) = ap is_over s
move_open p k _ _ _ (Move.cancelled x w s) = ap is_over s
move_open p k _ _ _ (Move.gives_up x w g s h) = ap is_over s
move_open p k _ _ _ (Move.sees_job x y job row end s l n f) = ap is_over s
move_open p k _ _ _ (Move.closes x c g at h) = ap is_over at.stage
move_open p k _ _ _ (Move.cancels_channel x c g at h) = ap is_over at.stage
move_open p k _ _ _ (Move.yields x at) = ap is_over at.stage
move_open p k _ _ _ (Move.stops_at_yield x at) = ap is_over at.stage
move_open p k _ _ _ (Move.stops_at_join x job at) = ap is_over at.stage
move_open p k _ _ _ (Move.launches x block how job now at) = ap is_over at.stage
move_open p k _ _ _ (Move.launch_refused x block how job g at h) = ap is_over at.stage
move_open p k _ _ _ (Move.enters x supervisor row now at) = ap is_over at.stage
move_open p k _ _ _ (Move.enter_refused x supervisor g at h) = ap is_over at.stage
move_open p k _ _ _ (Move.starts x job row g at n h) = ap is_over at.stage
move_open p k _ _ _ (Move.cancels x job row newly g at n h) = ap is_over at.stage
move_open p k _ _ _ (Move.fails x v at) = ap is_over at.stage
move_open p k _ _ _ (Move.results x o at) = ap is_over at.stage
move_open p k _ _ _ (Move.repeats x n at) = ap is_over at.stage
move_open p k _ _ _ (Move.turns_again x head n es at e) = ap is_over at.stage
move_open p k _ _ _ (Move.turns_no_more x head es at e) = ap is_over at.stage
move_open p k _ _ _ (Move.receives_again x head es at e) = ap is_over at.stage
move_open p k _ _ _ (Move.ends_scope x y s end g all a at e h c f q) = ap is_over at.stage
move_open p k _ _ _ (Move.scope_ended x w n v s) = ap is_over s
move_open p k _ _ _ (Move.sees_scope x y s end l e f) = ap is_over l
move_open p k _ _ _ (Move.breaks_scope x y s failure break g all a l e h c f q) = ap is_over l
move_open p k _ _ _ (Move.breaks x failure g s e h) = ap is_over s
move_open p k _ _ _ (Move.ends x g s e h) = ap is_over s

pub move_step : (p : Program) (k : ℕ) (parents : Parents) (x : Config) (group : List Told) (y : Config) → AllKnown parents group
    → Move p k x group y → BodyStep k x group y
unfolding scope_rows
move_step p k parents _ _ _ q (Move.runs x s) = BodyStep.stays (fact_none _) refl (sym (ap is_leaving s)) refl
move_step p k parents _ _ _ q (Move.never_runs x s) = BodyStep.stays (one_quiet _ refl) refl (sym (ap is_leaving s)) refl
move_step p k parents _ _ _ q (Move.calls x y i g a at h f) =
    stays_in k x g y (line_none p k x i g a h) (ap is_leaving at.stage)
    (after_line p k x i a y (ap is_leaving at.stage) (ap is_over at.stage) f)
move_step p k parents _ _ _ q (Move.resumes x y w i outcome a s l r f) =
    stays_in k x _ y (three_quiet _ _ _ refl refl refl) (ap is_leaving s) (after_line p k x i a y (ap is_leaving s) (ap is_over s) f)
move_step p k parents _ _ _ q (Move.cancelled x w s) = BodyStep.stays (two_quiet _ _ refl refl) refl (sym (ap is_leaving s)) refl
move_step p k parents _ _ _ q (Move.gives_up x w g s h) =
    BodyStep.stays (first_quiet _ g refl (quiet_gives_up w g h)) refl (sym (ap is_leaving s)) refl
move_step p k parents _ _ _ q (Move.sees_job x y job row end s l n f) =
    stays_in k x _ y (one_quiet _ refl) (ap is_leaving s) (after_await x end y f)
move_step p k parents _ _ _ q (Move.closes x c g at h) =
    BodyStep.stays (quiet_none g (quiet_closes c 0 g h)) refl (sym (ap is_leaving at.stage)) refl
move_step p k parents _ _ _ q (Move.cancels_channel x c g at h) =
    BodyStep.stays (quiet_none g (quiet_cancels c g h)) refl (sym (ap is_leaving at.stage)) refl
move_step p k parents _ _ _ q (Move.yields x at) = BodyStep.stays (fact_none _) refl (sym (ap is_leaving at.stage)) refl
move_step p k parents _ _ _ q (Move.stops_at_yield x at) = BodyStep.stays (one_quiet _ refl) refl (sym (ap is_leaving at.stage)) refl
move_step p k parents _ _ _ q (Move.stops_at_join x job at) = BodyStep.stays (one_quiet _ refl) refl (sym (ap is_leaving at.stage)) refl
move_step p k parents _ _ _ q (Move.launches x block how job now at) =
    BodyStep.stays (attach_none _ _ _ _ _) refl (sym (ap is_leaving at.stage)) refl
move_step p k parents _ _ _ q (Move.launch_refused x block how job g at h) =
    BodyStep.stays (quiet_none g (quiet_refusal _ _ g h)) refl (sym (ap is_leaving at.stage)) refl
move_step p k parents _ _ _ q (Move.enters x supervisor row now at) =
    BodyStep.enters row supervisor now refl refl (ap is_leaving at.stage) refl refl
move_step p k parents _ _ _ q (Move.enter_refused x supervisor g at h) =
    BodyStep.stays (quiet_none g (quiet_refusal _ _ g h)) refl (sym (ap is_leaving at.stage)) refl
move_step p k parents _ _ _ q (Move.starts x job row g at n h) =
    BodyStep.stays (starts_none row g h) refl (sym (ap is_leaving at.stage)) refl
move_step p k parents _ _ _ q (Move.cancels x job row newly g at n h) =
    BodyStep.stays (passes_none parents row _ newly g q h) refl (sym (ap is_leaving at.stage)) refl
move_step p k parents _ _ _ q (Move.fails x v at) = BodyStep.stays (one_quiet _ refl) refl (sym (ap is_leaving at.stage)) refl
move_step p k parents _ _ _ q (Move.results x o at) = BodyStep.stays none_at_all refl (sym (ap is_leaving at.stage)) refl
move_step p k parents _ _ _ q (Move.repeats x n at) = BodyStep.stays none_at_all refl (sym (ap is_leaving at.stage)) refl
move_step p k parents _ _ _ q (Move.turns_again x head n es at e) =
    BodyStep.stays none_at_all (entered_same x (in_repeat head (n + 1)) (in_repeat head n) es e refl) (sym (ap is_leaving at.stage)) refl
move_step p k parents _ _ _ q (Move.turns_no_more x head es at e) =
    BodyStep.stays none_at_all (sym (ap scope_rows e)) (sym (ap is_leaving at.stage)) refl
move_step p k parents _ _ _ q (Move.receives_again x head es at e) =
    BodyStep.stays none_at_all (sym (ap scope_rows e)) (sym (ap is_leaving at.stage)) refl
move_step p k parents _ _ _ q (Move.ends_scope x y s end g all a at e h c f z) =
    at_end k x s all a y (just_as all _ s.row z (none_last end g s.row (end_just (base_of p) s.row 0 end h)
    (quiet_none g (quiet_plain _ g a c)))) (ap is_leaving at.stage) (ap scope_rows e) f
move_step p k parents _ _ _ q (Move.scope_ended x w n v s) = BodyStep.stays (one_quiet _ refl) refl (sym (ap is_leaving s)) refl
move_step p k parents _ _ _ q (Move.sees_scope x y s end l e f) =
    left_behind p k x s _ end y (one_quiet _ refl) (ap is_leaving l) (found_rows x.entered s e) f
move_step p k parents _ _ _ q (Move.breaks_scope x y s failure break g all a l e h c f z) =
    let known : AllKnown parents break = known_left parents break g (subst (AllKnown parents) z q) in
    at_end k x s all a y (just_as all _ s.row z (none_last break g s.row (break_just parents (base_of p) k s.row failure break known h)
    (quiet_none g (quiet_plain _ g a c)))) (ap is_leaving l) (found_rows x.entered s e) f
move_step p k parents _ _ _ q (Move.breaks x failure g s e h) =
    BodyStep.ends (break_just parents (base_of p) k k failure g q h) refl (ap is_leaving s) refl refl
move_step p k parents _ _ _ q (Move.ends x g s e h) = BodyStep.ends (end_just (base_of p) k x.result g h) refl (ap is_leaving s) refl refl

-- ---- wherever moves lead

-- all that was told so far is legal where it stands
abbrev pub AreLegal : Shape → ℕ → List Told → Type 0
AreLegal shape k told = AllMayCome shape k [] (acts_told told)

pub legal_left : (shape : Shape) (k : ℕ) (before group : List Told) → AreLegal shape k (before ++ group) → AreLegal shape k before
legal_left shape k before group h = placed_left shape k [] (acts_told before) (acts_told group)
    (subst (AllMayCome shape k []) (acts_told-append before group) h)

pub legal_right : (shape : Shape) (k : ℕ) (before group : List Told) → AreLegal shape k (before ++ group)
    → AllMayCome shape k (acts_told before) (acts_told group)
legal_right shape k before group h = placed_right shape k [] (acts_told before) (acts_told group)
    (subst (AllMayCome shape k []) (acts_told-append before group) h)

-- what it has entered
abbrev pub HasEntered : Shape → ℕ → List Told → Config → Type 0
HasEntered shape k told x = AreEntered shape k told (is_leaving x.stage) (scope_rows x.entered)

scope_later : (shape : Shape) (k : ℕ) (before group : List Told) (parent row : ℕ) → IsOwnScope shape k before parent row
    → IsOwnScope shape k (before ++ group) parent row
scope_later shape k before group parent row h = record {
  supervisor = h.supervisor;
  now = h.now;
  before = h.before;
  behind = h.behind ++ acts_told group;
  attached = acts_told-append before group ∙ ap (λ l. l ++ acts_told group) h.attached
      ∙ append_assoc h.before (Attach parent row (scope_kind h.supervisor) k h.now ∷ h.behind) (acts_told group);
  own = h.own;
  scoped = h.scoped;
  within = h.within;
}

-- a scope's row was attached
scope_attached : (shape : Shape) (k : ℕ) (told : List Told) (parent row : ℕ) → IsOwnScope shape k told parent row
    → attaches_in row told ≡ true
scope_attached shape k told parent row h =
    ap (list_any (attaches row)) h.attached ∙ list_any-append (attaches row) h.before
    (Attach parent row (scope_kind h.supervisor) k h.now ∷ h.behind)
    ∙ or_right (list_any (attaches row) h.before) _ (ap (λ b. b || list_any (attaches row) h.behind) (eq-eqb row row refl))

-- where no body of these scopes ends
entered_later : (shape : Shape) (k : ℕ) (before group : List Told) (ended : Bool) (rows : List ℕ)
    → ((r : ℕ) → is_among r rows ≡ true → ends_in r group ≡ false) → AreEntered shape k before ended rows
    → AreEntered shape k (before ++ group) ended rows
unfolding AreEntered
entered_later shape k before group ended [] n h = h
entered_later shape k before group ended (row ∷ rows) n h = (
  scope_later shape k before group (first_or k rows) row h.0,
  ends_then row before group ∙ ap (λ b. ends_in row before || b) (n row (ap (λ b. b || is_among row rows) (eq-eqb row row refl)))
      ∙ or-false (ends_in row before) ∙ h.1,
  h.2,
  entered_later shape k before group false rows (λ r e. n r (or_right (r == row) (is_among r rows) e)) h.3,
)

all_attached : (shape : Shape) (k : ℕ) (told : List Told) (ended : Bool) (rows : List ℕ) (r : ℕ) → AreEntered shape k told ended rows
    → is_among r rows ≡ true → attaches_in r told ≡ true
unfolding AreEntered
all_attached shape k told ended [] r h e = cc
all_attached shape k told ended (row ∷ rows) r h e = by_test (r == row) refl e (all_attached shape k told false rows r h.3)
  where
    by_test : (b : Bool) → (r == row) ≡ b → (b || is_among r rows) ≡ true → (is_among r rows ≡ true → attaches_in r told ≡ true)
        → attaches_in r told ≡ true
    by_test true k m more = subst (λ z. attaches_in z told ≡ true) (sym (eqb-true r row k)) (scope_attached shape _ told _ row h.0)
    by_test false k m more = more m

-- a row that was not attached is none of these
not_among : (shape : Shape) (k : ℕ) (told : List Told) (ended : Bool) (rows : List ℕ) (r : ℕ) → AreEntered shape k told ended rows
    → attaches_in r told ≡ false → is_among r rows ≡ false
not_among shape k told ended rows r h e = by_test (is_among r rows) refl
  where
    by_test : (b : Bool) → is_among r rows ≡ b → b ≡ false
    by_test true m = absurd (let u : true ≡ false = sym (all_attached shape k told ended rows r h m) ∙ e in cc)
    by_test false m = refl

-- k is none of them
pub own_apart : (shape : Shape) (k : ℕ) (told : List Told) (ended : Bool) (rows : List ℕ) (r : ℕ) → AreEntered shape k told ended rows
    → is_among r rows ≡ true → (k == r) ≡ false
unfolding AreEntered
own_apart shape k told ended [] r h e = cc
own_apart shape k told ended (row ∷ rows) r h e = by_test (r == row) refl e (own_apart shape k told false rows r h.3)
  where
    by_test : (b : Bool) → (r == row) ≡ b → (b || is_among r rows) ≡ true → (is_among r rows ≡ true → (k == r) ≡ false) → (k == r) ≡ false
    by_test true m n more = let z : r ≡ row = eqb-true r row m in let lt : k < shape.coroutines = h.0.own
        in let le : shape.coroutines ≤ row = h.0.scoped in grind (arith, nat_tests)
    by_test false m n more = more n

apart : (r row : ℕ) (rows : List ℕ) → is_among row rows ≡ false → is_among r rows ≡ true → (r == row) ≡ false
apart r row rows e m = by_test (r == row) refl
  where
    by_test : (b : Bool) → (r == row) ≡ b → b ≡ false
    by_test true k = absurd (let z : r ≡ row = eqb-true r row k in let u : true ≡ false = sym m ∙ ap (λ q. is_among q rows) z ∙ e in cc)
    by_test false k = refl

-- the scope that is entered
entered_now : (shape : Shape) (k : ℕ) (before : List Told) (rows : List ℕ) (row : ℕ) (supervisor now : Bool)
    → MayComeNext shape k (acts_told before) (Attach (first_or k rows) row (scope_kind supervisor) k now)
    → AreEntered shape k before false rows
    → AreEntered shape k (before ++ did (Attach (first_or k rows) row (scope_kind supervisor) k now) ∷ []) false (row ∷ rows)
unfolding AreEntered items_in
entered_now shape k before rows row supervisor now placed h =
    let group : List Told = did (Attach (first_or k rows) row (scope_kind supervisor) k now) ∷ [] in (
      record {
        supervisor = supervisor;
        now = now;
        before = acts_told before;
        behind = [];
        attached = acts_told-append before group;
        own = placed.2;
        scoped = placed.3.1;
        within = placed.3.2;
      },
      ends_then row before group ∙ or_from _ _ placed.1 refl,
      not_among shape k before false rows row h placed.0,
      entered_later shape k before group false rows (λ r e. refl) h,
    )

entered_as : (shape : Shape) (k : ℕ) (told : List Told) (a b : Bool) (xs ys : List ℕ) → a ≡ b → xs ≡ ys → AreEntered shape k told b ys
    → AreEntered shape k told a xs
entered_as shape k told a b xs ys e f h = subst (λ c. AreEntered shape k told c xs) (sym e) (subst (AreEntered shape k told b) (sym f) h)

-- the innermost body ends
entered_ends : (shape : Shape) (k : ℕ) (before group : List Told) (row : ℕ) (around : List ℕ) → EndsJust row group
    → AreEntered shape k before false (row ∷ around) → AreEntered shape k (before ++ group) true (row ∷ around)
unfolding AreEntered
entered_ends shape k before group row around n h = (
  scope_later shape k before group (first_or k around) row h.0,
  ends_then row before group ∙ or_right (ends_in row before) (ends_in row group) (n row ∙ eq-eqb row row refl),
  h.2,
  entered_later shape k before group false around (λ r e. n r ∙ apart r row around h.2 e) h.3,
)

-- it is left
entered_left : (shape : Shape) (k : ℕ) (before group : List Told) (ended : Bool) (row : ℕ) (around : List ℕ)
    → ((r : ℕ) → is_among r around ≡ true → ends_in r group ≡ false) → AreEntered shape k before ended (row ∷ around)
    → AreEntered shape k (before ++ group) false around
unfolding AreEntered
entered_left shape k before group ended row around n h = entered_later shape k before group false around n h.3

rows_apart : (shape : Shape) (k : ℕ) (told : List Told) (ended : Bool) (row : ℕ) (around : List ℕ)
    → AreEntered shape k told ended (row ∷ around) → is_among row around ≡ false
unfolding AreEntered
rows_apart shape k told ended row around h = h.2

step_entered : (shape : Shape) (k : ℕ) (before : List Told) (x : Config) (group : List Told) (y : Config) → BodyStep k x group y
    → AllMayCome shape k (acts_told before) (acts_told group) → HasEntered shape k before x → HasEntered shape k (before ++ group) y
unfolding items_in
step_entered shape k before x group y (BodyStep.stays n rows same_end over) placed h =
    entered_as shape k (before ++ group) _ _ _ _ same_end rows (entered_later shape k before group _ _ (λ r e. n r) h)
step_entered shape k before x group y (BodyStep.enters row supervisor now is rows l m over) placed h =
    let parent : innermost k x ≡ first_or k (scope_rows x.entered) = innermost_first k x in
    let group_is : group ≡ did (Attach (first_or k (scope_rows x.entered)) row (scope_kind supervisor) k now) ∷ [] = is
    ∙ ap (λ z. did (Attach z row (scope_kind supervisor) k now) ∷ []) parent in
    let first = placed_first shape k (acts_told before) [] _
    (subst (λ g. AllMayCome shape k (acts_told before) (acts_told g)) group_is placed) in
    let open_before : AreEntered shape k before false (scope_rows x.entered) = entered_as shape k before _ _ _ _ (sym l) refl h in
    entered_as shape k (before ++ group) _ _ _ _ m rows
    (subst (λ g. AreEntered shape k (before ++ g) false (row ∷ scope_rows x.entered)) (sym group_is)
    (entered_now shape k before (scope_rows x.entered) row supervisor now first open_before))
step_entered shape k before x group y (BodyStep.ends_scope row around n rows l after m over) placed h =
    entered_as shape k (before ++ group) _ _ _ _ m after (entered_ends shape k before group row around n
    (entered_as shape k before _ _ _ _ (sym l) (sym rows) h))
step_entered shape k before x group y (BodyStep.skips_scope row around n rows l after m over) placed h =
    let was : AreEntered shape k before false (row ∷ around) = entered_as shape k before _ _ _ _ (sym l) (sym rows) h in
    entered_as shape k (before ++ group) _ _ _ _ m after (entered_left shape k before group false row around (λ r e. n r
    ∙ apart r row around (rows_apart shape k before false row around was) e) was)
step_entered shape k before x group y (BodyStep.leaves row around n rows l after m over) placed h =
    entered_as shape k (before ++ group) _ _ _ _ m after (entered_left shape k before group true row around (λ r e. n r)
    (entered_as shape k before _ _ _ _ (sym l) (sym rows) h))
step_entered shape k before x group y (BodyStep.ends n rows l m over) placed h =
    let was : AreEntered shape k before false (scope_rows x.entered) = entered_as shape k before _ _ _ _ (sym l) refl h in
    entered_as shape k (before ++ group) _ _ _ _ m rows (entered_later shape k before group false (scope_rows x.entered) (λ r e. n r
    ∙ turned k r (own_apart shape k before false (scope_rows x.entered) r was e)) was)
  where
    turned : (k r : ℕ) → (k == r) ≡ false → (r == k) ≡ false
    turned k r e = grind (arith, nat_tests)

-- ---- the beginning

spawns_nothing : (p : Program) (blocks : List ℕ) (x : Config) (group : List Told) (y : Config) → StaysIn x x → Spawns p blocks x group y
    → StaysIn x y × NoneEnds group
unfolding items_in
spawns_nothing p _ _ _ _ h (Spawns.done x) = (h, λ r. refl)
spawns_nothing p _ _ _ _ h (Spawns.attaches block blocks x y now more rest) =
    let later = spawns_nothing p blocks (past_launch p block None x) more y (record { rows = refl; here = h.here; goes = h.goes }) rest in
    (record { rows = later.0.rows; here = later.0.here; goes = later.0.goes }, λ r. later.1 r)
spawns_nothing p _ _ _ _ h (Spawns.refused block blocks x group g) =
    (record { rows = refl; here = refl; goes = refl }, quiet_none group (quiet_refusal _ _ group g))

-- nothing is entered at the beginning, and no body has ended
begins_nothing : (p : Program) (k : ℕ) (group : List Told) (x : Config) → Begins p k group x → (scope_rows x.entered ≡ [])
    × (is_leaving x.stage ≡ false) × (is_over x.stage ≡ false) × NoneEnds group
unfolding scope_rows items_in
begins_nothing p _ _ _ (Begins.root group x s) = let h =
    spawns_nothing p (spawned p) (fresh 0) group x (record { rows = refl; here = refl; goes = refl }) s
    in (h.0.rows, h.0.here, h.0.goes, h.1)
begins_nothing p _ _ _ (Begins.child k n) = (refl, refl, refl, λ r. refl)

none_entered : (shape : Shape) (k : ℕ) (told : List Told) → AreEntered shape k told false []
unfolding AreEntered
none_entered shape k told = refl

-- ---- the laws

-- each scope that it has entered is one that it attached, and whose body has not ended, but where it leaves the innermost one
pub reach_scopes : (p : Program) (k : ℕ) (shape : Shape) (parents : Parents) (told : List Told) (x : Config) → AllKnown parents told
    → AreLegal shape k told → Reaches p k told x → HasEntered shape k told x
reach_scopes p k shape parents _ _ q l (Reaches.begins group x b) = let h = begins_nothing p k group x b
    in entered_as shape k group _ _ _ _ h.1 h.0 (none_entered shape k group)
reach_scopes p k shape parents _ _ q l (Reaches.goes_on before group all x y r m e) =
    let known = subst (AllKnown parents) e q in
    let legal = subst (AreLegal shape k) e l in
    let was = reach_scopes p k shape parents before x (known_left parents before group known) (legal_left shape k before group legal) r in
    subst (λ t. HasEntered shape k t y) (sym e) (step_entered shape k before x group y
    (move_step p k parents x group y (known_right parents before group known) m) (legal_right shape k before group legal) was)

own_step : (shape : Shape) (k : ℕ) (before : List Told) (x : Config) (group : List Told) (y : Config) → BodyStep k x group y
    → HasEntered shape k before x → ends_in k group ≡ is_over y.stage
unfolding items_in
own_step shape k before x group y (BodyStep.stays n rows same_end over) h = n k ∙ sym over
own_step shape k before x group y (BodyStep.enters row supervisor now is rows l m over) h = ap (ends_in k) is ∙ sym over
own_step shape k before x group y (BodyStep.ends_scope row around n rows l after m over) h =
    n k ∙ own_apart shape k before (is_leaving x.stage) (scope_rows x.entered) row h (ap (is_among row) rows
    ∙ ap (λ b. b || is_among row around) (eq-eqb row row refl)) ∙ sym over
own_step shape k before x group y (BodyStep.skips_scope row around n rows l after m over) h =
    n k ∙ own_apart shape k before (is_leaving x.stage) (scope_rows x.entered) row h (ap (is_among row) rows
    ∙ ap (λ b. b || is_among row around) (eq-eqb row row refl)) ∙ sym over
own_step shape k before x group y (BodyStep.leaves row around n rows l after m over) h = n k ∙ sym over
own_step shape k before x group y (BodyStep.ends n rows l m over) h = n k ∙ eq-eqb k k refl ∙ sym over

-- a coroutine ended its body exactly where it has ended
pub reach_ends : (p : Program) (k : ℕ) (shape : Shape) (parents : Parents) (told : List Told) (x : Config) → AllKnown parents told
    → AreLegal shape k told → Reaches p k told x → ends_in k told ≡ is_over x.stage
reach_ends p k shape parents _ _ q l (Reaches.begins group x b) = let h = begins_nothing p k group x b in h.3 k ∙ sym h.2
reach_ends p k shape parents _ _ q l (Reaches.goes_on before group all x y r m e) =
    let known = subst (AllKnown parents) e q in
    let legal = subst (AreLegal shape k) e l in
    let first = known_left parents before group known in
    let before_legal = legal_left shape k before group legal in
    let was = reach_scopes p k shape parents before x first before_legal r in
    ap (ends_in k) e ∙ ends_then k before group
    ∙ ap (λ b. b || ends_in k group) (reach_ends p k shape parents before x first before_legal r ∙ move_open p k x group y m)
    ∙ own_step shape k before x group y (move_step p k parents x group y (known_right parents before group known) m) was

-- where it leaves a scope, there is one
pub leaves_scope : (shape : Shape) (k : ℕ) (told : List Told) (x : Config) → HasEntered shape k told x → is_leaving x.stage ≡ true
    → (s : InScope) × (scope_in x.entered ≡ Some s)
unfolding AreEntered
leaves_scope shape k told x h l = by_rows (scope_rows x.entered) refl (subst (λ b. AreEntered shape k told b (scope_rows x.entered)) l h)
  where
    by_rows : (rows : List ℕ) → scope_rows x.entered ≡ rows → AreEntered shape k told true rows → (s : InScope)
        × (scope_in x.entered ≡ Some s)
    by_rows [] e m = cc
    by_rows (row ∷ rows) e m = let f = rows_found x.entered row rows e in (f.0, f.1.0)
