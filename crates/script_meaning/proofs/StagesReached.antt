-- What a coroutine saw before it came to a stage: of its own Job, before it began; of an ended Job, before it unwinds by another's
-- failure; and that each Job that it has a name for is one that it attached.
use Rattle.std.specs.Prelude.{◌≡◌, ℕ, ◌<◌, ◌⊎◌, Bool, true, false, ◌||◌, List, [], ◌∷◌, ◌++◌, Some, None, slice_get, refl}
use Rattle.std.proofs.Common.{sym, ap, ◌∙◌, subst, inl, inr, ⊎_elim, append_assoc}
use Rattle.std.proofs.lemmas.Bool.{eq-eqb, or_right}
use Rattle.job_model.specs.declared.acts.Cause.TheVariants as because
use Rattle.job_model.specs.declared.acts.End.{End}
use Rattle.job_model.specs.declared.acts.End.TheVariants as ends
use Rattle.job_model.specs.declared.acts.JobAct.TheVariants.{Attach}
use Rattle.job_model.specs.Trees.{Shape}
use Rattle.call_meaning.specs.Telling.{Told, on_jobs, MayRun, did, saw, saw_end, items_in}
use Rattle.call_meaning.specs.ChannelCalls.{Answer}
use Rattle.call_meaning.specs.JobCalls.{child_kind}
use Rattle.script_grammar.specs.declared.instructions.Instruction.{Instruction}
use Rattle.script_grammar.specs.Programs.{Program}
use Rattle.script_grammar.specs.Tags.{spawned}
use Rattle.script_meaning.specs.declared.stage.Stage.{Stage}
use Rattle.script_meaning.specs.declared.stage.Stage.TheVariants.{Fresh, Running, Waiting, Unwinding}
use Rattle.script_meaning.specs.Configs.{Config, InScope, fresh, past_launch, innermost}
use Rattle.script_meaning.specs.Lines.{After, AfterAwait, AtScopeEnd, AfterScope, is_lazy}
use Rattle.script_meaning.specs.Moves.{Move}
use Rattle.script_meaning.specs.Books.{Spawns, Begins, Reaches}
use Rattle.script_meaning.specs.Bodies.{is_fresh}
use Rattle.script_meaning.proofs.NamedRows.{none_there, named_or_old, call_names, await_names, scope_end_names, past_scope_names}
use Rattle.script_meaning.proofs.BodiesTold.{acts_told, attaches_in, HasBegun, FailedBy, UnwindsBy}
use Rattle.script_meaning.proofs.FirstNotes.{first_told}
use Rattle.script_meaning.proofs.OwnActs.{AllMayCome, placed_first}
use Rattle.script_meaning.proofs.ScopesEntered.{attaches_then, AreLegal, legal_left, legal_right}

-- ---- where the coroutine has begun, it told that its Job might run, or was Cancelling

begun_before : (k : ℕ) (before group all : List Told) → all ≡ before ++ group → HasBegun k before → HasBegun k all
begun_before k before group all e (HasBegun.root z) = HasBegun.root z
begun_before k before group all e (HasBegun.might_run xs ys f) =
    HasBegun.might_run xs (ys ++ group) (e ∙ ap (λ l. l ++ group) f ∙ append_assoc xs (on_jobs (MayRun k) ∷ ys) group)
begun_before k before group all e (HasBegun.was_cancelling xs ys f) =
    HasBegun.was_cancelling xs (ys ++ group) (e ∙ ap (λ l. l ++ group) f ∙ append_assoc xs (saw k ∷ ys) group)

fresh_or : (s : Stage) → (s ≡ Fresh) ⊎ (is_fresh s ≡ false)
fresh_or Fresh = inl refl
fresh_or Running = inr refl
fresh_or other = inr refl

begins_begun : (p : Program) (k : ℕ) (group : List Told) (x : Config) → Begins p k group x → is_fresh x.stage ≡ false → HasBegun k group
begins_begun p _ _ _ (Begins.root group x s) e = HasBegun.root refl
begins_begun p _ _ _ (Begins.child k n) e = absurd (let no_way : ⊥ = cc in no_way)

begun_now : (k : ℕ) (before group all : List Told) → all ≡ before ++ group → (group ≡ on_jobs (MayRun k) ∷ []) ⊎ (group ≡ saw k ∷ [])
    → HasBegun k all
begun_now k before group all e (inl h) = HasBegun.might_run before [] (e ∙ ap (λ l. before ++ l) h)
begun_now k before group all e (inr h) = HasBegun.was_cancelling before [] (e ∙ ap (λ l. before ++ l) h)

pub reach_begun : (p : Program) (k : ℕ) (told : List Told) (x : Config) → Reaches p k told x → is_fresh x.stage ≡ false → HasBegun k told
reach_begun p k _ _ (Reaches.begins group x b) e = begins_begun p k group x b e
reach_begun p k _ _ (Reaches.goes_on before group all x y r m e) f =
    ⊎_elim
    (λ (h : x.stage ≡ Fresh). begun_now k before group all e (first_told p k x y group m h))
    (λ (h : is_fresh x.stage ≡ false). begun_before k before group all e (reach_begun p k before x r h))
    (fresh_or x.stage)

-- ---- a body breaks off by its own failure, by that of a Job which it saw ended, or as cancelled

goes_on_by : (p : Program) (k : ℕ) (x : Config) (i : Instruction) (a : Answer) (y : Config) (group : List Told) → x.stage ≡ Running
    → After p k x i a y → UnwindsBy k group y.stage
goes_on_by p k x _ _ _ group s (After.no_place i) = FailedBy.own refl
goes_on_by p k x _ _ _ group s After.looks_again = subst (UnwindsBy k group) (sym s) tt
goes_on_by p k x _ _ _ group s other = tt

resumes_by : (p : Program) (k : ℕ) (x : Config) (w : _) (i : Instruction) (a : Answer) (y : Config) (group : List Told)
    → x.stage ≡ Waiting w → After p k x i a y → UnwindsBy k group y.stage
resumes_by p k x w _ _ _ group s (After.no_place i) = FailedBy.own refl
resumes_by p k x w _ _ _ group s After.looks_again = subst (UnwindsBy k group) (sym s) tt
resumes_by p k x w _ _ _ group s other = tt

await_by : (k : ℕ) (x : Config) (row : ℕ) (end : End) (y : Config) → AfterAwait x end y → UnwindsBy k (saw_end row end ∷ []) y.stage
await_by k x row _ _ (AfterAwait.failed f) = FailedBy.seen row [] [] refl
await_by k x row _ _ other = tt

scope_end_by : (k : ℕ) (x : Config) (s : InScope) (a : Answer) (y : Config) (group : List Told) → AtScopeEnd k x s a y
    → UnwindsBy k group y.stage
scope_end_by k x s _ _ group AtScopeEnd.no_place = FailedBy.own refl
scope_end_by k x s _ _ group other = tt

scope_by : (p : Program) (k : ℕ) (x : Config) (s : InScope) (end : End) (y : Config) → AfterScope p k x s end y
    → UnwindsBy k (saw_end s.row end ∷ []) y.stage
scope_by p k x s _ _ (AfterScope.failed f) = FailedBy.seen s.row [] [] refl
scope_by p k x s _ _ other = tt

move_by : (p : Program) (k : ℕ) (x : Config) (group : List Told) (y : Config) → Move p k x group y → UnwindsBy k group y.stage
move_by p k _ _ _ (Move.calls x y i g a at h f) = goes_on_by p k x i a y g at.stage f
move_by p k _ _ _ (Move.resumes x y w i outcome a s l r f) = resumes_by p k x w i a y _ s f
move_by p k _ _ _ (Move.sees_job x y job row end s l n f) = await_by k x row end y f
move_by p k _ _ _ (Move.launch_refused x block how job g at h) = FailedBy.own refl
move_by p k _ _ _ (Move.enter_refused x supervisor g at h) = FailedBy.own refl
move_by p k _ _ _ (Move.fails x v at) = FailedBy.own refl
move_by p k _ _ _ (Move.ends_scope x y s end g all a at e h c f q) = scope_end_by k x s a y all f
move_by p k _ _ _ (Move.sees_scope x y s end l e f) = scope_by p k x s end y f
move_by p k _ _ _ (Move.breaks_scope x y s failure break g all a l e h c f q) = scope_end_by k x s a y all f
move_by p k _ _ _ other = tt

spawns_by : (p : Program) (blocks : List ℕ) (x : Config) (group : List Told) (y : Config) → UnwindsBy 0 [] x.stage → (x.stage ≡ Fresh)
    → Spawns p blocks x group y → (told : List Told) → UnwindsBy 0 told y.stage
spawns_by p _ _ _ _ h s (Spawns.done x) told = subst (UnwindsBy 0 told) (sym s) tt
spawns_by p _ _ _ _ h s (Spawns.attaches block blocks x y now more rest) told =
    spawns_by p blocks (past_launch p block None x) more y h s rest told
spawns_by p _ _ _ _ h s (Spawns.refused block blocks x group g) told = FailedBy.own refl

begins_by : (p : Program) (k : ℕ) (group : List Told) (x : Config) → Begins p k group x → UnwindsBy k group x.stage
begins_by p _ _ _ (Begins.root group x s) = spawns_by p (spawned p) (fresh 0) group x tt refl s group
begins_by p _ _ _ (Begins.child k n) = tt

failed_later : (k : ℕ) (before group all : List Told) (f : ℕ) → all ≡ before ++ group → FailedBy k group f → FailedBy k all f
failed_later k before group all f e (FailedBy.own z) = FailedBy.own z
failed_later k before group all f e (FailedBy.seen row xs ys h) =
    FailedBy.seen row (before ++ xs) ys (e ∙ ap (λ l. before ++ l) h
    ∙ sym (append_assoc before xs (saw_end row (ends.Cancelled (because.Failure f)) ∷ ys)))

unwinds_later : (k : ℕ) (before group all : List Told) (s : Stage) → all ≡ before ++ group → UnwindsBy k group s → UnwindsBy k all s
unwinds_later k before group all (Unwinding None) e h = tt
unwinds_later k before group all (Unwinding (Some f)) e h = failed_later k before group all f e h
unwinds_later k before group all other e h = tt

-- the failure by which it unwinds is its own, or that of a Job that it saw ended by it
pub reach_fails : (p : Program) (k : ℕ) (told : List Told) (x : Config) → Reaches p k told x → UnwindsBy k told x.stage
reach_fails p k _ _ (Reaches.begins group x b) = begins_by p k group x b
reach_fails p k _ _ (Reaches.goes_on before group all x y r m e) = unwinds_later k before group all y.stage e (move_by p k x group y m)

-- ---- each name means a row that the coroutine attached, that of a coroutine

-- the group attaches the row as that of a coroutine
pub record AttachesForName (k r : ℕ) (group : List Told) : Type 0 where
  pub parent : ℕ
  pub lazy : Bool
  pub now : Bool
  pub is : group ≡ did (Attach parent r (child_kind lazy) r now) ∷ []

-- a name means a row that it meant before, or one that is attached now
abbrev pub OldOrNew : ℕ → ℕ → ℕ → Config → List Told → Type 0
OldOrNew k i r x group = (slice_get x.rows i ≡ Some r) ⊎ AttachesForName k r group

old : (k i r : ℕ) (x y : Config) (group : List Told) → y.rows ≡ x.rows → slice_get y.rows i ≡ Some r → OldOrNew k i r x group
old k i r x y group e h = inl (subst (λ rows. slice_get rows i ≡ Some r) e h)

move_rows : (p : Program) (k i r : ℕ) (x : Config) (group : List Told) (y : Config) → Move p k x group y → slice_get y.rows i ≡ Some r
    → OldOrNew k i r x group
move_rows p k i r _ _ _ (Move.calls x y l g a at h f) z = old k i r x y g (call_names p k x l a y f).0 z
move_rows p k i r _ _ _ (Move.resumes x y w l outcome a s at m f) z = old k i r x y _ (call_names p k x l a y f).0 z
move_rows p k i r _ _ _ (Move.sees_job x y job row end s l n f) z = old k i r x y _ (await_names x end y f).0 z
move_rows p k i r _ _ _ (Move.launches x block how job now at) z =
    ⊎_elim
    (λ (e : r ≡ x.free). inr (record {
      parent = innermost k x;
      lazy = is_lazy how;
      now = now;
      is =
          ap (λ q. did (Attach (innermost k x) q (child_kind (is_lazy how)) q now) ∷ []) (sym e);
    }))
    (λ (e : slice_get x.rows i ≡ Some r). inl e)
    (named_or_old job x.free x.rows i r z)
move_rows p k i r _ _ _ (Move.ends_scope x y s end g all a at e h c f q) z = old k i r x y all (scope_end_names k x s a y f).0 z
move_rows p k i r _ _ _ (Move.sees_scope x y s end l e f) z = old k i r x y _ (past_scope_names p k x s end y f).0 z
move_rows p k i r _ _ _ (Move.breaks_scope x y s failure break g all a l e h c f q) z = old k i r x y all (scope_end_names k x s a y f).0 z
move_rows p k i r _ _ _ other z = inl z

spawns_rows : (p : Program) (blocks : List ℕ) (x : Config) (group : List Told) (y : Config) → Spawns p blocks x group y → y.rows ≡ x.rows
spawns_rows p _ _ _ _ (Spawns.attaches block blocks x y now more rest) = spawns_rows p blocks (past_launch p block None x) more y rest
spawns_rows p _ _ _ _ other = refl

begins_rows : (p : Program) (k : ℕ) (group : List Told) (x : Config) → Begins p k group x → x.rows ≡ []
begins_rows p _ _ _ (Begins.root group x s) = spawns_rows p (spawned p) (fresh 0) group x s
begins_rows p _ _ _ (Begins.child k n) = refl

launched_now : (k r : ℕ) (group : List Told) → AttachesForName k r group → attaches_in r group ≡ true
unfolding items_in
launched_now k r group h = ap (attaches_in r) h.is ∙ ap (λ b. b || false) (eq-eqb r r refl)

-- each name means a row that the coroutine attached
pub reach_rows : (p : Program) (k : ℕ) (told : List Told) (x : Config) (i r : ℕ) → Reaches p k told x → slice_get x.rows i ≡ Some r
    → attaches_in r told ≡ true
reach_rows p k _ _ i r (Reaches.begins group x b) h = none_there i r
    (subst (λ rows. slice_get rows i ≡ Some r) (begins_rows p k group x b) h)
reach_rows p k _ _ i r (Reaches.goes_on before group all x y q m e) h =
    ap (attaches_in r) e ∙ attaches_then r before group
    ∙ ⊎_elim
    (λ (f : slice_get x.rows i ≡ Some r). ap (λ b. b || attaches_in r group) (reach_rows p k before x i r q f))
    (λ (f : AttachesForName k r group). or_right (attaches_in r before) (attaches_in r group) (launched_now k r group f))
    (move_rows p k i r x group y m h)

launched_low : (shape : Shape) (k r : ℕ) (before group : List Told) → AttachesForName k r group
    → AllMayCome shape k (acts_told before) (acts_told group) → r < shape.coroutines
unfolding items_in
launched_low shape k r before group h placed = (placed_first shape k (acts_told before) [] _
    (subst (λ g. AllMayCome shape k (acts_told before) (acts_told g)) h.is placed)).2

-- and it is that of a coroutine
pub reach_low : (p : Program) (k : ℕ) (shape : Shape) (told : List Told) (x : Config) (i r : ℕ) → AreLegal shape k told → Reaches p k told x
    → slice_get x.rows i ≡ Some r → r < shape.coroutines
reach_low p k shape _ _ i r l (Reaches.begins group x b) h =
    none_there i r (subst (λ rows. slice_get rows i ≡ Some r) (begins_rows p k group x b) h)
reach_low p k shape _ _ i r l (Reaches.goes_on before group all x y q m e) h =
    let legal = subst (AreLegal shape k) e l in
    ⊎_elim
    (λ (f : slice_get x.rows i ≡ Some r). reach_low p k shape before x i r (legal_left shape k before group legal) q f)
    (λ (f : AttachesForName k r group). launched_low shape k r before group f (legal_right shape k before group legal))
    (move_rows p k i r x group y m h)
