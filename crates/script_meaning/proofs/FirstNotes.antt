-- How a coroutine begins, and what its first note says of how its Job was attached.
use mathlib.Core.List.{IsPrefix}
use Rattle.std.specs.Prelude.{◌≡◌, ◌≢◌, ℕ, ◌==◌, ◌⊎◌, Bool, true, false, ◌||◌, List, [], ◌∷◌, ◌++◌, Option, Some, None, refl, is_some}
use Rattle.std.proofs.Common.{sym, ap, ◌∙◌, subst, inl, inr, ⊎_elim, arith}
use Rattle.std.proofs.lemmas.Bool.Decides.{nat_tests}
use Rattle.job_model.specs.declared.acts.JobState.TheVariants.{Cancelling}
use Rattle.job_model.specs.declared.acts.JobEntry.{JobEntry}
use Rattle.job_model.specs.Trees.{Job, Shape, state_of}
use Rattle.job_model.specs.Acts.{attaches, starts as starts_row}
use Rattle.job_model.specs.Laws.{has}
use Rattle.job_model.specs.Histories.{replay, Legal}
use Rattle.job_model.proofs.Histories.{Legal-prefix}
use Rattle.job_model.proofs.Ends.{by_entries}
use Rattle.note_book.specs.declared.book.Item.{Item}
use Rattle.call_meaning.specs.Telling.{Told, on_jobs, MayRun, saw, items_in}
use Rattle.call_meaning.specs.Facts.{IsRunning}
use Rattle.call_meaning.specs.Stories.{Moment, beginning, IsTrue}
use Rattle.script_grammar.specs.Programs.{Program}
use Rattle.script_meaning.specs.declared.stage.Stage.TheVariants as stage
use Rattle.script_meaning.specs.Shapes.{job_shape}
use Rattle.script_meaning.specs.Configs.{Config}
use Rattle.script_meaning.specs.Moves.{Move}
use Rattle.script_meaning.specs.Books.{Begins, Reaches, Runs, story}
use Rattle.script_meaning.specs.Laws.{IsSawFirst, BeginsAsAttached}
use Rattle.script_meaning.proofs.Origins.{active_origin, some_origin, has_later, origin_later}

-- ---- what is told first

-- k told nothing and is fresh; or it told first that its Job might run, or that it saw it Cancelling
pub data BeginsBy (k : ℕ) (told : List Told) (x : Config) : Type 0 where
  fresh : told ≡ [] → x.stage ≡ stage.Fresh → BeginsBy k told x
  runs : (more : List Told) → told ≡ on_jobs (MayRun k) ∷ more → BeginsBy k told x
  sees : (more : List Told) → told ≡ saw k ∷ more → BeginsBy k told x

not_running : (x : Config) → x.stage ≡ stage.Running → x.stage ≡ stage.Fresh → ⊥
not_running x e f = let q : stage.Running ≡ stage.Fresh = sym e ∙ f in cc

not_waiting : (x : Config) (w : _) → x.stage ≡ stage.Waiting w → x.stage ≡ stage.Fresh → ⊥
not_waiting x w e f = let q : stage.Waiting w ≡ stage.Fresh = sym e ∙ f in cc

-- the first move of a coroutine tells one of these
pub first_told : (p : Program) (k : ℕ) (x y : Config) (g : List Told) → Move p k x g y → x.stage ≡ stage.Fresh
    → (g ≡ on_jobs (MayRun k) ∷ []) ⊎ (g ≡ saw k ∷ [])
first_told p k _ _ _ (Move.runs x s) f = inl refl
first_told p k _ _ _ (Move.never_runs x s) f = inr refl
first_told p k _ _ _ (Move.calls x y i g a s h z) f = absurd (not_running x s.stage f)
first_told p k _ _ _ (Move.resumes x y w i outcome a s l r z) f = absurd (not_waiting x w s f)
first_told p k _ _ _ (Move.cancelled x w s) f = absurd (not_waiting x w s f)
first_told p k _ _ _ (Move.gives_up x w g s h) f = absurd (not_waiting x w s f)
first_told p k _ _ _ (Move.sees_job x y job row end s l n z) f = absurd (let q : stage.SeesJob ≡ stage.Fresh = sym s ∙ f in cc)
first_told p k _ _ _ (Move.closes x c g s h) f = absurd (not_running x s.stage f)
first_told p k _ _ _ (Move.cancels_channel x c g s h) f = absurd (not_running x s.stage f)
first_told p k _ _ _ (Move.yields x s) f = absurd (not_running x s.stage f)
first_told p k _ _ _ (Move.stops_at_yield x s) f = absurd (not_running x s.stage f)
first_told p k _ _ _ (Move.stops_at_join x job s) f = absurd (not_running x s.stage f)
first_told p k _ _ _ (Move.launches x block how job now s) f = absurd (not_running x s.stage f)
first_told p k _ _ _ (Move.launch_refused x block how job g s h) f = absurd (not_running x s.stage f)
first_told p k _ _ _ (Move.enters x supervisor row now s) f = absurd (not_running x s.stage f)
first_told p k _ _ _ (Move.enter_refused x supervisor g s h) f = absurd (not_running x s.stage f)
first_told p k _ _ _ (Move.starts x job row g s n h) f = absurd (not_running x s.stage f)
first_told p k _ _ _ (Move.cancels x job row newly g s n h) f = absurd (not_running x s.stage f)
first_told p k _ _ _ (Move.fails x v s) f = absurd (not_running x s.stage f)
first_told p k _ _ _ (Move.results x o s) f = absurd (not_running x s.stage f)
first_told p k _ _ _ (Move.repeats x n s) f = absurd (not_running x s.stage f)
first_told p k _ _ _ (Move.turns_again x head n es s e) f = absurd (not_running x s.stage f)
first_told p k _ _ _ (Move.turns_no_more x head es s e) f = absurd (not_running x s.stage f)
first_told p k _ _ _ (Move.receives_again x head es s e) f = absurd (not_running x s.stage f)
first_told p k _ _ _ (Move.ends_scope x y s end g all a l e h c z q) f = absurd (not_running x l.stage f)
first_told p k _ _ _ (Move.scope_ended x w n v s) f = absurd (let q : stage.Leaving w ≡ stage.Fresh = sym s ∙ f in cc)
first_told p k _ _ _ (Move.sees_scope x y s end l e z) f = absurd (let q : stage.SeesScope ≡ stage.Fresh = sym l ∙ f in cc)
first_told p k _ _ _ (Move.breaks_scope x y s failure break g all a l e h c z q) f =
    absurd (let q : stage.Unwinding failure ≡ stage.Fresh = sym l ∙ f in cc)
first_told p k _ _ _ (Move.breaks x failure g s e h) f = absurd (let q : stage.Unwinding failure ≡ stage.Fresh = sym s ∙ f in cc)
first_told p k _ _ _ (Move.ends x g s e h) f = absurd (not_running x s f)

more_told : (k : ℕ) (before g all : List Told) (x y : Config) → all ≡ before ++ g
    → (x.stage ≡ stage.Fresh → (g ≡ on_jobs (MayRun k) ∷ []) ⊎ (g ≡ saw k ∷ [])) → BeginsBy k before x → BeginsBy k all y
more_told k before g all x y e first (BeginsBy.fresh none f) =
    let is : all ≡ g = e ∙ ap (λ l. l ++ g) none in
    ⊎_elim (λ (h : g ≡ on_jobs (MayRun k) ∷ []). BeginsBy.runs [] (is ∙ h)) (λ (h : g ≡ saw k ∷ []). BeginsBy.sees [] (is ∙ h)) (first f)
more_told k before g all x y e first (BeginsBy.runs more h) = BeginsBy.runs (more ++ g) (e ∙ ap (λ l. l ++ g) h)
more_told k before g all x y e first (BeginsBy.sees more h) = BeginsBy.sees (more ++ g) (e ∙ ap (λ l. l ++ g) h)

at_first : (p : Program) (k : ℕ) (g : List Told) (x : Config) → k ≢ 0 → Begins p k g x → BeginsBy k g x
at_first p _ _ _ n (Begins.root g x s) = absurd (n refl)
at_first p _ _ _ n (Begins.child k m) = BeginsBy.fresh refl refl

pub begins_by : (p : Program) (k : ℕ) (told : List Told) (x : Config) → k ≢ 0 → Reaches p k told x → BeginsBy k told x
begins_by p k _ _ n (Reaches.begins g x h) = at_first p k g x n h
begins_by p k _ _ n (Reaches.goes_on before g all x y r m e) =
    more_told k before g all x y e (first_told p k x y g m) (begins_by p k before x n r)

-- ---- how its Job was attached

legal_at : (shape : Shape) (xs ys : List JobEntry) → IsPrefix xs ys → Legal shape ys → Legal shape xs
legal_at shape xs ys longer legal = Legal-prefix shape xs longer.0 (subst (Legal shape) (sym longer.1) legal)

ran : (shape : Shape) (k : ℕ) (at jobs : List JobEntry) (book : List Item) → Legal shape jobs → k ≢ 0 → IsPrefix at jobs
    → IsRunning (replay at k) → BeginsAsAttached k jobs book
ran shape k at jobs book l n longer h = by_row (replay at k) refl h
  where
    by_row : (o : Option Job) → replay at k ≡ o → IsRunning o → BeginsAsAttached k jobs book
    by_row None e m = absurd m
    by_row (Some j) e m =
        let was = active_origin shape at k j (legal_at shape at jobs longer l) e m n in
        record {
          origin = (was.kind, false);
          attached = origin_later k at jobs (was.kind, false) longer was.origin;
          saw_first = λ never. absurd (⊎_elim (λ (q : false ≡ true). let z : false ≡ true = q
              in cc) (λ (q : (was.kind.lazy ≡ true) × (has starts_row k jobs ≡ false)). let s =
              has_later starts_row k at jobs longer (was.started q.0) in let z = q.1 in cc) never);
        }

cancelling_there : (o : Option Job) → state_of o ≡ Some Cancelling → is_some o ≡ true
cancelling_there None h = cc
cancelling_there (Some j) h = refl

not_root : (k : ℕ) (b : Bool) → k ≢ 0 → ((k == 0) || b) ≡ true → b ≡ true
not_root k b n h = by_test (k == 0) refl h
  where
    by_test : (t : Bool) → (k == 0) ≡ t → (t || b) ≡ true → b ≡ true
    by_test true e h = absurd (n (grind (arith, nat_tests)))
    by_test false e h = h

saw_it : (shape : Shape) (k : ℕ) (at jobs : List JobEntry) (book : List Item) → Legal shape jobs → k ≢ 0 → IsPrefix at jobs
    → state_of (replay at k) ≡ Some Cancelling → IsSawFirst k book → BeginsAsAttached k jobs book
saw_it shape k at jobs book l n longer h first =
    let rows = (by_entries shape at k (legal_at shape at jobs longer l)).attached in
    let has_it : has attaches k at ≡ true = not_root k (has attaches k at) n (sym rows ∙ cancelling_there (replay at k) h) in
    let o = some_origin k at has_it in
    record { origin = o.0; attached = origin_later k at jobs o.0 longer o.1; saw_first = λ never. first }

no_book : (book : List Item) (told : List Told) → book ≢ [] → items_in told ≡ book → told ≡ [] → ⊥
unfolding items_in
no_book book told n w e = n (sym w ∙ ap items_in e)

pub begins_as_attached : (p : Program) (k : ℕ) (now : Moment) (book : List Item) (x : Config) → Legal (job_shape p) now.jobs → k ≢ 0
    → book ≢ [] → Runs p k now book x → BeginsAsAttached k now.jobs book
unfolding IsTrue items_in
begins_as_attached p k now book x l n some r = by_first (begins_by p k r.told x n r.reaches)
  where
    by_runs : (more : List Told) → IsTrue (story p k now) [] beginning (on_jobs (MayRun k) ∷ more) → BeginsAsAttached k now.jobs book
    by_runs more t = ran (job_shape p) k t.0.jobs now.jobs book l n t.1.not_after.jobs t.1.holds

    by_saw : (more : List Told) → IsTrue (story p k now) [] beginning (saw k ∷ more) → IsSawFirst k book → BeginsAsAttached k now.jobs book
    by_saw more t first = saw_it (job_shape p) k t.0.jobs now.jobs book l n t.1.not_after.jobs t.1.holds first

    by_first : BeginsBy k r.told x → BeginsAsAttached k now.jobs book
    by_first (BeginsBy.fresh none f) = absurd (no_book book r.told some r.written none)
    by_first (BeginsBy.runs more e) = by_runs more (subst (λ l. IsTrue (story p k now) [] beginning l) e r.is_true)
    by_first (BeginsBy.sees more e) = by_saw more (subst (λ l. IsTrue (story p k now) [] beginning l) e r.is_true)
        (subst (IsSawFirst k) (ap items_in (sym e) ∙ r.written) refl)
