-- Where a coroutine has begun and not ended, its innermost Job is its own: attached, not New, with its tag, and with its body, but where it
-- leaves a scope; and it may cancel that Job for the reason for which it unwinds.
use Rattle.std.specs.Prelude.{◌≡◌, ℕ, ◌<◌, ◌≤◌, ◌==◌, ◌⊎◌, Bool, true, false, ◌&&◌, ◌||◌, List, [], ◌∷◌, ◌++◌, Option, Some, None, is_some, slice_get, if◌then◌else◌, refl}
use Rattle.std.specs.List.{list_any}
use Rattle.std.proofs.Common.{sym, ap, ◌∙◌, subst, arith, inl, inr, ⊎_elim}
use Rattle.std.proofs.lemmas.Bool.{eq-eqb, or_right}
use Rattle.channel_model.specs.Floors.{Floor as ChannelFloor}
use Rattle.job_model.specs.declared.acts.Cause.TheVariants as because
use Rattle.job_model.specs.declared.acts.End.TheVariants as ends
use Rattle.job_model.specs.declared.acts.JobState.{JobState}
use Rattle.job_model.specs.declared.acts.JobState.TheVariants.{New, Active, Completing, Cancelling, Cancelled, Completed}
use Rattle.job_model.specs.declared.acts.JobAct.{JobAct}
use Rattle.job_model.specs.declared.acts.JobAct.TheVariants.{Attach}
use Rattle.job_model.specs.declared.acts.JobEntry.{JobEntry}
use Rattle.job_model.specs.Trees.{Shape, IsShape, Job, is_new, is_ended, is_failure_of, tag_of, parent_of}
use Rattle.job_model.specs.Acts.{attaches, ends_body}
use Rattle.job_model.specs.Effects.{first_state}
use Rattle.job_model.specs.Needs.{OwnsBody, MayEndBody, Holds, any_below, ended_by_failure}
use Rattle.job_model.specs.Answers.{IsNotNew}
use Rattle.job_model.specs.Histories.{replay, replay_from, acts_of, Legal}
use Rattle.job_model.specs.Floors.{Floor}
use Rattle.job_model.specs.Laws.{has}
use Rattle.job_model.proofs.Lasting.{tag_lasts, not_new_lasts, parent_lasts}
use Rattle.job_model.proofs.Own.{prefix_keeps}
use Rattle.job_model.proofs.Ends.{by_entries}
use Rattle.note_book.specs.declared.book.Item.{Item}
use Rattle.note_book.specs.Items.{job_acts_in}
use Rattle.call_meaning.specs.Telling.{Told, on_jobs, MayRun, saw, saw_end}
use Rattle.call_meaning.specs.Facts.{end_at}
use Rattle.call_meaning.specs.Stories.{Moment, beginning, Story, IsSo, IsTrue, with_told}
use Rattle.call_meaning.specs.JobCalls.{scope_kind, reason_for}
use Rattle.call_meaning.specs.Calls.{seen_by}
use Rattle.script_grammar.specs.Programs.{Program}
use Rattle.script_grammar.specs.Tags.{coroutine_count, job_count}
use Rattle.script_meaning.specs.declared.stage.Stage.TheVariants.{Unwinding}
use Rattle.script_meaning.specs.Shapes.{job_shape}
use Rattle.script_meaning.specs.Configs.{Config, InScope, scope_in, row_or, innermost}
use Rattle.script_meaning.specs.Books.{Runs, story}
use Rattle.script_meaning.specs.Polls.{Frame, StandsOn}
use Rattle.script_meaning.specs.Bodies.{is_over, is_fresh, is_leaving, IsOwnRow, HasBodyAt}
use Rattle.script_meaning.proofs.BodiesTold.{acts_told, ends_in, scope_rows, first_or, IsOwnScope, AreEntered, HasBegun, FailedBy, UnwindsBy}
use Rattle.script_meaning.proofs.JobDebts.{AllKnown, parents_in, all_known}
use Rattle.script_meaning.proofs.JobStories.{true_so}
use Rattle.script_meaning.proofs.OwnActs.{AllMayCome, all_placed, OwnJobEntry, own_entry, attached_keeps}
use Rattle.script_meaning.proofs.OwnRows.{any_here, own_tag, owns_body, may_end_body, running_not_new, cancelling_not_new, not_new_attached}
use Rattle.script_meaning.proofs.ScopesEntered.{AreLegal, HasEntered, reach_ends, reach_scopes, innermost_first, found_rows}
use Rattle.script_meaning.proofs.StagesReached.{reach_begun, reach_fails, reach_rows, reach_low}
use Rattle.job_model.proofs.Reasons.{failure_lasts}
use Rattle.job_model.proofs.Short.{attached_within}

-- the history has just the acts of the book, which its coroutine may have written
pub record Knows (p : Program) (k : ℕ) (now : Moment) (book : List Item) (x : Config) : Type 0 where
  pub legal : Legal (job_shape p) now.jobs
  pub acts : acts_of k now.jobs ≡ job_acts_in book
  pub runs : Runs p k now book x
  pub low : k < coroutine_count p

-- ---- what was told

pub runs_known : (p : Program) (k : ℕ) (now : Moment) (book : List Item) (x : Config) (h : Knows p k now book x)
    → AllKnown (parents_in now.jobs) h.runs.told
runs_known p k now book x h = all_known (job_shape p) k now.jobs [] h.runs.told h.legal (true_so _ [] beginning h.runs.told h.runs.is_true)

-- the acts told are those that the history has of k
pub acts_same : (p : Program) (k : ℕ) (now : Moment) (book : List Item) (x : Config) (h : Knows p k now book x)
    → acts_of k now.jobs ≡ acts_told h.runs.told
acts_same p k now book x h = h.acts ∙ ap job_acts_in (sym h.runs.written)

pub runs_legal : (p : Program) (k : ℕ) (now : Moment) (book : List Item) (x : Config) (h : Knows p k now book x)
    → AreLegal (job_shape p) k h.runs.told
runs_legal p k now book x h = subst (AllMayCome (job_shape p) k []) (acts_same p k now book x h)
    (all_placed (job_shape p) k now.jobs h.legal)

-- its body has ended exactly where an act of its own ended it
pub runs_ends : (p : Program) (k : ℕ) (now : Moment) (book : List Item) (x : Config) → Knows p k now book x
    → list_any (ends_body k) (acts_of k now.jobs) ≡ is_over x.stage
runs_ends p k now book x h =
    ap (list_any (ends_body k)) (acts_same p k now book x h)
    ∙ reach_ends p k (job_shape p) (parents_in now.jobs) h.runs.told x (runs_known p k now book x h) (runs_legal p k now book x h)
    h.runs.reaches

pub runs_scopes : (p : Program) (k : ℕ) (now : Moment) (book : List Item) (x : Config) (h : Knows p k now book x)
    → HasEntered (job_shape p) k h.runs.told x
runs_scopes p k now book x h = reach_scopes p k (job_shape p) (parents_in now.jobs) h.runs.told x (runs_known p k now book x h)
    (runs_legal p k now book x h) h.runs.reaches

-- what was told there was so at a moment
pub told_there : (s : Story) (items : List Item) (earlier : Moment) (before : List Told) (t : Told) (behind : List Told)
    → IsTrue s items earlier (before ++ t ∷ behind) → (at : Moment) × ((i : List Item) × ((e : Moment) × IsSo s i e t at))
unfolding IsTrue
told_there s items earlier [] t behind h = (h.0, (items, (earlier, h.1)))
told_there s items earlier (x ∷ before) t behind h = told_there s (with_told x items) h.0 before t behind h.2

root_not_new : IsNotNew (replay [] 0)
unfolding replay_from
root_not_new = refl

-- ---- its own Job

-- where it has begun, its Job is attached and not New
pub runs_live : (p : Program) (k : ℕ) (now : Moment) (book : List Item) (x : Config) → Knows p k now book x → is_fresh x.stage ≡ false
    → IsNotNew (replay now.jobs k)
runs_live p k now book x h e = by_case (reach_begun p k h.runs.told x h.runs.reaches e)
  where
    by_case : HasBegun k h.runs.told → IsNotNew (replay now.jobs k)
    by_case (HasBegun.root z) = subst (λ r. IsNotNew (replay now.jobs r)) (sym z)
        (prefix_keeps IsNotNew not_new_lasts (job_shape p) [] now.jobs 0 h.legal (now.jobs, refl) root_not_new)
    by_case (HasBegun.might_run before behind is) =
        let so = told_there (story p k now) [] beginning before (on_jobs (MayRun k)) behind
        (subst (IsTrue (story p k now) [] beginning) is h.runs.is_true) in
        prefix_keeps IsNotNew not_new_lasts (job_shape p) so.0.jobs now.jobs k h.legal so.1.1.1.not_after.jobs
        (running_not_new (replay so.0.jobs k) so.1.1.1.holds)
    by_case (HasBegun.was_cancelling before behind is) =
        let so = told_there (story p k now) [] beginning before (saw k) behind
        (subst (IsTrue (story p k now) [] beginning) is h.runs.is_true) in
        prefix_keeps IsNotNew not_new_lasts (job_shape p) so.0.jobs now.jobs k h.legal so.1.1.1.not_after.jobs
        (cancelling_not_new (replay so.0.jobs k) so.1.1.1.holds)

-- ---- the Jobs of scopes

-- a scope of k's that is attached under this parent
pub record IsScopeUnder (p : Program) (k : ℕ) (now : Moment) (parent row : ℕ) : Type 0 where
  pub tag : tag_of (replay now.jobs row) ≡ Some k
  pub live : IsNotNew (replay now.jobs row)
  pub under : parent_of (replay now.jobs row) ≡ Some parent
  pub scoped : coroutine_count p ≤ row
  pub within : row < job_count p

first_not_new : (now : Bool) → is_new (first_state now false) ≡ false
first_not_new true = refl
first_not_new false = refl

scope_known : (p : Program) (k : ℕ) (now : Moment) (book : List Item) (x : Config) (h : Knows p k now book x) (parent row : ℕ)
    → IsOwnScope (job_shape p) k h.runs.told parent row → IsScopeUnder p k now parent row
scope_known p k now book x h parent row s = record {
  tag = attached_keeps (λ z. tag_of z ≡ Some k) (tag_lasts k) (job_shape p) now.jobs k parent row (scope_kind s.supervisor) k s.now h.legal
      made refl;
  live = attached_keeps IsNotNew not_new_lasts (job_shape p) now.jobs k parent row (scope_kind s.supervisor) k s.now h.legal made
      (first_not_new s.now);
  under = attached_keeps (λ z. parent_of z ≡ Some parent) (parent_lasts parent) (job_shape p) now.jobs k parent row
      (scope_kind s.supervisor) k s.now h.legal made refl;
  scoped = s.scoped;
  within = s.within;
}
  where
    made : OwnJobEntry k (Attach parent row (scope_kind s.supervisor) k s.now) now.jobs
    made = own_entry k now.jobs s.before (Attach parent row (scope_kind s.supervisor) k s.now) s.behind (acts_same p k now book x h
        ∙ s.attached)

first_entered : (shape : Shape) (k : ℕ) (told : List Told) (ended : Bool) (row : ℕ) (rows : List ℕ)
    → AreEntered shape k told ended (row ∷ rows) → IsOwnScope shape k told (first_or k rows) row × (ends_in row told ≡ ended)
unfolding AreEntered
first_entered shape k told ended row rows h = (h.0, h.1)

-- the innermost scope
pub scope_here : (p : Program) (k : ℕ) (now : Moment) (book : List Item) (x : Config) (s : InScope) → Knows p k now book x
    → scope_in x.entered ≡ Some s → IsScopeUnder p k now (row_or k (scope_in s.around)) s.row
scope_here p k now book x s h e =
    let rows = found_rows x.entered s e in
    let entered : AreEntered (job_shape p) k h.runs.told (is_leaving x.stage) (s.row ∷ scope_rows s.around) =
    subst (AreEntered (job_shape p) k h.runs.told (is_leaving x.stage)) rows (runs_scopes p k now book x h) in
    let first = first_entered (job_shape p) k h.runs.told (is_leaving x.stage) s.row (scope_rows s.around) entered in
    subst (λ z. IsScopeUnder p k now z s.row) (sym (innermost_first k (record x { entered = s.around })))
    (scope_known p k now book x h (first_or k (scope_rows s.around)) s.row first.0)

-- ---- the innermost Job

-- it is k's own, or that of a scope
pub data IsInnermost (p : Program) (k : ℕ) (now : Moment) (x : Config) : Type 0 where
  own : innermost k x ≡ k → list_any (ends_body k) (acts_of k now.jobs) ≡ is_over x.stage → IsInnermost p k now x
  scope : (parent : ℕ) → IsScopeUnder p k now parent (innermost k x)
      → list_any (ends_body (innermost k x)) (acts_of k now.jobs) ≡ is_leaving x.stage → IsInnermost p k now x

pub innermost_is : (p : Program) (k : ℕ) (now : Moment) (book : List Item) (x : Config) → Knows p k now book x → IsInnermost p k now x
innermost_is p k now book x h = by_rows (scope_rows x.entered) (innermost_first k x) (runs_scopes p k now book x h)
  where
    by_rows : (rows : List ℕ) → innermost k x ≡ first_or k rows → AreEntered (job_shape p) k h.runs.told (is_leaving x.stage) rows
        → IsInnermost p k now x
    by_rows [] e m = IsInnermost.own e (runs_ends p k now book x h)
    by_rows (row ∷ rows) e m =
        let first = first_entered (job_shape p) k h.runs.told (is_leaving x.stage) row rows m in
        IsInnermost.scope (first_or k rows) (subst (IsScopeUnder p k now (first_or k rows)) (sym e)
        (scope_known p k now book x h (first_or k rows) row first.0))
        (ap (λ r. list_any (ends_body r) (acts_of k now.jobs)) e ∙ ap (list_any (ends_body row)) (acts_same p k now book x h) ∙ first.1)

pub innermost_unended : (p : Program) (k : ℕ) (now : Moment) (book : List Item) (x : Config) → Knows p k now book x
    → is_leaving x.stage ≡ false → is_over x.stage ≡ false → list_any (ends_body (innermost k x)) (acts_of k now.jobs) ≡ false
innermost_unended p k now book x h l o = by_case (innermost_is p k now book x h)
  where
    by_case : IsInnermost p k now x → list_any (ends_body (innermost k x)) (acts_of k now.jobs) ≡ false
    by_case (IsInnermost.own e n) = ap (λ r. list_any (ends_body r) (acts_of k now.jobs)) e ∙ n ∙ o
    by_case (IsInnermost.scope parent s n) = n ∙ l

pub innermost_live : (p : Program) (k : ℕ) (now : Moment) (book : List Item) (x : Config) → Knows p k now book x → is_fresh x.stage ≡ false
    → IsNotNew (replay now.jobs (innermost k x))
innermost_live p k now book x h f = by_case (innermost_is p k now book x h)
  where
    by_case : IsInnermost p k now x → IsNotNew (replay now.jobs (innermost k x))
    by_case (IsInnermost.own e n) = subst (λ r. IsNotNew (replay now.jobs r)) (sym e) (runs_live p k now book x h f)
    by_case (IsInnermost.scope parent s n) = s.live

pub innermost_attached : (p : Program) (k : ℕ) (now : Moment) (book : List Item) (x : Config) → Knows p k now book x
    → is_fresh x.stage ≡ false → is_some (replay now.jobs (innermost k x)) ≡ true
innermost_attached p k now book x h f = not_new_attached (replay now.jobs (innermost k x)) (innermost_live p k now book x h f)

pub innermost_tag : (p : Program) (k : ℕ) (now : Moment) (book : List Item) (x : Config) → Knows p k now book x → is_fresh x.stage ≡ false
    → tag_of (replay now.jobs (innermost k x)) ≡ Some k
innermost_tag p k now book x h f = by_case (innermost_is p k now book x h)
  where
    by_case : IsInnermost p k now x → tag_of (replay now.jobs (innermost k x)) ≡ Some k
    by_case (IsInnermost.own e n) = ap (λ r. tag_of (replay now.jobs r)) e
        ∙ own_tag (job_shape p) now.jobs k h.low h.legal (not_new_attached (replay now.jobs k) (runs_live p k now book x h f))
    by_case (IsInnermost.scope parent s n) = s.tag

-- its body is there
pub innermost_owned : (p : Program) (k : ℕ) (now : Moment) (book : List Item) (x : Config) → Knows p k now book x → is_fresh x.stage ≡ false
    → is_leaving x.stage ≡ false → is_over x.stage ≡ false → OwnsBody k (replay now.jobs (innermost k x))
innermost_owned p k now book x h f l o = owns_body (job_shape p) now.jobs (innermost k x) k h.legal (innermost_tag p k now book x h f)
    (innermost_unended p k now book x h l o)

pub innermost_ends : (p : Program) (k : ℕ) (now : Moment) (book : List Item) (x : Config) → Knows p k now book x → is_fresh x.stage ≡ false
    → is_leaving x.stage ≡ false → is_over x.stage ≡ false → MayEndBody k (replay now.jobs (innermost k x))
innermost_ends p k now book x h f l o = may_end_body (job_shape p) now.jobs (innermost k x) k h.legal (innermost_tag p k now book x h f)
    (innermost_live p k now book x h f) (innermost_unended p k now book x h l o)

-- and on a floor; also before it has begun
pub innermost_body : (p : Program) (k : ℕ) (now : Moment) (book : List Item) (x : Config) (j : Floor) → Knows p k now book x
    → j.seen ≡ now.jobs → j.shape ≡ job_shape p → j.callers k ≡ true → is_leaving x.stage ≡ false → is_over x.stage ≡ false
    → HasBodyAt k (innermost k x) j
innermost_body p k now book x j h seen shape may l o = record {
  caller = may;
  whose = by_case (innermost_is p k now book x h);
  not_ended = ap (λ es. list_any (ends_body (innermost k x)) (acts_of k es)) seen ∙ innermost_unended p k now book x h l o;
}
  where
    by_case : IsInnermost p k now x → IsOwnRow k (innermost k x) j
    by_case (IsInnermost.own e n) = IsOwnRow.own e (subst (λ (s : Shape). k < s.coroutines) (sym shape) h.low)
    by_case (IsInnermost.scope parent s n) = IsOwnRow.scope (ap (λ es. tag_of (replay es (innermost k x))) seen ∙ s.tag)

-- ---- rows of the shape

pub shape_fits : (p : Program) (k : ℕ) → k < coroutine_count p → IsShape (job_shape p)
shape_fits p k lt = record { some = omega (arith, lt); fit = omega arith }

-- ---- the failure by which it unwinds

by_end : (f : ℕ) (x : Option Job) → end_at x ≡ Some (ends.Cancelled (because.Failure f)) → ended_by_failure f x ≡ true
by_end f None e = cc
by_end f (Some j) e = by_state j.state refl e
  where
    by_state : (s : JobState) → j.state ≡ s → end_at (Some (record j { state = s })) ≡ Some (ends.Cancelled (because.Failure f))
        → (is_ended j.state && is_failure_of f j.cause) ≡ true
    by_state New k m = cc
    by_state Active k m = cc
    by_state Completing k m = cc
    by_state Cancelling k m = cc
    by_state Cancelled k m = let c : j.cause ≡ because.Failure f = cc in ap (λ s. is_ended s && is_failure_of f j.cause) k
        ∙ ap (is_failure_of f) c ∙ eq-eqb f f refl
    by_state Completed k m = cc

ended_attached : (f : ℕ) (x : Option Job) → ended_by_failure f x ≡ true → is_some x ≡ true
ended_attached f None e = cc
ended_attached f (Some j) e = refl

-- a Job has ended by this failure
pub record EndedBy (p : Program) (now : Moment) (f : ℕ) : Type 0 where
  pub row : ℕ
  pub ended : ended_by_failure f (replay now.jobs row) ≡ true
  pub within : row < job_count p

-- what it saw of an ended Job is so still
pub saw_ended : (p : Program) (k : ℕ) (now : Moment) (book : List Item) (x : Config) (h : Knows p k now book x) (f : ℕ)
    → FailedBy k h.runs.told f → (f ≡ k) ⊎ EndedBy p now f
saw_ended p k now book x h f (FailedBy.own e) = inl e
saw_ended p k now book x h f (FailedBy.seen row before behind is) =
    let so = told_there (story p k now) [] beginning before (saw_end row (ends.Cancelled (because.Failure f))) behind
    (subst (IsTrue (story p k now) [] beginning) is h.runs.is_true) in
    let ended : ended_by_failure f (replay now.jobs row) ≡ true =
    prefix_keeps (λ z. ended_by_failure f z ≡ true) (failure_lasts f) (job_shape p) so.0.jobs now.jobs row h.legal so.1.1.1.not_after.jobs
    (by_end f (replay so.0.jobs row) so.1.1.1.holds) in
    inr (record {
      row = row;
      ended = ended;
      within = attached_within (job_shape p) now.jobs row (shape_fits p k h.low) h.legal
          (ended_attached f (replay now.jobs row) ended);
    })

pub failure_known : (p : Program) (k : ℕ) (now : Moment) (book : List Item) (x : Config) (f : ℕ) → Knows p k now book x
    → x.stage ≡ Unwinding (Some f) → (f ≡ k) ⊎ EndedBy p now f
failure_known p k now book x f h e = saw_ended p k now book x h f
    (subst (UnwindsBy k h.runs.told) e (reach_fails p k h.runs.told x h.runs.reaches))

-- it may cancel its innermost Job for the reason for which it unwinds
pub innermost_reason : (p : Program) (k : ℕ) (now : Moment) (book : List Item) (x : Config) (failure : Option ℕ) → Knows p k now book x
    → x.stage ≡ Unwinding failure → Holds (job_shape p) (replay now.jobs) k (innermost k x) (reason_for failure)
innermost_reason p k now book x None h e = tt
innermost_reason p k now book x (Some f) h e = (
  innermost_tag p k now book x h (ap is_fresh e),
  or_right (f == innermost k x) _
      (⊎_elim
      (λ (z : f ≡ k). ap (λ b. b || any_below (job_count p) (λ q. ended_by_failure f (replay now.jobs q))) (eq-eqb f k z))
      (λ (z : EndedBy p now f). or_right (f == k) _ (any_here (job_count p) z.row (λ q. ended_by_failure f (replay now.jobs q)) z.within
      z.ended))
      (failure_known p k now book x f h e)),
)

-- ---- the Job of a name

any_of_own : (t : JobAct → Bool) (who : ℕ) (es : List JobEntry) → list_any t (acts_of who es) ≡ true
    → list_any (λ (e : JobEntry). t e.act) es ≡ true
unfolding acts_of
any_of_own t who [] h = h
any_of_own t who (e ∷ es) h = by_test (e.who == who) h (any_of_own t who es)
  where
    carry : (b c d : Bool) → (c ≡ true → d ≡ true) → (b || c) ≡ true → (b || d) ≡ true
    carry true c d k e = refl
    carry false c d k e = k e

    by_test : (b : Bool) → list_any t (if b then e.act ∷ acts_of who es else acts_of who es) ≡ true
        → (list_any t (acts_of who es) ≡ true → list_any (λ (e : JobEntry). t e.act) es ≡ true)
        → (t e.act || list_any (λ (e : JobEntry). t e.act) es) ≡ true
    by_test true k more = carry (t e.act) _ _ more k
    by_test false k more = or_right (t e.act) _ (more k)

-- the Job of a name was attached, and is that of a coroutine
pub named_attached : (p : Program) (k : ℕ) (now : Moment) (book : List Item) (x : Config) (i r : ℕ) → Knows p k now book x
    → slice_get x.rows i ≡ Some r → (is_some (replay now.jobs r) ≡ true) × (r < coroutine_count p)
named_attached p k now book x i r h at =
    let own : list_any (attaches r) (acts_of k now.jobs) ≡ true = ap (list_any (attaches r)) (acts_same p k now book x h)
    ∙ reach_rows p k h.runs.told x i r h.runs.reaches at in (
      (by_entries (job_shape p) now.jobs r h.legal).attached
          ∙ or_right (r == 0) (has attaches r now.jobs) (any_of_own (attaches r) k now.jobs own),
      reach_low p k (job_shape p) h.runs.told x i r (runs_legal p k now book x h) h.runs.reaches at,
    )

-- ---- a frame that stands on floors

pub stands_knows : (p : Program) (c : ChannelFloor) (j : Floor) (f : Frame) → Legal j.shape j.seen → StandsOn p c j f
    → Knows p f.tag (seen_by c j) f.book f.config
stands_knows p c j f l h = record { legal = subst (λ s. Legal s j.seen) h.jobs l; acts = h.job_acts; runs = h.runs; low = h.in_run }
