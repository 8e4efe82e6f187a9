-- How Jobs came to be.
use mathlib.Core.List.{IsPrefix}
use Rattle.std.specs.Prelude.{◌≡◌, ◌≢◌, ℕ, ◌==◌, Bool, true, false, ◌||◌, ◌⊎◌, List, [], ◌∷◌, ◌++◌, Option, Some, None, if◌then◌else◌, refl}
use Rattle.std.proofs.Common.{sym, ap, ◌∙◌, subst, inl, inr}
use Rattle.std.proofs.lemmas.Bool.{eqb-true, or_left, or_right, or_cases}
use Rattle.std.proofs.Math.Bool.{or-false}
use Rattle.job_model.specs.declared.acts.JobState.{JobState}
use Rattle.job_model.specs.declared.acts.JobState.TheVariants.{Active, Completing, Cancelling, Cancelled, Completed}
use Rattle.job_model.specs.declared.acts.JobKind.{JobKind}
use Rattle.job_model.specs.declared.acts.End.{End}
use Rattle.job_model.specs.declared.acts.End.TheVariants as ends
use Rattle.job_model.specs.declared.acts.JobAct.{JobAct}
use Rattle.job_model.specs.declared.acts.JobAct.TheVariants.{Attach, Start}
use Rattle.job_model.specs.declared.acts.JobEntry.{JobEntry}
use Rattle.job_model.specs.Trees.{Shape, Job, Tree, start, root, is_active, is_cancellable}
use Rattle.job_model.specs.Acts.{attaches, starts}
use Rattle.job_model.specs.Effects.{after, first_state, state_after_body, state_of_end}
use Rattle.job_model.specs.Histories.{replay, replay_from, Legal, LegalFrom}
use Rattle.job_model.specs.Laws.{has}
use Rattle.job_model.proofs.Steps.{RowStep, row_step}
use Rattle.job_model.proofs.Rows.{same}
use Rattle.script_meaning.specs.Origins.{origin_in, or_else, origin_of}

-- ---- what stays

-- an origin stays
pub origin_stays : (k : ℕ) (J more : List JobEntry) (x : JobKind × Bool) → origin_of k J ≡ Some x → origin_of k (J ++ more) ≡ Some x
unfolding origin_of
origin_stays k [] more x e = cc
origin_stays k (y ∷ ys) more x e = by_first (origin_in k y.act) e (origin_stays k ys more x)
  where
    by_first : (o : Option (JobKind × Bool)) → or_else o (origin_of k ys) ≡ Some x
        → (origin_of k ys ≡ Some x → origin_of k (ys ++ more) ≡ Some x) → or_else o (origin_of k (ys ++ more)) ≡ Some x
    by_first None e rest = rest e
    by_first (Some z) e rest = e

-- ---- Jobs that are active

-- where a Job may still be cancelled it was not cancelled as it was attached; where it is active and was lazy, it was started
record HasOrigin (s : JobState) (o : Option (JobKind × Bool)) (begun : Bool) : Type 0 where
  kind : JobKind
  at_once : Bool
  is : o ≡ Some (kind, at_once)
  live : is_cancellable s ≡ true → at_once ≡ false
  lazy : is_active s ≡ true → kind.lazy ≡ true → begun ≡ true

abbrev RowHasOrigin : Option Job → Option (JobKind × Bool) → Bool → Type 0
RowHasOrigin None o begun = o ≡ None
RowHasOrigin (Some j) o begun = HasOrigin j.state o begun

first_live : (cancelled lazy : Bool) → is_cancellable (first_state cancelled lazy) ≡ true → cancelled ≡ false
first_live true lazy e = cc
first_live false lazy e = refl

first_lazy : (cancelled lazy : Bool) (P : Type 0) → is_active (first_state cancelled lazy) ≡ true → lazy ≡ true → P
first_lazy true lazy P e f = cc
first_lazy false true P e f = cc
first_lazy false false P e f = cc

body_live : (s : JobState) → is_cancellable (state_after_body s) ≡ true → is_cancellable s ≡ true
body_live Cancelling e = cc
body_live Cancelled e = cc
body_live Completed e = cc
body_live other e = refl

body_active : (s : JobState) → is_active (state_after_body s) ≡ true → is_active s ≡ true
body_active Active e = refl
body_active Completing e = refl
body_active other e = cc

not_live : (end : End) (P : Type 0) → is_cancellable (state_of_end end) ≡ true → P
not_live (ends.Completed v) P e = cc
not_live (ends.Cancelled cause) P e = cc

not_active : (end : End) (P : Type 0) → is_active (state_of_end end) ≡ true → P
not_active (ends.Completed v) P e = cc
not_active (ends.Cancelled cause) P e = cc

-- what a Job was attached as is not said again
origin_more : (s t : JobState) (o z : Option (JobKind × Bool)) (b c : Bool) → HasOrigin s o b
    → (is_cancellable t ≡ true → is_cancellable s ≡ true) → (is_active t ≡ true → (is_active s ≡ true) ⊎ (c ≡ true))
    → HasOrigin t (or_else o z) (b || c)
origin_more s t o z b c h live active = record {
  kind = h.kind;
  at_once = h.at_once;
  is = ap (λ u. or_else u z) h.is;
  live = λ e. h.live (live e);
  lazy = λ e f. by_case f (active e);
}
  where
    by_case : h.kind.lazy ≡ true → (is_active s ≡ true) ⊎ (c ≡ true) → (b || c) ≡ true
    by_case f (inl e) = or_left b c (h.lazy e f)
    by_case f (inr e) = or_right b c e

none_here : (q : ℕ) (act : JobAct) → attaches q act ≡ false → origin_in q act ≡ None
none_here q (Attach p r kind tag cancelled) e = ap (λ b. if b then Some (kind, cancelled) else None) e
none_here q (Start r) e = refl
none_here q other e = refl

origin_step : (shape : Shape) (tree : Tree) (who q : ℕ) (act : JobAct) (x y : Option Job) (o : Option (JobKind × Bool)) (begun : Bool)
    → RowStep shape tree who q act x y → RowHasOrigin x o begun → RowHasOrigin y (or_else o (origin_in q act)) (begun || starts q act)
origin_step shape tree who q _ _ _ o begun (RowStep.is_attached p kind tag cancelled m i) h = record {
  kind = kind;
  at_once = cancelled;
  is = ap (λ u. or_else u (origin_in q (Attach p q kind tag cancelled))) h ∙ ap (λ b. if b then Some (kind, cancelled) else None) (same q);
  live = λ e. first_live cancelled kind.lazy e;
  lazy = λ e f. first_lazy cancelled kind.lazy _ e f;
}
origin_step shape tree who q _ _ _ o begun (RowStep.has_child r kind tag cancelled j none m) h =
    origin_more j.state j.state o _ begun false h (λ e. e) (λ e. inl e)
origin_step shape tree who q _ _ _ o begun (RowStep.is_started j n) h =
    origin_more j.state Active o None begun (q == q) h (λ e. ap is_cancellable n) (λ e. inr (same q))
origin_step shape tree who q _ _ _ o begun (RowStep.body_ends v j m) h =
    origin_more j.state (state_after_body j.state) o None begun false h (body_live j.state) (λ e. inl (body_active j.state e))
origin_step shape tree who q _ _ _ o begun (RowStep.is_cancelled reason j m k) h =
    origin_more j.state Cancelling o None begun false h (λ e. cc) (λ e. cc)
origin_step shape tree who q _ _ _ o begun (RowStep.ends end j m) h =
    origin_more j.state (state_of_end end) o None begun false h (not_live end _) (not_active end _)
origin_step shape tree who q _ _ _ o begun (RowStep.is_told c j m p) h =
    origin_more j.state j.state o None begun false h (λ e. e) (λ e. inl e)
origin_step shape tree who q _ _ _ o begun (RowStep.stays act None a b c d f) h = ap (λ u. or_else u (origin_in q act)) h
    ∙ none_here q act a
origin_step shape tree who q _ _ _ o begun (RowStep.stays act (Some j) a b c d f) h =
    origin_more j.state j.state o (origin_in q act) begun (starts q act) h (λ e. e) (λ e. inl e)

or_else_assoc : (x y z : Option (JobKind × Bool)) → or_else (or_else x y) z ≡ or_else x (or_else y z)
or_else_assoc None y z = refl
or_else_assoc (Some a) y z = refl

or_assoc : (a b c : Bool) → ((a || b) || c) ≡ (a || (b || c))
or_assoc true b c = refl
or_assoc false b c = refl

or_else_none : (x : Option (JobKind × Bool)) → or_else x None ≡ x
or_else_none None = refl
or_else_none (Some a) = refl

origin_from : (shape : Shape) (tree : Tree) (es : List JobEntry) (k : ℕ) (o : Option (JobKind × Bool)) (begun : Bool)
    → LegalFrom shape tree es → RowHasOrigin (tree k) o begun
    → RowHasOrigin (replay_from tree es k) (or_else o (origin_of k es)) (begun || has starts k es)
unfolding LegalFrom replay_from origin_of
origin_from shape tree [] k o begun l h = subst (λ u. RowHasOrigin (tree k) u (begun || false)) (sym (or_else_none o))
    (subst (RowHasOrigin (tree k) o) (sym (or-false begun)) h)
origin_from shape tree (e ∷ es) k o begun l h =
    let rest = origin_from shape (after tree e.who e.act) es k (or_else o (origin_in k e.act)) (begun
    || starts k e.act) l.1 (origin_step shape tree e.who k e.act _ _ o begun (row_step shape tree e.who e.act k l.0) h) in
    subst (λ u. RowHasOrigin (replay_from (after tree e.who e.act) es k) u (begun || (starts k e.act || has starts k es)))
    (or_else_assoc o (origin_in k e.act) (origin_of k es))
    (subst (RowHasOrigin (replay_from (after tree e.who e.act) es k) (or_else (or_else o (origin_in k e.act)) (origin_of k es)))
    (or_assoc begun (starts k e.act) (has starts k es)) rest)

-- a Job that is active was not cancelled as it was attached, and was started if it was lazy
pub record WasAttached (k : ℕ) (J : List JobEntry) : Type 0 where
  pub kind : JobKind
  pub origin : origin_of k J ≡ Some (kind, false)
  pub started : kind.lazy ≡ true → has starts k J ≡ true

active_live : (s : JobState) → is_active s ≡ true → is_cancellable s ≡ true
active_live Active e = refl
active_live Completing e = refl
active_live other e = cc

none_at_start : (k : ℕ) → k ≢ 0 → RowHasOrigin (start k) None false
none_at_start k z = by_test (k == 0) refl
  where
    by_test : (b : Bool) → (k == 0) ≡ b → RowHasOrigin (if b then Some root else None) None false
    by_test true e = absurd (z (eqb-true k 0 e))
    by_test false e = refl

pub active_origin : (shape : Shape) (J : List JobEntry) (k : ℕ) (j : Job) → Legal shape J → replay J k ≡ Some j → is_active j.state ≡ true
    → k ≢ 0 → WasAttached k J
active_origin shape J k j l e a z =
    let h : HasOrigin j.state (origin_of k J) (has starts k J) =
    subst (λ x. RowHasOrigin x (origin_of k J) (has starts k J)) e (origin_from shape start J k None false l (none_at_start k z)) in
    record {
      kind = h.kind;
      origin = h.is ∙ ap (λ b. Some (h.kind, b)) (h.live (active_live j.state a));
      started = h.lazy a;
    }

-- ---- rows that are attached

-- a row that was attached has an origin
pub some_origin : (k : ℕ) (es : List JobEntry) → has attaches k es ≡ true → (o : JobKind × Bool) × (origin_of k es ≡ Some o)
unfolding origin_of
some_origin k [] h = cc
some_origin k (e ∷ es) h = by_act e.act (or_cases (attaches k e.act) (has attaches k es) h) (some_origin k es)
  where
    here : (act : JobAct) → attaches k act ≡ true → (o : JobKind × Bool) × (origin_in k act ≡ Some o)
    here (Attach p q kind tag now) t = by_test (k == q) t
      where
        by_test : (b : Bool) → b ≡ true → (o : JobKind × Bool) × ((if b then Some (kind, now) else None) ≡ Some o)
        by_test true t = ((kind, now), refl)
        by_test false t = cc
    here (Start q) t = cc
    here other t = cc

    first : (x : Option (JobKind × Bool)) (o : JobKind × Bool) → x ≡ Some o → (z : JobKind × Bool) × (or_else x (origin_of k es) ≡ Some z)
    first x o e = (o, subst (λ y. or_else y (origin_of k es) ≡ Some o) (sym e) refl)

    later : (x : Option (JobKind × Bool)) (o : JobKind × Bool) → origin_of k es ≡ Some o → (z : JobKind × Bool)
        × (or_else x (origin_of k es) ≡ Some z)
    later None o e = (o, e)
    later (Some z) o e = (z, refl)

    by_act : (act : JobAct) → (attaches k act ≡ true) ⊎ (has attaches k es ≡ true)
        → (has attaches k es ≡ true → (o : JobKind × Bool) × (origin_of k es ≡ Some o)) → (o : JobKind × Bool)
        × (or_else (origin_in k act) (origin_of k es) ≡ Some o)
    by_act act (inl t) rest = let z = here act t in first (origin_in k act) z.0 z.1
    by_act act (inr t) rest = let z = rest t in later (origin_in k act) z.0 z.1

pub has_later : (test : ℕ → JobAct → Bool) (k : ℕ) (xs ys : List JobEntry) → IsPrefix xs ys → has test k xs ≡ true → has test k ys ≡ true
has_later test k xs ys longer h = subst (λ l. has test k l ≡ true) longer.1 (appended xs longer.0 h)
  where
    grows : (a b c : Bool) → (b ≡ true → c ≡ true) → (a || b) ≡ true → (a || c) ≡ true
    grows true b c f q = refl
    grows false b c f q = f q

    appended : (us vs : List JobEntry) → has test k us ≡ true → has test k (us ++ vs) ≡ true
    appended [] vs h = cc
    appended (u ∷ us) vs h = grows (test k u.act) (has test k us) (has test k (us ++ vs)) (appended us vs) h

pub origin_later : (k : ℕ) (xs ys : List JobEntry) (o : JobKind × Bool) → IsPrefix xs ys → origin_of k xs ≡ Some o → origin_of k ys ≡ Some o
origin_later k xs ys o longer e = subst (λ l. origin_of k l ≡ Some o) longer.1 (origin_stays k xs longer.0 o e)
