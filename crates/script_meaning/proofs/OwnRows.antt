-- What a caller knows of the Jobs that are its own: each has its tag, and only its own acts end their bodies.
use Rattle.std.proofs.lemmas.List.{append-nil}
use Rattle.std.specs.Prelude.{◌≡◌, ℕ, zero, suc, ◌<◌, ◌≤◌, ◌==◌, ◌⊎◌, Bool, true, false, ◌||◌, List, [], ◌∷◌, Option, Some, None, MatchBool, is_some, option_map, if◌then◌else◌, refl}
use Rattle.std.specs.List.{list_any}
use mathlib.Core.List.{IsPrefix}
use Rattle.std.proofs.Common.{sym, ap, ◌∙◌, subst, arith, ⊎_elim}
use Rattle.std.proofs.lemmas.Bool.{eqb-true, eq-eqb, or_right}
use Rattle.std.proofs.lemmas.Bool.Decides.{nat_tests}
use Rattle.job_model.specs.declared.acts.JobState.{JobState}
use Rattle.job_model.specs.declared.acts.JobState.TheVariants.{New, Active, Completing, Cancelling, Cancelled, Completed}
use Rattle.job_model.specs.declared.acts.End.TheVariants as ends
use Rattle.job_model.specs.declared.acts.JobAct.{JobAct}
use Rattle.job_model.specs.declared.acts.JobAct.TheVariants.{EndBody}
use Rattle.job_model.specs.declared.acts.JobEntry.{JobEntry}
use Rattle.job_model.specs.declared.floor.JobView.{JobView}
use Rattle.job_model.specs.Trees.{Shape, Job, Tree, root, start, is_new, is_active, is_ended, tag_of, state_of}
use Rattle.job_model.specs.Acts.{ends_body}
use Rattle.job_model.specs.Effects.{after}
use Rattle.job_model.specs.Needs.{Needs, OwnsBody, MayEndBody, any_below, ended_by_failure}
use Rattle.job_model.specs.Families.{IsEnded}
use Rattle.job_model.specs.Histories.{replay, replay_from, Legal, LegalFrom, acts_of}
use Rattle.job_model.specs.Floors.{Floor, Looked}
use Rattle.job_model.specs.Laws.{IsSoundRow, has, has_ended_body, is_bodiless}
use Rattle.job_model.specs.Answers.{IsNotNew, LookAnswer, view_of}
use Rattle.job_model.proofs.Histories.{Legal-prefix}
use Rattle.job_model.proofs.Steps.{RowStep, row_step}
use Rattle.job_model.proofs.Lasting.{act_keeps, history_keeps, tag_lasts}
use Rattle.job_model.proofs.Own.{prefix_keeps}
use Rattle.job_model.proofs.Ends.{by_entries}
use Rattle.job_model.proofs.Families.{replay_families}
use Rattle.call_meaning.specs.Facts.{IsRunning}
use Rattle.script_meaning.specs.Idle.{IsNotStarted}
use Rattle.script_meaning.specs.Bodies.{IsOwnRow, HasBodyAt}
use Rattle.job_model.proofs.Spans.{same_between}

pub any_here : (n q : ℕ) (test : ℕ → Bool) → q < n → test q ≡ true → any_below n test ≡ true
any_here zero q test lt h = absurd (omega (arith, lt))
any_here (suc n) q test lt h = by_test (q == n) refl (any_here n q test)
  where
    below : (q n : ℕ) → q < suc n → (q == n) ≡ false → q < n
    below q n lt e = grind (arith, nat_tests)

    by_test : (b : Bool) → (q == n) ≡ b → (q < n → test q ≡ true → any_below n test ≡ true) → (test n || any_below n test) ≡ true
    by_test true e more = ap (λ z. z || any_below n test) (ap test (sym (eqb-true q n e)) ∙ h)
    by_test false e more = or_right (test n) (any_below n test) (more (below q n lt e) h)

-- ---- the row of a coroutine has its tag

abbrev pub IsTagged : ℕ → Option Job → Type 0
IsTagged q None = Unit {0}
IsTagged q (Some j) = j.tag ≡ q

row_tag : (shape : Shape) (who tag r : ℕ) (scoped : Bool)
    → MatchBool scoped ((tag ≡ who) × (shape.coroutines ≤ r) × (r < shape.rows)) (r ≡ tag) → r < shape.coroutines → tag ≡ r
row_tag shape who tag r true h lt = absurd (omega (arith, h.1))
row_tag shape who tag r false h lt = sym h

tagged_step : (shape : Shape) (tree : Tree) (who q : ℕ) (act : JobAct) (x y : Option Job) → RowStep shape tree who q act x y
    → q < shape.coroutines → IsTagged q x → IsTagged q y
tagged_step shape tree who q _ _ _ (RowStep.is_attached p kind tag cancelled m i) lt h = row_tag shape who tag q kind.scoped i lt
tagged_step shape tree who q _ _ _ (RowStep.has_child r kind tag cancelled j none m) lt h = h
tagged_step shape tree who q _ _ _ other lt h = h

tagged_from : (shape : Shape) (tree : Tree) (es : List JobEntry) (q : ℕ) → q < shape.coroutines → LegalFrom shape tree es
    → IsTagged q (tree q) → IsTagged q (replay_from tree es q)
unfolding LegalFrom replay_from
tagged_from shape tree [] q lt l h = h
tagged_from shape tree (e ∷ es) q lt l h = tagged_from shape (after tree e.who e.act) es q lt l.1
    (tagged_step shape tree e.who q e.act _ _ (row_step shape tree e.who e.act q l.0) lt h)

start_tagged : (q : ℕ) → IsTagged q (start q)
start_tagged q = by_test (q == 0) refl
  where
    by_test : (b : Bool) → (q == 0) ≡ b → IsTagged q (if b then Some root else None)
    by_test true e = sym (eqb-true q 0 e)
    by_test false e = tt

pub tag_is_row : (shape : Shape) (es : List JobEntry) (q : ℕ) → q < shape.coroutines → Legal shape es → IsTagged q (replay es q)
tag_is_row shape es q lt l = tagged_from shape start es q lt l (start_tagged q)

tag_known : (q : ℕ) (x : Option Job) → IsTagged q x → is_some x ≡ true → tag_of x ≡ Some q
tag_known q None t a = cc
tag_known q (Some j) t a = ap (λ n. Some n) t

pub own_tag : (shape : Shape) (es : List JobEntry) (q : ℕ) → q < shape.coroutines → Legal shape es → is_some (replay es q) ≡ true
    → tag_of (replay es q) ≡ Some q
own_tag shape es q lt l a = tag_known q (replay es q) (tag_is_row shape es q lt l) a

-- ---- only the one with its tag ends the body of a Job

same_tag : (who n : ℕ) (x : Option Job) → MayEndBody n x → tag_of x ≡ Some n
same_tag who n None m = absurd m
same_tag who n (Some j) m = ap (λ t. Some t) m.0

ender : (shape : Shape) (tree : Tree) (who r : ℕ) (act : JobAct) → Needs shape tree who act → ends_body r act ≡ true
    → tag_of (tree r) ≡ Some who
ender shape tree who r (EndBody q v) n e = subst (λ z. tag_of (tree z) ≡ Some who) (sym (eqb-true r q e)) (same_tag who who (tree q) n)
ender shape tree who r other n e = cc

own_ends_from : (shape : Shape) (tree : Tree) (es : List JobEntry) (r who : ℕ) → LegalFrom shape tree es
    → tag_of (replay_from tree es r) ≡ Some who → has ends_body r es ≡ true → list_any (ends_body r) (acts_of who es) ≡ true
unfolding LegalFrom replay_from acts_of
own_ends_from shape tree [] r who l t e = cc
own_ends_from shape tree (x ∷ es) r who l t e =
    by_test (ends_body r x.act) refl (x.who == who) refl e (own_ends_from shape (after tree x.who x.act) es r who l.1 t)
  where
    second : (b : Bool) (rest : List JobAct) → list_any (ends_body r) rest ≡ true → (b || list_any (ends_body r) rest) ≡ true
    second true rest m = refl
    second false rest m = m

    made_by : ends_body r x.act ≡ true → x.who ≡ who
    made_by f =
        let there : tag_of (after tree x.who x.act r) ≡ Some x.who =
        act_keeps (λ z. tag_of z ≡ Some x.who) (tag_lasts x.who) shape tree x.who x.act r l.0 (ender shape tree x.who r x.act l.0 f) in
        let last : tag_of (replay_from (after tree x.who x.act) es r) ≡ Some x.who =
        history_keeps (λ z. tag_of z ≡ Some x.who) (tag_lasts x.who) shape (after tree x.who x.act) es r l.1 there in
        let both : Some x.who ≡ Some who = sym last ∙ t in cc

    by_test : (b : Bool) → ends_body r x.act ≡ b → (c : Bool) → (x.who == who) ≡ c → (b || has ends_body r es) ≡ true
        → (has ends_body r es ≡ true → list_any (ends_body r) (acts_of who es) ≡ true)
        → list_any (ends_body r) (if c then x.act ∷ acts_of who es else acts_of who es) ≡ true
    by_test true f true g a more = ap (λ d. d || list_any (ends_body r) (acts_of who es)) f
    by_test true f false g a more = absurd (let u : true ≡ false = sym (eq-eqb x.who who (made_by f)) ∙ g in cc)
    by_test false f true g a more = second (ends_body r x.act) (acts_of who es) (more a)
    by_test false f false g a more = more a

-- whose acts do not end the body of its Job, that has not ended
pub body_unended : (shape : Shape) (es : List JobEntry) (r who : ℕ) → Legal shape es → tag_of (replay es r) ≡ Some who
    → list_any (ends_body r) (acts_of who es) ≡ false → has_ended_body (replay es r) ≡ false
body_unended shape es r who l t none = (by_entries shape es r l).bodiless ∙ by_test (has ends_body r es) refl
  where
    by_test : (b : Bool) → has ends_body r es ≡ b → b ≡ false
    by_test true e = absurd (let u : true ≡ false = sym (own_ends_from shape start es r who l t e) ∙ none in cc)
    by_test false e = refl

owns : (who : ℕ) (x : Option Job) → tag_of x ≡ Some who → has_ended_body x ≡ false → OwnsBody who x
owns who None t o = cc
owns who (Some j) t o = ((let e : j.tag ≡ who = cc in e), o)

may_end : (who : ℕ) (x : Option Job) → tag_of x ≡ Some who → IsNotNew x → has_ended_body x ≡ false → MayEndBody who x
may_end who None t n o = cc
may_end who (Some j) t n o = ((let e : j.tag ≡ who = cc in e), n, o)

pub owns_body : (shape : Shape) (es : List JobEntry) (r who : ℕ) → Legal shape es → tag_of (replay es r) ≡ Some who
    → list_any (ends_body r) (acts_of who es) ≡ false → OwnsBody who (replay es r)
owns_body shape es r who l t none = owns who (replay es r) t (body_unended shape es r who l t none)

pub may_end_body : (shape : Shape) (es : List JobEntry) (r who : ℕ) → Legal shape es → tag_of (replay es r) ≡ Some who
    → IsNotNew (replay es r) → list_any (ends_body r) (acts_of who es) ≡ false → MayEndBody who (replay es r)
may_end_body shape es r who l t n none = may_end who (replay es r) t n (body_unended shape es r who l t none)

-- ---- not New

pub running_not_new : (x : Option Job) → IsRunning x → IsNotNew x
running_not_new None h = h
running_not_new (Some j) h = by_state j.state h
  where
    by_state : (s : JobState) → is_active s ≡ true → is_new s ≡ false
    by_state New e = cc
    by_state Active e = refl
    by_state other e = refl

pub cancelling_not_new : (x : Option Job) → state_of x ≡ Some Cancelling → IsNotNew x
cancelling_not_new None h = cc
cancelling_not_new (Some j) h = let u : j.state ≡ Cancelling = cc in ap is_new u

pub not_new_attached : (x : Option Job) → IsNotNew x → is_some x ≡ true
not_new_attached None h = absurd h
not_new_attached (Some j) h = refl

pub not_new_started : (x : Option Job) → IsNotNew x → IsNotStarted x → ⊥
not_new_started None h n = h
not_new_started (Some j) h n = let u : true ≡ false = sym (ap is_new n) ∙ h in cc

-- ---- a body on a floor

-- the body of a row of one's own, which one did not end at this moment
row_unended : (who row : ℕ) (j : Floor) (shape : Shape) (at : List JobEntry) → shape ≡ j.shape → IsOwnRow who row j → Legal shape at
    → IsPrefix j.seen at → list_any (ends_body row) (acts_of who at) ≡ false → has_ended_body (replay at row) ≡ false
row_unended who row j shape at same (IsOwnRow.own e lt) l p none =
    by_row (replay at row) refl (tag_is_row shape at row (subst (λ (s : Shape). row < s.coroutines) (sym same)
    (subst (λ z. z < j.shape.coroutines) (sym e) lt)) l)
  where
    by_row : (x : Option Job) → replay at row ≡ x → IsTagged row x → has_ended_body x ≡ false
    by_row None k t = refl
    by_row (Some q) k t = ap has_ended_body (sym k) ∙ body_unended shape at row who l (ap tag_of k ∙ ap (λ n. Some n) (t ∙ e)) none
row_unended who row j shape at same (IsOwnRow.scope t) l p none =
    body_unended shape at row who l (prefix_keeps (λ x. tag_of x ≡ Some who) (tag_lasts who) shape j.seen at row l p t) none

-- at each moment of a look the body has not ended
pub body_at_moment : (who row : ℕ) (a b : Floor) (m : List JobEntry) → Legal b.shape b.seen → HasBodyAt who row a → Looked who [] a b
    → IsPrefix a.seen m → IsPrefix m b.seen → has_ended_body (replay m row) ≡ false
body_at_moment who row a b m l h look p q =
    let mine : acts_of who m ≡ acts_of who a.seen = same_between who a.seen m b.seen p q look.mine in
    row_unended who row a b.shape m look.same.shape h.whose (Legal-prefix b.shape m q.0 (rw q.1 l)) p (ap (list_any (ends_body row)) mine
    ∙ h.not_ended)

pub body_here : (who row : ℕ) (j : Floor) → Legal j.shape j.seen → HasBodyAt who row j → has_ended_body (replay j.seen row) ≡ false
body_here who row j l h = row_unended who row j j.shape j.seen refl h.whose l ([], append-nil j.seen) h.not_ended

not_bodiless : (x : Option Job) (v : JobView) → IsSoundRow x → has_ended_body x ≡ false → option_map view_of x ≡ Some v
    → is_bodiless v.state ≡ true → ⊥
not_bodiless None v s o e b = cc
not_bodiless (Some j) v s o e b = let same : view_of j ≡ v = cc
    in let u : true ≡ false = sym (s.bodiless (ap (λ (w : JobView). is_bodiless w.state) same ∙ b)) ∙ o in cc

-- a Job whose body has not ended is not seen Completing or ended
pub never_bodiless : (who row : ℕ) (v : JobView) (a b : Floor) → Legal b.shape b.seen → HasBodyAt who row a
    → LookAnswer who row a b (Some v) → is_bodiless v.state ≡ true → ⊥
never_bodiless who row v a b l h look e =
    let m = look.1 in
    not_bodiless (replay m.moment row) v ((replay_families b.shape m.moment
    (Legal-prefix b.shape m.moment m.before.0 (rw m.before.1 l))).rows row)
    (body_at_moment who row a b m.moment l h look.0 m.after m.before) m.holds e

bodiless_one : (s : JobState) → (s ≡ Completing) ⊎ ((s ≡ Cancelled) ⊎ (s ≡ Completed)) → is_bodiless s ≡ true
bodiless_one s h = ⊎_elim (λ e. ap is_bodiless e) (λ q. ⊎_elim (λ e. ap is_bodiless e) (λ e. ap is_bodiless e) q) h

pub never_ended : (who row : ℕ) (v : JobView) (a b : Floor) → Legal b.shape b.seen → HasBodyAt who row a → LookAnswer who row a b (Some v)
    → (v.state ≡ Completing) ⊎ ((v.state ≡ Cancelled) ⊎ (v.state ≡ Completed)) → ⊥
never_ended who row v a b l h look e = never_bodiless who row v a b l h look (bodiless_one v.state e)

ended_bodiless : (s : JobState) → is_ended s ≡ true → is_bodiless s ≡ true
ended_bodiless Cancelled e = refl
ended_bodiless Completed e = refl
ended_bodiless other e = cc

not_over : (x : Option Job) → IsSoundRow x → has_ended_body x ≡ false → IsEnded x → ⊥
not_over None s o e = e
not_over (Some j) s o e = let u : true ≡ false = sym (s.bodiless (ended_bodiless j.state e)) ∙ o in cc

-- whose body has not ended, that Job has not
pub never_over : (who row : ℕ) (j : Floor) → Legal j.shape j.seen → HasBodyAt who row j → IsEnded (replay j.seen row) → ⊥
never_over who row j l h e = not_over (replay j.seen row) ((replay_families j.shape j.seen l).rows row) (body_here who row j l h) e
