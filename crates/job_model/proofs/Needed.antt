-- A step is made exactly where the need of its act holds.
use Rattle.std.specs.Prelude.{◌≡◌, ◌≢◌, ◌↔◌, ℕ, ◌==◌, nat_lt, nat_le, ◌<◌, ◌≤◌, Bool, true, false, not, ◌&&◌, ◌||◌, List, [], ◌∷◌, Option, Some, None, is_some, option_and_then, MatchBool, if◌then◌else◌, refl}
use Rattle.std.specs.Bool.{Decides}
use Rattle.std.proofs.Common.{sym, ap, ◌∙◌, arith}
use Rattle.std.proofs.lemmas.Bool.{eqb-true, eq-eqb, and_parts, and_from}
use Rattle.std.proofs.lemmas.Bool.Decides.{nat_tests, Decides-eqb, Decides-ltb, Decides-and, Decides-not, not_from_Decides}
use Rattle.job_model.specs.declared.acts.JobState.{JobState}
use Rattle.job_model.specs.declared.acts.JobState.TheVariants.{New, Active, Cancelled, Completed}
use Rattle.job_model.specs.declared.acts.JobKind.{JobKind}
use Rattle.job_model.specs.declared.acts.Cause.{Cause}
use Rattle.job_model.specs.declared.acts.Cause.TheVariants as because
use Rattle.job_model.specs.declared.acts.Reason.{Reason}
use Rattle.job_model.specs.declared.acts.Reason.TheVariants as reasons
use Rattle.job_model.specs.declared.acts.End.{End}
use Rattle.job_model.specs.declared.acts.End.TheVariants as ends
use Rattle.job_model.specs.declared.acts.JobAct.{JobAct}
use Rattle.job_model.specs.declared.acts.JobAct.TheVariants.{Attach, Start, EndBody, Cancel, Finish, Gone}
use Rattle.job_model.specs.declared.acts.JobEntry.{JobEntry}
use Rattle.job_model.specs.Trees.{Shape, Job, Tree, start, is_new, is_cancelling, is_ended, is_failure, is_supervisor, state_of, tag_of, parent_row, is_none_left, was_told, living}
use Rattle.job_model.specs.Effects.{after}
use Rattle.job_model.specs.Needs.{IsRowFor, MayHaveChild, MayEndBody, MayBeCancelled, MayFinish, IsFinishedBy, MayTell, IsCancelled, IsFailedChild, Holds, Needs, end_of, any_below, ended_by_failure}
use Rattle.job_model.specs.Histories.{replay, replay_from, Legal, LegalFrom}
use Rattle.job_model.specs.Steps.{is_same, is_number, is_row_for, may_have_child, may_start, may_end_body, may_be_cancelled, same_cause, same_end, is_end, may_finish, is_finished_by, may_tell, was_cancelled, is_failed_child, does_hold, may_make, step, steps_from}

-- ---- tests and what they say

three : {P Q R : Type 0} (a b c : Bool) → Decides a P → Decides b Q → Decides c R → Decides (a && (b && c)) (P × Q × R)
three a b c p q r = (
  λ e. (p.0 (and_parts a (b && c) e).0, q.0 (and_parts b c (and_parts a (b && c) e).1).0, r.0 (and_parts b c (and_parts a (b && c) e).1).1),
  λ h. and_from a (b && c) (p.1 h.0) (and_from b c (q.1 h.1) (r.1 h.2)),
)

four : {P Q R S : Type 0} (a b c d : Bool) → Decides a P → Decides b Q → Decides c R → Decides d S
    → Decides (a && (b && (c && d))) (P × Q × R × S)
four a b c d p q r s = (
  λ e.
      let f = (and_parts a (b && (c && d)) e).1 in
      let g = (and_parts b (c && d) f).1 in
      (p.0 (and_parts a (b && (c && d)) e).0, q.0 (and_parts b (c && d) f).0, r.0 (and_parts c d g).0, s.0 (and_parts c d g).1),
  λ h. and_from a (b && (c && d)) (p.1 h.0) (and_from b (c && d) (q.1 h.1) (and_from c d (r.1 h.2) (s.1 h.3))),
)

is_true : (b : Bool) → Decides b (b ≡ true)
is_true b = (λ e. e, λ e. e)

is_false : (b : Bool) → Decides (not b) (b ≡ false)
is_false true = (λ e. cc, λ e. cc)
is_false false = (λ e. refl, λ e. refl)

same_tests : (a b : Bool) → Decides (is_same a b) (a ≡ b)
same_tests true true = (λ e. refl, λ e. refl)
same_tests true false = (λ e. cc, λ e. cc)
same_tests false true = (λ e. cc, λ e. cc)
same_tests false false = (λ e. refl, λ e. refl)

number_is : (n : ℕ) (o : Option ℕ) → Decides (is_number n o) (o ≡ Some n)
number_is n None = (λ e. cc, λ e. cc)
number_is n (Some m) = (λ e. ap (λ u. Some u) (eqb-true m n e), λ e. eq-eqb m n (let k : m ≡ n = cc in k))

is_nothing : (x : Option Job) → Decides (not (is_some x)) (x ≡ None)
is_nothing None = (λ e. refl, λ e. refl)
is_nothing (Some j) = (λ e. cc, λ e. cc)

not_zero : (r : ℕ) → Decides (not (r == 0)) (r ≢ 0)
not_zero r = Decides-not (r == 0) (Decides-eqb r 0)

le_is : (m n : ℕ) → Decides (nat_le m n) (m ≤ n)
le_is m n = (λ e. grind (arith, nat_tests), λ h. grind (arith, nat_tests))

-- ---- parts of the needs

row_for_is : (shape : Shape) (who : ℕ) (kind : JobKind) (tag r : ℕ)
    → Decides (is_row_for shape who kind tag r) (IsRowFor shape who kind tag r)
row_for_is shape who kind tag r = by_kind kind.scoped
  where
    by_kind : (b : Bool) → Decides (if b then (tag == who)
        && (nat_le shape.coroutines r && nat_lt r shape.rows) else r == tag)
        (MatchBool b ((tag ≡ who) × (shape.coroutines ≤ r) × (r < shape.rows)) (r ≡ tag))
    by_kind true = three (tag == who) (nat_le shape.coroutines r) (nat_lt r shape.rows) (Decides-eqb tag who) (le_is shape.coroutines r)
        (Decides-ltb r shape.rows)
    by_kind false = Decides-eqb r tag

child_is : (cancelled : Bool) (x : Option Job) → Decides (may_have_child cancelled x) (MayHaveChild cancelled x)
child_is cancelled None = (λ e. cc, λ h. absurd h)
child_is cancelled (Some j) = Decides-and (not (is_ended j.state)) (is_same (is_cancelling j.state) cancelled) (is_false (is_ended j.state))
    (same_tests (is_cancelling j.state) cancelled)

new_state : (s : JobState) → Decides (is_new s) (s ≡ New)
new_state New = (λ e. refl, λ e. refl)
new_state Active = (λ e. cc, λ e. cc)
new_state other = (λ e. cc, λ e. cc)

start_is : (x : Option Job) → Decides (may_start x) (state_of x ≡ Some New)
start_is None = (λ e. cc, λ e. cc)
start_is (Some j) = (λ e. ap (λ s. Some s) ((new_state j.state).0 e), λ e. (new_state j.state).1 (let k : j.state ≡ New = cc in k))

body_is : (who : ℕ) (x : Option Job) → Decides (may_end_body who x) (MayEndBody who x)
body_is who None = (λ e. cc, λ h. absurd h)
body_is who (Some j) = three (j.tag == who) (not (is_new j.state)) (not j.body_ended) (Decides-eqb j.tag who) (is_false (is_new j.state))
    (is_false j.body_ended)

cancel_is : (x : Option Job) → Decides (may_be_cancelled x) (MayBeCancelled x)
cancel_is None = (λ e. cc, λ h. absurd h)
cancel_is (Some j) = (λ e. e, λ e. e)

pub cause_is : (c d : Cause) → Decides (same_cause c d) (c ≡ d)
cause_is because.None because.None = (λ e. refl, λ e. refl)
cause_is because.None because.Request = (λ e. cc, λ e. cc)
cause_is because.None (because.Failure g) = (λ e. cc, λ e. cc)
cause_is because.Request because.Request = (λ e. refl, λ e. refl)
cause_is because.Request other = (λ e. cc, λ e. cc)
cause_is (because.Failure f) because.None = (λ e. cc, λ e. cc)
cause_is (because.Failure f) because.Request = (λ e. cc, λ e. cc)
cause_is (because.Failure f) (because.Failure g) = (
  λ e. ap (λ u. because.Failure u) (eqb-true f g e),
  λ e. eq-eqb f g (let k : f ≡ g = cc in k),
)

pub end_is : (e f : End) → Decides (same_end e f) (e ≡ f)
end_is (ends.Completed v) (ends.Completed w) = (λ e. ap (λ u. ends.Completed u) (eqb-true v w e), λ e. eq-eqb v w (let k : v ≡ w = cc in k))
end_is (ends.Completed v) (ends.Cancelled d) = (λ e. cc, λ e. cc)
end_is (ends.Cancelled c) (ends.Completed w) = (λ e. cc, λ e. cc)
end_is (ends.Cancelled c) (ends.Cancelled d) = (
  λ e. ap (λ u. ends.Cancelled u) ((cause_is c d).0 e),
  λ e. (cause_is c d).1 (let k : c ≡ d = cc in k),
)

pub ends_so : (end : End) (o : Option End) → Decides (is_end end o) (o ≡ Some end)
ends_so end None = (λ e. cc, λ e. cc)
ends_so end (Some f) = (λ e. ap (λ u. Some u) ((end_is f end).0 e), λ e. (end_is f end).1 (let k : f ≡ end = cc in k))

finish_is : (end : End) (x : Option Job) → Decides (may_finish end x) (MayFinish end x)
finish_is end None = (λ e. cc, λ h. absurd h)
finish_is end (Some j) = three j.body_ended (is_none_left (living j)) (is_end end (end_of j.state j)) (is_true j.body_ended)
    (is_true (is_none_left (living j))) (ends_so end (end_of j.state j))

finished_is : (who : ℕ) (x : Option Job) → Decides (is_finished_by who x) (IsFinishedBy who x)
finished_is who None = (λ e. cc, λ h. absurd h)
finished_is who (Some j) = number_is who j.finisher

tell_is : (who r : ℕ) (tree : Tree) → Decides (may_tell who r tree) (MayTell who r tree)
tell_is who r tree = three (is_finished_by who (tree r)) (not (was_told r (parent_row tree r))) (not (r == 0)) (finished_is who (tree r))
    (is_false (was_told r (parent_row tree r))) (not_zero r)

-- ---- reasons

cancelled_is : (x : Option Job) → Decides (was_cancelled x) (IsCancelled x)
cancelled_is None = (λ e. cc, λ h. absurd h)
cancelled_is (Some j) = (λ e. e, λ e. e)

failed_is : (r : ℕ) (x : Option Job) → Decides (is_failed_child r x) (IsFailedChild r x)
failed_is r None = (λ e. cc, λ h. absurd h)
failed_is r (Some j) = three (is_number r j.parent) (is_failure j.cause) (not j.kind.scoped) (number_is r j.parent)
    (is_true (is_failure j.cause)) (is_false j.kind.scoped)

reason_is : (shape : Shape) (tree : Tree) (who r : ℕ) (reason : Reason)
    → Decides (does_hold shape tree who r reason) (Holds shape tree who r reason)
reason_is shape tree who r reasons.Request = (λ e. tt, λ h. refl)
reason_is shape tree who r reasons.Parent = cancelled_is (parent_row tree r)
reason_is shape tree who r (reasons.Child c) = Decides-and (is_failed_child r (tree c)) (not (is_supervisor (tree r)))
    (failed_is r (tree c)) (is_false (is_supervisor (tree r)))
reason_is shape tree who r (reasons.Own f) =
    Decides-and (is_number who (tag_of (tree r))) ((f == r) || ((f == who) || any_below shape.rows (λ q. ended_by_failure f (tree q))))
    (number_is who (tag_of (tree r))) (is_true ((f == r) || ((f == who) || any_below shape.rows (λ q. ended_by_failure f (tree q)))))

-- ---- the acts

make_is : (shape : Shape) (tree : Tree) (who : ℕ) (act : JobAct) → Decides (may_make shape tree who act) (Needs shape tree who act)
make_is shape tree who (Attach p r kind tag cancelled) =
    four (not (is_some (tree r))) (may_have_child cancelled (tree p)) (nat_lt tag shape.coroutines) (is_row_for shape who kind tag r)
    (is_nothing (tree r)) (child_is cancelled (tree p)) (Decides-ltb tag shape.coroutines) (row_for_is shape who kind tag r)
make_is shape tree who (Start r) = start_is (tree r)
make_is shape tree who (EndBody r v) = body_is who (tree r)
make_is shape tree who (Cancel r reason) = Decides-and (may_be_cancelled (tree r)) (does_hold shape tree who r reason) (cancel_is (tree r))
    (reason_is shape tree who r reason)
make_is shape tree who (Finish r end) = finish_is end (tree r)
make_is shape tree who (Gone r) = tell_is who r tree

-- ---- steps

some_made : (b : Bool) (t : Tree) → Decides b ((if b then Some t else None) ≡ Some t)
some_made true t = (λ e. refl, λ e. refl)
some_made false t = (λ e. cc, λ e. cc)

none_made : (b : Bool) (t : Tree) → Decides (not b) ((if b then Some t else None) ≡ None)
none_made true t = (λ e. cc, λ e. cc)
none_made false t = (λ e. refl, λ e. refl)

pub step_made : (shape : Shape) (tree : Tree) (e : JobEntry)
    → Needs shape tree e.who e.act ↔ (step shape tree e ≡ Some (after tree e.who e.act))
step_made shape tree e =
    let m = make_is shape tree e.who e.act in
    let s = some_made (may_make shape tree e.who e.act) (after tree e.who e.act) in
    (λ n. s.0 (m.1 n), λ k. m.0 (s.1 k))

pub step_refused : (shape : Shape) (tree : Tree) (e : JobEntry) → (¬ Needs shape tree e.who e.act) ↔ (step shape tree e ≡ None)
step_refused shape tree e =
    let m = make_is shape tree e.who e.act in
    let s = none_made (may_make shape tree e.who e.act) (after tree e.who e.act) in (
      λ n. by_test (may_make shape tree e.who e.act) refl n m s,
      λ k. not_from_Decides (may_make shape tree e.who e.act) m ((is_false (may_make shape tree e.who e.act)).0 (s.1 k)),
    )
  where
    by_test : (b : Bool) → may_make shape tree e.who e.act ≡ b → (¬ Needs shape tree e.who e.act)
        → Decides (may_make shape tree e.who e.act) (Needs shape tree e.who e.act)
        → Decides (not (may_make shape tree e.who e.act)) (step shape tree e ≡ None) → step shape tree e ≡ None
    by_test true k n m s = absurd (n (m.0 k))
    by_test false k n m s = s.0 (ap not k)

-- all steps of a history are made, or one is not and there is no tree
all_or_none : (shape : Shape) (tree : Tree) (es : List JobEntry) (P : Type 0)
    → (LegalFrom shape tree es → steps_from shape tree es ≡ Some (replay_from tree es) → P)
    → ((¬ LegalFrom shape tree es) → steps_from shape tree es ≡ None → P) → P
unfolding steps_from LegalFrom replay_from
all_or_none shape tree [] P all none = all tt refl
all_or_none shape tree (e ∷ es) P all none =
    by_test (may_make shape tree e.who e.act) refl (make_is shape tree e.who e.act)
    (λ k m.
    let one : step shape tree e ≡ Some (after tree e.who e.act) = ap (λ c. if c then Some (after tree e.who e.act) else None) k in
    all_or_none shape (after tree e.who e.act) es P
    (λ l s. all (m.0 k, l) (ap (option_and_then (λ (next : Tree). steps_from shape next es)) one ∙ s))
    (λ l s. none (λ h. l h.1) (ap (option_and_then (λ (next : Tree). steps_from shape next es)) one ∙ s)))
  where
    by_test : (b : Bool) → may_make shape tree e.who e.act ≡ b → Decides (may_make shape tree e.who e.act) (Needs shape tree e.who e.act)
        → (may_make shape tree e.who e.act ≡ true → Decides (may_make shape tree e.who e.act) (Needs shape tree e.who e.act) → P) → P
    by_test true k m rest = rest k m
    by_test false k m rest =
        none (λ h. not_from_Decides (may_make shape tree e.who e.act) m k h.0)
        (ap (option_and_then (λ (next : Tree). steps_from shape next es)) (ap (λ c. if c then Some (after tree e.who e.act) else None) k))

pub steps_made : (shape : Shape) (history : List JobEntry) → Legal shape history ↔ (steps_from shape start history ≡ Some (replay history))
steps_made shape history =
    all_or_none shape start history (Legal shape history ↔ (steps_from shape start history ≡ Some (replay history)))
    (λ l s. (λ h. s, λ h. l))
    (λ l s. (λ h. absurd (l h), λ h. absurd (let k : None ≡ Some (replay history) = sym s ∙ h in cc)))

pub steps_refused : (shape : Shape) (history : List JobEntry) → (¬ Legal shape history) ↔ (steps_from shape start history ≡ None)
steps_refused shape history =
    all_or_none shape start history ((¬ Legal shape history) ↔ (steps_from shape start history ≡ None))
    (λ l s. (λ h. absurd (h l), λ h. absurd (let k : Some (replay history) ≡ None = sym s ∙ h in cc)))
    (λ l s. (λ h. s, λ h. l))
