-- The words of what holds in every legal history.
use Rattle.std.specs.Prelude.{◌≡◌, ℕ, ◌==◌, ◌≤◌, Bool, true, false, ◌||◌, List, [], ◌∷◌, Option, Some, None, is_some, count_by, if◌then◌else◌}
use Rattle.std.specs.List.{IsDistinct, list_any}
use Rattle.std.specs.Option.{option_or}
use Rattle.job_model.specs.declared.acts.JobState.{JobState}
use Rattle.job_model.specs.declared.acts.JobState.TheVariants.{New, Active, Completing, Cancelling, Cancelled, Completed}
use Rattle.job_model.specs.declared.acts.Cause.{Cause}
use Rattle.job_model.specs.declared.acts.Cause.TheVariants as because
use Rattle.job_model.specs.declared.acts.End.{End}
use Rattle.job_model.specs.declared.acts.End.TheVariants as ends
use Rattle.job_model.specs.declared.acts.JobAct.{JobAct}
use Rattle.job_model.specs.declared.acts.JobAct.TheVariants.{Attach, Start, EndBody, Cancel, Finish, Gone}
use Rattle.job_model.specs.declared.acts.JobEntry.{JobEntry}
use Rattle.job_model.specs.Trees.{Job, Tree, start, is_ended, is_cancelled, is_cancellable, is_among, is_none_left, living, was_told, parent_of, parent_row}
use Rattle.job_model.specs.Acts.{attaches, starts, ends_body, cancels, finishes, tells}
use Rattle.job_model.specs.Effects.{after, first_state, cause_of_reason}
use Rattle.job_model.specs.Families.{IsEnded, children_of}

-- ---- families

-- the body has not ended
abbrev pub is_running : JobState → Bool
is_running New = true
is_running Active = true
is_running Completing = false
is_running Cancelling = false
is_running Cancelled = false
is_running Completed = false

-- the body has ended
abbrev pub is_bodiless : JobState → Bool
is_bodiless New = false
is_bodiless Active = false
is_bodiless Completing = true
is_bodiless Cancelling = false
is_bodiless Cancelled = true
is_bodiless Completed = true

abbrev pub is_cause : Cause → Bool
is_cause because.None = false
is_cause because.Request = true
is_cause (because.Failure f) = true

-- a Job has a finisher exactly if it has ended, and then no child of it lives; in each state but Cancelling it is
-- fixed whether its body has ended; it has a cause exactly if it is Cancelling or Cancelled
pub record IsSoundJob (j : Job) : Type 0 where
  pub finished : is_some j.finisher ≡ is_ended j.state
  pub running : is_running j.state ≡ true → j.body_ended ≡ false
  pub bodiless : is_bodiless j.state ≡ true → j.body_ended ≡ true
  pub childless : is_ended j.state ≡ true → is_none_left (living j) ≡ true
  pub caused : is_cause j.cause ≡ is_cancelled j.state

abbrev pub IsSoundRow : Option Job → Type 0
IsSoundRow None = Unit {0}
IsSoundRow (Some j) = IsSoundJob j

-- parents and children name each other, each child once; a child that was told gone has ended
pub record HasFamilies (tree : Tree) : Type 0 where
  pub rows : (r : ℕ) → IsSoundRow (tree r)
  pub parents : (p c : ℕ) → is_among c (children_of (tree p)) ≡ true → parent_of (tree c) ≡ Some p
  pub listed : (p c : ℕ) → parent_of (tree c) ≡ Some p → is_among c (children_of (tree p)) ≡ true
  pub once : (p : ℕ) → IsDistinct (λ c d. c == d) (children_of (tree p))
  pub root : (r : ℕ) → is_some (tree r) ≡ true → parent_of (tree r) ≡ None → r ≡ 0
  pub gone : (p c : ℕ) → was_told c (tree p) ≡ true → IsEnded (tree c)

-- ---- states

-- one act takes a Job from the one state to the other
abbrev pub is_step : JobState → JobState → Bool
is_step New Active = true
is_step New Cancelling = true
is_step Active Completing = true
is_step Active Cancelling = true
is_step Completing Completed = true
is_step Completing Cancelling = true
is_step Cancelling Cancelled = true
is_step other next = false

-- some acts take a Job from the one state to the other
pub data GoesTo (s : JobState) : JobState → Type 0 where
  stays : GoesTo s s
  goes_on : (t u : JobState) → GoesTo s t → is_step t u ≡ true → GoesTo s u

-- an attached row stays attached, and its state goes on
abbrev pub RowGoesTo : Option Job → Option Job → Type 0
RowGoesTo None y = Unit {0}
RowGoesTo (Some j) None = ⊥
RowGoesTo (Some j) (Some k) = GoesTo j.state k.state

-- the row of whose Job the act is
abbrev pub row_of_act : JobAct → ℕ
row_of_act (Attach p q kind tag cancelled) = q
row_of_act (Start q) = q
row_of_act (EndBody q v) = q
row_of_act (Cancel q reason) = q
row_of_act (Finish q end) = q
row_of_act (Gone q) = q

-- Completing for a Job that is Active, and Cancelling for one that is Cancelling
abbrev pub EndsBodyFrom : JobState → JobState → Type 0
EndsBodyFrom New t = ⊥
EndsBodyFrom Active t = t ≡ Completing
EndsBodyFrom Completing t = ⊥
EndsBodyFrom Cancelling t = t ≡ Cancelling
EndsBodyFrom Cancelled t = ⊥
EndsBodyFrom Completed t = ⊥

-- Completed with a value for a Job that is Completing, and Cancelled with a cause for one that is Cancelling
abbrev pub FinishesFrom : End → JobState → JobState → Type 0
FinishesFrom (ends.Completed v) s t = (s ≡ Completing) × (t ≡ Completed)
FinishesFrom (ends.Cancelled cause) s t = (s ≡ Cancelling) × (t ≡ Cancelled)

-- the act takes the state of its Job from the one to the other; none is that of a row that is not attached
abbrev pub ActTakes : JobAct → Option JobState → Option JobState → Type 0
ActTakes (Attach p q kind tag cancelled) old new = (old ≡ None) × (new ≡ Some (first_state cancelled kind.lazy))
ActTakes act None new = ⊥
ActTakes act (Some s) None = ⊥
ActTakes (Start q) (Some s) (Some t) = (s ≡ New) × (t ≡ Active)
ActTakes (EndBody q v) (Some s) (Some t) = EndsBodyFrom s t
ActTakes (Cancel q reason) (Some s) (Some t) = (is_cancellable s ≡ true) × (t ≡ Cancelling)
ActTakes (Finish q end) (Some s) (Some t) = FinishesFrom end s t
ActTakes (Gone q) (Some s) (Some t) = (is_ended s ≡ true) × (t ≡ s)

-- ---- values

abbrev pub has_result : JobState → Bool
has_result New = false
has_result Active = false
has_result Completing = true
has_result Cancelling = false
has_result Cancelled = false
has_result Completed = true

-- a Job has a value in Completing and Completed alone
abbrev pub HasNoOtherValue : Option Job → Type 0
HasNoOtherValue None = Unit {0}
HasNoOtherValue (Some j) = has_result j.state ≡ false → j.value ≡ 0

-- ---- causes

-- the cause that the act gives to the Job of r
abbrev pub cause_given : ℕ → Tree → JobAct → Option Cause
cause_given r tree (Attach p q kind tag cancelled) = if r == q then (if cancelled then Some because.Request else None) else None
cause_given r tree (Start q) = None
cause_given r tree (EndBody q v) = None
cause_given r tree (Cancel q reason) = if r == q then Some (cause_of_reason tree reason) else None
cause_given r tree (Finish q end) = None
cause_given r tree (Gone q) = None

unfoldable pub cause_given_from : ℕ → Tree → List JobEntry → Option Cause
cause_given_from r tree [] = None
cause_given_from r tree (e ∷ es) = option_or (cause_given r tree e.act) (cause_given_from r (after tree e.who e.act) es)

-- the cause that the history gave to the Job of r first
abbrev pub cause_given_in : ℕ → List JobEntry → Option Cause
cause_given_in r history = cause_given_from r start history

-- the cause of a Job that is Cancelling or Cancelled
abbrev pub cause_kept : Option Job → Option Cause
cause_kept None = None
cause_kept (Some j) = if is_cancelled j.state then Some j.cause else None

-- ---- entries of a row

-- how many entries of the history do this with the row
abbrev pub count_of : (ℕ → JobAct → Bool) → ℕ → List JobEntry → ℕ
count_of acts r history = count_by (λ e. acts r e.act) history

-- an entry of the history does this with the row
abbrev pub has : (ℕ → JobAct → Bool) → ℕ → List JobEntry → Bool
has acts r history = list_any (λ e. acts r e.act) history

-- each of the six acts is done with the row at most once
pub record OncePerRow (r : ℕ) (history : List JobEntry) : Type 0 where
  pub attach : count_of attaches r history ≤ 1
  pub start : count_of starts r history ≤ 1
  pub body : count_of ends_body r history ≤ 1
  pub cancel : count_of cancels r history ≤ 1
  pub finish : count_of finishes r history ≤ 1
  pub gone : count_of tells r history ≤ 1

abbrev pub has_ended_body : Option Job → Bool
has_ended_body None = false
has_ended_body (Some j) = j.body_ended

abbrev pub has_ended : Option Job → Bool
has_ended None = false
has_ended (Some j) = is_ended j.state

-- what the tree says of the row is what its entries say
pub record IsByEntries (r : ℕ) (history : List JobEntry) (tree : Tree) : Type 0 where
  pub attached : is_some (tree r) ≡ ((r == 0) || has attaches r history)
  pub bodiless : has_ended_body (tree r) ≡ has ends_body r history
  pub ended : has_ended (tree r) ≡ has finishes r history
  pub told : was_told r (parent_row tree r) ≡ has tells r history
