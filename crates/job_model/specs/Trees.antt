-- The tree of Jobs.
use Rattle.std.specs.Prelude.{ℕ, ◌==◌, ◌<◌, ◌≤◌, Bool, true, false, not, ◌&&◌, List, [], ◌∷◌, filter, Option, Some, None, if◌then◌else◌}
use Rattle.std.specs.List.{list_any}
use Rattle.job_model.specs.declared.acts.JobState.{JobState}
use Rattle.job_model.specs.declared.acts.JobState.TheVariants.{New, Active, Completing, Cancelling, Cancelled, Completed}
use Rattle.job_model.specs.declared.acts.JobKind.{JobKind}
use Rattle.job_model.specs.declared.acts.Cause.{Cause}
use Rattle.job_model.specs.declared.acts.Cause.TheVariants as because

-- the number of coroutines, and that of all rows, which no act changes
pub record Shape : Type 0 where
  pub coroutines : ℕ
  pub rows : ℕ

-- there is a root, and each coroutine has a row
pub record IsShape (shape : Shape) : Type 0 where
  pub some : 0 < shape.coroutines
  pub fit : shape.coroutines ≤ shape.rows

pub record Job : Type 0 where
  -- none for the root
  pub parent : Option ℕ
  pub kind : JobKind
  pub tag : ℕ
  pub state : JobState
  pub body_ended : Bool
  -- why it is Cancelling or Cancelled
  pub cause : Cause
  -- the result in Completing and Completed, else 0
  pub value : ℕ
  -- in the order in which they were attached
  pub children : List ℕ
  -- the children that were told gone
  pub told : List ℕ
  -- who made its Finish
  pub finisher : Option ℕ

-- a Job at each row that is attached
abbrev pub Tree : Type 0
Tree = ℕ → Option Job

abbrev pub plain : JobKind
plain = record { supervisor = false; scoped = false; lazy = false }

abbrev pub root : Job
root =
    record {
      parent = None;
      kind = plain;
      tag = 0;
      state = Active;
      body_ended = false;
      cause = because.None;
      value = 0;
      children = [];
      told = [];
      finisher = None;
    }

-- the root alone is attached
abbrev pub start : Tree
start r = if r == 0 then Some root else None

-- ---- states

abbrev pub is_new : JobState → Bool
is_new New = true
is_new Active = false
is_new Completing = false
is_new Cancelling = false
is_new Cancelled = false
is_new Completed = false

-- Active or Completing
abbrev pub is_active : JobState → Bool
is_active New = false
is_active Active = true
is_active Completing = true
is_active Cancelling = false
is_active Cancelled = false
is_active Completed = false

-- it may still be cancelled
abbrev pub is_cancellable : JobState → Bool
is_cancellable New = true
is_cancellable Active = true
is_cancellable Completing = true
is_cancellable Cancelling = false
is_cancellable Cancelled = false
is_cancellable Completed = false

abbrev pub is_cancelling : JobState → Bool
is_cancelling New = false
is_cancelling Active = false
is_cancelling Completing = false
is_cancelling Cancelling = true
is_cancelling Cancelled = false
is_cancelling Completed = false

-- Cancelling or Cancelled
abbrev pub is_cancelled : JobState → Bool
is_cancelled New = false
is_cancelled Active = false
is_cancelled Completing = false
is_cancelled Cancelling = true
is_cancelled Cancelled = true
is_cancelled Completed = false

abbrev pub is_ended : JobState → Bool
is_ended New = false
is_ended Active = false
is_ended Completing = false
is_ended Cancelling = false
is_ended Cancelled = true
is_ended Completed = true

-- ---- rows

abbrev pub is_failure : Cause → Bool
is_failure because.None = false
is_failure because.Request = false
is_failure (because.Failure f) = true

abbrev pub is_failure_of : ℕ → Cause → Bool
is_failure_of f because.None = false
is_failure_of f because.Request = false
is_failure_of f (because.Failure g) = f == g

abbrev pub state_of : Option Job → Option JobState
state_of None = None
state_of (Some j) = Some j.state

abbrev pub tag_of : Option Job → Option ℕ
tag_of None = None
tag_of (Some j) = Some j.tag

abbrev pub parent_of : Option Job → Option ℕ
parent_of None = None
parent_of (Some j) = j.parent

abbrev pub kind_of : Option Job → Option JobKind
kind_of None = None
kind_of (Some j) = Some j.kind

abbrev pub is_supervisor : Option Job → Bool
is_supervisor None = false
is_supervisor (Some j) = j.kind.supervisor

abbrev pub row_of : Tree → Option ℕ → Option Job
row_of tree None = None
row_of tree (Some r) = tree r

-- the Job of the row's parent
abbrev pub parent_row : Tree → ℕ → Option Job
parent_row tree r = row_of tree (parent_of (tree r))

abbrev pub is_among : ℕ → List ℕ → Bool
is_among r rows = list_any (λ q. r == q) rows

-- the parent was told that this child is gone
abbrev pub was_told : ℕ → Option Job → Bool
was_told c None = false
was_told c (Some j) = is_among c j.told

-- the children that were not told gone
abbrev pub living : Job → List ℕ
living j = filter (λ c. not (is_among c j.told)) j.children

abbrev pub is_none_left : List ℕ → Bool
is_none_left [] = true
is_none_left (c ∷ cs) = false

-- no child of it lives
abbrev pub is_childless : Option Job → Bool
is_childless None = true
is_childless (Some j) = is_none_left (living j)

-- its body has ended, and no child of it lives
abbrev pub is_done : Option Job → Bool
is_done None = false
is_done (Some j) = j.body_ended && is_none_left (living j)
