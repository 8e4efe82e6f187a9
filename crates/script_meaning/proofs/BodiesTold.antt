-- The words of what a coroutine told of bodies: its own, and those of the scopes that it has entered.
use Rattle.std.specs.Prelude.{◌≡◌, ℕ, ◌<◌, ◌≤◌, Bool, false, List, [], ◌∷◌, ◌++◌, Some}
use Rattle.std.specs.List.{list_any}
use Rattle.job_model.specs.declared.acts.Cause.TheVariants as because
use Rattle.job_model.specs.declared.acts.End.TheVariants as ends
use Rattle.job_model.specs.declared.acts.JobAct.{JobAct}
use Rattle.job_model.specs.declared.acts.JobAct.TheVariants.{Attach}
use Rattle.job_model.specs.Acts.{attaches, ends_body}
use Rattle.job_model.specs.Trees.{Shape, is_among}
use Rattle.note_book.specs.Items.{job_acts_in}
use Rattle.call_meaning.specs.Telling.{Told, on_jobs, MayRun, saw, saw_end, items_in}
use Rattle.call_meaning.specs.JobCalls.{scope_kind}
use Rattle.script_meaning.specs.declared.stage.Stage.{Stage}
use Rattle.script_meaning.specs.declared.stage.Stage.TheVariants.{Unwinding}
use Rattle.script_meaning.specs.Configs.{Entered, in_repeat, in_each, in_scope}

-- ---- what was told of bodies

-- the acts on Jobs
abbrev pub acts_told : List Told → List JobAct
acts_told told = job_acts_in (items_in told)

-- whether an act that is told ends the body of this row
abbrev pub ends_in : ℕ → List Told → Bool
ends_in row told = list_any (ends_body row) (acts_told told)

-- whether an act that is told attaches this row
abbrev pub attaches_in : ℕ → List Told → Bool
attaches_in row told = list_any (attaches row) (acts_told told)

-- ---- scopes

-- the rows of the scopes that were entered and not left, the innermost first
unfoldable pub scope_rows : List Entered → List ℕ
scope_rows [] = []
scope_rows (in_repeat head left ∷ es) = scope_rows es
scope_rows (in_each head ∷ es) = scope_rows es
scope_rows (in_scope head row ∷ es) = row ∷ scope_rows es

-- the first of these rows, or else k
abbrev pub first_or : ℕ → List ℕ → ℕ
first_or k [] = k
first_or k (row ∷ rows) = row

-- k told that it attached this row for a scope, under this parent
pub record IsOwnScope (shape : Shape) (k : ℕ) (told : List Told) (parent row : ℕ) : Type 0 where
  pub supervisor : Bool
  pub now : Bool
  pub before : List JobAct
  pub behind : List JobAct
  pub attached : acts_told told ≡ before ++ Attach parent row (scope_kind supervisor) k now ∷ behind
  pub own : k < shape.coroutines
  pub scoped : shape.coroutines ≤ row
  pub within : row < shape.rows

-- these are rows of scopes of k, each attached under the next one and the last under k, and no two are the same; no body of them has ended,
-- but that of the first where this says so
unfoldable pub AreEntered : Shape → ℕ → List Told → Bool → List ℕ → Type 0
AreEntered shape k told ended [] = ended ≡ false
AreEntered shape k told ended (row ∷ rows) =
    IsOwnScope shape k told (first_or k rows) row × (ends_in row told ≡ ended) × (is_among row rows ≡ false)
    × AreEntered shape k told false rows

-- ---- how it began

-- its Job was seen running, or Cancelling; the root's Job runs from the beginning
pub data HasBegun (k : ℕ) (told : List Told) : Type 0 where
  root : k ≡ 0 → HasBegun k told
  might_run : (before behind : List Told) → told ≡ before ++ on_jobs (MayRun k) ∷ behind → HasBegun k told
  was_cancelling : (before behind : List Told) → told ≡ before ++ saw k ∷ behind → HasBegun k told

-- ---- failures

-- the failure of row f is k's own, or it saw a Job that had ended by it
pub data FailedBy (k : ℕ) (told : List Told) (f : ℕ) : Type 0 where
  own : f ≡ k → FailedBy k told f
  seen : (row : ℕ) (before behind : List Told) → told ≡ before ++ saw_end row (ends.Cancelled (because.Failure f)) ∷ behind
      → FailedBy k told f

-- where it unwinds by a failure, that is one of these
abbrev pub UnwindsBy : ℕ → List Told → Stage → Type 0
UnwindsBy k told (Unwinding (Some f)) = FailedBy k told f
UnwindsBy k told other = Unit {0}
