-- What each answer of a floor says, by cases on the answer.
use Rattle.std.specs.Prelude.{◌≡◌, ℕ, ◌<◌, ◌≤◌, Bool, true, false, [], ◌∷◌, length, Option, Some, None, Result, Ok, Err, is_some, option_map}
use Rattle.job_model.specs.declared.acts.JobKind.{JobKind}
use Rattle.job_model.specs.declared.acts.Reason.{Reason}
use Rattle.job_model.specs.declared.acts.JobAct.TheVariants.{Attach, Start, EndBody, Cancel, Finish, Gone}
use Rattle.job_model.specs.declared.floor.Attached.{Attached}
use Rattle.job_model.specs.declared.floor.AttachError.{AttachError}
use Rattle.job_model.specs.declared.floor.AttachError.TheVariants.{NoRow, Used, ParentEnded}
use Rattle.job_model.specs.declared.floor.Ended.{Ended}
use Rattle.job_model.specs.declared.floor.Ended.TheVariants.{Owes, Waits}
use Rattle.job_model.specs.declared.floor.CancelledNow.{CancelledNow}
use Rattle.job_model.specs.declared.floor.CancelledNow.TheVariants as cancelled
use Rattle.job_model.specs.declared.floor.Finished.{Finished}
use Rattle.job_model.specs.declared.floor.Finished.TheVariants as finished
use Rattle.job_model.specs.declared.floor.JobView.{JobView}
use Rattle.job_model.specs.declared.floor.Link.{Link}
use Rattle.job_model.specs.Trees.{Job, Tree, is_new, parent_row, living, is_childless, is_done}
use Rattle.job_model.specs.Families.{IsCancellingOrEnded, IsEnded, newest, older_sibling}
use Rattle.job_model.specs.Needs.{IsRowFor}
use Rattle.job_model.specs.Histories.{replay}
use Rattle.job_model.specs.Floors.{Floor, Looked, Made, AtStep}

-- ---- attach

-- a row for the child was claimed, and the parent was ended
pub record FoundParentEnded (who parent : ℕ) (kind : JobKind) (tag : ℕ) (old new : Floor) : Type 0 where
  pub row : ℕ
  pub row_for : IsRowFor old.shape who kind tag row
  pub looked : Looked who (row ∷ []) old new
  pub ended : AtStep old new (λ tree. IsEnded (tree parent))

-- the row of the tag was seen claimed
pub record FoundUsed (who : ℕ) (kind : JobKind) (tag : ℕ) (old new : Floor) : Type 0 where
  pub looked : Looked who [] old new
  pub coroutine : kind.scoped ≡ false
  pub used : is_some (new.claims tag) ≡ true

-- all rows for scopes were seen claimed
pub record FoundNoRow (who : ℕ) (kind : JobKind) (old new : Floor) : Type 0 where
  pub looked : Looked who [] old new
  pub scope : kind.scoped ≡ true
  pub used : (r : ℕ) → old.shape.coroutines ≤ r → r < old.shape.rows → is_some (new.claims r) ≡ true

abbrev pub AttachAnswer : ℕ → ℕ → JobKind → ℕ → Floor → Floor → Result Attached AttachError → Type 0
AttachAnswer who parent kind tag old new (Ok a) = Made who (Attach parent a.row kind tag a.cancelled) (a.row ∷ []) old new
AttachAnswer who parent kind tag old new (Err NoRow) = FoundNoRow who kind old new
AttachAnswer who parent kind tag old new (Err Used) = FoundUsed who kind tag old new
AttachAnswer who parent kind tag old new (Err ParentEnded) = FoundParentEnded who parent kind tag old new

-- ---- start

abbrev pub IsNotNew : Option Job → Type 0
IsNotNew None = ⊥
IsNotNew (Some j) = is_new j.state ≡ false

abbrev pub StartAnswer : ℕ → ℕ → Floor → Floor → Bool → Type 0
StartAnswer who row old new true = Made who (Start row) [] old new
StartAnswer who row old new false = Looked who [] old new × AtStep old new (λ tree. IsNotNew (tree row))

-- ---- end_body and gone

abbrev pub is_owed : Ended → Bool
is_owed Owes = true
is_owed Waits = false

-- Owes exactly if no child of the Job lived at the entry
pub record EndBodyAnswer (who row value : ℕ) (old new : Floor) (result : Ended) : Type 0 where
  pub made : Made who (EndBody row value) [] old new
  pub owes : is_owed result ≡ is_childless (replay made.before row)

-- Owes exactly if the parent's body had ended and no child of it lived after the entry
pub record GoneAnswer (who row : ℕ) (old new : Floor) (result : Ended) : Type 0 where
  pub made : Made who (Gone row) [] old new
  pub owes : is_owed result ≡ is_done (parent_row (replay new.seen) row)

-- ---- cancel_one

abbrev pub CancelAnswer : ℕ → ℕ → Reason → Floor → Floor → CancelledNow → Type 0
CancelAnswer who row reason old new cancelled.Now = Made who (Cancel row reason) [] old new
CancelAnswer who row reason old new cancelled.Already = Looked who [] old new × AtStep old new (λ tree. IsCancellingOrEnded (tree row))

-- ---- finish

-- the body had not ended, or a child lived
abbrev pub IsNotDone : Option Job → Type 0
IsNotDone None = ⊥
IsNotDone (Some j) = is_done (Some j) ≡ false

abbrev pub FinishAnswer : ℕ → ℕ → Floor → Floor → Finished → Type 0
FinishAnswer who row old new (finished.Now end) = Made who (Finish row end) [] old new
FinishAnswer who row old new finished.Already = Looked who [] old new × IsEnded (replay new.seen row)
FinishAnswer who row old new finished.NotYet = Looked who [] old new × AtStep old new (λ tree. IsNotDone (tree row))

-- ---- look and link

abbrev pub view_of : Job → JobView
view_of j =
    record {
      state = j.state;
      kind = j.kind;
      cause = j.cause;
      body_ended = j.body_ended;
      living = length (living j);
      first_child = newest j.children;
      value = j.value;
    }

abbrev pub LookAnswer : ℕ → ℕ → Floor → Floor → Option JobView → Type 0
LookAnswer who row old new result = Looked who [] old new × AtStep old new (λ tree. option_map view_of (tree row) ≡ result)

abbrev pub link_from : Option ℕ → Option ℕ → ℕ → Option Link
link_from None next tag = None
link_from (Some p) next tag = Some (record { parent = p; next = next; tag = tag })

-- the parent, the child of it that was attached before this one, and the tag
abbrev pub link_of : Tree → ℕ → Option Job → Option Link
link_of tree r None = None
link_of tree r (Some j) = link_from j.parent (older_sibling tree r) j.tag

abbrev pub LinkAnswer : ℕ → ℕ → Floor → Floor → Link → Type 0
LinkAnswer who row old new result = Looked who [] old new × AtStep old new (λ tree. link_of tree row (tree row) ≡ Some result)
