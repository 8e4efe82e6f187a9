-- What an act leaves of the rows and of the bits.
use Rattle.std.specs.Prelude.{◌≡◌, ℕ, ◌==◌, ◌<◌, ◌-◌, Bool, true, false, List, length, Option, Some, None, option_map, if◌then◌else◌}
use Rattle.job_model.specs.declared.acts.JobKind.{JobKind}
use Rattle.job_model.specs.declared.acts.JobState.TheVariants.{Active, Cancelling}
use Rattle.job_model.specs.declared.acts.Cause.{Cause}
use Rattle.job_model.specs.declared.acts.Cause.TheVariants as because
use Rattle.job_model.specs.declared.acts.Reason.{Reason}
use Rattle.job_model.specs.declared.acts.Reason.TheVariants as reasons
use Rattle.job_model.specs.declared.acts.End.{End}
use Rattle.job_model.specs.declared.acts.JobAct.{JobAct}
use Rattle.job_model.specs.declared.acts.JobAct.TheVariants.{Attach, Start, EndBody, Cancel, Finish, Gone}
use Rattle.job_model.specs.Effects.{first_state, first_cause, state_after_body, value_after_body, state_of_end}
use Rattle.job_replay.specs.declared.job_row.JobRow.{JobRow}
use Rattle.job_replay.specs.Rows.{bit_in, cause_in, item_in, one_more, parent_in}

-- ---- a row

abbrev pub new_row : ℕ → JobKind → ℕ → Bool → JobRow
new_row parent kind tag cancelled =
    record {
      parent = Some parent;
      kind = kind;
      tag = tag;
      state = first_state cancelled kind.lazy;
      body_ended = false;
      cause = first_cause cancelled;
      value = 0;
      living = 0;
      finisher = None;
    }

abbrev pub started_row : JobRow → JobRow
started_row x = record x { state = Active }

abbrev pub bodiless_row : ℕ → JobRow → JobRow
bodiless_row v x = record x { body_ended = true; state = state_after_body x.state; value = value_after_body x.state v x.value }

abbrev pub cancelled_row : Cause → JobRow → JobRow
cancelled_row cause x = record x { state = Cancelling; cause = cause; value = 0 }

abbrev pub ended_row : ℕ → End → JobRow → JobRow
ended_row who end x = record x { state = state_of_end end; finisher = Some who }

-- with one living child more, and with one less
abbrev pub with_more : JobRow → JobRow
with_more x = record x { living = one_more x.living }

abbrev pub with_less : JobRow → JobRow
with_less x = record x { living = x.living - 1 }

abbrev pub cause_for : List (Option JobRow) → Reason → Cause
cause_for rows reasons.Request = because.Request
cause_for rows reasons.Parent = because.Request
cause_for rows (reasons.Child c) = cause_in (item_in rows c)
cause_for rows (reasons.Own f) = because.Failure f

-- ---- the rows

-- this row, if there is one, is another now
pub record Puts (r : ℕ) (x : Option JobRow) (old new : List (Option JobRow)) : Type 0 where
  pub count : length new ≡ length old
  pub rows : r < length old → (q : ℕ) → item_in new q ≡ (if r == q then x else item_in old q)

-- of this row it is what f makes of it
abbrev pub Changes : ℕ → (JobRow → JobRow) → List (Option JobRow) → List (Option JobRow) → Type 0
Changes r f old new = Puts r (option_map f (item_in old r)) old new

-- the child has its row, and the parent one living child more
pub record Attaches (p r : ℕ) (child : JobRow) (old new : List (Option JobRow)) : Type 0 where
  pub mid : List (Option JobRow)
  pub above : Changes p with_more old mid
  pub below : Puts r (Some child) mid new

-- of the parent, if there is one, it is one living child less
abbrev pub Lessens : Option ℕ → List (Option JobRow) → List (Option JobRow) → Type 0
Lessens None old new = new ≡ old
Lessens (Some p) old new = Changes p with_less old new

-- this bit is set
pub record Sets (r : ℕ) (old new : List Bool) : Type 0 where
  pub count : length new ≡ length old
  pub bits : r < length old → (q : ℕ) → bit_in new q ≡ (if r == q then true else bit_in old q)

-- what this act of who leaves
abbrev pub Changed : ℕ → JobAct → List (Option JobRow) → List (Option JobRow) → List Bool → List Bool → Type 0
Changed who (Attach p r kind tag cancelled) old new gone gone' = Attaches p r (new_row p kind tag cancelled) old new × (gone' ≡ gone)
Changed who (Start r) old new gone gone' = Changes r started_row old new × (gone' ≡ gone)
Changed who (EndBody r v) old new gone gone' = Changes r (bodiless_row v) old new × (gone' ≡ gone)
Changed who (Cancel r reason) old new gone gone' = Changes r (cancelled_row (cause_for old reason)) old new × (gone' ≡ gone)
Changed who (Finish r end) old new gone gone' = Changes r (ended_row who end) old new × (gone' ≡ gone)
Changed who (Gone r) old new gone gone' = Lessens (parent_in (item_in old r)) old new × Sets r gone gone'
