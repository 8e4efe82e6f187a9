-- What the rows of a vector stand for.
use Rattle.std.specs.Prelude.{◌≡◌, ℕ, ◌+◌, nat_lt, Bool, false, List, length, Option, Some, None, option_map, slice_get, if◌then◌else◌}
use Rattle.job_model.specs.declared.acts.JobState.{JobState}
use Rattle.job_model.specs.declared.acts.JobState.TheVariants.{New, Active, Completing, Cancelling, Cancelled, Completed}
use Rattle.job_model.specs.declared.acts.Cause.{Cause}
use Rattle.job_model.specs.declared.acts.Cause.TheVariants as because
use Rattle.job_model.specs.declared.acts.End.{End}
use Rattle.job_model.specs.declared.acts.End.TheVariants as ends
use Rattle.job_model.specs.Trees.{Job, Tree, living, parent_row, root, was_told}
use Rattle.job_model.specs.Laws.{HasFamilies}
use Rattle.job_replay.specs.declared.job_row.JobRow.{JobRow}

-- what stands at a place of a list of optional values, if anything does
abbrev pub flat : {X : Type 0} → Option (Option X) → Option X
flat None = None
flat (Some x) = x

abbrev pub item_in : {X : Type 0} → List (Option X) → ℕ → Option X
item_in xs i = flat (slice_get xs i)

-- a bit is set
abbrev pub is_set : Option Bool → Bool
is_set None = false
is_set (Some b) = b

abbrev pub bit_in : List Bool → ℕ → Bool
bit_in xs i = is_set (slice_get xs i)

-- the row of a Job
abbrev pub row_of_job : Job → JobRow
row_of_job j =
    record {
      parent = j.parent;
      kind = j.kind;
      tag = j.tag;
      state = j.state;
      body_ended = j.body_ended;
      cause = j.cause;
      value = j.value;
      living = length (living j);
      finisher = j.finisher;
    }

-- the rows are those of the tree
abbrev pub AreRowsOf : Tree → List (Option JobRow) → Type 0
AreRowsOf tree rows = (r : ℕ) → item_in rows r ≡ option_map row_of_job (tree r)

-- a bit is set for each row of which its parent was told that it is gone
abbrev pub AreGoneIn : Tree → List Bool → Type 0
AreGoneIn tree gone = (r : ℕ) → bit_in gone r ≡ was_told r (parent_row tree r)

-- so many rows and bits, which are those of the tree
pub record StandsFor (count : ℕ) (tree : Tree) (rows : List (Option JobRow)) (gone : List Bool) : Type 0 where
  pub rows_count : length rows ≡ count
  pub gone_count : length gone ≡ count
  pub rows_are : AreRowsOf tree rows
  pub gone_are : AreGoneIn tree gone
  pub families : HasFamilies tree

-- ---- what a row says

abbrev pub parent_in : Option JobRow → Option ℕ
parent_in None = None
parent_in (Some x) = x.parent

abbrev pub tag_in : Option JobRow → Option ℕ
tag_in None = None
tag_in (Some x) = Some x.tag

abbrev pub cause_in : Option JobRow → Cause
cause_in None = because.None
cause_in (Some x) = x.cause

-- the row of the parent
abbrev pub parent_item : List (Option JobRow) → Option ℕ → Option JobRow
parent_item rows None = None
parent_item rows (Some p) = item_in rows p

-- the end of a Job that is Completing or Cancelling
abbrev pub end_of_row : JobState → JobRow → Option End
end_of_row New x = None
end_of_row Active x = None
end_of_row Completing x = Some (ends.Completed x.value)
end_of_row Cancelling x = Some (ends.Cancelled x.cause)
end_of_row Cancelled x = None
end_of_row Completed x = None

-- one more, up to the bound that no tree reaches
abbrev pub one_more : ℕ → ℕ
one_more n = if nat_lt n 4294967295 then n + 1 else n

-- the root at the start
abbrev pub root_row : JobRow
root_row = row_of_job root
