-- Who stands below whom, and in which order children stand.
use Rattle.std.specs.Prelude.{◌≡◌, ℕ, ◌==◌, true, false, List, [], ◌∷◌, Option, Some, None, if◌then◌else◌}
use Rattle.job_model.specs.Trees.{Job, Tree, parent_of, parent_row, is_cancellable, is_ended}

-- d is a child of the row, or a child of one that is below the row
pub data IsBelow (tree : Tree) (row : ℕ) : ℕ → Type 0 where
  is_child : (d : ℕ) → parent_of (tree d) ≡ Some row → IsBelow tree row d
  is_further : (c d : ℕ) → IsBelow tree row c → parent_of (tree d) ≡ Some c → IsBelow tree row d

-- the Job is Cancelling, Cancelled or Completed
abbrev pub IsCancellingOrEnded : Option Job → Type 0
IsCancellingOrEnded None = ⊥
IsCancellingOrEnded (Some j) = is_cancellable j.state ≡ false

abbrev pub IsEnded : Option Job → Type 0
IsEnded None = ⊥
IsEnded (Some j) = is_ended j.state ≡ true

-- each Job below the row is Cancelling or ended
abbrev pub AllBelowCancelled : Tree → ℕ → Type 0
AllBelowCancelled tree row = (d : ℕ) → IsBelow tree row d → IsCancellingOrEnded (tree d)

-- the child that was attached last
abbrev pub newest_after : ℕ → List ℕ → ℕ
newest_after c [] = c
newest_after c (d ∷ ds) = newest_after d ds

abbrev pub newest : List ℕ → Option ℕ
newest [] = None
newest (c ∷ cs) = Some (newest_after c cs)

-- the child that was attached before r; o stands before this list
abbrev pub older_after : Option ℕ → ℕ → List ℕ → Option ℕ
older_after o r [] = None
older_after o r (c ∷ cs) = if r == c then o else older_after (Some c) r cs

abbrev pub older : ℕ → List ℕ → Option ℕ
older r children = older_after None r children

abbrev pub children_of : Option Job → List ℕ
children_of None = []
children_of (Some j) = j.children

-- the child of the same parent that was attached before this one
abbrev pub older_sibling : Tree → ℕ → Option ℕ
older_sibling tree r = older r (children_of (parent_row tree r))
