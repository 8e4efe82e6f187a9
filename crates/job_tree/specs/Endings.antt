-- How Jobs end, from one upwards.
use Rattle.std.specs.Prelude.{◌≡◌, ◌≢◌, ℕ, ◌+◌, ◌≤◌, true, false, List, [], ◌∷◌, ◌++◌, length, map, Some, Result, Ok, Err}
use Rattle.co_base.specs.declared.names.Memory.{Memory}
use Rattle.job_model.specs.declared.acts.End.{End}
use Rattle.job_model.specs.declared.acts.JobAct.{JobAct}
use Rattle.job_model.specs.declared.acts.JobAct.TheVariants.{Finish, Gone}
use Rattle.job_model.specs.Trees.{parent_of, parent_row, is_done}
use Rattle.job_model.specs.Families.{IsEnded}
use Rattle.job_model.specs.Answers.{IsNotDone}
use Rattle.job_model.specs.Floors.{Floor, Added, AtStep}
use Rattle.note_book.specs.declared.book.Item.{Item}
use Rattle.note_book.specs.Items.{job_acts_in}
use Rattle.call_meaning.specs.Seen.{SeenOnJobs, tree_in}
use Rattle.job_tree.specs.Notes.{made_note}
use Rattle.job_tree.specs.declared.ends.Rise.{Rise}
use Rattle.job_tree.specs.declared.ends.Rise.TheVariants as rise

-- ---- what the end of one Job does

-- the notes of a book, and room for so many more
pub record SeenBook : Type 0 where
  pub items : List Item
  pub spare : ℕ

abbrev pub book_seen : {B : Type 0} → (B → List Item) → (B → ℕ) → B → SeenBook
book_seen items spare book = record { items = items book; spare = spare book }

-- at most so many items were noted, none of an act on a Job
pub record HasEnded (most : ℕ) (does : List Item → Type 0) (old new : SeenBook) : Type 0 where
  pub ended : List Item
  pub does_it : does ended
  pub few : length ended ≤ most
  pub no_jobs : job_acts_in ended ≡ []
  pub appended : new.items ≡ old.items ++ ended
  pub room : old.spare ≡ new.spare + length ended

-- ---- the end of one Job

-- what a caller sees, and what it does where a Job ends
pub record SeenWith (T : Type 0) : Type 0 where
  pub seen : SeenOnJobs
  pub ends : T

abbrev pub seen_with : {T : Type 0} → SeenOnJobs → T → SeenWith T
seen_with seen ends = record { seen = seen; ends = ends }

-- it got ready, and no act was made or noted
pub record IsPrepared {T : Type 0} (prepares : T → T → Type 0) (old new : SeenWith T) : Type 0 where
  pub prepared : prepares old.ends new.ends
  pub who : new.seen.who ≡ old.seen.who
  pub items : new.seen.items ≡ old.seen.items
  pub added : Added old.seen.who [] [] old.seen.floor new.seen.floor

-- it got ready, and no act was made or noted; then the calls were over
pub record IsLeft {T : Type 0} (prepares : T → T → Type 0) (leaves : T → T → Floor → Type 0) (old new : SeenWith T) : Type 0 where
  pub ready : T
  pub prepared : prepares old.ends ready
  pub left : leaves ready new.ends new.seen.floor
  pub who : new.seen.who ≡ old.seen.who
  pub items : new.seen.items ≡ old.seen.items
  pub added : Added old.seen.who [] [] old.seen.floor new.seen.floor

-- the Job was finished; then came what its end does, and then the word to its parent
pub record IsEndedBy {T : Type 0} (prepares : T → T → Type 0) (does : T → Floor → ℕ → End → List Item → T → Floor → Type 0)
    (leaves : T → T → Floor → Type 0) (row : ℕ) (told : List JobAct) (old new : SeenWith T) : Type 0 where
  pub end : End
  pub ready : T
  pub ended : List Item
  -- after what the end does
  pub done : T
  -- the floor after the Finish, and after what the end does
  pub between : Floor
  pub after : Floor
  pub prepared : prepares old.ends ready
  pub finished : Added old.seen.who (Finish row end ∷ []) [] old.seen.floor between
  pub does_it : does ready between row end ended done after
  pub looked : Added old.seen.who [] [] between after
  pub no_jobs : job_acts_in ended ≡ []
  pub word : Added old.seen.who told [] after new.seen.floor
  pub left : leaves done new.ends new.seen.floor
  pub who : new.seen.who ≡ old.seen.who
  pub appended : new.seen.items ≡ old.seen.items ++ (made_note (Finish row end) ∷ (ended ++ map made_note told))

-- the Job had ended, or its body had not ended or a child of it lived
pub data MayNotEnd (row : ℕ) (old new : SeenOnJobs) : Type 0 where
  had_ended : IsEnded (tree_in new row) → MayNotEnd row old new
  not_done : AtStep old.floor new.floor (λ tree. IsNotDone (tree row)) → MayNotEnd row old new

-- what came of the end of one Job
pub data EndAnswer {T : Type 0} (prepares : T → T → Type 0) (does : T → Floor → ℕ → End → List Item → T → Floor → Type 0)
    (leaves : T → T → Floor → Type 0) (row : ℕ) (old new : SeenWith T) : Result Rise Memory → Type 0 where
  no_memory : (m : Memory) → IsPrepared prepares old new → EndAnswer prepares does leaves row old new (Err m)
  not_now : IsLeft prepares leaves old new → MayNotEnd row old.seen new.seen → EndAnswer prepares does leaves row old new (Ok rise.Stops)
  root : row ≡ 0 → IsEndedBy prepares does leaves row [] old new → EndAnswer prepares does leaves row old new (Ok rise.Stops)
  -- its parent's body has not ended, or a child of that lives
  waits : row ≢ 0 → IsEndedBy prepares does leaves row (Gone row ∷ []) old new
      → is_done (parent_row (tree_in new.seen) row) ≡ false → EndAnswer prepares does leaves row old new (Ok rise.Stops)
  -- its parent may end
  owes : (p : ℕ) → row ≢ 0 → IsEndedBy prepares does leaves row (Gone row ∷ []) old new
      → parent_of (tree_in new.seen row) ≡ Some p
      → AtStep old.seen.floor new.seen.floor (λ tree. is_done (parent_row tree row) ≡ true)
      → EndAnswer prepares does leaves row old new (Ok (rise.To p))

-- the ends of a Job and of its parents, as far as each owed its own; without memory it stops
pub data IsFinishedUp {T : Type 0} (prepares : T → T → Type 0) (does : T → Floor → ℕ → End → List Item → T → Floor → Type 0)
    (leaves : T → T → Floor → Type 0) : ℕ → SeenWith T → SeenWith T → Result (Unit {0}) Memory → Type 0 where
  stops : (row : ℕ) (a b : SeenWith T) → EndAnswer prepares does leaves row a b (Ok rise.Stops)
      → IsFinishedUp prepares does leaves row a b (Ok tt)
  no_memory : (m : Memory) (row : ℕ) (a b : SeenWith T) → EndAnswer prepares does leaves row a b (Err m)
      → IsFinishedUp prepares does leaves row a b (Err m)
  goes_up : (row p : ℕ) (a b c : SeenWith T) (r : Result (Unit {0}) Memory)
      → EndAnswer prepares does leaves row a b (Ok (rise.To p)) → IsFinishedUp prepares does leaves p b c r
      → IsFinishedUp prepares does leaves row a c r
