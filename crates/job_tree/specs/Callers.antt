-- Who calls, on what, and what it sees.
use Rattle.std.specs.Prelude.{◌≡◌, ℕ, List}
use Rattle.job_model.specs.declared.acts.Reason.{Reason}
use Rattle.job_model.specs.Needs.{Holds}
use Rattle.job_model.specs.Floors.{Floor}
use Rattle.note_book.specs.declared.book.Item.{Item}
use Rattle.call_meaning.specs.Seen.{SeenOnJobs, seen_jobs, tree_in}
use Rattle.job_tree.specs.declared.caller.JobCaller.{JobCaller}
use Rattle.job_tree.specs.Rooms.{MayCancelAll}

-- the caller still holds the same floor, book and wakes, and is the same coroutine
pub record SameCaller {F B W A : Type 0} (anchor : F → A) (old new : JobCaller F B W) : Type 0 where
  pub floor : new.floor.ghost_name ≡ old.floor.ghost_name
  pub book : new.book.ghost_name ≡ old.book.ghost_name
  pub wakes : new.wakes.ghost_name ≡ old.wakes.ghost_name
  pub who : new.who ≡ old.who
  pub of_floor : anchor new.floor.now ≡ anchor old.floor.now

-- what the caller sees of its floor and its book
abbrev pub seen : {F B W : Type 0} → (F → Floor) → (B → List Item) → JobCaller F B W → SeenOnJobs
seen view items caller = seen_jobs view items caller.who caller.floor.now caller.book.now

-- there is room for a Cancel of each row that has none
abbrev pub HasRoomForAll : {F B W : Type 0} → (F → Floor) → (B → ℕ) → JobCaller F B W → Type 0
HasRoomForAll view spare caller = MayCancelAll (view caller.floor.now) (spare caller.book.now)

-- the caller may cancel the row for this reason
abbrev pub HoldsFor : ℕ → Reason → SeenOnJobs → Type 0
HoldsFor row reason seen = Holds seen.floor.shape (tree_in seen) seen.who row reason
