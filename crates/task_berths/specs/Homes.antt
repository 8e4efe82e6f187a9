-- Between any two steps each task is at home, or with the one seat whose number its word has.
use Rattle.std.specs.Prelude.{◌≡◌, ◌≢◌, ℕ, suc, ◌+◌, ◌*◌, ◌/◌, ◌<◌, ◌≤◌, true, List, length, slice_index, Option, Some, None}
use mathlib.Core.Option.{some}
use lib.ListN.{get_elem?}
use Rattle.atomic_table.specs.Table.{State}
use Rattle.task_berths.specs.declared.rule.BerthStep.{BerthStep}
use Rattle.task_berths.specs.declared.rule.SeatView.{SeatView}
use Rattle.task_berths.specs.Words.{Begins, word_of, takes_in}
use Rattle.task_berths.specs.Views.{has_tag, live_count, takes_made}

-- a seat that has the task t, and whose number the word n has
pub record Holder (views : List SeatView) (t n : ℕ) : Type 0 where
  pub id : ℕ
  pub v : SeatView
  pub at : get_elem? views id ≡ some v
  pub live : v.live ≡ true
  pub has_it : has_tag t v.held ≡ true
  pub numbered : n / 2 ≡ suc v.number

-- the slots: each is carried by a seat, or it is at home, empty or with a task
abbrev pub Slots : Type 0 → Type 0
Slots T = List (mathlib.Core.Option.Option (Option T))

module _ {T : Type 0} where
  -- what holds of the seat id, which knows v
  pub record Knows (homes : Slots T) (views : List SeatView) (log : List BerthStep) (owner : ℕ → ℕ) (id : ℕ) (v : SeatView) : Type 0 where
    -- it has seen a beginning of the steps
    pub begins : Begins v.seen log
    -- no other live seat has its number
    pub own : v.live ≡ true → owner v.number ≡ id
    -- the words of its tasks have its number
    pub holds : (t : ℕ) → has_tag t v.held ≡ true
        → (v.live ≡ true) × ((t < length homes) × (word_of t log / 2 ≡ suc v.number))
    -- the slots of its tasks are at home, empty, but the one that it carries
    pub down : (t : ℕ) → has_tag t v.held ≡ true → v.carries ≢ Some t → get_elem? homes t ≡ some (some None)
    -- the first seat gave out all numbers
    pub numbers : v.chief ≡ true
        → (id ≡ 0) × ((j : ℕ) (u : SeatView) → get_elem? views j ≡ some u → u.live ≡ true → u.number ≤ v.splits)
    -- and counts the seats that have not ended
    pub count : v.chief ≡ true → live_count views + v.ends ≡ suc v.splits

module _ {T : Type 0} (tag_of : T → ℕ) where
  -- the task t lies in its slot
  abbrev pub IsAtHome : Slots T → ℕ → Type 0
  IsAtHome homes t = (y : T) × (get_elem? homes t ≡ some (some (Some y))) × (tag_of y ≡ t)

  -- between any two steps there is one list of steps, which makes each word what it is
  pub record HoldsTasks (s : State (Option T) SeatView) : Type 0 where
    pub log : List BerthStep
    -- each take in it was made by a seat
    pub made : takes_in log ≡ takes_made s.views
    -- which seat has a number
    pub owner : ℕ → ℕ
    pub as_long : length s.words ≡ suc (2 * length s.homes)
    pub words : (t : ℕ) → t < length s.homes → slice_index s.words t ≡ word_of t log
    pub home : (t : ℕ) → t < length s.homes → word_of t log ≡ 0 → IsAtHome s.homes t
    pub away : (t : ℕ) → t < length s.homes → word_of t log ≢ 0 → Holder s.views t (word_of t log)
    pub knows : (id : ℕ) (v : SeatView) → get_elem? s.views id ≡ some v → Knows s.homes s.views log owner id v

  -- the task t lies in its slot, and no seat has it
  pub record IsIn (s : State (Option T) SeatView) (t : ℕ) : Type 0 where
    pub word : slice_index s.words t ≡ 0
    pub home : IsAtHome s.homes t
    pub nobody : (id : ℕ) (v : SeatView) → get_elem? s.views id ≡ some v → has_tag t v.held ≢ true

-- one seat has the task t; no other has it, nor the number that its word has
pub record IsOut {T : Type 0} (s : State (Option T) SeatView) (t : ℕ) : Type 0 where
  pub holder : Holder s.views t (slice_index s.words t)
  pub alone : (id : ℕ) (v : SeatView) → get_elem? s.views id ≡ some v → has_tag t v.held ≡ true → id ≡ holder.id
  pub numbered : (id : ℕ) (v : SeatView) → get_elem? s.views id ≡ some v → v.live ≡ true
      → slice_index s.words t / 2 ≡ suc v.number → id ≡ holder.id
