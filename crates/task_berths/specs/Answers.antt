-- What the calls answer, and why.
use Rattle.std.specs.Prelude.{◌≡◌, ◌≢◌, ◌⊎◌, ℕ, suc, ◌*◌, ◌/◌, ◌%◌, ◌<◌, ◌==◌, Bool, List, [], ◌∷◌, ◌++◌, length, Option, Some, None}
use mathlib.Core.Option.{some}
use lib.ListN.{get_elem?}
use Rattle.task_berths.specs.declared.rule.BerthStep.{BerthStep}
use Rattle.task_berths.specs.declared.rule.BerthStep.TheVariants.{Take, Leave}
use Rattle.task_berths.specs.declared.rule.SeatView.{SeatView}
use Rattle.task_berths.specs.declared.taking.Taken.{Taken}
use Rattle.task_berths.specs.declared.taking.Taken.TheVariants.{Task, Busy}
use Rattle.task_berths.specs.Words.{Begins, word_of}
use Rattle.task_berths.specs.Views.{having_seen, having_taken, having_left, carrying}

-- the task t was taken after this moment
abbrev pub IsTakenSince : ℕ → List BerthStep → List BerthStep → Type 0
IsTakenSince t moment seen = (a : List BerthStep) × (b : List BerthStep) × (k : ℕ) × (seen ≡ moment ++ (a ++ Take t k ∷ b))

-- at a moment of the call another seat's number stood in the word; that seat is asked now, or the task was taken after that moment
pub record IsBusy (t : ℕ) (v w : SeatView) : Type 0 where
  pub moment : List BerthStep
  pub since : Begins v.seen moment
  pub until : Begins moment w.seen
  pub stood : word_of t moment ≢ 0
  pub another : word_of t moment / 2 ≢ suc v.number
  pub why : (word_of t w.seen ≡ suc (word_of t moment / 2 * 2)) ⊎ IsTakenSince t moment w.seen
  pub now : w ≡ having_seen v w.seen

-- the task came home, and the answer is whether the seat was asked since it took it
pub record LeaveAnswer (t : ℕ) (asked : Bool) (v w : SeatView) : Type 0 where
  pub moment : List BerthStep
  pub since : Begins v.seen moment
  pub own : word_of t moment / 2 ≡ suc v.number
  pub asks : asked ≡ (word_of t moment % 2 == 1)
  pub now : w ≡ having_left v t (moment ++ Leave t ∷ [])

module _ {T : Type 0} (tag_of : T → ℕ) where
  -- the task was at home at a moment of the call, and this seat took it then
  pub record IsTaken (t : ℕ) (task : T) (v w : SeatView) : Type 0 where
    pub moment : List BerthStep
    pub since : Begins v.seen moment
    pub was_home : word_of t moment ≡ 0
    pub now : w ≡ carrying (having_taken v t (moment ++ Take t v.number ∷ [])) None
    pub tagged : tag_of task ≡ t

  -- what a take answers a seat that knew v and now knows w
  abbrev pub TakeAnswer : ℕ → Taken T → SeatView → SeatView → Type 0
  TakeAnswer t (Task task) v w = IsTaken t task v w
  TakeAnswer t Busy v w = IsBusy t v w

  -- the tag of each task is its position
  abbrev pub HaveTags : List T → Type 0
  HaveTags tasks = (t : ℕ) (y : T) → get_elem? tasks t ≡ some y → tag_of y ≡ t

  -- each slot has the task of its number
  abbrev pub AllAtHome : List (Option T) → Type 0
  AllAtHome slots = (t : ℕ) → t < length slots → (y : T) × (get_elem? slots t ≡ some (Some y)) × (tag_of y ≡ t)
