-- A guarded value, its seats, and what the calls answer.
use Rattle.std.specs.Prelude.{◌≡◌, ℕ, List, [], ◌∷◌, ◌++◌, Bool, Option, Some, None}
use Rattle.task_berths.specs.declared.rule.BerthStep.{BerthStep}
use Rattle.task_berths.specs.declared.rule.BerthStep.TheVariants.{Take, Leave}
use Rattle.task_berths.specs.declared.rule.SeatView.{SeatView}
use Rattle.task_berths.specs.Answers.{IsBusy, LeaveAnswer}
use Rattle.task_berths.specs.Seats.{count_of, view_of, IsSeatOf, IsMain}
use Rattle.task_berths.specs.Views.{having_taken, carrying}
use Rattle.task_berths.specs.Words.{Begins, word_of}
use Rattle.guarded.specs.declared.guard.Guarded.{Guarded}
use Rattle.guarded.specs.declared.guard.GuardSeat.{GuardSeat}

-- the value was at home at a moment of the call, and the seat took it then
pub record IsLocked (v w : SeatView) : Type 0 where
  pub moment : List BerthStep
  pub since : Begins v.seen moment
  pub was_home : word_of 0 moment ≡ 0
  pub now : w ≡ carrying (having_taken v 0 (moment ++ Take 0 v.number ∷ [])) None

-- the value came home
abbrev pub UnlockAnswer : SeatView → SeatView → Type 0
UnlockAnswer v w = (asked : Bool) × LeaveAnswer 0 asked v w

module _ {T : Type 0} where
  -- what a seat knows
  abbrev pub knows : GuardSeat T → SeatView
  knows seat = view_of seat.seat

  -- the seat is one of this value
  abbrev pub IsOf : Guarded T → GuardSeat T → Type 0
  IsOf guarded seat = IsSeatOf guarded.berths seat.seat × (count_of guarded.berths ≡ 1)

  -- it is the first seat, from which others are split off
  abbrev pub IsFirst : Guarded T → GuardSeat T → Type 0
  IsFirst guarded seat = IsMain guarded.berths seat.seat × (count_of guarded.berths ≡ 1)

  -- it has the value
  abbrev pub HasIt : GuardSeat T → Type 0
  HasIt seat = (knows seat).held ≡ 0 ∷ []

  -- it has nothing
  abbrev pub HasNothing : GuardSeat T → Type 0
  HasNothing seat = (knows seat).held ≡ []

  -- it has the value, if it got one
  abbrev pub Has : Option T → GuardSeat T → Type 0
  Has (Some x) seat = HasIt seat
  Has None seat = HasNothing seat

  -- the value was taken; or another seat had it
  abbrev pub LockAnswer : SeatView → SeatView → Option T → Type 0
  LockAnswer v w (Some x) = IsLocked v w
  LockAnswer v w None = IsBusy 0 v w
