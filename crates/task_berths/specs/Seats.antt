-- Berths, and the seats at them.
use Rattle.std.specs.Prelude.{◌≡◌, ℕ, ◌≤◌, true, vec_capacity}
use Rattle.task_berths.specs.declared.rule.SeatView.{SeatView}
use Rattle.task_berths.specs.declared.berths.Berths.{Berths}
use Rattle.task_berths.specs.declared.berths.BerthSeat.{BerthSeat}

module _ {T : Type 0} where
  -- how many tasks there are
  abbrev pub count_of : Berths T → ℕ
  count_of berths = berths.count

  -- what the seat knows
  abbrev pub view_of : BerthSeat T → SeatView
  view_of seat = seat.seat.me.0

  -- the seat is one at these berths
  abbrev pub IsSeatOf : Berths T → BerthSeat T → Type 0
  IsSeatOf berths seat = seat.seat.table_id ≡ berths.table.shared.table_id

  -- it is the first seat at these berths, which has room for all tasks
  abbrev pub IsMain : Berths T → BerthSeat T → Type 0
  IsMain berths seat =
      IsSeatOf berths seat
      × (seat.seat.me.0.chief ≡ true)
      × (berths.count ≤ vec_capacity seat.room)
