-- A take and a leave keep the first seat the first.
use Rattle.std.proofs.Common.{◌≡◌, ℕ, ap}
use Rattle.task_berths.specs.declared.rule.SeatView.{SeatView}
use Rattle.task_berths.specs.declared.taking.Taken.{Taken}
use Rattle.task_berths.specs.declared.taking.Taken.TheVariants.{Task, Busy}
use Rattle.task_berths.specs.Steps.{Seated, Left}
use Rattle.task_berths.specs.Answers.{TakeAnswer}

pub stays_taken : {T : Type 0} (tag_of : T → ℕ) (t : ℕ) (r : Taken T) (v w : SeatView) → TakeAnswer tag_of t r v w → w.chief ≡ v.chief
stays_taken tag_of t (Task task) v w a = ap (λ (z : SeatView). z.chief) a.now
stays_taken tag_of t Busy v w a = ap (λ (z : SeatView). z.chief) a.now

pub stays_left : {T : Type 0} (t n : ℕ) (m r : Seated T) → Left t n m r → r.0.chief ≡ m.0.chief
stays_left {T} t n m r l = ap (λ (z : Seated T). z.0.chief) l.now
