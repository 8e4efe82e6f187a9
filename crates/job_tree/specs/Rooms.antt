-- Room for each Cancel that may still be made.
use Rattle.std.specs.Prelude.{ℕ, zero, suc, ◌+◌, ◌≤◌, Bool, not, if◌then◌else◌}
use Rattle.job_model.specs.Acts.{cancels}
use Rattle.job_model.specs.Floors.{Floor}
use Rattle.job_model.specs.Laws.{has}

-- how many numbers below this one pass the test
abbrev pub count_below : ℕ → (ℕ → Bool) → ℕ
count_below zero test = 0
count_below (suc n) test = (if test n then 1 else 0) + count_below n test

-- how many rows have no Cancel in what was seen
abbrev pub uncancelled : Floor → ℕ
uncancelled floor = count_below floor.shape.rows (λ r. not (has cancels r floor.seen))

-- floor and book have room for a Cancel of each row that has none
pub record MayCancelAll (floor : Floor) (spare : ℕ) : Type 0 where
  pub floor_room : uncancelled floor ≤ floor.spare
  pub book_room : uncancelled floor ≤ spare
