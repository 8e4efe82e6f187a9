-- How many numbers of a range pass a test.
use Rattle.std.specs.Prelude.{ℕ, zero, suc, ◌+◌, Bool, true, false}

abbrev pub one : Bool → ℕ
one true = 1
one false = 0

-- how many of the n numbers from this one on pass the test
unfoldable pub count_from : ℕ → ℕ → (ℕ → Bool) → ℕ
count_from from zero test = 0
count_from from (suc n) test = one (test from) + count_from (from + 1) n test
