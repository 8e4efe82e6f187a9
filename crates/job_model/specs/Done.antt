-- The channel that is closed as a Job ends.
use Rattle.std.specs.Prelude.{ℕ, ◌+◌}

-- the done channel of a row: those of all rows stand one after the other from the base on
abbrev pub done_channel : ℕ → ℕ → ℕ
done_channel base row = base + row
