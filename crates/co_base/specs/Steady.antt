-- What a source and a sink that never fail still have or hold.
use Rattle.std.specs.Prelude.{◌≡◌, ℕ, ◌+◌, List, ◌++◌, Option, Some, None, drop, length, if◌then◌else◌}
use Rattle.std.specs.Option.{option_map}
use Rattle.co_base.specs.declared.steady.SteadySource.{SteadySource}
use Rattle.co_base.specs.declared.steady.SteadySink.{SteadySink}

-- the bytes still to come
abbrev pub steady_left : SteadySource → List ℕ
steady_left s = drop s.at s.bytes.items

-- the bytes taken so far, as long as they were all kept
abbrev pub steady_held : SteadySink → Option (List ℕ)
steady_held s = (if s.overflowed then None else Some s.bytes.items)

-- the number of bytes that are still kept
abbrev pub steady_spare : SteadySink → ℕ
steady_spare s = s.spare

-- these bytes were taken and, if all before them were kept, kept
pub record HoldsAlso (bytes : List ℕ) (old new : SteadySink) : Type 0 where
  pub held : steady_held new ≡ option_map (λ before. before ++ bytes) (steady_held old)
  pub spare : steady_spare new + length bytes ≡ steady_spare old
