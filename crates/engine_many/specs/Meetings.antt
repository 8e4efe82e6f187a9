-- What coroutines know of one another, and whether they rest.
use Rattle.std.specs.Prelude.{List}
use Rattle.std.specs.List.{All}
use Rattle.script_grammar.specs.Programs.{Program}
use Rattle.run_laws.specs.Sights.{Sight, IsWithin}
use Rattle.run_laws.specs.LastRounds.{KnowsAllOf, HasRested, AllRested}

-- each of those has seen all that the first has
abbrev pub AllWithin : {X : Type 0} → (X → Sight) → Sight → List X → Type 0
AllWithin at first xs = All (λ x. IsWithin first (at x)) xs

-- the first has seen all entries of those
abbrev pub AllKnown : {X : Type 0} → (X → Sight) → Sight → List X → Type 0
AllKnown at first xs = All (λ x. KnowsAllOf first (at x)) xs

-- whoever has seen all entries of the first list has seen all of the second
abbrev pub StayKnown : {X : Type 0} → (X → Sight) → List X → List X → Type 0
StayKnown at xs ys = (first : Sight) → AllKnown at first xs → AllKnown at first ys

-- if those of the first list have rested since they knew what some sight has, so have those of the second
abbrev pub StayRested : {X : Type 0} → (X → Sight) → List X → List X → Type 0
StayRested at xs ys = (p : Program) (first : Sight) → All (λ x. HasRested p first (at x)) xs → All (λ x. HasRested p first (at x)) ys

-- if the first list is at rest, so is the second
abbrev pub StayAtRest : {X : Type 0} → (X → Sight) → List X → List X → Type 0
StayAtRest at xs ys = (p : Program) → AllRested at p xs → AllRested at p ys
