-- The one order in which the entries of both histories came.
use Rattle.std.specs.Prelude.{◌≡◌, ℕ, suc, Bool, true, false, List, [], ◌∷◌, length, take}
use mathlib.Core.List.{IsPrefix}
use Rattle.either.specs.declared.Either.{Either}
use Rattle.either.specs.declared.Either.TheVariants.{Left, Right}
use Rattle.joined_words.specs.Parts.{entries_in}
use Rattle.joined_words.specs.Joints.{first_of, second_of}

-- the order of entries: true for one of the first history, false for one of the second
abbrev pub order_of : {E F : Type 0} → List (Either E F) → List Bool
order_of [] = []
order_of (Left e ∷ log) = true ∷ order_of log
order_of (Right f ∷ log) = false ∷ order_of log

-- how many entries of an order are of the first history
abbrev pub firsts_in : List Bool → ℕ
firsts_in [] = 0
firsts_in (true ∷ sides) = suc (firsts_in sides)
firsts_in (false ∷ sides) = firsts_in sides

-- how many are of the second
abbrev pub seconds_in : List Bool → ℕ
seconds_in [] = 0
seconds_in (true ∷ sides) = seconds_in sides
seconds_in (false ∷ sides) = suc (seconds_in sides)

module _ {E F : Type 0} where
  -- the order has a place for each entry of both histories, and no other
  pub record HasOrder (log : List (Either E F)) : Type 0 where
    pub first : firsts_in (order_of log) ≡ length (entries_in first_of log)
    pub second : seconds_in (order_of log) ≡ length (entries_in second_of log)

  -- what was seen is a point of the order of `log`: a beginning of it, and of each history as many entries as that has
  pub record IsPointOf (seen log : List (Either E F)) : Type 0 where
    pub begins : IsPrefix (order_of seen) (order_of log)
    pub first : entries_in first_of seen ≡ take (firsts_in (order_of seen)) (entries_in first_of log)
    pub second : entries_in second_of seen ≡ take (seconds_in (order_of seen)) (entries_in second_of log)
