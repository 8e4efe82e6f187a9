-- What was told by a call that broke off: a beginning of what such a call may tell.
use Rattle.std.specs.Prelude.{List, ◌++◌}
use Rattle.call_meaning.specs.Telling.{Told}

-- a list that P accepts begins so
pub record PrefixOf (P : List Told → Type 0) (told : List Told) : Type 0 where
  pub rest : List Told
  pub all : P (told ++ rest)
