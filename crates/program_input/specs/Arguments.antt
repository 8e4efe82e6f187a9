-- What the system gives to a program.
use Rattle.std.specs.Prelude.{List, Option, Some, None, Result, Ok, Err, String}
use Rattle.std.specs.Global.{Global}
use Rattle.std.specs.Vec.Iter.{into_iter_items}
use Rattle.std.specs.declared.vec.IntoIter.{IntoIter}

-- the arguments that the system gives; where one is no text it gives none
abbrev pub arguments_given : {E : Type 0} → Result (IntoIter (String Global) Global) E → Option (List (String Global))
arguments_given (Ok arguments) = Some (into_iter_items arguments)
arguments_given (Err error) = None
