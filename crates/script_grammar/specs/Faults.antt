-- What a reader answers: what it read, or its fault.
use Rattle.std.specs.Prelude.{ℕ, Result, Ok, Err}
use Rattle.script_grammar.specs.declared.fault.FaultKind.{FaultKind}
use Rattle.script_grammar.specs.declared.fault.ScriptFault.{ScriptFault}

-- one reader, and the next from what it read
infixl 10 ◌>>=◌
abbrev pub ◌>>=◌ : {A B : Type 0} → Result A FaultKind → (A → Result B FaultKind) → Result B FaultKind
(Ok x) >>= f = f x
(Err e) >>= f = Err e

-- the same over lines
infixl 10 ◌>>>◌
abbrev pub ◌>>>◌ : {A B : Type 0} → Result A ScriptFault → (A → Result B ScriptFault) → Result B ScriptFault
(Ok x) >>> f = f x
(Err e) >>> f = Err e

-- a fault in the line of this number
abbrev pub in_line : {A : Type 0} → ℕ → Result A FaultKind → Result A ScriptFault
in_line n (Ok x) = Ok x
in_line n (Err k) = Err (record { line = n; kind = k })
