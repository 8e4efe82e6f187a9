-- What a reader answers: what it read, or its fault.
use Rattle.std.specs.Prelude.{◌≡◌, Result, Ok, Err}
use Rattle.script_grammar.specs.declared.fault.FaultKind.{FaultKind}
use Rattle.script_grammar.specs.declared.fault.FaultKind.TheVariants.{Memory}
use Rattle.script_grammar.specs.declared.fault.ScriptFault.{ScriptFault}

-- what a function returned, seen by view, is what is to be read
abbrev pub Gives : {X Y : Type 0} → (X → Y) → Result X FaultKind → Result Y FaultKind → Type 0
Gives view (Ok x) read = read ≡ Ok (view x)
Gives view (Err kind) read = read ≡ Err kind

-- the fact, unless memory ran out
abbrev pub Unless : FaultKind → Type 0 → Type 0
Unless Memory P = Unit {0}
Unless kind P = P

-- what a function returned, seen by view, is what is to be read, unless memory ran out
abbrev pub GivesUnless : {X Y : Type 0} → (X → Y) → Result X FaultKind → Result Y FaultKind → Type 0
GivesUnless view (Ok x) read = read ≡ Ok (view x)
GivesUnless view (Err kind) read = Unless kind (read ≡ Err kind)

-- what a function left in its argument is what is to be read, unless memory ran out
abbrev pub Leaves : {X Y : Type 0} → Result X FaultKind → Y → Result Y FaultKind → Type 0
Leaves (Ok x) new read = read ≡ Ok new
Leaves (Err kind) new read = Unless kind (read ≡ Err kind)

-- the same of a text: what it says, or its fault and the line of the fault
abbrev pub GivesAt : {X Y : Type 0} → (X → Y) → Result X ScriptFault → Result Y ScriptFault → Type 0
GivesAt view (Ok x) read = read ≡ Ok (view x)
GivesAt view (Err fault) read = Unless fault.kind (read ≡ Err fault)
