-- A gate and a pass.
use Rattle.std.specs.Prelude.{◌≡◌, ℕ, Bool, true, List}
use Rattle.worded.specs.Views.{IsIdleSeatOf}
use Rattle.worded.specs.Histories.{entries_of}
use Rattle.worded.specs.Steps as steps
use Rattle.gates.specs.declared.act.GateEntry.{GateEntry}
use Rattle.gates.specs.declared.gate.Gate.{Gate}
use Rattle.gates.specs.declared.gate.GatePass.{GatePass}
use Rattle.gates.specs.Gates.{maker}
use Rattle.gates.specs.Seen.{Seen}

-- what the pass knows
abbrev pub seen_by : GatePass → Seen
seen_by pass = pass.seat.me.0

-- the pass is one of this gate
abbrev pub IsOf : Gate → GatePass → Type 0
IsOf gate pass = IsIdleSeatOf gate.table.shared.table_id gate.permits pass.seat

-- it has its number still, and has split off as many
abbrev pub SamePass : GatePass → GatePass → Type 0
SamePass old new = (new.number ≡ old.number) × (new.splits ≡ old.splits)

-- it holds so many permits, and waits or not
abbrev pub IsAt : ℕ → Bool → GatePass → Type 0
IsAt held waits pass = (pass.held ≡ held) × (pass.waits ≡ waits)

-- it is the first pass, from which others are split off
abbrev pub IsFirst : GatePass → Type 0
IsFirst pass = pass.seat.me.0.chief ≡ true

-- the entries of one number are the same
abbrev pub SameOf : ℕ → List GateEntry → List GateEntry → Type 0
SameOf t old new = entries_of maker t new ≡ entries_of maker t old

-- a pass that had seen `old` took in one that had seen `other`, and all of its numbers
abbrev pub EndAnswer : Seen → Seen → Seen → Type 0
EndAnswer = steps.EndAnswer SameOf
