-- What the calls answer, and why.
use Rattle.std.specs.Prelude.{◌≡◌, ◌⊎◌, ℕ, ◌+◌, ◌-◌, ◌*◌, ◌^◌, ◌<◌, Bool, true, false, [], ◌∷◌, Option, Some, None}
use Rattle.gates.specs.declared.act.GateAct.{GateAct}
use Rattle.gates.specs.declared.act.GateAct.TheVariants as act
use Rattle.gates.specs.declared.answers.TryAcquired.{TryAcquired}
use Rattle.gates.specs.declared.answers.TryAcquired.TheVariants as tried
use Rattle.gates.specs.declared.answers.Acquired.{Acquired}
use Rattle.gates.specs.declared.answers.Acquired.TheVariants as got
use Rattle.gates.specs.declared.answers.Released.{Released}
use Rattle.gates.specs.declared.answers.Released.TheVariants as released
use Rattle.gates.specs.declared.answers.WaitState.{WaitState}
use Rattle.gates.specs.declared.answers.WaitState.TheVariants as state
use Rattle.gates.specs.declared.answers.GaveUp.{GaveUp}
use Rattle.gates.specs.declared.answers.GaveUp.TheVariants as gave
use Rattle.gates.specs.declared.choice.Want.{Want}
use Rattle.gates.specs.declared.choice.Want.TheVariants as want
use Rattle.gates.specs.declared.gate.GatePass.{GatePass}
use Rattle.gates.specs.declared.steps.Turned.{Turned}
use Rattle.gates.specs.declared.steps.Turned.TheVariants as turned
use Rattle.gates.specs.Gates.{State}
use Rattle.gates.specs.Words.{free_in, waits_in}
use Rattle.gates.specs.Seen.{Seen, now_in, entry_of, Adds, Beaten}
use Rattle.gates.specs.Passes.{IsAt, seen_by}

-- ---- which act a call makes, by the word

-- the act is what the call is for
abbrev pub Suits : Want → GateAct → Type 0
Suits want.Take act.Take = Unit {0}
Suits want.Take other = ⊥
Suits want.TakeOrWait act.Take = Unit {0}
Suits want.TakeOrWait act.Wait = Unit {0}
Suits want.TakeOrWait other = ⊥
Suits want.Give act.Give = Unit {0}
Suits want.Give (act.Grant t) = Unit {0}
Suits want.Give other = ⊥
Suits want.GiveUp act.GiveUp = Unit {0}
Suits want.GiveUp other = ⊥

-- the word allows the act
abbrev pub Allows : ℕ → ℕ → GateAct → Type 0
Allows who w act.Take = 0 < free_in w
Allows who w act.Wait = (free_in w ≡ 0) × (who < 48)
Allows who w act.Give = (t : ℕ) → waits_in w t ≡ false
Allows who w (act.Grant t) = waits_in w t ≡ true
Allows who w act.GiveUp = waits_in w who ≡ true

-- the act that a call makes by the word, or why it makes none
abbrev pub IsChosen : Want → ℕ → ℕ → Option GateAct → Type 0
IsChosen d who w (Some a) = Suits d a × Allows who w a
IsChosen want.Take who w None = free_in w ≡ 0
IsChosen want.TakeOrWait who w None = ⊥
IsChosen want.Give who w None = ⊥
IsChosen want.GiveUp who w None = waits_in w who ≡ false

-- the act turns the word so
abbrev pub TurnsWord : ℕ → GateAct → ℕ → ℕ → Type 0
TurnsWord who act.Take w new = w ≡ new + 1
TurnsWord who act.Wait w new = new ≡ w + 65536 * 2 ^ who
TurnsWord who act.Give w new = new ≡ w + 1
TurnsWord who (act.Grant t) w new = w ≡ new + 65536 * 2 ^ t
TurnsWord who act.GiveUp w new = w ≡ new + 65536 * 2 ^ who

-- and the word has room for it
abbrev pub MayTurnWord : ℕ → GateAct → ℕ → Type 0
MayTurnWord who a w = (new : ℕ) × TurnsWord who a w new × (new < 2 ^ 64)

-- who may have to wait has a bit
abbrev pub IsLow : Want → ℕ → Type 0
IsLow want.Take who = Unit {0}
IsLow want.TakeOrWait who = who < 48
IsLow want.Give who = Unit {0}
IsLow want.GiveUp who = Unit {0}

-- whose bit the act changes, if it changes one
abbrev pub HasBit : ℕ → GateAct → Type 0
HasBit who act.Take = Unit {0}
HasBit who act.Wait = who < 48
HasBit who act.Give = Unit {0}
HasBit who (act.Grant t) = t < 48
HasBit who act.GiveUp = who < 48

-- ---- turns

-- what a call needs of its pass
abbrev pub IsReady : Want → GatePass → Type 0
IsReady want.Take pass = Unit {0}
IsReady want.TakeOrWait pass = (pass.waits ≡ false) × (pass.number < 48)
IsReady want.Give pass = 0 < pass.held
IsReady want.GiveUp pass = pass.waits ≡ true

-- why a call made no act
abbrev pub IsNot : Want → ℕ → State → Type 0
IsNot want.Take who s = s.free ≡ 0
IsNot want.TakeOrWait who s = ⊥
IsNot want.Give who s = ⊥
IsNot want.GiveUp who s = s.waits who ≡ false

-- the act was made; or none, and this is why; or others were first, so many times
abbrev pub TurnAnswer : ℕ → Want → ℕ → Seen → Seen → Turned → Type 0
TurnAnswer k d who v w (turned.Did a) = Suits d a × Adds who (entry_of who a ∷ []) v w
TurnAnswer k d who v w turned.Not = Adds who [] v w × IsNot d who (now_in w)
TurnAnswer k d who v w turned.Lost = Beaten k who v w

-- how many permits a pass holds after its own act
abbrev pub held_then : GateAct → ℕ → ℕ
held_then act.Take held = held + 1
held_then act.Wait held = held
held_then act.Give held = held - 1
held_then (act.Grant t) held = held - 1
held_then act.GiveUp held = held

-- whether it waits after its own act
abbrev pub waits_then : GateAct → Bool → Bool
waits_then act.Take waits = waits
waits_then act.Wait waits = true
waits_then act.Give waits = waits
waits_then (act.Grant t) waits = waits
waits_then act.GiveUp waits = false

-- what a pass has to know before its own act
abbrev pub ReadyFor : GateAct → ℕ → Bool → Type 0
ReadyFor act.Take held waits = Unit {0}
ReadyFor act.Wait held waits = waits ≡ false
ReadyFor act.Give held waits = 0 < held
ReadyFor (act.Grant t) held waits = 0 < held
ReadyFor act.GiveUp held waits = Unit {0}

-- the act was made, and counted; or others were first
abbrev pub ActAnswer : GateAct → GatePass → GatePass → Bool → Type 0
ActAnswer a old new true =
    Adds old.number (entry_of old.number a ∷ []) (seen_by old) (seen_by new)
    × IsAt (held_then a old.held) (waits_then a old.waits) new
ActAnswer a old new false = Beaten 1 old.number (seen_by old) (seen_by new) × IsAt old.held old.waits new

-- what a pass counts after a turn
abbrev pub TurnCounts : Turned → GatePass → GatePass → Type 0
TurnCounts (turned.Did a) old new = IsAt (held_then a old.held) (waits_then a old.waits) new
TurnCounts turned.Not old new = IsAt old.held old.waits new
TurnCounts turned.Lost old new = IsAt old.held old.waits new

-- ---- calls

-- others made as many entries as a call tries
abbrev pub IsBusy : ℕ → Seen → Seen → Type 0
IsBusy who v w = Beaten (2 ^ 64 - 1) who v w

-- what an acquire answers that does not wait
abbrev pub TryAnswer : ℕ → Seen → Seen → TryAcquired → Type 0
TryAnswer who v w tried.Held = Adds who (entry_of who act.Take ∷ []) v w
TryAnswer who v w tried.Empty = Adds who [] v w × ((now_in w).free ≡ 0)
TryAnswer who v w tried.Busy = IsBusy who v w

-- and what the pass holds then
abbrev pub TryHolds : GatePass → GatePass → TryAcquired → Type 0
TryHolds old new tried.Held = IsAt (old.held + 1) old.waits new
TryHolds old new tried.Empty = IsAt old.held old.waits new
TryHolds old new tried.Busy = IsAt old.held old.waits new

-- what an acquire answers
abbrev pub AcquireAnswer : ℕ → Seen → Seen → Acquired → Type 0
AcquireAnswer who v w got.Held = Adds who (entry_of who act.Take ∷ []) v w
AcquireAnswer who v w got.Waits = Adds who (entry_of who act.Wait ∷ []) v w
AcquireAnswer who v w got.Busy = IsBusy who v w

-- it took a permit, or waited for one
abbrev pub Acquires : ℕ → Seen → Seen → Type 0
Acquires who v w = Adds who (entry_of who act.Take ∷ []) v w ⊎ Adds who (entry_of who act.Wait ∷ []) v w

-- and what the pass holds then
abbrev pub AcquireHolds : GatePass → GatePass → Acquired → Type 0
AcquireHolds old new got.Held = IsAt (old.held + 1) false new
AcquireHolds old new got.Waits = IsAt old.held true new
AcquireHolds old new got.Busy = IsAt old.held false new

-- what a release answers
abbrev pub ReleaseAnswer : ℕ → Seen → Seen → Released → Type 0
ReleaseAnswer who v w released.Free = Adds who (entry_of who act.Give ∷ []) v w
ReleaseAnswer who v w (released.Granted t) = Adds who (entry_of who (act.Grant t) ∷ []) v w
ReleaseAnswer who v w released.Busy = IsBusy who v w

-- and what the pass holds then
abbrev pub ReleaseHolds : GatePass → GatePass → Released → Type 0
ReleaseHolds old new released.Free = IsAt (old.held - 1) old.waits new
ReleaseHolds old new (released.Granted t) = IsAt (old.held - 1) old.waits new
ReleaseHolds old new released.Busy = IsAt old.held old.waits new

-- what a look answers
abbrev pub LookAnswer : ℕ → Seen → Seen → WaitState → Type 0
LookAnswer who v w state.Waits = Adds who [] v w × ((now_in w).waits who ≡ true)
LookAnswer who v w state.Held = Adds who [] v w × ((now_in w).waits who ≡ false)

-- and what the pass holds then
abbrev pub LookHolds : GatePass → GatePass → WaitState → Type 0
LookHolds old new state.Waits = IsAt old.held true new
LookHolds old new state.Held = IsAt (old.held + 1) false new

-- what giving up answers
abbrev pub GiveUpAnswer : ℕ → Seen → Seen → GaveUp → Type 0
GiveUpAnswer who v w gave.Done = Adds who (entry_of who act.GiveUp ∷ []) v w
GiveUpAnswer who v w gave.Late = Adds who [] v w × ((now_in w).waits who ≡ false)
GiveUpAnswer who v w gave.Busy = IsBusy who v w

-- and what the pass holds then
abbrev pub GiveUpHolds : GatePass → GatePass → GaveUp → Type 0
GiveUpHolds old new gave.Done = IsAt old.held false new
GiveUpHolds old new gave.Late = IsAt (old.held + 1) false new
GiveUpHolds old new gave.Busy = IsAt old.held true new
