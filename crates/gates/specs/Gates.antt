-- What the steps at a gate leave, and when each may come.
use Rattle.std.specs.Prelude.{◌≡◌, ℕ, suc, ◌+◌, ◌-◌, ◌==◌, ◌<◌, Bool, true, false, List, [], ◌∷◌, if◌then◌else◌}
use Rattle.gates.specs.declared.act.GateAct.{GateAct}
use Rattle.gates.specs.declared.act.GateAct.TheVariants.{Take, Wait, Give, Grant, GiveUp}
use Rattle.gates.specs.declared.act.GateEntry.{GateEntry}

-- ---- lists of tags

-- how often the tag stands in the list
abbrev pub count : ℕ → List ℕ → ℕ
count t [] = 0
count t (u ∷ us) = if u == t then suc (count t us) else count t us

-- the list without the tag's first place
abbrev pub without : ℕ → List ℕ → List ℕ
without t [] = []
without t (u ∷ us) = if u == t then us else u ∷ without t us

-- f, but x at i
abbrev pub put : {A : Type 0} → ℕ → A → (ℕ → A) → ℕ → A
put i x f j = if i == j then x else f j

-- a test as a number
abbrev pub one_if : Bool → ℕ
one_if true = 1
one_if false = 0

-- ---- what steps leave

-- How many permits are free; whose are the others, a place in the list for each; and who waits for one
pub record State : Type 0 where
  pub free : ℕ
  pub holders : List ℕ
  pub waits : ℕ → Bool

-- all permits are free
abbrev pub start : ℕ → State
start n = record { free = n; holders = []; waits = λ t. false }

-- what an act of who leaves
abbrev pub after : State → ℕ → GateAct → State
after s who Take = record { free = s.free - 1; holders = who ∷ s.holders; waits = s.waits }
after s who Wait = record { free = s.free; holders = s.holders; waits = put who true s.waits }
after s who Give = record { free = suc s.free; holders = without who s.holders; waits = s.waits }
after s who (Grant t) = record { free = s.free; holders = t ∷ without who s.holders; waits = put t false s.waits }
after s who GiveUp = record { free = s.free; holders = s.holders; waits = put who false s.waits }

unfoldable pub state_from : State → List GateEntry → State
state_from s [] = s
state_from s (e ∷ es) = state_from (after s e.who e.act) es

-- what a history leaves at a gate of n permits
abbrev pub state_of : ℕ → List GateEntry → State
state_of n log = state_from (start n) log

-- how many permits the tag holds
abbrev pub holds : ℕ → State → ℕ
holds t s = count t s.holders

-- and one more, if it waits for one: what no step of another changes
abbrev pub claims : ℕ → State → ℕ
claims t s = holds t s + one_if (s.waits t)

-- ---- when an act may come

abbrev pub NobodyWaits : State → Type 0
NobodyWaits s = (t : ℕ) → s.waits t ≡ false

-- A permit is taken where one is free; who finds none may wait. Who holds a permit gives it back: to one who waits, and it is free only
-- where nobody waits. Who waits may give up.
abbrev pub Needs : State → ℕ → GateAct → Type 0
Needs s who Take = 0 < s.free
Needs s who Wait = (s.free ≡ 0) × (s.waits who ≡ false) × (who < 48)
Needs s who Give = (0 < holds who s) × NobodyWaits s
Needs s who (Grant t) = (0 < holds who s) × (s.waits t ≡ true)
Needs s who GiveUp = s.waits who ≡ true

unfoldable pub LegalFrom : State → List GateEntry → Type 0
LegalFrom s [] = Unit {0}
LegalFrom s (e ∷ es) = Needs s e.who e.act × LegalFrom (after s e.who e.act) es

-- each entry might come when it comes
abbrev pub Legal : ℕ → List GateEntry → Type 0
Legal n log = LegalFrom (start n) log

abbrev pub maker : GateEntry → ℕ
maker e = e.who
