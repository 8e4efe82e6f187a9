-- That a history is legal has one proof.
use Rattle.std.specs.Prelude.{ℕ, List, [], ◌∷◌}
use Rattle.std.specs.Coded.{×_prop, Unit-prop}
use Rattle.std.proofs.Props.{props}
use Rattle.gates.specs.declared.act.GateAct.{GateAct}
use Rattle.gates.specs.declared.act.GateAct.TheVariants.{Take, Wait, Give, Grant, GiveUp}
use Rattle.gates.specs.declared.act.GateEntry.{GateEntry}
use Rattle.gates.specs.Gates.{State, start, after, Needs, LegalFrom, Legal}

Needs-prop : (s : State) (who : ℕ) (act : GateAct) → IsProp (Needs s who act)
Needs-prop s who Take = hlevel props
Needs-prop s who Wait = hlevel props
Needs-prop s who Give = hlevel props
Needs-prop s who (Grant t) = hlevel props
Needs-prop s who GiveUp = hlevel props

LegalFrom-prop : (s : State) (es : List GateEntry) → IsProp (LegalFrom s es)
unfolding LegalFrom
LegalFrom-prop s [] = Unit-prop
LegalFrom-prop s (e ∷ es) = ×_prop (Needs-prop s e.who e.act) (LegalFrom-prop (after s e.who e.act) es)

pub Legal-prop : (n : ℕ) (log : List GateEntry) → IsProp (Legal n log)
Legal-prop n log = LegalFrom-prop (start n) log
