use Rattle.guarded.specs.Guards.{IsOf, HasNothing}
use Rattle.floor_rows.proofs.words.guarded_rows.count_up.Given as goal

abbrev pub invariant-loop : goal.invariant-loop
invariant-loop l = record { of : IsOf l.guarded l.seat; nothing : HasNothing l.seat }
