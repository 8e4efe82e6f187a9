use Rattle.std.proofs.Common.{subst, Option, arith}
use Rattle.co_base.specs.declared.names.WaitId.{WaitId}
use Rattle.cell_words.specs.Hubs.{shape_of}
use Rattle.cell_words.specs.Clauses.{IsMainCell}
use Rattle.cell_words.proofs.OneNumberOneWord.{number_within}
use Rattle.cell_words.proofs.registering.clause_cell.Goals as goal

pub overflow_cast-result-in-Some : goal.overflow_cast-result-in-Some
overflow_cast-result-in-Some c =
    let shape = shape_of c.args.hub.now in
    let w = c.in-Some.w in
    let at = subst (λ (z : Option WaitId). IsMainCell shape z) c.in-Some.is c.requires.main in
    let n = number_within shape w.channel w.place at.0 at.1 in
    let few = c.args.hub.now.sized.few in
    let e = c.number_of.ensures in
    omega arith

pub returns-in-Some-clause-narrow : goal.returns-in-Some-clause-narrow
returns-in-Some-clause-narrow c =
    let shape = shape_of c.args.hub.now in
    let w = c.in-Some.w in
    let at = subst (λ (z : Option WaitId). IsMainCell shape z) c.in-Some.is c.requires.main in
    let n = number_within shape w.channel w.place at.0 at.1 in
    let few = c.args.hub.now.sized.few in
    let e = c.number_of.ensures in
    record { clause = omega (arith, c.requires.clause); holder = omega arith; value = c.ranges.value.fits }
