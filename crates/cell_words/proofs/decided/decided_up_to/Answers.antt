use Rattle.std.proofs.Common.{sym, subst}
use Rattle.cell_words.specs.Seen.{Seen, Sees}
use Rattle.cell_words.specs.Hubs.{shape_of, seen_by}
use Rattle.word_rules.specs.Words.{WereDecided}
use Rattle.cell_words.proofs.LooksAtCells.{sees_then}
use Rattle.cell_words.proofs.decided.decided_up_to.Goals as goal

pub returns-clause-sees : goal.returns-clause-sees
returns-clause-sees c =
    let u = seen_by c.args.pass.now in
    let v = seen_by c.decided_places-word.new.pass in
    let w = seen_by c.rest_from-rest.new.pass in
    let x = seen_by c.go_on-known.new.pass in
    subst (λ (z : Seen). Sees u z) (sym c.say_decided.ensures.same)
    (sees_then u w x (sees_then u v w c.decided_places-word.ensures.sees c.rest_from-rest.ensures.sees) c.go_on-known.ensures.sees)

pub returns-clause-decided : goal.returns-clause-decided
returns-clause-decided c = subst (λ (z : Seen). WereDecided (shape_of c.args.hub.now) z.seen c.args.c c.go_on-known.result.from
    c.go_on-known.result.to
    c.go_on-known.result.count) (sym c.say_decided.ensures.same)
    c.go_on-known.ensures.decided
