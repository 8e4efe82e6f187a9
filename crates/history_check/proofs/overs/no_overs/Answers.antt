use Rattle.std.proofs.Common.{◌≡◌, subst, arith}
use Rattle.history_check.specs.Overs.{AreNone}
use Rattle.history_check.proofs.overs.no_overs.Goals as goal

pub returns : goal.returns
returns c =
    let few = c.loop-made.invariant.few in
    let done = c.loop-made-test.false in
    let all : c.loop-made.made ≡ c.args.count = omega (arith, few, done) in
    subst (λ n. AreNone n c.loop-made.overs.items) all c.loop-made.invariant.none
