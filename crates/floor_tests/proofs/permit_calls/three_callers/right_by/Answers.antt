use Rattle.floor_tests.proofs.KnownAtFirst.{all_hold}
use Rattle.floor_tests.proofs.permit_calls.three_callers.right_by.Goals as goal

pub loop-i-init : goal.loop-i-init
loop-i-init c =
    all_hold c.none_held-known.result c.args.hub.now c.args.a.now c.fill_on_pass.new.pass c.args.b.now c.args.c.now c.requires.fresh
    c.fill_on_pass.ensures.of c.in_ok-fill_on_pass.ensures.uses c.none_held-known.ensures.a c.none_held-known.ensures.b
    c.none_held-known.ensures.c
