use Rattle.std.proofs.Common.{◌∙◌, arith}
use Rattle.floor_tests.proofs.KnownAfterCalls.{others_know}
use Rattle.floor_tests.proofs.permit_calls.three_callers.call_of_three.Goals as goal

pub returns-in-0 : goal.returns-in-0
returns-in-0 g c =
    let l = g.met.F.ChannelFloor.legal c.call_on.new.floor in
    let adds = c.call_on.ensures.adds in
    let k = c.requires.knows in
    record {
      knows = record {
        alone = adds.added.same.alone ∙ k.alone;
        a = c.call_on.ensures.knows;
        b = others_know 0 1 1 0 c.args.known.now.b _ _ l (λ q. omega (arith, q)) k.alone adds k.b;
        c = others_know 0 1 2 0 c.args.known.now.c _ _ l (λ q. omega (arith, q)) k.alone adds k.c;
      };
    }

pub returns-in-1 : goal.returns-in-1
returns-in-1 g c =
    let l = g.met.F.ChannelFloor.legal c.call_on-in-1.new.floor in
    let adds = c.call_on-in-1.ensures.adds in
    let k = c.requires.knows in
    record {
      knows = record {
        alone = adds.added.same.alone ∙ k.alone;
        a = others_know 0 1 0 1 c.args.known.now.a _ _ l (λ q. omega (arith, q)) k.alone adds k.a;
        b = c.call_on-in-1.ensures.knows;
        c = others_know 0 1 2 1 c.args.known.now.c _ _ l (λ q. omega (arith, q)) k.alone adds k.c;
      };
    }

pub returns-in_default : goal.returns-in_default
returns-in_default g c =
    let l = g.met.F.ChannelFloor.legal c.call_on-in_default.new.floor in
    let adds = c.call_on-in_default.ensures.adds in
    let k = c.requires.knows in
    record {
      knows = record {
        alone = adds.added.same.alone ∙ k.alone;
        a = others_know 0 1 0 2 c.args.known.now.a _ _ l (λ q. omega (arith, q)) k.alone adds k.a;
        b = others_know 0 1 1 2 c.args.known.now.b _ _ l (λ q. omega (arith, q)) k.alone adds k.b;
        c = c.call_on-in_default.ensures.knows;
      };
    }
