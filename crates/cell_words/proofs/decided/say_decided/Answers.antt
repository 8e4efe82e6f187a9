use Rattle.std.proofs.Common.{arith}
use Rattle.cell_words.specs.Hubs.{shape_of, seen_by}
use Rattle.cell_words.proofs.CountersAreTrue.{raises_decided, decided_is}
use Rattle.cell_words.proofs.decided.say_decided.Goals as goal

pub lift_word-requires-clause-may : goal.lift_word-requires-clause-may
lift_word-requires-clause-may c = rw c.decided_word.ensures
    (raises_decided (shape_of c.args.hub.now) c.args.c _ (seen_by c.args.pass.now) c.requires.channel
    (decided_is (shape_of c.args.hub.now) _ c.args.c c.args.known.from c.args.known.to c.args.known.count
    (omega (arith, c.if-known-ge2097152.false))
    (omega (arith, c.if-known-ge2097152-3.false)) c.requires.decided))
