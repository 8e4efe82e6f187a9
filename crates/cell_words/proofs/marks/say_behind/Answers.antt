use Rattle.std.proofs.Common.{arith}
use Rattle.cell_words.specs.Hubs.{shape_of, seen_by}
use Rattle.cell_words.proofs.OneNumberOneWord.{mark_within}
use Rattle.cell_words.proofs.CountersAreTrue.{raises_mark, behind_is}
use Rattle.cell_words.proofs.marks.say_behind.Goals as goal

pub lift_word-requires-clause-word : goal.lift_word-requires-clause-word
lift_word-requires-clause-word c = rw c.mark_word.ensures
    (mark_within (shape_of c.args.hub.now) c.args.c c.args.place c.requires.at.0 c.requires.at.1)

pub lift_word-requires-clause-may : goal.lift_word-requires-clause-may
lift_word-requires-clause-may c = rw c.mark_word.ensures
    (raises_mark (shape_of c.args.hub.now) c.args.c c.args.place _ (seen_by c.args.pass.now) c.requires.at.0 c.requires.at.1
    (behind_is (shape_of c.args.hub.now) _ c.args.c c.args.place c.args.known.to c.args.known.count
    (omega (arith, c.if-known-ge2097152.false)) (omega (arith, c.if-known-ge2097152-2.false)) c.requires.decided))
