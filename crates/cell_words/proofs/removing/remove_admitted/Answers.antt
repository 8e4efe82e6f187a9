use Rattle.std.proofs.Common.{refl, ◌∙◌}
use Rattle.cell_words.specs.Hubs.{shape_of}
use Rattle.cell_words.specs.Answers.{held}
use Rattle.cell_words.proofs.LooksAtCells.{offer_word_is}
use Rattle.cell_words.proofs.removing.remove_admitted.Goals as goal

pub empty-requires-clause-kept : goal.empty-requires-clause-kept
empty-requires-clause-kept c =
    let a = c.requires.admitted in
    held c.args.waiter a refl (c.offer_cell-old.ensures ∙ offer_word_is (shape_of c.args.hub.now) c.args.c c.args.place a.who
    c.args.waiter.clause c.args.waiter.value a.wait c.args.waiter.holder a.holder)
