use Rattle.tally_book.proofs.OneMore.{noted_more}
use Rattle.tally_book.proofs.tally.TallyNoteBook.note.Goals as goal

pub invariant_of-self : goal.invariant_of-self
invariant_of-self c =
    noted_more c.self.inside.numbers c.add.new.self c.self.inside.noted.items c.with-self-inside.result.items c.args.item
    c.self.invariant c.add.ensures.note c.add.ensures.within c.with-self-inside.ensures
