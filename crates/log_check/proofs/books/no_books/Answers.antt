use Rattle.log_check.proofs.Written.{one_book_more}
use Rattle.log_check.proofs.books.no_books.Goals as goal

pub loop-preserved : goal.loop-preserved
loop-preserved c =
    one_book_more c.loop.books.items c.push.new.self.items c.new.result c.loop.counter c.loop.invariant c.in_ok-push.ensures.items
    c.new.ensures
