use Rattle.std.proofs.Common.{arith}
use Rattle.log_check.proofs.Written.{written_there}
use Rattle.log_check.proofs.books.write.Goals as goal

pub returns-in_ok-add : goal.returns-in_ok-add
returns-in_ok-add c =
    written_there c.args.books.now.items c.args.line.now c.add.new.book c.index_mut.result.now
    (omega (arith, c.args.books.now.ok.0, c.len.ensures, c.if-place-len.true)) c.index_mut.ensures.value c.in_ok-add.ensures
