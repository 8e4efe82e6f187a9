use Rattle.std.proofs.Common.{subst}
use Rattle.report_reader.specs.Reading.{told_lines}
use Rattle.report_picture.specs.Order.{StandBelow}
use Rattle.report_picture.proofs.arranged.arrange_in.Goals as goal

pub returns-clause-once : goal.returns-clause-once
returns-clause-once c = c.in_ok-draw_all.ensures.once

pub returns-clause-columns : goal.returns-clause-columns
returns-clause-columns c = c.in_ok-draw_all.ensures.columns

pub returns-clause-order : goal.returns-clause-order
returns-clause-order c = c.in_ok-draw_all.ensures.order

pub returns-clause-told : goal.returns-clause-told
returns-clause-told c = λ told. (c.in_ok-arranged.ensures.told told, c.in_ok-draw_all.ensures.rows told)

pub returns-clause-allowed : goal.returns-clause-allowed
returns-clause-allowed c =
    λ is. subst (StandBelow c.args.books.wanted c.args.books.tags.now (told_lines c.args.books.lines.now)) c.as_slice-drawn.ensures.value
    (c.in_ok-arranged.ensures.allowed is)
