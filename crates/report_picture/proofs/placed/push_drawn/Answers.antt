use Rattle.std.proofs.Common.{refl}
use Rattle.report_picture.proofs.Placing.{columns_pushed, order_pushed, rows_pushed}
use Rattle.report_picture.proofs.placed.push_drawn.Goals as goal

pub returns-clause-columns : goal.returns-clause-columns
returns-clause-columns c =
    columns_pushed _ _ _ _ _ _ c.in_ok-push.ensures.items refl refl c.in-Some.ensures.column
    c.among.ensures c.requires.columns

pub returns-clause-order : goal.returns-clause-order
returns-clause-order c =
    order_pushed _ _ _ _ _ _ c.in_ok-push.ensures.items c.as_slice.ensures.value refl refl
    c.in_ok-row.ensures.above c.requires.order

pub returns-clause-rows : goal.returns-clause-rows
returns-clause-rows c =
    rows_pushed _ _ _ _ _ _ c.in_ok-push.ensures.items c.as_slice.ensures.value refl c.in_ok-row.ensures.rows
    c.requires.rows
