use Rattle.report_picture.specs.Pictures.{is_drawn, lines_in}
use Rattle.report_picture.proofs.Placing.{kept_rest}
use Rattle.report_picture.proofs.placed.draw_all.Goals as goal

pub loop-rest-preserved : goal.loop-rest-preserved
loop-rest-preserved c = record {
  once =
      kept_rest (is_drawn c.args.wanted c.args.tags.now) (lines_in c.loop-rest.drawn.items) _ c.loop-rest.rest.now _ _
      c.in-len1-up.len_at_least c.in_ok-push_drawn.ensures.once c.loop-rest.invariant.once;
  columns = c.in_ok-push_drawn.ensures.columns;
  order = c.in_ok-push_drawn.ensures.order;
  rows = c.in_ok-push_drawn.ensures.rows;
}
