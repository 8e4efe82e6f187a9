use Rattle.floor_rows.proofs.NothingKnown.{knows_nothing}
use Rattle.floor_rows.proofs.rows.right_on_list.Goals as goal

pub right_on-requires : goal.right_on-requires
right_on-requires c = record {
  all = c.in_ok-floor.ensures.callers;
  knows = knows_nothing c.args.kind c.args.places _ c.in_ok-floor.ensures.shape c.requires.elements;
}
