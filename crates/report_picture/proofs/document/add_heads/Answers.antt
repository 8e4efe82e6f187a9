use Rattle.std.proofs.Common.{map}
use Rattle.report_picture.proofs.Rests.{heads_added}
use Rattle.report_picture.proofs.document.add_heads.Goals as goal

pub loop-rest-preserved : goal.loop-rest-preserved
loop-rest-preserved c =
    heads_added (map (λ n. n.items) c.args.names.now) c.args.top c.loop-rest.rest.now _ _ c.in-len1-up.len_at_least c.loop-rest.invariant
    c.name_of.ensures c.add_head.ensures c.add_head-in-len1-up.ensures
