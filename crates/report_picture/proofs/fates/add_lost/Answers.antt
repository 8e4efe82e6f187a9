use Rattle.std.proofs.Common.{map}
use Rattle.report_reader.specs.Reading.{told}
use Rattle.report_picture.specs.declared.picture.Lost.{Lost}
use Rattle.report_picture.specs.Pictures.{is_element}
use Rattle.report_picture.proofs.Placing.{kept_rest}
use Rattle.report_picture.proofs.fates.add_lost.Goals as goal

pub loop-rest-preserved : goal.loop-rest-preserved
loop-rest-preserved c =
    kept_rest is_element (map (λ (e : Lost). told e.line) c.loop-rest.lost.items) _ c.loop-rest.rest.now _ _ c.in-len1-up.len_at_least
    c.in_ok-push_lost.ensures c.loop-rest.invariant
