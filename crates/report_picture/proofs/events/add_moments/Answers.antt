use Rattle.report_picture.specs.Traces.{moment_text}
use Rattle.report_picture.proofs.Elements.{element_added}
use Rattle.report_picture.proofs.events.add_moments.Goals as goal

pub loop-rest-preserved : goal.loop-rest-preserved
loop-rest-preserved c =
    element_added moment_text c.loop-rest.rest.now _ c.in-len1-up.len_at_least c.loop-rest.invariant c.add_moment.ensures
