use Rattle.report_picture.specs.Traces.{event_text}
use Rattle.report_picture.proofs.Elements.{element_added}
use Rattle.report_picture.proofs.events.add_events.Goals as goal

pub loop-rest-preserved : goal.loop-rest-preserved
loop-rest-preserved c =
    element_added event_text c.loop-rest.rest.now _ c.in-len1-up.len_at_least c.loop-rest.invariant c.add_event.ensures
