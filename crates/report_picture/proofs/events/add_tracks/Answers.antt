use Rattle.std.proofs.Common.{map}
use Rattle.report_picture.specs.Traces.{track_text}
use Rattle.report_picture.proofs.Elements.{element_added}
use Rattle.report_picture.proofs.events.add_tracks.Goals as goal

pub loop-rest-preserved : goal.loop-rest-preserved
loop-rest-preserved c =
    element_added (track_text (map (λ n. n.items) c.args.names.now)) c.loop-rest.rest.now _ c.in-len1-up.len_at_least
    c.loop-rest.invariant c.add_track.ensures
