use Rattle.std.proofs.Common.{length, map}
use Rattle.gathered.specs.Texts.{GoesOn}
use Rattle.report_picture.specs.Traces.{elements_text, track_text}
use Rattle.report_picture.proofs.events.add_tracks.Given as goal

abbrev pub invariant-loop-rest : goal.invariant-loop-rest
invariant-loop-rest l = GoesOn l.fn.text l.text (elements_text (map (track_text (map (λ n. n.items) l.names)) l.rest))
    (elements_text (map (track_text (map (λ n. n.items) l.names)) l.tracks))

abbrev pub decreases-loop-rest : goal.decreases-loop-rest
decreases-loop-rest l = length l.rest
