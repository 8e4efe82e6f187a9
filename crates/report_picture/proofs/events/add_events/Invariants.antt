use Rattle.std.proofs.Common.{length, map}
use Rattle.gathered.specs.Texts.{GoesOn}
use Rattle.report_picture.specs.Traces.{elements_text, event_text}
use Rattle.report_picture.proofs.events.add_events.Given as goal

abbrev pub invariant-loop-rest : goal.invariant-loop-rest
invariant-loop-rest l = GoesOn l.fn.text l.text (elements_text (map event_text l.rest))
    (elements_text (map event_text l.events))

abbrev pub decreases-loop-rest : goal.decreases-loop-rest
decreases-loop-rest l = length l.rest
