use Rattle.std.proofs.Common.{length}
use Rattle.gathered.specs.Texts.{GoesOn}
use Rattle.picture_parts.specs.Markup.{escaped}
use Rattle.picture_parts.proofs.markup.add_escaped.Given as goal

abbrev pub invariant-loop-rest : goal.invariant-loop-rest
invariant-loop-rest l = GoesOn l.fn.text l.text (escaped l.rest) (escaped l.words)

abbrev pub decreases-loop-rest : goal.decreases-loop-rest
decreases-loop-rest l = length l.rest
