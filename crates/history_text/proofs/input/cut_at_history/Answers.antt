use Rattle.history_text.specs.Numbers.{shape_of}
use Rattle.history_text.proofs.Parts.{cut_here}
use Rattle.history_text.proofs.input.cut_at_history.Goals as goal

pub returns-in-Some-2 : goal.returns-in-Some-2
returns-in-Some-2 c =
    cut_here (shape_of c.in-Some-2.numbers) c.split_at.result.0.now c.cut_at.result.0.now c.split_at.result.1.now c.args.bytes.now
    c.in-Some.text (rw c.in-Some-2.is at c.in_ok-numbers.ensures) (rw c.in-Some.is at c.cut_at.ensures.cut) c.split_at.ensures.by_index.0
