use Rattle.log_check.specs.Parts.{word_of}
use Rattle.log_check.proofs.Cuts.{cut_here}
use Rattle.log_check.proofs.parts.parts_of.Goals as goal

pub returns-in-Some-subject_of : goal.returns-in-Some-subject_of
returns-in-Some-subject_of c =
    cut_here (word_of c.in-Some-subject_of.subject) c.split_at.result.0.now c.cut_at.result.0.now c.split_at.result.1.now c.args.bytes.now
    c.in-Some.text (rw c.in-Some-subject_of.is at c.subject_of.ensures) (rw c.in-Some.is at c.cut_at.ensures.cut)
    c.split_at.ensures.by_index.0
