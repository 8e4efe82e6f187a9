use Rattle.std.proofs.Common.{ap, ◌∙◌}
use Rattle.library_examples.proofs.FirstElements.{at_most}
use Rattle.library_examples.proofs.bridges.first_doubled.Goals as goal

pub returns-in-Ok-Ok : goal.returns-in-Ok-Ok
returns-in-Ok-Ok g c =
    let given = rw c.in-Ok-Ok.field-0-is at c.in-Ok-Ok.ensures.value in
    record {
      few = at_most _ _ c.args.most _ _ given.0 (ap (λ t. t.remaining) (c.collect.ensures.0 ∙ c.take.ensures)) c.collect.ensures.1
          given.2 given.1;
    }
