use Rattle.counted_cells.specs.declared.act.Side.TheVariants.{Receive}
use Rattle.library_examples.specs.CellsLeft.{met, left, spent}
use Rattle.library_examples.proofs.counted.send_or_leave.Goals as goal

pub returns-in-Paired-clause-met : goal.returns-in-Paired-clause-met
returns-in-Paired-clause-met c = met c.in-Paired.field-0 c.args.value c.in-Paired.ensures.answer.1

pub returns-in-Done-clause-met : goal.returns-in-Done-clause-met
returns-in-Done-clause-met c = left c.in-Waits.place c.in-Done.ensures.answer.0 c.in-Done.ensures.answer.2

pub returns-in-Late-clause-met : goal.returns-in-Late-clause-met
returns-in-Late-clause-met c = met c.in-Waits.place c.in-Late.ensures.answer.0 c.in-Late.ensures.answer.2

pub returns-in-Broken-clause-met : goal.returns-in-Broken-clause-met
returns-in-Broken-clause-met c = left c.in-Broken.field-0 Receive c.in-Broken.ensures.answer.1

pub returns-in-Spent-clause-met : goal.returns-in-Spent-clause-met
returns-in-Spent-clause-met c = spent c.in-Spent.ensures.answer.all
