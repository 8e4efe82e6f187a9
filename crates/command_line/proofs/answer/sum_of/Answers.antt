use Rattle.std.proofs.Common.{arith}
use Rattle.script_reader.specs.Scripts.{program_of}
use Rattle.run_laws.proofs.Lists.{few_coroutines}
use Rattle.command_line.specs.declared.words.Command.TheVariants.{Sum}
use Rattle.command_line.proofs.Answering.{answered, tallied_rest}
use Rattle.command_line.proofs.answer.sum_of.Goals as goal

pub summary-requires : goal.summary-requires
summary-requires c =
    let rests = tallied_rest (program_of c.args.script.now) c.args.done.now.books.items c.requires.channels
    c.requires.jobs c.args.done.now.end c.requires.rests in
    let few = few_coroutines (program_of c.args.script.now) c.args.script.now.well_formed in
    let count = rests.0.0.count in
    omega (arith, few, count, c.as_slice.ensures.value)

pub returns : goal.returns
returns c =
    let rests = tallied_rest (program_of c.args.script.now) c.args.done.now.books.items c.requires.channels
    c.requires.jobs c.args.done.now.end c.requires.rests in
    rw c.ending_of-ending.ensures (λ source source' asks.
    answered (Sum c.args.size c.args.workers) (program_of c.args.script.now) c.args.done.now.books.items c.requires.channels
    c.requires.jobs c.args.done.now.end c.in_ok-text.text.items source source' rests
    (rw c.as_slice.ensures.value at c.in_ok-text.ensures c.requires.channels c.requires.jobs rests.0) asks)
