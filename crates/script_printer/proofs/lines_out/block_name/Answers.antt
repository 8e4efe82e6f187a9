use Rattle.std.proofs.Common.{◌∙◌}
use Rattle.script_printer.proofs.Spacing.{block_at}
use Rattle.script_printer.proofs.lines_out.block_name.Goals as goal

pub returns-in-Some : goal.returns-in-Some
returns-in-Some c = c.as_bytes.ensures.value ∙ block_at c.args.coroutines.now c.args.block c.in-Some.coroutine.now
    c.in-Some.ensures.lookup.3.0 c.in-Some.ensures.lookup.1
