use Rattle.std.proofs.Common.{◌∙◌}
use Rattle.script_printer.proofs.Spacing.{channel_at}
use Rattle.script_printer.proofs.lines_out.channel_name.Goals as goal

pub returns-in-Some : goal.returns-in-Some
returns-in-Some c = c.as_bytes.ensures.value ∙ channel_at c.args.channels.now c.args.c c.in-Some.channel.now c.in-Some.ensures.lookup.3.0
    c.in-Some.ensures.lookup.1
