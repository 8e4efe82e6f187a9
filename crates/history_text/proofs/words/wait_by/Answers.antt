use Rattle.std.proofs.Common.{sym, ◌∙◌}
use Rattle.history_text.specs.Names.{listed}
use Rattle.history_text.proofs.Waits.{some_more}
use Rattle.history_text.proofs.words.wait_by.Goals as goal

pub returns-then-is_some : goal.returns-then-is_some
returns-then-is_some c =
    some_more (listed c.args.names.now) c.args.channel.now c.args.place.now c.args.more (sym c.is_some.ensures ∙ c.if-is_some.true)
