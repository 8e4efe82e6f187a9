use Rattle.std.proofs.Common.{sym, ◌∙◌}
use Rattle.script_reader.proofs.Numbers.{number_utf8, parsed}
use Rattle.script_reader.proofs.place.value_of.Goals as goal

pub unreachable-requires : goal.unreachable-requires
unreachable-requires c = c.in_default.ensures.cases.0 (number_utf8 c.args.word.now (sym c.if-not-well_written.ensures))

pub returns : goal.returns
returns c = c.ok.ensures.value ∙ parsed c.args.word.now _ (sym c.if-not-well_written.ensures)
    (rw c.in-Ok.ensures.cases.0 at c.parse.ensures.value.0)
