use Rattle.script_reader.proofs.NameTexts.{name_utf8}
use Rattle.script_reader.proofs.place.name_text.Goals as goal

pub unreachable-requires : goal.unreachable-requires
unreachable-requires c = c.in_default.ensures.cases.0 (name_utf8 c.args.word.now c.requires)
