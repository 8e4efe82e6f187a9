use Rattle.std.proofs.Common.{sym, ◌∙◌}
use Rattle.gathered.proofs.Adding.{adds, adds_same}
use Rattle.picture_parts.proofs.Plain.{two_lines}
use Rattle.picture_parts.proofs.markup.add_title.Goals as goal

pub returns-else-is_empty : goal.returns-else-is_empty
returns-else-is_empty c =
    adds_same (two_lines c.args.line.now c.args.source.now (sym c.is_empty.ensures ∙ c.if-is_empty.false))
    (adds (adds (adds (adds c.add-else-is_empty.ensures.added c.add_escaped-else-is_empty.ensures) c.add-else-is_empty-2.ensures.added)
    c.add_escaped-else-is_empty-2.ensures) c.add-else-is_empty-3.ensures.added)
