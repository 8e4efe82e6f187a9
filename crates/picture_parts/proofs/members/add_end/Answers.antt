use Rattle.std.proofs.Common.{codes}
use Rattle.gathered.proofs.Adding.{adds, adds_same}
use Rattle.picture_parts.specs.Members.{quoted, source_text}
use Rattle.picture_parts.proofs.Fields.{ending}
use Rattle.picture_parts.proofs.members.add_end.Goals as goal

pub returns : goal.returns
returns c =
    adds_same (ending (codes "\"args\":{\"line\":") (quoted c.args.line.now) (source_text c.args.source.now) (codes "}") (codes "}")
    (codes ",\n"))
    (adds (adds (adds c.add.ensures.added c.add_quoted.ensures) c.add_source.ensures) c.add-2.ensures.added)
