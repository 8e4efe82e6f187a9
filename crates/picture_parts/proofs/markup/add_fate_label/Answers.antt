use Rattle.std.proofs.Common.{◌++◌, ap, codes}
use Rattle.gathered.proofs.Adding.{adds_same}
use Rattle.picture_parts.specs.LineWords.{word}
use Rattle.picture_parts.specs.Markup.{escaped}
use Rattle.picture_parts.proofs.Plain.{adds_escaped}
use Rattle.picture_parts.proofs.markup.add_fate_label.Goals as goal

pub returns : goal.returns
returns c =
    let line = c.args.line.now in
    let one = word 1 line ++ codes "." in
    let two = one ++ word 2 line ++ codes ": " in
    let three = two ++ word 3 line ++ codes " " in
    adds_escaped three (word 4 line)
    (adds_escaped (two ++ word 3 line) (codes " ")
    (adds_escaped two (word 3 line)
    (adds_escaped (one ++ word 2 line) (codes ": ")
    (adds_escaped one (word 2 line)
    (adds_escaped (word 1 line) (codes ".")
    (adds_same (ap escaped c.word.ensures) c.add_escaped.ensures) c.add.ensures.added)
    (adds_same (ap escaped c.word-2.ensures) c.add_escaped-2.ensures)) c.add-2.ensures.added)
    (adds_same (ap escaped c.word-3.ensures) c.add_escaped-3.ensures)) c.add-3.ensures.added)
    (adds_same (ap escaped c.word-4.ensures) c.add_escaped-4.ensures)
