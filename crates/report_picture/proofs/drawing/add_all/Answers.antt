use Rattle.std.proofs.Common.{◌∙◌, ◌++◌, ap, ap₂, List, filter, map}
use Rattle.report_reader.specs.Reading.{told, told_lines}
use Rattle.report_picture.specs.declared.picture.Drawn.{Drawn}
use Rattle.report_picture.specs.declared.picture.Lost.{Lost}
use Rattle.report_picture.specs.Pictures.{is_element, is_within}
use Rattle.report_picture.proofs.drawing.add_all.Goals as goal

pub returns-clause-part : goal.returns-clause-part
returns-clause-part c =
    c.in_ok-add_part.ensures
    ∙ ap₂ (λ (l d : List Drawn). l ++ filter (is_within c.args.books.now.wanted) d) c.requires.lines c.as_slice.ensures.value

pub returns-clause-fates : goal.returns-clause-fates
returns-clause-fates c =
    c.in_ok-add_lost.ensures
    ∙ ap (λ (l : List Lost). map (λ e. told e.line) l ++ filter is_element (told_lines c.args.books.now.lines.now)) c.requires.lost
