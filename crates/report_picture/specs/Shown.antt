-- What a picture shows of a report.
use Rattle.std.specs.Prelude.{◌≡◌, List, Bool, map, filter}
use Rattle.report_reader.specs.Reports.{Line as Told}
use Rattle.report_reader.specs.Reading.{told}
use Rattle.report_picture.specs.declared.columns.Wanted.{Wanted}
use Rattle.report_picture.specs.declared.picture.Drawn.{Drawn}
use Rattle.report_picture.specs.declared.picture.Picture.{Picture}
use Rattle.report_picture.specs.Pictures.{StandBeside, StandInColumns, StandInOrder, is_drawn, is_element, is_within, lines_in, tags_of}
use Rattle.report_picture.specs.Order.{AreOrdered}

-- each line that is asked for and not left out is there once, in the column of its coroutine, and those of a column are in the order of
-- its book; each is below what it presupposes, or all are in the order of the report; the picture has those of the rows asked for. The
-- columns are beside one another, and each line of the report that tells what became of an element is there once
pub record Shows (found : Bool) (wanted : Wanted) (lines : List Told) (picture : Picture) : Type 0 where
  pub columns : map (λ c. c.tag) picture.columns.items ≡ tags_of wanted lines
  pub beside : StandBeside 0 picture.columns.items
  pub whole : List Drawn
  pub once : lines_in whole ≡ filter (is_drawn wanted (tags_of wanted lines)) lines
  pub in_columns : StandInColumns (tags_of wanted lines) whole
  pub in_order : StandInOrder whole
  pub ordered : AreOrdered found wanted (tags_of wanted lines) lines whole
  pub part : picture.lines.items ≡ filter (is_within wanted) whole
  pub fates : map (λ e. told e.line) picture.lost.items ≡ filter is_element lines
