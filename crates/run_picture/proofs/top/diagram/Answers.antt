use Rattle.std.proofs.Common.{◌∙◌, ap, map, sym, subst}
use Rattle.report_reader.specs.Reading.{told_lines}
use Rattle.report_picture.specs.Shown.{Shows}
use Rattle.run_picture.proofs.top.diagram.Goals as goal

pub returns : goal.returns
returns c = record {
  picture = c.in_ok-drawing.drawing.picture;
  named = ap (map (λ n. n.items)) c.in_ok-drawing.ensures.names;
  shows =
      subst (λ found. Shows found c.args.wanted (told_lines c.args.lines.now) c.in_ok-drawing.drawing.picture)
      (sym c.shown_by-shown.ensures.order) c.in_ok-drawing.ensures.shown;
  all = c.shown_by-shown.ensures.all ∙ c.in_ok-drawing.ensures.all;
  large = c.shown_by-shown.ensures.large;
  is_text = c.in_ok-text.ensures;
}
