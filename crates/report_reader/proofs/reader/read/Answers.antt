use Rattle.std.proofs.Common.{sym, subst, arith}
use Rattle.report_reader.specs.Reading.{Gives, view}
use Rattle.report_reader.proofs.LineLoops.{line_fails, lines_end, lines_more}
use Rattle.report_reader.proofs.reader.read.Goals as goal

pub returns-in-Err : goal.returns-in-Err
returns-in-Err c = line_fails c.in-Err.fault c.lines.number (view c.lines.reading) (view c.read_numbered.new.reading) c.lines.rest.now _ _ _
    c.lines.invariant.says c.cut_at.ensures.cut c.in-Err.ensures

pub returns-in_default-more : goal.returns-in_default-more
returns-in_default-more c =
    let cut = rw c.in_default-more.is at c.cut_at.ensures.cut in
    subst (Gives c.finished.result) (sym (lines_end c.lines.number (view c.lines.reading) (view c.read_numbered.new.reading)
    c.lines.rest.now _ _ c.lines.invariant.says cut c.in_default.ensures)) c.finished.ensures

pub lines-preserved : goal.lines-preserved
lines-preserved c =
    let cut = rw c.in-Some.is at c.cut_at.ensures.cut in
    let less = rw c.in-Some.is at c.cut_at.ensures.less in
    record {
      says = lines_more c.lines.number (view c.lines.reading) (view c.read_numbered.new.reading) c.lines.rest.now _ c.in-Some.next _
          c.lines.invariant.says cut c.in_default.ensures;
      count = omega (arith, c.lines.invariant.count, less);
    }
