use Rattle.std.proofs.Common.{arith}
use Rattle.history_text.specs.Names.{listed}
use Rattle.history_text.proofs.LineLoops.{line_fails, lines_end, lines_more}
use Rattle.history_text.proofs.lines.some_lines.Goals as goal

pub returns-in-Err : goal.returns-in-Err
returns-in-Err c =
    line_fails (listed c.args.names.now) c.in-Err.fault c.lines.number c.lines.lines.items c.read_numbered.new.lines.items c.lines.rest.now
    _ _ _ c.lines.invariant.says c.cut_at.ensures.cut c.in-Err.ensures

pub returns-in_default-more : goal.returns-in_default-more
returns-in_default-more c =
    let cut = rw c.in_default-more.is at c.cut_at.ensures.cut in
    lines_end (listed c.args.names.now) c.lines.number c.lines.lines.items c.read_numbered.new.lines.items c.lines.rest.now _ _
    c.lines.invariant.says cut c.in_default.ensures

pub lines-preserved : goal.lines-preserved
lines-preserved c =
    let cut = rw c.in-Some.is at c.cut_at.ensures.cut in
    let less = rw c.in-Some.is at c.cut_at.ensures.less in
    record {
      says = lines_more (listed c.args.names.now) c.lines.number c.lines.lines.items c.read_numbered.new.lines.items c.lines.rest.now _
          c.in-Some.next _ c.lines.invariant.says cut c.in_default.ensures;
      count = omega (arith, c.lines.invariant.count, less);
    }
