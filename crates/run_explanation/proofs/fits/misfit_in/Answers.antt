use Rattle.std.proofs.Common.{arith}
use Rattle.script_reader.specs.Scripts.{program_of}
use Rattle.run_explanation.proofs.Lines.{lines_end, lines_misfit, lines_more}
use Rattle.run_explanation.proofs.fits.misfit_in.Goals as goal

pub returns-then-not-branch : goal.returns-then-not-branch
returns-then-not-branch c =
    lines_misfit c.in_ok-fits.field-0 (program_of c.args.script.now) c.lines.number c.lines.rest.now _ _ _ c.lines.invariant.says
    c.cut_at.ensures.cut c.in_ok-fits.ensures c.if-not-branch.true

pub returns-in_default : goal.returns-in_default
returns-in_default c =
    let cut = rw c.in_default.is at c.cut_at.ensures.cut in
    lines_end c.in_ok-fits.field-0 (program_of c.args.script.now) c.lines.number c.lines.rest.now _ _ c.lines.invariant.says cut
    c.in_ok-fits.ensures c.if-not-branch.false

pub lines-preserved : goal.lines-preserved
lines-preserved c =
    let cut = rw c.in-Some.is at c.cut_at.ensures.cut in
    let less = rw c.in-Some.is at c.cut_at.ensures.less in
    record {
      says = lines_more c.in_ok-fits.field-0 (program_of c.args.script.now) c.lines.number c.lines.rest.now _ c.in-Some.next _
          c.lines.invariant.says cut c.in_ok-fits.ensures c.if-not-branch.false;
      count = omega (arith, c.lines.invariant.count, less);
    }
