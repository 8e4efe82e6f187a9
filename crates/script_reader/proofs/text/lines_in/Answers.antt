use Rattle.std.proofs.Common.{arith, sym, ap, ◌∙◌, length, subst, ℕ, List}
use Rattle.std.specs.List.{slice_split}
use Rattle.script_grammar.specs.Words.{is_line_feed, lines_of}
use Rattle.script_grammar.specs.Programs.{places_in}
use Rattle.script_grammar.specs.Reads.{start, load}
use Rattle.script_grammar.specs.Texts.{lines_from}
use Rattle.script_reader.specs.Reading.{view}
use Rattle.script_reader.specs.Holding.{IsKept, cost}
use Rattle.script_reader.proofs.Kept.{IsKept-start}
use Rattle.script_reader.proofs.Lengths.{length-without_last_feed}
use Rattle.script_reader.proofs.LineLoops.{unless_still, lines_fail, lines_end, lines_more, few_lines, counted_more, line_cost}
use Rattle.script_reader.proofs.text.lines_in.Goals as goal

pub lines-init : goal.lines-init
lines-init c =
    let empty = c.empty-reading.ensures in
    let text = c.trimmed-rest.ensures in
    record {
      says = ap (λ s. lines_from 1 s (slice_split is_line_feed c.trimmed-rest.result.now)) empty.view
          ∙ ap (λ (l : List ℕ). lines_from 1 start (slice_split is_line_feed l)) text;
      count = omega (arith, ap (λ (l : List ℕ). length (slice_split is_line_feed l)) text);
      holds = record {
        kept = subst IsKept (sym empty.view) IsKept-start;
        places = empty.places ∙ ap (λ s. places_in s.channels) (sym empty.view);
        load = empty.load ∙ ap load (sym empty.view);
      };
      short = omega (arith, c.requires, ap cost empty.view, ap length text, length-without_last_feed c.args.bytes.now);
    }

pub returns-in-Err-clause-given : goal.returns-in-Err-clause-given
returns-in-Err-clause-given c =
    unless_still c.in-Err.kind _ _
    (λ bad. lines_fail c.lines.number (view c.lines.reading) c.in-Err.kind c.lines.rest.now _ _ _ c.lines.invariant.says
    c.first_line.ensures.cut bad)
    c.in-Err.ensures.left

pub returns-in_default-more-clause-given : goal.returns-in_default-more-clause-given
returns-in_default-more-clause-given c =
    let cut = rw c.in_default-more.is at c.first_line.ensures.cut in
    lines_end c.lines.number (view c.lines.reading) (view c.line_in.new.reading) c.lines.rest.now _ _ c.lines.invariant.says cut
    c.in_default.ensures.left

pub returns-in_default-more-clause-short : goal.returns-in_default-more-clause-short
returns-in_default-more-clause-short c =
    let last = rw c.in_default-more.is at c.first_line.ensures.last in
    omega (arith, c.lines.invariant.short, last, line_cost (view c.lines.reading) (view c.line_in.new.reading) _ c.in_default.ensures.left)

pub overflow_add-number : goal.overflow_add-number
overflow_add-number c =
    let cut = rw c.in-Some.is at c.first_line.ensures.cut in
    let count = counted_more c.lines.number c.lines.rest.now _ c.in-Some.next (length (lines_of c.args.bytes.now)) c.lines.invariant.count
    cut in
    omega (arith, count, c.requires, few_lines c.args.bytes.now)

pub lines-preserved : goal.lines-preserved
lines-preserved c =
    let cut = rw c.in-Some.is at c.first_line.ensures.cut in
    let less = rw c.in-Some.is at c.first_line.ensures.less in
    let ok = c.in_default.ensures.left in
    record {
      says = lines_more c.lines.number (view c.lines.reading) (view c.line_in.new.reading) c.lines.rest.now _ c.in-Some.next _
          c.lines.invariant.says cut ok;
      count = counted_more c.lines.number c.lines.rest.now _ c.in-Some.next (length (lines_of c.args.bytes.now)) c.lines.invariant.count
          cut;
      holds = c.in_default.ensures.holds;
      short = omega (arith, c.lines.invariant.short, less, line_cost (view c.lines.reading) (view c.line_in.new.reading) _ ok);
    }
