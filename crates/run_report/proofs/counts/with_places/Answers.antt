use Rattle.std.proofs.Common.{ap, arith, ◌∙◌}
use Rattle.run_report.specs.Known.{element_in}
use Rattle.run_report.specs.Summaries.{with_place}
use Rattle.run_report.proofs.CountedOn.{one_more}
use Rattle.run_report.proofs.counts.with_places.Goals as goal

pub loop-place-preserved : goal.loop-place-preserved
loop-place-preserved c = record {
  counted = one_more (λ n p. with_place n (element_in c.args.known.now c.args.c p)) c.args.counts c.loop-place.counts
      c.add_place.new.self c.loop-place.place c.loop-place.invariant.counted
      (c.add_place.ensures.counts ∙ ap (with_place c.loop-place.counts) c.element.ensures);
  before = omega (arith, c.loop-place.invariant.before);
  fit = c.add_place.ensures.most;
}
