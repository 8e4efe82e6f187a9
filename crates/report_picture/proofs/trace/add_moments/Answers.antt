use Rattle.std.proofs.Common.{map}
use Rattle.report_reader.specs.Reading.{told}
use Rattle.report_picture.specs.Traces.{is_traced}
use Rattle.report_picture.proofs.Placing.{kept_rest}
use Rattle.report_picture.proofs.trace.add_moments.Goals as goal

pub loop-rest-preserved : goal.loop-rest-preserved
loop-rest-preserved c = λ whole.
    let added = c.add_moment.ensures whole in
    kept_rest (is_traced c.args.wanted) (map (λ m. told m.line) c.loop-rest.moments.list.items) _ c.loop-rest.rest.now _ _
    c.in-len1-up.len_at_least added.1 (c.loop-rest.invariant added.0)
