use Rattle.std.proofs.Common.{ℕ, ap, ◌∙◌, subst}
use Rattle.job_model.specs.Trees.{Shape}
use Rattle.job_model.proofs.Spans.{setting_then}
use Rattle.floor_tests.specs.Shares.{IsReady}
use Rattle.floor_tests.proofs.forest_shares.calls.make.Goals as goal

pub make_ready-requires-clause-ready : goal.make_ready-requires-clause-ready
make_ready-requires-clause-ready g c =
    subst (λ (r : ℕ). IsReady c.args.who r (g.J.JobFloor.view c.is_ready.new.jobs)) c.row_of.ensures
    (c.in-Ok-true.ensures.ready c.in-Ok-true.field-0-test)

pub make_ready-requires-clause-size : goal.make_ready-requires-clause-size
make_ready-requires-clause-size g c = ap (λ (s : Shape). s.coroutines) c.is_ready.ensures.same.shape ∙ c.requires.size

pub returns-in-Ok-true-clause-anchor : goal.returns-in-Ok-true-clause-anchor
returns-in-Ok-true-clause-anchor g c = c.make_ready.ensures.anchor ∙ c.is_ready.ensures.anchor

pub returns-in-Ok-true-clause-same : goal.returns-in-Ok-true-clause-same
returns-in-Ok-true-clause-same g c = setting_then _ _ _ c.is_ready.ensures.same c.make_ready.ensures.same

pub returns-in-Ok-false-clause-same : goal.returns-in-Ok-false-clause-same
returns-in-Ok-false-clause-same g c = c.is_ready.ensures.same

pub returns-in-Err-clause-same : goal.returns-in-Err-clause-same
returns-in-Err-clause-same g c = c.is_ready.ensures.same
