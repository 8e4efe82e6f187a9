use Rattle.std.proofs.Common.{ap, ◌∙◌, List, ℕ}
use Rattle.worded.specs.Views.{has_tag}
use Rattle.bridge_tests.proofs.pass_calls.meet_passes.Goals as goal

pub returns-clause-a : goal.returns-clause-a
returns-clause-a c = (
  c.meet-2.ensures.b,
  ap (λ v. has_tag c.args.first v.tags) c.meet-2.ensures.same ∙ ap (λ (l : List ℕ). has_tag c.args.first l) c.meet.ensures.met.tags
      ∙ c.requires.a.1,
)

pub returns-clause-b : goal.returns-clause-b
returns-clause-b c = (
  c.meet-2.ensures.a,
  ap (λ (l : List ℕ). has_tag c.args.second l) c.meet-2.ensures.met.tags ∙ ap (λ v. has_tag c.args.second v.tags) c.meet.ensures.same
      ∙ c.requires.b.1,
)
