use Rattle.std.proofs.Common.{Bool, ℕ, ap, ◌∙◌}
use Rattle.job_words.specs.Passes.{Seen}
use Rattle.worded.specs.Views.{has_tag}
use Rattle.floor_tests.proofs.forest_shares.on_passes.meet_both.Goals as goal

pub returns-clause-a : goal.returns-clause-a
returns-clause-a c = (
  c.meet-2.ensures.b,
  ap (λ (v : Seen). has_tag c.args.first v.tags) c.meet-2.ensures.same
      ∙ ap (λ (g : ℕ → Bool). g c.args.first) c.meet.ensures.met.same.callers ∙ c.requires.a.1,
)

pub returns-clause-b : goal.returns-clause-b
returns-clause-b c = (
  c.meet-2.ensures.a,
  ap (λ (g : ℕ → Bool). g c.args.second) c.meet-2.ensures.met.same.callers
      ∙ ap (λ (v : Seen). has_tag c.args.second v.tags) c.meet.ensures.same ∙ c.requires.b.1,
)
