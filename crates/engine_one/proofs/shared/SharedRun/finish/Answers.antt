use Rattle.std.proofs.Common.{ap, sym, subst, ◌∙◌}
use Rattle.engine_one.specs.Moments.{list_moment, RunStands}
use Rattle.engine_one.specs.Progress.{LeftWhere}
use Rattle.engine_one.specs.Sharing.{SharedState}
use Rattle.engine_one.proofs.shared.SharedRun.finish.Goals as goal

pub returns-then-over-clause-stand : goal.returns-then-over-clause-stand
returns-then-over-clause-stand g c = subst (λ p. RunStands p (list_moment c.self.inside.run)) (sym c.requires)
    (c.self.invariant c.if-no_memory.false).stand

pub returns-then-over-clause-left : goal.returns-then-over-clause-left
returns-then-over-clause-left g c = subst (λ b. LeftWhere b (list_moment c.self.inside.run)) c.if-over.true
    (c.self.invariant c.if-no_memory.false).left

pub returns-then-over-clause-memory : goal.returns-then-over-clause-memory
returns-then-over-clause-memory g c = ap (λ (s : SharedState). s.no_memory) (sym c.self.view_is) ∙ c.if-no_memory.false

pub run_out-requires : goal.run_out-requires
run_out-requires g c = subst (λ p. RunStands p (list_moment c.self.inside.run)) (sym c.requires)
    (c.self.invariant c.if-no_memory.false).stand

pub returns-clause-memory : goal.returns-clause-memory
returns-clause-memory g c = ap (λ (s : SharedState). s.no_memory) (sym c.self.view_is) ∙ c.if-no_memory.false
