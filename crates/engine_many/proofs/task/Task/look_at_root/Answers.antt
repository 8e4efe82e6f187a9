use Rattle.std.proofs.Common.{◌≡◌, subst, sym, refl, rules, []}
use Rattle.job_model.specs.Floors.{Looked}
use Rattle.poll_states.specs.Frames.{frame_of}
use Rattle.run_laws.specs.Sights.{SawMore}
use Rattle.run_laws.proofs.Hearing.{keeps_looked, looked_more, tags_same}
use Rattle.engine_many.specs.Parts.{sight_of}
use Rattle.engine_many.proofs.task.Task.look_at_root.Goals as goal

pub invariant_of-self : goal.invariant_of-self
invariant_of-self g c =
    let i = c.self.invariant in
    let tag : c.self.inside.frame.value.value.tag ≡ 0 = search rules in (
      keeps_looked g.N.ScriptName.program (frame_of c.self.inside.frame.value.value) _ _ _
          (subst (λ n. Looked n [] (g.J.JobFloor.view c.self.inside.jobs) (g.J.JobFloor.view c.look.new.self)) (sym tag)
          c.look.ensures.answer.0) i.0,
      tags_same g.N.ScriptName.program _ _ _ _ _ refl refl i.1,
    )

pub returns-clause-more : goal.returns-clause-more
returns-clause-more g c =
    let frame = c.self.inside.frame.value.value in
    let at = sight_of g.C.ChannelFloor.view g.J.JobFloor.view in
    let tag : frame.tag ≡ 0 = search rules in
    subst (λ x. SawMore (at x) (at (frame, c.self.inside.channels, c.look.new.self))) c.self.view_is
    (looked_more (frame_of frame) (g.C.ChannelFloor.view c.self.inside.channels) (g.J.JobFloor.view c.self.inside.jobs)
    (g.J.JobFloor.view c.look.new.self)
    (subst (λ n. Looked n [] (g.J.JobFloor.view c.self.inside.jobs) (g.J.JobFloor.view c.look.new.self)) (sym tag)
    c.look.ensures.answer.0))
