use Rattle.std.proofs.Common.{ap, subst}
use Rattle.poll_states.specs.Frames.{frame_of}
use Rattle.run_laws.specs.Sights.{SawMore, IsWithin}
use Rattle.run_laws.proofs.Hearing.{keeps_met, tags_same, met_more, met_within}
use Rattle.engine_many.specs.Parts.{sight_of}
use Rattle.engine_many.proofs.task.Task.hear.Goals as goal

pub invariant_of-self : goal.invariant_of-self
invariant_of-self g c =
    let i = c.self.invariant in (
      keeps_met g.N.ScriptName.program (frame_of c.self.inside.frame.value.value) (g.C.ChannelFloor.view c.self.inside.channels)
          (g.C.ChannelFloor.view c.meet.new.self) _ _ (g.J.JobFloor.view c.self.inside.jobs) (g.J.JobFloor.view c.meet-2.new.self) _ _
          c.meet.ensures.met c.meet-2.ensures.met i.0,
      tags_same g.N.ScriptName.program _ _ _ _ _ (ap g.C.SharedChannels.may_act c.meet.ensures.anchor)
          (ap g.J.SharedBeside.may_act_beside c.meet.ensures.anchor) i.1,
    )

pub returns-clause-more : goal.returns-clause-more
returns-clause-more g c =
    let on = c.self.invariant.0.stands in
    let frame = c.self.inside.frame.value.value in
    let at = sight_of g.C.ChannelFloor.view g.J.JobFloor.view in
    subst (λ x. SawMore (at x) (at (frame, c.meet.new.self, c.meet-2.new.self))) c.self.view_is
    (met_more (frame_of frame) (g.C.ChannelFloor.view c.self.inside.channels) (g.C.ChannelFloor.view c.meet.new.self) _ _
    (g.J.JobFloor.view c.self.inside.jobs) (g.J.JobFloor.view c.meet-2.new.self) _ _ on.of_channels on.of_jobs
    c.meet.ensures.met c.meet-2.ensures.met)

pub returns-clause-heard : goal.returns-clause-heard
returns-clause-heard g c =
    let frame = c.self.inside.frame.value.value in
    let at = sight_of g.C.ChannelFloor.view g.J.JobFloor.view in
    subst (λ x. IsWithin (at x) (at (frame, c.meet.new.self, c.meet-2.new.self))) c.other.view_is
    (met_within (frame_of frame) (frame_of c.other.inside.frame.value.value) _ (g.C.ChannelFloor.view c.meet.new.self) _ _
    _ (g.J.JobFloor.view c.meet-2.new.self) _ _ c.meet.ensures.met c.meet-2.ensures.met)
