use Rattle.std.proofs.Common.{ap}
use Rattle.script_reader.specs.Scripts.{program_of}
use Rattle.poll_states.specs.Frames.{frame_of}
use Rattle.run_laws.proofs.Hearing.{keeps_polled, tags_polled}
use Rattle.engine_many.proofs.task.Task.poll.Goals as goal

pub invariant_of-task : goal.invariant_of-task
invariant_of-task g c =
    let p = rw c.deref_mut.ensures.value at c.in_ok-turn.ensures.polled in (
      keeps_polled g.N.ScriptName.program (program_of c.args.script.now) (g.C.ChannelFloor.view c.self.inside.channels)
          (g.C.ChannelFloor.view c.poll_on.new.channels) (g.J.JobFloor.view c.self.inside.jobs) (g.J.JobFloor.view c.poll_on.new.jobs)
          (frame_of c.self.inside.frame.value.value) (frame_of c.poll_on.new.frame) c.requires c.args.script.now.well_formed
          (g.met.J.JobFloor.legal c.poll_on.new.jobs) p.stands.on p.polled c.self.invariant.0,
      tags_polled g.N.ScriptName.program _ _ _ _ _ _ p.polled.tag (ap g.C.SharedChannels.may_act c.poll_on.ensures.channels_anchor)
          (ap g.J.SharedBeside.may_act_beside c.poll_on.ensures.channels_anchor) c.self.invariant.1,
    )

pub returns-clause-keeps : goal.returns-clause-keeps
returns-clause-keeps g c =
    let p = rw c.deref_mut.ensures.value at c.in_ok-turn.ensures.polled in
    keeps_polled g.N.ScriptName.program (program_of c.args.script.now) (g.C.ChannelFloor.view c.self.inside.channels)
    (g.C.ChannelFloor.view c.poll_on.new.channels) (g.J.JobFloor.view c.self.inside.jobs) (g.J.JobFloor.view c.poll_on.new.jobs)
    (frame_of c.self.inside.frame.value.value) (frame_of c.poll_on.new.frame) c.requires c.args.script.now.well_formed
    (g.met.J.JobFloor.legal c.poll_on.new.jobs) p.stands.on p.polled c.self.invariant.0
