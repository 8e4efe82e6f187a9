use Rattle.std.proofs.Common.{◌≡◌, [], ap, subst, sym, ◌∙◌}
use Rattle.channel_model.specs.Histories.{acts_of}
use Rattle.channel_model.specs.Floors.{Looked}
use Rattle.job_model.specs.Histories.{acts_of as job_acts_of}
use Rattle.call_meaning.specs.Orders.{HasTold}
use Rattle.script_reader.specs.Scripts.{program_of}
use Rattle.poll_states.specs.Frames.{frame_of}
use Rattle.run_laws.specs.Sights.{Keeps}
use Rattle.run_laws.proofs.Hearing.{sight, tags_polled}
use Rattle.run_laws.proofs.FreshTasks.{keeps_begun}
use Rattle.engine_many.proofs.task.Task.root.Goals as goal

pub new-requires-2-clause-keeps : goal.new-requires-2-clause-keeps
new-requires-2-clause-keeps g c =
    let old = g.C.ChannelFloor.view c.args.channels in
    let new = g.C.ChannelFloor.view c.tell.new.channels in
    let begun = g.J.JobFloor.view c.begin.new.jobs in
    let b = c.in_ok-begin.ensures.begun old c.requires.channels in
    rw c.in_ok-boxed.ensures (
    subst (λ j. Keeps g.N.ScriptName.program (sight (frame_of c.begin.new.frame) new j)) (sym c.tell.ensures.jobs)
    (keeps_begun g.N.ScriptName.program (program_of c.args.script.now) old new (g.J.JobFloor.view c.args.jobs) begun
    (frame_of c.in_ok-frame.frame) (frame_of c.begin.new.frame)
    c.requires.script c.args.script.now.well_formed (g.met.J.JobFloor.legal c.begin.new.jobs)
    (subst (λ n. acts_of n old.seen ≡ []) (sym c.in_ok-frame.ensures.tag) c.requires.channels.no_channel_acts)
    (subst (λ n. job_acts_of n (g.J.JobFloor.view c.args.jobs).seen ≡ []) (sym c.in_ok-frame.ensures.tag) c.requires.jobs.no_job_acts)
    (subst (λ n. Looked n old new) (sym c.in_ok-frame.ensures.tag) (c.tell.ensures.looked 0 c.requires.channels.of_channels))
    (λ joint. subst (λ j. HasTold new j) c.tell.ensures.jobs (c.tell.ensures.told joint))
    b.stands.on b.begun))

pub new-requires-2-clause-tags : goal.new-requires-2-clause-tags
new-requires-2-clause-tags g c =
    let b = c.in_ok-begin.ensures.begun (g.C.ChannelFloor.view c.args.channels) c.requires.channels in
    rw c.in_ok-boxed.ensures (tags_polled g.N.ScriptName.program _ _ _ _ _ _ (b.begun.tag ∙ c.in_ok-frame.ensures.tag)
    (ap g.C.SharedChannels.may_act c.tell.ensures.channels_anchor)
    (ap g.J.SharedBeside.may_act_beside c.tell.ensures.channels_anchor) c.requires.tags)
