use Rattle.std.proofs.Common.{ap, refl, ◌∙◌}
use Rattle.scope_builders.proofs.Rooms.{may_call_after, added_to}
use Rattle.scope_builders.proofs.Bodies.{did_none, starts_nothing}
use Rattle.call_meaning.proofs.HeardCalls.{told_now, told_as}
use Rattle.scope_builders.proofs.Awaits.{awaits_of, told_from}
use Rattle.scope_builders.proofs.builder.Builder.await_end.Goals as goal

pub returns-in-Err-clause-answer : goal.returns-in-Err-clause-answer
returns-in-Err-clause-answer g c = did_none (starts_nothing _) (g.met.J.JobFloor.legal c.start.new.self.jobs.now)
    (ap g.C.ChannelFloor.view c.start.ensures.channels) c.in-Err.ensures.answer

pub receive_done-requires-clause-row : goal.receive_done-requires-clause-row
receive_done-requires-clause-row g c =
    (may_call_after c.requires.may c.requires.row (added_to c.tell.ensures.jobs c.in_default.ensures.answer.added)
    (g.met.J.JobFloor.legal c.tell.new.self)).attached

pub returns-clause-answer : goal.returns-clause-answer
returns-clause-answer g c =
    let caller = ap (λ x. (g.C.ChannelFloor.view x).callers c.args.self.now.who) c.start.ensures.channels ∙ c.requires.may.of_channels in
    awaits_of _ _ _ _ _ _ c.start.ensures.same.base (g.met.J.JobFloor.legal c.tell.new.self)
    (told_from (ap g.C.ChannelFloor.view c.start.ensures.channels)
    (told_now c.tell.ensures.jobs (c.tell.ensures.looked c.args.self.now.who caller) c.tell.ensures.told))
    (told_as refl c.tell.ensures.jobs refl c.in_default.ensures.answer) c.receive_done.ensures.answer
