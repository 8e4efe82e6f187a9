use Rattle.std.proofs.Common.{subst}
use Rattle.engine_many.specs.Parts.{sight_of}
use Rattle.run_laws.specs.LastRounds.{AllRested}
use Rattle.run_laws.proofs.Meeting.{all_met, all_rested}
use Rattle.engine_many.proofs.meetings.meet_all.Goals as goal

pub returns-clause-met : goal.returns-clause-met
returns-clause-met g c = all_met (sight_of g.C.ChannelFloor.view g.J.JobFloor.view) c.hear_all.new.others c.tell_all.new.others
    c.hear_all.new.root c.tell_all.new.root c.tell_all.ensures.root c.hear_all.ensures.heard c.tell_all.ensures.told
    c.tell_all.ensures.known

pub returns-clause-rested : goal.returns-clause-rested
returns-clause-rested g c = λ p h.
    let at = sight_of g.C.ChannelFloor.view g.J.JobFloor.view in
    all_rested at p c.in-Some.others.now c.hear_all.new.others c.tell_all.new.others c.in-Some.root.now c.hear_all.new.root
    c.tell_all.new.root c.hear_all.ensures.root c.tell_all.ensures.root c.hear_all.ensures.known c.hear_all.ensures.rested
    c.tell_all.ensures.known c.tell_all.ensures.rested (subst (AllRested at p) c.in-Some.ensures.cases.0 h)
