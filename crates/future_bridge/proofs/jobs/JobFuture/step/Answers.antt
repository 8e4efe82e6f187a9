use Rattle.std.proofs.Common.{◌∙◌, sym, refl}
use Rattle.future_bridge.proofs.JobsGo.{Begun, done_kind, no_item, gives_end, gives_still, awaits_end, awaits_spent}
use Rattle.future_bridge.proofs.jobs.JobFuture.step.Goals as goal

pub unreachable-requires-in-Item : goal.unreachable-requires-in-Item
unreachable-requires-in-Item c = no_item _ (done_kind c.args.self.now.state c.in-Some.taken (sym c.take.ensures.value
    ∙ c.in-Some.is) c.requires) c.in-Item.ensures.stepped.2

pub returns-in-Ended-clause-value : goal.returns-in-Ended-clause-value
returns-in-Ended-clause-value c =
    let begun : Begun c.in-Some.taken c.start_first.new.pass =
    record { own = c.start_first.ensures.own; giving = c.start_first.ensures.giving; starts = c.start_first.ensures.starts } in
    gives_end c.args.self.now.state c.in-Some.taken c.step_on.new.pass c.start_first.new.pass _ (sym c.take.ensures.value
    ∙ c.in-Some.is) c.step_on.ensures.own c.step_on.ensures.giving begun c.in-Ended.ensures.stepped.0 c.in-Ended.ensures.stepped.1
    (awaits_end c.in-Some.taken.wait c.in-Some.taken.who c.in-Some.taken.done c.in-Ended.v _ _ c.in-Ended.ensures.stepped.2)

pub returns-in-Spent-clause-value : goal.returns-in-Spent-clause-value
returns-in-Spent-clause-value c =
    let begun : Begun c.in-Some.taken c.start_first.new.pass =
    record { own = c.start_first.ensures.own; giving = c.start_first.ensures.giving; starts = c.start_first.ensures.starts } in
    gives_end c.args.self.now.state c.in-Some.taken c.step_on.new.pass c.start_first.new.pass _ (sym c.take.ensures.value
    ∙ c.in-Some.is) c.step_on.ensures.own c.step_on.ensures.giving begun c.in-Spent.ensures.stepped.0 c.in-Spent.ensures.stepped.1
    (awaits_spent c.in-Some.taken.wait c.in-Some.taken.who c.in-Some.taken.done _ _ _ c.in-Spent.ensures.stepped.2)

pub returns-in-Waits-clause-same : goal.returns-in-Waits-clause-same
returns-in-Waits-clause-same c =
    let begun : Begun c.in-Some.taken c.start_first.new.pass =
    record { own = c.start_first.ensures.own; giving = c.start_first.ensures.giving; starts = c.start_first.ensures.starts } in
    gives_still c.args.self.now.state c.in-Some.taken c.step_on.new.pass c.start_first.new.pass c.in-Waits.place (sym c.take.ensures.value
    ∙ c.in-Some.is) c.step_on.ensures.giving begun c.in-Waits.ensures.stepped

pub returns-in-Waits-clause-waits : goal.returns-in-Waits-clause-waits
returns-in-Waits-clause-waits c = record {
  before = c.in-Some.taken;
  after = _;
  was = sym c.take.ensures.value ∙ c.in-Some.is;
  is = refl;
  place = c.in-Waits.place;
  wait = refl;
  waits = c.in-Waits.ensures.stepped.1;
  by = c.in-Waits.ensures.stepped.2;
}
