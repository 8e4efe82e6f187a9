use Rattle.std.proofs.Common.{sym, ◌∙◌}
use Rattle.channel_model.specs.Histories.{replay}
use Rattle.channel_model.proofs.Alone.{recorded_legal}
use Rattle.one_thread_floor.specs.Entries.{channel_entries}
use Rattle.one_thread_floor.specs.ListSteps.{state_in}
use Rattle.one_thread_floor.proofs.ListEntries.{recorded_at}
use Rattle.one_thread_floor.proofs.ListMay.{may_at, are_of, needs_of, told_needs}
use Rattle.channel_model.specs.declared.acts.Act.TheVariants.{Drop}
use Rattle.one_thread_floor.proofs.KeptPlaces.{popped_all_kept}
use Rattle.one_thread_floor.proofs.ListFirsts.{drop_at}
use Rattle.one_thread_floor.proofs.ListTold.{some_first_offer}
use Rattle.one_thread_floor.proofs.list_floor.ListFloor.step_drop.Goals as goal

pub may_drop-requires : goal.may_drop-requires
may_drop-requires c = are_of _ c.args.self.now.channels.items _ c.args.self.now.stands

pub returns-then-not-may_drop-clause-answer : goal.returns-then-not-may_drop-clause-answer
returns-then-not-may_drop-clause-answer c = c.if-not-may_drop.ensures c.args.who
    ∙ may_at _ c.args.self.now.channels.items _ c.args.who (Drop c.args.c c.args.place c.args.value) c.args.self.now.stands

pub returns-clause-answer : goal.returns-clause-answer
returns-clause-answer c = c.if-not-may_drop.ensures c.args.who
    ∙ may_at _ c.args.self.now.channels.items _ c.args.who (Drop c.args.c c.args.place c.args.value) c.args.self.now.stands

pub pop_offer-requires : goal.pop_offer-requires
pop_offer-requires c = some_first_offer c.args.place c.args.value _
    (needs_of _ (state_in (λ d p. 0) c.args.self.now.channels.items) c.args.who
    (Drop c.args.c c.args.place c.args.value) (sym (c.if-not-may_drop.ensures c.args.who))).2

pub invariant_of-self-2 : goal.invariant_of-self-2
invariant_of-self-2 c =
    let xs = c.args.self.now.channels.items in
    let es = channel_entries c.args.self.now.entries in
    let at = c.args.self.now.stands in
    let o = c.pop_offer.result in
    let p = c.pop_offer.ensures in
    record {
      shaped = c.args.self.now.shaped;
      legal = recorded_legal _ es (channel_entries c.push.new.self) _ c.args.self.now.legal c.push.ensures
          (told_needs _ xs (replay es) c.args.who (Drop c.args.c c.args.place c.args.value) at (c.if-not-may_drop.ensures c.args.who));
      stands = recorded_at _ _ es (channel_entries c.push.new.self) _ c.push.ensures
          (drop_at _ xs c.pop_offer.new.channels.items es c.args.who c.args.c o _ at p.first p.change);
      kept = popped_all_kept xs c.pop_offer.new.channels.items c.args.c o _ p.first p.change c.args.self.now.kept;
    }
