use Rattle.std.proofs.Common.{sym, ◌∙◌, arith}
use Rattle.channel_model.specs.Histories.{replay}
use Rattle.channel_model.proofs.Alone.{recorded_legal, made_alone}
use Rattle.one_thread_floor.specs.Entries.{channel_entries}
use Rattle.one_thread_floor.specs.ListSteps.{state_in}
use Rattle.one_thread_floor.proofs.ListEntries.{recorded_at}
use Rattle.one_thread_floor.proofs.ListMay.{may_at, are_of, needs_of, told_needs}
use Rattle.channel_model.specs.declared.acts.Act.TheVariants.{Drain}
use Rattle.one_thread_floor.proofs.InOrder.{popped_all_in_order}
use Rattle.one_thread_floor.proofs.KeptPlaces.{popped_all_kept}
use Rattle.one_thread_floor.proofs.ListFirsts.{popped_holder, drain_at}
use Rattle.one_thread_floor.proofs.ListTold.{some_first_offer}
use Rattle.one_thread_floor.proofs.list_floor.ListFloor.step_drain.Goals as goal

pub may_drain-requires : goal.may_drain-requires
may_drain-requires c = are_of _ c.args.self.now.channels.items _ c.args.self.now.stands

pub returns-then-not-may_drain-clause-answer : goal.returns-then-not-may_drain-clause-answer
returns-then-not-may_drain-clause-answer c = c.if-not-may_drain.ensures c.args.who
    ∙ may_at _ c.args.self.now.channels.items _ c.args.who (Drain c.args.c c.args.place c.args.value) c.args.self.now.stands

pub returns-clause-answer : goal.returns-clause-answer
returns-clause-answer c = c.if-not-may_drain.ensures c.args.who
    ∙ may_at _ c.args.self.now.channels.items _ c.args.who (Drain c.args.c c.args.place c.args.value) c.args.self.now.stands

pub pop_offer-offer-requires : goal.pop_offer-offer-requires
pop_offer-offer-requires c = some_first_offer c.args.place c.args.value _ (needs_of _ (state_in (λ d p. 0) c.args.self.now.channels.items)
    c.args.who (Drain c.args.c c.args.place c.args.value) (sym (c.if-not-may_drain.ensures c.args.who))).2

pub resolve_holder-requires-clause-waits : goal.resolve_holder-requires-clause-waits
resolve_holder-requires-clause-waits c = popped_holder _ c.args.self.now.channels.items c.pop_offer-offer.new.channels.items
    (channel_entries c.args.self.now.entries) c.args.c c.pop_offer-offer.result _ c.args.self.now.stands
    c.pop_offer-offer.ensures.change.waits c.pop_offer-offer.ensures.first

pub resolve_holder-requires-clause-order : goal.resolve_holder-requires-clause-order
resolve_holder-requires-clause-order c = popped_all_in_order _ c.args.self.now.channels.items c.pop_offer-offer.new.channels.items
    (channel_entries c.args.self.now.entries) c.args.c c.pop_offer-offer.result _ c.args.self.now.legal c.args.self.now.stands
    c.pop_offer-offer.ensures.first c.pop_offer-offer.ensures.change

pub resolve_holder-requires-clause-kept : goal.resolve_holder-requires-clause-kept
resolve_holder-requires-clause-kept c = popped_all_kept c.args.self.now.channels.items c.pop_offer-offer.new.channels.items c.args.c
    c.pop_offer-offer.result _ c.pop_offer-offer.ensures.first c.pop_offer-offer.ensures.change c.args.self.now.kept

pub invariant_of-self-2 : goal.invariant_of-self-2
invariant_of-self-2 c =
    let xs = c.args.self.now.channels.items in
    let es = channel_entries c.args.self.now.entries in
    let at = c.args.self.now.stands in
    let o = c.pop_offer-offer.result in
    let p = c.pop_offer-offer.ensures in
    record {
      shaped = c.args.self.now.shaped;
      legal = recorded_legal _ es (channel_entries c.push.new.self) _ c.args.self.now.legal c.push.ensures
          (told_needs _ xs (replay es) c.args.who (Drain c.args.c c.args.place c.args.value) at (c.if-not-may_drain.ensures c.args.who));
      stands = recorded_at _ _ es (channel_entries c.push.new.self) _ c.push.ensures
          (drain_at _ xs c.pop_offer-offer.new.channels.items c.resolve_holder.new.channels.items es c.args.who c.args.c o _
          c.args.self.now.legal at p.first p.change c.resolve_holder.ensures.state);
      kept = c.resolve_holder.ensures.kept;
    }

pub returns-clause-made : goal.returns-clause-made
returns-clause-made c = made_alone _ c.args.who _ (channel_entries c.args.self.now.entries) (channel_entries c.push.new.self) _ _
    c.push.ensures (omega arith)
