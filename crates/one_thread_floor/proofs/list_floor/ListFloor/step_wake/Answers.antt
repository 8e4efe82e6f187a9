use Rattle.std.specs.Prelude.{◌≡◌, true, false, is_some}
use Rattle.std.proofs.Common.{sym, ap, ◌∙◌, arith}
use Rattle.channel_model.specs.Histories.{replay}
use Rattle.channel_model.proofs.Alone.{recorded_legal, made_alone}
use Rattle.one_thread_floor.specs.Entries.{channel_entries}
use Rattle.one_thread_floor.specs.ListSteps.{state_in}
use Rattle.one_thread_floor.proofs.ListEntries.{recorded_at}
use Rattle.one_thread_floor.proofs.ListMay.{may_at, are_of, needs_of, told_needs}
use Rattle.channel_model.specs.declared.acts.Act.TheVariants.{WakeClosed}
use Rattle.one_thread_floor.proofs.InOrder.{all_in_order}
use Rattle.one_thread_floor.proofs.ListFirsts.{receiver_waits, wake_at}
use Rattle.one_thread_floor.proofs.list_floor.ListFloor.step_wake.Goals as goal

pub to_wake-requires : goal.to_wake-requires
to_wake-requires c = are_of _ c.args.self.now.channels.items _ c.args.self.now.stands

pub returns-in_default-clause-answer : goal.returns-in_default-clause-answer
returns-in_default-clause-answer c = c.in_default.ensures.answer c.args.who
    ∙ may_at _ c.args.self.now.channels.items _ c.args.who (WakeClosed c.args.c c.args.place) c.args.self.now.stands

pub returns-clause-answer : goal.returns-clause-answer
returns-clause-answer c = c.in-Some.ensures.answer c.args.who
    ∙ may_at _ c.args.self.now.channels.items _ c.args.who (WakeClosed c.args.c c.args.place) c.args.self.now.stands

pub resolve_first-requires-clause-first : goal.resolve_first-requires-clause-first
resolve_first-requires-clause-first c = c.in-Some.ensures.first

pub resolve_first-requires-clause-waits : goal.resolve_first-requires-clause-waits
resolve_first-requires-clause-waits c = receiver_waits _ c.args.self.now.channels.items _ c.args.c c.in-Some.first c.args.self.now.stands
    c.in-Some.ensures.first

pub resolve_first-requires-clause-order : goal.resolve_first-requires-clause-order
resolve_first-requires-clause-order c = all_in_order _ c.args.self.now.channels.items (channel_entries c.args.self.now.entries)
    c.args.self.now.legal c.args.self.now.stands

pub invariant_of-self-2 : goal.invariant_of-self-2
invariant_of-self-2 c =
    let xs = c.args.self.now.channels.items in
    let es = channel_entries c.args.self.now.entries in
    let at = c.args.self.now.stands in
    record {
      shaped = c.args.self.now.shaped;
      legal = recorded_legal _ es (channel_entries c.push.new.self) _ c.args.self.now.legal c.push.ensures
          (told_needs _ xs (replay es) c.args.who (WakeClosed c.args.c c.args.place) at (c.in-Some.ensures.answer c.args.who));
      stands = recorded_at _ _ es (channel_entries c.push.new.self) _ c.push.ensures
          (wake_at _ xs c.resolve_first.new.channels.items es c.args.who c.args.c c.in-Some-closed_with.value c.in-Some.first
          c.args.self.now.legal at
          c.in-Some-closed_with.ensures c.in-Some.ensures.first c.resolve_first.ensures.state);
      kept = c.resolve_first.ensures.kept;
    }

pub returns-clause-made : goal.returns-clause-made
returns-clause-made c = made_alone _ c.args.who _ (channel_entries c.args.self.now.entries) (channel_entries c.push.new.self) _ _
    c.push.ensures (omega arith)

pub returns-in_default-closed_with-clause-answer : goal.returns-in_default-closed_with-clause-answer
returns-in_default-closed_with-clause-answer c =
    let may = needs_of _ (state_in (λ d p. 0) c.args.self.now.channels.items) c.args.who (WakeClosed c.args.c c.args.place)
    (sym (c.in-Some.ensures.answer c.args.who)) in
    let both : false ≡ true = ap is_some c.in_default-closed_with.ensures ∙ may.1 in
    cc
