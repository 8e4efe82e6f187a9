use Rattle.std.specs.Prelude.{true, refl}
use Rattle.std.proofs.Common.{arith, sym, ◌∙◌}
use Rattle.channel_model.specs.Channels.{Channel}
use Rattle.channel_model.specs.Histories.{replay}
use Rattle.channel_model.proofs.Alone.{recorded_legal}
use Rattle.one_thread_floor.specs.Entries.{channel_entries}
use Rattle.one_thread_floor.specs.ListStands.{clauses_in}
use Rattle.one_thread_floor.specs.ListSteps.{state_in}
use Rattle.one_thread_floor.proofs.ListEntries.{recorded_at, changed_at}
use Rattle.one_thread_floor.proofs.ListMay.{may_at, are_of, needs_of, told_needs}
use Rattle.channel_model.specs.declared.acts.Act.TheVariants.{Void}
use Rattle.one_thread_floor.proofs.KeptPlaces.{becomes_kept, voided_kept}
use Rattle.one_thread_floor.proofs.OneChannel.{changed_in}
use Rattle.one_thread_floor.proofs.list_floor.ListFloor.step_void.Goals as goal

pub may_void-requires : goal.may_void-requires
may_void-requires c = are_of _ c.args.self.now.channels.items _ c.args.self.now.stands

pub returns-then-not-may_void-clause-answer : goal.returns-then-not-may_void-clause-answer
returns-then-not-may_void-clause-answer c = c.if-not-may_void.ensures c.args.who
    ∙ may_at _ c.args.self.now.channels.items _ c.args.who (Void c.args.c) c.args.self.now.stands

pub returns-clause-answer : goal.returns-clause-answer
returns-clause-answer c = c.if-not-may_void.ensures c.args.who
    ∙ may_at _ c.args.self.now.channels.items _ c.args.who (Void c.args.c) c.args.self.now.stands

pub invariant_of-self-2 : goal.invariant_of-self-2
invariant_of-self-2 c =
    let xs = c.args.self.now.channels.items in
    let es = channel_entries c.args.self.now.entries in
    let at = c.args.self.now.stands in
    let may = (told_needs _ xs (replay es) c.args.who (Void c.args.c) at (c.if-not-may_void.ensures c.args.who)) in
    let b = changed_in xs c.args.c c.index_mut.result.now _ (λ (ch : Channel). record ch { voided = true })
    (omega (arith, at.count, may.0)) c.index_mut.ensures.value refl (record { slots = refl; places = refl }) in
    record {
      shaped = c.args.self.now.shaped;
      legal = recorded_legal _ es (channel_entries c.push.new.self) _ c.args.self.now.legal c.push.ensures
          may;
      stands = recorded_at _ _ es (channel_entries c.push.new.self) _ c.push.ensures
          (changed_at _ xs _ _ c.args.c (λ (ch : Channel). record ch { voided = true }) at b);
      kept = becomes_kept c.args.c _ xs _ b c.args.self.now.kept
          (voided_kept (clauses_in xs) c.args.c _ (c.args.self.now.kept c.args.c));
    }

pub index_mut-requires : goal.index_mut-requires
index_mut-requires c =
    let may = needs_of _ (state_in (λ d p. 0) c.args.self.now.channels.items) c.args.who (Void c.args.c)
    (sym (c.if-not-may_void.ensures c.args.who)) in
    omega (arith, c.args.self.now.stands.count, may.0)
