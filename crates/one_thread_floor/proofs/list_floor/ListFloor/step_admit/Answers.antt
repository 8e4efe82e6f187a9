use Rattle.std.proofs.Common.{◌∙◌, subst, arith}
use Rattle.channel_model.specs.Histories.{replay}
use Rattle.channel_model.proofs.Alone.{recorded_legal, made_alone}
use Rattle.one_thread_floor.specs.Entries.{channel_entries}
use Rattle.one_thread_floor.proofs.ListEntries.{recorded_at}
use Rattle.one_thread_floor.proofs.ListMay.{may_at, are_of, told_needs}
use Rattle.channel_model.specs.declared.acts.Act.TheVariants.{Admit}
use Rattle.channel_model.specs.Effects.{after}
use Rattle.one_thread_floor.specs.ListStands.{IsAt, clauses_in}
use Rattle.one_thread_floor.proofs.InOrder.{all_in_order, becomes_in_order, freed_in_order}
use Rattle.one_thread_floor.proofs.KeptPlaces.{becomes_kept, freed_kept}
use Rattle.one_thread_floor.proofs.ListQueues.{admit_at, held_waits}
use Rattle.std.proofs.lemmas.Option.{slice_get_within}
use Rattle.one_thread_floor.proofs.list_floor.ListFloor.step_admit.Goals as goal

pub to_admit-requires-clause-of : goal.to_admit-requires-clause-of
to_admit-requires-clause-of c = are_of _ c.args.self.now.channels.items _ c.args.self.now.stands

pub to_admit-requires-clause-order : goal.to_admit-requires-clause-order
to_admit-requires-clause-order c = all_in_order _ c.args.self.now.channels.items (channel_entries c.args.self.now.entries)
    c.args.self.now.legal c.args.self.now.stands

pub returns-in_default-clause-answer : goal.returns-in_default-clause-answer
returns-in_default-clause-answer c = c.in_default.ensures.answer c.args.who
    ∙ may_at _ c.args.self.now.channels.items _ c.args.who (Admit c.args.c c.args.place) c.args.self.now.stands

pub returns-clause-answer : goal.returns-clause-answer
returns-clause-answer c = c.in-Some.ensures.answer c.args.who
    ∙ may_at _ c.args.self.now.channels.items _ c.args.who (Admit c.args.c c.args.place) c.args.self.now.stands

pub buffer_offer-requires : goal.buffer_offer-requires
buffer_offer-requires c = slice_get_within _ c.in-Some.found.index c.in-Some.found.offer c.in-Some.ensures.at

pub resolve_party-requires-clause-waits : goal.resolve_party-requires-clause-waits
resolve_party-requires-clause-waits c = held_waits _ c.args.self.now.channels.items c.buffer_offer.new.channels.items
    (channel_entries c.args.self.now.entries) c.args.c c.in-Some.found.index c.in-Some.found.offer c.in-Some.found.party
    c.args.self.now.stands c.buffer_offer.ensures.waits c.in-Some.ensures.at c.in-Some.ensures.held

pub resolve_party-requires-clause-order : goal.resolve_party-requires-clause-order
resolve_party-requires-clause-order c =
    let xs = c.args.self.now.channels.items in
    let order = all_in_order _ xs (channel_entries c.args.self.now.entries) c.args.self.now.legal c.args.self.now.stands in
    becomes_in_order c.args.c _ xs c.buffer_offer.new.channels.items c.buffer_offer.ensures order
    (freed_in_order c.in-Some.found.index c.in-Some.found.offer _ c.in-Some.ensures.at (order c.args.c))

pub resolve_party-requires-clause-kept : goal.resolve_party-requires-clause-kept
resolve_party-requires-clause-kept c =
    let xs = c.args.self.now.channels.items in
    becomes_kept c.args.c _ xs c.buffer_offer.new.channels.items c.buffer_offer.ensures c.args.self.now.kept
    (freed_kept (clauses_in xs) c.args.c c.in-Some.found.index c.in-Some.found.offer _ (c.args.self.now.kept c.args.c))

pub invariant_of-self-2 : goal.invariant_of-self-2
invariant_of-self-2 c =
    let xs = c.args.self.now.channels.items in
    let es = channel_entries c.args.self.now.entries in
    let at = c.args.self.now.stands in
    let ys = c.buffer_offer.new.channels.items in
    let zs = c.resolve_party.new.channels.items in
    record {
      shaped = c.args.self.now.shaped;
      legal = recorded_legal _ es (channel_entries c.push.new.self) _ c.args.self.now.legal c.push.ensures
          (told_needs _ xs (replay es) c.args.who (Admit c.args.c c.args.place) at (c.in-Some.ensures.answer c.args.who));
      stands = recorded_at _ _ es (channel_entries c.push.new.self) _ c.push.ensures
          (subst (λ q. IsAt c.args.self.now.kinds.items zs (after (replay es) c.args.who (Admit c.args.c q))) c.in-Some.ensures.place
          (admit_at _ xs ys zs es c.args.who c.args.c c.in-Some.found.index c.in-Some.found.offer c.in-Some.found.party
          c.args.self.now.legal at c.in-Some.ensures.at c.in-Some.ensures.held c.buffer_offer.ensures c.resolve_party.ensures.state));
      kept = c.resolve_party.ensures.kept;
    }

pub returns-clause-made : goal.returns-clause-made
returns-clause-made c = made_alone _ c.args.who _ (channel_entries c.args.self.now.entries) (channel_entries c.push.new.self) _ _
    c.push.ensures (omega arith)
