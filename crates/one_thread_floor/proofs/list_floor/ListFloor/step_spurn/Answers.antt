use Rattle.std.specs.Prelude.{◌≡◌, ◌<◌, length, true, false}
use Rattle.std.proofs.Common.{arith, sym, ap, ◌∙◌}
use Rattle.channel_model.specs.Channels.{Channel}
use Rattle.channel_model.specs.Histories.{replay}
use Rattle.channel_model.proofs.Alone.{recorded_legal, made_alone}
use Rattle.one_thread_floor.specs.Entries.{channel_entries}
use Rattle.one_thread_floor.proofs.ListEntries.{recorded_at}
use Rattle.one_thread_floor.proofs.ListMay.{needs_of, less_told, one_more}
use Rattle.channel_model.specs.declared.acts.Act.TheVariants.{Spurn}
use Rattle.channel_model.specs.Steps.{is_offer_at, may_come}
use Rattle.one_thread_floor.proofs.ListSpurns.{spurn_at, spurn_kept}
use Rattle.one_thread_floor.proofs.InOrder.{all_in_order}
use Rattle.one_thread_floor.proofs.list_floor.ListFloor.step_spurn.Goals as goal

pub index_of-requires-clause-order : goal.index_of-requires-clause-order
index_of-requires-clause-order c = all_in_order _ c.args.self.now.channels.items (channel_entries c.args.self.now.entries)
    c.args.self.now.legal c.args.self.now.stands

pub invariant_of-self : goal.invariant_of-self
invariant_of-self c =
    let xs = c.args.self.now.channels.items in
    let es = channel_entries c.args.self.now.entries in
    let at = c.args.self.now.stands in
    let l = c.args.self.now.legal in
    let behind = c.in-Some.ensures.at in
    let change = c.remove_offer.ensures.change in
    let o = c.remove_offer.result in
    let ys = c.remove_offer.new.channels.items in
    let lt : c.args.c < length c.args.self.now.kinds.items =
    omega (arith, c.args.self.now.kinds.ok.0, c.len.ensures, c.if-len-c.false) in
    let over : c.args.over ≡ true = (let k = c.if-not-over.false in cc) in
    let may : may_come c.args.self.now.kinds.items (replay es) c.args.who (Spurn c.args.c c.args.place c.args.value) ≡ true =
    sym (c.in-Some.ensures.answer
    ∙ ap (λ (ch : Channel). is_offer_at c.args.place c.args.value ch.queue) (sym (at.channels_are c.args.c))
    ∙ one_more _ _ (sym c.requires.over ∙ over) ∙ one_more _ _ (less_told _ _ lt)) in
    record {
      shaped = c.args.self.now.shaped;
      legal = recorded_legal _ es (channel_entries c.push.new.self) _ l c.push.ensures
          (needs_of _ (replay es) c.args.who (Spurn c.args.c c.args.place c.args.value) may);
      stands = recorded_at _ ys es (channel_entries c.push.new.self) _ c.push.ensures
          (spurn_at _ xs ys es c.args.who c.args.c c.args.place 0 c.in-Some.index c.args.value o l at behind change);
      kept = spurn_kept _ xs ys es c.args.c c.args.place 0 c.in-Some.index o l at behind change c.args.self.now.kept;
    }

pub returns-clause-made : goal.returns-clause-made
returns-clause-made c = made_alone _ c.args.who _ (channel_entries c.args.self.now.entries) (channel_entries c.push.new.self) _ _
    c.push.ensures (omega arith)
