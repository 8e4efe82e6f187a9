use Rattle.channel_model.proofs.Alone.{recorded_legal, made_alone}
use Rattle.one_thread_floor.specs.Entries.{channel_entries}
use Rattle.one_thread_floor.proofs.ListEntries.{recorded_at, joined_offer_needs, began, room_for_clause}
use Rattle.one_thread_floor.proofs.ListTold.{joined_late_offer_at, joined_late_kept}
use Rattle.one_thread_floor.proofs.list_floor.ListFloor.join_late_offer.Goals as goal

pub join_late-place-requires-clause-there : goal.join_late-place-requires-clause-there
join_late-place-requires-clause-there c = began c.args.who c.args.clause c.args.c _ c.requires.joins

pub join_late-place-requires-clause-few : goal.join_late-place-requires-clause-few
join_late-place-requires-clause-few c = room_for_clause _ c.args.self.now.channels.items (channel_entries c.args.self.now.entries)
    c.args.who c.args.clause c.args.c c.args.main c.args.self.now.legal c.args.self.now.stands c.requires.joins

pub invariant_of-self : goal.invariant_of-self
invariant_of-self c =
    let xs = c.args.self.now.channels.items in
    let es = channel_entries c.args.self.now.entries in
    let at = c.args.self.now.stands in
    let b = c.join_late-place.ensures in
    let p = c.join_late-place.result in
    record {
      shaped = c.args.self.now.shaped;
      legal = recorded_legal _ es (channel_entries c.push.new.self) _ c.args.self.now.legal c.push.ensures
          (joined_offer_needs _ xs es c.args.who c.args.clause c.args.c p c.args.value c.args.main at c.requires.channel c.requires.kind
          c.requires.is_open
          c.requires.left b.place c.requires.nobody c.requires.joins);
      stands = recorded_at _ c.join_late-place.new.channels.items es (channel_entries c.push.new.self) _ c.push.ensures
          (joined_late_offer_at _ xs c.join_late-place.new.channels.items es c.args.who c.args.clause c.args.c p c.args.value c.args.main at
          c.requires.late c.requires.joins b.change);
      kept = joined_late_kept c.args.clause c.args.c p c.args.main xs c.join_late-place.new.channels.items b.change c.args.self.now.kept;
    }

pub returns-clause-made : goal.returns-clause-made
returns-clause-made c = made_alone _ c.args.who _ (channel_entries c.args.self.now.entries) (channel_entries c.push.new.self) _ _
    c.push.ensures
    c.join_late-place.ensures.boxes
