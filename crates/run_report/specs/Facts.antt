-- What the acts say of one place, and of the wait that is named by it.
use Rattle.std.specs.Prelude.{ℕ, true, false, ◌||◌, List, Option, Some, None, if◌then◌else◌}
use Rattle.std.specs.List.{list_any}
use Rattle.std.specs.Option.{option_or}
use Rattle.channel_model.specs.declared.acts.Act.{Act}
use Rattle.channel_model.specs.declared.acts.ChannelNote.TheVariants as note
use Rattle.channel_model.specs.declared.acts.Act.TheVariants.{Hand, Put, Offer, Await, Take, Admit, Drop, Spurn, Close, Void, Drain, WakeClosed, Withdraw, Settle}
use Rattle.co_base.specs.declared.names.WaitId.{WaitId}
use Rattle.channel_model.specs.Fates.{is_at, first_some, element_at, wait_at, offers_at, hands, takes, admits, drops_at, spurns_at, drains, withdraws, is_value, is_undelivered, settles_value, settles_undelivered}
use Rattle.note_book.specs.declared.book.Item.{Item}
use Rattle.note_book.specs.declared.book.Item.TheVariants as item
use Rattle.run_report.specs.declared.facts.Facts.{Facts}

-- what no act says anything of
abbrev pub nothing : Facts
nothing = record {
  element = None;
  wait = None;
  clause = None;
  handed = false;
  taken = false;
  admitted = false;
  dropped = false;
  spurned = false;
  drained = false;
  received = false;
  gave_up = false;
  withdrawn = false;
}

-- what all these acts say of a place, and of the wait that is named by it
abbrev pub facts_of : ℕ → ℕ → List Act → Facts
facts_of c p acts =
    let w : WaitId = record { channel = c; place = p } in
    record {
      element = element_at c p acts;
      wait = wait_at c p acts;
      clause = first_some (offers_at c p) acts;
      handed = list_any (hands c p) acts;
      taken = list_any (takes c p) acts;
      admitted = list_any (admits c p) acts;
      dropped = list_any (drops_at c p) acts;
      spurned = list_any (spurns_at c p) acts;
      drained = list_any (drains c p) acts;
      received = list_any (settles_value w) acts;
      gave_up = list_any (settles_undelivered w) acts;
      withdrawn = list_any (withdraws w) acts;
    }

-- what the one says and then the other
abbrev pub joined : Facts → Facts → Facts
joined x y = record {
  element = option_or x.element y.element;
  wait = option_or x.wait y.wait;
  clause = option_or x.clause y.clause;
  handed = x.handed || y.handed;
  taken = x.taken || y.taken;
  admitted = x.admitted || y.admitted;
  dropped = x.dropped || y.dropped;
  spurned = x.spurned || y.spurned;
  drained = x.drained || y.drained;
  received = x.received || y.received;
  gave_up = x.gave_up || y.gave_up;
  withdrawn = x.withdrawn || y.withdrawn;
}

-- what an act says of the place that it names
abbrev pub at_place : ℕ → ℕ → Facts → Option (WaitId × Facts)
at_place c p facts = Some (record { channel = c; place = p }, facts)

-- the place or the wait of which the act says something, and what it says
abbrev pub told : Act → Option (WaitId × Facts)
told (Hand c p v) = at_place c p (record nothing { element = Some v; handed = true })
told (Put c p v) = at_place c p (record nothing { element = Some v })
told (Offer c p v w k) = at_place c p (record nothing { element = Some v; wait = Some w; clause = Some k })
told (Await c p w k) = at_place c p (record nothing { wait = Some w })
told (Take c p v) = at_place c p (record nothing { taken = true })
told (Admit c p) = at_place c p (record nothing { admitted = true })
told (Drop c p v) = at_place c p (record nothing { dropped = true })
told (Spurn c p v) = at_place c p (record nothing { spurned = true })
told (Close c v) = None
told (Void c) = None
told (Drain c p v) = at_place c p (record nothing { drained = true })
told (WakeClosed c p) = None
told (Withdraw w why) = Some (w, record nothing { withdrawn = true })
told (Settle w outcome) = Some (w, record nothing { received = is_value outcome; gave_up = is_undelivered outcome })

-- the same of the act that an item notes
abbrev pub told_by : Item → Option (WaitId × Facts)
told_by (item.Channel (note.Made act)) = told act
told_by other = None

-- what was told, where it is of this place
abbrev pub told_at : ℕ → ℕ → Option (WaitId × Facts) → Facts
told_at c p None = nothing
told_at c p (Some x) = if is_at c p x.0.channel x.0.place then x.1 else nothing
