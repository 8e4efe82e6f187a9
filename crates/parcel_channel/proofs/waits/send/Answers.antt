use Rattle.std.proofs.Common.{ℕ, Bool, true, false, sym, subst}
use Rattle.channel_model.specs.Histories.{Legal}
use Rattle.channel_model.specs.Floors.{Floor}
use Rattle.parcel_channel.specs.declared.waits.Placed.{Placed}
use Rattle.cell_words.proofs.LooksAtCells.{hub_legal}
use Rattle.cell_calls.specs.HubFloors.{hub_floor}
use Rattle.parcel_channel.specs.Numbers.{HeldThen, at_once, by_now, Sends, placed_at}
use Rattle.parcel_channel.proofs.OwnWaits.{offer_plain}
use Rattle.parcel_channel.proofs.HeldInFull.{held_full}
use Rattle.parcel_channel.proofs.waits.send.Goals as goal

pub after_held-held-requires-clause-plain : goal.after_held-held-requires-clause-plain
after_held-held-requires-clause-plain c =
    let hub = c.args.hub.now in
    offer_plain c.args.who 0 c.in-Held.place c.args.value (hub_floor hub c.args.pass.now) (hub_floor hub c.offer.new.pass)
    (hub_legal hub c.offer.new.pass c.offer.ensures.own.0) c.in-Held.ensures.answer.0

pub returns-in-Handed-clause-answer : goal.returns-in-Handed-clause-answer
returns-in-Handed-clause-answer c = (c.in-Handed.field-0, c.in-Handed.ensures.answer)

pub returns-in-Put-clause-answer : goal.returns-in-Put-clause-answer
returns-in-Put-clause-answer c = at_once c.in-Put.field-0 c.in-Put.ensures.answer

held_sends : (who k place set : ℕ) (old new : Floor) (b : Bool) → Legal new.shape new.seen → HeldThen who k place set b old new
    → Sends who k old new (placed_at b place set)
held_sends who k place set old new true l h = by_now place set h
held_sends who k place set old new false l h = (h, held_full who k place set old new l h)

pub returns-in-Held-clause-answer : goal.returns-in-Held-clause-answer
returns-in-Held-clause-answer c =
    let hub = c.args.hub.now in
    let old = hub_floor hub c.args.pass.now in
    let new = hub_floor hub c.after_held-held.new.pass in
    let a = c.after_held-held.ensures.answer in
    subst (λ (r : Placed). Sends c.args.who c.args.value old new r) (sym c.held_at.ensures)
    (held_sends c.args.who c.args.value c.in-Held.place c.after_held-held.result.1 old new c.after_held-held.result.0
    (hub_legal hub c.after_held-held.new.pass c.after_held-held.ensures.own.0) (record {
      held = hub_floor hub c.offer.new.pass;
      admitted = a.0;
      offered = c.in-Held.ensures.answer;
      admits = a.1;
      own = a.2;
    }))
