use Rattle.std.proofs.Common.{◌∙◌, sym, subst, ap}
use Rattle.std.specs.Mem.Slots.{slots_items}
use Rattle.ring_channel.specs.Seen.{IsIdle, now_in}
use Rattle.ring_channel.specs.Passes.{values_until, left_in}
use Rattle.ring_channel.proofs.LeftInOrder.{at_end, whole_lap, head_few}
use Rattle.ring_channel.proofs.ring.Ring.into_rest.Goals as goal

pub move_rest-requires-clause-first : goal.move_rest-requires-clause-first
move_rest-requires-clause-first g c =
    let s = c.args.self in
    let n = s.table.shared.key in
    let m = c.args.main.seat in
    let is = c.requires.of.1 ∙ sym s.many in
    let e = at_end n m.id m.me.0 _ _ s.sized.pos c.requires.first c.requires.ended (subst (λ k. IsIdle k m.me.0) is c.args.main.idle)
    c.close_with-closed.ensures.values.2 in
    head_few n m.me.0 _ e.sound (e.head c.word-first.result c.word-first.ensures)

pub returns : goal.returns
returns g c =
    let s = c.args.self in
    let n = s.table.shared.key in
    let m = c.args.main.seat in
    let is = c.requires.of.1 ∙ sym s.many in
    let e = at_end n m.id m.me.0 _ _ s.sized.pos c.requires.first c.requires.ended (subst (λ k. IsIdle k m.me.0) is c.args.main.idle)
    c.close_with-closed.ensures.values.2 in
    let xs = slots_items c.close_with-closed.result.slots in
    record {
      rest = c.move_rest.ensures.rest
          ∙ (λ i. values_until (sym s.many i) xs (e.head c.word-first.result c.word-first.ensures i) (sym s.many i))
          ∙ whole_lap n (now_in n m.me.0) xs e.sound e.unheld e.rest
          ∙ ap (λ k. left_in (now_in k m.me.0)) s.many;
    }
