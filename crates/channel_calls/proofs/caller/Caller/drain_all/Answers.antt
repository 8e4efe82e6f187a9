use Rattle.std.proofs.Common.{refl, ◌∙◌}
use Rattle.channel_calls.proofs.Repeated.{same_self, still_same, may_still, fewer_left, none_repeated, one_repeated}
use Rattle.channel_calls.proofs.ClosesTold.{drains_stopped, drain_of, voided_roomed, voided_made, drained_all}
use Rattle.channel_calls.proofs.caller.Caller.drain_all.Goals as goal
use Rattle.channel_calls.proofs.Roomed.{untouched, made_room}

pub loop-memory-init : goal.loop-memory-init
loop-memory-init g c = record {
  same = same_self _;
  each = none_repeated _ _;
  ever = c.requires.voided;
}

pub returns-in-Err-clause-same : goal.returns-in-Err-clause-same
returns-in-Err-clause-same g c = still_same _ _ _ c.loop-memory.invariant.same refl refl refl refl c.make_room.ensures.anchor

pub returns-in-Err-clause-answer : goal.returns-in-Err-clause-answer
returns-in-Err-clause-answer g c = drains_stopped _ c.loop-memory.invariant.each
    (untouched c.in-Err.ensures.same refl c.make_room.ensures.items)

pub drain-requires-clause-can : goal.drain-requires-clause-can
drain-requires-clause-can g c =
    let i = c.loop-memory.invariant in
    may_still _ _ _ _ _ _ _ i.same.who c.requires.can i.each.left.added.same c.in_default.ensures.floor

pub drain-requires-clause-voided : goal.drain-requires-clause-voided
drain-requires-clause-voided g c = voided_roomed _ _ (g.F.ChannelFloor.view c.loop-memory.self.floor.now) _ c.in_default.ensures.floor
    c.loop-memory.invariant.ever

pub returns-in_default-drain-clause-same : goal.returns-in_default-drain-clause-same
returns-in_default-drain-clause-same g c = still_same _ _ _ c.loop-memory.invariant.same refl refl refl refl (c.drain.ensures.anchor
    ∙ c.make_room.ensures.anchor)

pub returns-in_default-drain-clause-answer : goal.returns-in_default-drain-clause-answer
returns-in_default-drain-clause-answer g c =
    let i = c.loop-memory.invariant in
    drained_all (g.met.F.ChannelFloor.legal c.drain.new.self) i.each (made_room c.in_default.ensures.floor c.make_room.ensures.items)
    c.in_default-drain.ensures.answer.0 c.in_default-drain.ensures.answer.1 refl refl i.ever

pub loop-memory-smaller : goal.loop-memory-smaller
loop-memory-smaller g c =
    let i = c.loop-memory.invariant in
    fewer_left i.each.left.added.same (g.met.F.ChannelFloor.legal c.drain.new.self) c.in_default.ensures.floor c.in-Some.ensures.answer.made
    refl

pub loop-memory-preserved : goal.loop-memory-preserved
loop-memory-preserved g c =
    let i = c.loop-memory.invariant in
    record {
      same = still_same _ _ _ i.same refl refl refl refl (c.drain.ensures.anchor ∙ c.make_room.ensures.anchor);
      each = one_repeated (drain_of c.args.c) _ i.each (made_room c.in_default.ensures.floor c.make_room.ensures.items)
          c.in-Some.ensures.answer.made (λ s. tt) refl c.note.ensures.items;
      ever = voided_made _ _ _ _ _ _ _ (g.met.F.ChannelFloor.legal c.drain.new.self) c.in_default.ensures.floor
          c.in-Some.ensures.answer.made i.ever;
    }
