use Rattle.std.proofs.Common.{refl, ◌∙◌}
use Rattle.channel_model.specs.declared.acts.Act.TheVariants.{WakeClosed}
use Rattle.channel_calls.proofs.Repeated.{same_self, still_same, may_still, fewer_left, none_repeated, one_repeated}
use Rattle.channel_calls.proofs.ClosesTold.{wakes_stopped, closed_roomed, closed_made, woken_all}
use Rattle.channel_calls.proofs.caller.Caller.wake_all.Goals as goal
use Rattle.channel_calls.proofs.Roomed.{untouched, made_room}

pub loop-memory-init : goal.loop-memory-init
loop-memory-init g c = record {
  same = same_self _;
  each = none_repeated _ _;
  ever = c.requires.closed;
}

pub returns-in-Err-clause-same : goal.returns-in-Err-clause-same
returns-in-Err-clause-same g c = still_same _ _ _ c.loop-memory.invariant.same refl refl refl refl c.make_room.ensures.anchor

pub returns-in-Err-clause-answer : goal.returns-in-Err-clause-answer
returns-in-Err-clause-answer g c = wakes_stopped _ c.loop-memory.invariant.each
    (untouched c.in-Err.ensures.same refl c.make_room.ensures.items)

pub wake_closed-requires-clause-can : goal.wake_closed-requires-clause-can
wake_closed-requires-clause-can g c =
    let i = c.loop-memory.invariant in
    may_still _ _ _ _ _ _ _ i.same.who c.requires.can i.each.left.added.same c.in_default.ensures.floor

pub wake_closed-requires-clause-closed : goal.wake_closed-requires-clause-closed
wake_closed-requires-clause-closed g c = closed_roomed _ _ (g.F.ChannelFloor.view c.loop-memory.self.floor.now) _ c.in_default.ensures.floor
    c.loop-memory.invariant.ever

pub returns-in_default-wake_closed-clause-same : goal.returns-in_default-wake_closed-clause-same
returns-in_default-wake_closed-clause-same g c = still_same _ _ _ c.loop-memory.invariant.same refl refl refl refl
    (c.wake_closed.ensures.anchor ∙ c.make_room.ensures.anchor)

pub returns-in_default-wake_closed-clause-answer : goal.returns-in_default-wake_closed-clause-answer
returns-in_default-wake_closed-clause-answer g c =
    let i = c.loop-memory.invariant in
    woken_all i.each (made_room c.in_default.ensures.floor c.make_room.ensures.items)
    c.in_default-wake_closed.ensures.answer.0 c.in_default-wake_closed.ensures.answer.1 refl refl

pub loop-memory-smaller : goal.loop-memory-smaller
loop-memory-smaller g c =
    let i = c.loop-memory.invariant in
    fewer_left i.each.left.added.same (g.met.F.ChannelFloor.legal c.wake_closed.new.self) c.in_default.ensures.floor
    c.in-Some.ensures.answer.made refl

pub loop-memory-preserved : goal.loop-memory-preserved
loop-memory-preserved g c =
    let i = c.loop-memory.invariant in
    record {
      same = still_same _ _ _ i.same refl refl refl refl (c.wake_closed.ensures.anchor ∙ c.make_room.ensures.anchor);
      each = one_repeated (λ q. WakeClosed c.args.c q) _ i.each (made_room c.in_default.ensures.floor c.make_room.ensures.items)
          c.in-Some.ensures.answer.made (λ s. tt) refl c.note.ensures.items;
      ever = closed_made _ _ _ _ _ _ _ (g.met.F.ChannelFloor.legal c.wake_closed.new.self) c.in_default.ensures.floor
          c.in-Some.ensures.answer.made i.ever;
    }
