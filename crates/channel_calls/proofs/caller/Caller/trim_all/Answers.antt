use Rattle.std.proofs.Common.{refl, ◌∙◌}
use Rattle.channel_calls.proofs.Repeated.{same_self, still_same, may_still, fewer_left, none_repeated, one_repeated}
use Rattle.channel_calls.proofs.DropsTold.{drops_stopped, drop_of, still_follow, put_still, dropped_all}
use Rattle.channel_calls.proofs.caller.Caller.trim_all.Goals as goal
use Rattle.channel_calls.proofs.Roomed.{untouched, made_room}

pub loop-memory-init : goal.loop-memory-init
loop-memory-init g c = record {
  same = same_self _;
  each = none_repeated _ _;
  follow = refl;
}

pub returns-in-Err-clause-same : goal.returns-in-Err-clause-same
returns-in-Err-clause-same g c = still_same _ _ _ c.loop-memory.invariant.same refl refl refl refl c.make_room.ensures.anchor

pub returns-in-Err-clause-answer : goal.returns-in-Err-clause-answer
returns-in-Err-clause-answer g c =
    drops_stopped _ c.loop-memory.invariant.each c.loop-memory.invariant.follow
    (untouched c.in-Err.ensures.same refl c.make_room.ensures.items)

pub trim-requires-clause-can : goal.trim-requires-clause-can
trim-requires-clause-can g c =
    let i = c.loop-memory.invariant in
    may_still _ _ _ _ _ _ _ i.same.who c.requires.can i.each.left.added.same c.in_default.ensures.floor

pub trim-requires-clause-own : goal.trim-requires-clause-own
trim-requires-clause-own g c = let i = c.loop-memory.invariant
    in put_still _ _ i.each (made_room c.in_default.ensures.floor c.make_room.ensures.items) c.requires.own

pub returns-in_default-trim-clause-same : goal.returns-in_default-trim-clause-same
returns-in_default-trim-clause-same g c = still_same _ _ _ c.loop-memory.invariant.same refl refl refl refl (c.trim.ensures.anchor
    ∙ c.make_room.ensures.anchor)

pub returns-in_default-trim-clause-answer : goal.returns-in_default-trim-clause-answer
returns-in_default-trim-clause-answer g c =
    let i = c.loop-memory.invariant in
    dropped_all i.each (made_room c.in_default.ensures.floor c.make_room.ensures.items)
    c.in_default-trim.ensures.answer.0 c.in_default-trim.ensures.answer.1 refl refl i.follow

pub loop-memory-smaller : goal.loop-memory-smaller
loop-memory-smaller g c =
    let i = c.loop-memory.invariant in
    fewer_left i.each.left.added.same (g.met.F.ChannelFloor.legal c.trim.new.self) c.in_default.ensures.floor c.in-Some.ensures.answer.0
    refl

pub loop-memory-preserved : goal.loop-memory-preserved
unfolding one_repeated
loop-memory-preserved g c =
    let i = c.loop-memory.invariant in
    record {
      same = still_same _ _ _ i.same refl refl refl refl (c.trim.ensures.anchor ∙ c.make_room.ensures.anchor);
      each = one_repeated (drop_of c.args.c) _ i.each (made_room c.in_default.ensures.floor c.make_room.ensures.items)
          c.in-Some.ensures.answer.0 (λ s. tt) refl c.note.ensures.items;
      follow = still_follow c.args.c c.args.place _ i.each (g.met.F.ChannelFloor.legal c.trim.new.self)
          (made_room c.in_default.ensures.floor c.make_room.ensures.items) c.in-Some.ensures.answer.0 c.in-Some.ensures.answer.1 i.follow;
    }
