use Rattle.std.proofs.Common.{◌<◌, inl, ◌∙◌, arith}
use Rattle.channel_model.specs.Channels.{places_at}
use Rattle.channel_model.specs.Answers.{StandsWithRoom}
use Rattle.cell_words.specs.Hubs.{shape_of, seen_by}
use Rattle.cell_words.proofs.LooksAtCells.{hub_legal, sees_then}
use Rattle.cell_words.proofs.OffersBefore.{room_before, room_where_none, too_many_seen}
use Rattle.cell_calls.proofs.CallsTell.{made_of, seen_of}
use Rattle.cell_calls.proofs.KeepingTells.{nobody_waits, own_put_given, own_put_within, later_given, not_the_end}
use Rattle.cell_calls.proofs.keeping.spurn.Goals as goal
use Rattle.cell_words.proofs.WalksToAdmit.{sees_self}

pub returns-then-not-spurns_latest-clause-answer : goal.returns-then-not-spurns_latest-clause-answer
returns-then-not-spurns_latest-clause-answer c =
    let shape = shape_of c.args.hub.now in
    let u = seen_by c.args.pass.now in
    let l = hub_legal c.args.hub.now c.args.pass.now c.requires.of in
    seen_of c.args.hub.now c.args.who c.args.pass.now c.args.pass.now (StandsWithRoom shape c.args.c c.args.mine) c.requires.can.caller
    (sees_self u)
    (room_before shape u.seen l c.args.c c.args.mine (own_put_given shape c.args.who c.args.c c.args.mine u.seen l c.requires.own)
    (c.if-not-spurns_latest.ensures _))

pub was_too_many-requires-clause-at : goal.was_too_many-requires-clause-at
was_too_many-requires-clause-at c = (
  c.requires.can.channel,
  own_put_within (shape_of c.args.hub.now) c.args.who c.args.c c.args.mine (seen_by c.args.pass.now).seen
      (hub_legal c.args.hub.now c.args.pass.now c.requires.of) c.requires.own,
)

pub was_too_many-requires-clause-given : goal.was_too_many-requires-clause-given
was_too_many-requires-clause-given c =
    own_put_given (shape_of c.args.hub.now) c.args.who c.args.c c.args.mine (seen_by c.args.pass.now).seen
    (hub_legal c.args.hub.now c.args.pass.now c.requires.of) c.requires.own

pub returns-then-not-was_too_many-clause-answer : goal.returns-then-not-was_too_many-clause-answer
returns-then-not-was_too_many-clause-answer c =
    seen_of c.args.hub.now c.args.who c.args.pass.now c.was_too_many.new.pass
    (StandsWithRoom (shape_of c.args.hub.now) c.args.c c.args.mine) c.requires.can.caller c.was_too_many.ensures.sees
    c.if-not-was_too_many.ensures.too_many

pub sender_at-requires-clause-at : goal.sender_at-requires-clause-at
sender_at-requires-clause-at c =
    let shape = shape_of c.args.hub.now in
    let lt : c.args.mine < places_at shape c.args.c = own_put_within shape c.args.who c.args.c c.args.mine (seen_by c.args.pass.now).seen
    (hub_legal c.args.hub.now c.args.pass.now c.requires.of) c.requires.own in
    (c.requires.can.channel, omega arith)

pub sender_at-requires-clause-given : goal.sender_at-requires-clause-given
sender_at-requires-clause-given c =
    let g = later_given (shape_of c.args.hub.now) c.args.who c.args.c c.args.mine (seen_by c.args.pass.now)
    (seen_by c.was_too_many.new.pass) c.was_too_many.ensures.sees (hub_legal c.args.hub.now c.args.pass.now c.requires.of)
    (hub_legal c.args.hub.now c.was_too_many.new.pass c.was_too_many.ensures.own.0) c.requires.own in
    omega arith

pub spurn_kept-requires-clause-at : goal.spurn_kept-requires-clause-at
spurn_kept-requires-clause-at c =
    let shape = shape_of c.args.hub.now in
    let lt : c.args.mine < places_at shape c.args.c = own_put_within shape c.args.who c.args.c c.args.mine (seen_by c.args.pass.now).seen
    (hub_legal c.args.hub.now c.args.pass.now c.requires.of) c.requires.own in
    (c.requires.can.channel, omega arith)

pub spurn_kept-requires-clause-may : goal.spurn_kept-requires-clause-may
spurn_kept-requires-clause-may c =
    let shape = shape_of c.args.hub.now in
    let v = seen_by c.was_too_many.new.pass in
    let lv = hub_legal c.args.hub.now c.was_too_many.new.pass c.was_too_many.ensures.own.0 in
    too_many_seen shape c.args.c c.args.mine v (seen_by c.sender_at.new.pass) c.in-Kept.ensures.at.0 lv
    (hub_legal c.args.hub.now c.sender_at.new.pass c.sender_at.ensures.own.0)
    (later_given shape c.args.who c.args.c c.args.mine (seen_by c.args.pass.now) v c.was_too_many.ensures.sees
    (hub_legal c.args.hub.now c.args.pass.now c.requires.of) lv c.requires.own) c.if-not-was_too_many.ensures.too_many

pub spurn_kept-requires-clause-kept : goal.spurn_kept-requires-clause-kept
spurn_kept-requires-clause-kept c = inl c.in-Kept.ensures.at.1

pub returns-then-spurn_kept-clause-answer : goal.returns-then-spurn_kept-clause-answer
returns-then-spurn_kept-clause-answer c =
    made_of c.args.hub.now c.args.who c.args.pass.now c.spurn_kept.new.pass (seen_by c.sender_at.new.pass) _ c.requires.can.caller
    (sees_then _ _ _ c.was_too_many.ensures.sees c.in-Kept.ensures.at.0) c.if-spurn_kept.ensures.spurned

pub returns-then-spurn_kept-clause-giving : goal.returns-then-spurn_kept-clause-giving
returns-then-spurn_kept-clause-giving c = c.if-spurn_kept.ensures.spurned.giving ∙ c.in-Kept.ensures.at.0.giving
    ∙ c.was_too_many.ensures.sees.giving

pub returns-else-spurn_kept-clause-giving : goal.returns-else-spurn_kept-clause-giving
returns-else-spurn_kept-clause-giving c = c.if-spurn_kept.ensures.spurned.0.giving ∙ c.in-Kept.ensures.at.0.giving
    ∙ c.was_too_many.ensures.sees.giving

pub returns-else-spurn_kept-clause-answer : goal.returns-else-spurn_kept-clause-answer
returns-else-spurn_kept-clause-answer c =
    let shape = shape_of c.args.hub.now in
    let u = seen_by c.args.pass.now in
    let x = seen_by c.spurn_kept.new.pass in
    let un = c.if-spurn_kept.ensures.spurned in
    let s = sees_then _ _ _ c.was_too_many.ensures.sees (sees_then _ _ _ c.in-Kept.ensures.at.0 un.0) in
    let l = hub_legal c.args.hub.now c.spurn_kept.new.pass c.spurn_kept.ensures.own.0 in
    seen_of c.args.hub.now c.args.who c.args.pass.now c.spurn_kept.new.pass (StandsWithRoom shape c.args.c c.args.mine)
    c.requires.can.caller s
    (room_where_none shape x.seen l c.args.c c.args.mine (later_given shape c.args.who c.args.c c.args.mine u x s
    (hub_legal c.args.hub.now c.args.pass.now c.requires.of) l c.requires.own) un.1)

pub returns-in-Gone-clause-giving : goal.returns-in-Gone-clause-giving
returns-in-Gone-clause-giving c = c.in-Gone.ensures.at.0.giving ∙ c.was_too_many.ensures.sees.giving

pub returns-in-Gone-clause-answer : goal.returns-in-Gone-clause-answer
returns-in-Gone-clause-answer c =
    let shape = shape_of c.args.hub.now in
    let u = seen_by c.args.pass.now in
    let x = seen_by c.sender_at.new.pass in
    let t = c.in-Gone.ensures.at in
    let s = sees_then _ _ _ c.was_too_many.ensures.sees t.0 in
    let l = hub_legal c.args.hub.now c.sender_at.new.pass c.sender_at.ensures.own.0 in
    seen_of c.args.hub.now c.args.who c.args.pass.now c.sender_at.new.pass (StandsWithRoom shape c.args.c c.args.mine) c.requires.can.caller
    s
    (room_where_none shape x.seen l c.args.c c.args.mine (later_given shape c.args.who c.args.c c.args.mine u x s
    (hub_legal c.args.hub.now c.args.pass.now c.requires.of) l c.requires.own) t.2)

pub unreachable-requires : goal.unreachable-requires
unreachable-requires c = nobody_waits (shape_of c.args.hub.now) c.args.c c.args.mine c.in-Waiting.field-0
    (seen_by c.sender_at.new.pass).seen (hub_legal c.args.hub.now c.sender_at.new.pass c.sender_at.ensures.own.0)
    c.if-not-spurns_latest.ensures c.in-Waiting.ensures.at.1

pub unreachable-requires-in-Open : goal.unreachable-requires-in-Open
unreachable-requires-in-Open c =
    let t = c.in-Open.ensures.at in
    not_the_end (shape_of c.args.hub.now) c.args.who c.args.c c.args.mine (seen_by c.args.pass.now) (seen_by c.sender_at.new.pass)
    (sees_then _ _ _ c.was_too_many.ensures.sees t.0) (hub_legal c.args.hub.now c.args.pass.now c.requires.of)
    (hub_legal c.args.hub.now c.sender_at.new.pass c.sender_at.ensures.own.0) c.requires.own t.1

pub unreachable-requires-in-Closed : goal.unreachable-requires-in-Closed
unreachable-requires-in-Closed c =
    let t = c.in-Closed.ensures.at in
    not_the_end (shape_of c.args.hub.now) c.args.who c.args.c c.args.mine (seen_by c.args.pass.now) (seen_by c.sender_at.new.pass)
    (sees_then _ _ _ c.was_too_many.ensures.sees t.0) (hub_legal c.args.hub.now c.args.pass.now c.requires.of)
    (hub_legal c.args.hub.now c.sender_at.new.pass c.sender_at.ensures.own.0) c.requires.own t.1
