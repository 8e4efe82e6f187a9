use Rattle.std.proofs.Common.{◌≤◌, ◌+◌, false, arith}
use Rattle.channel_model.specs.Channels.{kind_at}
use Rattle.cell_words.specs.Hubs.{shape_of, seen_by}
use Rattle.cell_words.specs.Seen.{at_channel}
use Rattle.cell_words.proofs.LooksAtCells.{hub_legal, given_seen}
use Rattle.cell_words.proofs.OffersBefore.{spurns_as, room_before, too_many_told}
use Rattle.cell_words.proofs.counting.was_too_many.Goals as goal

pub returns-in-None-clause-too_many : goal.returns-in-None-clause-too_many
returns-in-None-clause-too_many c =
    let shape = shape_of c.args.hub.now in
    room_before shape (seen_by c.args.pass.now).seen (hub_legal c.args.hub.now c.args.pass.now c.requires.own.0) c.args.c c.args.mine
    c.requires.given
    (spurns_as c.kind_of.result (kind_at shape c.args.c) (λ n. false) c.kind_of.ensures c.in-None.ensures _)

pub returns-clause-too_many : goal.returns-clause-too_many
returns-clause-too_many c =
    let shape = shape_of c.args.hub.now in
    let u = seen_by c.args.pass.now in
    let v = seen_by c.count_latest.new.pass in
    let h = c.count_latest.ensures in
    let lu = hub_legal c.args.hub.now c.args.pass.now c.requires.own.0 in
    let lv = hub_legal c.args.hub.now c.count_latest.new.pass h.own.0 in
    let given : c.args.mine + 1 ≤ (at_channel u.seen c.args.c).next = omega (arith, c.requires.given) in
    let later : c.args.mine + 1 ≤ (at_channel v.seen c.args.c).next = given_seen shape (c.args.mine + 1) c.args.c u v h.sees lv given in
    too_many_told shape c.args.c c.args.mine _ u v h.sees lu lv (omega (arith, given)) (omega (arith, later))
    (spurns_as c.kind_of.result (kind_at shape c.args.c) _ c.kind_of.ensures c.in-Some.ensures) c.count_latest.result h.count

pub count_latest-requires-clause-given : goal.count_latest-requires-clause-given
count_latest-requires-clause-given c = omega (arith, c.requires.given)
