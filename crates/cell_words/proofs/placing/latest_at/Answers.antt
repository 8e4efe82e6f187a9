use Rattle.std.proofs.Common.{◌≤◌, ◌<◌, Bool, MatchBool, length, sym, ap, subst}
use Rattle.channel_model.specs.declared.acts.Kind.{Kind}
use Rattle.channel_model.specs.Channels.{is_full, spurns}
use Rattle.cell_words.specs.declared.found.At.{At}
use Rattle.word_rules.specs.Cells.{gather}
use Rattle.cell_words.specs.Hubs.{shape_of, seen_by}
use Rattle.cell_words.specs.Seen.{Seen}
use Rattle.cell_words.specs.Answers.{stands, OfferAt}
use Rattle.cell_words.proofs.LooksAtCells.{hub_legal, below_seen}
use Rattle.cell_words.proofs.WalksCount.{offer_at_seen}
use Rattle.cell_words.proofs.ElementsWithRoom.{put_kept}
use Rattle.cell_words.proofs.placing.latest_at.Goals as goal

pub count_latest-full-requires-clause-given : goal.count_latest-full-requires-clause-given
count_latest-full-requires-clause-given c = c.requires.low.given

pub put_at-put-requires-clause-low : goal.put_at-put-requires-clause-low
put_at-put-requires-clause-low c =
    below_seen (shape_of c.args.hub.now) c.args.place 0 c.args.c (seen_by c.args.pass.now) (seen_by c.count_latest-full.new.pass)
    c.count_latest-full.ensures.sees
    (hub_legal c.args.hub.now c.count_latest-full.new.pass c.count_latest-full.ensures.own.0) c.requires.low

pub put_at-put-requires-clause-room : goal.put_at-put-requires-clause-room
put_at-put-requires-clause-room c =
    ap (λ (k : Kind). is_full k (length (gather (stands (seen_by c.count_latest-full.new.pass).seen c.args.c) c.args.place)))
    c.requires.kind

pub mark_put-requires-clause-kept : goal.mark_put-requires-clause-kept
mark_put-requires-clause-kept c f e =
    let shape = shape_of c.args.hub.now in
    let u = seen_by c.args.pass.now in
    let w = seen_by c.count_latest-full.new.pass in
    let y = seen_by c.put_at-put.new.pass in
    let made = subst (λ (z : At). OfferAt shape c.args.who c.args.c c.args.place c.args.value w y z) e c.put_at-put.ensures.at in
    let lw = hub_legal c.args.hub.now c.count_latest-full.new.pass c.count_latest-full.ensures.own.0 in
    let low = below_seen shape c.args.place 0 c.args.c u w c.count_latest-full.ensures.sees lw c.requires.low in
    put_kept shape c.args.who c.args.c c.args.place c.args.value c.args.most w y made lw
    (hub_legal c.args.hub.now c.put_at-put.new.pass c.put_at-put.ensures.own.0) low.given
    (λ n. ap (λ (k : Kind). spurns k n) c.requires.kind)
    (subst (λ (b : Bool). MatchBool b (c.args.most ≤ length (gather (stands u.seen c.args.c) c.args.place))
    (length (gather (stands w.seen c.args.c) c.args.place) < c.args.most)) f c.count_latest-full.ensures.count)

pub returns-clause-at : goal.returns-clause-at
returns-clause-at c =
    let shape = shape_of c.args.hub.now in
    let u = seen_by c.args.pass.now in
    let w = seen_by c.count_latest-full.new.pass in
    subst (λ (z : Seen). OfferAt shape c.args.who c.args.c c.args.place c.args.value u z c.put_at-put.result) (sym c.mark_put.ensures.same)
    (offer_at_seen shape c.args.who c.args.c c.args.place c.args.value u w (seen_by c.put_at-put.new.pass)
    c.count_latest-full.ensures.sees c.put_at-put.result c.put_at-put.ensures.at)
