use Rattle.std.proofs.Common.{sym, ◌∙◌, subst}
use Rattle.cell_words.specs.Hubs.{shape_of, seen_by}
use Rattle.cell_words.specs.declared.found.At.{At}
use Rattle.cell_words.specs.Seen.{Seen}
use Rattle.cell_words.specs.Answers.{OfferAt}
use Rattle.cell_words.proofs.LooksAtCells.{hub_legal, sees_then, below_seen}
use Rattle.cell_words.proofs.OffersMayBeAdmitted.{room_seen}
use Rattle.cell_words.proofs.WalksCount.{offer_at_seen}
use Rattle.cell_words.proofs.RunsOfKeptPlaces.{run_seen, run_made, put_kept}
use Rattle.cell_words.proofs.placing.keep_at.Goals as goal

pub put_at-put-requires-clause-low : goal.put_at-put-requires-clause-low
put_at-put-requires-clause-low c =
    let u = seen_by c.args.pass.now in
    let v = seen_by c.run_up_to-run.new.pass in
    let w = seen_by c.receives_from-low.new.pass in
    below_seen (shape_of c.args.hub.now) c.args.place 0 c.args.c u w
    (sees_then u v w c.run_up_to-run.ensures.sees c.receives_from-low.ensures.sees)
    (hub_legal c.args.hub.now c.receives_from-low.new.pass c.receives_from-low.ensures.own.0) c.requires.low

pub put_at-put-requires-clause-room : goal.put_at-put-requires-clause-room
put_at-put-requires-clause-room c =
    let u = seen_by c.args.pass.now in
    let v = seen_by c.run_up_to-run.new.pass in
    let w = seen_by c.receives_from-low.new.pass in
    room_seen (shape_of c.args.hub.now) c.args.c c.args.place u w
    (sees_then u v w c.run_up_to-run.ensures.sees c.receives_from-low.ensures.sees)
    (hub_legal c.args.hub.now c.args.pass.now c.requires.own.0)
    (hub_legal c.args.hub.now c.receives_from-low.new.pass c.receives_from-low.ensures.own.0) c.requires.low.given c.requires.room

pub say_kept-requires-clause-run : goal.say_kept-requires-clause-run
say_kept-requires-clause-run c e =
    let shape = shape_of c.args.hub.now in
    let v = seen_by c.run_up_to-run.new.pass in
    let w = seen_by c.receives_from-low.new.pass in
    let x = seen_by c.put_at-put.new.pass in
    let made = subst (λ (z : At). OfferAt shape c.args.who c.args.c c.args.place c.args.value w x z) e c.put_at-put.ensures.at in
    run_made shape c.args.c _ _ _ w x made (hub_legal c.args.hub.now c.put_at-put.new.pass c.put_at-put.ensures.own.0)
    (run_seen shape c.args.c _ _ v w c.receives_from-low.ensures.sees
    (hub_legal c.args.hub.now c.receives_from-low.new.pass c.receives_from-low.ensures.own.0) c.run_up_to-run.ensures.kept)

pub say_kept-requires-clause-kept : goal.say_kept-requires-clause-kept
say_kept-requires-clause-kept c e =
    let shape = shape_of c.args.hub.now in
    let w = seen_by c.receives_from-low.new.pass in
    let x = seen_by c.put_at-put.new.pass in
    put_kept c.args.who c.args.c c.args.place c.args.value w x
    (subst (λ (z : At). OfferAt shape c.args.who c.args.c c.args.place c.args.value w x z) e c.put_at-put.ensures.at)

pub returns-clause-at : goal.returns-clause-at
returns-clause-at c =
    let shape = shape_of c.args.hub.now in
    let u = seen_by c.args.pass.now in
    let v = seen_by c.run_up_to-run.new.pass in
    let w = seen_by c.receives_from-low.new.pass in
    let x = seen_by c.put_at-put.new.pass in
    subst (λ (z : Seen). OfferAt shape c.args.who c.args.c c.args.place c.args.value u z c.put_at-put.result) (sym c.say_kept.ensures.same)
    (offer_at_seen shape c.args.who c.args.c c.args.place c.args.value u w x
    (sees_then u v w c.run_up_to-run.ensures.sees c.receives_from-low.ensures.sees) c.put_at-put.result c.put_at-put.ensures.at)

pub latest_at-requires-clause-kind : goal.latest_at-requires-clause-kind
latest_at-requires-clause-kind c = sym c.kind_of.ensures ∙ c.in-DropLatest.is
