use Rattle.std.proofs.Common.{sym, ◌∙◌, subst}
use Rattle.cell_words.specs.declared.found.At.{At}
use Rattle.cell_words.specs.Hubs.{shape_of, seen_by}
use Rattle.cell_words.specs.Answers.{OfferHere}
use Rattle.cell_words.proofs.LooksAtCells.{hub_legal, used_offer, spent_offer, unused_free, below_seen}
use Rattle.cell_words.proofs.WalksCount.{found_here, full_then, full_holds, full_to_try, later_at}
use Rattle.cell_words.proofs.placing.offer_at.Goals as goal

pub returns-then-is_used-clause-at : goal.returns-then-is_used-clause-at
returns-then-is_used-clause-at c = let h = c.load_cell-word.ensures in
    subst (λ (z : At). OfferHere c.args.waits (shape_of c.args.hub.now) c.args.who c.args.c c.args.place c.args.value
    (seen_by c.args.pass.now) (seen_by c.load_cell-word.new.pass) z) (sym c.found_by_sender.ensures)
    (found_here c.args.waits (shape_of c.args.hub.now) c.args.who c.args.c c.args.place c.args.value c.load_cell-word.result
    c.load_cell-word.result.state (seen_by c.args.pass.now) (seen_by c.load_cell-word.new.pass)
    (used_offer c.args.hub.now c.load_cell-word.new.pass h.own.0 c.args.c c.args.place (seen_by c.args.pass.now) h.sees
    c.load_cell-word.result h.word c.requires.low (sym c.is_used.ensures ∙ c.if-is_used.true) c.args.who c.args.value))

pub returns-then-place-places_of-clause-at : goal.returns-then-place-places_of-clause-at
returns-then-place-places_of-clause-at c = let h = c.load_cell-word.ensures in
    spent_offer c.args.hub.now c.load_cell-word.new.pass h.own.0 c.args.c c.args.place (seen_by c.args.pass.now) h.sees
    c.load_cell-word.result h.word c.requires.low (sym c.is_used.ensures ∙ c.if-is_used.false) (c.if-place-places_of.true
    ∙ c.places_of.ensures)

pub has_room-requires-clause-given : goal.has_room-requires-clause-given
has_room-requires-clause-given c =
    let h = c.load_cell-word.ensures in
    (below_seen (shape_of c.args.hub.now) c.args.place 0 c.args.c (seen_by c.args.pass.now) (seen_by c.load_cell-word.new.pass) h.sees
    (hub_legal c.args.hub.now c.load_cell-word.new.pass h.own.0) c.requires.low).given

pub keep_at-requires-clause-low : goal.keep_at-requires-clause-low
keep_at-requires-clause-low c =
    let h = c.load_cell-word.ensures in
    let r = c.has_room.ensures in
    let shape = shape_of c.args.hub.now in
    below_seen shape c.args.place 0 c.args.c (seen_by c.load_cell-word.new.pass) (seen_by c.has_room.new.pass) r.sees
    (hub_legal c.args.hub.now c.has_room.new.pass r.own.0)
    (below_seen shape c.args.place 0 c.args.c (seen_by c.args.pass.now) (seen_by c.load_cell-word.new.pass) h.sees
    (hub_legal c.args.hub.now c.load_cell-word.new.pass h.own.0) c.requires.low)

pub hold_at-requires-clause-low : goal.hold_at-requires-clause-low
hold_at-requires-clause-low c =
    let h = c.load_cell-word.ensures in
    let r = c.has_room.ensures in
    let shape = shape_of c.args.hub.now in
    below_seen shape c.args.place 0 c.args.c (seen_by c.load_cell-word.new.pass) (seen_by c.has_room.new.pass) r.sees
    (hub_legal c.args.hub.now c.has_room.new.pass r.own.0)
    (below_seen shape c.args.place 0 c.args.c (seen_by c.args.pass.now) (seen_by c.load_cell-word.new.pass) h.sees
    (hub_legal c.args.hub.now c.load_cell-word.new.pass h.own.0) c.requires.low)

pub hold_at-requires-clause-kind : goal.hold_at-requires-clause-kind
hold_at-requires-clause-kind c = full_holds _ _ c.requires.kind (rw c.if-has_room.false at c.has_room.ensures.room)

pub returns-then-has_room-clause-at : goal.returns-then-has_room-clause-at
returns-then-has_room-clause-at c =
    later_at c.args.waits (shape_of c.args.hub.now) c.args.who c.args.c c.args.place c.args.value (seen_by c.args.pass.now)
    (seen_by c.load_cell-word.new.pass) (seen_by c.keep_at.new.pass) c.load_cell-word.ensures.sees (seen_by c.has_room.new.pass)
    c.has_room.ensures.sees c.keep_at.result (λ e. absurd (c.keep_at.ensures.not_held e)) c.keep_at.ensures.at

pub returns-then-waits-clause-at : goal.returns-then-waits-clause-at
returns-then-waits-clause-at c =
    let h = c.load_cell-word.ensures in
    let shape = shape_of c.args.hub.now in
    let u = seen_by c.args.pass.now in
    let v = seen_by c.load_cell-word.new.pass in
    let l = hub_legal c.args.hub.now c.load_cell-word.new.pass h.own.0 in
    later_at c.args.waits shape c.args.who c.args.c c.args.place c.args.value u v (seen_by c.hold_at.new.pass) h.sees
    (seen_by c.has_room.new.pass) c.has_room.ensures.sees c.hold_at.result
    (λ e. (
      c.if-waits.true,
      full_then shape c.args.c c.args.place c.load_cell-word.result v.seen l
          (below_seen shape c.args.place 0 c.args.c u v h.sees l c.requires.low) h.word
          (unused_free c.load_cell-word.result.state (sym c.is_used.ensures ∙ c.if-is_used.false))
          (rw c.if-has_room.false at c.has_room.ensures.room),
    ))
    c.hold_at.ensures.at

pub returns-else-waits-clause-at : goal.returns-else-waits-clause-at
returns-else-waits-clause-at c =
    let h = c.load_cell-word.ensures in
    let shape = shape_of c.args.hub.now in
    let u = seen_by c.args.pass.now in
    let v = seen_by c.load_cell-word.new.pass in
    let l = hub_legal c.args.hub.now c.load_cell-word.new.pass h.own.0 in (
      c.if-waits.false,
      record {
        then = v;
        sees = h.sees;
        later = c.has_room.ensures.sees;
        full = full_to_try shape c.args.c c.args.place c.load_cell-word.result v.seen l h.word
            (unused_free c.load_cell-word.result.state (sym c.is_used.ensures ∙ c.if-is_used.false)) c.requires.kind
            (below_seen shape c.args.place 0 c.args.c u v h.sees l c.requires.low) (rw c.if-has_room.false at c.has_room.ensures.room);
      },
    )
