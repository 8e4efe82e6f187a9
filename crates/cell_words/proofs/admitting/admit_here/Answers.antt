use Rattle.cell_words.specs.Hubs.{shape_of, seen_by}
use Rattle.cell_words.proofs.LooksAtCells.{hub_legal, sees_then}
use Rattle.cell_words.proofs.OffersMayBeAdmitted.{room_seen}
use Rattle.cell_words.proofs.WalksToAdmit.{admits_seen, admitted_here, kept_here, offer_next}
use Rattle.cell_words.proofs.admitting.admit_here.Goals as goal

pub admit_at-requires-clause-room : goal.admit_at-requires-clause-room
admit_at-requires-clause-room c =
    let s = c.sender_at.ensures in
    room_seen (shape_of c.args.hub.now) c.args.c c.args.place (seen_by c.args.pass.now) (seen_by c.sender_at.new.pass)
    c.in-Waiting.ensures.at.0 (hub_legal c.args.hub.now c.args.pass.now c.requires.own.0)
    (hub_legal c.args.hub.now c.sender_at.new.pass s.own.0) c.requires.given c.requires.room

pub returns-in-Done-clause-here : goal.returns-in-Done-clause-here
returns-in-Done-clause-here c = admits_seen _ _ _ _ (seen_by c.args.pass.now) (seen_by c.sender_at.new.pass) (seen_by c.admit_at.new.pass)
    c.in-Waiting.ensures.at.0 c.in-Done.ensures.admitted

pub returns-in-Kept-admit_at-clause-here : goal.returns-in-Kept-admit_at-clause-here
returns-in-Kept-admit_at-clause-here c =
    let t = c.in-Kept-admit_at.ensures.admitted in (
      sees_then (seen_by c.args.pass.now) (seen_by c.sender_at.new.pass) (seen_by c.admit_at.new.pass) c.in-Waiting.ensures.at.0 t.0,
      admitted_here (shape_of c.args.hub.now) c.args.c c.args.place _ c.requires.kind (seen_by c.admit_at.new.pass).seen
          (hub_legal c.args.hub.now c.admit_at.new.pass c.admit_at.ensures.own.0) t.1,
    )

pub returns-in-Gone-admit_at-clause-here : goal.returns-in-Gone-admit_at-clause-here
returns-in-Gone-admit_at-clause-here c =
    let t = c.in-Gone-admit_at.ensures.admitted in
    let shape = shape_of c.args.hub.now in
    let v = seen_by c.sender_at.new.pass in
    let w = seen_by c.admit_at.new.pass in (
      sees_then (seen_by c.args.pass.now) v w c.in-Waiting.ensures.at.0 t.0,
      offer_next shape c.args.c c.args.place _ v w t.0 (hub_legal c.args.hub.now c.sender_at.new.pass c.sender_at.ensures.own.0)
          (hub_legal c.args.hub.now c.admit_at.new.pass c.admit_at.ensures.own.0) c.in-Waiting.ensures.at.1,
      t.1,
    )

pub returns-in-Kept-clause-here : goal.returns-in-Kept-clause-here
returns-in-Kept-clause-here c =
    let t = c.in-Kept.ensures.at in (
      t.0,
      kept_here (shape_of c.args.hub.now) c.args.c c.args.place _ c.requires.kind (seen_by c.sender_at.new.pass).seen
          (hub_legal c.args.hub.now c.sender_at.new.pass c.sender_at.ensures.own.0) t.1,
    )
