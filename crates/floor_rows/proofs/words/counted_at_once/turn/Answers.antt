use Rattle.std.proofs.Common.{sym, subst}
use Rattle.floor_rows.specs.CellsDrawn.{AllCame, Waited}
use Rattle.floor_rows.proofs.words.counted_at_once.turn.Goals as goal
use Rattle.floor_rows.proofs.words.counted_at_once.turn.Goals.{then-send_one, else-send_one}

-- the share stands behind the send as it did before it
still : (c : goal.After-deref-2)
    → Waited c.args.counted.now c.if-send_one.share.pass c.if-send_one.share.sends.items c.if-send_one.share.receives.items
still c =
    let s = c.send_one.ensures in
    let k : Waited c.args.counted.now c.send_one.new.pass c.send_one.new.waits.items c.args.share.now.receives.items =
    (s.of, s.came, subst (AllCame c.args.counted.now c.send_one.new.pass) c.deref.ensures.value s.others)
    in
    elim c.if-send_one.branch [ then-send_one w ↦ rw w.share-is k | else-send_one w ↦ rw w.share-is k ]

pub send_one-requires-clause-others : goal.send_one-requires-clause-others
send_one-requires-clause-others c = subst (AllCame c.args.counted.now c.args.share.now.pass) (sym c.deref.ensures.value) c.requires.2

pub receive_one-received-requires-clause-of : goal.receive_one-received-requires-clause-of
receive_one-received-requires-clause-of c = (still c).0

pub receive_one-received-requires-clause-came : goal.receive_one-received-requires-clause-came
receive_one-received-requires-clause-came c = (still c).2

pub receive_one-received-requires-clause-others : goal.receive_one-received-requires-clause-others
receive_one-received-requires-clause-others c =
    subst (AllCame c.args.counted.now c.if-send_one.share.pass) (sym c.deref-2.ensures.value) (still c).1

pub returns-in-Some : goal.returns-in-Some
returns-in-Some c =
    let r = c.receive_one-received.ensures in
    (r.of, subst (AllCame c.args.counted.now c.receive_one-received.new.pass) c.deref-2.ensures.value r.others, r.came)

pub returns-in_default : goal.returns-in_default
returns-in_default c =
    let r = c.receive_one-received.ensures in
    (r.of, subst (AllCame c.args.counted.now c.receive_one-received.new.pass) c.deref-2.ensures.value r.others, r.came)
