use Rattle.cell_words.specs.Hubs.{shape_of, seen_by}
use Rattle.cell_words.proofs.LooksAtCells.{hub_legal, below_seen, sees_then}
use Rattle.cell_calls.proofs.WalksTell.{receives_later, stands_sees}
use Rattle.cell_calls.proofs.sending.give.Goals as goal

pub hand-requires-clause-low : goal.hand-requires-clause-low
hand-requires-clause-low c =
    let s = sees_then (seen_by c.args.pass.now) (seen_by c.receiver_stands.new.pass) (seen_by c.find_closed.new.pass)
    (stands_sees c.args.c c.args.place _ _ _ c.receiver_stands.ensures.stands) c.find_closed.ensures.sees in
    below_seen (shape_of c.args.hub.now) c.args.place 0 c.args.c (seen_by c.args.pass.now) (seen_by c.find_closed.new.pass) s
    (hub_legal c.args.hub.now c.find_closed.new.pass c.find_closed.ensures.own.0) c.requires.low

pub hand-requires-clause-first : goal.hand-requires-clause-first
hand-requires-clause-first c =
    let s = sees_then (seen_by c.args.pass.now) (seen_by c.receiver_stands.new.pass) (seen_by c.find_closed.new.pass)
    (stands_sees c.args.c c.args.place _ _ _ c.receiver_stands.ensures.stands) c.find_closed.ensures.sees in
    receives_later (shape_of c.args.hub.now) c.args.c c.args.place c.args.waiter (seen_by c.args.pass.now)
    (seen_by c.find_closed.new.pass) (hub_legal c.args.hub.now c.find_closed.new.pass c.find_closed.ensures.own.0) s
    c.requires.first

pub returns-in-None-hand-clause-given : goal.returns-in-None-hand-clause-given
returns-in-None-hand-clause-given c =
    let s = sees_then (seen_by c.args.pass.now) (seen_by c.receiver_stands.new.pass) (seen_by c.find_closed.new.pass)
    (stands_sees c.args.c c.args.place _ _ _ c.receiver_stands.ensures.stands) c.find_closed.ensures.sees in
    let h = c.in-None-hand.ensures.handed
    in (sees_then (seen_by c.args.pass.now) (seen_by c.find_closed.new.pass) (seen_by c.hand.new.pass) s h.0, h.1)

pub returns-in-Some-clause-given : goal.returns-in-Some-clause-given
returns-in-Some-clause-given c =
    let s = sees_then (seen_by c.args.pass.now) (seen_by c.receiver_stands.new.pass) (seen_by c.find_closed.new.pass)
    (stands_sees c.args.c c.args.place _ _ _ c.receiver_stands.ensures.stands) c.find_closed.ensures.sees in
    (s, c.in-Some.ensures.closed)

pub returns-in-Some-hand-clause-given : goal.returns-in-Some-hand-clause-given
returns-in-Some-hand-clause-given c =
    let s = sees_then (seen_by c.args.pass.now) (seen_by c.receiver_stands.new.pass) (seen_by c.find_closed.new.pass)
    (stands_sees c.args.c c.args.place _ _ _ c.receiver_stands.ensures.stands) c.find_closed.ensures.sees in
    record {
      then = seen_by c.find_closed.new.pass;
      sees = s;
      was_open = c.in-None.ensures.closed;
      hands =
          c.in-Some-hand.ensures.handed;
    }
