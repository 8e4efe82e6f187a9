use Rattle.call_meaning.specs.ChannelCalls.{wait_at}
use Rattle.floor_rows.proofs.WaitsBegun.{ready_seen}
use Rattle.floor_rows.proofs.KnownLater.{looked_then, known_over, settled_then}
use Rattle.floor_rows.proofs.known_calls.settle_own.Goals as goal

pub settle-requires-clause-ready : goal.settle-requires-clause-ready
settle-requires-clause-ready g c =
    ready_seen _ _ _ _ (g.met.F.ChannelFloor.legal c.look.new.self) (c.requires.knows.own c.requires.owns) c.in-Resolved.ensures.answer

pub returns-in-Resolved-clause-then : goal.returns-in-Resolved-clause-then
returns-in-Resolved-clause-then g c =
    let k = c.args.known in
    let w = wait_at 0 k.place in
    let a = g.F.ChannelFloor.view c.args.floor.now in
    let l = g.F.ChannelFloor.view c.look.new.self in
    let b = g.F.ChannelFloor.view c.settle.new.self in
    let seen = looked_then k k.tag w a l c.look.result (g.met.F.ChannelFloor.legal c.look.new.self) c.requires.knows c.look.ensures.answer in
    known_over k k a l b seen
    (settled_then k k.tag w c.args.cancelled l b c.settle.result (g.met.F.ChannelFloor.legal c.settle.new.self) seen.knows
    c.settle.ensures.answer)

pub returns-in-Standing : goal.returns-in-Standing
returns-in-Standing g c =
    let k = c.args.known in
    record {
      anchor = c.look.ensures.anchor;
      then =
          looked_then k k.tag (wait_at 0 k.place) (g.F.ChannelFloor.view c.args.floor.now) (g.F.ChannelFloor.view c.look.new.self)
          c.look.result (g.met.F.ChannelFloor.legal c.look.new.self) c.requires.knows c.look.ensures.answer;
    }
