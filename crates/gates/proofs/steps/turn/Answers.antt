use Rattle.std.proofs.Common.{arith, ◌∙◌, refl}
use Rattle.gates.proofs.PassesTell.{ready_still, beaten_then, beaten_as, beaten_none, turn_did, turn_not, turn_lost, counts_after}
use Rattle.gates.proofs.steps.turn.Goals as goal

pub loop-tries-init : goal.loop-tries-init
loop-tries-init c = record {
  of = c.requires.of;
  same = (refl, refl);
  at = (refl, refl);
  beaten = beaten_none c.args.pass.now.number c.args.pass.now.seat.me.0;
}

pub turn_once-requires-clause-of : goal.turn_once-requires-clause-of
turn_once-requires-clause-of c = c.loop-tries.invariant.of

pub turn_once-requires-clause-ready : goal.turn_once-requires-clause-ready
turn_once-requires-clause-ready c =
    let i = c.loop-tries.invariant in
    ready_still c.args.want c.args.pass.now c.loop-tries.pass i.same.0 i.at.0 i.at.1 c.requires.ready

pub loop-tries-preserved : goal.loop-tries-preserved
loop-tries-preserved c =
    let i = c.loop-tries.invariant in
    let e = c.turn_once.ensures in
    record {
      of = e.of;
      same = (e.same.0 ∙ i.same.0, e.same.1 ∙ i.same.1);
      at = (c.in-Lost.ensures.counts.0 ∙ i.at.0, c.in-Lost.ensures.counts.1 ∙ i.at.1);
      beaten = beaten_then _ c.args.pass.now.number c.args.pass.now.seat.me.0 c.loop-tries.pass.seat.me.0 c.turn_once.new.pass.seat.me.0
          i.beaten (beaten_as 1 c.loop-tries.pass.number c.args.pass.now.number c.loop-tries.pass.seat.me.0
          c.turn_once.new.pass.seat.me.0 i.same.0 c.in-Lost.ensures.told);
    }

pub returns-in-Did-clause-told : goal.returns-in-Did-clause-told
returns-in-Did-clause-told c =
    let i = c.loop-tries.invariant in
    turn_did c.args.want c.args.pass.now.number c.loop-tries.pass.number c.in-Did.act c.args.pass.now.seat.me.0
    c.loop-tries.pass.seat.me.0 c.turn_once.new.pass.seat.me.0 i.same.0 i.beaten.adds c.in-Did.ensures.told

pub returns-in-Did-clause-same : goal.returns-in-Did-clause-same
returns-in-Did-clause-same c =
    let i = c.loop-tries.invariant in
    let e = c.turn_once.ensures in (e.same.0 ∙ i.same.0, e.same.1 ∙ i.same.1)

pub returns-in-Did-clause-counts : goal.returns-in-Did-clause-counts
returns-in-Did-clause-counts c =
    counts_after c.in-Did.act c.args.pass.now c.loop-tries.pass c.turn_once.new.pass c.loop-tries.invariant.at c.in-Did.ensures.counts

pub returns-in-Not-clause-told : goal.returns-in-Not-clause-told
returns-in-Not-clause-told c =
    let i = c.loop-tries.invariant in
    turn_not c.args.want c.args.pass.now.number c.loop-tries.pass.number c.args.pass.now.seat.me.0
    c.loop-tries.pass.seat.me.0 c.turn_once.new.pass.seat.me.0 i.same.0 i.beaten.adds c.in-Not.ensures.told

pub returns-in-Not-clause-same : goal.returns-in-Not-clause-same
returns-in-Not-clause-same c =
    let i = c.loop-tries.invariant in
    let e = c.turn_once.ensures in (e.same.0 ∙ i.same.0, e.same.1 ∙ i.same.1)

pub returns-in-Not-clause-counts : goal.returns-in-Not-clause-counts
returns-in-Not-clause-counts c =
    let i = c.loop-tries.invariant in
    (c.in-Not.ensures.counts.0 ∙ i.at.0, c.in-Not.ensures.counts.1 ∙ i.at.1)

pub returns-clause-told : goal.returns-clause-told
returns-clause-told c = turn_lost _ c.args.pass.now.number c.args.pass.now.seat.me.0 c.loop-tries.pass.seat.me.0 (omega arith)
    c.loop-tries.invariant.beaten

pub returns-clause-of : goal.returns-clause-of
returns-clause-of c = c.loop-tries.invariant.of

pub returns-clause-same : goal.returns-clause-same
returns-clause-same c = c.loop-tries.invariant.same

pub returns-clause-counts : goal.returns-clause-counts
returns-clause-counts c = c.loop-tries.invariant.at
