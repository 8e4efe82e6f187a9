use Rattle.waiting.proofs.StaysThen.{stays_self, stays_then}
use Rattle.waiting.proofs.resting.sleep.Goals as goal

pub loop-init : goal.loop-init
loop-init g c = record { of = c.requires.of; stays = stays_self c.args.hub.now c.args.wait c.args.pass.now c.requires.holds }

pub look_at-requires-clause-holds : goal.look_at-requires-clause-holds
look_at-requires-clause-holds g c = c.loop.invariant.stays.holds

pub loop-preserved : goal.loop-preserved
loop-preserved g c = record {
  of = c.look_at.ensures.of;
  stays = stays_then c.args.hub.now c.args.wait c.args.pass.now c.loop.pass c.look_at.new.pass c.loop.invariant.stays
      c.look_at.ensures.stays;
}

pub look_at-requires-clause-of : goal.look_at-requires-clause-of
look_at-requires-clause-of g c = c.loop.invariant.of

pub look_at-requires-clause-wait : goal.look_at-requires-clause-wait
look_at-requires-clause-wait g c = c.requires.wait

pub returns-in-Resolved-clause-of : goal.returns-in-Resolved-clause-of
returns-in-Resolved-clause-of g c = c.look_at.ensures.of

pub returns-in-Resolved-clause-stays : goal.returns-in-Resolved-clause-stays
returns-in-Resolved-clause-stays g c =
    stays_then c.args.hub.now c.args.wait c.args.pass.now c.loop.pass c.look_at.new.pass c.loop.invariant.stays c.look_at.ensures.stays

pub returns-in-Resolved-clause-ready : goal.returns-in-Resolved-clause-ready
returns-in-Resolved-clause-ready g c = c.look_at.ensures.ready c.in-Resolved.is

pub returns-clause-of : goal.returns-clause-of
returns-clause-of g c = c.loop.invariant.of

pub returns-clause-stays : goal.returns-clause-stays
returns-clause-stays g c = c.loop.invariant.stays
