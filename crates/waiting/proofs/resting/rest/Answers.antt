use Rattle.waiting.proofs.StaysThen.{stays_then}
use Rattle.waiting.proofs.resting.rest.Goals as goal

pub sleep-requires-clause-holds : goal.sleep-requires-clause-holds
sleep-requires-clause-holds g c = c.look_often.ensures.stays.holds

pub returns-clause-stays : goal.returns-clause-stays
returns-clause-stays g c =
    stays_then c.args.hub.now c.args.wait c.args.pass.now c.look_often.new.pass c.sleep.new.pass c.look_often.ensures.stays
    c.sleep.ensures.stays
