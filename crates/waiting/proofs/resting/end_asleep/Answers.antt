use Rattle.waiting.proofs.StaysThen.{ends_asleep}
use Rattle.waiting.proofs.resting.end_asleep.Goals as goal

pub returns-clause-ended : goal.returns-clause-ended
returns-clause-ended g c =
    ends_asleep c.args.hub.now c.args.wait c.args.pass.now c.rest.new.pass c.settle.new.pass c.settle.result c.rest.ensures.stays
    c.rest.ensures.ready c.settle.ensures.answer
