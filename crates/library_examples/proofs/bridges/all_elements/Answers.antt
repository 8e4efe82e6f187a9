use Rattle.library_examples.proofs.CollectedElements.{collected_gained, collected_own}
use Rattle.library_examples.proofs.bridges.all_elements.Goals as goal

pub returns-clause-own : goal.returns-clause-own
returns-clause-own g c = collected_own c.args.hub.now c.args.pass c.args.who c.args.c c.collect_all.result c.collect_all.ensures.collected

pub returns-clause-received : goal.returns-clause-received
returns-clause-received g c = collected_gained c.args.hub.now c.args.pass c.args.who c.args.c c.collect_all.result
    c.collect_all.ensures.collected
