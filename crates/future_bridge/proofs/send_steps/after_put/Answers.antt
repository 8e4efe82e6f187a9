use Rattle.std.proofs.Common.{◌∙◌}
use Rattle.cell_calls.specs.HubFloors.{hub_floor}
use Rattle.future_bridge.proofs.SendsGo.{put_after, too_many_gone}
use Rattle.future_bridge.proofs.send_steps.after_put.Goals as goal

pub spurn_own-requires-clause-put : goal.spurn_own-requires-clause-put
spurn_own-requires-clause-put c = put_after c.args.who c.args.c c.args.mine (hub_floor c.args.hub.now c.args.pass.now)
    (hub_floor c.args.hub.now c.trim_all.new.pass) c.trim_all.ensures.trims c.requires.put

pub returns-clause-giving : goal.returns-clause-giving
returns-clause-giving c = c.spurn_own.ensures.giving ∙ c.trim_all.ensures.giving

pub returns-clause-removes : goal.returns-clause-removes
returns-clause-removes c = too_many_gone c.args.who c.args.c c.args.mine (hub_floor c.args.hub.now c.args.pass.now)
    (hub_floor c.args.hub.now c.trim_all.new.pass) (hub_floor c.args.hub.now c.spurn_own.new.pass) c.trim_all.ensures.trims
    c.spurn_own.ensures.spurns
