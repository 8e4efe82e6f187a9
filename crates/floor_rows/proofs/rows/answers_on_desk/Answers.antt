use Rattle.std.proofs.Common.{ap, subst}
use Rattle.cell_words.specs.declared.hub.Hub.{Hub}
use Rattle.cell_calls.specs.declared.desk.DeskAnchor.{DeskAnchor}
use Rattle.cell_calls.specs.HubFloors.{hub_floor}
use Rattle.cell_calls.proofs.CallersStay.{stays_own}
use Rattle.floor_rows.specs.Known.{Knows}
use Rattle.floor_rows.proofs.rows.answers_on_desk.Goals as goal

pub returns-clause-own : goal.returns-clause-own
returns-clause-own c = stays_own c.args.desk.now c.answers.new.floor c.args.who c.answers.ensures.anchor
    c.answers.ensures.then.grows.same.callers c.requires.caller

pub returns-clause-knows : goal.returns-clause-knows
returns-clause-knows c = subst (λ (h : Hub). Knows c.answers.new.known (hub_floor h c.answers.new.floor.pass.now))
    (ap (λ (x : DeskAnchor). x.hub) c.answers.ensures.anchor) c.answers.ensures.then.knows
