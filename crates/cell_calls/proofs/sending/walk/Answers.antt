use Rattle.std.proofs.Common.{ap, ◌∙◌}
use Rattle.cell_words.specs.Seen.{tags_given}
use Rattle.cell_calls.specs.HubFloors.{hub_floor}
use Rattle.cell_calls.specs.Walks.{OfferWalked}
use Rattle.cell_calls.proofs.CallsTell.{same_floor}
use Rattle.cell_calls.proofs.sending.walk.Goals as goal

pub returns-clause-walked : goal.returns-clause-walked
returns-clause-walked c = same_floor c.args.hub.now c.walk_cells-walked.new.pass c.raise_sends.new.pass
    (λ f. OfferWalked c.args.waits c.args.who c.args.c c.args.value (hub_floor c.args.hub.now c.args.pass.now) f
    c.walk_cells-walked.result.0) c.raise_sends.ensures.same c.walk_cells-walked.ensures.walked

pub returns-clause-giving : goal.returns-clause-giving
returns-clause-giving c = ap tags_given c.raise_sends.ensures.same ∙ c.walk_cells-walked.ensures.giving
