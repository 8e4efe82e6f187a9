use Rattle.forest_calls.proofs.PassesStayOwn.{stays_own}
use Rattle.floor_rows.proofs.forest_rows.is_attached_on.Goals as goal

pub returns-clause-own : goal.returns-clause-own
returns-clause-own c =
    stays_own c.args.ranger.now c.is_attached.new.jobs c.args.who c.is_attached.ensures.anchor c.is_attached.ensures.same c.requires.caller
