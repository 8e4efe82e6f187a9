use Rattle.forest_calls.proofs.RangersHaveRoom.{may_cancel_all}
use Rattle.forest_calls.proofs.PassesStayOwn.{stays_own, gives_on}
use Rattle.forest_calls.proofs.failures.fail_on.Goals as goal

pub fail_over-requires-clause-room : goal.fail_over-requires-clause-room
fail_over-requires-clause-room g c = may_cancel_all c.args.ranger.now _ c.requires.room

pub returns-clause-own : goal.returns-clause-own
returns-clause-own g c =
    stays_own
    c.args.ranger.now
    c.fail_over.new.jobs
    c.args.who
    c.fail_over.ensures.anchor
    c.fail_over.ensures.up.noted.added.same
    c.requires.can.caller

pub returns-clause-giving : goal.returns-clause-giving
returns-clause-giving g c = gives_on c.args.ranger.now c.fail_over.new.jobs c.fail_over.ensures.anchor
