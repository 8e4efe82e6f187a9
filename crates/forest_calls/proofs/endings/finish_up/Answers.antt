use Rattle.forest_calls.proofs.PassesStayOwn.{stays_own, gives_on}
use Rattle.job_tree.proofs.Endings.{finished_added}
use Rattle.forest_calls.proofs.endings.finish_up.Goals as goal

pub returns-clause-own : goal.returns-clause-own
returns-clause-own g c =
    stays_own
    c.args.ranger.now
    c.finish_over.new.jobs
    c.args.who
    c.finish_over.ensures.anchor
    (finished_added c.finish_over.ensures.finished).added.same
    c.requires.can.caller

pub returns-clause-giving : goal.returns-clause-giving
returns-clause-giving g c = gives_on c.args.ranger.now c.finish_over.new.jobs c.finish_over.ensures.anchor
