use Rattle.job_replay.proofs.TreeCalls.{fresh_tree}
use Rattle.job_replay.proofs.replay.JobReplay.new.Goals as goal

pub returns-clause-tree : goal.returns-clause-tree
returns-clause-tree c = fresh_tree _ c.in_ok-rows.rows.items c.in_ok-gone.gone.items c.in_ok-rows.ensures.count c.in_ok-rows.ensures.rows
    c.in_ok-gone.ensures.count c.in_ok-gone.ensures.none
