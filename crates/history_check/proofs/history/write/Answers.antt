use Rattle.one_thread_floor.specs.ListFloors.{floor_of}
use Rattle.history_check.specs.Overs.{AreOvers}
use Rattle.history_check.proofs.Walks.{if_good}
use Rattle.history_check.proofs.history.write.Goals as goal

pub returns-in-Job-clause-overs : goal.returns-in-Job-clause-overs
returns-in-Job-clause-overs c =
    if_good c.write_job.result (AreOvers (floor_of c.args.floor.now) c.args.overs.now.items) c.requires.overs
