use Rattle.run_explore.proofs.Meaning.{fails_means, written_means}
use Rattle.run_explore.proofs.top.explore_main.Goals as goal

pub returns-in-Ok : goal.returns-in-Ok
returns-in-Ok g c = written_means c.written.result _ _ _ _ _ c.in-Ok.answer c.in-Ok.ensures c.written.ensures

pub returns-in-Err : goal.returns-in-Err
returns-in-Err g c = fails_means c.in-Err.outcome _ _ _ _ c.in-Err.ensures
