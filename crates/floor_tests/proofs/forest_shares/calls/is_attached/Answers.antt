use Rattle.job_model.proofs.Own.{seen_attached}
use Rattle.floor_tests.proofs.forest_shares.calls.is_attached.Goals as goal

pub returns-in-Some-clause-attached : goal.returns-in-Some-clause-attached
returns-in-Some-clause-attached g c e = seen_attached _ _ _ _ _ (g.met.J.JobFloor.legal c.look.new.self) c.in-Some.ensures.answer
