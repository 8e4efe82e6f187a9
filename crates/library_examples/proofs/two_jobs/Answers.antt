use Rattle.std.proofs.Common.{refl}
use Rattle.job_model.proofs.Own.{root_attached}
use Rattle.library_examples.proofs.two_jobs.Goals as goal

pub attach-requires-clause-can : goal.attach-requires-clause-can
attach-requires-clause-can c = record { caller = refl; attached = root_attached _ _ c.room.new.self.legal }

pub cancel_family-requires : goal.cancel_family-requires
cancel_family-requires c = record { can = record { caller = refl; attached = root_attached _ _ c.attach.new.self.legal } }
