use Rattle.job_model.proofs.Own.{root_attached}
use Rattle.library_examples.proofs.scopes.launch_and_enter.Goals as goal

pub launch_and_cancel-requires-clause-parent : goal.launch_and_cancel-requires-clause-parent
launch_and_cancel-requires-clause-parent g c = root_attached _ _ (g.met.J.JobFloor.legal c.args.builder.now.jobs.now)

pub scope_result-requires-clause-parent : goal.scope_result-requires-clause-parent
scope_result-requires-clause-parent g c = root_attached _ _ (g.met.J.JobFloor.legal c.launch_and_cancel.new.builder.jobs.now)

pub scope_result-requires-clause-may : goal.scope_result-requires-clause-may
scope_result-requires-clause-may g c = c.in-Ok.ensures.may

pub scope_result-requires-clause-tag : goal.scope_result-requires-clause-tag
scope_result-requires-clause-tag g c = rw c.launch_and_cancel.ensures.same.who (rw c.in-Ok.ensures.shape c.requires.own)
