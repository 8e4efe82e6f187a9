use Rattle.job_tree.proofs.caller.JobCaller.pass.Goals as goal

pub pass_except-requires-clause-covered : goal.pass_except-requires-clause-covered
pass_except-requires-clause-covered g c = tt
