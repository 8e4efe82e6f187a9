use Rattle.std.proofs.Common.{refl}
use Rattle.job_tree.proofs.Walks.{never_wanting}
use Rattle.job_tree.proofs.caller.JobCaller.cancel_pass.Goals as goal

pub pass-requires-clause-room : goal.pass-requires-clause-room
pass-requires-clause-room g c = λ e. c.requires.room

pub returns-clause-pass : goal.returns-clause-pass
returns-clause-pass g c = record { newly = c.in-Ok.passed.newly; pass = c.in-Ok.ensures.answer }

pub returns-clause-room : goal.returns-clause-room
returns-clause-room g c = c.in-Ok.ensures.room refl

pub unreachable-requires : goal.unreachable-requires
unreachable-requires g c = never_wanting c.in-Err.ensures.answer.0
