use Rattle.std.proofs.Common.{refl}
use Rattle.job_tree.proofs.Walks.{never_wanting}
use Rattle.job_tree.proofs.caller.JobCaller.fail_up.Goals as goal

pub climb-requires-clause-room : goal.climb-requires-clause-room
climb-requires-clause-room g c = λ e. c.requires.room

pub returns-clause-room : goal.returns-clause-room
returns-clause-room g c = c.in-Ok.ensures.room refl

pub unreachable-requires : goal.unreachable-requires
unreachable-requires g c = never_wanting c.in-Err.ensures.answer.0
