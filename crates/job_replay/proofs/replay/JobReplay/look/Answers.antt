use Rattle.std.proofs.Common.{◌∙◌}
use Rattle.job_replay.proofs.TreeCalls.{looked}
use Rattle.job_replay.proofs.replay.JobReplay.look.Goals as goal

pub returns : goal.returns
returns c = λ tree h. c.look_at.ensures ∙ looked tree c.args.self.now.rows.items c.args.row h.rows_are
