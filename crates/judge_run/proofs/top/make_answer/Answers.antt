use Rattle.judge_run.proofs.Meaning.{made_for}
use Rattle.judge_run.proofs.top.make_answer.Goals as goal

pub returns-in-Ok : goal.returns-in-Ok
returns-in-Ok g c = made_for c.make_if.result c.in-Ok.wanted _ _ _ c.in-Ok.ensures c.make_if.ensures
