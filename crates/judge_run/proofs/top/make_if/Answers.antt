use Rattle.std.proofs.Common.{Some, sym}
use Rattle.judge_run.proofs.Meaning.{made_for}
use Rattle.judge_run.proofs.top.make_if.Goals as goal

pub returns-in-Some : goal.returns-in-Some
returns-in-Some g c = made_for c.read_answer.result (Some c.in-Some.request) c.args.wanted _ _ (sym c.in-Some.is) c.read_answer.ensures
