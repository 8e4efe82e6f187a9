use Rattle.log_check.proofs.log.judge_lines.Goals as goal

pub returns-in-MayNotCome : goal.returns-in-MayNotCome
returns-in-MayNotCome g c = rw c.in-MayNotCome.is at c.in_ok-judgement.ensures

pub returns-in-NotSo : goal.returns-in-NotSo
returns-in-NotSo g c = rw c.in-NotSo.is at c.in_ok-judgement.ensures
