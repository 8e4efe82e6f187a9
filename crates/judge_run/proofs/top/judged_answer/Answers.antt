use Rattle.judge_run.proofs.top.judged_answer.Goals as goal

pub returns : goal.returns
returns c = record {
  v = c.in_ok-judgement.judgement.verdict;
  said_is = c.said_of-said.ensures;
  verdict = c.in_ok-judgement.ensures;
  line = c.in_ok-text.ensures;
}
