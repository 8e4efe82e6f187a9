use Rattle.waiting.proofs.stops.take_back.Goals as goal

pub returns-clause-back : goal.returns-clause-back
returns-clause-back g c = record {
  same = c.withdraw.ensures.same.0;
  values = c.withdraw.ensures.same.1;
  answer = c.withdraw.ensures.answer;
  ready = c.withdraw.ensures.ready;
}
