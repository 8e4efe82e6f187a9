use Rattle.waiting.proofs.resting.look_at.Goals as goal

pub returns-clause-stays : goal.returns-clause-stays
returns-clause-stays g c = record {
  same = c.look.ensures.same.0;
  values = c.look.ensures.same.1;
  looked = c.look.ensures.answer.0;
  holds = c.look.ensures.holds;
}
