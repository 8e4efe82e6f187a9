use Rattle.cell_words.specs.Hubs.{IsOwn, seen_by}
use Rattle.cell_words.specs.Seen.{Sees}
use Rattle.word_rules.specs.Words.{WereKept}
use Rattle.cell_words.proofs.placing.put_until.Given as goal

abbrev pub invariant-loop-next : goal.invariant-loop-next
invariant-loop-next l = record {
  own : IsOwn l.hub l.pass l.who;
  sees : Sees (seen_by l.initial.pass) (seen_by l.pass);
  kept : WereKept (seen_by l.pass).seen l.c l.fn.run.from l.next;
}
