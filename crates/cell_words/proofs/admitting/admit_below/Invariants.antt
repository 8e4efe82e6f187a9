use Rattle.cell_words.specs.Hubs.{IsOwn, seen_by}
use Rattle.cell_words.specs.Seen.{Sees, at_channel}
use Rattle.channel_model.specs.Laws.{NoneBelow}
use Rattle.cell_words.proofs.admitting.admit_below.Given as goal

abbrev pub invariant-loop-low : goal.invariant-loop-low
invariant-loop-low l = record {
  own : IsOwn l.hub l.pass l.who;
  sees : Sees (seen_by l.initial.pass) (seen_by l.pass);
  low : NoneBelow 0 l.low (at_channel (seen_by l.pass).seen l.c);
}
