use Rattle.channel_model.specs.Laws.{NoneBelow}
use Rattle.cell_words.specs.Hubs.{IsOwn, seen_by}
use Rattle.cell_words.specs.Seen.{Sees, at_channel}
use Rattle.cell_calls.proofs.sending.walk_cells.Given as goal

abbrev pub invariant-loop-place : goal.invariant-loop-place
invariant-loop-place l = record {
  own : IsOwn l.hub l.pass l.who;
  sees : Sees (seen_by l.fn.pass) (seen_by l.pass);
  low : NoneBelow l.place 0 (at_channel (seen_by l.pass).seen l.c);
}
