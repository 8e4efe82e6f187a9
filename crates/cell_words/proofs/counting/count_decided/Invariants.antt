use Rattle.std.proofs.Common.{◌≤◌}
use Rattle.channel_model.specs.Laws.{NoneBelow}
use Rattle.cell_words.specs.Hubs.{IsOwn, seen_by}
use Rattle.cell_words.specs.Seen.{Sees, at_channel}
use Rattle.cell_words.proofs.counting.count_decided.Given as goal

abbrev pub invariant-loop-look : goal.invariant-loop-look
invariant-loop-look l = record {
  own : IsOwn l.hub l.pass l.who;
  sees : Sees (seen_by l.initial.pass) (seen_by l.pass);
  given : l.end ≤ (at_channel (seen_by l.pass).seen l.c).next;
  low : NoneBelow 0 l.low (at_channel (seen_by l.pass).seen l.c);
}
