use Rattle.std.proofs.Common.{◌≤◌, ◌-◌}
use Rattle.cell_words.specs.Hubs.{shape_of, IsOwn, seen_by}
use Rattle.cell_words.specs.Seen.{Sees, at_channel}
use Rattle.cell_words.specs.Answers.{CountedPast}
use Rattle.cell_words.proofs.counting.count_ranges.Given as goal

abbrev pub invariant-loop-past : goal.invariant-loop-past
invariant-loop-past l = record {
  own : IsOwn l.hub l.pass l.who;
  given : l.end ≤ (at_channel (seen_by l.pass).seen l.c).next;
  few : l.past.count ≤ l.past.to;
  least : l.fn.known.from ≤ l.past.to;
  within : l.past.to ≤ l.end;
  sees : Sees (seen_by l.fn.pass) (seen_by l.pass);
  counted : CountedPast (shape_of l.hub) l.c l.fn.known.from l.past.to l.past.count (seen_by l.fn.pass) (seen_by l.pass);
}

abbrev pub decreases-loop-past : goal.decreases-loop-past
decreases-loop-past l = l.end - l.past.to
