use Rattle.std.proofs.Common.{◌≡◌, ℕ, None, length, get_or}
use Rattle.script_reader.proofs.tags.no_lists.Given as goal

abbrev pub invariant-loop-block : goal.invariant-loop-block
invariant-loop-block l = record {
  long : length l.lists.items ≡ l._block;
  none : (k : ℕ) → get_or l.lists.items k None ≡ None;
}
