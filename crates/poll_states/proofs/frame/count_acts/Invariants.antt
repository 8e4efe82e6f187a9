use Rattle.std.specs.Prelude.{◌≡◌, ◌+◌, ◌<◌, ◌^◌, drop, length}
use Rattle.poll_states.specs.Frames.{acts_in}
use Rattle.poll_states.proofs.frame.count_acts.Given as goal

abbrev pub invariant-loop-item : goal.invariant-loop-item
invariant-loop-item l = record {
  counted : l.acts + acts_in (drop l.item-index l.items) ≡ acts_in l.items;
  few : length l.items < 2 ^ 64;
}
