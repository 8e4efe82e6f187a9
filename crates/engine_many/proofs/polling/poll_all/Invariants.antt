use Rattle.std.proofs.Common.{◌≡◌, ◌≤◌, false, length, vec_len, vec_capacity}
use Rattle.std.specs.List.{All}
use Rattle.engine_many.specs.Parts.{sight_of, tags_of}
use Rattle.run_laws.specs.Sights.{Sight, IsWithin}
use Rattle.run_laws.specs.LastRounds.{KnowsAllOf, HasRested}
use Rattle.engine_many.proofs.polling.poll_all.Given as goal

abbrev pub invariant-loop-task : goal.invariant-loop-task
invariant-loop-task g l = record {
  count : vec_len l.polled ≡ length l.yielded;
  room : length l.fn.tasks.items ≤ vec_capacity l.polled;
  tags : tags_of l.polled.items ≡ tags_of l.yielded;
  rested : l.moved ≡ false → (first : Sight) → All (λ x. IsWithin first (sight_of g.C.ChannelFloor.view g.J.JobFloor.view x)) l.yielded
      → All (λ x. HasRested g.N.ScriptName.program first (sight_of g.C.ChannelFloor.view g.J.JobFloor.view x)) l.polled.items;
  known : l.moved ≡ false → (first : Sight) → All (λ x. KnowsAllOf first (sight_of g.C.ChannelFloor.view g.J.JobFloor.view x)) l.yielded
      → All (λ x. KnowsAllOf first (sight_of g.C.ChannelFloor.view g.J.JobFloor.view x)) l.polled.items;
}
