-- Who waits for its value to be claimed goes on waiting, and has its answer.
use Rattle.std.specs.Prelude.{◌≡◌, ℕ, ◌+◌, Bool}
use Rattle.std.proofs.Common.{subst}
use Rattle.ring_channel.specs.Seen.{Seen}
use Rattle.ring_channel.specs.Outcomes.{Tried}
use Rattle.ring_channel.specs.Outcomes.Tried.{first, again}
use Rattle.ring_bridge.specs.Handings.{NotClaimed, AwaitEnds, AwaitAnswer}

module _ {T : Type 0} where
  -- it waited for a number of turns
  pub record AwaitedSo (n who p : ℕ) (v w : Seen T) : Type 0 where
    pub times : ℕ
    pub tried : Tried (NotClaimed n who p) times v w

  pub none_awaited : (n who p : ℕ) (v : Seen T) → AwaitedSo n who p v v
  none_awaited n who p v = record { times = 0; tried = first v }

  pub awaited_more : (n who now p : ℕ) (v u w : Seen T) → now ≡ who → AwaitedSo n who p v u → NotClaimed n now p u w
      → AwaitedSo n who p v w
  awaited_more n who now p v u w is h k = record {
    times = h.times + 1;
    tried = again h.times v u w h.tried (subst (λ t. NotClaimed n t p u w) is k);
  }

  pub await_ended : (n who now p : ℕ) (v u w : Seen T) (taken : Bool) → now ≡ who → AwaitedSo n who p v u
      → AwaitEnds n now p u w taken → AwaitAnswer n who p v w taken
  await_ended n who now p v u w taken is h k =
      record { times = h.times; last = u; tried = h.tried; ends = subst (λ t. AwaitEnds n t p u w taken) is k }
