-- What the counters of a ring tell.
use Rattle.std.specs.Prelude.{◌≡◌, ℕ, ◌<◌, ◌≤◌, Bool, true, false, []}
use Rattle.ring_channel.specs.Seen.{Seen, now_in}
use Rattle.ring_channel.specs.Answers.{Adds}

module _ {T : Type 0} where
  -- whether the value of the place p was claimed by a receiver
  abbrev pub TakenAnswer : ℕ → ℕ → ℕ → Seen T → Seen T → Bool → Type 0
  TakenAnswer n who p v w true = Adds who [] v w × (p < (now_in n w).takes)
  TakenAnswer n who p v w false = Adds who [] v w × ((now_in n w).takes ≤ p)

  -- whether it is closed
  abbrev pub ClosedAnswer : ℕ → ℕ → Seen T → Seen T → Bool → Type 0
  ClosedAnswer n who v w true = Adds who [] v w × ((now_in n w).closed ≡ true)
  ClosedAnswer n who v w false = Adds who [] v w × ((now_in n w).closed ≡ false)
