-- Nobody who waits on a ring is forgotten.
use Rattle.std.specs.Prelude.{◌≡◌, ◌⊎◌, ℕ, ◌%◌, true}
use Rattle.std.specs.Int.{bit_at}
use Rattle.ring_channel.specs.declared.act.RingSide.{RingSide}
use Rattle.ring_channel.specs.declared.act.RingSide.TheVariants.{Receive, Send}
use Rattle.ring_channel.specs.Rings.{free, is_standing, State}

module _ {T : Type 0} where
  -- the pass of this tag waits on this side
  abbrev pub Waits : State T → RingSide → ℕ → Type 0
  Waits s d t = bit_at (s.lines d).mask t ≡ 1

  -- there is something for one who waits: the value of the first place is in its slot; the slot of the next place is free for it
  abbrev pub HasOne : ℕ → State T → RingSide → Type 0
  HasOne n s Receive = (s.at (s.takes % n) ≡ s.takes) × (is_standing (s.cells (s.takes % n)) ≡ true)
  HasOne n s Send = (s.at (s.puts % n) ≡ s.puts) × (s.cells (s.puts % n) ≡ free)

  -- one who waits on this side has no cause to: there is something for it, or the ring is closed
  abbrev pub MayGo : ℕ → State T → RingSide → Type 0
  MayGo n s d = (s.closed ≡ true) ⊎ HasOne n s d

  -- Where one waits on a side while there is something for it, some pass has still to call one, or to see that there is nothing; and where
  -- one waits while the ring is closed, some pass has still to call
  pub record IsServed (n : ℕ) (s : State T) (d : RingSide) : Type 0 where
    pub one : (t : ℕ) → Waits s d t → HasOne n s d → (u : ℕ) × ((s.lines d).ones u ≡ true)
    pub ended : (t : ℕ) → Waits s d t → s.closed ≡ true → (u : ℕ) × ((s.lines d).ends u ≡ true)
