-- A pass of a ring.
use Rattle.std.specs.Prelude.{◌≡◌, ℕ, ◌<◌}
use Rattle.ring_channel.specs.declared.ring.Ring.{Ring}
use Rattle.ring_channel.specs.declared.ring.RingPass.{RingPass}
use Rattle.ring_channel.specs.Passes.{IsOf, tag_of}

-- it is one of this ring, of this tag, which may wait
abbrev pub IsPass : {T : Type 0} → Ring T → ℕ → RingPass T → Type 0
IsPass ring tag pass = IsOf ring pass × (tag ≡ tag_of pass) × (tag < 64)
