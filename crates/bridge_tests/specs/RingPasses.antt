-- Three passes of one ring.
use Rattle.std.specs.Prelude.{◌≡◌, ℕ, ◌<◌, [], ◌∷◌}
use Rattle.ring_channel.specs.declared.ring.Ring.{Ring}
use Rattle.ring_channel.specs.declared.ring.RingPass.{RingPass}
use Rattle.ring_channel.specs.Passes.{IsOf, IsFirst, seen_by, tag_of}

module _ {T : Type 0} where
  -- the first of them, which gave out the tags of the others
  abbrev pub IsMain : Ring T → RingPass T → Type 0
  IsMain ring pass = IsOf ring pass × IsFirst pass × ((seen_by pass).given ≡ 2 ∷ 1 ∷ 0 ∷ []) × ((seen_by pass).tags ≡ 0 ∷ [])

  -- the only one so far, which gives out the tags of others
  abbrev pub IsNew : Ring T → RingPass T → Type 0
  IsNew ring pass = IsOf ring pass × IsFirst pass × ((seen_by pass).given ≡ 0 ∷ []) × ((seen_by pass).tags ≡ 0 ∷ [])

  -- one of the others
  abbrev pub IsOther : ℕ → Ring T → RingPass T → Type 0
  IsOther t ring pass = IsOf ring pass × ((seen_by pass).tags ≡ t ∷ [])

  -- it is still a pass of this ring, with the same tags
  abbrev pub Keeps : Ring T → RingPass T → RingPass T → Type 0
  Keeps ring old new = IsOf ring new × ((seen_by new).tags ≡ (seen_by old).tags)

  -- the three of them
  abbrev pub AreThree : Ring T → RingPass T → RingPass T → RingPass T → Type 0
  AreThree ring main one two = IsMain ring main × IsOther 1 ring one × IsOther 2 ring two

  -- it is one of this ring, of this tag, which may wait
  abbrev pub IsPass : Ring T → ℕ → RingPass T → Type 0
  IsPass ring tag pass = IsOf ring pass × (tag ≡ tag_of pass) × (tag < 64)
