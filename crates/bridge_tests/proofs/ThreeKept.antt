-- Passes that made a call are the passes that they were.
use Rattle.std.specs.Prelude.{◌≡◌, ℕ}
use Rattle.std.proofs.Common.{sym, ap, ◌∙◌}
use Rattle.ring_channel.specs.declared.ring.Ring.{Ring}
use Rattle.ring_channel.specs.declared.ring.RingPass.{RingPass}
use Rattle.ring_channel.specs.Seen.{first_tag}
use Rattle.ring_channel.specs.Passes.{IsOf, SamePass, tag_of}
use Rattle.bridge_tests.specs.RingPasses.{IsMain, IsOther}

module _ {T : Type 0} where
  pub main_kept : (ring : Ring T) (p q : RingPass T) → IsMain ring p → IsOf ring q → SamePass p q → IsMain ring q
  main_kept ring p q h of same = (
    of,
    ap (λ x. x.0) same.1.1 ∙ h.1,
    ap (λ x. x.1) same.1.1 ∙ h.2,
    same.1.0 ∙ h.3,
  )

  pub other_kept : (t : ℕ) (ring : Ring T) (p q : RingPass T) → IsOther t ring p → IsOf ring q → SamePass p q → IsOther t ring q
  other_kept t ring p q h of same = (of, same.1.0 ∙ h.1)

  -- the tag of a pass with one tag
  pub main_tag : (ring : Ring T) (p : RingPass T) → IsMain ring p → 0 ≡ tag_of p
  main_tag ring p h = sym (ap first_tag h.3)

  pub other_tag : (t : ℕ) (ring : Ring T) (p : RingPass T) → IsOther t ring p → t ≡ tag_of p
  other_tag t ring p h = sym (ap first_tag h.1)
