-- One who uses permits is the same one behind several calls.
use Rattle.std.specs.Prelude.{◌≡◌, ℕ}
use Rattle.std.proofs.Common.{sym, ◌∙◌, subst}
use Rattle.channel_model.specs.Floors.{Floor}
use Rattle.channel_calls.specs.declared.caller.Caller.{Caller}
use Rattle.channel_calls.specs.Calls.{SameCaller}
use Rattle.permits.specs.Parts.{UsesPermits}

-- one call after another by the same caller
pub same_then : {F B W A : Type 0} {anchor : F → A} (a b d : Caller F B W) → SameCaller anchor a b → SameCaller anchor b d
    → SameCaller anchor a d
same_then a b d h k = record {
  floor = k.floor ∙ h.floor;
  book = k.book ∙ h.book;
  wakes = k.wakes ∙ h.wakes;
  who = k.who ∙ h.who;
  anchor_is = k.anchor_is ∙ h.anchor_is;
}

-- what one uses, it uses by its other name
pub uses_as : (c n count who me : ℕ) (f : Floor) → me ≡ who → UsesPermits c n who count f → UsesPermits c n me count f
uses_as c n count who me f e u = subst (λ (t : ℕ). UsesPermits c n t count f) (sym e) u
