-- A close that is told to one receiver after the other.
use Rattle.std.specs.Prelude.{◌≡◌, ℕ, ◌<◌, Some, refl}
use Rattle.std.proofs.Common.{sym, subst, ◌∙◌}
use Rattle.channel_model.specs.declared.acts.Act.TheVariants.{WakeClosed}
use Rattle.channel_model.specs.Floors.{Floor, SameSetting}
use Rattle.channel_model.specs.Histories.{Legal}
use Rattle.channel_model.specs.Answers.{IsSeenClosed}
use Rattle.channel_model.proofs.Lasts.{closed_lasts}
use Rattle.channel_model.proofs.Left.{left_of, left_lower}
use Rattle.channel_model.proofs.Spans.{added_made, setting_then}
use Rattle.parcel_channel.specs.Hubs.{WakeParcel, SamePass, seen_by}
use Rattle.parcel_channel.specs.declared.hub.ParcelPass.{ParcelPass}
use Rattle.waiting.specs.Closes.{Tells}
use Rattle.waiting.specs.Closes.Tells.{another}

-- one more was told: less is left to remove, and the close was still seen
pub told_less : (who t : ℕ) (a b d : Floor) → SameSetting a b → Legal d.shape d.seen → WakeParcel who b d (Some t)
    → left_of a.shape 0 d.seen < left_of a.shape 0 b.seen
told_less who t a b d same l h =
    left_lower who 0 (WakeClosed 0 h.0) a.shape b d (sym (let k = setting_then a b d same h.1.made.same in k.shape)) l h.1.made refl

pub told_setting : (who t : ℕ) (a b d : Floor) → SameSetting a b → WakeParcel who b d (Some t) → SameSetting a d
told_setting who t a b d same h = setting_then a b d same h.1.made.same

pub told_closed : (who t : ℕ) (b d : Floor) → Legal d.shape d.seen → WakeParcel who b d (Some t) → IsSeenClosed 0 b → IsSeenClosed 0 d
told_closed who t b d l h c = let k = added_made who (WakeClosed 0 h.0) b d h.1.made in closed_lasts 0 b d l k.longer c

pub told_more : (who now t : ℕ) (a b d : Floor) → now ≡ who → Tells who a b → WakeParcel now b d (Some t) → Tells who a d
told_more who now t a b d is h k = another t a b d h (subst (λ n. WakeParcel n b d (Some t)) is k)

module _ {T : Type 0} where
  pub pass_then : (p q r : ParcelPass T) → SamePass p q × (seen_by q ≡ seen_by p) → SamePass q r × (seen_by r ≡ seen_by q)
      → SamePass p r × (seen_by r ≡ seen_by p)
  pass_then p q r h k = (
    (k.0.0 ∙ h.0.0, (k.0.1.0 ∙ h.0.1.0, k.0.1.1 ∙ h.0.1.1), k.0.2 ∙ h.0.2),
    k.1 ∙ h.1,
  )
