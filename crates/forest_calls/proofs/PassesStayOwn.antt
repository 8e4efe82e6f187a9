-- A pass after a call on its ranger.
use Rattle.std.specs.Prelude.{◌≡◌, ℕ, Bool, true}
use Rattle.std.proofs.Common.{ap, ◌∙◌, subst}
use Rattle.job_model.specs.Floors.{SameSetting}
use Rattle.job_words.specs.declared.forest.Forest.{Forest}
use Rattle.job_words.specs.declared.ranger.Ranger.{Ranger}
use Rattle.job_words.specs.declared.ranger.RangerAnchor.{RangerAnchor}
use Rattle.job_words.specs.Forests.{IsOf, IsOwn, SameGiving}
use Rattle.job_words.specs.Rangers.{ranger_floor, ranger_anchor}

pub stays_own : (a b : Ranger) (who : ℕ) → ranger_anchor b ≡ ranger_anchor a → SameSetting (ranger_floor a) (ranger_floor b)
    → (ranger_floor a).callers who ≡ true → IsOwn a.forest.now b.pass.now who
stays_own a b who e s c = (
  subst (λ (f : Forest). IsOf f b.pass.now) (ap (λ (x : RangerAnchor). x.forest) e) b.of,
  ap (λ (f : ℕ → Bool). f who) s.callers ∙ c,
)

pub gives_on : (a b : Ranger) → ranger_anchor b ≡ ranger_anchor a → SameGiving a.pass.now b.pass.now
gives_on a b e = ap (λ (x : RangerAnchor). (x.chief, x.given)) e
