-- Tags that are given out one by one, and taken into one pass.
use Rattle.std.specs.Prelude.{◌≡◌, ℕ, ◌+◌, ◌==◌, ◌<◌, Bool, true, false, List, ◌∷◌, if◌then◌else◌, refl}
use Rattle.std.proofs.Common.{ap, ◌∙◌, arith}
use Rattle.std.proofs.lemmas.Bool.{eqb-true}
use Rattle.worded.specs.Views.{has_tag}
use Rattle.job_model.specs.Floors.{SameSetting}
use Rattle.job_words.specs.declared.forest.Forest.{Forest}
use Rattle.job_words.specs.declared.pass.JobPass.{JobPass}
use Rattle.job_words.specs.Passes.{floor_seen}
use Rattle.job_words.specs.Forests.{seen_by, IsOf, IsOwn, GivesTags}
use Rattle.floor_tests.specs.Shares.{OwnsAll, GivesFrom}

not_first : (u t : ℕ) (given : List ℕ) → t < u → has_tag u given ≡ false → has_tag u (t ∷ given) ≡ false
not_first u t given lt e = by_test (u == t) refl
  where
    by_test : (b : Bool) → (u == t) ≡ b → (if b then true else has_tag u given) ≡ false
    by_test true k = absurd (let i : u ≡ t = eqb-true u t k in omega arith)
    by_test false k = e

pub gives_more : (f : Forest) (old new : JobPass) (t : ℕ) → GivesFrom f old t → IsOf f new → GivesTags (t ∷ (seen_by old).given) new
    → GivesFrom f new (t + 1)
gives_more f old new t h of gives =
    (of, gives.0, λ u le. ap (has_tag u) gives.1 ∙ not_first u t (seen_by old).given (omega arith) (h.2 u (omega arith)))

-- a call of one of the tags leaves all of them
pub owns_still : (f : Forest) (old new : JobPass) (from to t : ℕ) → OwnsAll f old from to → IsOwn f new t
    → SameSetting (floor_seen (seen_by old)) (floor_seen (seen_by new)) → OwnsAll f new from to
owns_still f old new from to t h own s = (own.0, λ u le lt. ap (λ (g : ℕ → Bool). g u) s.callers ∙ h.1 u le lt)
