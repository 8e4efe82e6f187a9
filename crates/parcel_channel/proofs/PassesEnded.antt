-- For callers: the tags that a first pass has given out have come back to it, whatever their number, one after the other.
use Rattle.std.specs.Prelude.{◌≡◌, ℕ, ◌==◌, Bool, true, false, ◌||◌, List, [], ◌∷◌, if◌then◌else◌}
use Rattle.std.proofs.Common.{sym, ap, ◌∙◌, subst}
use Rattle.worded.specs.Views.{has_tag}
use Rattle.worded.proofs.TagsHeld.{or_true}

-- each tag that was given out is among these
abbrev pub Covers : List ℕ → List ℕ → Type 0
Covers given tags = (t : ℕ) → has_tag t given ≡ true → has_tag t tags ≡ true

-- a first pass that has given out none
pub covers_first : (tags : List ℕ) → tags ≡ 0 ∷ [] → Covers (0 ∷ []) tags
covers_first tags is t h = ap (has_tag t) is ∙ h

-- it took in the pass of one tag more
pub covers_end : (given old new other : List ℕ) (u : ℕ) → other ≡ u ∷ [] → ((t : ℕ) → has_tag t new ≡ (has_tag t old || has_tag t other))
    → Covers given old → Covers (u ∷ given) new
covers_end given old new other u is ended all t h = ended t ∙ by_test (t == u) (ap (has_tag t) is) h
  where
    by_test : (b : Bool) → has_tag t other ≡ (if b then true else false) → (if b then true else has_tag t given) ≡ true
        → (has_tag t old || has_tag t other) ≡ true
    by_test true other_has k = ap (λ b. has_tag t old || b) other_has ∙ or_true (has_tag t old)
    by_test false other_has k = ap (λ b. b || has_tag t other) (all t k)

-- and these are all
pub all_ended : (given listed tags : List ℕ) → given ≡ listed → Covers listed tags → Covers given tags
all_ended given listed tags is all = subst (λ l. Covers l tags) (sym is) all
