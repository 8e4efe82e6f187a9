-- Items with too few or too many words are none.
use Rattle.std.proofs.Common.{◌≡◌, ℕ, ◌<◌, ◌≤◌, ◌==◌, false, List, [], ◌∷◌, None, length, refl, arith}
use denote.Ref.{Bor}
use Rattle.report_reader.specs.Words.{texts}
use Rattle.history_text.specs.Items.{await_by, ended_by, offer_by, plain_by}
use Rattle.history_text.specs.JobItems.{attach_by, end_body_by}
use Rattle.history_text.specs.Numbers.{numbers_by}

pub plain_many : (names : List (List ℕ)) (verb : List ℕ) (ws : List (Bor (List ℕ))) → 4 ≤ length ws → None ≡ plain_by names verb (texts ws)
plain_many names verb [] le = absurd (omega (arith, le))
plain_many names verb (a ∷ []) le = absurd (omega (arith, le))
plain_many names verb (a ∷ (b ∷ [])) le = absurd (omega (arith, le))
plain_many names verb (a ∷ (b ∷ (c ∷ []))) le = absurd (omega (arith, le))
plain_many names verb (a ∷ (b ∷ (c ∷ (d ∷ more)))) le = refl

pub ended_many : (ws : List (Bor (List ℕ))) → 4 ≤ length ws → None ≡ ended_by (texts ws)
ended_many [] le = absurd (omega (arith, le))
ended_many (a ∷ []) le = absurd (omega (arith, le))
ended_many (a ∷ (b ∷ [])) le = absurd (omega (arith, le))
ended_many (a ∷ (b ∷ (c ∷ []))) le = absurd (omega (arith, le))
ended_many (a ∷ (b ∷ (c ∷ (d ∷ more)))) le = refl

pub await_few : (names : List (List ℕ)) (ws : List (Bor (List ℕ))) → length ws < 4 → None ≡ await_by names (texts ws)
await_few names [] lt = refl
await_few names (a ∷ []) lt = refl
await_few names (a ∷ (b ∷ [])) lt = refl
await_few names (a ∷ (b ∷ (c ∷ []))) lt = refl
await_few names (a ∷ (b ∷ (c ∷ (d ∷ more)))) lt = absurd (omega (arith, lt))

pub await_many : (names : List (List ℕ)) (ws : List (Bor (List ℕ))) → 5 ≤ length ws → None ≡ await_by names (texts ws)
await_many names [] le = absurd (omega (arith, le))
await_many names (a ∷ []) le = absurd (omega (arith, le))
await_many names (a ∷ (b ∷ [])) le = absurd (omega (arith, le))
await_many names (a ∷ (b ∷ (c ∷ []))) le = absurd (omega (arith, le))
await_many names (a ∷ (b ∷ (c ∷ (d ∷ [])))) le = absurd (omega (arith, le))
await_many names (a ∷ (b ∷ (c ∷ (d ∷ (e ∷ more))))) le = refl

pub offer_few : (names : List (List ℕ)) (ws : List (Bor (List ℕ))) → length ws < 5 → None ≡ offer_by names (texts ws)
offer_few names [] lt = refl
offer_few names (a ∷ []) lt = refl
offer_few names (a ∷ (b ∷ [])) lt = refl
offer_few names (a ∷ (b ∷ (c ∷ []))) lt = refl
offer_few names (a ∷ (b ∷ (c ∷ (d ∷ [])))) lt = refl
offer_few names (a ∷ (b ∷ (c ∷ (d ∷ (e ∷ more))))) lt = absurd (omega (arith, lt))

pub offer_many : (names : List (List ℕ)) (ws : List (Bor (List ℕ))) → 6 ≤ length ws → None ≡ offer_by names (texts ws)
offer_many names [] le = absurd (omega (arith, le))
offer_many names (a ∷ []) le = absurd (omega (arith, le))
offer_many names (a ∷ (b ∷ [])) le = absurd (omega (arith, le))
offer_many names (a ∷ (b ∷ (c ∷ []))) le = absurd (omega (arith, le))
offer_many names (a ∷ (b ∷ (c ∷ (d ∷ [])))) le = absurd (omega (arith, le))
offer_many names (a ∷ (b ∷ (c ∷ (d ∷ (e ∷ []))))) le = absurd (omega (arith, le))
offer_many names (a ∷ (b ∷ (c ∷ (d ∷ (e ∷ (f ∷ more)))))) le = refl

pub attach_few : (ws : List (Bor (List ℕ))) → length ws < 6 → None ≡ attach_by (texts ws)
attach_few [] lt = refl
attach_few (a ∷ []) lt = refl
attach_few (a ∷ (b ∷ [])) lt = refl
attach_few (a ∷ (b ∷ (c ∷ []))) lt = refl
attach_few (a ∷ (b ∷ (c ∷ (d ∷ [])))) lt = refl
attach_few (a ∷ (b ∷ (c ∷ (d ∷ (e ∷ []))))) lt = refl
attach_few (a ∷ (b ∷ (c ∷ (d ∷ (e ∷ (f ∷ more)))))) lt = absurd (omega (arith, lt))

pub numbers_few : (ws : List (Bor (List ℕ))) → (length ws == 0) ≡ false → length ws < 4 → None ≡ numbers_by (texts ws)
numbers_few [] e lt = cc
numbers_few (a ∷ []) e lt = refl
numbers_few (a ∷ (b ∷ [])) e lt = refl
numbers_few (a ∷ (b ∷ (c ∷ []))) e lt = refl
numbers_few (a ∷ (b ∷ (c ∷ (d ∷ more)))) e lt = absurd (omega (arith, lt))

pub numbers_many : (ws : List (Bor (List ℕ))) → 5 ≤ length ws → None ≡ numbers_by (texts ws)
numbers_many [] le = absurd (omega (arith, le))
numbers_many (a ∷ []) le = absurd (omega (arith, le))
numbers_many (a ∷ (b ∷ [])) le = absurd (omega (arith, le))
numbers_many (a ∷ (b ∷ (c ∷ []))) le = absurd (omega (arith, le))
numbers_many (a ∷ (b ∷ (c ∷ (d ∷ [])))) le = absurd (omega (arith, le))
numbers_many (a ∷ (b ∷ (c ∷ (d ∷ (e ∷ more))))) le = refl

pub end_body_few : (ws : List (Bor (List ℕ))) → length ws < 2 → None ≡ end_body_by (texts ws)
end_body_few [] lt = refl
end_body_few (a ∷ []) lt = refl
end_body_few (a ∷ (b ∷ more)) lt = absurd (omega (arith, lt))

pub end_body_many : (ws : List (Bor (List ℕ))) → 3 ≤ length ws → None ≡ end_body_by (texts ws)
end_body_many [] le = absurd (omega (arith, le))
end_body_many (a ∷ []) le = absurd (omega (arith, le))
end_body_many (a ∷ (b ∷ [])) le = absurd (omega (arith, le))
end_body_many (a ∷ (b ∷ (c ∷ more))) le = refl
