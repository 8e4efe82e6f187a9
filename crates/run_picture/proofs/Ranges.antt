-- A word with two hyphens is no range.
use Rattle.std.proofs.Common.{◌≡◌, ℕ, ◌+◌, ◌==◌, List, [], ◌∷◌, length, Option, None, Some, is_some, true, true≢false, refl, ap, sym, ◌∙◌, arith}
use denote.Ref.{Bor}
use Rattle.std.specs.List.{slice_split}
use Rattle.std.proofs.lemmas.List.Splits.{length-slice_split}
use Rattle.report_reader.specs.Words.{parts}
use Rattle.run_picture.specs.Words.{range_by, range_of}

-- what stands between hyphens
abbrev between : List ℕ → List (List ℕ)
between word = slice_split (λ b. b == 45) word

three : (low high : List ℕ) (rest : List (List ℕ)) (n : ℕ) → length rest ≡ n + 1 → None ≡ range_by (low ∷ (high ∷ rest))
three low high [] n e = absurd (omega (arith, e))
three low high (x ∷ xs) n e = refl

pub of_three : (word low high : List ℕ) (behind more : Option (Bor (List ℕ))) (rest : Bor (List ℕ)) → parts 45 low behind ≡ between word
    → behind ≡ Some rest → parts 45 high more ≡ between rest.now → is_some more ≡ true → None ≡ range_of word
of_three word low high behind None rest cut is cut₂ some = absurd (true≢false (sym some))
of_three word low high behind (Some other) rest cut is cut₂ some =
    three low high (between other.now) _ (length-slice_split (λ b. b == 45) other.now)
    ∙ ap range_by (ap (λ r. low ∷ r) cut₂ ∙ sym (ap (parts 45 low) is) ∙ cut)
