-- Where a text is cut.
use Rattle.std.proofs.Common.{◌≡◌, ℕ, ◌+◌, ◌-◌, ◌<◌, List, [], ◌∷◌, length, length-drop, Bool, true, false, arith, get_or, take, drop, refl, ap, sym, ◌∙◌, filter, suc}
use Rattle.std.specs.List.{slice_split, onto_first}
use Rattle.std.proofs.lemmas.List.{take_all}
use Rattle.std.proofs.lemmas.List.Splits.{slice_split-cons_no, slice_split_first}
use Rattle.std.proofs.lemmas.List.Sums.{position_or_len_is}
use Rattle.std.specs.List.{position_or_len}
use Rattle.script_grammar.specs.Words.{has_items, before_comment}

-- a text is cut at the first byte that passes
pub cut_here : (p : ℕ → Bool) (xs : List ℕ) (i : ℕ) → i < length xs → ((k : ℕ) → k < i → p (get_or xs k 0) ≡ false)
    → p (get_or xs i 0) ≡ true → take i xs ∷ slice_split p (take (length xs - (i + 1)) (drop (i + 1) xs)) ≡ slice_split p xs
cut_here p xs i h none here =
    let at : position_or_len p xs ≡ i = position_or_len_is p xs i 0 (omega arith) none (λ _. here) in
    let rest : take (length xs - (i + 1)) (drop (i + 1) xs) ≡ drop (i + 1) xs =
    take_all (length xs - (i + 1)) (drop (i + 1) xs) (omega (arith, length-drop (i + 1) xs)) in
    ap (λ l. take i xs ∷ slice_split p l) rest
    ∙ sym (slice_split_first p xs 0 (omega (arith, at)) ∙ ap (λ n. take n xs ∷ slice_split p (drop (n + 1) xs)) at)

-- and nowhere, if none passes
pub cut_nowhere : (p : ℕ → Bool) (xs : List ℕ) → ((k : ℕ) → k < length xs → p (get_or xs k 0) ≡ false) → xs ∷ [] ≡ slice_split p xs
cut_nowhere p [] none = refl
cut_nowhere p (x ∷ xs) none =
    sym (slice_split-cons_no p x xs (none 0 (omega arith))
    ∙ ap (onto_first x) (sym (cut_nowhere p xs (λ k h. none (suc k) (omega (arith, h))))))

-- ---- words so far

abbrev pub words_in : List (List ℕ) → List (List ℕ)
words_in pieces = before_comment (filter has_items pieces)
