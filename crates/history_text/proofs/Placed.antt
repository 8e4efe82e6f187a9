-- A list of so many elements, by what stands at its places; and items by their words.
use Rattle.std.proofs.Common.{◌≡◌, Option, ◌≤◌, ◌<◌, ◌+◌, ℕ, zero, suc, List, [], ◌∷◌, length, get_or, take, drop, ◌++◌, ◌-◌, ap, arith, sym, ◌∙◌, drop-cons, zero-add}
use Rattle.std.proofs.lemmas.List.{drop_all, length-drop, take_all}
use denote.Ref.{Bor}
use Rattle.co_base.specs.declared.names.WaitId.{WaitId}
use Rattle.report_reader.specs.Words.{texts, value_at}
use Rattle.script_grammar.specs.Places.{place_from}
use Rattle.history_text.specs.Items.{await_by, await_with, offer_by, offer_with, plain_by, with_channel, with_number, with_numbers}
use Rattle.history_text.specs.Words.{clause_at, wait_at}

-- in place of a word that is not there
abbrev pub no_word : Bor (List ℕ)
no_word = record { ref_ptr = (0, 0); now = [] }

-- so many elements from a place on
abbrev pub placed : {A : Type 0} → A → List A → ℕ → ℕ → List A
placed d xs k zero = []
placed d xs k (suc n) = get_or xs k d ∷ placed d xs (suc k) n

placed_from : {A : Type 0} (d : A) (xs : List A) (k n : ℕ) → k + n ≡ length xs → placed d xs k n ≡ drop k xs
placed_from d xs k zero e = sym (drop_all k xs (omega arith))
placed_from d xs k (suc n) e =
    ap (λ l. get_or xs k d ∷ l) (placed_from d xs (suc k) n (omega arith)) ∙ sym (drop-cons xs k d (omega arith))

-- a list of so many elements has what stands at its places
pub all_placed : {A : Type 0} (d : A) (xs : List A) (n : ℕ) → n ≤ length xs → length xs < n + 1 → placed d xs 0 n ≡ xs
all_placed d xs n le lt = placed_from d xs 0 n (omega arith)

placed_before : {A : Type 0} (d : A) (xs : List A) (k n : ℕ) → k + n ≤ length xs → placed d xs k n ++ drop (k + n) xs ≡ drop k xs
placed_before d xs k zero le = let same : k + 0 ≡ k = omega arith in ap (λ m. drop m xs) same
placed_before d xs k (suc n) le =
    let same : k + suc n ≡ suc k + n = omega arith in
    ap (λ m. get_or xs k d ∷ (placed d xs (suc k) n ++ drop m xs)) same
    ∙ ap (λ l. get_or xs k d ∷ l) (placed_before d xs (suc k) n (omega arith)) ∙ sym (drop-cons xs k d (omega arith))

-- a list has what stands at its first places, and the others behind it
pub first_placed : {A : Type 0} (d : A) (xs : List A) (n : ℕ) → n ≤ length xs → placed d xs 0 n ++ take (length xs - n) (drop n xs) ≡ xs
first_placed d xs n le =
    ap (λ l. placed d xs 0 n ++ l) (take_all (length xs - n) (drop n xs) (omega (arith, length-drop n xs)))
    ∙ ap (λ m. placed d xs 0 n ++ drop m xs) (sym (zero-add n)) ∙ placed_before d xs 0 n (omega arith)

-- an offer of five words
pub offer_of : (names : List (List ℕ)) (ws : List (Bor (List ℕ))) (c p v : Option ℕ) (w : Option WaitId) (k : Option ℕ) → 5 ≤ length ws
    → length ws < 6 → c ≡ place_from 0 (get_or ws 0 no_word).now names → p ≡ value_at (get_or ws 1 no_word).now
    → v ≡ value_at (get_or ws 2 no_word).now → w ≡ wait_at names (get_or ws 3 no_word).now → k ≡ clause_at (get_or ws 4 no_word).now
    → offer_with c p v w k ≡ offer_by names (texts ws)
offer_of names ws c p v w k le lt c_is p_is v_is w_is k_is =
    (λ i. offer_with (c_is i) (p_is i) (v_is i) (w_is i) (k_is i)) ∙ ap (λ l. offer_by names (texts l)) (all_placed no_word ws 5 le lt)

-- a receiver of four words
pub await_of : (names : List (List ℕ)) (ws : List (Bor (List ℕ))) (c p : Option ℕ) (w : Option WaitId) (k : Option ℕ) → 4 ≤ length ws
    → length ws < 5 → c ≡ place_from 0 (get_or ws 0 no_word).now names → p ≡ value_at (get_or ws 1 no_word).now
    → w ≡ wait_at names (get_or ws 2 no_word).now → k ≡ clause_at (get_or ws 3 no_word).now → await_with c p w k ≡ await_by names (texts ws)
await_of names ws c p w k le lt c_is p_is w_is k_is =
    (λ i. await_with (c_is i) (p_is i) (w_is i) (k_is i)) ∙ ap (λ l. await_by names (texts l)) (all_placed no_word ws 4 le lt)

-- an item of a channel alone
pub plain_of_one : (names : List (List ℕ)) (verb : List ℕ) (ws : List (Bor (List ℕ))) (c : Option ℕ) → 1 ≤ length ws → length ws < 2
    → c ≡ place_from 0 (get_or ws 0 no_word).now names → with_channel verb c ≡ plain_by names verb (texts ws)
plain_of_one names verb ws c le lt c_is =
    ap (with_channel verb) c_is ∙ ap (λ l. plain_by names verb (texts l)) (all_placed no_word ws 1 le lt)

-- an item of a channel and a number
pub plain_of_two : (names : List (List ℕ)) (verb : List ℕ) (ws : List (Bor (List ℕ))) (c n : Option ℕ) → 2 ≤ length ws → length ws < 3
    → c ≡ place_from 0 (get_or ws 0 no_word).now names → n ≡ value_at (get_or ws 1 no_word).now
    → with_number verb c n ≡ plain_by names verb (texts ws)
plain_of_two names verb ws c n le lt c_is n_is =
    (λ i. with_number verb (c_is i) (n_is i)) ∙ ap (λ l. plain_by names verb (texts l)) (all_placed no_word ws 2 le lt)

-- an item of a channel and two numbers
pub plain_of_three : (names : List (List ℕ)) (verb : List ℕ) (ws : List (Bor (List ℕ))) (c n m : Option ℕ) → 3 ≤ length ws
    → length ws < 4 → c ≡ place_from 0 (get_or ws 0 no_word).now names → n ≡ value_at (get_or ws 1 no_word).now
    → m ≡ value_at (get_or ws 2 no_word).now → with_numbers verb c n m ≡ plain_by names verb (texts ws)
plain_of_three names verb ws c n m le lt c_is n_is m_is =
    (λ i. with_numbers verb (c_is i) (n_is i) (m_is i)) ∙ ap (λ l. plain_by names verb (texts l)) (all_placed no_word ws 3 le lt)
