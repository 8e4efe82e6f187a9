-- Where the name of a channel stands among all names.
use Rattle.std.proofs.Common.{◌≡◌, ◌<◌, ◌≤◌, ℕ, zero, suc, ◌+◌, ◌==◌, ◌&&◌, List, [], ◌∷◌, ◌++◌, refl, ap, ap₂, sym, ◌∙◌, arith, Bool, true, false, Option, Some, None, is_none, length, get_or, if◌then◌else◌, eqb-true, append-nil}
use Rattle.std.specs.Str.{bytes_eq}
use Rattle.std.proofs.lemmas.List.{get_or_past, length-map}
use Rattle.std.proofs.lemmas.Slice.Eq.{bytes_eq-Decides}
use denote.Ref.{Bor}
use Rattle.report_reader.specs.Words.{texts}
use Rattle.script_grammar.proofs.Truths.{both_true}
use Rattle.script_grammar.specs.Places.{place_from}
use Rattle.history_text.specs.Names.{are_no_rows, are_rows, is_row, row_named}

-- a name that is a word is of the row that the word names
same_row : (x w : List ℕ) → bytes_eq x w ≡ true → row_named x ≡ row_named w
same_row x w e = ap row_named ((bytes_eq-Decides x w).0 e)

row_of : (row : ℕ) (o : Option ℕ) → is_row row o ≡ true → o ≡ Some row
row_of row None e = cc
row_of row (Some n) e = ap Some (eqb-true n row e)

abbrev number : Option ℕ → ℕ
number None = 0
number (Some n) = n

other : (s r : ℕ) (w x : List ℕ) → is_row s (row_named x) ≡ true → row_named w ≡ Some r → (s ≡ r → ⊥) → bytes_eq x w ≡ true → ⊥
other s r w x row is ne e = ne (ap number (sym (row_of s (row_named x) row) ∙ same_row x w e ∙ is))

unnamed : (r : ℕ) (w x : List ℕ) → is_none (row_named x) ≡ true → row_named w ≡ Some r → bytes_eq x w ≡ true → ⊥
unnamed r w x none is e = let z : is_none (Some r) ≡ true = ap is_none (sym (same_row x w e ∙ is)) ∙ none in cc

-- a name that is not the word is passed
passed : (i : ℕ) (w x : List ℕ) (o : Option ℕ) (b : Bool) → bytes_eq x w ≡ b → (bytes_eq x w ≡ true → ⊥) → (if b then Some i else o) ≡ o
passed i w x o true e n = absurd (n e)
passed i w x o false e n = refl

-- no name of a row from this one on is a word that names an earlier row
rows_before : (i s r : ℕ) (w : List ℕ) (names : List (List ℕ)) → are_rows s names ≡ true → row_named w ≡ Some r → r < s
    → place_from i w names ≡ None
rows_before i s r w [] are is lt = refl
rows_before i s r w (x ∷ xs) are is lt =
    let two = both_true (is_row s (row_named x)) (are_rows (s + 1) xs) are in
    passed i w x (place_from (i + 1) w xs) (bytes_eq x w) refl
    (other s r w x two.0 is (λ (e : s ≡ r). absurd (omega (arith, lt, e))))
    ∙ rows_before (i + 1) (s + 1) r w xs two.1 is (omega (arith, lt))

-- nor is one a word that names no row
rows_not : (i s : ℕ) (w : List ℕ) (names : List (List ℕ)) → are_rows s names ≡ true → row_named w ≡ None → place_from i w names ≡ None
rows_not i s w [] are is = refl
rows_not i s w (x ∷ xs) are is =
    let two = both_true (is_row s (row_named x)) (are_rows (s + 1) xs) are in
    passed i w x (place_from (i + 1) w xs) (bytes_eq x w) refl
    (λ e. let z : Some s ≡ None = sym (row_of s (row_named x) two.0) ∙ same_row x w e ∙ is in cc)
    ∙ rows_not (i + 1) (s + 1) w xs two.1 is

not_empty : (i r : ℕ) (w : List ℕ) → row_named w ≡ Some r → None ≡ (if bytes_eq [] w then Some i else None)
not_empty i r [] is = cc
not_empty i r (b ∷ rest) is = refl

-- a word that names a row is found at its place, or nowhere
rows_at : (i s k : ℕ) (w : List ℕ) (names : List (List ℕ)) → are_rows s names ≡ true → row_named w ≡ Some (s + k)
    → place_from i w names ≡ (if bytes_eq (get_or names k []) w then Some (i + k) else None)
rows_at i s zero w [] are is = not_empty (i + 0) (s + 0) w is
rows_at i s (suc k) w [] are is = not_empty (i + suc k) (s + suc k) w is
rows_at i s zero w (x ∷ xs) are is =
    let two = both_true (is_row s (row_named x)) (are_rows (s + 1) xs) are in
    let same : s + 0 ≡ s = omega arith in
    let here : i ≡ i + 0 = omega arith in
    ap₂ (λ (n : ℕ) (o : Option ℕ). if bytes_eq x w then Some n else o) here
    (rows_before (i + 1) (s + 1) s w xs two.1 (is ∙ ap Some same) (omega arith))
rows_at i s (suc k) w (x ∷ xs) are is =
    let two = both_true (is_row s (row_named x)) (are_rows (s + 1) xs) are in
    let further : s + suc k ≡ s + 1 + k = omega arith in
    let there : i + 1 + k ≡ i + suc k = omega arith in
    passed i w x (place_from (i + 1) w xs) (bytes_eq x w) refl
    (other s (s + suc k) w x two.0 is (λ (e : s ≡ s + suc k). absurd (omega (arith, e))))
    ∙ rows_at (i + 1) (s + 1) k w xs two.1 (is ∙ ap Some further)
    ∙ ap (λ n. if bytes_eq (get_or xs k []) w then Some n else None) there

-- names of no row are passed
no_rows : (i r : ℕ) (w : List ℕ) (names more : List (List ℕ)) → are_no_rows names ≡ true → row_named w ≡ Some r
    → place_from i w (names ++ more) ≡ place_from (i + length names) w more
no_rows i r w [] more are is = let here : i ≡ i + 0 = omega arith in ap (λ n. place_from n w more) here
no_rows i r w (x ∷ xs) more are is =
    let two = both_true (is_none (row_named x)) (are_no_rows xs) are in
    let there : i + 1 + length xs ≡ i + length (x ∷ xs) = omega arith in
    passed i w x (place_from (i + 1) w (xs ++ more)) (bytes_eq x w) refl (unnamed r w x two.0 is)
    ∙ no_rows (i + 1) r w xs more two.1 is ∙ ap (λ n. place_from n w more) there

-- what is found among the first names alone
alone : (i : ℕ) (w : List ℕ) (names more : List (List ℕ)) → ((j : ℕ) → place_from j w more ≡ None)
    → place_from i w names ≡ place_from i w (names ++ more)
alone i w [] more none = sym (none i)
alone i w (x ∷ xs) more none = ap (λ (o : Option ℕ). if bytes_eq x w then Some i else o) (alone (i + 1) w xs more none)

-- a word that names no row is one of the declared names, or none
pub among_declared : (w : List ℕ) (declared marked : List (List ℕ)) → are_rows 0 marked ≡ true → row_named w ≡ None
    → place_from 0 w declared ≡ place_from 0 w (declared ++ marked)
among_declared w declared marked are is = alone 0 w declared marked (λ j. rows_not j 0 w marked are is)

-- the same where no other names are
pub no_marked : (w : List ℕ) (declared : List (List ℕ)) (marked : List (Bor (List ℕ))) → length marked ≡ 0
    → place_from 0 w declared ≡ place_from 0 w (declared ++ texts marked)
no_marked w declared [] e = ap (place_from 0 w) (sym (append-nil declared))
no_marked w declared (x ∷ xs) e = absurd (omega (arith, e))

-- where a word stands that names a row
at_row : (w : List ℕ) (r : ℕ) (declared marked : List (List ℕ)) → are_no_rows declared ≡ true → are_rows 0 marked ≡ true
    → row_named w ≡ Some r
    → place_from 0 w (declared ++ marked) ≡ (if bytes_eq (get_or marked r []) w then Some (length declared + r) else None)
at_row w r declared marked plain rows is =
    let first : r ≡ 0 + r = omega arith in
    let there : 0 + length declared + r ≡ length declared + r = omega arith in
    no_rows 0 r w declared marked plain is ∙ rows_at (0 + length declared) 0 r w marked rows (is ∙ ap Some first)
    ∙ ap (λ n. if bytes_eq (get_or marked r []) w then Some n else None) there

text_at : (marked : List (Bor (List ℕ))) (r : ℕ) (d : Bor (List ℕ)) → r < length marked → get_or (texts marked) r [] ≡ (get_or marked r d).now
text_at [] r d lt = absurd (omega (arith, lt))
text_at (x ∷ xs) zero d lt = refl
text_at (x ∷ xs) (suc r) d lt = text_at xs r d (omega (arith, lt))

pub row_is : (w : List ℕ) (r : ℕ) (declared marked : List (Bor (List ℕ))) (d : Bor (List ℕ)) (b : Bool)
    → are_no_rows (texts declared) ≡ true → are_rows 0 (texts marked) ≡ true → row_named w ≡ Some r → r < length marked
    → b ≡ bytes_eq (get_or marked r d).now w
    → place_from 0 w (texts declared ++ texts marked) ≡ (if b then Some (length declared + r) else None)
row_is w r declared marked d b plain rows is lt e =
    at_row w r (texts declared) (texts marked) plain rows is
    ∙ ap₂ (λ (x : List ℕ) (n : ℕ). if bytes_eq x w then Some (n + r) else None) (text_at marked r d lt) (length-map declared (λ x. x.now))
    ∙ ap (λ (t : Bool). if t then Some (length declared + r) else None) (sym e)

-- no row is so far
pub no_row : (w : List ℕ) (r : ℕ) (declared marked : List (Bor (List ℕ))) → are_no_rows (texts declared) ≡ true
    → are_rows 0 (texts marked) ≡ true → row_named w ≡ Some r → length marked ≤ r
    → place_from 0 w (texts declared ++ texts marked) ≡ None
no_row w r declared marked plain rows is le =
    let far : length (texts marked) ≤ r = omega (arith, le, length-map marked (λ x. x.now)) in
    at_row w r (texts declared) (texts marked) plain rows is
    ∙ ap (λ (x : List ℕ). if bytes_eq x w then Some (length (texts declared) + r) else None) (get_or_past (texts marked) r [] far)
    ∙ sym (not_empty (length (texts declared) + r) r w is)
