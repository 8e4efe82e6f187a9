-- How long lines and words are together.
use Rattle.std.proofs.Common.{◌≡◌, ℕ, ◌+◌, ◌-◌, ◌≤◌, List, [], ◌∷◌, Bool, true, false, arith, length, length-take, take, get_or, if◌then◌else◌, filter}
use Rattle.std.specs.Prelude.{◌==◌}
use Rattle.std.specs.List.{slice_split, onto_first}
use Rattle.script_grammar.specs.Words.{is_space, has_items, begins_comment, before_comment, words_of, without_last_feed}

-- how many bytes the parts have, with one more after each
abbrev pub text_length : List (List ℕ) → ℕ
text_length [] = 0
text_length (part ∷ more) = length part + 1 + text_length more

longer_first : (x : ℕ) (parts : List (List ℕ)) → 1 ≤ text_length parts → text_length (onto_first x parts) ≡ text_length parts + 1
longer_first x [] some = absurd (omega arith)
longer_first x (part ∷ parts) some = omega arith

pub text_length-slice_split : (p : ℕ → Bool) (xs : List ℕ) → text_length (slice_split p xs) ≡ length xs + 1
text_length-slice_split p [] = omega arith
text_length-slice_split p (x ∷ xs) = by_test (p x) (text_length-slice_split p xs)
  where
    by_test : (b : Bool) → text_length (slice_split p xs) ≡ length xs + 1
        → text_length (if b then [] ∷ slice_split p xs else onto_first x (slice_split p xs)) ≡ length (x ∷ xs) + 1
    by_test true e = omega (arith, e)
    by_test false e = let more = longer_first x (slice_split p xs) (omega (arith, e)) in omega (arith, e, more)

text_length-filter : (p : List ℕ → Bool) (parts : List (List ℕ)) → text_length (filter p parts) ≤ text_length parts
text_length-filter p [] = omega arith
text_length-filter p (x ∷ xs) = by_test (p x) (text_length-filter p xs)
  where
    by_test : (b : Bool) → text_length (filter p xs) ≤ text_length xs
        → text_length (if b then x ∷ filter p xs else filter p xs) ≤ text_length (x ∷ xs)
    by_test true e = omega (arith, e)
    by_test false e = omega (arith, e)

text_length-before_comment : (words : List (List ℕ)) → text_length (before_comment words) ≤ text_length words
text_length-before_comment [] = omega arith
text_length-before_comment (w ∷ ws) = by_test (begins_comment w) (text_length-before_comment ws)
  where
    by_test : (b : Bool) → text_length (before_comment ws) ≤ text_length ws
        → text_length (if b then [] else w ∷ before_comment ws) ≤ text_length (w ∷ ws)
    by_test true e = omega arith
    by_test false e = omega (arith, e)

-- a line has room for its words
pub text_length-words_of : (line : List ℕ) → text_length (words_of line) ≤ length line + 1
text_length-words_of line =
    omega (
      arith,
      text_length-before_comment (filter has_items (slice_split is_space line)),
      text_length-filter has_items (slice_split is_space line),
      text_length-slice_split is_space line,
    )

-- a text has a line feed at its end, or none
pub length-without_last_feed : (xs : List ℕ) → length (without_last_feed xs) ≤ length xs
length-without_last_feed xs = by_test (get_or xs (length xs - 1) 0 == 10)
  where
    by_test : (b : Bool) → length (if b then take (length xs - 1) xs else xs) ≤ length xs
    by_test true = omega (arith, length-take (length xs - 1) xs)
    by_test false = omega arith
