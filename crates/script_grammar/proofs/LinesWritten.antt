-- Lines that are written out are read as their words.
use Rattle.std.proofs.Common.{◌≡◌, ℕ, zero, suc, ◌-◌, ◌*◌, ◌≤◌, List, [], ◌∷◌, ◌++◌, refl, ap, sym, ◌∙◌, arith, Bool, true, false, ◌&&◌, nat_le, length, take, get_or, if◌then◌else◌, filter, replicate, length-append, append_assoc}
use Rattle.std.specs.Prelude.{◌==◌, ◌||◌, not}
use Rattle.std.specs.List.{slice_split, All, list_all}
use Rattle.std.proofs.lemmas.Bool.Decides.{nat_tests}
use Rattle.std.proofs.lemmas.List.Splits.{slice_split_none, slice_split_at}
use Rattle.std.proofs.lemmas.List.Elements.{All-cons}
use Rattle.std.proofs.Math.Seq.{get_or-append_seam}
use Rattle.std.proofs.lemmas.Bool.{not-true}
use Rattle.script_grammar.specs.Words.{is_space, is_line_feed, is_plain, all_plain, has_items, begins_comment, before_comment, words_of, without_last_feed, lines_of, spaced, indented, unlines}
use Rattle.script_grammar.specs.Grammar.{is_name, is_name_byte, is_lower}
use Rattle.script_grammar.proofs.Truths.{both, both_true, le-from_true, le-true}

-- a printed character that is no space
abbrev pub is_printed : ℕ → Bool
is_printed b = nat_le 33 b && nat_le b 126

-- a word, and no comment
abbrev pub is_written : List ℕ → Bool
is_written [] = false
is_written (b ∷ rest) = not (b == 35) && list_all is_printed (b ∷ rest)

no_space : (b : ℕ) → is_printed b ≡ true → is_space b ≡ false
no_space b e = let two = both_true _ _ e in let low : 33 ≤ b = le-from_true 33 b two.0
    in apart (b == 9) (b == 13) (b == 32) (grind (arith, nat_tests)) (grind (arith, nat_tests)) (grind (arith, nat_tests))
  where
    apart : (x y z : Bool) → x ≡ false → y ≡ false → z ≡ false → (x || (y || z)) ≡ false
    apart false false false e f g = refl
    apart true y z e f g = e
    apart false true z e f g = f
    apart false false true e f g = g

no_spaces : (w : List ℕ) → list_all is_printed w ≡ true → All (λ b. is_space b ≡ false) w
no_spaces [] e = λ k d h. absurd (omega (arith, h))
no_spaces (b ∷ w) e = let two = both_true _ _ e in All-cons (λ b. is_space b ≡ false) b w (no_space b two.0) (no_spaces w two.1)

written_printed : (w : List ℕ) → is_written w ≡ true → list_all is_printed w ≡ true
written_printed [] e = cc
written_printed (b ∷ w) e = (both_true _ _ e).1

written_some : (w : List ℕ) → is_written w ≡ true → has_items w ≡ true
written_some [] e = cc
written_some (b ∷ w) e = refl

written_word : (w : List ℕ) → is_written w ≡ true → begins_comment w ≡ false
written_word [] e = refl
written_word (b ∷ w) e = not-true (b == 35) (both_true _ _ e).0

split_words : (w : List ℕ) (ws : List (List ℕ)) → list_all is_written (w ∷ ws) ≡ true → slice_split is_space (spaced (w ∷ ws)) ≡ w ∷ ws
split_words w [] h = slice_split_none is_space w (no_spaces w (written_printed w (both_true _ _ h).0))
split_words w (v ∷ ws) h =
    let two = both_true _ _ h in
    slice_split_at is_space w 32 (spaced (v ∷ ws)) (no_spaces w (written_printed w two.0)) refl ∙ ap (λ l. w ∷ l) (split_words v ws two.1)

kept : (ws : List (List ℕ)) → list_all is_written ws ≡ true → filter has_items ws ≡ ws
kept [] h = refl
kept (w ∷ ws) h = let two = both_true _ _ h in ap (λ b. if b then w ∷ filter has_items ws else filter has_items ws) (written_some w two.0)
    ∙ ap (λ l. w ∷ l) (kept ws two.1)

no_comment : (ws : List (List ℕ)) → list_all is_written ws ≡ true → before_comment ws ≡ ws
no_comment [] h = refl
no_comment (w ∷ ws) h = let two = both_true _ _ h in ap (λ b. if b then [] else w ∷ before_comment ws) (written_word w two.0)
    ∙ ap (λ l. w ∷ l) (no_comment ws two.1)

indentation : (n : ℕ) (text : List ℕ) → words_of (replicate n 32 ++ text) ≡ words_of text
indentation zero text = refl
indentation (suc n) text = indentation n text

-- a line's words are those that it was made of
pub words_of-indented : (depth : ℕ) (words : List (List ℕ)) → has_items words ≡ true → list_all is_written words ≡ true
    → words_of (indented depth words) ≡ words
words_of-indented depth [] some h = cc
words_of-indented depth (w ∷ ws) some h =
    indentation (2 * depth) (spaced (w ∷ ws))
    ∙ ap (λ l. before_comment (filter has_items l)) (split_words w ws h)
    ∙ ap before_comment (kept (w ∷ ws) h)
    ∙ no_comment (w ∷ ws) h

-- ---- plain lines

plain_byte : (b : ℕ) → is_printed b ≡ true → is_plain b ≡ true
plain_byte b e = let two = both_true _ _ e in let low : 33 ≤ b = le-from_true 33 b two.0
    in last (b == 9) (b == 13) (nat_le 32 b && nat_le b 126) (both (nat_le 32 b) (nat_le b 126) (le-true 32 b (omega (arith, low))) two.1)
  where
    last : (x y z : Bool) → z ≡ true → (x || (y || z)) ≡ true
    last true y z e = refl
    last false true z e = refl
    last false false z e = e

all_plain-append : (xs ys : List ℕ) → all_plain xs ≡ true → all_plain ys ≡ true → all_plain (xs ++ ys) ≡ true
all_plain-append [] ys e f = f
all_plain-append (x ∷ xs) ys e f = let two = both_true _ _ e in both (is_plain x) _ two.0 (all_plain-append xs ys two.1 f)

all_plain-printed : (w : List ℕ) → list_all is_printed w ≡ true → all_plain w ≡ true
all_plain-printed [] e = refl
all_plain-printed (b ∷ w) e = let two = both_true _ _ e in both (is_plain b) _ (plain_byte b two.0) (all_plain-printed w two.1)

all_plain-spaced : (ws : List (List ℕ)) → list_all is_written ws ≡ true → all_plain (spaced ws) ≡ true
all_plain-spaced [] e = refl
all_plain-spaced (w ∷ []) e = all_plain-printed w (written_printed w (both_true _ _ e).0)
all_plain-spaced (w ∷ (v ∷ ws)) e =
    let two = both_true _ _ e in
    all_plain-append w (32 ∷ spaced (v ∷ ws)) (all_plain-printed w (written_printed w two.0)) (all_plain-spaced (v ∷ ws) two.1)

all_plain-spaces : (n : ℕ) → all_plain (replicate n 32) ≡ true
all_plain-spaces zero = refl
all_plain-spaces (suc n) = all_plain-spaces n

pub all_plain-indented : (depth : ℕ) (ws : List (List ℕ)) → list_all is_written ws ≡ true → all_plain (indented depth ws) ≡ true
all_plain-indented depth ws e = all_plain-append (replicate (2 * depth) 32) (spaced ws) (all_plain-spaces (2 * depth))
    (all_plain-spaced ws e)

no_feed : (b : ℕ) → is_plain b ≡ true → is_line_feed b ≡ false
no_feed b e = by_test (b == 10) refl e
  where
    by_test : (t : Bool) → (b == 10) ≡ t → is_plain b ≡ true → t ≡ false
    by_test false f e = refl
    by_test true f e = let ten : b ≡ 10 = grind (arith, nat_tests) in absurd (not_plain (ap is_plain (sym ten) ∙ e))
      where
        not_plain : is_plain 10 ≡ true → ⊥
        not_plain h = cc

no_feeds : (l : List ℕ) → all_plain l ≡ true → All (λ b. is_line_feed b ≡ false) l
no_feeds [] e = λ k d h. absurd (omega (arith, h))
no_feeds (b ∷ l) e = let two = both_true _ _ e in All-cons (λ b. is_line_feed b ≡ false) b l (no_feed b two.0) (no_feeds l two.1)

-- ---- lines of a text

abbrev pub joined : List ℕ → List (List ℕ) → List ℕ
joined l [] = l
joined l (m ∷ ls) = l ++ 10 ∷ joined m ls

split_lines : (l : List ℕ) (ls : List (List ℕ)) → list_all all_plain (l ∷ ls) ≡ true → slice_split is_line_feed (joined l ls) ≡ l ∷ ls
split_lines l [] h = slice_split_none is_line_feed l (no_feeds l (both_true _ _ h).0)
split_lines l (m ∷ ls) h = let two = both_true _ _ h in slice_split_at is_line_feed l 10 (joined m ls) (no_feeds l two.0) refl
    ∙ ap (λ x. l ∷ x) (split_lines m ls two.1)

unlines-joined : (l : List ℕ) (ls : List (List ℕ)) → unlines (l ∷ ls) ≡ joined l ls ++ 10 ∷ []
unlines-joined l [] = refl
unlines-joined l (m ∷ ls) = ap (λ x. l ++ 10 ∷ x) (unlines-joined m ls) ∙ sym (append_assoc l (10 ∷ joined m ls) (10 ∷ []))

take-front : (xs : List ℕ) (b : ℕ) → take (length xs) (xs ++ b ∷ []) ≡ xs
take-front [] b = refl
take-front (x ∷ xs) b = ap (λ l. x ∷ l) (take-front xs b)

trimmed : (xs : List ℕ) → without_last_feed (xs ++ 10 ∷ []) ≡ xs
trimmed xs =
    let n : length (xs ++ 10 ∷ []) - 1 ≡ length xs = omega (arith, length-append xs (10 ∷ [])) in
    ap (λ k. if get_or (xs ++ 10 ∷ []) k 0 == 10 then take k (xs ++ 10 ∷ []) else xs ++ 10 ∷ []) n
    ∙ ap (λ b. if b == 10 then take (length xs) (xs ++ 10 ∷ []) else xs ++ 10 ∷ []) (get_or-append_seam xs 10 [] 0)
    ∙ take-front xs 10

-- lines that are joined by line feeds are those lines
pub lines_of-unlines : (l : List ℕ) (ls : List (List ℕ)) → list_all all_plain (l ∷ ls) ≡ true → lines_of (unlines (l ∷ ls)) ≡ l ∷ ls
lines_of-unlines l ls h = ap lines_of (unlines-joined l ls) ∙ ap (slice_split is_line_feed) (trimmed (joined l ls)) ∙ split_lines l ls h

-- ---- words that are written

letter : (b : ℕ) → is_lower b ≡ true → (97 ≤ b) × (b ≤ 122)
letter b e = let two = both_true _ _ e in (le-from_true 97 b two.0, le-from_true b 122 two.1)

printed_byte : (b : ℕ) → is_name_byte b ≡ true → is_printed b ≡ true
printed_byte b e = by_test (is_lower b) (nat_le 48 b && nat_le b 57) refl refl e
  where
    range : (b low high : ℕ) → 33 ≤ low → high ≤ 126 → low ≤ b → b ≤ high → is_printed b ≡ true
    range b low high l h m n = both (nat_le 33 b) (nat_le b 126) (le-true 33 b (omega (arith, l, m))) (le-true b 126 (omega (arith, h, n)))

    by_test : (x y : Bool) → is_lower b ≡ x → (nat_le 48 b && nat_le b 57) ≡ y → (x || (y || b == 95)) ≡ true → is_printed b ≡ true
    by_test true y f g e = let r = letter b f in range b 97 122 (omega arith) (omega arith) r.0 r.1
    by_test false true f g e = let two = both_true _ _ g in
        range b 48 57 (omega arith) (omega arith) (le-from_true 48 b two.0) (le-from_true b 57 two.1)
    by_test false false f g e = let is : b ≡ 95 = grind (arith, nat_tests)
        in range b 95 95 (omega arith) (omega arith) (omega (arith, is)) (omega (arith, is))

printed_bytes : (w : List ℕ) → list_all is_name_byte w ≡ true → list_all is_printed w ≡ true
printed_bytes [] e = refl
printed_bytes (b ∷ w) e = let two = both_true _ _ e in both (is_printed b) _ (printed_byte b two.0) (printed_bytes w two.1)

pub name_written : (w : List ℕ) → is_name w ≡ true → is_written w ≡ true
name_written [] e = cc
name_written (b ∷ w) e =
    let two = both_true _ _ e in
    let more = both_true _ _ two.1 in
    let r = letter b two.0 in
    let low : 97 ≤ b = r.0 in
    let high : b ≤ 122 = r.1 in
    let apart : not (b == 35) ≡ true = ap not (other b low) in
    both (not (b == 35)) _ apart (both (is_printed b) _ (both (nat_le 33 b) (nat_le b 126) (le-true 33 b (omega (arith, low)))
    (le-true b 126 (omega (arith, high)))) (printed_bytes w more.0))
  where
    other : (b : ℕ) → 97 ≤ b → (b == 35) ≡ false
    other b h = grind (arith, nat_tests)
