-- What is written as the grammar says is read at its place.
use Rattle.std.proofs.Common.{◌≡◌, ℕ, ◌<◌, ◌≤◌, ◌^◌, List, [], ◌∷◌, ◌++◌, refl, ap, sym, ◌∙◌, arith, Result, Ok, Err, Bool, true, false, Option, Some, None, length, get_or, if◌then◌else◌, ◌&&◌, nat_lt, nat_le, zero, suc}
use Rattle.std.specs.Prelude.{◌==◌, ◌||◌, not}
use Rattle.std.proofs.lemmas.Bool.Decides.{nat_tests}
use Rattle.std.proofs.lemmas.Slice.Eq.{bytes_eq-Decides}
use Rattle.std.proofs.lemmas.Fmt.{digits_decimal, digits_value-decimal, decimal_nonempty, length-decimal-le, first_decimal, decimal_digit}
use Rattle.std.proofs.lemmas.Str.Parse.{IsNumeralModel, numerals_by_value, tells_all_ascii_digits}
use Rattle.std.specs.Str.Parse.{digits_value}
use Rattle.std.specs.Fmt.{decimal}
use Rattle.std.specs.Str.{all_ascii_digits, bytes_eq}
use lib.Chars.{codes}
use Rattle.script_grammar.specs.declared.fault.FaultKind.{FaultKind}
use Rattle.script_grammar.specs.declared.fault.FaultKind.TheVariants.{UnknownWord, BadName, BadNumber, Recursive, Duplicate, Undeclared}
use Rattle.channel_model.specs.declared.acts.Kind.{Kind}
use Rattle.channel_model.specs.declared.acts.Kind.TheVariants.{Buffered, DropOldest, DropLatest, Signal}
use Rattle.script_grammar.specs.declared.instructions.Operand.{Operand}
use Rattle.script_grammar.specs.declared.instructions.Operand.TheVariants.{Number, It, Sum}
use Rattle.script_grammar.specs.Faults.{◌>>=◌}
use Rattle.script_grammar.specs.Programs.{name_of}
use Rattle.script_grammar.specs.Lines.{part, kind_words, operand_word}
use Rattle.script_grammar.specs.Blocks.{is_main, is_operand, is_new}
use Rattle.script_grammar.specs.Grammar.{is_name, is_fresh, is_kind, is_capacity, has_capacity, has_number, is_places}
use Rattle.script_grammar.specs.Places.{end_at, at_most, number_at, places_at, count_at, made, operand_at, kind_at, value_at, is_number, within, name_at, new_at, known_at, clause_at, awaitable_at, place_from, unless_found, if_found, other_than_main, launchable, target_at, job_at}
use Rattle.script_grammar.proofs.Truths.{both, both_true, le-true, lt-true, lt-from_true, le-from_true, same-from_true}
use Rattle.script_grammar.proofs.DistinctNames.{Distinct, fresh_none}

pub own : IsNumeralModel (λ ds. all_ascii_digits ds ≡ true) (digits_value 10)
own = numerals_by_value _ tells_all_ascii_digits

-- ---- names

name_again : (n : List ℕ) (rest : List (List ℕ)) → is_name n ≡ true → name_at (n ∷ rest) ≡ Ok (n, rest)
name_again n rest e = ap (λ b. if◌then◌else◌ {A = Result (List ℕ × List (List ℕ)) FaultKind} b (Ok (n, rest)) (Err BadName)) e

pub new_again : (names : List (List ℕ)) (n : List ℕ) (rest : List (List ℕ)) → is_fresh names n ≡ true
    → new_at names (n ∷ rest) ≡ Ok (n, rest)
new_again names n rest is =
    let f = fresh_none names n is in
    ap (λ (r : Result (List ℕ × List (List ℕ)) FaultKind). r >>= λ x. unless_found (place_from 0 x.0 names) x) (name_again n rest f.0)
    ∙ ap (λ o. unless_found {X = List ℕ × List (List ℕ)} o (n, rest)) f.1

pub known_again : (names : List (List ℕ)) (i : ℕ) (rest : List (List ℕ)) → Distinct names → i < length names
    → known_at names (name_of names i ∷ rest) ≡ Ok (i, rest)
known_again names i rest is h =
    let f = is i h in
    ap (λ (r : Result (List ℕ × List (List ℕ)) FaultKind). r >>= λ x. if_found (place_from 0 x.0 names) x.1)
    (name_again (name_of names i) rest f.0)
    ∙ ap (λ o. if_found {X = List (List ℕ)} o rest) f.1

pub clause_again : (names : List (List ℕ)) (clauses : Option (List ℕ)) (i : ℕ) (rest : List (List ℕ)) → Distinct names → i < length names
    → is_new i clauses ≡ true → clause_at names clauses (name_of names i ∷ rest) ≡ Ok (i, rest)
clause_again names clauses i rest is h new =
    ap (λ (r : Result (ℕ × List (List ℕ)) FaultKind). r >>= λ c. if is_new c.0 clauses then Ok c else Err Duplicate)
    (known_again names i rest is h)
    ∙ ap (λ b. if◌then◌else◌ {A = Result (ℕ × List (List ℕ)) FaultKind} b (Ok (i, rest)) (Err Duplicate)) new

pub awaitable_again : (names : List (List ℕ)) (awaitable : List Bool) (i : ℕ) (rest : List (List ℕ)) → Distinct names → i < length names
    → get_or awaitable i false ≡ true → awaitable_at names awaitable (name_of names i ∷ rest) ≡ Ok (i, rest)
awaitable_again names awaitable i rest is h may =
    ap (λ (r : Result (ℕ × List (List ℕ)) FaultKind). r >>= λ c. if get_or awaitable c.0 false then Ok c else Err Undeclared)
    (known_again names i rest is h)
    ∙ ap (λ b. if◌then◌else◌ {A = Result (ℕ × List (List ℕ)) FaultKind} b (Ok (i, rest)) (Err Undeclared)) may

pub other_again : (name : List ℕ) (rest : List (List ℕ)) → is_main name ≡ false → other_than_main (name ∷ rest) ≡ Ok tt
other_again name rest e = ap (λ b. if◌then◌else◌ {A = Result (Unit {0}) FaultKind} b (Err Recursive) (Ok tt)) e

pub target_again : (blocks : List (List ℕ)) (own : List ℕ) (i : ℕ) (rest : List (List ℕ)) → Distinct blocks → i < length blocks
    → is_main (name_of blocks i) ≡ false → target_at blocks own (name_of blocks i ∷ rest) ≡ Ok (i, rest)
target_again blocks own i rest is h other =
    let f = is i h in
    ap (λ (r : Result (List ℕ × List (List ℕ)) FaultKind). r >>=
    λ n. launchable (bytes_eq own n.0) (is_main n.0) (place_from 0 n.0 blocks) n.1) (name_again (name_of blocks i) rest f.0)
    ∙ ap (λ o. launchable {X = List (List ℕ)} (bytes_eq own (name_of blocks i)) (is_main (name_of blocks i)) o rest) f.1
    ∙ ap (λ m. launchable {X = List (List ℕ)} (bytes_eq own (name_of blocks i)) m (Some i) rest) other

pub job_again : (names : List (List ℕ)) (n : List ℕ) → is_fresh names n ≡ true → job_at names (codes "as" ∷ n ∷ []) ≡ Ok (Some n)
job_again names n is = ap (λ (r : Result (List ℕ × List (List ℕ)) FaultKind). r >>= λ x. end_at x.1 >>= λ u. Ok (Some x.0))
    (new_again names n [] is)

pub at_most_again : (k : FaultKind) (limit count : ℕ) → count ≤ limit → at_most k limit count ≡ Ok tt
at_most_again k limit count h = ap (λ b. if◌then◌else◌ {A = Result (Unit {0}) FaultKind} b (Ok tt) (Err k)) (le-true count limit h)

-- ---- numbers

one_digit : (n : ℕ) (b : ℕ) → (b ≡ 48 → n ≡ 0) → ((n == 0) || not (b == 48)) ≡ true
one_digit n b alone = by_test (b == 48) refl
  where
    by_test : (t : Bool) → (b == 48) ≡ t → ((n == 0) || not t) ≡ true
    by_test true e = ap (λ m. (m == 0) || not true) (alone (grind (arith, nat_tests)))
    by_test false e = either (n == 0)
      where
        either : (a : Bool) → (a || not false) ≡ true
        either true = refl
        either false = refl

is_number-from : (w : List ℕ) → all_ascii_digits w ≡ true → 0 < length w → length w ≤ 10 → (get_or w 0 0 ≡ 48 → length w ≡ 1)
    → is_number w ≡ true
is_number-from [] digits some few alone = absurd (omega arith)
is_number-from (b ∷ rest) digits some few alone =
    both (all_ascii_digits (b ∷ rest)) _ digits (both (nat_lt (length rest) 10) _ (lt-true (length rest) 10 (omega (arith, few)))
    (one_digit (length rest) b (λ e. omega (arith, alone e))))

decimal_alone : (v : ℕ) → v < 2 ^ 32 → get_or (decimal v) 0 0 ≡ 48 → length (decimal v) ≡ 1
decimal_alone zero h e = ap length (decimal_digit 0 (omega arith))
decimal_alone (suc v) h e = let first = first_decimal (suc v) (omega arith) (omega (arith, h)) in absurd (omega (arith, first, e))

is_number-decimal : (v : ℕ) → v < 2 ^ 32 → is_number (decimal v) ≡ true
is_number-decimal v h =
    is_number-from (decimal v) (digits_decimal own v (omega (arith, h))) (decimal_nonempty v (omega (arith, h)))
    (length-decimal-le 10 v (omega arith) (omega (arith, h)) (omega (arith, h))) (decimal_alone v h)

value_again : (v : ℕ) → v < 2 ^ 32 → value_at (decimal v) ≡ Some v
value_again v h =
    let same = digits_value-decimal own v (omega (arith, h)) in
    ap (λ n. if is_number (decimal v) && nat_lt n (2 ^ 32) then Some n else None) same
    ∙ ap (λ b. if b then Some v else None) (both (is_number (decimal v)) (nat_lt v (2 ^ 32)) (is_number-decimal v h) (lt-true v (2 ^ 32) h))

pub number_again : (low high v : ℕ) (rest : List (List ℕ)) → low ≤ v → v ≤ high → v < 2 ^ 32
    → number_at low high (decimal v ∷ rest) ≡ Ok (v, rest)
number_again low high v rest from to h =
    ap (λ o. within {X = List (List ℕ)} low high o rest) (value_again v h)
    ∙ ap (λ b. if◌then◌else◌ {A = Result (ℕ × List (List ℕ)) FaultKind} b (Ok (v, rest)) (Err BadNumber))
    (both (nat_le low v) (nat_le v high) (le-true low v from) (le-true v high to))

-- a number is none of the other words
other_word : (w e : List ℕ) → is_number w ≡ true → is_number e ≡ false → bytes_eq w e ≡ false
other_word w e number none = by_test (bytes_eq w e) refl
  where
    by_test : (b : Bool) → bytes_eq w e ≡ b → b ≡ false
    by_test true t = sym number ∙ ap is_number ((bytes_eq-Decides w e).0 t) ∙ none
    by_test false t = refl

pub operand_again : (v : Operand) (rest : List (List ℕ)) → is_operand v ≡ true → operand_at (operand_word v ∷ rest) ≡ Ok (v, rest)
operand_again (Number v) rest e =
    let number = made {X = Operand} (λ n. Number n) (number_at 0 4294967295 (decimal v ∷ rest)) in
    let h = lt-from_true v (2 ^ 32) e in
    ap (λ b. if◌then◌else◌ {A = Result (Operand × List (List ℕ)) FaultKind} b (Ok (It, rest))
    (if bytes_eq (decimal v) (codes "sum") then Ok (Sum, rest) else number))
    (other_word (decimal v) (codes "it") (is_number-decimal v h) refl)
    ∙ ap (λ b. if◌then◌else◌ {A = Result (Operand × List (List ℕ)) FaultKind} b (Ok (Sum, rest)) number)
    (other_word (decimal v) (codes "sum") (is_number-decimal v h) refl)
    ∙ ap (λ (r : Result (ℕ × List (List ℕ)) FaultKind). made {X = Operand} (λ n. Number n) r)
    (number_again 0 4294967295 v rest (omega arith) (omega (arith, h)) h)
operand_again other rest h = refl

-- ---- optional parts

abbrev alone : ℕ → Result (ℕ × List (List ℕ)) FaultKind
alone n = Ok (n, [])

abbrev bounded : ℕ → List (List ℕ) → Result (Kind × List (List ℕ)) FaultKind
bounded n rest = Ok (Buffered n, rest)

pub places_again : (places : Bool) (n : ℕ) → is_places n ≡ true → has_number 16384 n places ≡ true
    → places_at (part places (codes "places" ∷ decimal n ∷ [])) ≡ Ok (n, [])
places_again false n is usual = ap (λ (k : ℕ). alone k) (sym (same-from_true n 16384 usual))
places_again true n is usual =
    let two = both_true _ _ is in
    let high : n ≤ 1048576 = le-from_true n 1048576 two.1 in
    number_again 1 1048576 n [] (le-from_true 1 n two.0) high (omega (arith, high))

pub count_again : (count : Bool) (n : ℕ) → (nat_le 1 n && nat_le n 16000) ≡ true → has_number 1 n count ≡ true
    → count_at (part count (decimal n ∷ [])) ≡ Ok (n, [])
count_again false n is usual = ap (λ (k : ℕ). alone k) (sym (same-from_true n 1 usual))
count_again true n is usual =
    let two = both_true _ _ is in
    let high : n ≤ 16000 = le-from_true n 16000 two.1 in
    number_again 1 16000 n [] (le-from_true 1 n two.0) high (omega (arith, high))

capacity_again : (make : ℕ → Kind) (k : ℕ) (rest : List (List ℕ)) → is_capacity k ≡ true
    → made {X = Kind} make (number_at 1 65535 (decimal k ∷ rest)) ≡ Ok (make k, rest)
capacity_again make k rest is =
    let two = both_true _ _ is in
    let high : k ≤ 65535 = le-from_true k 65535 two.1 in
    ap (λ (r : Result (ℕ × List (List ℕ)) FaultKind). made {X = Kind} make r)
    (number_again 1 65535 k rest (le-from_true 1 k two.0) high (omega (arith, high)))

pub kind_again : (version : ℕ) (kind : Kind) (full places : Bool) (word : List ℕ) → is_kind version kind ≡ true
    → has_capacity kind full ≡ true → kind_at version (kind_words kind full ++ part places (codes "places" ∷ word ∷ [])) ≡
    Ok (kind, part places (codes "places" ∷ word ∷ []))
unfolding kind_at
kind_again version (Buffered k) false false word is has = ap (λ n. bounded n []) (sym (same-from_true k 64 has))
kind_again version (Buffered k) false true word is has = ap (λ n. bounded n (codes "places" ∷ word ∷ [])) (sym (same-from_true k 64 has))
kind_again version (Buffered k) true places word is has =
    let rest = part places (codes "places" ∷ word ∷ []) in
    let two = both_true _ _ is in
    let high : k ≤ 65535 = le-from_true k 65535 two.1 in
    ap (λ b. if◌then◌else◌ {A = Result (Kind × List (List ℕ)) FaultKind} b (Ok (Buffered 64, decimal k ∷ rest))
    (made {X = Kind} (λ n. Buffered n) (number_at 1 65535 (decimal k ∷ rest))))
    (other_word (decimal k) (codes "places") (is_number-decimal k (omega (arith, high))) refl)
    ∙ capacity_again (λ n. Buffered n) k rest is
kind_again version (DropOldest k) full places word is has =
    capacity_again (λ n. DropOldest n) k (part places (codes "places" ∷ word ∷ [])) is
kind_again version (DropLatest k) full places word is has =
    let rest = part places (codes "places" ∷ word ∷ []) in
    let two = both_true _ _ is in
    ap (λ b. if◌then◌else◌ {A = Result (Kind × List (List ℕ)) FaultKind} b
    (made {X = Kind} (λ n. DropLatest n) (number_at 1 65535 (decimal k ∷ rest))) (Err UnknownWord)) two.0
    ∙ capacity_again (λ n. DropLatest n) k rest two.1
kind_again version Signal full places word is has = cc
kind_again version other full places word is has = refl
