-- A word that is written as a number, and its value.
use Rattle.std.proofs.Common.{◌≡◌, ℕ, ◌<◌, ◌^◌, List, [], ◌∷◌, Bool, true, false, refl, ap, arith, Some, None, Result, Ok, Err, length, if◌then◌else◌, ◌&&◌, nat_lt}
use Rattle.std.proofs.lemmas.Bool.Decides.{nat_tests}
use Rattle.std.proofs.lemmas.Str.Parse.{IsNumeralModel, numerals_by_value, tells_all_ascii_digits, parse_digits}
use Rattle.std.proofs.lemmas.Fmt.{IsAscii-from_digits}
use Rattle.std.proofs.lemmas.Str.{IsUtf8-from_ascii}
use Rattle.std.specs.Str.{all_ascii_digits, IsUtf8}
use Rattle.std.specs.Str.Parse.{digits_value, ParsesUnsigned}
use Rattle.std.specs.Result.{result_ok}
use Rattle.std.proofs.lemmas.Bool.{and_parts}
use Rattle.script_grammar.specs.Places.{is_number, value_at}
use Rattle.script_grammar.proofs.Truths.{lt-true}

pub own : IsNumeralModel (λ ds. all_ascii_digits ds ≡ true) (digits_value 10)
own = numerals_by_value _ tells_all_ascii_digits

pub number_digits : (word : List ℕ) → is_number word ≡ true → all_ascii_digits word ≡ true
number_digits [] n = cc
number_digits (b ∷ rest) n = (and_parts _ _ n).0

pub number_some : (word : List ℕ) → is_number word ≡ true → 0 < length word
number_some [] n = cc
number_some (b ∷ rest) n = omega arith

pub number_utf8 : (word : List ℕ) → is_number word ≡ true → IsUtf8 word
number_utf8 word n = IsUtf8-from_ascii word (IsAscii-from_digits word (own.to word (number_digits word n)))

chosen : (a b : Bool) (v x : ℕ) → a ≡ true → b ≡ true → x ≡ v → Some x ≡ (if a && b then Some v else None)
chosen true true v x p q e = ap (λ n. Some n) e
chosen false b v x p q e = cc
chosen true false v x p q e = cc

refused : (a b : Bool) (v : ℕ) → b ≡ false → None ≡ (if a && b then Some v else None)
refused true true v q = cc
refused false b v q = refl
refused true false v q = refl

above : (m n : ℕ) → ((m < n) → ⊥) → nat_lt m n ≡ false
above m n h = grind (arith, nat_tests)

pub parsed : {E : Type 0} (word : List ℕ) (r : Result ℕ E) → is_number word ≡ true → ParsesUnsigned 32 10 word r
    → result_ok r ≡ value_at word
parsed {E} word (Ok x) n h =
    let k = parse_digits own {E = E} 32 word (Ok x) h (number_digits word n) in
    chosen (is_number word) (nat_lt (digits_value 10 word) (2 ^ 32)) (digits_value 10 word) x n (lt-true _ _ k.0.1) k.1
parsed {E} word (Err e) n h =
    let k = parse_digits own {E = E} 32 word (Err e) h (number_digits word n) in
    refused (is_number word) (nat_lt (digits_value 10 word) (2 ^ 32)) (digits_value 10 word)
    (above _ _ (λ small. k (number_some word n, small)))
