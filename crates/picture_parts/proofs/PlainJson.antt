-- Texts in JSON, in parts, and those that are written as they are.
use Rattle.std.proofs.Common.{◌≡◌, ◌≤◌, ◌<◌, ◌^◌, ◌++◌, ◌∷◌, [], ℕ, List, arith, refl, ap, sym, ◌∙◌, append_assoc, le-leb, lt-ltb, ne_eqb}
use Rattle.std.specs.Fmt.{decimal}
use Rattle.std.specs.Str.Parse.{AllDigits}
use Rattle.std.proofs.lemmas.Fmt.{decimal_is_IsNumeral}
use Rattle.std.proofs.lemmas.Str.Parse.{digit_from_value}
use lib.Chars.{codes}
use Rattle.picture_parts.specs.Members.{escape, escaped}

escaped_append : (a b : List ℕ) → escaped (a ++ b) ≡ escaped a ++ escaped b
escaped_append [] b = refl
escaped_append (c ∷ a) b = ap (λ t. escape c ++ t) (escaped_append a b) ∙ sym (append_assoc (escape c) (escaped a) (escaped b))

digit_is_plain : (c : ℕ) → 48 ≤ c → c ≤ 57 → escape c ≡ c ∷ []
digit_is_plain c low high =
    rw (ne_eqb c 34 (λ e. omega (arith, e)), ne_eqb c 92 (λ e. omega (arith, e)), le-leb 32 c (omega arith), lt-ltb c 127 (omega arith))
    refl

digits_are_plain : (ds : List ℕ) → AllDigits 10 ds → escaped ds ≡ ds
digits_are_plain [] are = refl
digits_are_plain (c ∷ ds) are =
    let digit = digit_from_value c are.0 in
    ap (λ t. t ++ escaped ds) (digit_is_plain c digit.0 digit.1) ∙ ap (λ t. c ∷ t) (digits_are_plain ds are.1)

-- a name, and a number behind it
pub plain_heading : (name : List ℕ) (n : ℕ) → n < 2 ^ 64 → escaped name
    ++ (codes " " ++ decimal n) ≡ escaped (name ++ (codes " " ++ decimal n))
plain_heading name n fits =
    ap (λ d. escaped name ++ (codes " " ++ d)) (sym (digits_are_plain (decimal n) (decimal_is_IsNumeral n fits).0.1))
    ∙ sym (escaped_append name (codes " " ++ decimal n))
