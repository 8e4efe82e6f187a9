-- Texts that are no markup, in parts, and those that are written as they are.
use Rattle.std.proofs.Common.{◌≡◌, ◌≤◌, ◌<◌, ◌^◌, ◌++◌, ◌∷◌, [], ℕ, List, arith, refl, ap, sym, ◌∙◌, append_assoc, ne_eqb, length, false, true≢false, ◌==◌}
use Rattle.std.specs.Fmt.{decimal}
use Rattle.std.specs.Str.Parse.{AllDigits}
use Rattle.std.proofs.lemmas.Fmt.{decimal_is_IsNumeral}
use Rattle.std.proofs.lemmas.Str.Parse.{digit_from_value}
use lib.Chars.{codes}
use Rattle.gathered.specs.declared.text.Text.{Text}
use Rattle.gathered.specs.Texts.{Adds}
use Rattle.gathered.proofs.Adding.{adds, adds_same}
use Rattle.picture_parts.specs.Markup.{escape, escaped, title_text}
use Rattle.picture_parts.specs.Names.{with_source}

-- a text that is no markup, in two parts
pub escaped_append : (a b : List ℕ) → escaped (a ++ b) ≡ escaped a ++ escaped b
escaped_append [] b = refl
escaped_append (c ∷ a) b = ap (λ t. escape c ++ t) (escaped_append a b) ∙ sym (append_assoc (escape c) (escaped a) (escaped b))

-- one piece of such a text, and then another
pub adds_escaped : {a b c : Text} (x y : List ℕ) → Adds a b (escaped x) → Adds b c (escaped y) → Adds a c (escaped (x ++ y))
adds_escaped x y p q = adds_same (sym (escaped_append x y)) (adds p q)

-- such a text, and then a letter and a number
pub adds_step : {a b c : Text} (t letter n : List ℕ) → escaped letter ≡ letter → Adds a b (escaped t)
    → Adds b c (letter ++ escaped n) → Adds a c (escaped (t ++ letter ++ n))
adds_step t letter n plain p q =
    adds_same
    (sym (append_assoc (escaped t) letter (escaped n))
    ∙ ap (λ l. escaped t ++ l ++ escaped n) (sym plain)
    ∙ ap (λ l. l ++ escaped n) (sym (escaped_append t letter)) ∙ sym (escaped_append (t ++ letter) n))
    (adds p q)

regroup_lines : (o e n f c : List ℕ) → o ++ e ++ n ++ f ++ c ≡ o ++ (e ++ (n ++ f)) ++ c
regroup_lines o e n f c = simp append_assoc

-- a title of two lines
pub two_lines : (line source : List ℕ) → (length source == 0) ≡ false
    → codes "<title>" ++ escaped line ++ codes "\n" ++ escaped source ++ codes "</title>" ≡ title_text (with_source line source)
two_lines line [] some = absurd (true≢false some)
two_lines [] (b ∷ source) some = refl
two_lines (c ∷ line) (b ∷ source) some =
    regroup_lines (codes "<title>") (escaped (c ∷ line)) (codes "\n") (escaped (b ∷ source)) (codes "</title>")
    ∙ ap (λ t. codes "<title>" ++ t ++ codes "</title>") (sym (escaped_append (c ∷ line) (codes "\n" ++ (b ∷ source))))

digit_is_plain : (c : ℕ) → 48 ≤ c → c ≤ 57 → escape c ≡ c ∷ []
digit_is_plain c low high =
    rw (
      ne_eqb c 60 (λ e. omega (arith, e)),
      ne_eqb c 62 (λ e. omega (arith, e)),
      ne_eqb c 38 (λ e. omega (arith, e)),
      ne_eqb c 34 (λ e. omega (arith, e)),
    ) refl

digits_are_plain : (ds : List ℕ) → AllDigits 10 ds → escaped ds ≡ ds
digits_are_plain [] are = refl
digits_are_plain (c ∷ ds) are =
    let digit = digit_from_value c are.0 in
    ap (λ t. t ++ escaped ds) (digit_is_plain c digit.0 digit.1) ∙ ap (λ t. c ∷ t) (digits_are_plain ds are.1)

-- a number in decimal is no markup
pub decimal_is_plain : (n : ℕ) → n < 2 ^ 64 → escaped (decimal n) ≡ decimal n
decimal_is_plain n fits = digits_are_plain (decimal n) (decimal_is_IsNumeral n fits).0.1

-- a name, and a number behind it
pub plain_heading : (name : List ℕ) (n : ℕ) → n < 2 ^ 64 → escaped name
    ++ (codes " " ++ decimal n) ≡ escaped (name ++ (codes " " ++ decimal n))
plain_heading name n fits =
    ap (λ d. escaped name ++ (codes " " ++ d)) (sym (decimal_is_plain n fits)) ∙ sym (escaped_append name (codes " " ++ decimal n))
