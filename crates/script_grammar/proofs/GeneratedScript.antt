-- The generated script is a program, and its text spells it.
use Rattle.std.proofs.Common.{◌≡◌, ℕ, ◌+◌, ◌*◌, ◌<◌, ◌≤◌, ◌^◌, List, [], ◌∷◌, ◌++◌, length, refl, ap, sym, ◌∙◌, arith, true, nat_lt, nat_le, subst, length-append}
use Rattle.std.specs.Fmt.{decimal, digits}
use Rattle.std.specs.List.{concat}
use Rattle.std.proofs.lemmas.Fmt.{length-decimal-le}
use lib.Chars.{codes}
use Rattle.script_grammar.specs.Programs.{Block}
use Rattle.script_grammar.specs.Blocks.{opened}
use Rattle.script_grammar.specs.Reads.{closed_main, spawned_weight}
use Rattle.script_grammar.specs.Grammar.{is_fresh, is_places, Spells}
use Rattle.script_grammar.specs.Canonical.{canonical_text}
use Rattle.script_grammar.specs.WellFormed.{lines_fit, weight_in, weights_from, blocks_fit, IsProgram}
use Rattle.script_grammar.specs.Generated.{places_for, sender, mapper, consumer, root, generated, text_parts, generated_text}
use Rattle.script_grammar.proofs.Truths.{both, le-true}
use Rattle.script_grammar.specs.Tags.{job_count}
use Rattle.script_grammar.proofs.JobsCounted.{whole_load-job_count}
use Rattle.script_grammar.proofs.TextPrinted.{Spells-canonical_text}

-- ---- its text

pub canonical_text-generated : (n : ℕ) → canonical_text (generated n) ≡ generated_text n
unfolding digits
canonical_text-generated n = refl

-- ---- its senders

no_more : (w m : ℕ) → w + m * 0 ≡ w
no_more w m = omega arith

sender-weighs : (weights name : List ℕ) (value n : ℕ) → weight_in weights (sender name value n) ≡ 1
sender-weighs weights name value n = no_more (1 + n * 1 * 0) (n * 1) ∙ no_more 1 (n * 1)

light : (w : ℕ) → w ≡ 1 → nat_le w 16000 ≡ true
light w e = ap (λ k. nat_le k 16000) e

sender-fits : (before : List (List ℕ)) (weights name : List ℕ) (value n : ℕ) → 1 ≤ n → n ≤ 1000000 → nat_lt value (2 ^ 32) ≡ true
    → lines_fit 2 before weights [] (opened name) (sender name value n).code ≡ true
sender-fits before weights name value n low high small =
    both _ _ (both _ _ refl (both _ _ (both (nat_le 1 n) (nat_le n 1000000) (le-true 1 n low) (le-true n 1000000 high)) refl))
    (both _ _ refl
    (both _ _ (both _ _ refl (both _ _ small refl))
    (both _ _ (both _ _ refl (both _ _ refl (light (1 + n * 1 * 0) (no_more 1 (n * 1)))))
    (both _ _ refl
    (both _ _ (both _ _ refl (both _ _ refl (light (1 + n * 1 * 0 + n * 1 * 0) (no_more (1 + n * 1 * 0) (n * 1) ∙ no_more 1 (n * 1)))))
    refl)))))

-- a sender before other blocks
before-blocks : (before : List (List ℕ)) (weights name : List ℕ) (value n : ℕ) (bs : List Block) → 1 ≤ n → n ≤ 1000000
    → is_fresh before name ≡ true → nat_lt value (2 ^ 32) ≡ true → blocks_fit 2 (before ++ name ∷ []) (weights ++ 1 ∷ []) bs ≡ true
    → blocks_fit 2 before weights (sender name value n ∷ bs) ≡ true
before-blocks before weights name value n bs low high fresh small rest =
    both (is_fresh before name) _ fresh
    (both (lines_fit 2 before weights [] (opened name) (sender name value n).code) _
    (sender-fits before weights name value n low high small)
    (ap (λ w. blocks_fit 2 (before ++ name ∷ []) (weights ++ w ∷ []) bs) (sender-weighs weights name value n) ∙ rest))

before-weights : (weights name : List ℕ) (value n : ℕ) (bs : List Block)
    → weights_from weights (sender name value n ∷ bs) ≡ weights_from (weights ++ 1 ∷ []) bs
before-weights weights name value n bs = ap (λ w. weights_from (weights ++ w ∷ []) bs) (sender-weighs weights name value n)

-- ---- the program

abbrev others : List Block
others = mapper ∷ consumer ∷ root ∷ []

generated-blocks : (n : ℕ) → 1 ≤ n → n ≤ 1000000 → blocks_fit 2 [] [] (generated n).blocks ≡ true
generated-blocks n low high =
    let p1 = codes "p1" in
    let p2 = codes "p2" in
    let p3 = codes "p3" in
    let p4 = codes "p4" in
    before-blocks [] [] p1 1 n (sender p2 2 n ∷ sender p3 3 n ∷ sender p4 4 n ∷ others) low high refl refl
    (before-blocks (p1 ∷ []) (1 ∷ []) p2 2 n (sender p3 3 n ∷ sender p4 4 n ∷ others) low high refl refl
    (before-blocks (p1 ∷ p2 ∷ []) (1 ∷ 1 ∷ []) p3 3 n (sender p4 4 n ∷ others) low high refl refl
    (before-blocks (p1 ∷ p2 ∷ p3 ∷ []) (1 ∷ 1 ∷ 1 ∷ []) p4 4 n others low high refl refl refl)))

generated-weights : (n : ℕ) → weights_from [] (generated n).blocks ≡ 1 ∷ 1 ∷ 1 ∷ 1 ∷ 1 ∷ 1 ∷ 11 ∷ []
generated-weights n =
    let p2 = codes "p2" in
    let p3 = codes "p3" in
    let p4 = codes "p4" in
    before-weights [] (codes "p1") 1 n (sender p2 2 n ∷ sender p3 3 n ∷ sender p4 4 n ∷ others)
    ∙ before-weights (1 ∷ []) p2 2 n (sender p3 3 n ∷ sender p4 4 n ∷ others)
    ∙ before-weights (1 ∷ 1 ∷ []) p3 3 n (sender p4 4 n ∷ others)
    ∙ before-weights (1 ∷ 1 ∷ 1 ∷ []) p4 4 n others

few_places : (n : ℕ) → n ≤ 100000 → is_places (places_for n) ≡ true
few_places n high = both (nat_le 1 (places_for n)) (nat_le (places_for n) 1048576) (le-true 1 (places_for n) (omega arith))
    (le-true (places_for n) 1048576 (omega (arith, high)))

pub generated-is_program : (n : ℕ) → 1 ≤ n → n ≤ 100000 → IsProgram (generated n)
generated-is_program n low high =
    let places = few_places n high in
    record {
      version = refl;
      few_channels = omega arith;
      channel_names = refl;
      channels = both (is_places (places_for n)) _ places (both (is_places (places_for n)) true places refl);
      few_places = omega (arith, high);
      blocks = generated-blocks n low (omega (arith, high));
      main = refl;
      spawns = refl;
      load = omega (arith, ap (λ ws. closed_main (generated n).blocks ws + spawned_weight ws []) (generated-weights n));
    }

-- ---- how long its text is

lengths : List (List ℕ) → ℕ
lengths [] = 0
lengths (x ∷ xs) = length x + lengths xs

length-concat : (xs : List (List ℕ)) → length (concat xs) ≡ lengths xs
unfolding lengths
length-concat [] = refl
length-concat (x ∷ xs) = omega (arith, length-append x (concat xs), length-concat xs)

short_decimal : (n : ℕ) → n < 10 ^ 10 → length (decimal n) ≤ 10
short_decimal n h = length-decimal-le 10 n (omega arith) h (omega (arith, h))

short_text : (n : ℕ) → n ≤ 100000 → length (generated_text n) ≤ 1048576
unfolding lengths
short_text n high =
    omega (
      arith,
      length-concat (text_parts n),
      short_decimal n (omega (arith, high)),
      short_decimal (places_for n) (omega (arith, high)),
      short_decimal 1 (omega arith),
      short_decimal 2 (omega arith),
      short_decimal 3 (omega arith),
      short_decimal 4 (omega arith),
    )

pub Spells-generated_text : (n : ℕ) → 1 ≤ n → n ≤ 100000 → Spells (generated_text n) (generated n)
Spells-generated_text n low high =
    let same = canonical_text-generated n in
    subst (λ text. Spells text (generated n)) same
    (Spells-canonical_text (generated n) (generated-is_program n low high) (omega (arith, ap length same, short_text n high)))

pub job_count-generated : (n : ℕ) → 1 ≤ n → n ≤ 100000 → job_count (generated n) ≡ 11
job_count-generated n low high =
    sym (whole_load-job_count (generated n) (generated-is_program n low high))
    ∙ ap (λ ws. closed_main (generated n).blocks ws + spawned_weight ws []) (generated-weights n)
