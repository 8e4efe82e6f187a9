-- What lines launch, while they are gone through.
use Rattle.std.proofs.Common.{◌≡◌, ℕ, zero, suc, ◌+◌, ◌≤◌, List, [], ◌∷◌, ◌++◌, length, length-append, refl, ap, ap₂, sym, ◌∙◌, arith, append_assoc, append-nil, take, drop}
use Rattle.std.proofs.lemmas.List.{take_all}
use Rattle.script_grammar.specs.Tags.{times_over}
use Rattle.script_reader.specs.declared.launches.Opened.{Opened}
use Rattle.script_reader.specs.Launching.{AreNested}

-- ---- copies

times_over-nil : (n : ℕ) → times_over n [] ≡ []
times_over-nil zero = refl
times_over-nil (suc n) = times_over-nil n

times_over-push : (n : ℕ) (js : List ℕ) → times_over n js ++ js ≡ js ++ times_over n js
times_over-push zero js = sym (append-nil js)
times_over-push (suc n) js = append_assoc js (times_over n js) js ∙ ap (λ l. js ++ l) (times_over-push n js)

drop_all : (n : ℕ) (xs : List ℕ) → length xs ≤ n → drop n xs ≡ []
drop_all zero [] h = refl
drop_all (suc n) [] h = refl
drop_all zero (x ∷ xs) h = absurd (omega (arith, h))
drop_all (suc n) (x ∷ xs) h = drop_all n xs (omega (arith, h))

-- nothing stands behind the end, however often
pub repeat-nothing : (from turns : ℕ) (all : List ℕ) → from ≡ length all → all ≡ take from all ++ times_over turns (drop from all)
repeat-nothing from turns all h =
    sym (ap₂ (λ (a b : List ℕ). a ++ b) (take_all from all (omega (arith, h))) (ap (times_over turns) (drop_all from all (omega (arith, h)))
    ∙ times_over-nil turns) ∙ append-nil all)

-- one copy more
pub repeat-more : (turn : ℕ) (front part now : List ℕ) → now ≡ front ++ times_over turn part → now ++ part ≡ front
    ++ times_over (turn + 1) part
repeat-more turn front part now is =
    let next : turn + 1 ≡ suc turn = omega arith in
    ap (λ l. l ++ part) is ∙ append_assoc front (times_over turn part) part
    ∙ ap (λ l. front ++ l) (times_over-push turn part ∙ ap (λ n. times_over n part) (sym next))

-- ---- more blocks behind

nested-more : (outer : List Opened) (n m : ℕ) → n ≤ m → AreNested outer n → AreNested outer m
nested-more [] n m le h = tt
nested-more (o ∷ outer) n m le h = (omega (arith, le, h.0), h.1)

pub nested-append : (outer : List Opened) (blocks more : List ℕ) → AreNested outer (length blocks)
    → AreNested outer (length (blocks ++ more))
nested-append outer blocks more h = nested-more outer (length blocks) (length (blocks ++ more)) (omega (arith, length-append blocks more)) h
