-- Lines that stand below what they presuppose, one after another.
use Rattle.std.proofs.Common.{◌≡◌, ◌∙◌, ◌≤◌, ◌<◌, ◌-◌, ℕ, List, [], ◌∷◌, length, Bool, true, false, ◌&&◌, ap, sym, arith, get_or, take, drop}
use Rattle.std.proofs.lemmas.List.{take_all}
use Rattle.report_picture.specs.declared.columns.Wanted.{Wanted}
use Rattle.report_picture.specs.declared.picture.Drawn.{Drawn}
use Rattle.report_picture.specs.declared.sources.Sources.{Sources}
use Rattle.report_picture.specs.Order.{all_stand_below, stands_below}
use Rattle.report_reader.specs.Reports.{Line as Told}

all_but_first : {A : Type 0} (x : A) (xs : List A) → take (length (x ∷ xs) - 1) xs ≡ xs
all_but_first x xs = take_all (length (x ∷ xs) - 1) xs (omega arith)

pub goes_on : (wanted : Wanted) (tags : List ℕ) (lines : List Told) (drawn rest : List Drawn) (d : Drawn) (places : List Sources)
    (s : Sources) (is total : Bool) → 1 ≤ length rest → 1 ≤ length places
    → is ≡ stands_below wanted tags lines drawn (get_or rest 0 d) (get_or places 0 s) → is ≡ true
    → all_stand_below wanted tags lines drawn rest places ≡ total
    → all_stand_below wanted tags lines drawn (take (length rest - 1) (drop 1 rest)) (take (length places - 1) (drop 1 places)) ≡ total
goes_on wanted tags lines drawn [] d places s is total some also stands held so_far = absurd (omega (arith, some))
goes_on wanted tags lines drawn (x ∷ xs) d [] s is total some also stands held so_far = absurd (omega (arith, also))
goes_on wanted tags lines drawn (x ∷ xs) d (y ∷ ys) s is total some also stands held so_far =
    ap (λ r. all_stand_below wanted tags lines drawn r (take (length (y ∷ ys) - 1) ys)) (all_but_first x xs)
    ∙ ap (λ p. all_stand_below wanted tags lines drawn xs p) (all_but_first y ys)
    ∙ sym (ap (λ b. b && all_stand_below wanted tags lines drawn xs ys) (sym stands ∙ held)) ∙ so_far

pub none_placed : (wanted : Wanted) (tags : List ℕ) (lines : List Told) (drawn rest : List Drawn) (places : List Sources) (total : Bool)
    → 1 ≤ length rest → length places < 1 → all_stand_below wanted tags lines drawn rest places ≡ total → false ≡ total
none_placed wanted tags lines drawn [] places total some none so_far = absurd (omega (arith, some))
none_placed wanted tags lines drawn (x ∷ xs) (y ∷ ys) total some none so_far = absurd (omega (arith, none))
none_placed wanted tags lines drawn (x ∷ xs) [] total some none so_far = so_far

pub one_above : (wanted : Wanted) (tags : List ℕ) (lines : List Told) (drawn rest : List Drawn) (d : Drawn) (places : List Sources)
    (s : Sources) (is total : Bool) → 1 ≤ length rest → 1 ≤ length places
    → is ≡ stands_below wanted tags lines drawn (get_or rest 0 d) (get_or places 0 s) → is ≡ false
    → all_stand_below wanted tags lines drawn rest places ≡ total → false ≡ total
one_above wanted tags lines drawn [] d places s is total some also stands missed so_far = absurd (omega (arith, some))
one_above wanted tags lines drawn (x ∷ xs) d [] s is total some also stands missed so_far = absurd (omega (arith, also))
one_above wanted tags lines drawn (x ∷ xs) d (y ∷ ys) s is total some also stands missed so_far =
    sym (ap (λ b. b && all_stand_below wanted tags lines drawn xs ys) (sym stands ∙ missed)) ∙ so_far
