-- Texts of a list of elements, each with a comma behind it, that are added one by one.
use Rattle.std.proofs.Common.{◌≤◌, ◌-◌, ℕ, List, ◌++◌, length, map, codes, subst, get_or, take, drop}
use Rattle.gathered.specs.declared.text.Text.{Text}
use Rattle.gathered.specs.Texts.{Adds, GoesOn}
use Rattle.gathered.proofs.Adding.{goes_on}
use Rattle.report_picture.specs.Traces.{elements_text}
use Rattle.report_picture.proofs.Placing.{split_off}

-- an element of the rest is added
pub element_added : {A : Type 0} {a b c : Text} {all : List ℕ} (f : A → List ℕ) (rest : List A) (d : A) → 1 ≤ length rest
    → GoesOn a b (elements_text (map f rest)) all → Adds b c (f (get_or rest 0 d) ++ codes ",\n")
    → GoesOn a c (elements_text (map f (take (length rest - 1) (drop 1 rest)))) all
element_added {A} {a} {b} {c} {all} f rest d some so_far added =
    goes_on {x = f (get_or rest 0 d) ++ codes ",\n"} (elements_text (map f (take (length rest - 1) (drop 1 rest))))
    (subst (λ r. GoesOn a b (elements_text (map f r)) all) (split_off rest d some) so_far) added
