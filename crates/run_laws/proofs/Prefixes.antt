-- What goes on from a list, and what lies between two that are one.
use Rattle.std.specs.Prelude.{◌≡◌, ◌≤◌, List, [], ◌++◌, length}
use Rattle.std.proofs.Common.{sym, ap, ◌∙◌, append_assoc, arith, length-append}
use Rattle.std.proofs.lemmas.List.{append-nil, nil_from_length}
use mathlib.Core.List.{IsPrefix}
use Rattle.call_meaning.proofs.PointsOfMoments.{longer_list}

pub prefix_then : {A : Type 0} (xs ys zs : List A) → IsPrefix xs ys → IsPrefix ys zs → IsPrefix xs zs
prefix_then xs ys zs (a, e) (b, f) = (a ++ b, sym (append_assoc xs a b) ∙ ap (λ l. l ++ b) e ∙ f)

prefix_back : {A : Type 0} (xs ys : List A) → IsPrefix xs ys → length ys ≤ length xs → ys ≡ xs
prefix_back xs ys (a, e) le =
    let parts = length-append xs a in
    let whole : length (xs ++ a) ≡ length ys = ap length e in
    let none : a ≡ [] = nil_from_length a (omega (arith, parts, whole, le)) in
    sym e ∙ ap (λ l. xs ++ l) none ∙ append-nil xs

-- what lies between two that are one is that one
pub between_same : {A : Type 0} (xs ys zs : List A) → IsPrefix xs ys → IsPrefix ys zs → zs ≡ xs → ys ≡ xs
between_same xs ys zs p q e =
    let a = longer_list ys zs q in
    let b : length zs ≡ length xs = ap length e in
    prefix_back xs ys p (omega (arith, a, b))
