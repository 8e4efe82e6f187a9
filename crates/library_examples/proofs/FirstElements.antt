-- So many items of a stream are taken, and no more.
use Rattle.std.specs.Prelude.{◌≡◌, ◌≤◌, ◌++◌, ℕ, List, [], length, None}
use Rattle.std.proofs.Common.{sym, ap, ◌∙◌, subst, arith, inl, inr}
use Rattle.futures.specs.Runs.{Runs, Takes}

pub at_most : {A : Type 0} (source : Runs A) (n most : ℕ) (items before xs : List A) → n ≡ most → before ≡ [] → items ≡ before ++ xs
    → Takes n source xs None → length items ≤ most
at_most source n most items before xs e f g (inl h) = subst (λ l. length l ≤ most) (sym (g ∙ ap (λ l. l ++ xs) f)) (omega (arith, e, h.0))
at_most source n most items before xs e f g (inr h) = subst (λ l. length l ≤ most) (sym (g ∙ ap (λ l. l ++ xs) f)) (omega (arith, e, h.0))
