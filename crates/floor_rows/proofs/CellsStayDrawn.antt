-- Who came to a cell has come to it.
use Rattle.std.specs.Prelude.{◌≡◌, ◌⊎◌, ℕ, ◌<◌, List, [], ◌∷◌, ◌++◌}
use Rattle.std.proofs.Common.{⊎_elim, sym, subst}
use Rattle.std.proofs.lemmas.List.Elements.{All-weaker, All-push}
use Rattle.counted_cells.specs.declared.counted.Counted.{Counted}
use Rattle.counted_cells.specs.declared.pass.CountedPass.{CountedPass}
use Rattle.counted_cells.specs.Seen.{now_in}
use Rattle.counted_cells.specs.Passes.{seen_by, SamePass}
use Rattle.counted_cells.specs.Answers.{HasCome, MayGiveUp, Stays}
use Rattle.floor_rows.specs.CellsDrawn.{Came, AllCame}

came_still : (counted : Counted) (p q : CountedPass) → SamePass p q → Stays p.number (seen_by p) (seen_by q) → (i : ℕ) → Came counted p i
    → Came counted q i
came_still counted p q same stays i h = (h.0, subst (λ n. HasCome n i (now_in (seen_by q))) (sym same.0) (stays.come i h.1))

pub all_still : (counted : Counted) (p q : CountedPass) (places : List ℕ) → SamePass p q → Stays p.number (seen_by p) (seen_by q)
    → AllCame counted p places → AllCame counted q places
all_still counted p q places same stays h = All-weaker (Came counted p) (Came counted q) (came_still counted p q same stays) places h

-- and it waits in one cell more, if that was noted
pub one_more : (counted : Counted) (p q : CountedPass) (places after : List ℕ) (i : ℕ) → SamePass p q
    → Stays p.number (seen_by p) (seen_by q) → AllCame counted p places → i < counted.cells → MayGiveUp p.number i (now_in (seen_by q))
    → (after ≡ places ++ i ∷ []) ⊎ (after ≡ places) → AllCame counted q after
one_more counted p q places after i same stays h lt may = ⊎_elim
    (λ (e : after ≡ places ++ i ∷ []). subst (AllCame counted q) (sym e)
    (All-push (Came counted q) places i (all_still counted p q places same stays h)
    (lt, subst (λ n. HasCome n i (now_in (seen_by q))) (sym same.0) may.come)))
    (λ (e : after ≡ places). subst (AllCame counted q) (sym e) (all_still counted p q places same stays h))
