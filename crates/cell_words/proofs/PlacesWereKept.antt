-- A place that was kept once was so for good.
use Rattle.std.proofs.Common.{◌≡◌, ℕ, List, ◌++◌, refl, sym, subst, ⊎_elim, inl, inr}
use Rattle.channel_model.specs.declared.acts.Entry.{Entry}
use Rattle.channel_model.specs.declared.standing.Resolution.TheVariants as resolved
use Rattle.channel_model.specs.Channels.{Shape}
use Rattle.channel_model.specs.Histories.{replay, Legal}
use Rattle.channel_model.proofs.Later.{resolved_later}
use Rattle.word_rules.specs.Cells.{Cell, free, receiver, offer, buffered, emptied, closed_by, voided_by, cell_of}
use Rattle.word_rules.specs.Words.{WasKept, WereKept}
use Rattle.cell_words.proofs.CellsLast.{offer_used_more, kept_more}

was_kept_more : (shape : Shape) (c p : ℕ) (xs ys : List Entry) → Legal shape (xs ++ ys) → (y : Cell) → cell_of xs c p ≡ y
    → WasKept (replay xs).waits y → WasKept (replay (xs ++ ys)).waits (cell_of (xs ++ ys) c p)
was_kept_more shape c p xs ys l free e h = absurd h
was_kept_more shape c p xs ys l (receiver who w k) e h = absurd h
was_kept_more shape c p xs ys l (offer v who w k) e h = ⊎_elim
    (λ (x : cell_of (xs ++ ys) c p ≡ offer v who w k). subst (WasKept (replay (xs ++ ys)).waits) (sym x)
    (resolved_later shape xs ys w (resolved.Admitted k) l h))
    (λ (x : cell_of (xs ++ ys) c p ≡ emptied v). subst (WasKept (replay (xs ++ ys)).waits) (sym x) tt)
    (offer_used_more shape c p v who k w xs ys l e)
was_kept_more shape c p xs ys l (buffered v) e h = ⊎_elim
    (λ (x : cell_of (xs ++ ys) c p ≡ buffered v). subst (WasKept (replay (xs ++ ys)).waits) (sym x) tt)
    (λ (x : cell_of (xs ++ ys) c p ≡ emptied v). subst (WasKept (replay (xs ++ ys)).waits) (sym x) tt)
    (kept_more shape c p v xs ys l (inl e))
was_kept_more shape c p xs ys l (emptied v) e h = ⊎_elim
    (λ (x : cell_of (xs ++ ys) c p ≡ buffered v). subst (WasKept (replay (xs ++ ys)).waits) (sym x) tt)
    (λ (x : cell_of (xs ++ ys) c p ≡ emptied v). subst (WasKept (replay (xs ++ ys)).waits) (sym x) tt)
    (kept_more shape c p v xs ys l (inr e))
was_kept_more shape c p xs ys l (closed_by v) e h = absurd h
was_kept_more shape c p xs ys l (voided_by v) e h = absurd h

pub were_kept_more : (shape : Shape) (c from to : ℕ) (xs ys : List Entry) → Legal shape (xs ++ ys) → WereKept xs c from to
    → WereKept (xs ++ ys) c from to
were_kept_more shape c from to xs ys l h p le lt = was_kept_more shape c p xs ys l (cell_of xs c p) refl (h p le lt)
