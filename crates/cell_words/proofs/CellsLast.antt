-- What a cell and a wait say as a history goes on.
use Rattle.std.proofs.Common.{◌≡◌, ◌⊎◌, ℕ, ◌+◌, ◌<◌, ◌≤◌, ◌==◌, Bool, true, false, List, ◌++◌, if◌then◌else◌, Option, Some, None, is_some, sym, refl, ap, ◌∙◌, subst, ⊎_elim, inl, inr, arith}
use Rattle.co_base.specs.declared.names.WaitId.{WaitId}
use Rattle.channel_model.specs.declared.acts.Act.{Act}
use Rattle.channel_model.specs.declared.acts.Act.TheVariants.{Put, Offer, Await, Take, Drop, Spurn, Close, Void, Drain}
use Rattle.channel_model.specs.declared.acts.Entry.{Entry}
use Rattle.channel_model.specs.declared.standing.Resolution.{Resolution}
use Rattle.channel_model.specs.declared.standing.Resolution.TheVariants as resolved
use Rattle.channel_model.specs.Channels.{Shape, State, Wait, places_at}
use Rattle.channel_model.specs.Effects.{after}
use Rattle.channel_model.specs.Needs.{Needs, HasPlace}
use Rattle.channel_model.specs.Histories.{replay, Legal}
use Rattle.channel_model.specs.Answers.{IsResolvedWait}
use Rattle.channel_model.proofs.Others.{other_keeps}
use Rattle.channel_model.proofs.Resolutions.{resolved_stays}
use Rattle.word_rules.specs.Cells.{Cell, receiver, offer, buffered, emptied, set_cell, standing, offer_of, offer_by, offer_after, emptied_if, mark, Board, blank, cell_of, is_used}
use Rattle.cell_words.proofs.ListsOfCells.{Tied, by_spot, cell_else}
use Rattle.channel_model.proofs.Sound.{given_keeps, channel_lasts}
use Rattle.cell_words.proofs.CellsGiveLists.{BoardLasts, board_lasts, board_state}
use Rattle.cell_words.proofs.CellsTellFacts.{used_given}

-- a cell that is used changes by a removal alone
pub used_stays : (shape : Shape) (P : Cell → Type 0) (b : Board) (e : Entry) (c p : ℕ) → Tied b → Needs shape b.state e.who e.act
    → is_used (b.cells c p) ≡ true
    → P (b.cells c p) → ((q : ℕ) → P (b.cells c p) → P (emptied_if (standing b.state.waits q (b.cells c p)) (b.cells c p)))
    → P (mark b.state b.cells e.who e.act c p)
used_stays shape P b e c p t n u h taken = go e.who e.act n
  where
    lt : p < (b.state.channels c).next
    lt = used_given b c p t u

    placed : (d q places : ℕ) (y : Cell) → HasPlace places q (b.state.channels d) → P (set_cell b.cells d q y c p)
    placed d q places y h' =
        subst P (sym (cell_else b.cells d q y c p (λ m k. let f : q ≡ (b.state.channels c).next = h'.first
        ∙ ap (λ (z : ℕ). (b.state.channels z).next) m in omega (arith, f, k, lt)))) h

    ended : (d : ℕ) (y : Cell) → P (set_cell b.cells d (b.state.channels d).next y c p)
    ended d y =
        subst P (sym (cell_else b.cells d (b.state.channels d).next y c p
        (λ m k. let f : (b.state.channels d).next ≡ (b.state.channels c).next = ap (λ (z : ℕ). (b.state.channels z).next) m
        in omega (arith, f, k, lt)))) h

    removed : (d q : ℕ) → P (set_cell b.cells d q (emptied_if (standing b.state.waits q (b.cells d q)) (b.cells d q)) c p)
    removed d q = by_spot (λ x z y. P (b.cells x z) → ((r : ℕ) → P (b.cells x z)
        → P (emptied_if (standing b.state.waits r (b.cells x z)) (b.cells x z)))
        → P y) b.cells d q _ (λ h k. k q h) c p (λ ne h k. h) h taken

    go : (who : ℕ) (act : Act) → Needs shape b.state who act → P (mark b.state b.cells who act c p)
    go who (Put d q v) n = placed d q (places_at shape d) _ n.1
    go who (Offer d q v w k) n = placed d q (places_at shape d) _ n.1
    go who (Await d q w k) n = placed d q (places_at shape d) _ n.1
    go who (Take d q v) n = removed d q
    go who (Drop d q v) n = removed d q
    go who (Spurn d q v) n = removed d q
    go who (Close d v) n = ended d _
    go who (Void d) n = ended d _
    go who (Drain d q v) n = removed d q
    go who other n = h

-- a receiver's cell stays
pub receiver_lasts : (shape : Shape) (c p who : ℕ) (w : WaitId) (k : ℕ) → BoardLasts shape (λ b. b.cells c p ≡ receiver who w k)
receiver_lasts shape c p who w k = record {
  step = λ b e s t n h. used_stays shape (λ y. y ≡ receiver who w k) b e c p t n (ap is_used h) h
      (λ q is. ap (λ (y : Cell). emptied_if (standing b.state.waits q y) y) is);
}

-- a wait that was resolved stays so
resolved_step : (shape : Shape) (w : WaitId) (s : State) (who : ℕ) (act : Act) → Needs shape s who act → IsResolvedWait (s.waits w)
    → IsResolvedWait ((after s who act).waits w)
resolved_step shape w s who act n h = other_keeps shape (who + 1) IsResolvedWait (resolved_stays (who + 1)) who w s act (λ e. omega arith) n
    h

pub resolved_lasts : (shape : Shape) (w : WaitId) → BoardLasts shape (λ b. IsResolvedWait (b.state.waits w))
resolved_lasts shape w = record { step = λ b e s t n h. resolved_step shape w b.state e.who e.act n h }

-- an offer's cell stays, unless its wait was resolved
pub offer_lasts : (shape : Shape) (c p v who : ℕ) (w : WaitId) (k : ℕ)
    → BoardLasts shape (λ b. (b.cells c p ≡ offer v who w k) ⊎ IsResolvedWait (b.state.waits w))
offer_lasts shape c p v who w k = record {
  step = λ b e s t n h. ⊎_elim (λ x. stays b e t n x)
      (λ x. inr (resolved_step shape w b.state e.who e.act n x)) h;
}
  where
    unless : (b : Board) (q : ℕ) (y : Option Wait) → (emptied_if (offer_of q v w k y) (offer v who w k) ≡ offer v who w k)
        ⊎ IsResolvedWait y
    unless b q None = inl refl
    unless b q (Some x) = by_how x.resolved refl
      where
        by_how : (how : Option Resolution) → x.resolved ≡ how → (emptied_if (offer_by q v w k how) (offer v who w k) ≡ offer v who w k)
            ⊎ IsResolvedWait (Some x)
        by_how None e = inl refl
        by_how (Some how) e = inr (ap is_some e)

    stays : (b : Board) (e : Entry) → Tied b → Needs shape b.state e.who e.act → b.cells c p ≡ offer v who w k
        → ((mark b.state b.cells e.who e.act c p) ≡ offer v who w k) ⊎ IsResolvedWait ((after b.state e.who e.act).waits w)
    stays b e t n x = used_stays shape (λ y. (y ≡ offer v who w k)
        ⊎ IsResolvedWait ((after b.state e.who e.act).waits w)) b e c p t n (ap is_used x) (inl x)
        (λ q h. ⊎_elim
        (λ (is : b.cells c p ≡ offer v who w k). ⊎_elim (λ z. inl (ap (λ (y : Cell). emptied_if (standing b.state.waits q y) y) is ∙ z))
        (λ z. inr (resolved_step shape w b.state e.who e.act n z)) (unless b q (b.state.waits w)))
        (λ r. inr r) h)

-- ---- the same of histories

pub resolved_more : (shape : Shape) (w : WaitId) (xs ys : List Entry) → Legal shape (xs ++ ys) → IsResolvedWait ((replay xs).waits w)
    → IsResolvedWait ((replay (xs ++ ys)).waits w)
resolved_more shape w xs ys l h = subst (λ (s : State). IsResolvedWait (s.waits w)) (board_state blank (xs ++ ys))
    (board_lasts shape (λ b. IsResolvedWait (b.state.waits w)) (resolved_lasts shape w) xs ys l
    (subst (λ (s : State). IsResolvedWait (s.waits w)) (sym (board_state blank xs)) h))

pub receiver_more : (shape : Shape) (c p who k : ℕ) (w : WaitId) (xs ys : List Entry) → Legal shape (xs ++ ys)
    → cell_of xs c p ≡ receiver who w k → cell_of (xs ++ ys) c p ≡ receiver who w k
receiver_more shape c p who k w xs ys l h = board_lasts shape (λ b. b.cells c p ≡ receiver who w k) (receiver_lasts shape c p who w k) xs ys
    l h

pub offer_more : (shape : Shape) (c p v who k : ℕ) (w : WaitId) (xs ys : List Entry) → Legal shape (xs ++ ys)
    → cell_of xs c p ≡ offer v who w k → (cell_of (xs ++ ys) c p ≡ offer v who w k) ⊎ IsResolvedWait ((replay (xs ++ ys)).waits w)
offer_more shape c p v who k w xs ys l h = ⊎_elim (λ x. inl x)
    (λ x. inr (subst (λ (s : State). IsResolvedWait (s.waits w)) (board_state blank (xs ++ ys)) x))
    (board_lasts shape (λ b. (b.cells c p ≡ offer v who w k)
    ⊎ IsResolvedWait (b.state.waits w)) (offer_lasts shape c p v who w k) xs ys l (inl h))

-- an offer's cell, whatever became of its wait
pub offer_used_lasts : (shape : Shape) (c p v who : ℕ) (w : WaitId) (k : ℕ)
    → BoardLasts shape (λ b. (b.cells c p ≡ offer v who w k) ⊎ (b.cells c p ≡ emptied v))
offer_used_lasts shape c p v who w k = record {
  step = λ b e s t n h. ⊎_elim (λ x. stays b e t n x)
      (λ x. inr (used_stays shape (λ y. y ≡ emptied v) b e c p t n (ap is_used x) x
      (λ q is. ap (λ (y : Cell). emptied_if (standing b.state.waits q y) y) is))) h;
}
  where
    of_how : (q : ℕ) (how : Resolution) → (emptied_if (offer_after q v k how) (offer v who w k) ≡ offer v who w k)
        ⊎ (emptied_if (offer_after q v k how) (offer v who w k) ≡ emptied v)
    of_how q (resolved.Handed j x) = inl refl
    of_how q (resolved.Taken j) = inl refl
    of_how q (resolved.Admitted j) = go (j == k)
      where
        go : (b : Bool) → (emptied_if (if b then Some (record { place = q; value = v; holder = None }) else None) (offer v who w k) ≡
            offer v who w k) ⊎ (emptied_if (if b then Some (record { place = q; value = v; holder = None }) else None) (offer v who w k) ≡
            emptied v)
        go true = inr refl
        go false = inl refl
    of_how q (resolved.Closed j x) = inl refl
    of_how q (resolved.Withdrawn why) = inl refl
    of_how q resolved.Voided = inl refl

    of_parts : (q : ℕ) (how : Option Resolution) → (emptied_if (offer_by q v w k how) (offer v who w k) ≡ offer v who w k)
        ⊎ (emptied_if (offer_by q v w k how) (offer v who w k) ≡ emptied v)
    of_parts q None = inl refl
    of_parts q (Some how) = of_how q how

    of_wait : (q : ℕ) (y : Option Wait) → (emptied_if (offer_of q v w k y) (offer v who w k) ≡ offer v who w k)
        ⊎ (emptied_if (offer_of q v w k y) (offer v who w k) ≡ emptied v)
    of_wait q None = inl refl
    of_wait q (Some x) = of_parts q x.resolved

    stays : (b : Board) (e : Entry) → Tied b → Needs shape b.state e.who e.act → b.cells c p ≡ offer v who w k
        → (mark b.state b.cells e.who e.act c p ≡ offer v who w k) ⊎ (mark b.state b.cells e.who e.act c p ≡ emptied v)
    stays b e t n x = used_stays shape (λ y. (y ≡ offer v who w k) ⊎ (y ≡ emptied v)) b e c p t n (ap is_used x) (inl x)
        (λ q h. subst (λ (y : Cell). (emptied_if (standing b.state.waits q y) y ≡ offer v who w k)
        ⊎ (emptied_if (standing b.state.waits q y) y ≡ emptied v)) (sym x) (of_wait q (b.state.waits w)))

pub offer_used_more : (shape : Shape) (c p v who k : ℕ) (w : WaitId) (xs ys : List Entry) → Legal shape (xs ++ ys)
    → cell_of xs c p ≡ offer v who w k → (cell_of (xs ++ ys) c p ≡ offer v who w k) ⊎ (cell_of (xs ++ ys) c p ≡ emptied v)
offer_used_more shape c p v who k w xs ys l h = board_lasts shape (λ b. (b.cells c p ≡ offer v who w k)
    ⊎ (b.cells c p ≡ emptied v)) (offer_used_lasts shape c p v who w k) xs ys l (inl h)

-- places that were given out
pub given_more : (shape : Shape) (p c : ℕ) (xs ys : List Entry) → Legal shape (xs ++ ys) → p ≤ ((replay xs).channels c).next
    → p ≤ ((replay (xs ++ ys)).channels c).next
given_more shape p c xs ys l h = channel_lasts shape (λ d ch. p ≤ ch.next) (given_keeps shape p) c xs (xs ++ ys) (ys, refl) l h

pub kept_lasts : (shape : Shape) (c p v : ℕ) → BoardLasts shape (λ b. (b.cells c p ≡ buffered v) ⊎ (b.cells c p ≡ emptied v))
kept_lasts shape c p v = record {
  step = λ b e s t n h. ⊎_elim
      (λ x. used_stays shape (λ y. (y ≡ buffered v) ⊎ (y ≡ emptied v)) b e c p t n (ap is_used x) (inl x)
      (λ q is. inr (ap (λ (y : Cell). emptied_if (standing b.state.waits q y) y) x)))
      (λ x. used_stays shape (λ y. (y ≡ buffered v) ⊎ (y ≡ emptied v)) b e c p t n (ap is_used x) (inr x)
      (λ q is. inr (ap (λ (y : Cell). emptied_if (standing b.state.waits q y) y) x))) h;
}

pub kept_more : (shape : Shape) (c p v : ℕ) (xs ys : List Entry) → Legal shape (xs ++ ys) → (cell_of xs c p ≡ buffered v)
    ⊎ (cell_of xs c p ≡ emptied v) → (cell_of (xs ++ ys) c p ≡ buffered v) ⊎ (cell_of (xs ++ ys) c p ≡ emptied v)
kept_more shape c p v xs ys l h = board_lasts shape (λ b. (b.cells c p ≡ buffered v)
    ⊎ (b.cells c p ≡ emptied v)) (kept_lasts shape c p v) xs ys l h

pub held_more : (shape : Shape) (c p v who k : ℕ) (w : WaitId) (xs ys : List Entry) → Legal shape (xs ++ ys)
    → (cell_of xs c p ≡ offer v who w k) ⊎ (cell_of xs c p ≡ emptied v) → (cell_of (xs ++ ys) c p ≡ offer v who w k)
    ⊎ (cell_of (xs ++ ys) c p ≡ emptied v)
held_more shape c p v who k w xs ys l h = board_lasts shape (λ b. (b.cells c p ≡ offer v who w k)
    ⊎ (b.cells c p ≡ emptied v)) (offer_used_lasts shape c p v who w k) xs ys l h
