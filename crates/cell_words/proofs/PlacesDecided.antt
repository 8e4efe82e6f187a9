-- A place of which is decided whether its element was kept stays as it was decided, and so does a count of such places.
use Rattle.std.proofs.Common.{◌≡◌, ◌⊎◌, ℕ, zero, suc, ◌+◌, ◌==◌, Bool, true, false, true≢false, not, List, ◌++◌, if◌then◌else◌, Option, Some, None, sym, refl, ap, ◌∙◌, subst, ⊎_elim, inl, inr, arith, eq-eqb, ◌/◌, ◌%◌}
use Rattle.std.proofs.lemmas.Bool.{eqb-true}
use Rattle.std.proofs.lemmas.Option.{same_Some}
use Rattle.co_base.specs.declared.names.WaitId.{WaitId}
use Rattle.channel_model.specs.declared.acts.Entry.{Entry}
use Rattle.channel_model.specs.declared.standing.Resolution.{Resolution}
use Rattle.channel_model.specs.declared.standing.Resolution.TheVariants as resolved
use Rattle.channel_model.specs.Channels.{Shape, State, Wait, start, kind_at, suspends, spurns}
use Rattle.channel_model.specs.Effects.{after}
use Rattle.channel_model.specs.Needs.{Needs}
use Rattle.channel_model.specs.Histories.{replay, replay_from, Legal, LegalFrom}
use Rattle.channel_model.specs.Laws.{IsResolvedAs}
use Rattle.channel_model.proofs.Histories.{LegalFrom-parts}
use Rattle.channel_model.proofs.Later.{resolved_later}
use Rattle.channel_model.proofs.ResolvedAs.{resolved_lasts}
use Rattle.channel_model.proofs.Sound.{Sound}
use Rattle.channel_model.proofs.Stood.{stood_later}
use Rattle.word_rules.specs.Cells.{Cell, free, receiver, offer, buffered, emptied, closed_by, voided_by, standing, offer_of, offer_by, offer_after, emptied_if, mark, Board, blank, cell_of, is_used}
use Rattle.word_rules.specs.Words.{one_if, kept_after, kept_by, kept_of, kept_put, kept_in, was_over, fate, add_kept, kept_among, WereDecided, IsMark}
use Rattle.cell_words.proofs.ListsOfCells.{Tied}
use Rattle.cell_words.proofs.CellsGiveLists.{BoardLasts, board_lasts, board_state}
use Rattle.cell_words.proofs.CellsLast.{used_stays, kept_more}
use Rattle.cell_words.proofs.CellsTellFacts.{now, tied_now, used_given}
use Rattle.cell_words.proofs.HeldWhereSendsWait.{is_offer, never_held}
use Rattle.cell_words.proofs.KeptBehind.{waits_keeps}

-- ---- tests

pub one_true : (b : Bool) → b ≡ true → one_if b ≡ 1
one_true true e = refl
one_true false e = cc

pub one_false : (b : Bool) → b ≡ false → one_if b ≡ 0
one_false true e = cc
one_false false e = refl

put_true : (o b : Bool) → kept_put o ≡ Some b → Some (not o) ≡ Some b
put_true true b e = cc
put_true false b e = e

-- ---- whether an element was one too many stays

legal_before : (shape : Shape) (xs ys : List Entry) → Legal shape (xs ++ ys) → Legal shape xs
unfolding replay_from LegalFrom
legal_before shape xs ys l = (LegalFrom-parts shape start xs ys l).0

over_more : (shape : Shape) (c p : ℕ) (xs ys : List Entry) → Legal shape (xs ++ ys) → is_used (cell_of xs c p) ≡ true
    → was_over shape (xs ++ ys) c p ≡ was_over shape xs c p
over_more shape c p xs ys l used = ap (spurns (kind_at shape c))
    (stood_later shape xs ys c p l (used_given (now xs) c p (tied_now shape xs (legal_before shape xs ys l)) used))

-- an offer that waits is none
never_over : (shape : Shape) (c p v who k : ℕ) (w : WaitId) (log : List Entry) → Legal shape log → cell_of log c p ≡ offer v who w k
    → (n : ℕ) → spurns (kind_at shape c) n ≡ false
never_over shape c p v who k w log l e = go (suspends (kind_at shape c)) refl
  where
    go : (b : Bool) → suspends (kind_at shape c) ≡ b → (n : ℕ) → spurns (kind_at shape c) n ≡ false
    go true h = waits_keeps (kind_at shape c) h
    go false h = absurd (true≢false (sym (ap is_offer e) ∙ never_held shape c p h log l))

-- an element that was removed stays so
removed_lasts : (shape : Shape) (c p v : ℕ) → BoardLasts shape (λ b. b.cells c p ≡ emptied v)
removed_lasts shape c p v = record {
  step = λ b e s t n h. used_stays shape (λ y. y ≡ emptied v) b e c p t n (ap is_used h) h
      (λ q is. ap (λ (y : Cell). emptied_if (standing b.state.waits q y) y) is);
}

removed_more : (shape : Shape) (c p v : ℕ) (xs ys : List Entry) → Legal shape (xs ++ ys) → cell_of xs c p ≡ emptied v
    → cell_of (xs ++ ys) c p ≡ emptied v
removed_more shape c p v xs ys l h = board_lasts shape (λ b. b.cells c p ≡ emptied v) (removed_lasts shape c p v) xs ys l h

-- ---- a held offer's cell is emptied only after it was admitted

module _ (shape : Shape) (c p v who : ℕ) (w : WaitId) (k : ℕ) where
  abbrev StaysOrAdmitted : (WaitId → Option Wait) → Cell → Type 0
  StaysOrAdmitted waits y = (y ≡ offer v who w k) ⊎ ((y ≡ emptied v) × IsResolvedAs (resolved.Admitted k) (waits w))

  of_how : (waits : WaitId → Option Wait) (q : ℕ) (how : Resolution)
      → (Some how ≡ Some (resolved.Admitted k) → IsResolvedAs (resolved.Admitted k) (waits w))
      → StaysOrAdmitted waits (emptied_if (offer_after q v k how) (offer v who w k))
  of_how waits q (resolved.Admitted j) g = go (j == k) refl
    where
      go : (b : Bool) → (j == k) ≡ b
          → StaysOrAdmitted waits (emptied_if (if b then Some (record { place = q; value = v; holder = None }) else None) (offer v who w k))
      go true e = inr (refl, g (ap (λ (n : ℕ). Some (resolved.Admitted n)) (eqb-true j k e)))
      go false e = inl refl
  of_how waits q other g = inl refl

  of_parts : (waits : WaitId → Option Wait) (q : ℕ) (how : Option Resolution)
      → (how ≡ Some (resolved.Admitted k) → IsResolvedAs (resolved.Admitted k) (waits w))
      → StaysOrAdmitted waits (emptied_if (offer_by q v w k how) (offer v who w k))
  of_parts waits q None g = inl refl
  of_parts waits q (Some how) g = of_how waits q how g

  of_wait : (waits : WaitId → Option Wait) (q : ℕ) (y : Option Wait)
      → (IsResolvedAs (resolved.Admitted k) y → IsResolvedAs (resolved.Admitted k) (waits w))
      → StaysOrAdmitted waits (emptied_if (offer_of q v w k y) (offer v who w k))
  of_wait waits q None g = inl refl
  of_wait waits q (Some x) g = of_parts waits q x.resolved g

  abbrev StaysOnBoard : Board → Type 0
  StaysOnBoard b = StaysOrAdmitted b.state.waits (b.cells c p)

  lasts_admitted : (b : Board) (e : Entry) → Sound shape b.state → Needs shape b.state e.who e.act
      → IsResolvedAs (resolved.Admitted k) (b.state.waits w) → IsResolvedAs (resolved.Admitted k) ((after b.state e.who e.act).waits w)
  lasts_admitted b e s n h = (resolved_lasts shape (resolved.Admitted k) w).step b.state e.who e.act s n h

  stays : (b : Board) (e : Entry) → Sound shape b.state → Tied b → Needs shape b.state e.who e.act → StaysOnBoard b
      → StaysOrAdmitted (after b.state e.who e.act).waits (mark b.state b.cells e.who e.act c p)
  stays b e s t n h = ⊎_elim
      (λ (x : b.cells c p ≡ offer v who w k). used_stays shape (StaysOrAdmitted (after b.state e.who e.act).waits) b e c p t n
      (ap is_used x) (inl x)
      (λ q was. subst (λ (y : Cell). StaysOrAdmitted (after b.state e.who e.act).waits (emptied_if (standing b.state.waits q y) y)) (sym x)
      (of_wait (after b.state e.who e.act).waits q (b.state.waits w) (lasts_admitted b e s n))))
      (λ (x : (b.cells c p ≡ emptied v) × IsResolvedAs (resolved.Admitted k) (b.state.waits w)). inr (
        used_stays shape (λ (y : Cell). y ≡ emptied v) b e c p t n (ap is_used x.0) x.0
            (λ q is. ap (λ (y : Cell). emptied_if (standing b.state.waits q y) y) x.0),
        lasts_admitted b e s n x.1,
      ))
      h

  pub held_more_admitted : (xs ys : List Entry) → Legal shape (xs ++ ys) → cell_of xs c p ≡ offer v who w k
      → StaysOrAdmitted (replay (xs ++ ys)).waits (cell_of (xs ++ ys) c p)
  held_more_admitted xs ys l h = subst (λ (s : State). StaysOrAdmitted s.waits (cell_of (xs ++ ys) c p)) (board_state blank (xs ++ ys))
      (board_lasts shape StaysOnBoard (record { step = stays }) xs ys l (inl h))

-- ---- what was decided

pub record Resolves (k : ℕ) (b : Bool) (y : Option Wait) : Type 0 where
  pub how : Resolution
  pub is : IsResolvedAs how y
  pub so : kept_after k how ≡ b

kept_resolved : (k : ℕ) (b : Bool) (y : Option Wait) → kept_of k y ≡ Some b → Resolves k b y
kept_resolved k b None e = cc
kept_resolved k b (Some x) e = go x.resolved refl e
  where
    go : (o : Option Resolution) → x.resolved ≡ o → kept_by k o ≡ Some b → Resolves k b (Some x)
    go None is f = cc
    go (Some how) is f = record { how = how; is = is; so = same_Some (kept_after k how) b f }

kept_is : (k : ℕ) (how : Resolution) (y : Option Wait) → IsResolvedAs how y → kept_of k y ≡ Some (kept_after k how)
kept_is k how None h = absurd h
kept_is k how (Some x) h = ap (kept_by k) h

-- an offer's cell, and what its wait says later
pub offer_fate : (shape : Shape) (c p v who k : ℕ) (w : WaitId) (b : Bool) (xs ys : List Entry) → Legal shape (xs ++ ys)
    → cell_of xs c p ≡ offer v who w k → kept_of k ((replay (xs ++ ys)).waits w) ≡ Some b → fate shape (xs ++ ys) c p ≡ Some b
offer_fate shape c p v who k w b xs ys l e h =
    let over = never_over shape c p v who k w xs (legal_before shape xs ys l) e ((replay (xs ++ ys)).stood c p) in ⊎_elim
    (λ (x : cell_of (xs ++ ys) c p ≡ offer v who w k). ap (kept_in (was_over shape (xs ++ ys) c p) (replay (xs ++ ys)).waits) x ∙ h)
    (λ (x : (cell_of (xs ++ ys) c p ≡ emptied v) × IsResolvedAs (resolved.Admitted k) ((replay (xs ++ ys)).waits w)).
    ap (kept_in (was_over shape (xs ++ ys) c p) (replay (xs ++ ys)).waits) x.0 ∙ (ap (λ (z : Bool). Some (not z)) over
    ∙ (ap (λ (z : Bool). Some z) (sym (eq-eqb k k refl))
    ∙ (sym (kept_is k (resolved.Admitted k) ((replay (xs ++ ys)).waits w) x.1) ∙ h))))
    (held_more_admitted shape c p v who w k xs ys l e)

fate_more : (shape : Shape) (c p : ℕ) (b : Bool) (xs ys : List Entry) → Legal shape (xs ++ ys) → (y : Cell) → cell_of xs c p ≡ y
    → kept_in (was_over shape xs c p) (replay xs).waits y ≡ Some b → fate shape (xs ++ ys) c p ≡ Some b
fate_more shape c p b xs ys l free e h = cc
fate_more shape c p b xs ys l (receiver who w k) e h = cc
fate_more shape c p b xs ys l (offer v who w k) e h =
    let r = kept_resolved k b ((replay xs).waits w) h in
    offer_fate shape c p v who k w b xs ys l e
    (kept_is k r.how ((replay (xs ++ ys)).waits w) (resolved_later shape xs ys w r.how l r.is) ∙ ap (λ (z : Bool). Some z) r.so)
fate_more shape c p b xs ys l (buffered v) e h =
    let over = over_more shape c p xs ys l (ap is_used e) in ⊎_elim
    (λ (x : cell_of (xs ++ ys) c p ≡ buffered v). ap (kept_in (was_over shape (xs ++ ys) c p) (replay (xs ++ ys)).waits) x
    ∙ (ap kept_put over ∙ h))
    (λ (x : cell_of (xs ++ ys) c p ≡ emptied v). ap (kept_in (was_over shape (xs ++ ys) c p) (replay (xs ++ ys)).waits) x
    ∙ (ap (λ (z : Bool). Some (not z)) over ∙ put_true (was_over shape xs c p) b h))
    (kept_more shape c p v xs ys l (inl e))
fate_more shape c p b xs ys l (emptied v) e h =
    ap (kept_in (was_over shape (xs ++ ys) c p) (replay (xs ++ ys)).waits) (removed_more shape c p v xs ys l e)
    ∙ (ap (λ (z : Bool). Some (not z)) (over_more shape c p xs ys l (ap is_used e)) ∙ h)
fate_more shape c p b xs ys l (closed_by v) e h = cc
fate_more shape c p b xs ys l (voided_by v) e h = cc

-- ---- counts of them

-- the last place, and those before it
pub record Split (x : Option Bool) (y : Option ℕ) (count : ℕ) : Type 0 where
  pub kept : Bool
  pub rest : ℕ
  pub last : x ≡ Some kept
  pub before : y ≡ Some rest
  pub sum : count ≡ rest + one_if kept

pub split : (x : Option Bool) (y : Option ℕ) (count : ℕ) → add_kept x y ≡ Some count → Split x y count
split None y count h = cc
split (Some b) None count h = cc
split (Some b) (Some n) count h = record {
  kept = b;
  rest = n;
  last = refl;
  before = refl;
  sum = sym (same_Some (n + one_if b) count h);
}

pub joined : (x : Option Bool) (y : Option ℕ) (b : Bool) (n count : ℕ) → x ≡ Some b → y ≡ Some n → count ≡ n + one_if b
    → add_kept x y ≡ Some count
joined x y b n count e f is = ap (λ (z : Option Bool). add_kept z y) e ∙ (ap (add_kept (Some b)) f ∙ ap (λ (z : ℕ). Some z) (sym is))

kept_among_more : (f g : ℕ → Option Bool) → ((q : ℕ) (b : Bool) → f q ≡ Some b → g q ≡ Some b) → (from n count : ℕ)
    → kept_among f from n ≡ Some count → kept_among g from n ≡ Some count
kept_among_more f g more from zero count h = h
kept_among_more f g more from (suc n) count h =
    let s = split (f (from + n)) (kept_among f from n) count h in
    joined (g (from + n)) (kept_among g from n) s.kept s.rest count (more (from + n) s.kept s.last)
    (kept_among_more f g more from n s.rest s.before) s.sum

pub were_decided_more : (shape : Shape) (c from to count : ℕ) (xs ys : List Entry) → Legal shape (xs ++ ys)
    → WereDecided shape xs c from to count → WereDecided shape (xs ++ ys) c from to count
were_decided_more shape c from to count xs ys l h d e = kept_among_more (fate shape xs c) (fate shape (xs ++ ys) c)
    (λ q b k. fate_more shape c q b xs ys l (cell_of xs c q) refl k) from d count (h d e)

-- so does what a mark says
pub mark_more : (shape : Shape) (c p n : ℕ) (xs ys : List Entry) → Legal shape (xs ++ ys) → IsMark shape xs c p n
    → IsMark shape (xs ++ ys) c p n
mark_more shape c p n xs ys l h = record {
  told = λ b e. fate_more shape c p b xs ys l (cell_of xs c p) refl (h.told b e);
  behind = λ lt. were_decided_more shape c (p + 1) (n / 2097152) (n % 2097152) xs ys l (h.behind lt);
}

-- nothing is counted yet
pub decided_none : (shape : Shape) (log : List Entry) (c from to count : ℕ) → from ≡ to → count ≡ 0
    → WereDecided shape log c from to count
decided_none shape log c from to count same none zero e = ap (λ (z : ℕ). Some z) (sym none)
decided_none shape log c from to count same none (suc d) e = absurd (omega arith)
