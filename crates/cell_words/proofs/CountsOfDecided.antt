-- How many offers stand at places of which is decided whether their element was kept.
use Rattle.std.proofs.Common.{◌≡◌, ℕ, zero, suc, ◌+◌, ◌-◌, ◌<◌, ◌≤◌, Bool, true, false, true≢false, not, List, length, if◌then◌else◌, Option, Some, None, is_some, sym, refl, ap, ◌∙◌, subst, ⊎_elim, arith}
use Rattle.std.proofs.lemmas.Bool.{eqb-true}
use mathlib.Core.Logic.{dite}
use native.Mathlib.Decide.{ℕ_discrete}
use Rattle.std.proofs.lemmas.Option.{same_Some}
use Rattle.co_base.specs.declared.names.WaitId.{WaitId}
use Rattle.channel_model.specs.declared.acts.Entry.{Entry}
use Rattle.channel_model.specs.declared.acts.Settled.{Settled}
use Rattle.channel_model.specs.declared.acts.Why.TheVariants.{Cancelled, Revoked}
use Rattle.channel_model.specs.declared.standing.Resolution.{Resolution}
use Rattle.channel_model.specs.declared.standing.Resolution.TheVariants as resolved
use Rattle.channel_model.specs.declared.standing.Standing.{Standing}
use Rattle.channel_model.specs.Channels.{Shape, Wait, kind_at, places_at, spurns}
use Rattle.channel_model.specs.Histories.{replay, Legal}
use Rattle.channel_model.specs.Laws.{NoneBelow, IsResolvedAs}
use Rattle.word_rules.specs.declared.cell_word.CellWord.{CellWord}
use Rattle.word_rules.specs.declared.wait_word.WaitWord.{WaitWord}
use Rattle.word_rules.specs.Cells.{Cell, free, receiver, offer, buffered, emptied, closed_by, voided_by, standing, offer_of, offer_by, offer_after, cell_of, gather, is_used}
use Rattle.cell_words.specs.Looks.{kept_told}
use Rattle.cell_words.specs.Puts.{was_put}
use Rattle.word_rules.specs.Words.{word_of_cell, word_of_wait, parts_word, how_word, WasKept, one_if, kept_after, kept_by, kept_of, kept_put, kept_in, was_over, fate, kept_among, WereDecided}
use Rattle.cell_words.specs.Seen.{Seen, Sees, at_channel}
use Rattle.cell_words.specs.Answers.{stands, IsCellWord, IsWaitWord}
use Rattle.cell_words.proofs.GatheredLists.{gather_none}
use Rattle.cell_words.proofs.CellsTellFacts.{now, tied_now, used_given, none_offers}
use Rattle.cell_words.proofs.CountsOfOffers.{count_some, count_none, count_next, count_up}
use Rattle.cell_words.proofs.KeptBehind.{Keeps, stands_kept}
use Rattle.cell_words.proofs.ElementsWithRoom.{why_emptied}
use Rattle.cell_words.proofs.PlacesDecided.{one_true, one_false, Split, split, joined, offer_fate, were_decided_more}
use Rattle.cell_words.proofs.WalksToAdmit.{Walked, place_kept, walked_none, walked_kept, walked_gone, within_places}

pub decided_seen : (shape : Shape) (c from to count : ℕ) (v w : Seen) → Sees v w → Legal shape w.seen
    → WereDecided shape v.seen c from to count
    → WereDecided shape w.seen c from to count
decided_seen shape c from to count v w s l h = subst (λ (es : List Entry). WereDecided shape es c from to count) (sym s.now)
    (were_decided_more shape c from to count v.seen s.others (subst (Legal shape) s.now l) h)

-- ---- what the words tell

told_how : (k : ℕ) (how : Resolution) → kept_told (how_word how) k ≡ Some (kept_after k how)
told_how k (resolved.Withdrawn Cancelled) = refl
told_how k (resolved.Withdrawn Revoked) = refl
told_how k other = refl

told_parts : (k : ℕ) (how : Option Resolution) (outcome : Option Settled) → kept_told (parts_word how outcome) k ≡ kept_by k how
told_parts k None outcome = refl
told_parts k (Some how) None = told_how k how
told_parts k (Some how) (Some outcome) = told_how k how

told_wait : (k : ℕ) (y : Option Wait) → kept_told (word_of_wait y) k ≡ kept_of k y
told_wait k None = refl
told_wait k (Some x) = told_parts k x.resolved x.settled

pub fate_waits : (shape : Shape) (c p value owner k : ℕ) (x : WaitId) (word : WaitWord) (v w : Seen) → Sees v w → Legal shape w.seen
    → cell_of v.seen c p ≡ offer value owner x k → IsWaitWord x w.seen word → (r : Option Bool) → r ≡ kept_told word k
    → (b : Bool) → r ≡ Some b → fate shape w.seen c p ≡ Some b
fate_waits shape c p value owner k x word v w s l at is r told b e =
    let so : kept_of k ((replay w.seen).waits x) ≡ Some b = sym (told_wait k ((replay w.seen).waits x))
    ∙ (ap (λ (z : WaitWord). kept_told z k) (sym is.0) ∙ (sym told ∙ e)) in
    subst (λ (es : List Entry). fate shape es c p ≡ Some b) (sym s.now)
    (offer_fate shape c p value owner k x b v.seen s.others (subst (Legal shape) s.now l) at
    (subst (λ (es : List Entry). kept_of k ((replay es).waits x) ≡ Some b) s.now so))

put_in : (over : Bool) → over ≡ false → (waits : WaitId → Option Wait) (shape : Shape) (c p : ℕ) (x : Cell)
    → was_put (word_of_cell shape c p x).state ≡ true → kept_in over waits x ≡ Some true
put_in over never waits shape c p free e = cc
put_in over never waits shape c p (receiver who w k) e = cc
put_in over never waits shape c p (offer v who w k) e = cc
put_in over never waits shape c p (buffered v) e = ap kept_put never
put_in over never waits shape c p (emptied v) e = ap (λ (z : Bool). Some (not z)) never
put_in over never waits shape c p (closed_by v) e = cc
put_in over never waits shape c p (voided_by v) e = cc

pub fate_put : (shape : Shape) (c p : ℕ) (log : List Entry) (word : CellWord) → ((n : ℕ) → spurns (kind_at shape c) n ≡ false)
    → IsCellWord shape c p log word → was_put word.state ≡ true → (b : Bool) → Some true ≡ Some b → fate shape log c p ≡ Some b
fate_put shape c p log word never is h b e =
    put_in (was_over shape log c p) (never ((replay log).stood c p)) (replay log).waits shape c p (cell_of log c p)
    (sym (ap (λ (z : CellWord). was_put z.state) is.0) ∙ h) ∙ e

-- ---- what is decided of a place tells whether an offer stands there

kept_admits : (k : ℕ) (how : Resolution) → kept_after k how ≡ true → how ≡ resolved.Admitted k
kept_admits k (resolved.Admitted j) e = ap (λ (n : ℕ). resolved.Admitted n) (eqb-true j k e)
kept_admits k other e = absurd (true≢false (sym e))

kept_wait : (k : ℕ) (y : Option Wait) → kept_of k y ≡ Some true → IsResolvedAs (resolved.Admitted k) y
kept_wait k None e = cc
kept_wait k (Some x) e = go x.resolved refl e
  where
    go : (o : Option Resolution) → x.resolved ≡ o → kept_by k o ≡ Some true → x.resolved ≡ Some (resolved.Admitted k)
    go None is f = cc
    go (Some how) is f = is
        ∙ ap (λ (z : Resolution). Some z) (kept_admits k how (same_Some (kept_after k how) true f))

kept_cell : (over : Bool) (waits : WaitId → Option Wait) (y : Cell) → kept_in over waits y ≡ Some true → WasKept waits y
kept_cell over waits free e = cc
kept_cell over waits (receiver who w k) e = cc
kept_cell over waits (offer v who w k) e = kept_wait k (waits w) e
kept_cell over waits (buffered v) e = tt
kept_cell over waits (emptied v) e = tt
kept_cell over waits (closed_by v) e = cc
kept_cell over waits (voided_by v) e = cc

gone_after : (p v k : ℕ) (how : Resolution) → kept_after k how ≡ false → offer_after p v k how ≡ None
gone_after p v k (resolved.Admitted j) e = ap (λ (b : Bool). if b then Some (record { place = p; value = v; holder = None }) else None) e
gone_after p v k other e = refl

gone_by : (p v k : ℕ) (w : WaitId) (o : Option Resolution) → kept_by k o ≡ Some false → offer_by p v w k o ≡ None
gone_by p v k w None e = cc
gone_by p v k w (Some how) e = gone_after p v k how (same_Some (kept_after k how) false e)

gone_of : (p v k : ℕ) (w : WaitId) (y : Option Wait) → kept_of k y ≡ Some false → offer_of p v w k y ≡ None
gone_of p v k w None e = refl
gone_of p v k w (Some x) e = gone_by p v k w x.resolved e

put_not_gone : (over : Bool) → kept_put over ≡ Some false → ⊥
put_not_gone true e = cc
put_not_gone false e = cc

gone_cell : (over : Bool) (waits : WaitId → Option Wait) (p : ℕ) (y : Cell) → kept_in over waits y ≡ Some false
    → standing waits p y ≡ None
gone_cell over waits p free e = refl
gone_cell over waits p (receiver who w k) e = refl
gone_cell over waits p (offer v who w k) e = gone_of p v k w (waits w) e
gone_cell over waits p (buffered v) e = absurd (put_not_gone over e)
gone_cell over waits p (emptied v) e = refl
gone_cell over waits p (closed_by v) e = refl
gone_cell over waits p (voided_by v) e = refl

-- ---- one place more, or one less in front

pub decided_longer : (shape : Shape) (log : List Entry) (c from to count : ℕ) (b : Bool) → from ≤ to → WereDecided shape log c from to count
    → fate shape log c to ≡ Some b → WereDecided shape log c from (to + 1) (count + one_if b)
decided_longer shape log c from to count b le h is d e =
    let n = to - from in
    let at : from + n ≡ to = omega arith in
    let last : suc n ≡ d = omega arith in
    subst (λ (z : ℕ). kept_among (fate shape log c) from z ≡ Some (count + one_if b)) last
    (joined (fate shape log c (from + n)) (kept_among (fate shape log c) from n) b count (count + one_if b)
    (ap (fate shape log c) at ∙ is) (h n (omega arith)) refl)

module _ (f : ℕ → Option Bool) (from : ℕ) (b : Bool) (is : f from ≡ Some b) where
  same_bool : (x y : Option Bool) (a d : Bool) → x ≡ y → x ≡ Some a → y ≡ Some d → a ≡ d
  same_bool x y a d e g h = cc

  pub kept_rest : (n count : ℕ) → kept_among f from (suc n) ≡ Some count
      → (kept_among f (from + 1) n ≡ Some (count - one_if b)) × (one_if b ≤ count)
  kept_rest zero count h =
      let s = split (f (from + 0)) (Some 0) count h in
      let at : from + 0 ≡ from = omega arith in
      let same = ap one_if (same_bool (f (from + 0)) (f from) s.kept b (ap f at) s.last is) in
      let none = same_Some 0 s.rest s.before in
      let sum = s.sum in
      (ap (λ (z : ℕ). Some z) (omega (arith, same, none, sum)), omega (arith, same, none, sum))
  kept_rest (suc n) count h =
      let s = split (f (from + suc n)) (kept_among f from (suc n)) count h in
      let i = kept_rest n s.rest s.before in
      let at : (from + 1) + n ≡ from + suc n = omega arith in
      let sum = s.sum in
      let least = i.1 in (
        joined (f ((from + 1) + n)) (kept_among f (from + 1) n) s.kept (s.rest - one_if b) (count - one_if b) (ap f at ∙ s.last) i.0
            (omega (arith, sum, least)),
        omega (arith, sum, least),
      )

pub decided_shorter : (shape : Shape) (log : List Entry) (c from to count : ℕ) (b : Bool) → from < to
    → WereDecided shape log c from to count
    → fate shape log c from ≡ Some b → WereDecided shape log c (from + 1) to (count - one_if b)
decided_shorter shape log c from to count b lt h is d e = (kept_rest (fate shape log c) from b is d count (h (suc d) (omega arith))).0

-- the last place is taken away
same_some : (x y : Option Bool) (a b : Bool) → x ≡ y → x ≡ Some a → y ≡ Some b → a ≡ b
same_some x y a b e g h = cc

pub decided_before : (shape : Shape) (log : List Entry) (c from to last count : ℕ) (b : Bool) → from ≤ last → last + 1 ≡ to
    → WereDecided shape log c from to count → fate shape log c last ≡ Some b → WereDecided shape log c from last (count - one_if b)
decided_before shape log c from to last count b le next h is d e =
    let whole : to ≡ from + suc d = omega (arith, next, e) in
    let s = split (fate shape log c (from + d)) (kept_among (fate shape log c) from d) count (h (suc d) whole) in
    let at : from + d ≡ last = omega (arith, e) in
    let same = ap one_if (same_some (fate shape log c (from + d)) (fate shape log c last) s.kept b (ap (fate shape log c) at) s.last is) in
    let sum = s.sum in
    let rest : s.rest ≡ count - one_if b = omega (arith, same, sum) in
    s.before ∙ ap (λ (z : ℕ). Some z) rest

-- no more are counted than there are places
pub one_most : (b : Bool) → one_if b ≤ 1
one_most true = omega arith
one_most false = omega arith

pub kept_most : (f : ℕ → Option Bool) (from n count : ℕ) → kept_among f from n ≡ Some count → count ≤ n
kept_most f from zero count h = let none = same_Some 0 count h in omega (arith, none)
kept_most f from (suc n) count h =
    let s = split (f (from + n)) (kept_among f from n) count h in
    let i = kept_most f from n s.rest s.before in
    let one = one_most s.kept in
    let sum = s.sum in
    omega (arith, i, one, sum)

-- ---- how many stand

module _ (shape : Shape) (c low : ℕ) (log : List Entry) (l : Legal shape log) where
  -- a place of which is decided was given out
  decided_used : (over : Bool) (waits : WaitId → Option Wait) (y : Cell) (b : Bool) → kept_in over waits y ≡ Some b → is_used y ≡ true
  decided_used over waits free b e = cc
  decided_used over waits (receiver who w k) b e = cc
  decided_used over waits (offer v who w k) b e = refl
  decided_used over waits (buffered v) b e = refl
  decided_used over waits (emptied v) b e = refl
  decided_used over waits (closed_by v) b e = cc
  decided_used over waits (voided_by v) b e = cc

  decided_given : (p : ℕ) (b : Bool) → fate shape log c p ≡ Some b → p < (at_channel log c).next
  decided_given p b e = used_given (now log) c p (tied_now shape log l)
      (decided_used (was_over shape log c p) (replay log).waits (cell_of log c p) b e)

  -- while one stands before it, an element that was kept stands
  kept_stands : (p : ℕ) → low ≤ p → is_some (stands log c low) ≡ true → (y : Cell) → cell_of log c p ≡ y
      → kept_in (was_over shape log c p) (replay log).waits y ≡ Some true → is_some (stands log c p) ≡ true
  kept_stands p le st free e h = cc
  kept_stands p le st (receiver who w k) e h = cc
  kept_stands p le st (offer v who w k) e h =
      stands_kept (replay log).waits p (cell_of log c p) (subst (Keeps (replay log).waits) (sym e) (kept_wait k ((replay log).waits w) h))
  kept_stands p le st (buffered v) e h = ap (λ (z : Cell). is_some (standing (replay log).waits p z)) e
  kept_stands p le st (emptied v) e h =
      dite (ℕ_discrete low p) (λ (same : low ≡ p). subst (λ (z : ℕ). is_some (stands log c z) ≡ true) same st)
      (λ ne. ⊎_elim
      (λ (g : stands log c low ≡ None). absurd (true≢false (sym st ∙ ap is_some g)))
      (λ (g : was_over shape log c p ≡ true). absurd
      (true≢false (sym (same_Some (not (was_over shape log c p)) true h) ∙ ap not g)))
      (why_emptied shape c low p (omega arith) log v l e))
  kept_stands p le st (closed_by v) e h = cc
  kept_stands p le st (voided_by v) e h = cc

  lower_among : is_some (stands log c low) ≡ true → (n count : ℕ)
      → kept_among (fate shape log c) low n ≡ Some count → count ≤ length (gather (stands log c) (low + n))
  lower_among st zero count h = let e = same_Some 0 count h in omega arith
  lower_among st (suc n) count h =
      let s = split (fate shape log c (low + n)) (kept_among (fate shape log c) low n) count h in
      let i = lower_among st n s.rest s.before in
      let at : (low + n) + 1 ≡ low + suc n = omega arith in
      subst (λ (z : ℕ). count ≤ length (gather (stands log c) z)) at (go s i s.kept refl)
    where
      go : (s : Split (fate shape log c (low + n)) (kept_among (fate shape log c) low n) count)
          → s.rest ≤ length (gather (stands log c) (low + n)) → (b : Bool) → s.kept ≡ b
          → count ≤ length (gather (stands log c) ((low + n) + 1))
      go s i true e =
          let m = count_some (stands log c) (low + n) s.rest i
          (kept_stands (low + n) (omega arith) st (cell_of log c (low + n)) refl (s.last ∙ ap (λ (z : Bool). Some z) e)) in
          let one = one_true s.kept e in
          let sum = s.sum in
          omega (arith, m, one, sum)
      go s i false e =
          let m = count_up (stands log c) (low + n) 1 ((low + n) + 1) refl in
          let one = one_false s.kept e in
          let sum = s.sum in
          omega (arith, m, i, one, sum)

  upper_among : NoneBelow 0 low (at_channel log c) → (n count : ℕ) → kept_among (fate shape log c) low n ≡ Some count
      → length (gather (stands log c) (low + n)) ≤ count
  upper_among below zero count h =
      let none : length (gather (stands log c) low) ≡ 0 = ap (λ (os : List Standing). length os)
      (gather_none (stands log c) low (λ q lt. none_offers (now log) c (tied_now shape log l) 0 low below q lt)) in
      let at : low ≡ low + 0 = omega arith in
      subst (λ (z : ℕ). length (gather (stands log c) z) ≤ count) at (omega arith)
  upper_among below (suc n) count h =
      let s = split (fate shape log c (low + n)) (kept_among (fate shape log c) low n) count h in
      let i = upper_among below n s.rest s.before in
      let at : (low + n) + 1 ≡ low + suc n = omega arith in
      subst (λ (z : ℕ). length (gather (stands log c) z) ≤ count) at (go s i s.kept refl)
    where
      go : (s : Split (fate shape log c (low + n)) (kept_among (fate shape log c) low n) count)
          → length (gather (stands log c) (low + n)) ≤ s.rest → (b : Bool) → s.kept ≡ b
          → length (gather (stands log c) ((low + n) + 1)) ≤ count
      go s i true e =
          let m = count_next (stands log c) (low + n) s.rest i in
          let one = one_true s.kept e in
          let sum = s.sum in
          omega (arith, m, one, sum)
      go s i false e =
          let m = count_none (stands log c) (low + n)
          (gone_cell (was_over shape log c (low + n)) (replay log).waits (low + n) (cell_of log c (low + n)) (s.last
          ∙ ap (λ (z : Bool). Some z) e)) in
          let one = one_false s.kept e in
          let sum = s.sum in
          omega (arith, m, i, one, sum)

  -- while the first of them stands, so many stand
  pub decided_stand : is_some (stands log c low) ≡ true → (from to count end most : ℕ)
      → from ≡ low → low ≤ to → to ≤ end → most ≤ count → WereDecided shape log c from to count → most ≤ length (gather (stands log c) end)
  decided_stand st from to count end most first le within enough h =
      let at : to ≡ from + (to - low) = omega arith in
      let k = lower_among st (to - low) count
      (subst (λ (z : ℕ). kept_among (fate shape log c) z (to - low) ≡ Some count) first (h (to - low) at)) in
      let up = count_up (stands log c) (low + (to - low)) (end - to) end (omega arith) in
      omega arith

  -- where none stands below them, no more stand
  pub decided_few : NoneBelow 0 low (at_channel log c) → (from to count end most : ℕ) → from ≡ low → to ≡ end → low ≤ end → count < most
      → WereDecided shape log c from to count → length (gather (stands log c) end) < most
  decided_few below from to count end most first last le less h =
      let at : to ≡ from + (end - low) = omega arith in
      let k = upper_among below (end - low) count
      (subst (λ (z : ℕ). kept_among (fate shape log c) z (end - low) ≡ Some count) first (h (end - low) at)) in
      let is : low + (end - low) ≡ end = omega arith in
      subst (λ (z : ℕ). length (gather (stands log c) z) < most) is (omega arith)

  -- behind a place below which no more than so many stand, no more stand than so many more
  pub upper_behind : (from base : ℕ) → length (gather (stands log c) from) ≤ base → (n count : ℕ)
      → kept_among (fate shape log c) from n ≡ Some count → length (gather (stands log c) (from + n)) ≤ base + count
  upper_behind from base below zero count h =
      let none = same_Some 0 count h in
      let at : from ≡ from + 0 = omega arith in
      subst (λ (z : ℕ). length (gather (stands log c) z) ≤ base + count) at (omega (arith, below, none))
  upper_behind from base below (suc n) count h =
      let s = split (fate shape log c (from + n)) (kept_among (fate shape log c) from n) count h in
      let i = upper_behind from base below n s.rest s.before in
      let at : (from + n) + 1 ≡ from + suc n = omega arith in
      subst (λ (z : ℕ). length (gather (stands log c) z) ≤ base + count) at (go s i s.kept refl)
    where
      go : (s : Split (fate shape log c (from + n)) (kept_among (fate shape log c) from n) count)
          → length (gather (stands log c) (from + n)) ≤ base + s.rest → (b : Bool) → s.kept ≡ b
          → length (gather (stands log c) ((from + n) + 1)) ≤ base + count
      go s i true e =
          let m = count_next (stands log c) (from + n) (base + s.rest) i in
          let one = one_true s.kept e in
          let sum = s.sum in
          omega (arith, m, one, sum)
      go s i false e =
          let m = count_none (stands log c) (from + n)
          (gone_cell (was_over shape log c (from + n)) (replay log).waits (from + n) (cell_of log c (from + n)) (s.last
          ∙ ap (λ (z : Bool). Some z) e)) in
          let one = one_false s.kept e in
          let sum = s.sum in
          omega (arith, m, i, one, sum)

  -- while one stands before them, so many more stand; and stood at a moment at which all that stand now did
  pub lower_behind : is_some (stands log c low) ≡ true → (early : ℕ → Option Standing) → (from end base : ℕ) → low ≤ from
      → ((p : ℕ) → p < end → is_some (stands log c p) ≡ true → is_some (early p) ≡ true) → base ≤ length (gather early from)
      → (n count : ℕ) → from + n ≤ end
      → kept_among (fate shape log c) from n ≡ Some count → base + count ≤ length (gather early (from + n))
  lower_behind st early from end base le stood below zero count within h =
      let none = same_Some 0 count h in
      let at : from ≡ from + 0 = omega arith in
      subst (λ (z : ℕ). base + count ≤ length (gather early z)) at (omega (arith, below, none))
  lower_behind st early from end base le stood below (suc n) count within h =
      let s = split (fate shape log c (from + n)) (kept_among (fate shape log c) from n) count h in
      let i = lower_behind st early from end base le stood below n s.rest (omega (arith, within)) s.before in
      let at : (from + n) + 1 ≡ from + suc n = omega arith in
      subst (λ (z : ℕ). base + count ≤ length (gather early z)) at (go s i s.kept refl)
    where
      go : (s : Split (fate shape log c (from + n)) (kept_among (fate shape log c) from n) count)
          → base + s.rest ≤ length (gather early (from + n)) → (b : Bool) → s.kept ≡ b
          → base + count ≤ length (gather early ((from + n) + 1))
      go s i true e =
          let m = count_some early (from + n) (base + s.rest) i (stood (from + n) (omega (arith, within))
          (kept_stands (from + n) (omega (arith, le)) st (cell_of log c (from + n)) refl (s.last ∙ ap (λ (z : Bool). Some z) e))) in
          let one = one_true s.kept e in
          let sum = s.sum in
          omega (arith, m, one, sum)
      go s i false e =
          let m = count_up early (from + n) 1 ((from + n) + 1) refl in
          let one = one_false s.kept e in
          let sum = s.sum in
          omega (arith, m, i, one, sum)

  -- a walk for an offer to admit has passed them
  walked_among : ((n : ℕ) → spurns (kind_at shape c) n ≡ false) → NoneBelow 0 low (at_channel log c) → (n count : ℕ)
      → kept_among (fate shape log c) low n ≡ Some count → Walked c low (low + n) count log
  walked_among never below zero count h =
      let at : low ≡ low + 0 = omega arith in
      let none = same_Some 0 count h in
      subst (λ (z : ℕ × ℕ). Walked c low z.0 z.1 log) (λ i. (at i, none i)) (walked_none shape c low log l below)
  walked_among never below (suc n) count h =
      let s = split (fate shape log c (low + n)) (kept_among (fate shape log c) low n) count h in
      let at : (low + n) + 1 ≡ low + suc n = omega arith in
      subst (λ (z : ℕ). Walked c low z count log) at (go s (walked_among never below n s.rest s.before) s.kept refl)
    where
      go : (s : Split (fate shape log c (low + n)) (kept_among (fate shape log c) low n) count) → Walked c low (low + n) s.rest log
          → (b : Bool) → s.kept ≡ b → Walked c low ((low + n) + 1) count log
      go s i true e =
          let k = place_kept shape c (low + n) never log l (cell_of log c (low + n)) refl
          (kept_cell (was_over shape log c (low + n)) (replay log).waits (cell_of log c (low + n)) (s.last ∙ ap (λ (z : Bool). Some z) e))
          in
          let one = one_true s.kept e in
          let sum = s.sum in
          let is : s.rest + 1 ≡ count = omega (arith, one, sum) in
          subst (λ (z : ℕ). Walked c low ((low + n) + 1) z log) is (walked_kept c low (low + n) s.rest log (omega arith) i k)
      go s i false e =
          let one = one_false s.kept e in
          let sum = s.sum in
          let is : s.rest ≡ count = omega (arith, one, sum) in
          subst (λ (z : ℕ). Walked c low ((low + n) + 1) z log) is (walked_gone c low (low + n) s.rest log i
          (let lt = decided_given (low + n) false (s.last ∙ ap (λ (z : Bool). Some z) e) in omega (arith, lt))
          (gone_cell (was_over shape log c (low + n)) (replay log).waits (low + n) (cell_of log c (low + n)) (s.last
          ∙ ap (λ (z : Bool). Some z) e)))

  pub decided_walked : ((n : ℕ) → spurns (kind_at shape c) n ≡ false) → NoneBelow 0 low (at_channel log c) → (from to count : ℕ)
      → from ≡ low
      → low ≤ to → WereDecided shape log c from to count → Walked c low to count log
  decided_walked never below from to count first le h =
      let at : to ≡ from + (to - low) = omega arith in
      let is : low + (to - low) ≡ to = omega arith in
      subst (λ (z : ℕ). Walked c low z count log) is (walked_among never below (to - low) count
      (subst (λ (z : ℕ). kept_among (fate shape log c) z (to - low) ≡ Some count) first (h (to - low) at)))

-- places of which is decided are places of the channel
pub decided_within : (shape : Shape) (log : List Entry) (c from to count : ℕ) → Legal shape log → from < to
    → WereDecided shape log c from to count → to ≤ places_at shape c
decided_within shape log c from to count l lt h =
    let whole : to ≡ from + suc (to - (from + 1)) = omega (arith, lt) in
    let s = split (fate shape log c (from + (to - (from + 1)))) (kept_among (fate shape log c) from (to - (from + 1))) count
    (h (suc (to - (from + 1))) whole) in
    let g = decided_given shape c from log l (from + (to - (from + 1))) s.kept s.last in
    within_places shape c to log l (omega (arith, g, lt))

-- at no more of them an element was kept
pub decided_most : (shape : Shape) (log : List Entry) (c from to count : ℕ) → from ≤ to → WereDecided shape log c from to count
    → count + from ≤ to
decided_most shape log c from to count le h =
    let m = kept_most (fate shape log c) from (to - from) count (h (to - from) (omega (arith, le))) in
    omega (arith, m, le)
