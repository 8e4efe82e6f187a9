-- What an exchange on the word of a wait, or of a kept element, tells.
use Rattle.std.proofs.Common.{◌≡◌, ◌⊎◌, ℕ, ◌+◌, ◌*◌, ◌<◌, ◌≤◌, ◌==◌, Bool, true, false, List, [], ◌∷◌, ◌++◌, length, if◌then◌else◌, Option, Some, None, is_some, sym, refl, ap, ◌∙◌, subst, ⊎_elim, inl, append_assoc, MatchBool, eq-eqb, ne_eqb}
use Rattle.std.proofs.lemmas.Bool.{eqb-true}
use Rattle.co_base.proofs.Orders.{order_then}
use Rattle.co_base.specs.declared.names.WaitId.{WaitId}
use Rattle.channel_model.specs.declared.acts.Act.TheVariants.{Hand}
use Rattle.channel_model.specs.declared.acts.Entry.{Entry}
use Rattle.channel_model.specs.declared.acts.Settled.{Settled}
use Rattle.channel_model.specs.declared.acts.Why.TheVariants.{Cancelled, Revoked}
use Rattle.channel_model.specs.declared.standing.Standing.{Standing}
use Rattle.channel_model.specs.declared.standing.Resolution.{Resolution}
use Rattle.channel_model.specs.declared.standing.Resolution.TheVariants as resolved
use Rattle.channel_model.specs.Channels.{Shape, Wait, start, places_at, kind_at, is_signal}
use Rattle.channel_model.specs.Histories.{replay, Legal}
use Rattle.channel_model.specs.Laws.{NoneBelow, IsResolvedAs}
use Rattle.channel_model.specs.Answers.{IsResolvedWait}
use Rattle.channel_model.proofs.Histories.{LegalFrom-parts}
use Rattle.channel_model.proofs.GoneForGood.{below_lasts}
use Rattle.channel_model.proofs.Later.{resolved_later}
use Rattle.word_rules.specs.declared.cell_word.CellState.TheVariants as state
use Rattle.word_rules.specs.declared.cell_word.CellWord.{CellWord}
use Rattle.word_rules.specs.declared.wait_word.WaitWord.{WaitWord}
use Rattle.cell_words.specs.declared.found.Removal.{Removal}
use Rattle.cell_words.specs.declared.found.Waiter.{Waiter}
use Rattle.word_rules.specs.Cells.{Cell, receiver, offer, buffered, emptied, cell_of, standing, awaiting, offer_of, offer_by, offer_after, receiver_of, receiver_by, is_used}
use Rattle.word_rules.specs.Codes.{packed_cell, packed_wait}
use Rattle.word_rules.specs.Words.{number, plain_word, PartyFits, cell_code, how_word, parts_word, word_of_wait, Fits, maker}
use Rattle.worded.specs.Views.{has_tag}
use Rattle.worded.specs.Histories.{entries_of}
use Rattle.worded.proofs.TagsAndPrefixes.{entries_of-append}
use Rattle.cell_words.specs.Seen.{Seen, at_channel, Sees, Makes, Turns, ExchangeAnswer}
use Rattle.cell_words.specs.Looks.{lets_stand}
use Rattle.cell_words.specs.Removals.{removal_act}
use Rattle.cell_words.specs.Answers.{IsCellWord, IsWaitWord, IsHolder, HandsTo, RemovesFrom, IsAdmitted, IsKept, put, held, stands, WasPut}
use Rattle.cell_words.proofs.ListsOfCells.{IsNamed, CellNamed}
use Rattle.cell_words.proofs.CellsTellFacts.{now, tied_now, used_given, past_receiver, past_offer}
use Rattle.cell_words.proofs.CellsLast.{receiver_more, offer_used_more, kept_more, held_more}
use Rattle.cell_words.proofs.EntriesOnOneWord.{hand_to, take_from, kept_from}
use Rattle.cell_words.proofs.MayExchange.{still_offer, kept_stands}

-- ---- an exchange

pub turned : (shape : Shape) (word old n : ℕ) (e : Entry) (v w : Seen) → ExchangeAnswer shape word old e v w n → n ≡ old
    → Turns shape word old e v w
turned shape word old n e v w a is = subst (λ (b : Bool). MatchBool b (Turns shape word old e v w) (Sees v w × Fits shape w.seen word n))
    (eq-eqb n old is) a

pub not_turned : (shape : Shape) (word old n : ℕ) (e : Entry) (v w : Seen) → ExchangeAnswer shape word old e v w n → (n ≡ old → ⊥)
    → Sees v w × Fits shape w.seen word n
not_turned shape word old n e v w a ne = subst (λ (b : Bool). MatchBool b (Turns shape word old e v w) (Sees v w
    × Fits shape w.seen word n)) (ne_eqb n old ne) a

-- by the word's other name
pub turned_as : (shape : Shape) (word old n i m : ℕ) (e : Entry) (v w : Seen) → word ≡ i → old ≡ m → ExchangeAnswer shape word old e v w n
    → n ≡ old → Turns shape i m e v w
turned_as shape word old n i m e v w at is a same = subst (λ (z : ℕ × ℕ). Turns shape z.0 z.1 e v w) (λ k. (at k, is k))
    (turned shape word old n e v w a same)

-- by the entry's other name
pub turns_by : (shape : Shape) (word old : ℕ) (e f : Entry) (v w : Seen) → e ≡ f → Turns shape word old e v w → Turns shape word old f v w
turns_by shape word old e f v w is t = subst (λ (z : Entry). Turns shape word old z v w) is t

pub sees_turns : (shape : Shape) (word old : ℕ) (e : Entry) (u v w : Seen) → Sees u v → Turns shape word old e v w
    → Turns shape word old e u w
sees_turns shape word old e u v w s t = record {
  made = record {
    others = s.others ++ t.made.others;
    now = t.made.now ∙ ap (λ (l : List Entry). l ++ e ∷ []) same;
    apart = λ tag h. entries_of-append maker tag s.others t.made.others
        ∙ ap (λ (l : List Entry). l ++ entries_of maker tag t.made.others) (s.apart tag h) ∙ t.made.apart tag (ap (has_tag tag) s.tags ∙ h);
    tags = t.made.tags ∙ s.tags;
    giving = t.made.giving ∙ s.giving;
    order = order_then u.order v.order w.order s.order t.made.order;
  };
  found = subst (λ (l : List Entry). Fits shape l word old) same t.found;
}
  where
    same : v.seen ++ t.made.others ≡ u.seen ++ (s.others ++ t.made.others)
    same = ap (λ (l : List Entry). l ++ t.made.others) s.now ∙ append_assoc u.seen s.others t.made.others

pub before_legal : (shape : Shape) (v w : Seen) (e : Entry) → Legal shape w.seen → (m : Makes v e w) → Legal shape (v.seen ++ m.others)
before_legal shape v w e l m = (LegalFrom-parts shape start (v.seen ++ m.others) (e ∷ []) (subst (Legal shape) m.now l)).0

-- ---- what the word of a wait says

-- a word other than 0 says that the wait was resolved
pub resolved_found : (word : WaitWord) (y : Option Wait) → word ≡ word_of_wait y → (packed_wait word ≡ 0 → ⊥) → IsResolvedWait y
resolved_found word None e ne = ne (ap packed_wait e)
resolved_found word (Some x) e ne = by_how x.resolved e
  where
    by_how : (how : Option Resolution) → word ≡ parts_word how x.settled → is_some how ≡ true
    by_how None e = absurd (ne (ap packed_wait e))
    by_how (Some how) e = refl

gone_receiver : (p k : ℕ) (w : WaitId) (y : Option Wait) → IsResolvedWait y → receiver_of p w k y ≡ None
gone_receiver p k w None h = absurd h
gone_receiver p k w (Some x) h = by_how x.resolved h
  where
    by_how : (how : Option Resolution) → is_some how ≡ true → receiver_by p w k how ≡ None
    by_how None h = cc
    by_how (Some how) h = refl

-- whether an offer stands whose wait was resolved so
after_stands : (p v k : ℕ) (how : Resolution) → is_some (offer_after p v k how) ≡ lets_stand (how_word how) k
after_stands p v k (resolved.Admitted j) = by_test (j == k)
  where
    by_test : (b : Bool) → is_some {T = Standing} (if b then Some (record { place = p; value = v; holder = None }) else None) ≡ b
    by_test true = refl
    by_test false = refl
after_stands p v k (resolved.Withdrawn Cancelled) = refl
after_stands p v k (resolved.Withdrawn Revoked) = refl
after_stands p v k other = refl

-- how a wait ended says nothing of that
ended_stands : (k : ℕ) (how : Resolution) (outcome : Option Settled)
    → lets_stand (parts_word (Some how) outcome) k ≡ lets_stand (how_word how) k
ended_stands k how None = refl
ended_stands k how (Some outcome) = refl

as_stands : (k : ℕ) (how : Resolution) (y : Option Wait) → IsResolvedAs how y → lets_stand (word_of_wait y) k ≡ lets_stand (how_word how) k
as_stands k how None h = absurd h
as_stands k how (Some x) h = ap (λ (z : Option Resolution). lets_stand (parts_word z x.settled) k) h ∙ ended_stands k how x.settled

none_of : (o : Option Standing) → is_some o ≡ false → o ≡ None
none_of None e = refl
none_of (Some x) e = cc

pub offer_gone : (p v k : ℕ) (w : WaitId) (y : Option Wait) → lets_stand (word_of_wait y) k ≡ false → offer_of p v w k y ≡ None
offer_gone p v k w None e = refl
offer_gone p v k w (Some x) e = by_how x.resolved e
  where
    by_how : (how : Option Resolution) → lets_stand (parts_word how x.settled) k ≡ false → offer_by p v w k how ≡ None
    by_how None e = cc
    by_how (Some how) e = none_of (offer_after p v k how) (after_stands p v k how ∙ sym (ended_stands k how x.settled) ∙ e)

how_admitted : (k : ℕ) (how : Resolution) → lets_stand (how_word how) k ≡ true → how ≡ resolved.Admitted k
how_admitted k (resolved.Admitted j) e = ap resolved.Admitted (eqb-true j k e)
how_admitted k (resolved.Withdrawn Cancelled) e = cc
how_admitted k (resolved.Withdrawn Revoked) e = cc
how_admitted k other e = cc

-- a resolved wait that lets its offer stand was admitted at that clause
pub admitted_found : (k : ℕ) (word : WaitWord) (y : Option Wait) → word ≡ word_of_wait y → (packed_wait word ≡ 0 → ⊥)
    → lets_stand word k ≡ true → IsResolvedAs (resolved.Admitted k) y
admitted_found k word None e ne h = absurd (ne (ap packed_wait e))
admitted_found k word (Some x) e ne h = by_how x.resolved e
  where
    by_how : (how : Option Resolution) → word ≡ parts_word how x.settled → how ≡ Some (resolved.Admitted k)
    by_how None e = absurd (ne (ap packed_wait e))
    by_how (Some how) e = ap (λ (z : Resolution). Some z)
        (how_admitted k how (sym (ended_stands k how x.settled) ∙ sym (ap (λ (z : WaitWord). lets_stand z k) e) ∙ h))

-- a receiver whose wait was resolved is gone
pub receiver_lost : (shape : Shape) (v w : Seen) → Legal shape w.seen → Sees v w → (c p owner k : ℕ) (u : WaitId)
    → NoneBelow p 0 (at_channel v.seen c) → cell_of v.seen c p ≡ receiver owner u k → IsResolvedWait ((replay w.seen).waits u)
    → NoneBelow (p + 1) 0 (at_channel w.seen c)
receiver_lost shape v w l s c p owner k u low at res =
    let here = subst (λ (es : List Entry). cell_of es c p ≡ receiver owner u k) (sym s.now)
    (receiver_more shape c p owner k u v.seen s.others (subst (Legal shape) s.now l) at) in
    past_receiver (now w.seen) c (tied_now shape w.seen l) p 0
    (subst (λ (es : List Entry). NoneBelow p 0 (at_channel es c)) (sym s.now)
    (below_lasts shape v.seen s.others c p 0 (subst (Legal shape) s.now l) low))
    (used_given (now w.seen) c p (tied_now shape w.seen l) (ap is_used here)) (ap (awaiting (replay w.seen).waits p) here
    ∙ gone_receiver p k u ((replay w.seen).waits u) res)

-- ---- Hand

module _ (shape : Shape) (v w : Seen) (l : Legal shape w.seen) (who c p n old : ℕ) (zero : old ≡ 0) (lc : c < length shape) where
  pub hand_told : (value owner k : ℕ) (u : WaitId) → value < 4294967296 → PartyFits shape owner u k → number shape u.channel u.place ≡ n
      → is_signal (kind_at shape c) ≡ false → NoneBelow p 0 (at_channel v.seen c) → cell_of v.seen c p ≡ receiver owner u k
      → Turns shape (2 * n + 1) old (record { who = who; act = Hand c p value }) v w → HandsTo who c p value owner v w
  hand_told value owner k u lv fits is kind low at t = record {
    made = t.made;
    to = let b = before_legal shape v w (record { who = who; act = Hand c p value }) l t.made in
        hand_to shape (v.seen ++ t.made.others) who c p value owner k u b lv fits.clause lc fits.channel fits.place kind
        (below_lasts shape v.seen t.made.others c p 0 b low) (receiver_more shape c p owner k u v.seen t.made.others b at)
        (sym zero ∙ (t.found.wait u.channel u.place fits.channel fits.place (ap (λ (z : ℕ). 2 * z + 1) (sym is))).0);
  }

  -- ---- a held offer is removed

  pub take_told : (by : Removal) (value owner k : ℕ) (u : WaitId) → PartyFits shape owner u k → number shape u.channel u.place ≡ n
      → NoneBelow 0 p (at_channel v.seen c) → cell_of v.seen c p ≡ offer value owner u k
      → Turns shape (2 * n + 1) old (record { who = who; act = removal_act by c p value }) v w
      → RemovesFrom by who c p value (Some owner) v w
  take_told by value owner k u fits is low at t = record {
    made = t.made;
    from = let b = before_legal shape v w (record { who = who; act = removal_act by c p value }) l t.made in
        let found = sym zero ∙ (t.found.wait u.channel u.place fits.channel fits.place (ap (λ (z : ℕ). 2 * z + 1) (sym is))).0 in
        take_from shape (v.seen ++ t.made.others) who c p value owner k u b fits.clause lc fits.channel fits.place
        (below_lasts shape v.seen t.made.others c 0 p b low)
        (still_offer shape c p value owner k u v.seen t.made.others b (inl at) found) found;
  }

-- an offer's cell, later
pub offer_later : (shape : Shape) (v w : Seen) (c p value owner k : ℕ) (u : WaitId) → Legal shape w.seen → Sees v w
    → cell_of v.seen c p ≡ offer value owner u k → (cell_of w.seen c p ≡ offer value owner u k) ⊎ (cell_of w.seen c p ≡ emptied value)
offer_later shape v w c p value owner k u l s at = subst (λ (es : List Entry). (cell_of es c p ≡ offer value owner u k)
    ⊎ (cell_of es c p ≡ emptied value)) (sym s.now) (offer_used_more shape c p value owner k u v.seen s.others (subst (Legal shape) s.now l)
    at)

pub low_later : (shape : Shape) (v w : Seen) (c p : ℕ) → Legal shape w.seen → Sees v w → NoneBelow 0 p (at_channel v.seen c)
    → NoneBelow 0 p (at_channel w.seen c)
low_later shape v w c p l s low = subst (λ (es : List Entry). NoneBelow 0 p (at_channel es c)) (sym s.now)
    (below_lasts shape v.seen s.others c 0 p (subst (Legal shape) s.now l) low)

-- a cell that is used, where no offer stands
pub past_used : (shape : Shape) (w : Seen) (c p : ℕ) → Legal shape w.seen → NoneBelow 0 p (at_channel w.seen c)
    → is_used (cell_of w.seen c p) ≡ true → stands w.seen c p ≡ None → NoneBelow 0 (p + 1) (at_channel w.seen c)
past_used shape w c p l low u none = past_offer (now w.seen) c (tied_now shape w.seen l) 0 p low
    (used_given (now w.seen) c p (tied_now shape w.seen l) u) none

module _ (shape : Shape) (v w : Seen) (l : Legal shape w.seen) (s : Sees v w) (c p value owner k : ℕ) (u : WaitId)
    (low : NoneBelow 0 p (at_channel v.seen c)) (at : cell_of v.seen c p ≡ offer value owner u k) where
  -- the wait lets no offer stand any more
  pub take_gone : (word : WaitWord) → IsWaitWord u w.seen word → lets_stand word k ≡ false → NoneBelow 0 (p + 1) (at_channel w.seen c)
  take_gone word is e = ⊎_elim
      (λ (x : cell_of w.seen c p ≡ offer value owner u k). past_used shape w c p l (low_later shape v w c p l s low) (ap is_used x)
      (ap (standing (replay w.seen).waits p) x ∙ offer_gone p value k u ((replay w.seen).waits u)
      (sym (ap (λ (z : WaitWord). lets_stand z k) is.0) ∙ e)))
      (λ (x : cell_of w.seen c p ≡ emptied value). past_used shape w c p l (low_later shape v w c p l s low) (ap is_used x)
      (ap (standing (replay w.seen).waits p) x))
      (offer_later shape v w c p value owner k u l s at)

  -- it was resolved, and lets the offer stand
  pub take_admitted : (x : Waiter) → x.value ≡ value → x.clause ≡ k → IsHolder shape c p x.holder owner u → PartyFits shape owner u k
      → (word : WaitWord) → IsWaitWord u w.seen word → (packed_wait word ≡ 0 → ⊥) → lets_stand word k ≡ true → IsAdmitted shape c p x w.seen
  take_admitted x is_value is_clause holds fits word is ne e = record {
    who = owner;
    wait = u;
    holder = holds;
    fits = subst (PartyFits shape owner u) (sym is_clause) fits;
    admitted = subst (λ (z : ℕ). IsResolvedAs (resolved.Admitted z) ((replay w.seen).waits u)) (sym is_clause)
        (admitted_found k word ((replay w.seen).waits u) is.0 ne e);
    cell = subst (λ (z : ℕ × ℕ). (cell_of w.seen c p ≡ offer z.0 owner u z.1)
        ⊎ (cell_of w.seen c p ≡ emptied z.0)) (λ i. (sym is_value i, sym is_clause i)) (offer_later shape v w c p value owner k u l s at);
  }

-- ---- a kept element is removed

module _ (shape : Shape) (v w : Seen) (l : Legal shape w.seen) (who c p value : ℕ) (old : CellWord) (lc : c < length shape)
    (lp : p ≤ places_at shape c) (low : NoneBelow 0 p (at_channel v.seen c)) (kept : IsKept shape c p value v.seen old) where
  pub kept_told : (by : Removal) → Turns shape (2 * number shape c p) (packed_cell old)
      (record { who = who; act = removal_act by c p value }) v w → RemovesFrom by who c p value None v w
  kept_told by t = record {
    made = t.made;
    from = let b = before_legal shape v w (record { who = who; act = removal_act by c p value }) l t.made in
        let f = t.found.cell c p lc lp refl in
        let k = kept_stands shape c p value old v.seen t.made.others b kept f.0 f.1 in
        kept_from shape (v.seen ++ t.made.others) who c p value b lc lp k.small (below_lasts shape v.seen t.made.others c 0 p b low) k.used
        k.stands;
  }

  -- another word says that the cell was emptied
  pub kept_lost : (found : CellWord) → Sees v w → IsCellWord shape c p w.seen found → (packed_cell found ≡ packed_cell old → ⊥)
      → NoneBelow 0 (p + 1) (at_channel w.seen c)
  kept_lost found s is ne = by_kept kept
    where
      l' : Legal shape (v.seen ++ s.others)
      l' = subst (Legal shape) s.now l

      other : (x : Cell) → cell_of w.seen c p ≡ x → packed_cell old ≡ cell_code shape c p x → ⊥
      other x e is_old = ne (ap packed_cell is.0 ∙ ap (cell_code shape c p) e ∙ sym is_old)

      empty : (y : ℕ) → cell_of w.seen c p ≡ emptied y → NoneBelow 0 (p + 1) (at_channel w.seen c)
      empty y e = past_used shape w c p l (low_later shape v w c p l s low) (ap is_used e) (ap (standing (replay w.seen).waits p) e)

      by_kept : IsKept shape c p value v.seen old → NoneBelow 0 (p + 1) (at_channel w.seen c)
      by_kept (put is_old at) = ⊎_elim
          (λ (x : cell_of w.seen c p ≡ buffered value). absurd (other (buffered value) x (ap packed_cell is_old)))
          (λ (x : cell_of w.seen c p ≡ emptied value). empty value x)
          (subst (λ (es : List Entry). (cell_of es c p ≡ buffered value)
          ⊎ (cell_of es c p ≡ emptied value)) (sym s.now) (kept_more shape c p value v.seen s.others l' at))
      by_kept (held x a same is_old) = ⊎_elim
          (λ (y : cell_of w.seen c p ≡ offer x.value a.who a.wait x.clause). absurd
          (other (offer x.value a.who a.wait x.clause) y (ap packed_cell is_old
          ∙ ap (λ (z : ℕ). cell_code shape c p (offer z a.who a.wait x.clause)) (sym same))))
          (λ (y : cell_of w.seen c p ≡ emptied x.value). empty x.value y)
          (subst (λ (es : List Entry). (cell_of es c p ≡ offer x.value a.who a.wait x.clause)
          ⊎ (cell_of es c p ≡ emptied x.value)) (sym s.now) (held_more shape c p x.value a.who x.clause a.wait v.seen s.others l'
          a.cell))

-- ---- one that was too many is removed

-- another word says that the cell was emptied
pub spurn_lost : (shape : Shape) (v w : Seen) → Legal shape w.seen → (c p value : ℕ) → WasPut c p value v.seen → (found : CellWord)
    → Sees v w → IsCellWord shape c p w.seen found → (packed_cell found ≡ packed_cell (plain_word state.Buffered value) → ⊥)
    → stands w.seen c p ≡ None
spurn_lost shape v w l c p value at found s is ne = ⊎_elim
    (λ (x : cell_of w.seen c p ≡ buffered value). absurd (ne (ap packed_cell is.0 ∙ ap (cell_code shape c p) x)))
    (λ (x : cell_of w.seen c p ≡ emptied value). ap (standing (replay w.seen).waits p) x)
    (subst (λ (es : List Entry). (cell_of es c p ≡ buffered value)
    ⊎ (cell_of es c p ≡ emptied value)) (sym s.now) (kept_more shape c p value v.seen s.others (subst (Legal shape) s.now l) at))

-- ---- an offer that was seen in its cell, and then its wait

pub stood_at : (shape : Shape) (c p value owner k : ℕ) (u : WaitId) (word : WaitWord) (xs ys : List Entry) → Legal shape xs
    → Legal shape (xs ++ ys) → cell_of xs c p ≡ offer value owner u k → IsWaitWord u (xs ++ ys) word → lets_stand word k ≡ true
    → is_some (stands xs c p) ≡ true
stood_at shape c p value owner k u word xs ys lx l at is e = ap (λ (x : Cell). is_some (standing (replay xs).waits p x)) at
    ∙ by_wait ((replay xs).waits u) refl (subst (CellNamed (replay xs).waits) at ((tied_now shape xs lx).named c p))
  where
    by_how : (x : Wait) (how : Option Resolution) → (replay xs).waits u ≡ Some x → x.resolved ≡ how
        → is_some (offer_by p value u k how) ≡ true
    by_how x None was r = refl
    by_how x (Some how) was r =
        let h : IsResolvedAs how ((replay xs).waits u) = subst (IsResolvedAs how) (sym was) r in
        after_stands p value k how ∙ sym (as_stands k how ((replay (xs ++ ys)).waits u) (resolved_later shape xs ys u how l h))
        ∙ sym (ap (λ (z : WaitWord). lets_stand z k) is.0) ∙ e

    by_wait : (y : Option Wait) → (replay xs).waits u ≡ y → IsNamed owner k y → is_some (offer_of p value u k y) ≡ true
    by_wait None was h = absurd h
    by_wait (Some x) was h = by_how x x.resolved was refl

pub gone_at : (shape : Shape) (c p value owner k : ℕ) (u : WaitId) (word : WaitWord) (xs ys : List Entry) → Legal shape (xs ++ ys)
    → cell_of xs c p ≡ offer value owner u k → IsWaitWord u (xs ++ ys) word → lets_stand word k ≡ false → stands (xs ++ ys) c p ≡ None
gone_at shape c p value owner k u word xs ys l at is e = ⊎_elim
    (λ (x : cell_of (xs ++ ys) c p ≡ offer value owner u k). ap (standing (replay (xs ++ ys)).waits p) x
    ∙ offer_gone p value k u ((replay (xs ++ ys)).waits u) (sym (ap (λ (z : WaitWord). lets_stand z k) is.0) ∙ e))
    (λ (x : cell_of (xs ++ ys) c p ≡ emptied value). ap (standing (replay (xs ++ ys)).waits p) x)
    (offer_used_more shape c p value owner k u xs ys l at)
