-- A held offer is admitted, where fewer offers stand before it than the channel keeps.
use Rattle.std.proofs.Common.{◌≡◌, ◌≢◌, ◌⊎◌, ℕ, zero, suc, ◌+◌, ◌*◌, ◌<◌, ◌≤◌, eq-eqb, ne_eqb, Bool, true, false, List, [], ◌∷◌, ◌++◌, length, if◌then◌else◌, Option, Some, None, is_some, sym, refl, ap, ◌∙◌, subst, arith, append_assoc, inl, MatchBool}
use mathlib.Core.Logic.{dite}
use native.Mathlib.Decide.{ℕ_discrete}
use Rattle.worded.specs.Views.{has_tag}
use Rattle.co_base.specs.declared.names.WaitId.{WaitId}
use Rattle.channel_model.specs.declared.acts.Kind.{Kind}
use Rattle.channel_model.specs.declared.acts.Act.TheVariants.{Admit}
use Rattle.channel_model.specs.declared.acts.Entry.{Entry}
use Rattle.channel_model.specs.declared.standing.Party.{Party}
use Rattle.channel_model.specs.declared.standing.Standing.{Standing}
use Rattle.channel_model.specs.declared.standing.Resolution.TheVariants as resolved
use Rattle.channel_model.specs.Channels.{Shape, kind_at, is_full}
use Rattle.channel_model.specs.Effects.{holder_at, with_queue, admitted, resolve_holder}
use Rattle.channel_model.specs.Needs.{MayBeAdmitted}
use Rattle.channel_model.specs.Histories.{replay, Legal}
use Rattle.channel_model.specs.Answers.{IsResolvedWait, owner_of, owner_of_holder}
use Rattle.cell_words.specs.declared.found.Waiter.{Waiter}
use Rattle.word_rules.specs.declared.wait_word.WaitWord.{WaitWord}
use Rattle.word_rules.specs.Cells.{offer, cell_of, standing, offer_of, offer_by, gather, add_some, is_used}
use Rattle.word_rules.specs.Codes.{packed_wait}
use Rattle.word_rules.specs.Words.{number, wait_number, PartyFits, wait_code, how_code, Fits}
use Rattle.cell_words.specs.Seen.{Seen, at_channel, Sees, Turns}
use Rattle.cell_words.specs.Looks.{lets_stand, admission_by, admission_found}
use Rattle.cell_words.specs.Answers.{MayTurn, IsWaitWord, Offers, Admits, AdmitAt, stands}
use Rattle.cell_words.proofs.ListsOfCells.{CellNamed, standing_is}
use Rattle.cell_words.proofs.OffersRemoved.{offer_place}
use Rattle.cell_words.proofs.OffersAdmitted.{PlacesBelow, gather_below}
use Rattle.cell_words.proofs.CellsTellFacts.{now, tied_now, used_given}
use Rattle.cell_words.proofs.CountsOfOffers.{gone_more, count_less}
use Rattle.cell_words.proofs.EntriesOnOneWord.{IsOpenWait, open_wait, resolve_steps}
use Rattle.cell_words.proofs.MayExchange.{still_offer, full_less}
use Rattle.cell_words.proofs.ExchangesTell.{before_legal, offer_later, gone_at, admitted_found}

-- what is gathered, with the one at p behind those below
gather_split : {A : Type 0} (f : ℕ → Option A) (p n : ℕ) (x : A) → p < n → f p ≡ Some x → (rest : List A)
    × (gather f n ≡ gather f p ++ x ∷ rest)
gather_split f p zero x lt e = absurd (omega arith)
gather_split {A} f p (suc n) x lt e = dite (ℕ_discrete n p)
    (λ (is : n ≡ p). ([], ap (λ (z : ℕ). add_some (f z) (gather f z)) is ∙ ap (λ (o : Option A). add_some o (gather f p)) e))
    (λ ne. more (gather_split f p n x (omega arith) e))
  where
    more : (rest : List A) × (gather f n ≡ gather f p ++ x ∷ rest) → (rest : List A)
        × (add_some (f n) (gather f n) ≡ gather f p ++ x ∷ rest)
    more h = (add_some (f n) h.0, ap (add_some (f n)) h.1 ∙ one (f n))
      where
        one : (o : Option A) → add_some o (gather f p ++ x ∷ h.0) ≡ gather f p ++ x ∷ add_some o h.0
        one None = refl
        one (Some y) = append_assoc (gather f p) (x ∷ h.0) (y ∷ [])

-- the offer behind these, none of which has its place
may_admit : (kind : Kind) (p m : ℕ) (xs rest : List Standing) (o : Standing) (h : Party) → PlacesBelow p xs → o.place ≡ p
    → o.holder ≡ Some h → is_full kind (m + length xs) ≡ false → MayBeAdmitted kind p m (xs ++ o ∷ rest)
may_admit kind p m [] rest o h below at holds room = subst
    (λ (b : Bool). MatchBool b ((is_some o.holder ≡ true) × (is_full kind m ≡ false)) (MayBeAdmitted kind p (m + 1) rest))
    (sym (eq-eqb o.place p at)) (ap is_some holds, ap (is_full kind) (omega arith) ∙ room)
may_admit kind p m (x ∷ xs) rest o h below at holds room =
    subst (λ (b : Bool). MatchBool b ((is_some x.holder ≡ true) × (is_full kind m ≡ false)) (MayBeAdmitted kind p (m + 1) (xs ++ o ∷ rest)))
    (sym (ne_eqb x.place p (λ e. let l = below.0 in omega arith)))
    (may_admit kind p (m + 1) xs rest o h below.1 at holds (ap (is_full kind) (omega arith) ∙ room))

holder_of : (p : ℕ) (xs rest : List Standing) (o : Standing) → PlacesBelow p xs → o.place ≡ p → holder_at p (xs ++ o ∷ rest) ≡ o.holder
holder_of p [] rest o below at = ap (λ (b : Bool). if b then o.holder else holder_at p rest) (eq-eqb o.place p at)
holder_of p (x ∷ xs) rest o below at = ap (λ (b : Bool). if b then x.holder else holder_at p (xs ++ o ∷ rest))
    (ne_eqb x.place p (λ e. let l = below.0 in omega arith)) ∙ holder_of p xs rest o below.1 at

-- ---- an offer whose wait nobody resolved

module _ (shape : Shape) (log : List Entry) (l : Legal shape log) (c p value owner k : ℕ) (w : WaitId)
    (cell : cell_of log c p ≡ offer value owner w k) (found : 0 ≡ wait_code ((replay log).waits w)) where
  abbrev held_offer : Standing
  held_offer = record { place = p; value = value; holder = Some (record { wait = w; clause = k }) }

  open_offer : IsOpenWait owner k ((replay log).waits w)
  open_offer = open_wait owner k ((replay log).waits w) (subst (CellNamed (replay log).waits) cell ((tied_now shape log l).named c p)) found

  stands_held : standing (replay log).waits p (cell_of log c p) ≡ Some held_offer
  stands_held = ap (standing (replay log).waits p) cell ∙ ap (offer_of p value w k) open_offer.was
      ∙ ap (offer_by p value w k) open_offer.still_open

  split : (rest : List Standing) × (((replay log).channels c).queue ≡ gather (stands log c) p ++ held_offer ∷ rest)
  split = let t = tied_now shape log l in let s = gather_split (stands log c) p ((replay log).channels c).next _
      (used_given (now log) c p t (ap is_used cell)) stands_held in (s.0, t.queues c ∙ s.1)

  below : PlacesBelow p (gather (stands log c) p)
  below = gather_below (stands log c) (λ q o e. offer_place (replay log).waits q (cell_of log c q) o
      (standing_is (replay log).waits q (cell_of log c q) o e)) p

  holder_found : holder_at p ((replay log).channels c).queue ≡ Some (record { wait = w; clause = k })
  holder_found = ap (holder_at p) split.1 ∙ holder_of p (gather (stands log c) p) split.0 held_offer below refl

  -- whose offer it is
  pub held_by : owner_of_holder (replay log) (holder_at p ((replay log).channels c).queue) ≡ Some owner
  held_by = ap (owner_of_holder (replay log)) holder_found ∙ ap owner_of open_offer.was ∙ ap (λ (n : ℕ). Some n) open_offer.owner

  pub admit_steps : (who : ℕ) → PartyFits shape owner w k → c < length shape
      → is_full (kind_at shape c) (length (gather (stands log c) p)) ≡ false
      → Legal shape (log ++ record { who = who; act = Admit c p } ∷ [])
      × Fits shape (log ++ record { who = who; act = Admit c p } ∷ []) (wait_number shape w.channel w.place)
      (how_code (resolved.Admitted k))
      × ((j n : ℕ) → j ≢ wait_number shape w.channel w.place → Fits shape log j n
      → Fits shape (log ++ record { who = who; act = Admit c p } ∷ []) j n)
  admit_steps who fits lc room = resolve_steps shape log who w.channel w.place (Admit c p) (resolved.Admitted k) open_offer.wait l
      fits.channel fits.place (
        lc,
        subst (MayBeAdmitted (kind_at shape c) p 0) (sym split.1)
            (may_admit (kind_at shape c) p 0 (gather (stands log c) p) split.0 held_offer (record { wait = w; clause = k }) below refl refl
            (ap (is_full (kind_at shape c)) (omega arith) ∙ room)),
      )
      (ap (λ (h : Option Party). (resolve_holder h resolved.Admitted
      (with_queue c (admitted p ((replay log).channels c).queue) (replay log))).waits) holder_found)
      (λ d q. refl) open_offer.was open_offer.still_open fits.clause

-- ---- whatever others do meanwhile

-- no more offers stand before it than did
room_later : (shape : Shape) (c p : ℕ) (xs ys : List Entry) → Legal shape xs → Legal shape (xs ++ ys) → p ≤ ((replay xs).channels c).next
    → is_full (kind_at shape c) (length (gather (stands xs c) p)) ≡ false
    → is_full (kind_at shape c) (length (gather (stands (xs ++ ys) c) p)) ≡ false
room_later shape c p xs ys lx l le room = full_less (kind_at shape c) (length (gather (stands (xs ++ ys) c) p))
    (length (gather (stands xs c) p)) (count_less (stands xs c) (stands (xs ++ ys) c) p
    (λ q lt e. gone_more shape c q xs ys lx l (omega arith) e)) room

pub admits : (shape : Shape) (v : Seen) (who c p value owner k : ℕ) (w : WaitId) → has_tag who v.tags ≡ true → c < length shape
    → Legal shape v.seen → PartyFits shape owner w k → p ≤ (at_channel v.seen c).next
    → is_full (kind_at shape c) (length (gather (stands v.seen c) p)) ≡ false → (cell_of v.seen c p ≡ offer value owner w k)
    ⊎ IsResolvedWait ((replay v.seen).waits w)
    → MayTurn shape (wait_number shape w.channel w.place) 0 (how_code (resolved.Admitted k)) (record { who = who; act = Admit c p }) v
admits shape v who c p value owner k w own lc lx fits le room at = record {
  own = own;
  steps = λ others added f.
      let l = added.is_legal in
      let found = (f.wait w.channel w.place fits.channel fits.place refl).0 in
      admit_steps shape (v.seen ++ others) l c p value owner k w (still_offer shape c p value owner k w v.seen others l at found) found who
      fits lc (room_later shape c p v.seen others lx l le room);
}

pub admit_told : (shape : Shape) (v w : Seen) (who c p n old value owner k : ℕ) (u : WaitId) → Legal shape w.seen → old ≡ 0
    → PartyFits shape owner u k → number shape u.channel u.place ≡ n → cell_of v.seen c p ≡ offer value owner u k
    → Turns shape (2 * n + 1) old (record { who = who; act = Admit c p }) v w → Admits who c p owner v w
admit_told shape v w who c p n old value owner k u l stood fits is at t = record {
  made = t.made;
  of = let b = before_legal shape v w (record { who = who; act = Admit c p }) l t.made in
      let found = sym stood ∙ (t.found.wait u.channel u.place fits.channel fits.place (ap (λ (z : ℕ). 2 * z + 1) (sym is))).0 in
      held_by shape (v.seen ++ t.made.others) b c p value owner k u
      (still_offer shape c p value owner k u v.seen t.made.others b (inl at) found) found;
}

-- where an offer was seen, its place was given out
pub offer_given : (shape : Shape) (c p : ℕ) (x : Waiter) (log : List Entry) → Legal shape log → Offers shape c p x log
    → p ≤ (at_channel log c).next
offer_given shape c p x log l o = let lt = used_given (now log) c p (tied_now shape log l) (ap is_used o.cell) in omega arith

-- the same room, after some looks
pub room_seen : (shape : Shape) (c p : ℕ) (u v : Seen) → Sees u v → Legal shape u.seen → Legal shape v.seen → p ≤ (at_channel u.seen c).next
    → is_full (kind_at shape c) (length (gather (stands u.seen c) p)) ≡ false
    → is_full (kind_at shape c) (length (gather (stands v.seen c) p)) ≡ false
room_seen shape c p u v s lu l le room = subst (λ (es : List Entry). is_full (kind_at shape c) (length (gather (stands es c) p)) ≡ false)
    (sym s.now) (room_later shape c p u.seen s.others lu (subst (Legal shape) s.now l) le room)

-- what the word of a resolved wait tells of its offer
pub admit_tried : (shape : Shape) (v w : Seen) (who c p : ℕ) (x : Waiter) → Legal shape w.seen → Sees v w → (o : Offers shape c p x v.seen)
    → (word : WaitWord) → IsWaitWord o.held.wait w.seen word → (packed_wait word ≡ 0 → ⊥)
    → AdmitAt shape who c p x v w (admission_found word x.clause)
admit_tried shape v w who c p x l s o word is ne = by_test (lets_stand word x.clause) refl
  where
    by_test : (b : Bool) → lets_stand word x.clause ≡ b → AdmitAt shape who c p x v w (admission_by b)
    by_test true e = (
      s,
      record {
        who = o.held.who;
        wait = o.held.wait;
        holder = o.held.holder;
        fits = o.held.fits;
        admitted = admitted_found x.clause word ((replay w.seen).waits o.held.wait) is.0 ne e;
        cell = offer_later shape v w c p x.value o.held.who x.clause o.held.wait l s o.cell;
      },
    )
    by_test false e = (
      s,
      subst (λ (es : List Entry). stands es c p ≡ None) (sym s.now)
          (gone_at shape c p x.value o.held.who x.clause o.held.wait word v.seen s.others (subst (Legal shape) s.now l) o.cell
          (subst (λ (es : List Entry). IsWaitWord o.held.wait es word) s.now is) e),
    )
