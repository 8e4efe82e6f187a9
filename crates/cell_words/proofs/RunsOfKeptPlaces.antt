-- A run of kept places: while an offer stands in it all behind stand, so that a walk may begin where the run ends.
use Rattle.std.proofs.Common.{◌≡◌, ◌⊎◌, ℕ, zero, suc, ◌+◌, ◌-◌, ◌<◌, ◌≤◌, ◌==◌, nat_lt, Bool, true, false, List, [], ◌∷◌, ◌++◌, length, Option, Some, None, is_some, sym, refl, ap, ◌∙◌, subst, ⊎_elim, arith, eq-eqb, ne_eqb, inl, MatchBool}
use Rattle.std.proofs.lemmas.Bool.Decides.{nat_tests}
use mathlib.Core.Logic.{dite}
use native.Mathlib.Decide.{ℕ_discrete, dec_le}
use Rattle.co_base.specs.declared.names.WaitId.{WaitId}
use Rattle.channel_model.specs.declared.acts.Act.TheVariants.{Put, Admit}
use Rattle.channel_model.specs.declared.acts.Entry.{Entry}
use Rattle.channel_model.specs.declared.acts.Kind.{Kind}
use Rattle.channel_model.specs.declared.standing.Party.{Party}
use Rattle.channel_model.specs.declared.standing.Standing.{Standing}
use Rattle.channel_model.specs.declared.standing.Resolution.TheVariants as resolved
use Rattle.channel_model.specs.Channels.{Shape, State, Wait, start, kind_at, drops, spurns}
use Rattle.channel_model.specs.Effects.{after, resolve, resolve_holder, with_queue, put_wait, resolved_wait, admitted, holder_at}
use Rattle.channel_model.specs.Needs.{MayBeAdmitted}
use Rattle.channel_model.specs.Histories.{replay, replay_from, Legal, LegalFrom}
use Rattle.channel_model.specs.Laws.{NoneBelow, IsResolvedAs}
use Rattle.channel_model.proofs.Histories.{replay_push, LegalFrom-parts}
use Rattle.channel_model.proofs.Waits.{at_wait}
use Rattle.word_rules.specs.declared.cell_word.CellWord.{CellWord}
use Rattle.word_rules.specs.Cells.{Cell, free, receiver, offer, buffered, emptied, closed_by, voided_by, Board, board_of, cell_of, gather}
use Rattle.cell_words.specs.Puts.{was_put}
use Rattle.word_rules.specs.Words.{word_of_cell, WasKept, WereKept}
use Rattle.cell_words.specs.Seen.{Seen, Sees, Makes, at_channel}
use Rattle.cell_words.specs.Answers.{stands, IsCellWord, IsOver, Admits}
use Rattle.cell_words.proofs.GatheredLists.{gather_in, gather_none}
use Rattle.cell_words.proofs.ListsOfCells.{Tied, IsOffer, held, kept_here, standing_is, cell_here}
use Rattle.cell_words.proofs.OffersAdmitted.{HeldAt, held_at}
use Rattle.cell_words.proofs.CellsTellFacts.{now, tied_now, none_offers}
use Rattle.cell_words.proofs.CountsOfOffers.{count_next, count_up}
use Rattle.cell_words.proofs.EntriesOnOneWord.{cells_push}
use Rattle.cell_words.proofs.ExchangesTell.{before_legal}
use Rattle.cell_words.proofs.KeptBehind.{drops_keeps}
use Rattle.cell_words.proofs.OffersUpTo.{over_count}
use Rattle.cell_words.proofs.PlacesWereKept.{were_kept_more}
use Rattle.cell_words.proofs.WalksToAdmit.{Walked, one_kept, place_kept, walked_none, walked_kept}

-- ---- what lasts

pub run_seen : (shape : Shape) (c from to : ℕ) (v w : Seen) → Sees v w → Legal shape w.seen → WereKept v.seen c from to
    → WereKept w.seen c from to
run_seen shape c from to v w s l h = subst (λ (es : List Entry). WereKept es c from to) (sym s.now)
    (were_kept_more shape c from to v.seen s.others (subst (Legal shape) s.now l) h)

pub run_made : (shape : Shape) (c from to : ℕ) (e : Entry) (v w : Seen) → Makes v e w → Legal shape w.seen → WereKept v.seen c from to
    → WereKept w.seen c from to
run_made shape c from to e v w m l h = subst (λ (es : List Entry). WereKept es c from to) (sym m.now)
    (were_kept_more shape c from to (v.seen ++ m.others) (e ∷ []) (subst (Legal shape) m.now l)
    (were_kept_more shape c from to v.seen m.others (before_legal shape v w e l m) h))

-- ---- one place more

pub put_kept : (who c p value : ℕ) (v w : Seen) → Makes v (record { who = who; act = Put c p value }) w → WereKept w.seen c p (p + 1)
put_kept who c p value v w m = let log = v.seen ++ m.others in let e : Entry = record { who = who; act = Put c p value } in
    one_kept w.seen c p (subst (λ (es : List Entry). WasKept (replay es).waits (cell_of es c p)) (sym m.now)
    (subst (WasKept (replay (log ++ e ∷ [])).waits) (sym (cells_push log e c p ∙ cell_here (board_of log).cells c p (buffered value))) tt))

-- the cell's word says that an element was put
put_cell : (waits : WaitId → Option Wait) (shape : Shape) (c p : ℕ) (x : Cell) → was_put (word_of_cell shape c p x).state ≡ true
    → WasKept waits x
put_cell waits shape c p free e = cc
put_cell waits shape c p (receiver who w k) e = cc
put_cell waits shape c p (offer v who w k) e = cc
put_cell waits shape c p (buffered v) e = tt
put_cell waits shape c p (emptied v) e = tt
put_cell waits shape c p (closed_by v) e = cc
put_cell waits shape c p (voided_by v) e = cc

pub word_kept : (shape : Shape) (c p : ℕ) (log : List Entry) (word : CellWord) → IsCellWord shape c p log word
    → was_put word.state ≡ true → WereKept log c p (p + 1)
word_kept shape c p log word is h = one_kept log c p (put_cell (replay log).waits shape c p (cell_of log c p)
    (sym (ap (λ (z : CellWord). was_put z.state) is.0) ∙ h))

pub run_longer : (log : List Entry) (c from to : ℕ) → WereKept log c from to → WereKept log c to (to + 1) → WereKept log c from (to + 1)
run_longer log c from to h one p le lt = dite (dec_le (p + 1) to) (λ before. h p le (omega (arith, before)))
    (λ beyond. one p (omega (arith, beyond)) lt)

pub run_shorter : (log : List Entry) (c from to n : ℕ) → n ≤ to → WereKept log c from to → WereKept log c from n
run_shorter log c from to n less h p le lt = h p le (omega arith)

-- an offer that is admitted is kept from then on
admit_keeps : (b : Board) (kind : Kind) (c p : ℕ) → MayBeAdmitted kind p 0 (b.state.channels c).queue → Tied b
    → WasKept (resolve_holder (holder_at p (b.state.channels c).queue) resolved.Admitted
    (with_queue c (admitted p (b.state.channels c).queue) b.state)).waits (b.cells c p)
admit_keeps b kind c p m t =
    let s = held_at kind p 0 (b.state.channels c).queue m in
    let g = gather_in _ (b.state.channels c).next s.before s.it s.rest (sym (t.queues c) ∙ s.all) in
    subst (λ (z : Option Party). WasKept (resolve_holder z resolved.Admitted
    (with_queue c (admitted p (b.state.channels c).queue) b.state)).waits (b.cells c p)) (sym s.found)
    (go s g.0 (standing_is b.state.waits g.0 (b.cells c g.0) s.it g.2))
  where
    go : (s : HeldAt p (b.state.channels c).queue) (q : ℕ) → IsOffer b.state.waits q (b.cells c q) s.it
        → WasKept (resolve s.holder.wait (resolved.Admitted s.holder.clause)
        (with_queue c (admitted p (b.state.channels c).queue) b.state)).waits (b.cells c p)
    go s q (held who h x cell place holder was still_open) =
        let at : q ≡ p = sym place ∙ s.place in
        let same : Some h ≡ Some s.holder = sym holder ∙ s.holds in
        let is : h ≡ s.holder = cc in
        let here : b.cells c p ≡ offer s.it.value who h.wait h.clause =
        subst (λ (z : ℕ). b.cells c z ≡ offer s.it.value who h.wait h.clause) at cell in
        let waits = put_wait h.wait (resolved_wait (resolved.Admitted h.clause) (b.state.waits h.wait)) b.state.waits in
        subst (λ (z : Party). WasKept (resolve z.wait (resolved.Admitted z.clause)
        (with_queue c (admitted p (b.state.channels c).queue) b.state)).waits (b.cells c p)) is
        (subst (WasKept waits) (sym here) (subst (IsResolvedAs (resolved.Admitted h.clause))
        (sym (at_wait h.wait (resolved_wait (resolved.Admitted h.clause) (b.state.waits h.wait)) b.state.waits
        ∙ ap (resolved_wait (resolved.Admitted h.clause)) was)) refl))
    go s q (kept_here line place holder) = let f : Some s.holder ≡ None = sym s.holds ∙ holder in cc

admit_pushed : (shape : Shape) (who c p : ℕ) (log : List Entry) → Legal shape (log ++ record { who = who; act = Admit c p } ∷ [])
    → WasKept (replay (log ++ record { who = who; act = Admit c p } ∷ [])).waits
    (cell_of (log ++ record { who = who; act = Admit c p } ∷ []) c p)
unfolding replay_from LegalFrom
admit_pushed shape who c p log l =
    let e : Entry = record { who = who; act = Admit c p } in
    let parts = LegalFrom-parts shape start log (e ∷ []) l in
    subst (λ (s : State). WasKept s.waits (cell_of (log ++ e ∷ []) c p)) (sym (replay_push log e))
    (subst (WasKept (after (replay log) who (Admit c p)).waits) (sym (cells_push log e c p))
    (admit_keeps (now log) (kind_at shape c) c p parts.1.0.1 (tied_now shape log parts.0)))

pub admit_kept : (shape : Shape) (who c p t : ℕ) (v w : Seen) → Legal shape w.seen → Admits who c p t v w → WereKept w.seen c p (p + 1)
admit_kept shape who c p t v w l a = one_kept w.seen c p
    (subst (λ (es : List Entry). WasKept (replay es).waits (cell_of es c p)) (sym a.made.now)
    (admit_pushed shape who c p (v.seen ++ a.made.others) (subst (Legal shape) a.made.now l)))

-- ---- a walk that begins where the run ends

module _ (shape : Shape) (c low from to : ℕ) (never : (n : ℕ) → spurns (kind_at shape c) n ≡ false) (log : List Entry) (l : Legal shape log)
    (below : NoneBelow 0 low (at_channel log c)) (run : WereKept log c from to) where
  pub walked_run : from ≤ low → (d n : ℕ) → n ≡ low + d → n ≤ to → Walked c low n d log
  walked_run le zero n is within = let e : low ≡ n = omega arith
      in subst (λ (z : ℕ). Walked c low z 0 log) e (walked_none shape c low log l below)
  walked_run le (suc d) n is within =
      let e : (low + d) + 1 ≡ n = omega arith in
      let f : d + 1 ≡ suc d = omega arith in
      subst (λ (z : ℕ × ℕ). Walked c low z.0 z.1 log) (λ i. (e i, f i))
      (walked_kept c low (low + d) d log (omega arith) (walked_run le d (low + d) refl (omega arith))
      (place_kept shape c (low + d) never log l (cell_of log c (low + d)) refl (run (low + d) (omega arith) (omega arith))))

  -- at the run's end, or where it is not one of these places at the place itself
  pub walked_start : (first : ℕ) → low ≤ first → (first ≡ low) ⊎ ((from ≤ low) × (first ≤ to)) → Walked c low first (first - low) log
  walked_start first le at = ⊎_elim
      (λ (e : first ≡ low). let f : low ≡ first = sym e in let d : 0 ≡ first - low = omega arith
      in subst (λ (z : ℕ × ℕ). Walked c low z.0 z.1 log) (λ i. (f i, d i)) (walked_none shape c low log l below))
      (λ (r : (from ≤ low) × (first ≤ to)). walked_run r.0 (first - low) first (omega arith) r.1)
      at

  -- so many stand as the run has from its first offer on
  pub run_stands : (most end : ℕ) → from ≤ low → low + most ≤ to → low + most ≤ end → is_some (stands log c low) ≡ true
      → most ≤ length (gather (stands log c) end)
  run_stands most end le within before st =
      let w = walked_run le most (low + most) refl within in
      let k = w.lower st in
      let m = count_up (stands log c) (low + most) (end - (low + most)) end (omega arith) in
      omega arith

-- a channel that drops its oldest is over where its run has one place more than it keeps, or none stands at the first of these
pub run_over : (shape : Shape) (c first from to most : ℕ) → ((n : ℕ) → drops (kind_at shape c) n ≡ nat_lt most n) → (log : List Entry)
    → Legal shape log → NoneBelow 0 first (at_channel log c) → WereKept log c from to → from ≤ first → first + (most + 1) ≤ to
    → IsOver shape c first log
run_over shape c first from to most kind log l below run le within = go (stands log c first) refl
  where
    more : (n : ℕ) → n ≡ most + 1 → nat_lt most n ≡ true
    more n e = grind (arith, nat_tests)

    never : (n : ℕ) → spurns (kind_at shape c) n ≡ false
    never = drops_keeps (kind_at shape c) (most + 1) (kind (most + 1) ∙ more (most + 1) refl)

    go : (x : Option Standing) → stands log c first ≡ x → IsOver shape c first log
    go None e = inl e
    go (Some o) e =
        let w = walked_run shape c first from to never log l below run le (most + 1) (first + (most + 1)) refl within in
        let last : first + most < (at_channel log c).next = (let g = w.given in omega arith) in
        over_count shape log l c (first + most) last first most kind
        (run_stands shape c first from to never log l below run (most + 1) (first + most + 1) le within (omega arith) (ap is_some e))

-- where none stands below, no more stand than there are places
pub few_from : (shape : Shape) (c low : ℕ) (log : List Entry) → Legal shape log → NoneBelow 0 low (at_channel log c) → (d n : ℕ)
    → n ≡ low + d → length (gather (stands log c) n) ≤ d
few_from shape c low log l below zero n is =
    let none : length (gather (stands log c) low) ≡ 0 = ap (λ (os : List Standing). length os)
    (gather_none (stands log c) low (λ q lt. none_offers (now log) c (tied_now shape log l) 0 low below q lt)) in
    let e : low ≡ n = omega arith in
    subst (λ (z : ℕ). length (gather (stands log c) z) ≤ 0) e (omega arith)
few_from shape c low log l below (suc d) n is =
    let e : (low + d) + 1 ≡ n = omega arith in
    let m = count_next (stands log c) (low + d) d (few_from shape c low log l below d (low + d) refl) in
    subst (λ (z : ℕ). length (gather (stands log c) z) ≤ suc d) e (omega arith)

pub none_counted : (most first last : ℕ) → last ≤ 0 → MatchBool (most == 0) (most ≤ first) (last < most)
none_counted most first last h = dite (ℕ_discrete most 0)
    (λ (e : most ≡ 0). subst (λ (b : Bool). MatchBool b (most ≤ first) (last < most)) (sym (eq-eqb most 0 e)) (omega arith))
    (λ ne. subst (λ (b : Bool). MatchBool b (most ≤ first) (last < most)) (sym (ne_eqb most 0 ne)) (omega arith))
