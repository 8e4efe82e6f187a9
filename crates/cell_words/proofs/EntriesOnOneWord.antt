-- Each entry that a step makes is legal, and changes one word.
use Rattle.std.proofs.Common.{◌≡◌, ◌≢◌, ℕ, ◌/◌, ◌%◌, ◌<◌, ◌≤◌, Bool, true, false, List, [], ◌∷◌, ◌++◌, length, if◌then◌else◌, Option, Some, None, sym, refl, ap, ◌∙◌, subst, arith}
use Rattle.channel_model.specs.Laws.{NoneBelow}
use Rattle.co_base.specs.declared.names.WaitId.{WaitId}
use Rattle.channel_model.specs.declared.acts.Act.{Act}
use Rattle.channel_model.specs.declared.acts.Act.TheVariants.{Hand, Put, Offer, Await, Take, Drop, Spurn, Close, Drain, Withdraw}
use Rattle.channel_model.specs.declared.acts.Why.{Why}
use Rattle.channel_model.specs.declared.acts.Entry.{Entry}
use Rattle.channel_model.specs.declared.acts.Settled.{Settled}
use Rattle.channel_model.specs.declared.standing.Standing.{Standing}
use Rattle.channel_model.specs.declared.standing.Receiver.{Receiver}
use Rattle.channel_model.specs.declared.standing.Resolution.{Resolution}
use Rattle.channel_model.specs.declared.standing.Resolution.TheVariants as resolved
use Rattle.channel_model.specs.Channels.{Shape, State, Wait, same_wait, places_at, kind_at, is_signal, suspends, is_full, drops, spurns}
use Rattle.channel_model.specs.Effects.{after, resolve_first, resolve_offer, remove_first, put_wait, resolved_wait, name_clause}
use Rattle.channel_model.specs.Needs.{Needs, HasPlace, IsFirstReceiver, IsFirstOffer, IsOfferAt, IsOpenOf}
use Rattle.channel_model.specs.Histories.{replay, Legal}
use Rattle.channel_model.specs.Answers.{first_receiver, first_holder, owner_of, IsOwnWait}
use Rattle.channel_model.proofs.Histories.{replay_push, Legal_push}
use Rattle.channel_model.proofs.Waits.{same_wait-eq, at_wait}
use Rattle.channel_model.proofs.Firsts.{may_begin}
use Rattle.word_rules.specs.Cells.{Cell, free, receiver, offer, buffered, emptied, closed_by, Cells, spot, set_cell, mark, Board, board_of, blank, cell_of, standing, awaiting, receiver_of, receiver_by, offer_of, offer_by, emptied_if, is_used}
use Rattle.word_rules.specs.Words.{number, cell_number, wait_number, cell_code, wait_code, parts_word, how_code, HowFits, HasWaitCode, PartyFits, CellFits, Fits}
use Rattle.word_rules.specs.Codes.{packed_wait}
use Rattle.cell_words.specs.declared.found.Removal.{Removal}
use Rattle.cell_words.specs.declared.found.Removal.TheVariants as removal
use Rattle.cell_words.specs.Removals.{removal_act, how_removed}
use Rattle.cell_words.specs.Answers.{MayRemoveHeld}
use Rattle.cell_words.proofs.OneNumberOneWord.{number_apart, cell_not_wait, wait_not_send, cell_not_receive, cell_not_send, wait_not_receive, cell_not_run, wait_not_run, cell_not_decided, wait_not_decided, cell_not_mark, wait_not_mark, same_number, same_number_odd}
use Rattle.cell_words.proofs.ListsOfCells.{IsNamed, CellNamed, standing_is, cell_here, cell_else, set_same}
use Rattle.cell_words.proofs.OffersRemoved.{offer_place}
use Rattle.cell_words.proofs.OffersSpurned.{offer_gathered}
use Rattle.channel_model.proofs.Sound.{sound, EndsResolved}
use Rattle.cell_words.proofs.CellsGiveLists.{board_push, board_state}
use Rattle.cell_words.proofs.CellsTellFacts.{now, tied_now, used_given, first_line, first_queue, free_end}
use Rattle.channel_model.proofs.GoneForGood.{below_lasts}
use Rattle.cell_words.proofs.PlacesWereKept.{were_kept_more}
use Rattle.cell_words.proofs.PlacesDecided.{were_decided_more, mark_more}

pub cells_push : (log : List Entry) (e : Entry) (c p : ℕ)
    → cell_of (log ++ e ∷ []) c p ≡ mark (board_of log).state (board_of log).cells e.who e.act c p
cells_push log e c p = ap (λ (b : Board). b.cells c p) (board_push log e)

module _ (shape : Shape) (log : List Entry) (e : Entry) (l : Legal shape (log ++ e ∷ [])) where
  -- all other words say what they said
  pub fits_more : (word : ℕ)
      → ((d q : ℕ) → d < length shape → q ≤ places_at shape d → cell_number shape d q ≢ word
      → cell_of (log ++ e ∷ []) d q ≡ cell_of log d q)
      → ((d q : ℕ) → d < length shape → q ≤ places_at shape d → wait_number shape d q ≢ word → (n : ℕ)
      → HasWaitCode n ((replay log).waits (spot d q)) → HasWaitCode n ((replay (log ++ e ∷ [])).waits (spot d q)))
      → (j n : ℕ) → j ≢ word → Fits shape log j n → Fits shape (log ++ e ∷ []) j n
  fits_more word cells waits j n ne f = record {
    cell = λ d q ld lq at. subst (λ (x : Cell). (n ≡ cell_code shape d q x)
        × CellFits shape x) (sym (cells d q ld lq (λ is. ne (at ∙ is)))) (f.cell d q ld lq at);
    wait = λ d q ld lq at. waits d q ld lq (λ is. ne (at ∙ is)) n (f.wait d q ld lq at);
    sends = λ d ld at. below_lasts shape log (e ∷ []) d n 0 l (f.sends d ld at);
    receives = λ d ld at. below_lasts shape log (e ∷ []) d 0 n l (f.receives d ld at);
    run = λ d ld at. were_kept_more shape d (n % 4294967296) (n / 4294967296) log (e ∷ []) l (f.run d ld at);
    decided = λ d ld at. were_decided_more shape d _ _ _ log (e ∷ []) l (f.decided d ld at);
    mark = λ d q ld lq at. mark_more shape d q n log (e ∷ []) l (f.mark d q ld lq at);
  }

  -- the word of a wait says what it is now
  pub turned_wait : (c p n : ℕ) → c < length shape → p ≤ places_at shape c → HasWaitCode n ((replay (log ++ e ∷ [])).waits (spot c p))
      → Fits shape (log ++ e ∷ []) (wait_number shape c p) n
  turned_wait c p n lc lp is = record {
    cell = λ d q ld lq at. absurd (cell_not_wait shape d c q p (sym at));
    wait = λ d q ld lq at. let h = number_apart shape c d p q lc ld lp lq (same_number_odd (number shape c p) (number shape d q) at)
        in subst (λ (z : ℕ × ℕ). HasWaitCode n ((replay (log ++ e ∷ [])).waits (spot z.0 z.1))) (λ i. (h.0 i, h.1 i)) is;
    sends = λ d ld at. absurd (wait_not_send shape c d p at);
    receives = λ d ld at. absurd (wait_not_receive shape c d p at);
    run = λ d ld at. absurd (wait_not_run shape c d p lc lp at);
    decided = λ d ld at. absurd (wait_not_decided shape c d p lc lp at);
    mark = λ d q ld lq at. absurd (wait_not_mark shape c d p q lc lp at);
  }

  pub turned_cell : (c p n : ℕ) → c < length shape → p ≤ places_at shape c → (n ≡ cell_code shape c p (cell_of (log ++ e ∷ []) c p))
      × CellFits shape (cell_of (log ++ e ∷ []) c p) → Fits shape (log ++ e ∷ []) (cell_number shape c p) n
  turned_cell c p n lc lp is = record {
    cell = λ d q ld lq at. let h = number_apart shape c d p q lc ld lp lq (same_number (number shape c p) (number shape d q) at) in
        subst (λ (z : ℕ × ℕ). (n ≡ cell_code shape z.0 z.1 (cell_of (log ++ e ∷ []) z.0 z.1))
        × CellFits shape (cell_of (log ++ e ∷ []) z.0 z.1)) (λ i. (h.0 i, h.1 i)) is;
    wait = λ d q ld lq at. absurd (cell_not_wait shape c d p q at);
    sends = λ d ld at. absurd (cell_not_send shape c d p lc lp at);
    receives = λ d ld at. absurd (cell_not_receive shape c d p lc lp at);
    run = λ d ld at. absurd (cell_not_run shape c d p lc lp at);
    decided = λ d ld at. absurd (cell_not_decided shape c d p lc lp at);
    mark = λ d q ld lq at. absurd (cell_not_mark shape c d p q lc lp at);
  }

-- ---- a word 0 of a wait that began says that it is open

pub how_some : (how : Resolution) → 0 ≡ how_code how → ⊥
how_some (resolved.Withdrawn why) e = by_why why e
  where
    by_why : (why : Why) → 0 ≡ how_code (resolved.Withdrawn why) → ⊥
    by_why Why.Cancelled e = omega arith
    by_why Why.Revoked e = omega arith
how_some other e = omega arith

pub parts_open : (how : Option Resolution) (outcome : Option Settled) → 0 ≡ packed_wait (parts_word how outcome) → how ≡ None
parts_open None outcome e = refl
parts_open (Some how) None e = absurd (how_some how e)
parts_open (Some how) (Some outcome) e = absurd (omega arith)

-- what is known of an open wait
pub record IsOpenWait (who k : ℕ) (y : Option Wait) : Type 0 where
  pub wait : Wait
  pub was : y ≡ Some wait
  pub still_open : wait.resolved ≡ None
  pub owner : wait.owner ≡ who

pub open_wait : (who k : ℕ) (y : Option Wait) → IsNamed who k y → 0 ≡ wait_code y → IsOpenWait who k y
open_wait who k None h e = absurd h
open_wait who k (Some x) h e = record { wait = x; was = refl; still_open = parts_open x.resolved x.settled e; owner = h.0 }

-- ---- another wait's word

unsettled : {y : Option Wait} (x : Wait) → y ≡ Some x → EndsResolved y → x.resolved ≡ None → x.settled ≡ None
unsettled x is h e = (subst EndsResolved is h) e

pub resolved_code : (waits : WaitId → Option Wait) (w u : WaitId) (x : Option Wait) → (w ≡ u → ⊥) → put_wait w x waits u ≡ waits u
resolved_code waits w u x ne = go (same_wait w u) refl
  where
    go : (b : Bool) → same_wait w u ≡ b → (if b then x else waits u) ≡ waits u
    go true e = absurd (ne (same_wait-eq w u e))
    go false e = refl

-- ---- a wait is resolved by its word

module _ (shape : Shape) (log : List Entry) (who c p : ℕ) (act : Act) (how : Resolution) (x : Wait) (l : Legal shape log)
    (lc : c < length shape) (lp : p ≤ places_at shape c)
    (needs : Needs shape (replay log) who act) (leaves : (after (replay log) who act).waits ≡
    put_wait (spot c p) (resolved_wait how ((replay log).waits (spot c p))) (replay log).waits)
    (marks : (d q : ℕ) → mark (board_of log).state (board_of log).cells who act d q ≡ cell_of log d q)
    (was : (replay log).waits (spot c p) ≡ Some x) (still_open : x.resolved ≡ None) (range : HowFits how) where
  resolve_legal : Legal shape (log ++ record { who = who; act = act } ∷ [])
  resolve_legal = Legal_push shape log (record { who = who; act = act }) l needs

  resolve_state : (u : WaitId) → (replay (log ++ record { who = who; act = act } ∷ [])).waits u ≡
      put_wait (spot c p) (resolved_wait how ((replay log).waits (spot c p))) (replay log).waits u
  resolve_state u = ap (λ (s : State). s.waits u) (replay_push log (record { who = who; act = act })) ∙ (λ i. leaves i u)

  resolve_code : HasWaitCode (how_code how) ((replay (log ++ record { who = who; act = act } ∷ [])).waits (spot c p))
  resolve_code = subst (HasWaitCode (how_code how)) (sym (resolve_state (spot c p)
      ∙ at_wait (spot c p) (resolved_wait how ((replay log).waits (spot c p))) (replay log).waits ∙ ap (resolved_wait how) was)) (
        sym (ap (λ (z : Option Settled). packed_wait (parts_word (Some how) z))
            (unsettled x was ((sound shape log l).ended (spot c p)) still_open)),
        range,
      )

  pub resolve_steps : Legal shape (log ++ record { who = who; act = act } ∷ [])
      × Fits shape (log ++ record { who = who; act = act } ∷ []) (wait_number shape c p) (how_code how)
      × ((j n : ℕ) → j ≢ wait_number shape c p → Fits shape log j n → Fits shape (log ++ record { who = who; act = act } ∷ []) j n)
  resolve_steps = (
    resolve_legal,
    turned_wait shape log (record { who = who; act = act }) resolve_legal c p (how_code how) lc lp resolve_code,
    fits_more shape log (record { who = who; act = act }) resolve_legal (wait_number shape c p)
        (λ d q ld lq ne. cells_push log (record { who = who; act = act }) d q ∙ marks d q)
        (λ d q ld lq ne n. subst (HasWaitCode n) (sym (resolve_state (spot d q)
        ∙ resolved_code (replay log).waits (spot c p) (spot d q) _
        (λ is. ne (ap (λ (w : WaitId). wait_number shape w.channel w.place) (sym is)))))),
  )

-- ---- Hand

module _ (shape : Shape) (log : List Entry) (who c p value owner k : ℕ) (w : WaitId) (l : Legal shape log) (lv : value < 4294967296)
    (lk : k < 8) (lc : c < length shape) (wc : w.channel < length shape) (wp : w.place ≤ places_at shape w.channel)
    (kind : is_signal (kind_at shape c) ≡ false)
    (low : NoneBelow p 0 ((replay log).channels c)) (cell : cell_of log c p ≡ receiver owner w k)
    (found : 0 ≡ wait_code ((replay log).waits w)) where
  hand_wait : IsOpenWait owner k ((replay log).waits w)
  hand_wait = open_wait owner k ((replay log).waits w) (subst (CellNamed (replay log).waits) cell ((tied_now shape log l).named c p)) found

  awaits : awaiting (replay log).waits p (cell_of log c p) ≡ Some (record { place = p; party = record { wait = w; clause = k } })
  awaits = ap (awaiting (replay log).waits p) cell ∙ ap (receiver_of p w k) hand_wait.was ∙ ap (receiver_by p w k) hand_wait.still_open

  line : (rest : List Receiver) × (((replay log).channels c).receivers ≡
      record { place = p; party = record { wait = w; clause = k } } ∷ rest)
  line = (
    _,
    first_line (now log) c (tied_now shape log l) p 0 _ low awaits
        (used_given (now log) c p (tied_now shape log l) (ap is_used cell)),
  )

  pub hand_to : first_receiver (replay log) ((replay log).channels c).receivers ≡ Some owner
  hand_to = ap (first_receiver (replay log)) line.1 ∙ ap owner_of hand_wait.was ∙ ap (λ (n : ℕ). Some n) hand_wait.owner

  pub hand_steps : Legal shape (log ++ record { who = who; act = Hand c p value } ∷ [])
      × Fits shape (log ++ record { who = who; act = Hand c p value } ∷ []) (wait_number shape w.channel w.place)
      (how_code (resolved.Handed k value))
      × ((j n : ℕ) → j ≢ wait_number shape w.channel w.place → Fits shape log j n
      → Fits shape (log ++ record { who = who; act = Hand c p value } ∷ []) j n)
  hand_steps = resolve_steps shape log who w.channel w.place (Hand c p value) (resolved.Handed k value) hand_wait.wait l wc wp
      (lc, kind, subst (IsFirstReceiver p) (sym line.1) refl)
      (ap (λ (l : List Receiver). (resolve_first l (λ k. resolved.Handed k value) (replay log)).waits) line.1) (λ d q. refl) hand_wait.was
      hand_wait.still_open (lk, lv)

-- ---- a held offer is removed

module _ (shape : Shape) (log : List Entry) (who c p value owner k : ℕ) (w : WaitId) (l : Legal shape log) (lk : k < 8)
    (lc : c < length shape) (wc : w.channel < length shape) (wp : w.place ≤ places_at shape w.channel)
    (low : NoneBelow 0 p ((replay log).channels c)) (cell : cell_of log c p ≡ offer value owner w k)
    (found : 0 ≡ wait_code ((replay log).waits w)) where
  abbrev taken_offer : Standing
  taken_offer = record { place = p; value = value; holder = Some (record { wait = w; clause = k }) }

  take_wait : IsOpenWait owner k ((replay log).waits w)
  take_wait = open_wait owner k ((replay log).waits w) (subst (CellNamed (replay log).waits) cell ((tied_now shape log l).named c p)) found

  stands : standing (replay log).waits p (cell_of log c p) ≡ Some taken_offer
  stands = ap (standing (replay log).waits p) cell ∙ ap (offer_of p value w k) take_wait.was
      ∙ ap (offer_by p value w k) take_wait.still_open

  queue : (rest : List Standing) × (((replay log).channels c).queue ≡ taken_offer ∷ rest)
  queue = (
    _,
    first_queue (now log) c (tied_now shape log l) 0 p _ low stands
        (used_given (now log) c p (tied_now shape log l) (ap is_used cell)),
  )

  pub take_from : first_holder (replay log) ((replay log).channels c).queue ≡ Some owner
  take_from = ap (first_holder (replay log)) queue.1 ∙ ap owner_of take_wait.was ∙ ap (λ (n : ℕ). Some n) take_wait.owner

  first_offer : IsFirstOffer p value ((replay log).channels c).queue
  first_offer = subst (IsFirstOffer p value) (sym queue.1) (refl, refl)

  removed_waits : (how : ℕ → Resolution) → (resolve_offer c ((replay log).channels c).queue how (replay log)).waits ≡
      put_wait w (resolved_wait (how k) ((replay log).waits w)) (replay log).waits
  removed_waits how = ap (λ (q : List Standing). (resolve_offer c q how (replay log)).waits) queue.1

  removed_marks : (d q : ℕ) → set_cell (board_of log).cells c p
      (emptied_if (standing (board_of log).state.waits p (cell_of log c p)) (cell_of log c p)) d q ≡ cell_of log d q
  removed_marks d q = ap (λ (f : Cells). f d q) (set_same (board_of log).cells c p _
      (ap (λ (s : State). emptied_if (standing s.waits p (cell_of log c p)) (cell_of log c p)) (board_state blank log)
      ∙ ap (λ (o : Option Standing). emptied_if o (cell_of log c p)) stands))

  pub removed_steps : (by : Removal) → MayRemoveHeld by c log
      → Legal shape (log ++ record { who = who; act = removal_act by c p value } ∷ [])
      × Fits shape (log ++ record { who = who; act = removal_act by c p value } ∷ []) (wait_number shape w.channel w.place)
      (how_code (how_removed by k))
      × ((j n : ℕ) → j ≢ wait_number shape w.channel w.place → Fits shape log j n
      → Fits shape (log ++ record { who = who; act = removal_act by c p value } ∷ []) j n)
  removed_steps removal.Take may = resolve_steps shape log who w.channel w.place (Take c p value) (resolved.Taken k) take_wait.wait l wc wp
      (lc, first_offer) (removed_waits resolved.Taken) removed_marks take_wait.was take_wait.still_open lk
  removed_steps removal.Drain may = resolve_steps shape log who w.channel w.place (Drain c p value) resolved.Voided take_wait.wait l wc wp
      (lc, may, first_offer) (removed_waits (λ k. resolved.Voided)) removed_marks take_wait.was take_wait.still_open tt
  removed_steps other may = absurd may

-- ---- Withdraw

own_wait : (who : ℕ) (y : Option Wait) → IsOwnWait who y → 0 ≡ wait_code y → (x : Wait) × (y ≡ Some x) × (x.owner ≡ who)
    × (x.resolved ≡ None)
own_wait who None h e = absurd h
own_wait who (Some x) h e = (x, refl, h, parts_open x.resolved x.settled e)

module _ (shape : Shape) (log : List Entry) (who c p : ℕ) (why : Why) (l : Legal shape log) (lc : c < length shape)
    (lp : p ≤ places_at shape c) (own : IsOwnWait who ((replay log).waits (spot c p)))
    (found : 0 ≡ wait_code ((replay log).waits (spot c p))) where
  mine : (x : Wait) × ((replay log).waits (spot c p) ≡ Some x) × (x.owner ≡ who) × (x.resolved ≡ None)
  mine = own_wait who ((replay log).waits (spot c p)) own found

  pub withdraw_steps : Legal shape (log ++ record { who = who; act = Withdraw (spot c p) why } ∷ [])
      × Fits shape (log ++ record { who = who; act = Withdraw (spot c p) why } ∷ []) (wait_number shape c p)
      (how_code (resolved.Withdrawn why))
      × ((j n : ℕ) → j ≢ wait_number shape c p → Fits shape log j n
      → Fits shape (log ++ record { who = who; act = Withdraw (spot c p) why } ∷ []) j n)
  withdraw_steps = resolve_steps shape log who c p (Withdraw (spot c p) why) (resolved.Withdrawn why) mine.0 l lc lp
      (subst (IsOpenOf who) (sym mine.1) (mine.2, mine.3)) refl (λ d q. refl) mine.1 mine.3 tt

-- ---- Await and Offer

-- a clause more leaves the word of a wait
named_code : (who k c m : ℕ) (y : Option Wait) → HasWaitCode m y → HasWaitCode m (name_clause who k c y)
named_code who k c m None h = (h.0, tt)
named_code who k c m (Some x) h = h

module _ (shape : Shape) (log : List Entry) (who c p : ℕ) (l : Legal shape log) (lc : c < length shape) (lp : p < places_at shape c)
    (below : p ≤ ((replay log).channels c).next) (is_free : cell_of log c p ≡ free) where
  pub at_end : (((replay log).channels c).next ≡ p) × (((replay log).channels c).closed ≡ None)
  at_end = free_end (now log) c p (tied_now shape log l) below is_free

  pub has_place : HasPlace (places_at shape c) p ((replay log).channels c)
  has_place = record { open_now = at_end.1; left = subst (λ (n : ℕ). n < places_at shape c) (sym at_end.0) lp; first = sym at_end.0 }

  -- a clause is named, as the first of a wait or as one more
  module _ (w : WaitId) (k : ℕ) (x : Cell) (act : Act) (n : ℕ) (needs : Needs shape (replay log) who act)
      (marks : mark (board_of log).state (board_of log).cells who act ≡ set_cell (board_of log).cells c p x)
      (waits : (after (replay log) who act).waits ≡ put_wait w (name_clause who k c ((replay log).waits w)) (replay log).waits)
      (code : n ≡ cell_code shape c p x) (range : CellFits shape x) where
    begin_legal : Legal shape (log ++ record { who = who; act = act } ∷ [])
    begin_legal = Legal_push shape log (record { who = who; act = act }) l needs

    cell_is : (d q : ℕ) → cell_of (log ++ record { who = who; act = act } ∷ []) d q ≡ set_cell (board_of log).cells c p x d q
    cell_is d q = cells_push log (record { who = who; act = act }) d q ∙ (λ i. marks i d q)

    waits_is : (u : WaitId) → (replay (log ++ record { who = who; act = act } ∷ [])).waits u ≡
        put_wait w (name_clause who k c ((replay log).waits w)) (replay log).waits u
    waits_is u = ap (λ (s : State). s.waits u) (replay_push log (record { who = who; act = act })) ∙ (λ i. waits i u)

    begun_code : (d q m : ℕ) → HasWaitCode m ((replay log).waits (spot d q))
        → HasWaitCode m ((replay (log ++ record { who = who; act = act } ∷ [])).waits (spot d q))
    begun_code d q m h = subst (HasWaitCode m) (sym (waits_is (spot d q))) (go (same_wait w (spot d q)) refl h)
      where
        go : (b : Bool) → same_wait w (spot d q) ≡ b → HasWaitCode m ((replay log).waits (spot d q))
            → HasWaitCode m (if b then name_clause who k c ((replay log).waits w) else (replay log).waits (spot d q))
        go true e h = named_code who k c m ((replay log).waits w)
            (subst (λ (u : WaitId). HasWaitCode m ((replay log).waits u)) (sym (same_wait-eq w (spot d q) e)) h)
        go false e h = h

    pub begin_steps : Legal shape (log ++ record { who = who; act = act } ∷ [])
        × Fits shape (log ++ record { who = who; act = act } ∷ []) (cell_number shape c p) n
        × ((j m : ℕ) → j ≢ cell_number shape c p → Fits shape log j m → Fits shape (log ++ record { who = who; act = act } ∷ []) j m)
    begin_steps = (
      begin_legal,
      turned_cell shape log (record { who = who; act = act }) begin_legal c p n lc (omega arith)
          (subst (λ (z : Cell). (n ≡ cell_code shape c p z) × CellFits shape z) (sym (cell_is c p ∙ cell_here (board_of log).cells c p x))
          (code, range)),
      fits_more shape log (record { who = who; act = act }) begin_legal (cell_number shape c p)
          (λ d q ld lq ne. cell_is d q ∙ cell_else (board_of log).cells c p x d q (λ m k. ne (λ i. cell_number shape (sym m i) (sym k i))))
          (λ d q ld lq ne. begun_code d q),
    )

module _ (shape : Shape) (log : List Entry) (who c p : ℕ) (l : Legal shape log) (lc : c < length shape) (lp : p < places_at shape c)
    (lt : who < 65536) (few : number shape c p < 8388608) (below : p ≤ ((replay log).channels c).next) (free_now : cell_of log c p ≡ free)
  where
    own_fits : PartyFits shape who (spot c p) 0
    own_fits = record { tag = lt; clause = omega arith; channel = lc; place = omega arith; few = few }

    -- a receiver is placed, where no offer stands
    pub await_steps : (((replay log).channels c).queue ≡ []) → Legal shape (log ++ record { who = who; act = Await c p (spot c p) 0 } ∷ [])
        × Fits shape (log ++ record { who = who; act = Await c p (spot c p) 0 } ∷ []) (cell_number shape c p)
        (cell_code shape c p (receiver who (spot c p) 0))
        × ((j m : ℕ) → j ≢ cell_number shape c p → Fits shape log j m
        → Fits shape (log ++ record { who = who; act = Await c p (spot c p) 0 } ∷ []) j m)
    await_steps none = begin_steps shape log who c p l lc lp below free_now (spot c p) 0 (receiver who (spot c p) 0)
        (Await c p (spot c p) 0)
        (cell_code shape c p (receiver who (spot c p) 0))
        (lc, has_place shape log who c p l lc lp below free_now, none, may_begin who 0 c p (replay log) (omega arith)) refl refl refl
        own_fits

    -- an offer is placed, where no receiver stands
    pub offer_steps : (v : ℕ) → v < 4294967296 → suspends (kind_at shape c) ≡ true → (((replay log).channels c).receivers ≡ [])
        → Legal shape (log ++ record { who = who; act = Offer c p v (spot c p) 0 } ∷ [])
        × Fits shape (log ++ record { who = who; act = Offer c p v (spot c p) 0 } ∷ []) (cell_number shape c p)
        (cell_code shape c p (offer v who (spot c p) 0))
        × ((j m : ℕ) → j ≢ cell_number shape c p → Fits shape log j m
        → Fits shape (log ++ record { who = who; act = Offer c p v (spot c p) 0 } ∷ []) j m)
    offer_steps v lv kind none = begin_steps shape log who c p l lc lp below free_now (spot c p) 0 (offer v who (spot c p) 0)
        (Offer c p v (spot c p) 0) (cell_code shape c p (offer v who (spot c p) 0))
        (lc, has_place shape log who c p l lc lp below free_now, none, kind, may_begin who 0 c p (replay log) (omega arith)) refl refl refl
        (own_fits, lv)

-- ---- a cell changes, and no wait

module _ (shape : Shape) (log : List Entry) (who c p : ℕ) (act : Act) (x : Cell) (n : ℕ) (l : Legal shape log) (lc : c < length shape)
    (lp : p ≤ places_at shape c) (needs : Needs shape (replay log) who act)
    (marks : mark (board_of log).state (board_of log).cells who act ≡ set_cell (board_of log).cells c p x)
    (waits : (after (replay log) who act).waits ≡ (replay log).waits) (code : n ≡ cell_code shape c p x) (range : CellFits shape x)
  where
    cell_legal : Legal shape (log ++ record { who = who; act = act } ∷ [])
    cell_legal = Legal_push shape log (record { who = who; act = act }) l needs

    cell_now : (d q : ℕ) → cell_of (log ++ record { who = who; act = act } ∷ []) d q ≡ set_cell (board_of log).cells c p x d q
    cell_now d q = cells_push log (record { who = who; act = act }) d q ∙ (λ i. marks i d q)

    waits_now : (w : WaitId) → (replay (log ++ record { who = who; act = act } ∷ [])).waits w ≡ (replay log).waits w
    waits_now w = ap (λ (s : State). s.waits w) (replay_push log (record { who = who; act = act })) ∙ (λ i. waits i w)

    pub cell_steps : Legal shape (log ++ record { who = who; act = act } ∷ [])
        × Fits shape (log ++ record { who = who; act = act } ∷ []) (cell_number shape c p) n
        × ((j m : ℕ) → j ≢ cell_number shape c p → Fits shape log j m → Fits shape (log ++ record { who = who; act = act } ∷ []) j m)
    cell_steps = (
      cell_legal,
      turned_cell shape log (record { who = who; act = act }) cell_legal c p n lc lp
          (subst (λ (z : Cell). (n ≡ cell_code shape c p z) × CellFits shape z) (sym (cell_now c p ∙ cell_here (board_of log).cells c p x))
          (code, range)),
      fits_more shape log (record { who = who; act = act }) cell_legal (cell_number shape c p)
          (λ d q ld lq ne. cell_now d q ∙ cell_else (board_of log).cells c p x d q (λ m k. ne (λ i. cell_number shape (sym m i) (sym k i))))
          (λ d q ld lq ne m. subst (HasWaitCode m) (sym (waits_now (spot d q)))),
    )

-- ---- an element that is kept is removed

-- one that was too many, wherever it stands
module _ (shape : Shape) (log : List Entry) (who c p value : ℕ) (l : Legal shape log) (lc : c < length shape) (lp : p ≤ places_at shape c)
    (lv : value < 4294967296)
    (used : is_used (cell_of log c p) ≡ true) (stands : standing (replay log).waits p (cell_of log c p) ≡
    Some (record { place = p; value = value; holder = None })) where
  offer_here : IsOfferAt p value ((replay log).channels c).queue
  offer_here = subst (IsOfferAt p value) (sym ((tied_now shape log l).queues c))
      (offer_gathered (λ q. standing (replay log).waits q (cell_of log c q))
      (λ q o e. offer_place (replay log).waits q (cell_of log c q) o (standing_is (replay log).waits q (cell_of log c q) o e))
      p ((replay log).channels c).next _ (used_given (now log) c p (tied_now shape log l) used) stands)

  emptied_marks : set_cell (board_of log).cells c p (emptied_if (standing (board_of log).state.waits p (cell_of log c p))
      (cell_of log c p)) ≡ set_cell (board_of log).cells c p (emptied value)
  emptied_marks = ap (λ (y : Cell). set_cell (board_of log).cells c p y)
      (ap (λ (s : State). emptied_if (standing s.waits p (cell_of log c p)) (cell_of log c p)) (board_state blank log)
      ∙ ap (λ (o : Option Standing). emptied_if o (cell_of log c p)) stands)

  pub spurned_steps : spurns (kind_at shape c) ((replay log).stood c p) ≡ true
      → Legal shape (log ++ record { who = who; act = Spurn c p value } ∷ [])
      × Fits shape (log ++ record { who = who; act = Spurn c p value } ∷ []) (cell_number shape c p) (cell_code shape c p (emptied value))
      × ((j m : ℕ) → j ≢ cell_number shape c p → Fits shape log j m
      → Fits shape (log ++ record { who = who; act = Spurn c p value } ∷ []) j m)
  spurned_steps many = cell_steps shape log who c p (Spurn c p value) (emptied value) (cell_code shape c p (emptied value)) l lc lp
      (lc, many, offer_here) emptied_marks refl refl lv

-- what the act asks besides an element that stands first
abbrev pub AsksNow : Removal → Shape → ℕ → ℕ → List Entry → Type 0
AsksNow removal.Take shape c p log = Unit {0}
AsksNow removal.Drop shape c p log = drops (kind_at shape c) (length ((replay log).channels c).queue) ≡ true
AsksNow removal.Spurn shape c p log = spurns (kind_at shape c) ((replay log).stood c p) ≡ true
AsksNow removal.Drain shape c p log = ((replay log).channels c).voided ≡ true

module _ (shape : Shape) (log : List Entry) (who c p value : ℕ) (l : Legal shape log) (lc : c < length shape) (lp : p ≤ places_at shape c)
    (lv : value < 4294967296) (low : NoneBelow 0 p ((replay log).channels c))
    (used : is_used (cell_of log c p) ≡ true) (stands : standing (replay log).waits p (cell_of log c p) ≡
    Some (record { place = p; value = value; holder = None })) where
  kept_queue : (rest : List Standing) × (((replay log).channels c).queue ≡ record { place = p; value = value; holder = None } ∷ rest)
  kept_queue = (_, first_queue (now log) c (tied_now shape log l) 0 p _ low stands (used_given (now log) c p (tied_now shape log l) used))

  pub kept_from : first_holder (replay log) ((replay log).channels c).queue ≡ None
  kept_from = ap (first_holder (replay log)) kept_queue.1

  kept_first : IsFirstOffer p value ((replay log).channels c).queue
  kept_first = subst (IsFirstOffer p value) (sym kept_queue.1) (refl, refl)

  kept_marks : set_cell (board_of log).cells c p (emptied_if (standing (board_of log).state.waits p (cell_of log c p)) (cell_of log c p)) ≡
      set_cell (board_of log).cells c p (emptied value)
  kept_marks = ap (λ (y : Cell). set_cell (board_of log).cells c p y)
      (ap (λ (s : State). emptied_if (standing s.waits p (cell_of log c p)) (cell_of log c p)) (board_state blank log)
      ∙ ap (λ (o : Option Standing). emptied_if o (cell_of log c p)) stands)

  pub emptied_steps : (by : Removal) → AsksNow by shape c p log
      → Legal shape (log ++ record { who = who; act = removal_act by c p value } ∷ [])
      × Fits shape (log ++ record { who = who; act = removal_act by c p value } ∷ []) (cell_number shape c p)
      (cell_code shape c p (emptied value))
      × ((j m : ℕ) → j ≢ cell_number shape c p → Fits shape log j m
      → Fits shape (log ++ record { who = who; act = removal_act by c p value } ∷ []) j m)
  emptied_steps removal.Take asks = cell_steps shape log who c p (Take c p value) (emptied value) (cell_code shape c p (emptied value)) l lc
      lp (lc, kept_first) kept_marks
      (ap (λ (q : List Standing). (resolve_offer c q resolved.Taken (replay log)).waits) kept_queue.1) refl lv
  emptied_steps removal.Drop asks = cell_steps shape log who c p (Drop c p value) (emptied value) (cell_code shape c p (emptied value)) l lc
      lp (lc, asks, kept_first) kept_marks
      (ap (λ (q : List Standing). (remove_first c q (replay log)).waits) kept_queue.1) refl lv
  emptied_steps removal.Spurn asks = spurned_steps shape log who c p value l lc lp lv used stands asks
  emptied_steps removal.Drain asks = cell_steps shape log who c p (Drain c p value) (emptied value) (cell_code shape c p (emptied value)) l
      lc lp (lc, asks, kept_first) kept_marks
      (ap (λ (q : List Standing). (resolve_offer c q (λ k. resolved.Voided) (replay log)).waits) kept_queue.1) refl lv

-- ---- Put

module _ (shape : Shape) (log : List Entry) (who c p value : ℕ) (l : Legal shape log) (lc : c < length shape) (lp : p < places_at shape c)
    (lv : value < 4294967296) (below : p ≤ ((replay log).channels c).next) (free_now : cell_of log c p ≡ free)
    (nobody : ((replay log).channels c).receivers ≡ []) (room : is_full (kind_at shape c) (length ((replay log).channels c).queue) ≡ false)
  where
    pub put_steps : Legal shape (log ++ record { who = who; act = Put c p value } ∷ [])
        × Fits shape (log ++ record { who = who; act = Put c p value } ∷ []) (cell_number shape c p) (cell_code shape c p (buffered value))
        × ((j m : ℕ) → j ≢ cell_number shape c p → Fits shape log j m
        → Fits shape (log ++ record { who = who; act = Put c p value } ∷ []) j m)
    put_steps = let at = free_end (now log) c p (tied_now shape log l) below free_now in
        cell_steps shape log who c p (Put c p value) (buffered value) (cell_code shape c p (buffered value)) l lc (omega arith)
        (lc, record { open_now = at.1; left = subst (λ (n : ℕ). n < places_at shape c) (sym at.0) lp; first = sym at.0 }, nobody, room) refl
        refl refl lv

-- ---- Close

module _ (shape : Shape) (log : List Entry) (who c p value : ℕ) (l : Legal shape log) (lc : c < length shape) (lp : p ≤ places_at shape c)
    (lv : value < 4294967296) (below : p ≤ ((replay log).channels c).next) (free_now : cell_of log c p ≡ free) where
  pub close_steps : Legal shape (log ++ record { who = who; act = Close c value } ∷ [])
      × Fits shape (log ++ record { who = who; act = Close c value } ∷ []) (cell_number shape c p) (cell_code shape c p (closed_by value))
      × ((j m : ℕ) → j ≢ cell_number shape c p → Fits shape log j m
      → Fits shape (log ++ record { who = who; act = Close c value } ∷ []) j m)
  close_steps = let at = free_end (now log) c p (tied_now shape log l) below free_now in
      cell_steps shape log who c p (Close c value) (closed_by value) (cell_code shape c p (closed_by value)) l lc lp (lc, at.1)
      (ap (λ (z : ℕ). set_cell (board_of log).cells c z (closed_by value)) (ap (λ (s : State). (s.channels c).next) (board_state blank log)
      ∙ at.0)) refl refl lv
