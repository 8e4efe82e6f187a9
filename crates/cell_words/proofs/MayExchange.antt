-- What a step may do, whatever others do meanwhile.
use Rattle.std.proofs.Common.{◌≡◌, ◌⊎◌, ℕ, ◌<◌, ◌≤◌, Bool, true, false, List, [], ◌++◌, length, if◌then◌else◌, Option, Some, None, is_some, sym, refl, ap, ◌∙◌, subst, ⊎_elim, inr, arith}
use Rattle.std.proofs.lemmas.Bool.Decides.{nat_tests}
use Rattle.std.proofs.lemmas.Bool.{eq-eqb}
use Rattle.worded.specs.Views.{has_tag}
use Rattle.worded.specs.Histories.{entries_of}
use Rattle.co_base.specs.declared.names.WaitId.{WaitId}
use Rattle.channel_model.specs.declared.acts.Act.TheVariants.{Hand, Offer, Await, Put, Spurn, Close, Withdraw}
use Rattle.channel_model.specs.declared.acts.Entry.{Entry}
use Rattle.channel_model.specs.declared.acts.Kind.{Kind}
use Rattle.channel_model.specs.declared.acts.Kind.TheVariants.{Rendezvous, Buffered, Signal}
use Rattle.channel_model.specs.declared.acts.Why.{Why}
use Rattle.channel_model.specs.declared.standing.Resolution.TheVariants as resolved
use Rattle.channel_model.specs.Channels.{Shape, Wait, places_at, kind_at, is_signal, suspends, is_full}
use Rattle.channel_model.specs.Histories.{replay, Legal, acts_of}
use Rattle.channel_model.specs.Laws.{NoneBelow, IsResolvedAs}
use Rattle.channel_model.specs.Answers.{IsOwnWait, IsResolvedWait}
use Rattle.channel_model.proofs.Others.{others_keep, own_stays}
use Rattle.channel_model.proofs.GoneForGood.{below_lasts}
use Rattle.channel_model.proofs.Later.{resolved_later, voided_later}
use Rattle.word_rules.specs.declared.cell_word.CellState.TheVariants as state
use Rattle.word_rules.specs.declared.cell_word.CellWord.{CellWord}
use Rattle.word_rules.specs.Cells.{Cell, free, receiver, offer, buffered, emptied, closed_by, spot, cell_of, standing, offer_of, offer_by, gather, is_used}
use Rattle.word_rules.specs.Codes.{packed_cell}
use Rattle.word_rules.specs.Words.{number, cell_number, wait_number, plain_word, PartyFits, CellFits, cell_code, wait_code, how_code, maker}
use Rattle.cell_words.specs.Seen.{Seen}
use Rattle.cell_words.specs.Answers.{MayTurn, IsKept, put, held, stands, MayRemove, MayRemoveHeld, WasPut, WasTooMany}
use Rattle.cell_words.specs.Removals.{removal_act, how_removed}
use Rattle.cell_words.specs.declared.found.Removal.{Removal}
use Rattle.cell_words.specs.declared.found.Removal.TheVariants as removal
use Rattle.worded.proofs.StepsOfSeats.{still_own}
use Rattle.cell_words.proofs.ActsOfTags as acts
use Rattle.cell_words.proofs.CellsTellFacts.{now, tied_now, used_given, free_end, none_line, none_queue}
use Rattle.cell_words.proofs.CellsLast.{resolved_more, receiver_more, offer_more, given_more, kept_more, held_more}
use Rattle.cell_words.proofs.EntriesOnOneWord.{AsksNow, hand_steps, removed_steps, withdraw_steps, await_steps, offer_steps, emptied_steps, spurned_steps, put_steps, close_steps, parts_open}
use Rattle.cell_words.proofs.CountsOfOffers.{gone_more, count_less}
use Rattle.cell_words.proofs.KeptBehind.{over_later}
use Rattle.cell_words.proofs.OffersBefore.{too_many_later}

-- ---- codes

-- the number 0 is that of a free cell alone
pub code_free : (shape : Shape) (c p : ℕ) (x : Cell) → 0 ≡ cell_code shape c p x → x ≡ free
code_free shape c p free e = refl
code_free shape c p (receiver who w k) e = absurd (omega arith)
code_free shape c p other e = absurd (omega arith)

pub resolved_not : (y : Option Wait) → IsResolvedWait y → 0 ≡ wait_code y → ⊥
resolved_not None h e = h
resolved_not (Some x) h e = let f : is_some x.resolved ≡ false = ap is_some (parts_open x.resolved x.settled e) in cc

-- ---- the own wait

pub same_acts : (who : ℕ) (xs others : List Entry) → entries_of maker who others ≡ [] → acts_of who (xs ++ others) ≡ acts_of who xs
same_acts who xs others e = acts.same_acts who xs (xs ++ others) (still_own maker who xs others e)

pub own_more : (shape : Shape) (who : ℕ) (w : WaitId) (xs others : List Entry) → Legal shape (xs ++ others)
    → entries_of maker who others ≡ [] → IsOwnWait who ((replay xs).waits w) → IsOwnWait who ((replay (xs ++ others)).waits w)
own_more shape who w xs others l e h = others_keep shape who (IsOwnWait who) (own_stays who) w xs (xs
    ++ others) l (others, refl) (same_acts who xs others e) h

-- ---- what is kept

-- an element that is kept stands in its cell
pub record KeptNow (shape : Shape) (c p value : ℕ) (log : List Entry) : Type 0 where
  pub used : is_used (cell_of log c p) ≡ true
  pub stands : standing (replay log).waits p (cell_of log c p) ≡ Some (record { place = p; value = value; holder = None })
  pub small : value < 4294967296

admitted_stands : (p y k : ℕ) (w : WaitId) (z : Option Wait) → IsResolvedAs (resolved.Admitted k) z
    → offer_of p y w k z ≡ Some (record { place = p; value = y; holder = None })
admitted_stands p y k w None h = absurd h
admitted_stands p y k w (Some z) h = ap (offer_by p y w k) h
    ∙ ap (λ (b : Bool). if b then Some (record { place = p; value = y; holder = None }) else None) (eq-eqb k k refl)

-- the word of a kept element says so still
pub kept_stands : (shape : Shape) (c p value : ℕ) (word : CellWord) (xs others : List Entry) → Legal shape (xs ++ others)
    → IsKept shape c p value xs word
    → packed_cell word ≡ cell_code shape c p (cell_of (xs ++ others) c p) → CellFits shape (cell_of (xs ++ others) c p)
    → KeptNow shape c p value (xs ++ others)
kept_stands shape c p value word xs others l (put is at) found fits = ⊎_elim
    (λ (x : cell_of (xs ++ others) c p ≡ buffered value). record
    { used = ap is_used x; stands = ap (standing (replay (xs ++ others)).waits p) x; small = subst (CellFits shape) x fits })
    (λ (x : cell_of (xs ++ others) c p ≡ emptied value). let e = sym (ap packed_cell is) ∙ found ∙ ap (cell_code shape c p) x
    in absurd (omega arith))
    (kept_more shape c p value xs others l at)
kept_stands shape c p value word xs others l (held x a same is) found fits = ⊎_elim
    (λ (y : cell_of (xs ++ others) c p ≡ offer x.value a.who a.wait x.clause). record {
      used = ap is_used y;
      stands = ap (standing (replay (xs ++ others)).waits p) y
          ∙ admitted_stands p x.value x.clause a.wait ((replay (xs ++ others)).waits a.wait)
          (resolved_later shape xs others a.wait (resolved.Admitted x.clause) l a.admitted)
          ∙ ap (λ (z : ℕ). Some (record { place = p; value = z; holder = None })) same;
      small = subst (λ (z : ℕ). z < 4294967296) same (subst (CellFits shape) y fits).1;
    })
    (λ (y : cell_of (xs ++ others) c p ≡ emptied x.value). let e = sym (ap packed_cell is) ∙ found ∙ ap (cell_code shape c p) y
    in absurd (omega arith))
    (held_more shape c p x.value a.who x.clause a.wait xs others l a.cell)

-- an offer whose wait nobody resolved is in its cell still
pub still_offer : (shape : Shape) (c p value owner k : ℕ) (w : WaitId) (xs ys : List Entry) → Legal shape (xs ++ ys)
    → (cell_of xs c p ≡ offer value owner w k) ⊎ IsResolvedWait ((replay xs).waits w) → 0 ≡ wait_code ((replay (xs ++ ys)).waits w)
    → cell_of (xs ++ ys) c p ≡ offer value owner w k
still_offer shape c p value owner k w xs ys l at found = ⊎_elim (λ x. x) (λ r. absurd (resolved_not ((replay (xs ++ ys)).waits w) r found))
    (⊎_elim (λ x. offer_more shape c p value owner k w xs ys l x) (λ r. inr (resolved_more shape w xs ys l r)) at)

-- where one was kept, its place was given out
kept_given : (shape : Shape) (c p value : ℕ) (word : CellWord) (log : List Entry) → Legal shape log → IsKept shape c p value log word
    → p < ((replay log).channels c).next
kept_given shape c p value word log l (put is at) = used_given (now log) c p (tied_now shape log l)
    (⊎_elim (λ (x : cell_of log c p ≡ buffered value). ap is_used x) (λ (x : cell_of log c p ≡ emptied value). ap is_used x) at)
kept_given shape c p value word log l (held x a same is) = used_given (now log) c p (tied_now shape log l)
    (⊎_elim (λ (y : cell_of log c p ≡ offer x.value a.who a.wait x.clause). ap is_used y)
    (λ (y : cell_of log c p ≡ emptied x.value). ap is_used y) a.cell)

-- ---- what a removal asks, later

pub held_later : (shape : Shape) (by : Removal) (c : ℕ) (xs ys : List Entry) → Legal shape (xs ++ ys) → MayRemoveHeld by c xs
    → MayRemoveHeld by c (xs ++ ys)
held_later shape removal.Take c xs ys l h = tt
held_later shape removal.Drain c xs ys l h = voided_later shape xs ys c l h
held_later shape other c xs ys l h = h

asks_later : (shape : Shape) (by : Removal) (c p : ℕ) (xs ys : List Entry) → Legal shape xs → Legal shape (xs ++ ys)
    → p < ((replay xs).channels c).next → NoneBelow 0 p ((replay xs).channels c) → is_some (stands (xs ++ ys) c p) ≡ true
    → MayRemove by shape c p xs → AsksNow by shape c p (xs ++ ys)
asks_later shape removal.Take c p xs ys lx l lt low stays h = tt
asks_later shape removal.Drop c p xs ys lx l lt low stays h = over_later shape c p xs ys lx l lt low h stays
asks_later shape removal.Spurn c p xs ys lx l lt low stays h = too_many_later shape c p xs ys lx l lt stays h
asks_later shape removal.Drain c p xs ys lx l lt low stays h = voided_later shape xs ys c l h

-- ---- each kind of step

-- a kind that is not full with more is not full with fewer
pub full_less : (k : Kind) (n m : ℕ) → n ≤ m → is_full k m ≡ false → is_full k n ≡ false
full_less Rendezvous n m le e = e
full_less (Buffered k) n m le e = grind (arith, nat_tests)
full_less Signal n m le e = e
full_less other n m le e = refl

module _ (shape : Shape) (v : Seen) (who c p : ℕ) (own : has_tag who v.tags ≡ true) (lc : c < length shape) where
  pub offers : (value : ℕ) → p < places_at shape c → who < 65536 → number shape c p < 8388608 → value < 4294967296
      → suspends (kind_at shape c) ≡ true → NoneBelow p 0 ((replay v.seen).channels c)
      → MayTurn shape (cell_number shape c p) 0 (cell_code shape c p (offer value who (spot c p) 0))
      (record { who = who; act = Offer c p value (spot c p) 0 }) v
  offers value lp lt few lv kind low = record {
    own = own;
    steps = λ others added f.
        let l = added.is_legal in
        let low' = below_lasts shape v.seen others c p 0 l low in
        let is_free = code_free shape c p (cell_of (v.seen ++ others) c p) (f.cell c p lc (omega arith) refl).0 in
        let at = free_end (now (v.seen ++ others)) c p (tied_now shape (v.seen ++ others) l) low'.given is_free in
        offer_steps shape (v.seen ++ others) who c p l lc lp lt few low'.given is_free value lv kind
        (none_line (now (v.seen ++ others)) c (tied_now shape (v.seen ++ others) l) p 0 low' (omega (arith, at.0)));
  }

  pub awaits_at : p < places_at shape c → who < 65536 → number shape c p < 8388608 → NoneBelow 0 p ((replay v.seen).channels c)
      → MayTurn shape (cell_number shape c p) 0 (cell_code shape c p (receiver who (spot c p) 0))
      (record { who = who; act = Await c p (spot c p) 0 }) v
  awaits_at lp lt few low = record {
    own = own;
    steps = λ others added f.
        let l = added.is_legal in
        let low' = below_lasts shape v.seen others c 0 p l low in
        let is_free = code_free shape c p (cell_of (v.seen ++ others) c p) (f.cell c p lc (omega arith) refl).0 in
        let at = free_end (now (v.seen ++ others)) c p (tied_now shape (v.seen ++ others) l) low'.given_offers is_free in
        await_steps shape (v.seen ++ others) who c p l lc lp lt few low'.given_offers is_free
        (none_queue (now (v.seen ++ others)) c (tied_now shape (v.seen ++ others) l) 0 p low' (omega (arith, at.0)));
  }

  pub hands : (value owner k : ℕ) (w : WaitId) → value < 4294967296 → PartyFits shape owner w k → is_signal (kind_at shape c) ≡ false
      → NoneBelow p 0 ((replay v.seen).channels c) → cell_of v.seen c p ≡ receiver owner w k
      → MayTurn shape (wait_number shape w.channel w.place) 0 (how_code (resolved.Handed k value))
      (record { who = who; act = Hand c p value }) v
  hands value owner k w lv fits kind low at = record {
    own = own;
    steps = λ others added f.
        let l = added.is_legal in
        hand_steps shape (v.seen ++ others) who c p value owner k w l lv fits.clause lc fits.channel fits.place kind
        (below_lasts shape v.seen others c p 0 l low) (receiver_more shape c p owner k w v.seen others l at)
        (f.wait w.channel w.place fits.channel fits.place refl).0;
  }

  pub removes : (by : Removal) (value owner k : ℕ) (w : WaitId) → MayRemoveHeld by c v.seen → PartyFits shape owner w k
      → NoneBelow 0 p ((replay v.seen).channels c) → (cell_of v.seen c p ≡ offer value owner w k) ⊎ IsResolvedWait ((replay v.seen).waits w)
      → MayTurn shape (wait_number shape w.channel w.place) 0 (how_code (how_removed by k))
      (record { who = who; act = removal_act by c p value }) v
  removes by value owner k w may fits low at = record {
    own = own;
    steps = λ others added f.
        let l = added.is_legal in
        let found = (f.wait w.channel w.place fits.channel fits.place refl).0 in
        removed_steps shape (v.seen ++ others) who c p value owner k w l fits.clause lc fits.channel fits.place
        (below_lasts shape v.seen others c 0 p l low)
        (still_offer shape c p value owner k w v.seen others l at found) found by (held_later shape by c v.seen others l may);
  }

  pub withdraws : (why : Why) → p ≤ places_at shape c → IsOwnWait who ((replay v.seen).waits (spot c p))
      → MayTurn shape (wait_number shape c p) 0 (how_code (resolved.Withdrawn why)) (record { who = who; act = Withdraw (spot c p) why }) v
  withdraws why lp mine = record {
    own = own;
    steps = λ others added f.
        let l = added.is_legal in
        withdraw_steps shape (v.seen ++ others) who c p why l lc lp
        (own_more shape who (spot c p) v.seen others l (added.apart who own) mine) (f.wait c p lc lp refl).0;
  }

  pub empties : (by : Removal) (value : ℕ) (word : CellWord) → Legal shape v.seen → MayRemove by shape c p v.seen → p ≤ places_at shape c
      → NoneBelow 0 p ((replay v.seen).channels c) → IsKept shape c p value v.seen word
      → MayTurn shape (cell_number shape c p) (packed_cell word) (cell_code shape c p (emptied value))
      (record { who = who; act = removal_act by c p value }) v
  empties by value word lx may lp low k = record {
    own = own;
    steps = λ others added f.
        let l = added.is_legal in
        let at = f.cell c p lc lp refl in
        let s = kept_stands shape c p value word v.seen others l k at.0 at.1 in
        emptied_steps shape (v.seen ++ others) who c p value l lc lp s.small (below_lasts shape v.seen others c 0 p l low) s.used s.stands
        by
        (asks_later shape by c p v.seen others lx l (kept_given shape c p value word v.seen lx k) low (ap is_some s.stands) may);
  }

  pub spurns_kept : (value : ℕ) → Legal shape v.seen → WasTooMany shape c p v.seen → p ≤ places_at shape c → WasPut c p value v.seen
      → MayTurn shape (cell_number shape c p) (packed_cell (plain_word state.Buffered value)) (cell_code shape c p (emptied value))
      (record { who = who; act = Spurn c p value }) v
  spurns_kept value lx may lp k = record {
    own = own;
    steps = λ others added f.
        let l = added.is_legal in
        let at = f.cell c p lc lp refl in
        let kept : IsKept shape c p value v.seen (plain_word state.Buffered value) = put refl k in
        let s = kept_stands shape c p value (plain_word state.Buffered value) v.seen others l kept at.0 at.1 in
        spurned_steps shape (v.seen ++ others) who c p value l lc lp s.small s.used s.stands
        (too_many_later shape c p v.seen others lx l (kept_given shape c p value (plain_word state.Buffered value) v.seen lx kept)
        (ap is_some s.stands) may);
  }

  pub puts : (value : ℕ) → p < places_at shape c → value < 4294967296 → NoneBelow p 0 ((replay v.seen).channels c) → Legal shape v.seen
      → is_full (kind_at shape c) (length (gather (stands v.seen c) p)) ≡ false
      → MayTurn shape (cell_number shape c p) 0 (cell_code shape c p (buffered value)) (record { who = who; act = Put c p value }) v
  puts value lp lv low lx room = record {
    own = own;
    steps = λ others added f.
        let l = added.is_legal in
        let log = v.seen ++ others in
        let low' = below_lasts shape v.seen others c p 0 l low in
        let is_free = code_free shape c p (cell_of log c p) (f.cell c p lc (omega arith) refl).0 in
        let t = tied_now shape log l in
        let at = free_end (now log) c p t low'.given is_free in
        put_steps shape log who c p value l lc lp lv low'.given is_free (none_line (now log) c t p 0 low' (omega (arith, at.0)))
        (full_less (kind_at shape c) (length ((replay log).channels c).queue) (length (gather (stands v.seen c) p))
        (subst (λ (m : ℕ). m ≤ length (gather (stands v.seen c) p)) (sym (ap length (t.queues c ∙ ap (gather (stands log c)) at.0)))
        (count_less (stands v.seen c) (stands log c) p (λ q lt e. gone_more shape c q v.seen others lx l (let g = low.given
        in omega arith) e))) room);
  }

  pub closes : (value : ℕ) → p ≤ places_at shape c → value < 4294967296 → p ≤ ((replay v.seen).channels c).next
      → MayTurn shape (cell_number shape c p) 0 (cell_code shape c p (closed_by value)) (record { who = who; act = Close c value }) v
  closes value lp lv given = record {
    own = own;
    steps = λ others added f.
        let l = added.is_legal in
        close_steps shape (v.seen ++ others) who c p value l lc lp lv (given_more shape p c v.seen others l given)
        (code_free shape c p (cell_of (v.seen ++ others) c p) (f.cell c p lc lp refl).0);
  }

-- by the word's and the numbers' other names
pub may_as : (shape : Shape) (word old new i m n : ℕ) (e : Entry) (v : Seen) → word ≡ i → old ≡ m → new ≡ n → MayTurn shape i m n e v
    → MayTurn shape word old new e v
may_as shape word old new i m n e v at is_old is_new h =
    subst (λ (z : ℕ × (ℕ × ℕ)). MayTurn shape z.0 z.1.0 z.1.1 e v) (λ k. (sym at k, (sym is_old k, sym is_new k))) h

-- and the entry's
pub may_by : (shape : Shape) (word old new i m n : ℕ) (e f : Entry) (v : Seen) → word ≡ i → old ≡ m → new ≡ n → e ≡ f
    → MayTurn shape i m n f v → MayTurn shape word old new e v
may_by shape word old new i m n e f v at is_old is_new is h =
    may_as shape word old new i m n e v at is_old is_new (subst (λ (z : Entry). MayTurn shape i m n z v) (sym is) h)
