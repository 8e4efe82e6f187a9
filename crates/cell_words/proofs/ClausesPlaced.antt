-- A select's clause is placed at a free cell, whatever others do meanwhile.
use Rattle.std.proofs.Common.{◌≡◌, ◌≢◌, ℕ, ◌<◌, ◌≤◌, ◌==◌, Bool, true, false, List, [], ◌∷◌, ◌++◌, length, if◌then◌else◌, Option, Some, None, MatchBool, sym, refl, ap, ◌∙◌, subst, arith}
use Rattle.std.proofs.lemmas.Bool.Decides.{nat_tests}
use Rattle.worded.specs.Views.{has_tag}
use Rattle.worded.specs.Histories.{entries_of}
use Rattle.co_base.specs.declared.names.WaitId.{WaitId}
use Rattle.channel_model.specs.declared.acts.Act.TheVariants.{Offer, Await}
use Rattle.channel_model.specs.declared.acts.Entry.{Entry}
use Rattle.channel_model.specs.Channels.{Shape, State, Wait, start, same_wait, places_at, kind_at, suspends}
use Rattle.channel_model.specs.Effects.{after}
use Rattle.channel_model.specs.Needs.{MayName, JoinsWait}
use Rattle.channel_model.specs.Histories.{replay, replay_from, Legal, LegalFrom}
use Rattle.channel_model.specs.Laws.{NoneBelow}
use Rattle.channel_model.specs.Registers.{main_at}
use Rattle.channel_model.proofs.Histories.{replay_from-append, LegalFrom-parts}
use Rattle.channel_model.proofs.Waits.{same_wait-eq, same_wait-refl}
use Rattle.channel_model.proofs.Placed.{Placed, placed_after}
use Rattle.channel_model.proofs.Firsts.{may_begin}
use Rattle.channel_model.proofs.Joining.{join_step, not_absent}
use Rattle.channel_model.proofs.GoneForGood.{below_lasts}
use Rattle.channel_model.proofs.Sound.{sound}
use Rattle.word_rules.specs.declared.cell_word.CellState.{CellState}
use Rattle.word_rules.specs.declared.cell_word.CellWord.{CellWord}
use Rattle.word_rules.specs.Cells.{free, receiver, offer, spot, cell_of}
use Rattle.word_rules.specs.Words.{cells_in, number, cell_number, PartyFits, party_word, cell_code, maker}
use Rattle.cell_words.specs.Seen.{Seen, at_channel, Sees}
use Rattle.cell_words.specs.Answers.{MayTurn}
use Rattle.cell_words.specs.Clauses.{IsMainCell, BeganElsewhere, MayPlace, clause_word}
use Rattle.cell_words.proofs.OneNumberOneWord.{number_within}
use Rattle.cell_words.proofs.CellsTellFacts.{now, tied_now, free_end, none_line, none_queue}
use Rattle.cell_words.proofs.EntriesOnOneWord.{begin_steps, has_place}
use Rattle.cell_words.proofs.MayExchange.{code_free}

-- ---- others leave that a wait may have the clause

none_own : (who : ℕ) (e : Entry) (es : List Entry) (b : Bool) → (e.who == who) ≡ b
    → (if b then e ∷ entries_of maker who es else entries_of maker who es) ≡ [] → (e.who ≢ who) × (entries_of maker who es ≡ [])
none_own who e es true k h = cc
none_own who e es false k h = (λ q. grind (arith, nat_tests), h)

joins_from : (shape : Shape) (who k c : ℕ) (w : WaitId) (s : State) (es : List Entry) → LegalFrom shape s es → Placed s
    → entries_of maker who es ≡ [] → JoinsWait who k c (s.waits w) → JoinsWait who k c ((replay_from s es).waits w)
unfolding LegalFrom replay_from
joins_from shape who k c w s [] l placed n h = h
joins_from shape who k c w s (e ∷ es) l placed n h =
    let m = none_own who e es (e.who == who) refl n in
    joins_from shape who k c w (after s e.who e.act) es l.1 (placed_after shape s e.who e.act l.0 placed) m.1
    (join_step shape who k c e.who w s e.act m.0 placed l.0 h)

joins_more : (shape : Shape) (who k c : ℕ) (w : WaitId) (xs others : List Entry) → Legal shape (xs ++ others)
    → entries_of maker who others ≡ [] → JoinsWait who k c ((replay xs).waits w) → JoinsWait who k c ((replay (xs ++ others)).waits w)
joins_more shape who k c w xs others l n h =
    let parts = LegalFrom-parts shape start xs others l in
    subst (λ (s : State). JoinsWait who k c (s.waits w)) (sym (replay_from-append start xs others))
    (joins_from shape who k c w (replay xs) others parts.1 (sound shape xs parts.0).placed n h)

pub may_more : (shape : Shape) (who k c : ℕ) (main : Option WaitId) (xs others : List Entry) → Legal shape (xs ++ others)
    → entries_of maker who others ≡ [] → MayPlace shape who k c main xs → MayPlace shape who k c main (xs ++ others)
may_more shape who k c None xs others l n h = h
may_more shape who k c (Some w) xs others l n h = (h.0, joins_more shape who k c w xs others l n h.1)

pub may_seen : (shape : Shape) (who k c : ℕ) (main : Option WaitId) (v w : Seen) → has_tag who v.tags ≡ true → Sees v w → Legal shape w.seen
    → MayPlace shape who k c main v.seen → MayPlace shape who k c main w.seen
may_seen shape who k c main v w tag s l h = subst (λ (es : List Entry). MayPlace shape who k c main es) (sym s.now)
    (may_more shape who k c main v.seen s.others (subst (Legal shape) s.now l) (s.apart who tag) h)

-- ---- the clause and its wait

joins_high : (who k c : ℕ) (y : Option Wait) → JoinsWait who k c y → k ≤ 7
joins_high who k c None h = absurd h
joins_high who k c (Some x) h = h.high

pub clause_high : (shape : Shape) (who k c : ℕ) (main : Option WaitId) (log : List Entry) → MayPlace shape who k c main log → k ≤ 7
clause_high shape who k c None log h = h.1
clause_high shape who k c (Some w) log h = joins_high who k c ((replay log).waits w) h.1

pub main_cell : (shape : Shape) (who k c : ℕ) (main : Option WaitId) (log : List Entry) → MayPlace shape who k c main log
    → IsMainCell shape main
main_cell shape who k c None log h = tt
main_cell shape who k c (Some w) log h = h.0

names_main : (shape : Shape) (who k c p : ℕ) (main : Option WaitId) (log : List Entry) → MayPlace shape who k c main log
    → MayName who k c p (main_at c p main) (replay log)
names_main shape who k c p None log h = may_begin who k c p (replay log) h.1
names_main shape who k c p (Some w) log h = by_test (same_wait w (spot c p))
  where
    by_test : (b : Bool) → MatchBool b (k ≤ 7) (JoinsWait who k c ((replay log).waits w))
    by_test true = joins_high who k c ((replay log).waits w) h.1
    by_test false = h.1

main_fits : (shape : Shape) (who k c p : ℕ) (main : Option WaitId) (log : List Entry) → who < 65536 → c < length shape
    → p ≤ places_at shape c → cells_in shape < 8388608 → MayPlace shape who k c main log → PartyFits shape who (main_at c p main) k
main_fits shape who k c p None log lt lc lp few h = let n = number_within shape c p lc lp in
    record { tag = lt; clause = let high = h.1 in omega arith; channel = lc; place = lp; few = omega arith }
main_fits shape who k c p (Some w) log lt lc lp few h = let n = number_within shape w.channel w.place h.0.0 h.0.1 in
    record {
      tag = lt;
      clause = let high = joins_high who k c ((replay log).waits w) h.1
          in omega arith;
      channel = h.0.0;
      place = h.0.1;
      few = omega arith;
    }

-- no wait began at a cell that is free
pub elsewhere : (shape : Shape) (who k c p : ℕ) (main : Option WaitId) (log : List Entry) → Legal shape log
    → p ≤ ((replay log).channels c).next → cell_of log c p ≡ free → MayPlace shape who k c main log → BeganElsewhere c p main
elsewhere shape who k c p None log l le is_free h = tt
elsewhere shape who k c p (Some w) log l le is_free h = by_test (same_wait w (spot c p)) refl
  where
    unborn : (replay log).waits (spot c p) ≡ None
    unborn = let at = free_end (now log) c p (tied_now shape log l) le is_free
        in (sound shape log l).placed (spot c p) (omega (arith, at.0))

    by_test : (b : Bool) → same_wait w (spot c p) ≡ b → same_wait w (spot c p) ≡ false
    by_test true e = absurd (not_absent who k c ((replay log).waits w) (ap (replay log).waits (same_wait-eq w (spot c p) e) ∙ unborn) h.1)
    by_test false e = e

-- the word of a clause's cell names its wait
pub clause_word_is : (shape : Shape) (c p : ℕ) (state : CellState) (v who : ℕ) (main : Option WaitId) (k : ℕ) → BeganElsewhere c p main
    → clause_word shape state v who main k ≡ party_word shape c p state v who (main_at c p main) k
clause_word_is shape c p state v who None k apart = ap (λ (b : Bool). own b) (sym (same_wait-refl (spot c p)))
  where
    own : Bool → CellWord
    own b = record { state = state; clause = k; own_wait = b; holder = if b then who else number shape c p; value = v }
clause_word_is shape c p state v who (Some w) k apart = ap (λ (b : Bool). other b) (sym apart)
  where
    other : Bool → CellWord
    other b = record { state = state; clause = k; own_wait = b; holder = if b then who else number shape w.channel w.place; value = v }

-- ---- the two entries

module _ (shape : Shape) (v : Seen) (who c p k : ℕ) (main : Option WaitId) (own : has_tag who v.tags ≡ true) (lc : c < length shape)
    (lp : p < places_at shape c) (lt : who < 65536) (few : cells_in shape < 8388608)
    (may : MayPlace shape who k c main v.seen) where
  pub clause_offers : (value : ℕ) → value < 4294967296 → suspends (kind_at shape c) ≡ true → NoneBelow p 0 (at_channel v.seen c)
      → MayTurn shape (cell_number shape c p) 0 (cell_code shape c p (offer value who (main_at c p main) k))
      (record { who = who; act = Offer c p value (main_at c p main) k }) v
  clause_offers value lv kind low = record {
    own = own;
    steps = λ others added f.
        let l = added.is_legal in
        let log = v.seen ++ others in
        let low' = below_lasts shape v.seen others c p 0 l low in
        let is_free = code_free shape c p (cell_of log c p) (f.cell c p lc (omega arith) refl).0 in
        let at = free_end (now log) c p (tied_now shape log l) low'.given is_free in
        let may' = may_more shape who k c main v.seen others l (added.apart who own) may in
        begin_steps shape log who c p l lc lp low'.given is_free (main_at c p main) k (offer value who (main_at c p main) k)
        (Offer c p value (main_at c p main) k) (cell_code shape c p (offer value who (main_at c p main) k)) (
          lc,
          has_place shape log who c p l lc lp low'.given is_free,
          none_line (now log) c (tied_now shape log l) p 0 low' (omega (arith, at.0)),
          kind,
          names_main shape who k c p main log may',
        )
        refl refl refl (main_fits shape who k c p main log lt lc (omega arith) few may', lv);
  }

  pub clause_awaits : NoneBelow 0 p (at_channel v.seen c)
      → MayTurn shape (cell_number shape c p) 0 (cell_code shape c p (receiver who (main_at c p main) k))
      (record { who = who; act = Await c p (main_at c p main) k }) v
  clause_awaits low = record {
    own = own;
    steps = λ others added f.
        let l = added.is_legal in
        let log = v.seen ++ others in
        let low' = below_lasts shape v.seen others c 0 p l low in
        let is_free = code_free shape c p (cell_of log c p) (f.cell c p lc (omega arith) refl).0 in
        let at = free_end (now log) c p (tied_now shape log l) low'.given_offers is_free in
        let may' = may_more shape who k c main v.seen others l (added.apart who own) may in
        begin_steps shape log who c p l lc lp low'.given_offers is_free (main_at c p main) k (receiver who (main_at c p main) k)
        (Await c p (main_at c p main) k) (cell_code shape c p (receiver who (main_at c p main) k)) (
          lc,
          has_place shape log who c p l lc lp low'.given_offers is_free,
          none_queue (now log) c (tied_now shape log l) 0 p low' (omega (arith, at.0)),
          names_main shape who k c p main log may',
        )
        refl refl refl (main_fits shape who k c p main log lt lc (omega arith) few may');
  }
