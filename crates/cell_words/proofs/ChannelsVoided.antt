-- A closed channel is cancelled where it ends.
use Rattle.std.proofs.Common.{◌≡◌, ◌≢◌, ℕ, ◌<◌, ◌≤◌, Bool, true, false, List, [], ◌∷◌, ◌++◌, length, Option, Some, None, is_some, sym, refl, ap, ◌∙◌, subst, arith}
use Rattle.worded.specs.Views.{has_tag}
use Rattle.channel_model.specs.declared.acts.Act.TheVariants.{Void}
use Rattle.channel_model.specs.declared.acts.Entry.{Entry}
use Rattle.channel_model.specs.Channels.{Shape, State, Channel, places_at}
use Rattle.channel_model.specs.Effects.{close_value}
use Rattle.channel_model.specs.Histories.{replay, Legal}
use Rattle.channel_model.proofs.EveryAct.{ChannelKeeps}
use Rattle.channel_model.proofs.Sound.{channel_lasts}
use Rattle.word_rules.specs.declared.cell_word.CellState.TheVariants as cell
use Rattle.word_rules.specs.declared.cell_word.CellWord.{CellWord}
use Rattle.word_rules.specs.Cells.{Cell, closed_by, voided_by, set_cell, cell_of, board_of, blank, end_cell}
use Rattle.word_rules.specs.Codes.{packed_cell}
use Rattle.word_rules.specs.Words.{cell_number, plain_word, cell_code, CellFits, Fits}
use Rattle.cell_words.specs.Seen.{Seen, at_channel, Sees}
use Rattle.cell_words.specs.Answers.{MayTurn, IsCellWord}
use Rattle.cell_words.proofs.CellsGiveLists.{board_state}
use Rattle.cell_words.proofs.CellsTellFacts.{tied_now}
use Rattle.cell_words.proofs.EntriesOnOneWord.{cell_steps}

-- ---- a closed channel ends where it ended

abbrev pub EndsAt : ℕ → ℕ → Channel → Type 0
EndsAt p v ch = (ch.next ≡ p) × (ch.closed ≡ Some v)

ends_keeps : (shape : Shape) (p v : ℕ) → ChannelKeeps shape (λ d ch. EndsAt p v ch)
ends_keeps shape p v = record {
  without = λ w d ch h. h;
  rest = λ d o os ch e h. h;
  admit = λ d q ch h. h;
  spurn = λ d q ch h. h;
  put = λ d q u ch h n x. absurd (shut ch h.open_now x.1);
  offer = λ d q b o ch h n s e x. absurd (shut ch h.open_now x.1);
  await = λ d q b r ch h n e x. absurd (shut ch h.open_now x.1);
  close = λ d u ch e h. absurd (shut ch e h.1);
  void = λ d ch e h. h;
}
  where
    shut : (ch : Channel) → ch.closed ≡ None → ch.closed ≡ Some v → ⊥
    shut ch e f = let g : is_some {T = ℕ} None ≡ true = ap is_some (sym e ∙ f) in cc

pub ends_later : (shape : Shape) (c p v : ℕ) (xs ys : List Entry) → Legal shape (xs ++ ys) → EndsAt p v ((replay xs).channels c)
    → EndsAt p v ((replay (xs ++ ys)).channels c)
ends_later shape c p v xs ys l h = channel_lasts shape (λ d ch. EndsAt p v ch) (ends_keeps shape p v) c xs (xs ++ ys) (ys, refl) l h

-- what its cell says
ends_cell : (shape : Shape) (log : List Entry) (c p v : ℕ) → Legal shape log → EndsAt p v ((replay log).channels c)
    → cell_of log c p ≡ end_cell (Some v) ((replay log).channels c).voided
ends_cell shape log c p v l h = ap (cell_of log c) (sym h.0) ∙ (tied_now shape log l).ending c
    ∙ ap (λ (x : Option ℕ). end_cell x ((replay log).channels c).voided) h.1

-- it is not cancelled while its word says that it was closed
not_voided : (shape : Shape) (c p v : ℕ) (x : Cell) (b : Bool) → x ≡ end_cell (Some v) b
    → cell_code shape c p (closed_by v) ≡ cell_code shape c p x → b ≡ false
not_voided shape c p v x true e is = let f : cell_code shape c p (closed_by v) ≡ cell_code shape c p (voided_by v) = is
    ∙ ap (cell_code shape c p) e in absurd (omega arith)
not_voided shape c p v x false e is = refl

-- and is where its word says something else
voided_else : (shape : Shape) (c p v : ℕ) (x : Cell) (b : Bool) → x ≡ end_cell (Some v) b
    → (cell_code shape c p x ≡ cell_code shape c p (closed_by v) → ⊥) → b ≡ true
voided_else shape c p v x true e ne = refl
voided_else shape c p v x false e ne = absurd (ne (ap (cell_code shape c p) e))

-- ---- the entry

pub void_steps : (shape : Shape) (log : List Entry) (who c p v : ℕ) → Legal shape log → c < length shape → p ≤ places_at shape c
    → v < 4294967296 → EndsAt p v ((replay log).channels c) → ((replay log).channels c).voided ≡ false
    → Legal shape (log ++ record { who = who; act = Void c } ∷ [])
    × Fits shape (log ++ record { who = who; act = Void c } ∷ []) (cell_number shape c p) (cell_code shape c p (voided_by v))
    × ((j m : ℕ) → j ≢ cell_number shape c p → Fits shape log j m → Fits shape (log ++ record { who = who; act = Void c } ∷ []) j m)
void_steps shape log who c p v l lc lp lv ends open_now =
    cell_steps shape log who c p (Void c) (voided_by v) (cell_code shape c p (voided_by v)) l lc lp (lc, ap is_some ends.1, open_now)
    (ap (λ (z : ℕ × Option ℕ). set_cell (board_of log).cells c z.0 (voided_by (close_value z.1)))
    (ap (λ (s : State). ((s.channels c).next, (s.channels c).closed)) (board_state blank log) ∙ (λ i. (ends.0 i, ends.1 i)))) refl refl
    lv

-- ---- whatever others do meanwhile

pub voids : (shape : Shape) (v : Seen) (who c p value : ℕ) → has_tag who v.tags ≡ true → c < length shape → p ≤ places_at shape c
    → EndsAt p value (at_channel v.seen c)
    → MayTurn shape (cell_number shape c p) (cell_code shape c p (closed_by value)) (cell_code shape c p (voided_by value))
    (record { who = who; act = Void c }) v
voids shape v who c p value own lc lp ends = record {
  own = own;
  steps = λ others added f.
      let l = added.is_legal in
      let log = v.seen ++ others in
      let ends' = ends_later shape c p value v.seen others l ends in
      let here = f.cell c p lc lp refl in
      let is = ends_cell shape log c p value l ends' in
      let unvoided = not_voided shape c p value (cell_of log c p) ((replay log).channels c).voided is here.0 in
      void_steps shape log who c p value l lc lp (subst (CellFits shape) (is ∙ ap (end_cell (Some value)) unvoided) here.1) ends' unvoided;
}

-- another word says that it was cancelled
pub void_lost : (shape : Shape) (v w : Seen) (c p value : ℕ) (found old : CellWord) → Legal shape w.seen
    → EndsAt p value (at_channel v.seen c) → Sees v w → old ≡ plain_word cell.Closed value → IsCellWord shape c p w.seen found
    → (packed_cell found ≡ packed_cell old → ⊥)
    → (at_channel w.seen c).voided ≡ true
void_lost shape v w c p value found old l ends s is_old is ne =
    let ends' : EndsAt p value (at_channel w.seen c) = subst (λ (es : List Entry). EndsAt p value (at_channel es c)) (sym s.now)
    (ends_later shape c p value v.seen s.others (subst (Legal shape) s.now l) ends) in
    voided_else shape c p value (cell_of w.seen c p) (at_channel w.seen c).voided (ends_cell shape w.seen c p value l ends')
    (λ e. ne (ap packed_cell is.0 ∙ e ∙ sym (ap packed_cell is_old)))
