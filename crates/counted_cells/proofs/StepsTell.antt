-- What a step of the table says of the pass.
use Rattle.std.specs.Prelude.{◌≡◌, ◌≢◌, ℕ, suc, ◌+◌, ◌<◌, ◌≤◌, ◌==◌, Bool, true, false, List, [], ◌∷◌, ◌++◌, Option, Some, nat_lt, MatchBool, if◌then◌else◌, refl}
use Rattle.std.proofs.Common.{sym, ap, ◌∙◌, subst, arith, append-nil, ne_eqb, eq-eqb}
use Rattle.std.proofs.lemmas.Bool.{lt-ltb}
use Rattle.worded.specs.Views.{has_tag, having_seen}
use Rattle.worded.specs.Exchanges.{Loaded, Entered}
use Rattle.worded.proofs.StepsOfSeats as steps
use Rattle.counted_cells.specs.declared.act.Side.{Side}
use Rattle.counted_cells.specs.declared.act.CellAct.TheVariants.{Draw, Miss}
use Rattle.counted_cells.specs.declared.act.CellEntry.{CellEntry}
use Rattle.counted_cells.specs.declared.cell_state.CellState.{CellState}
use Rattle.counted_cells.specs.Cells.{State, put, has_come, after, state_of, Legal, maker}
use Rattle.counted_cells.specs.Words.{cell_code, IsNarrow, counter_word, Fits}
use Rattle.counted_cells.specs.Seen.{Seen, now_in, cell_in, first_tag, Ungiven, Sees, Makes}
use Rattle.counted_cells.specs.Answers.{entry_drawn, DrawnAnswer}
use Rattle.counted_cells.proofs.HistoriesGoOn.{put_here, state_push}
use Rattle.counted_cells.proofs.StatesStaySound.{sound_of, put_side_here}
use Rattle.counted_cells.proofs.OneCodeOneCell.{cell_code_is}

pub sees_of : (cells word n : ℕ) (v w : Seen) → v.heard_tags ≡ [] → Loaded (Legal cells) Fits maker word n v w → Sees v w
    × Fits w.seen word n
sees_of cells word n v w idle l = (steps.sees_of idle l, steps.fits_of l)

pub makes_of : (cells word old : ℕ) (e : CellEntry) (v w : Seen) → v.heard_tags ≡ [] → Entered (Legal cells) Fits maker word old e v w
    → Makes v e w
makes_of cells word old e v w idle l = (steps.turns_of idle l).made

-- ---- the laws of a pass

pub record PassLaws (number splits : ℕ) (w : Seen) : Type 0 where
  pub numbered : (first_tag w.tags ≡ number) × (has_tag number w.tags ≡ true)
  pub ungiven : Ungiven splits w
  pub legal : Legal w.key w.seen

-- they hold of a pass that has seen more
pub laws_more : (number splits cells : ℕ) (v w : Seen) (log : List CellEntry) → PassLaws number splits v → v.key ≡ cells → v.heard_tags ≡ []
    → w ≡ having_seen v log → Legal cells log → PassLaws number splits w
laws_more number splits cells v w log p key idle now h = record {
  numbered = (ap first_tag tags ∙ p.numbered.0, ap (has_tag number) tags ∙ p.numbered.1);
  ungiven = λ t lt. ap (λ (x : Seen). has_tag t x.given) now ∙ p.ungiven t lt;
  legal = subst (λ (x : ℕ × List CellEntry). Legal x.0 x.1)
      (λ i. (sym (ap (λ (x : Seen). x.key) now ∙ key) i, sym (ap (λ (x : Seen). x.seen) now) i)) h;
}
  where
    tags : w.tags ≡ v.tags
    tags = ap (λ (x : Seen). x.tags) now ∙ ap (λ t. v.tags ++ t) idle ∙ append-nil v.tags

pub laws_loaded : (number splits cells word n : ℕ) (v w : Seen) → PassLaws number splits v → v.key ≡ cells → v.heard_tags ≡ []
    → Loaded (Legal cells) Fits maker word n v w → PassLaws number splits w
laws_loaded number splits cells word n v w p key idle l =
    laws_more number splits cells v w (v.seen ++ l.others) p key idle l.now l.added.is_legal

pub laws_entered : (number splits cells word old : ℕ) (e : CellEntry) (v w : Seen) → PassLaws number splits v → v.key ≡ cells
    → v.heard_tags ≡ [] → Entered (Legal cells) Fits maker word old e v w → PassLaws number splits w
laws_entered number splits cells word old e v w p key idle l =
    laws_more number splits cells v w ((v.seen ++ l.others) ++ e ∷ []) p key idle l.now l.is_legal

pub laws_exchanged : (number splits cells word old n : ℕ) (e : CellEntry) (v w : Seen) → PassLaws number splits v → v.key ≡ cells
    → v.heard_tags ≡ []
    → MatchBool (n == old) (Entered (Legal cells) Fits maker word old e v w) (Loaded (Legal cells) Fits maker word n v w)
    → PassLaws number splits w
laws_exchanged number splits cells word old n e v w p key idle told = by_test (n == old) told
  where
    by_test : (b : Bool) → MatchBool b (Entered (Legal cells) Fits maker word old e v w) (Loaded (Legal cells) Fits maker word n v w)
        → PassLaws number splits w
    by_test true m = laws_entered number splits cells word old e v w p key idle m
    by_test false l = laws_loaded number splits cells word n v w p key idle l

-- ---- the pass is one of the cells still

pub record StaysOf (v w : Seen) : Type 0 where
  pub key : w.key ≡ v.key
  pub idle : w.heard_tags ≡ []

-- ---- a number was drawn

le_self : (n : ℕ) → n ≤ n
le_self n = omega arith

pub drawn_told : (cells who n : ℕ) (d : Side) (v w : Seen) → v.heard_tags ≡ []
    → Entered (Legal cells) Fits maker (counter_word d) n (entry_drawn cells d who n) v w → DrawnAnswer cells d who v w n
drawn_told cells who n d v w idle l = record {
  makes = makes_of cells (counter_word d) n (entry_drawn cells d who n) v w idle l;
  number = ap (λ (s : State). s.drawn d) at ∙ up (nat_lt n cells);
  cell = λ lt. record {
    drawer = ap (λ (s : State). s.drawer d n) (at ∙ drew lt)
        ∙ ap (λ (f : ℕ → Option ℕ). f n) (put_side_here d (put n (Some who) ((state_of log).drawer d)) (state_of log).drawer)
        ∙ put_here n (Some who) ((state_of log).drawer d);
    not_yet = ap (λ (s : State). has_come d (s.cells n)) (at ∙ drew lt)
        ∙ (sound_of cells log l.added.is_legal).come d n ((sound_of cells log l.added.is_legal).undrawn d n
        (subst (λ m. m ≤ n) is (le_self n)));
  };
}
  where
    log : List CellEntry
    log = v.seen ++ l.others

    is : n ≡ (state_of log).drawn d
    is = l.found.counter d refl

    at : now_in w ≡ after (state_of log) who (if nat_lt n cells then Draw d n else Miss d)
    at = ap (λ (x : Seen). state_of x.seen) l.now ∙ state_push log (entry_drawn cells d who n)

    drew : n < cells → after (state_of log) who (if nat_lt n cells then Draw d n else Miss d) ≡ after (state_of log) who (Draw d n)
    drew lt = ap (λ (b : Bool). after (state_of log) who (if b then Draw d n else Miss d)) (lt-ltb n cells lt)

    more : suc ((state_of log).drawn d) ≡ n + 1
    more = omega (arith, is)

    up : (b : Bool) → (after (state_of log) who (if b then Draw d n else Miss d)).drawn d ≡ n + 1
    up true = put_side_here d (suc ((state_of log).drawn d)) (state_of log).drawn ∙ more
    up false = put_side_here d (suc ((state_of log).drawn d)) (state_of log).drawn ∙ more

pub drawn_at : (cells key who n : ℕ) (d e : Side) (v w : Seen) → key ≡ cells → first_tag v.tags ≡ who → d ≡ e → v.heard_tags ≡ []
    → Entered (Legal key) Fits maker (counter_word e) n (entry_drawn key e (first_tag v.tags) n) v w → DrawnAnswer cells d who v w n
drawn_at cells key who n d e v w is named side idle l =
    subst (λ (x : ℕ × ℕ × Side). DrawnAnswer x.0 x.2 x.1 v w n) (λ i. (is i, named i, sym side i))
    (drawn_told key (first_tag v.tags) n e v w idle l)

-- ---- a cell was found

pub loaded_of : (cells word old n : ℕ) (e : CellEntry) (v w : Seen) → (n ≡ old → ⊥)
    → MatchBool (n == old) (Entered (Legal cells) Fits maker word old e v w) (Loaded (Legal cells) Fits maker word n v w)
    → Loaded (Legal cells) Fits maker word n v w
loaded_of cells word old n e v w ne told = subst (λ (b : Bool). MatchBool b (Entered (Legal cells) Fits maker word old e v w)
    (Loaded (Legal cells) Fits maker word n v w)) (ne_eqb n old ne) told

pub entered_of : (cells word old n : ℕ) (e : CellEntry) (v w : Seen) → n ≡ old
    → MatchBool (n == old) (Entered (Legal cells) Fits maker word old e v w) (Loaded (Legal cells) Fits maker word n v w)
    → Entered (Legal cells) Fits maker word old e v w
entered_of cells word old n e v w is told = subst (λ (b : Bool). MatchBool b (Entered (Legal cells) Fits maker word old e v w)
    (Loaded (Legal cells) Fits maker word n v w)) (eq-eqb n old is) told

-- each word of a cell is that of one
pub is_a_cell : (cells p n : ℕ) (v w : Seen) → Loaded (Legal cells) Fits maker (2 + p) n v w
    → ((x : CellState) → IsNarrow x → cell_code x ≢ n) → ⊥
is_a_cell cells p n v w l none = none ((state_of (v.seen ++ l.others)).cells p) (l.found.narrow p refl) (sym (l.found.cell p refl))

pub cell_found : (cells p n : ℕ) (x : CellState) (v w : Seen) → Loaded (Legal cells) Fits maker (2 + p) n v w → cell_code x ≡ n
    → cell_in w p ≡ x
cell_found cells p n x v w l is = ap (λ (y : Seen). (state_of y.seen).cells p) l.now
    ∙ sym (cell_code_is x ((state_of (v.seen ++ l.others)).cells p) (is ∙ l.found.cell p refl))
