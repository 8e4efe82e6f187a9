-- Each step may come, and changes one word.
use Rattle.std.specs.Prelude.{◌≡◌, ◌≢◌, ℕ, suc, ◌+◌, ◌^◌, ◌<◌, ◌≤◌, Bool, true, false, List, [], ◌∷◌, ◌++◌, nat_lt, if◌then◌else◌, refl}
use Rattle.std.proofs.Common.{sym, ap, ◌∙◌, subst, arith}
use Rattle.std.proofs.lemmas.Bool.{ltb-true, ltb-false}
use Rattle.worded.specs.Views.{has_tag}
use Rattle.worded.specs.Exchanges.{OthersAdded, MayEnter, MayDraw}
use Rattle.counted_cells.specs.declared.act.Side.{Side}
use Rattle.counted_cells.specs.declared.act.Side.TheVariants.{Send, Receive}
use Rattle.counted_cells.specs.declared.act.CellAct.{CellAct}
use Rattle.counted_cells.specs.declared.act.CellAct.TheVariants.{Draw, Miss, Place, Pair, GiveUp}
use Rattle.counted_cells.specs.declared.act.CellEntry.{CellEntry}
use Rattle.counted_cells.specs.declared.cell_state.CellState.{CellState}
use Rattle.counted_cells.specs.Cells.{State, put, put_side, side_of, waits_for, after, state_of, Needs, LegalFrom, Legal, maker}
use Rattle.counted_cells.specs.Words.{cell_code, IsNarrow, counter_word, Fits}
use Rattle.counted_cells.specs.Seen.{Seen, now_in, entry_of, first_tag}
use Rattle.counted_cells.specs.Answers.{IsDrawer, MayTurn, entry_drawn}
use Rattle.counted_cells.proofs.HistoriesGoOn.{put_here, put_else, state_push, state_more, Legal_push, Legal-rest}
use Rattle.counted_cells.proofs.StatesStaySound.{Sound, sound_of, late_count, late_small}
use Rattle.counted_cells.proofs.OthersLeave.{others_keep, late_step, drawer_step}
use Rattle.counted_cells.proofs.OneCodeOneCell.{cell_code_is}

abbrev pub Now : ℕ → Seen → List CellEntry → Type 0
Now cells v others = OthersAdded (Legal cells) Fits maker v others

-- ---- what others leave

pub sound_seen : (cells : ℕ) (v : Seen) (others : List CellEntry) → Legal cells (v.seen ++ others) → Sound cells (state_of v.seen)
    × LegalFrom cells (state_of v.seen) others
sound_seen cells v others h = let r = Legal-rest cells v.seen others h in (sound_of cells v.seen r.0, r.1)

pub others_keep_now : (cells who : ℕ) (v : Seen) (others : List CellEntry) (P : State → Type 0)
    → ((s : State) (t : ℕ) (act : CellAct) → Sound cells s → Needs cells s t act → (t ≡ who → ⊥) → P s → P (after s t act))
    → has_tag who v.tags ≡ true → Now cells v others → P (state_of v.seen) → P (state_of (v.seen ++ others))
others_keep_now cells who v others P step own n h = let r = sound_seen cells v others n.is_legal in
    subst P (sym (state_more v.seen others)) (others_keep cells who P step (state_of v.seen) others r.0 r.1 (n.apart who own) h)

-- ---- the words that an entry changes

-- a counter goes up by one
counted_up : (log : List CellEntry) (e : CellEntry) (d : Side) (n : ℕ)
    → (state_of (log ++ e ∷ [])).drawn ≡ put_side d (suc ((state_of log).drawn d)) (state_of log).drawn
    → (state_of (log ++ e ∷ [])).cells ≡ (state_of log).cells → n ≡ (state_of log).drawn d
    → Fits (log ++ e ∷ []) (counter_word d) (n + 1) × ((j m : ℕ) → j ≢ counter_word d → Fits log j m → Fits (log ++ e ∷ []) j m)
counted_up log e d n up same is = (
  record {
    counter = λ f w. here d f w is ∙ sym (ap (λ (g : Side → ℕ). g f) up);
    cell = λ p w. absurd (low d p w);
    narrow = λ p w. absurd (low d p w);
  },
  λ j m ne f. record {
    counter = λ g w. f.counter g w ∙ sym (there d g j w ne) ∙ sym (ap (λ (h : Side → ℕ). h g) up);
    cell = λ p w. f.cell p w ∙ sym (ap (λ (h : ℕ → CellState). cell_code (h p)) same);
    narrow = λ p w. subst (λ (h : ℕ → CellState). IsNarrow (h p)) (sym same) (f.narrow p w);
  },
)
  where
    low : (d : Side) (p : ℕ) → counter_word d ≡ 2 + p → ⊥
    low Send p w = omega (arith, w)
    low Receive p w = omega (arith, w)

    here : (d f : Side) → counter_word d ≡ counter_word f → n ≡ (state_of log).drawn d
        → n + 1 ≡ put_side d (suc ((state_of log).drawn d)) (state_of log).drawn f
    here Send Send w is = omega (arith, is)
    here Send Receive w is = absurd (omega (arith, w))
    here Receive Send w is = absurd (omega (arith, w))
    here Receive Receive w is = omega (arith, is)

    there : (d f : Side) (j : ℕ) → j ≡ counter_word f → j ≢ counter_word d
        → put_side d (suc ((state_of log).drawn d)) (state_of log).drawn f ≡ (state_of log).drawn f
    there Send Send j w ne = absurd (ne w)
    there Send Receive j w ne = refl
    there Receive Send j w ne = refl
    there Receive Receive j w ne = absurd (ne w)

-- a cell is turned
turned : (log : List CellEntry) (e : CellEntry) (p : ℕ) (x : CellState) → (state_of (log ++ e ∷ [])).drawn ≡ (state_of log).drawn
    → (state_of (log ++ e ∷ [])).cells ≡ put p x (state_of log).cells → IsNarrow x
    → Fits (log ++ e ∷ []) (2 + p) (cell_code x) × ((j m : ℕ) → j ≢ 2 + p → Fits log j m → Fits (log ++ e ∷ []) j m)
turned log e p x same turn narrow = (
  record {
    counter = λ d w. absurd (low d w);
    cell = λ q w. ap cell_code (sym (at q w));
    narrow = λ q w. subst IsNarrow (sym (at q w)) narrow;
  },
  λ j m ne f. record {
    counter = λ d w. f.counter d w ∙ sym (ap (λ (h : Side → ℕ). h d) same);
    cell = λ q w. f.cell q w ∙ sym (ap cell_code (elsewhere q j w ne));
    narrow = λ q w. subst IsNarrow (sym (elsewhere q j w ne)) (f.narrow q w);
  },
)
  where
    low : (d : Side) → 2 + p ≡ counter_word d → ⊥
    low Send w = omega (arith, w)
    low Receive w = omega (arith, w)

    at : (q : ℕ) → 2 + p ≡ 2 + q → (state_of (log ++ e ∷ [])).cells q ≡ x
    at q w = ap (λ (h : ℕ → CellState). h q) turn ∙ ap (put p x (state_of log).cells) (sym (less w)) ∙ put_here p x (state_of log).cells
      where
        less : 2 + p ≡ 2 + q → p ≡ q
        less k = omega (arith, k)

    elsewhere : (q j : ℕ) → j ≡ 2 + q → j ≢ 2 + p → (state_of (log ++ e ∷ [])).cells q ≡ (state_of log).cells q
    elsewhere q j w ne = ap (λ (h : ℕ → CellState). h q) turn
        ∙ put_else p q x (state_of log).cells (λ same. ne (w ∙ ap (λ n. 2 + n) (sym same)))

-- ---- a number is drawn

draw_word : (log : List CellEntry) (d : Side) (who n i : ℕ) → n ≡ (state_of log).drawn d
    → Fits (log ++ entry_of who (Draw d i) ∷ []) (counter_word d) (n + 1)
    × ((j m : ℕ) → j ≢ counter_word d → Fits log j m → Fits (log ++ entry_of who (Draw d i) ∷ []) j m)
draw_word log d who n i is = let e : CellEntry = entry_of who (Draw d i)
    in counted_up log e d n (ap (λ (s : State). s.drawn) (state_push log e)) (ap (λ (s : State). s.cells) (state_push log e)) is

miss_word : (log : List CellEntry) (d : Side) (who n : ℕ) → n ≡ (state_of log).drawn d
    → Fits (log ++ entry_of who (Miss d) ∷ []) (counter_word d) (n + 1)
    × ((j m : ℕ) → j ≢ counter_word d → Fits log j m → Fits (log ++ entry_of who (Miss d) ∷ []) j m)
miss_word log d who n is = let e : CellEntry = entry_of who (Miss d)
    in counted_up log e d n (ap (λ (s : State). s.drawn) (state_push log e)) (ap (λ (s : State). s.cells) (state_push log e)) is

has_room : (n cells m k : ℕ) → n ≡ m → m ≤ cells + k → k ≤ 65536 → cells ≤ 1048576 → n + 1 < 2 ^ 64
has_room n cells m k is le few small = omega (arith, is, le, few, small)

-- who has not drawn past the last cell may draw
pub draws : (cells who : ℕ) (d : Side) (v : Seen) → cells ≤ 1048576 → who < 65536 → has_tag who v.tags ≡ true
    → (now_in v).late d who ≡ false → MayDraw (Legal cells) Fits maker v (counter_word d) (entry_drawn cells d who)
draws cells who d v few small own early = record {
  room = λ others n since found. let s : State = state_of (v.seen ++ others) in
      has_room n cells (s.drawn d) (late_count (s.late d)) (found.counter d refl)
      ((sound_of cells (v.seen ++ others) since.is_legal).bound d) (late_small (s.late d)) few;
  enters = λ n. record {
    own = owned n;
    steps = λ others since found. go n others since (found.counter d refl) (nat_lt n cells) refl;
  };
}
  where
    owned : (n : ℕ) → has_tag (maker (entry_drawn cells d who n)) v.tags ≡ true
    owned n = own

    Steps : List CellEntry → ℕ → Bool → Type 0
    Steps log n b = let e : CellEntry = entry_of who (if b then Draw d n else Miss d) in Legal cells (log ++ e ∷ [])
        × Fits (log ++ e ∷ []) (counter_word d) (n + 1) × ((j m : ℕ) → j ≢ counter_word d → Fits log j m → Fits (log ++ e ∷ []) j m)

    go : (n : ℕ) (others : List CellEntry) → Now cells v others → n ≡ (state_of (v.seen ++ others)).drawn d → (b : Bool)
        → nat_lt n cells ≡ b → Steps (v.seen ++ others) n (nat_lt n cells)
    go n others since is true lt = subst (Steps (v.seen ++ others) n) (sym lt) (let w = draw_word (v.seen ++ others) d who n n is in (
      Legal_push cells (v.seen ++ others) (entry_of who (Draw d n)) since.is_legal (is, ltb-true n cells lt),
      w.0,
      w.1,
    ))
    go n others since is false ge = subst (Steps (v.seen ++ others) n) (sym ge) (let w = miss_word (v.seen ++ others) d who n is in (
      Legal_push cells (v.seen ++ others) (entry_of who (Miss d)) since.is_legal (
        subst (λ m. cells ≤ m) is (ltb-false n cells ge),
        others_keep_now cells who v others (λ s. s.late d who ≡ false) (λ s t act sound k ne h. late_step s t who act d ne h) own since
            early,
        small,
      ),
      w.0,
      w.1,
    ))

pub draws_at : (cells key who : ℕ) (d : Side) (v : Seen) → key ≡ cells → cells ≤ 1048576 → who < 65536 → first_tag v.tags ≡ who
    → has_tag who v.tags ≡ true → (now_in v).late d who ≡ false
    → MayDraw (Legal key) Fits maker v (counter_word d) (λ n. entry_drawn key d (first_tag v.tags) n)
draws_at cells key who d v is few small named own early =
    subst (λ t. MayDraw (Legal key) Fits maker v (counter_word d) (λ n. entry_drawn key d t n)) (sym named)
    (draws key who d v (subst (λ n. n ≤ 1048576) (sym is) few) small own early)

-- ---- a cell is turned

still_drawer : (cells who p : ℕ) (d : Side) (v : Seen) (others : List CellEntry) → has_tag who v.tags ≡ true → Now cells v others
    → IsDrawer d who p (now_in v) → IsDrawer d who p (state_of (v.seen ++ others))
still_drawer cells who p d v others own since h = others_keep_now cells who v others (IsDrawer d who p)
    (λ s t act sound k ne q. drawer_step cells s t act d p who sound k q) own since h

-- an act that may turn a cell may come wherever that is old
pub turns : (cells who p : ℕ) (old new : CellState) (act : CellAct) (v : Seen) → has_tag who v.tags ≡ true → IsNarrow new
    → MayTurn who p old new act (now_in v) → MayEnter (Legal cells) Fits maker v (2 + p) (cell_code old) (cell_code new) (entry_of who act)
turns cells who p old new act v own narrow may = record {
  own = own;
  steps = λ others since found.
      let log : List CellEntry = v.seen ++ others in
      let e : CellEntry = entry_of who act in
      let is : (state_of log).cells p ≡ old = sym (cell_code_is old ((state_of log).cells p) (found.cell p refl)) in
      let r = by_act act others since is may in
      let w = turned log e p new (ap (λ (s : State). s.drawn) (state_push log e) ∙ r.1) (ap (λ (s : State). s.cells) (state_push log e)
      ∙ r.2) narrow in
      (Legal_push cells log e since.is_legal r.0, w.0, w.1);
}
  where
    Turn : List CellEntry → CellAct → Type 0
    Turn others act = let s : State = state_of (v.seen ++ others) in Needs cells s who act × ((after s who act).drawn ≡ s.drawn)
        × ((after s who act).cells ≡ put p new s.cells)

    puts : {i : ℕ} {x : CellState} (s : State) → i ≡ p → new ≡ x → put i x s.cells ≡ put p new s.cells
    puts s a b = λ k. put (a k) (sym b k) s.cells

    by_act : (act : CellAct) (others : List CellEntry) → Now cells v others → (state_of (v.seen ++ others)).cells p ≡ old
        → MayTurn who p old new act (now_in v) → Turn others act
    by_act (Place i w) others since is m = let s : State = state_of (v.seen ++ others) in (
      (still_drawer cells who i (side_of w) v others own since m.3, ap s.cells m.0 ∙ is ∙ m.1),
      refl,
      puts s m.0 m.2,
    )
    by_act (Pair d i u) others since is m = let s : State = state_of (v.seen ++ others) in (
      (still_drawer cells who i d v others own since m.3, ap s.cells m.0 ∙ is ∙ m.1),
      refl,
      puts s m.0 m.2,
    )
    by_act (GiveUp d i) others since is m = let s : State = state_of (v.seen ++ others) in (
      (still_drawer cells who i d v others own since m.3, ap (waits_for d) (ap s.cells m.0 ∙ is) ∙ m.1),
      refl,
      puts s m.0 m.2,
    )
    by_act other others since is m = absurd m

pub turns_at : (key who p word turned_word : ℕ) (old new : CellState) (act : CellAct) (v : Seen) → word ≡ cell_code old
    → turned_word ≡ cell_code new → has_tag who v.tags ≡ true → IsNarrow new → MayTurn who p old new act (now_in v)
    → MayEnter (Legal key) Fits maker v (2 + p) word turned_word (entry_of who act)
turns_at key who p word turned_word old new act v is will own narrow may =
    subst (λ (x : ℕ × ℕ). MayEnter (Legal key) Fits maker v (2 + p) x.0 x.1 (entry_of who act)) (λ i. (sym is i, sym will i))
    (turns key who p old new act v own narrow may)
