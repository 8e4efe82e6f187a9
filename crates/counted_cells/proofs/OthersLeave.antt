-- What goes on to hold of a cell, whoever makes entries, and what others leave to who drew it.
use Rattle.std.specs.Prelude.{◌≡◌, ℕ, Bool, true, false, List, [], ◌∷◌, Option, Some, None, refl}
use Rattle.std.proofs.Common.{◌≤◌, sym, ap, ◌∙◌, subst, arith}
use mathlib.Core.Logic.{dite}
use native.Mathlib.Decide.{ℕ_discrete}
use Rattle.worded.specs.Histories.{entries_of}
use Rattle.counted_cells.specs.declared.act.Side.{Side}
use Rattle.counted_cells.specs.declared.act.Side.TheVariants.{Send, Receive}
use Rattle.counted_cells.specs.declared.act.Waiter.{Waiter}
use Rattle.counted_cells.specs.declared.act.CellAct.{CellAct}
use Rattle.counted_cells.specs.declared.act.CellAct.TheVariants.{Draw, Miss, Place, Pair, GiveUp}
use Rattle.counted_cells.specs.declared.act.CellEntry.{CellEntry}
use Rattle.counted_cells.specs.declared.cell_state.CellState.{CellState}
use Rattle.counted_cells.specs.declared.cell_state.CellState.TheVariants.{Free, Waits, Paired, Broken}
use Rattle.counted_cells.specs.Cells.{State, put, put_side, same_side, side_of, partner, waits_for, has_come, after, state_from, Needs, LegalFrom, maker}
use Rattle.counted_cells.specs.Answers.{IsDrawer, HasCome, is_whole, MayGiveUp}
use Rattle.counted_cells.proofs.HistoriesGoOn.{put_here, put_else, apart_first}
use Rattle.counted_cells.proofs.StatesStaySound.{Sound, sound_step, is_same}

some_not : {A : Type 0} {t : A} → (Some t) ≡ None → ⊥
some_not h = cc

abbrev or_zero : Option ℕ → ℕ
or_zero (Some t) = t
or_zero None = 0

pub same_drawer : {t u : ℕ} {x : Option ℕ} → x ≡ Some t → x ≡ Some u → t ≡ u
same_drawer p q = ap or_zero (sym p ∙ q)

le_self : (n : ℕ) → n ≤ n
le_self n = omega arith

-- ---- a cell stays drawn

pub drawer_step : (cells : ℕ) (s : State) (who : ℕ) (act : CellAct) (d : Side) (i t : ℕ) → Sound cells s → Needs cells s who act
    → IsDrawer d t i s → IsDrawer d t i (after s who act)
drawer_step cells s who (Draw e j) d i t h k q = go e d k.0 q
  where
    go : (e d : Side) → j ≡ s.drawn e → s.drawer d i ≡ Some t → put_side e (put j (Some who) (s.drawer e)) s.drawer d i ≡ Some t
    go Send Send is q = put_else j i (Some who) (s.drawer Send)
        (λ same. some_not (sym q ∙ sym (ap (s.drawer Send) same)
        ∙ h.undrawn Send j (subst (λ n. s.drawn Send ≤ n) (sym is) (le_self (s.drawn Send))))) ∙ q
    go Send Receive is q = q
    go Receive Send is q = q
    go Receive Receive is q = put_else j i (Some who) (s.drawer Receive)
        (λ same. some_not (sym q ∙ sym (ap (s.drawer Receive) same)
        ∙ h.undrawn Receive j (subst (λ n. s.drawn Receive ≤ n) (sym is) (le_self (s.drawn Receive))))) ∙ q
drawer_step cells s who (Miss e) d i t h k q = q
drawer_step cells s who other d i t h k q = q

-- ---- how a cell goes on

-- a cell that was x may be y
abbrev pub Becomes : CellState → CellState → Type 0
Becomes Free y = Unit {0}
Becomes (Waits w) Free = ⊥
Becomes (Waits w) (Waits x) = x ≡ w
Becomes (Waits w) (Paired v) = Unit {0}
Becomes (Waits w) (Broken d) = d ≡ side_of w
Becomes (Paired v) (Paired u) = u ≡ v
Becomes (Paired v) other = ⊥
Becomes (Broken d) Free = ⊥
Becomes (Broken d) (Waits x) = ⊥
Becomes (Broken d) (Paired u) = ⊥
Becomes (Broken d) (Broken e) = e ≡ d

pub stays_so : (x : CellState) → Becomes x x
stays_so Free = tt
stays_so other = refl

-- what a free cell becomes
to_wait : (x : CellState) (w : Waiter) → Becomes x Free → Becomes x (Waits w)
to_wait Free w h = tt
to_wait other w h = absurd h

to_pair : (x : CellState) (w : Waiter) (v : ℕ) → Becomes x (Waits w) → Becomes x (Paired v)
to_pair (Paired u) w v h = absurd h
to_pair (Broken d) w v h = absurd h
to_pair other w v h = tt

to_broken : (x y : CellState) (d : Side) → waits_for d y ≡ true → Becomes x y → Becomes x (Broken d)
to_broken Free y d k h = tt
to_broken (Waits u) Free d k h = absurd h
to_broken (Waits u) (Waits w) d k h = sym (is_same (side_of w) d k) ∙ ap side_of h
to_broken (Waits u) (Paired v) d k h = cc
to_broken (Waits u) (Broken e) d k h = cc
to_broken (Paired u) (Paired v) d k h = cc
to_broken (Paired u) other d k h = absurd h
to_broken (Broken u) Free d k h = absurd h
to_broken (Broken u) (Waits w) d k h = absurd h
to_broken (Broken u) (Paired v) d k h = absurd h
to_broken (Broken u) (Broken e) d k h = cc

-- the cell i after one cell was put
at_put : (P : CellState → Type 0) (s : State) (i j : ℕ) (x : CellState) → P (s.cells i) → (P (s.cells j) → P x) → P (put j x s.cells i)
at_put P s i j x h k = dite (ℕ_discrete j i)
    (λ is. subst P (sym (ap (put j x s.cells) (sym is) ∙ put_here j x s.cells)) (k (subst (λ n. P (s.cells n)) (sym is) h)))
    (λ ne. subst P (sym (put_else j i x s.cells ne)) h)

pub becomes_step : (cells : ℕ) (s : State) (who : ℕ) (act : CellAct) (x : CellState) (i : ℕ) → Needs cells s who act → Becomes x (s.cells i)
    → Becomes x ((after s who act).cells i)
becomes_step cells s who (Place j w) x i k h = at_put (Becomes x) s i j (Waits w) h (λ q. to_wait x w (subst (Becomes x) k.1 q))
becomes_step cells s who (Pair e j v) x i k h = at_put (Becomes x) s i j (Paired v) h
    (λ q. to_pair x (partner e v) v (subst (Becomes x) k.1 q))
becomes_step cells s who (GiveUp e j) x i k h = at_put (Becomes x) s i j (Broken e) h (λ q. to_broken x (s.cells j) e k.1 q)
becomes_step cells s who other x i k h = h

pub still_come : (d : Side) (x y : CellState) → Becomes x y → has_come d x ≡ true → has_come d y ≡ true
still_come d Free y h k = cc
still_come d (Waits w) Free h k = absurd h
still_come d (Waits w) (Waits x) h k = ap (λ (z : Waiter). same_side (side_of z) d) h ∙ k
still_come d (Waits w) (Paired v) h k = refl
still_come d (Waits w) (Broken e) h k = ap (λ (z : Side). same_side z d) h ∙ k
still_come d (Paired v) (Paired u) h k = refl
still_come d (Paired v) other h k = absurd h
still_come d (Broken e) Free h k = absurd h
still_come d (Broken e) (Waits x) h k = absurd h
still_come d (Broken e) (Paired u) h k = absurd h
still_come d (Broken e) (Broken f) h k = ap (λ (z : Side). same_side z d) h ∙ k

-- ---- who comes to a cell has drawn it

comes : (d : Side) (s : State) (i who t : ℕ) (w : Waiter) → s.drawer (side_of w) i ≡ Some t → s.drawer d i ≡ Some who → (t ≡ who → ⊥)
    → same_side (side_of w) d ≡ false
comes d s i who t w p q ne = go (same_side (side_of w) d) refl
  where
    go : (b : Bool) → same_side (side_of w) d ≡ b → b ≡ false
    go true is = absurd (ne (same_drawer (ap (λ (x : Side). s.drawer x i) (sym (is_same (side_of w) d is)) ∙ p) q))
    go false is = refl

-- who has not come to the cell that it drew has not by what another does
pub not_come_step : (cells : ℕ) (s : State) (t : ℕ) (act : CellAct) (d : Side) (i who : ℕ) → Needs cells s t act → (t ≡ who → ⊥)
    → IsDrawer d who i s → has_come d (s.cells i) ≡ false → has_come d ((after s t act).cells i) ≡ false
not_come_step cells s t (Place j w) d i who k ne q h = dite (ℕ_discrete j i)
    (λ is. ap (has_come d) (ap (put j (Waits w) s.cells) (sym is) ∙ put_here j (Waits w) s.cells)
    ∙ comes d s i who t w (ap (s.drawer (side_of w)) (sym is) ∙ k.0) q ne)
    (λ apart. ap (has_come d) (put_else j i (Waits w) s.cells apart) ∙ h)
not_come_step cells s t (Pair e j v) d i who k ne q h = dite (ℕ_discrete j i)
    (λ is. absurd (pairs is))
    (λ apart. ap (has_come d) (put_else j i (Paired v) s.cells apart) ∙ h)
  where
    -- who meets another is of the one side, and who waits is of the other
    pairs : j ≡ i → ⊥
    pairs is = go e d (ap (s.drawer e) (sym is) ∙ k.0) q (sym (ap (λ (x : CellState). has_come d x) (ap s.cells (sym is) ∙ k.1)) ∙ h)
      where
        go : (e d : Side) → s.drawer e i ≡ Some t → s.drawer d i ≡ Some who → has_come d (Waits (partner e v)) ≡ false → ⊥
        go Send Send a b c = ne (same_drawer a b)
        go Send Receive a b c = cc
        go Receive Send a b c = cc
        go Receive Receive a b c = ne (same_drawer a b)
not_come_step cells s t (GiveUp e j) d i who k ne q h = dite (ℕ_discrete j i)
    (λ is. ap (has_come d) (ap (put j (Broken e) s.cells) (sym is) ∙ put_here j (Broken e) s.cells) ∙ apart is)
    (λ apart. ap (has_come d) (put_else j i (Broken e) s.cells apart) ∙ h)
  where
    apart : j ≡ i → same_side e d ≡ false
    apart is = go e d (ap (s.drawer e) (sym is) ∙ k.0) q
      where
        go : (e d : Side) → s.drawer e i ≡ Some t → s.drawer d i ≡ Some who → same_side e d ≡ false
        go Send Send a b = absurd (ne (same_drawer a b))
        go Send Receive a b = refl
        go Receive Send a b = refl
        go Receive Receive a b = absurd (ne (same_drawer a b))
not_come_step cells s t other d i who k ne q h = h

-- ---- others

-- what each of others' entries keeps holds after all of them
pub others_keep : (cells who : ℕ) (P : State → Type 0) → ((s : State) (t : ℕ) (act : CellAct) → Sound cells s → Needs cells s t act
    → (t ≡ who → ⊥) → P s → P (after s t act))
    → (s : State) (es : List CellEntry) → Sound cells s → LegalFrom cells s es → entries_of maker who es ≡ [] → P s → P (state_from s es)
unfolding state_from LegalFrom
others_keep cells who P step s [] sound k apart h = h
others_keep cells who P step s (e ∷ es) sound k apart h = let a = apart_first who e es apart in
    others_keep cells who P step (after s e.who e.act) es (sound_step cells s e.who e.act sound k.0) k.1 a.1
    (step s e.who e.act sound k.0 a.0 h)

-- what each entry keeps holds after all of them
pub all_keep : (cells : ℕ) (P : State → Type 0) → ((s : State) (t : ℕ) (act : CellAct) → Sound cells s → Needs cells s t act → P s
    → P (after s t act))
    → (s : State) (es : List CellEntry) → Sound cells s → LegalFrom cells s es → P s → P (state_from s es)
unfolding state_from LegalFrom
all_keep cells P step s [] sound k h = h
all_keep cells P step s (e ∷ es) sound k h = all_keep cells P step (after s e.who e.act) es (sound_step cells s e.who e.act sound k.0) k.1
    (step s e.who e.act sound k.0 h)

pub late_step : (s : State) (t who : ℕ) (act : CellAct) (d : Side) → (t ≡ who → ⊥) → s.late d who ≡ false
    → (after s t act).late d who ≡ false
late_step s t who (Miss e) d ne h = go e d h
  where
    go : (e d : Side) → s.late d who ≡ false → put_side e (put t true (s.late e)) s.late d who ≡ false
    go Send Send h = put_else t who true (s.late Send) ne ∙ h
    go Send Receive h = h
    go Receive Send h = h
    go Receive Receive h = put_else t who true (s.late Receive) ne ∙ h
late_step s t who other d ne h = h

-- ---- what a pass had done goes on to hold

pub come_step : (cells : ℕ) (s : State) (t : ℕ) (act : CellAct) (who i : ℕ) → Sound cells s → Needs cells s t act → HasCome who i s
    → HasCome who i (after s t act)
come_step cells s t act who i sound k h = record {
  side = h.side;
  drawer = drawer_step cells s t act h.side i who sound k h.drawer;
  came = still_come h.side (s.cells i) ((after s t act).cells i) (becomes_step cells s t act (s.cells i) i k (stays_so (s.cells i))) h.came;
}

-- the entry gives up in no cell
abbrev pub gives_up : CellAct → Bool
gives_up (GiveUp d i) = true
gives_up other = false

-- the cell that who drew is whole still, unless who gave up there
pub whole_step : (cells : ℕ) (s : State) (t : ℕ) (act : CellAct) (who i : ℕ) → Sound cells s → Needs cells s t act
    → ((d : Side) → act ≡ GiveUp d i → t ≡ who → ⊥) → MayGiveUp who i s → MayGiveUp who i (after s t act)
whole_step cells s t act who i sound k not h = record { come = come_step cells s t act who i sound k h.come; whole = go act k not }
  where
    go : (act : CellAct) → Needs cells s t act → ((d : Side) → act ≡ GiveUp d i → t ≡ who → ⊥) → is_whole ((after s t act).cells i) ≡ true
    go (Draw e j) k not = h.whole
    go (Miss e) k not = h.whole
    go (Place j w) k not = at_put (λ x. is_whole x ≡ true) s i j (Waits w) h.whole (λ q. refl)
    go (Pair e j v) k not = at_put (λ x. is_whole x ≡ true) s i j (Paired v) h.whole (λ q. refl)
    go (GiveUp e j) k not = dite (ℕ_discrete j i)
        (λ is. absurd (not e (ap (GiveUp e) is) (mine e is k.0 k.1)))
        (λ apart. ap is_whole (put_else j i (Broken e) s.cells apart) ∙ h.whole)
      where
        same_cell : (x : CellState) (d e : Side) → has_come d x ≡ true → waits_for e x ≡ true → d ≡ e
        same_cell Free d e a b = cc
        same_cell (Waits w) d e a b = sym (is_same (side_of w) d a) ∙ is_same (side_of w) e b
        same_cell (Paired v) d e a b = cc
        same_cell (Broken f) d e a b = cc

        mine : (e : Side) → j ≡ i → s.drawer e j ≡ Some t → waits_for e (s.cells j) ≡ true → t ≡ who
        mine e is a b = same_drawer (sym (ap (s.drawer e) is)
            ∙ a) (ap (λ (x : Side). s.drawer x i) (sym (same_cell (s.cells i) h.come.side e h.come.came
            (ap (waits_for e) (ap s.cells (sym is)) ∙ b))) ∙ h.come.drawer)
