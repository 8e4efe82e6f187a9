-- What holds after each legal history: how far the counters go, and who has come to a cell.
use Rattle.std.specs.Prelude.{◌≡◌, ℕ, zero, suc, ◌+◌, ◌==◌, ◌<◌, ◌≤◌, Bool, true, false, List, [], ◌∷◌, Option, Some, None, if◌then◌else◌, refl}
use Rattle.std.proofs.Common.{sym, ap, ◌∙◌, arith}
use mathlib.Core.Logic.{dite}
use native.Mathlib.Decide.{ℕ_discrete}
use Rattle.counted_cells.specs.declared.act.Side.{Side}
use Rattle.counted_cells.specs.declared.act.Side.TheVariants.{Send, Receive}
use Rattle.counted_cells.specs.declared.act.CellAct.{CellAct}
use Rattle.counted_cells.specs.declared.act.CellAct.TheVariants.{Draw, Miss, Place, Pair, GiveUp}
use Rattle.counted_cells.specs.declared.act.CellEntry.{CellEntry}
use Rattle.counted_cells.specs.declared.cell_state.CellState.{CellState}
use Rattle.counted_cells.specs.declared.cell_state.CellState.TheVariants.{Waits, Paired, Broken}
use Rattle.counted_cells.specs.Cells.{State, start, put, put_side, same_side, side_of, partner, has_come, after, state_from, state_of, Needs, LegalFrom, Legal}
use Rattle.counted_cells.proofs.HistoriesGoOn.{put_here, put_else}

-- ---- how many names a test holds of

abbrev pub one_if : Bool → ℕ
one_if true = 1
one_if false = 0

-- how many of the names below n
pub count : (ℕ → Bool) → ℕ → ℕ
count f zero = 0
count f (suc n) = one_if (f n) + count f n

pub count_small : (f : ℕ → Bool) (n : ℕ) → count f n ≤ n
unfolding count
count_small f zero = omega arith
count_small f (suc n) = go (f n) (count_small f n)
  where
    go : (b : Bool) → count f n ≤ n → one_if b + count f n ≤ suc n
    go true h = omega (arith, h)
    go false h = omega (arith, h)

count_same : (f : ℕ → Bool) (t n : ℕ) → n ≤ t → count (put t true f) n ≡ count f n
unfolding count
count_same f t zero le = refl
count_same f t (suc n) le = let e : one_if (put t true f n) ≡ one_if (f n) =
    ap one_if (put_else t n true f (λ is. absurd (omega (arith, le, is)))) in
    let h : count (put t true f) n ≡ count f n = count_same f t n (omega (arith, le)) in omega (arith, e, h)

-- one name more
pub count_put : (f : ℕ → Bool) (t n : ℕ) → f t ≡ false → t < n → count (put t true f) n ≡ suc (count f n)
unfolding count
count_put f t zero none lt = absurd (omega (arith, lt))
count_put f t (suc n) none lt = dite (ℕ_discrete t n)
    (λ is. let e : one_if (put t true f n) ≡ 1 = ap one_if (ap (put t true f) (sym is) ∙ put_here t true f) in
    let z : one_if (f n) ≡ 0 = ap one_if (ap f (sym is) ∙ none) in
    let h : count (put t true f) n ≡ count f n = count_same f t n (omega (arith, is)) in omega (arith, e, z, h))
    (λ ne. let e : one_if (put t true f n) ≡ one_if (f n) = ap one_if (put_else t n true f ne) in
    let h : count (put t true f) n ≡ suc (count f n) = count_put f t n none (omega (arith, lt, ne)) in omega (arith, e, h))

-- how many tags there are of which a test holds
pub late_count : (ℕ → Bool) → ℕ
late_count f = count f 65536

pub late_small : (f : ℕ → Bool) → late_count f ≤ 65536
unfolding late_count
late_small f = count_small f 65536

late_put : (f : ℕ → Bool) (t : ℕ) → f t ≡ false → t < 65536 → late_count (put t true f) ≡ suc (late_count f)
unfolding late_count
late_put f t none few = count_put f t 65536 none few

drawn_within : (n i cells k : ℕ) → i ≡ n → i < cells → suc n ≤ cells + k
drawn_within n i cells k is lt = omega (arith, is, lt)

missed_within : (n cells k m : ℕ) → n ≤ cells + k → m ≡ suc k → suc n ≤ cells + m
missed_within n cells k m le is = omega (arith, le, is)

-- ---- sides

pub same_self : (d : Side) → same_side d d ≡ true
same_self Send = refl
same_self Receive = refl

pub is_same : (d e : Side) → same_side d e ≡ true → d ≡ e
is_same Send Send h = refl
is_same Send Receive h = cc
is_same Receive Send h = cc
is_same Receive Receive h = refl

pub put_side_here : {A : Type 0} (d : Side) (x : A) (f : Side → A) → put_side d x f d ≡ x
put_side_here Send x f = refl
put_side_here Receive x f = refl

-- ---- what holds

pub record Sound (cells : ℕ) (s : State) : Type 0 where
  pub early : (d : Side) → s.drawn d < cells → (t : ℕ) → s.late d t ≡ false
  pub bound : (d : Side) → s.drawn d ≤ cells + late_count (s.late d)
  pub undrawn : (d : Side) (i : ℕ) → s.drawn d ≤ i → s.drawer d i ≡ None
  pub come : (d : Side) (i : ℕ) → s.drawer d i ≡ None → has_come d (s.cells i) ≡ false

some_not : {A : Type 0} {t : A} → (Some t) ≡ None → ⊥
some_not h = cc

less_drawn : (i j who : ℕ) (f : ℕ → Option ℕ) → put i (Some who) f j ≡ None → f j ≡ None
less_drawn i j who f h = by_test (i == j) h
  where
    by_test : (b : Bool) → (if b then Some who else f j) ≡ None → f j ≡ None
    by_test true k = absurd (some_not k)
    by_test false k = k

-- how it holds after one side's counter has gone up
sound_draw : (cells : ℕ) (s : State) (who i : ℕ) (d : Side) → Sound cells s → i ≡ s.drawn d → i < cells
    → Sound cells (after s who (Draw d i))
sound_draw cells s who i d h is lt = record {
  early = λ e less t. h.early e (before d e less) t;
  bound = λ e. within d e is;
  undrawn = λ e j le. none d e j is le;
  come = λ e j k. h.come e j (fewer d e j k);
}
  where
    before : (d e : Side) → put_side d (suc (s.drawn d)) s.drawn e < cells → s.drawn e < cells
    before Send Send less = omega (arith, less)
    before Send Receive less = less
    before Receive Send less = less
    before Receive Receive less = omega (arith, less)

    within : (d e : Side) → i ≡ s.drawn d → put_side d (suc (s.drawn d)) s.drawn e ≤ cells + late_count (s.late e)
    within Send Send k = drawn_within (s.drawn Send) i cells (late_count (s.late Send)) k lt
    within Send Receive k = h.bound Receive
    within Receive Send k = h.bound Send
    within Receive Receive k = drawn_within (s.drawn Receive) i cells (late_count (s.late Receive)) k lt

    none : (d e : Side) (j : ℕ) → i ≡ s.drawn d → put_side d (suc (s.drawn d)) s.drawn e ≤ j
        → put_side d (put i (Some who) (s.drawer d)) s.drawer e j ≡ None
    none Send Send j k le = put_else i j (Some who) (s.drawer Send) (λ same. absurd (omega (arith, k, le, same)))
        ∙ h.undrawn Send j (omega (arith, le))
    none Send Receive j k le = h.undrawn Receive j le
    none Receive Send j k le = h.undrawn Send j le
    none Receive Receive j k le = put_else i j (Some who) (s.drawer Receive) (λ same. absurd (omega (arith, k, le, same)))
        ∙ h.undrawn Receive j (omega (arith, le))

    fewer : (d e : Side) (j : ℕ) → put_side d (put i (Some who) (s.drawer d)) s.drawer e j ≡ None → s.drawer e j ≡ None
    fewer Send Send j k = less_drawn i j who (s.drawer Send) k
    fewer Send Receive j k = k
    fewer Receive Send j k = k
    fewer Receive Receive j k = less_drawn i j who (s.drawer Receive) k

sound_miss : (cells : ℕ) (s : State) (who : ℕ) (d : Side) → Sound cells s → cells ≤ s.drawn d → s.late d who ≡ false → who < 65536
    → Sound cells (after s who (Miss d))
sound_miss cells s who d h le not few = record {
  early = λ e less t. early d e le less t;
  bound = λ e. within d e not;
  undrawn = λ e j k. h.undrawn e j (before d e j k);
  come = h.come;
}
  where
    early : (d e : Side) → cells ≤ s.drawn d → put_side d (suc (s.drawn d)) s.drawn e < cells → (t : ℕ)
        → put_side d (put who true (s.late d)) s.late e t ≡ false
    early Send Send le less t = absurd (omega (arith, le, less))
    early Send Receive le less t = h.early Receive less t
    early Receive Send le less t = h.early Send less t
    early Receive Receive le less t = absurd (omega (arith, le, less))

    within : (d e : Side) → s.late d who ≡ false → put_side d (suc (s.drawn d)) s.drawn e ≤ cells + late_count
        (put_side d (put who true (s.late d)) s.late e)
    within Send Send k = missed_within (s.drawn Send) cells (late_count (s.late Send)) (late_count (put who true (s.late Send)))
        (h.bound Send) (late_put (s.late Send) who k few)
    within Send Receive k = h.bound Receive
    within Receive Send k = h.bound Send
    within Receive Receive k = missed_within (s.drawn Receive) cells (late_count (s.late Receive))
        (late_count (put who true (s.late Receive))) (h.bound Receive) (late_put (s.late Receive) who k few)

    before : (d e : Side) (j : ℕ) → put_side d (suc (s.drawn d)) s.drawn e ≤ j → s.drawn e ≤ j
    before Send Send j k = omega (arith, k)
    before Send Receive j k = k
    before Receive Send j k = k
    before Receive Receive j k = omega (arith, k)

-- how it holds after one cell has changed, where those that have come to it had drawn it
sound_cell : (cells : ℕ) (s : State) (i : ℕ) (x : CellState) → Sound cells s → ((e : Side) → s.drawer e i ≡ None → has_come e x ≡ false)
    → Sound cells (record s { cells = put i x s.cells })
sound_cell cells s i x h new = record {
  early = h.early;
  bound = h.bound;
  undrawn = h.undrawn;
  come = λ e j k. dite (ℕ_discrete i j)
      (λ is. ap (has_come e) (ap (put i x s.cells) (sym is) ∙ put_here i x s.cells) ∙ new e (ap (s.drawer e) is ∙ k))
      (λ ne. ap (has_come e) (put_else i j x s.cells ne) ∙ h.come e j k);
}

-- who drew the cell for this side has drawn it
drew : (s : State) (i who : ℕ) (d e : Side) → s.drawer d i ≡ Some who → s.drawer e i ≡ None → same_side d e ≡ false
drew s i who d e some none = go (same_side d e) refl
  where
    go : (b : Bool) → same_side d e ≡ b → b ≡ false
    go true is = absurd (some_not (sym some ∙ ap (λ (x : Side). s.drawer x i) (is_same d e is) ∙ none))
    go false is = refl

apart_sides : (d e : Side) → same_side d e ≡ false → same_side (side_of (partner d 0)) e ≡ true
apart_sides Send Send h = cc
apart_sides Send Receive h = refl
apart_sides Receive Send h = refl
apart_sides Receive Receive h = cc

partner_same : (d : Side) (v : ℕ) → side_of (partner d v) ≡ side_of (partner d 0)
partner_same Send v = refl
partner_same Receive v = refl

pub sound_step : (cells : ℕ) (s : State) (who : ℕ) (act : CellAct) → Sound cells s → Needs cells s who act → Sound cells (after s who act)
sound_step cells s who (Draw d i) h k = sound_draw cells s who i d h k.0 k.1
sound_step cells s who (Miss d) h k = sound_miss cells s who d h k.0 k.1 k.2
sound_step cells s who (Place i w) h k = sound_cell cells s i (Waits w) h (λ e none. drew s i who (side_of w) e k.0 none)
sound_step cells s who (Pair d i v) h k = sound_cell cells s i (Paired v) h (λ e none.
    let other : same_side (side_of (partner d v)) e ≡ true = ap (λ (x : Side). same_side x e) (partner_same d v)
    ∙ apart_sides d e (drew s i who d e k.0 none) in
    let came : has_come e (s.cells i) ≡ true = ap (has_come e) k.1 ∙ other in
    absurd (let z : true ≡ false = sym came ∙ h.come e i none in cc))
sound_step cells s who (GiveUp d i) h k = sound_cell cells s i (Broken d) h (λ e none. drew s i who d e k.0 none)

pub sound_from : (cells : ℕ) (s : State) (es : List CellEntry) → Sound cells s → LegalFrom cells s es → Sound cells (state_from s es)
unfolding state_from LegalFrom
sound_from cells s [] h k = h
sound_from cells s (e ∷ es) h k = sound_from cells (after s e.who e.act) es (sound_step cells s e.who e.act h k.0) k.1

none_drawn : (n : ℕ) → 0 ≤ n
none_drawn n = omega arith

pub start_sound : (cells : ℕ) → Sound cells start
start_sound cells = record {
  early = λ d less t. refl;
  bound = λ d. none_drawn (cells + late_count (λ t. false));
  undrawn = λ d i le. refl;
  come = λ d i none. refl;
}

pub sound_of : (cells : ℕ) (log : List CellEntry) → Legal cells log → Sound cells (state_of log)
sound_of cells log k = sound_from cells start log (start_sound cells) k
