-- Each cell has one story, and is drawn at most once for each side.
use Rattle.std.specs.Prelude.{◌≡◌, ℕ, ◌+◌, ◌==◌, ◌≤◌, Bool, true, false, List, [], ◌∷◌, ◌++◌, Option, Some, None, if◌then◌else◌, refl}
use Rattle.std.proofs.Common.{sym, ap, ◌∙◌, subst, arith, append_assoc, append-nil, ne_eqb, eq-eqb}
use mathlib.Core.Logic.{dite}
use native.Mathlib.Decide.{ℕ_discrete}
use Rattle.atomic_table.specs.Table.{State as Table}
use Rattle.worded.specs.Histories.{HasOneHistory}
use Rattle.worded.specs.declared.view.View.{View}
use Rattle.counted_cells.specs.declared.act.Side.{Side}
use Rattle.counted_cells.specs.declared.act.Side.TheVariants.{Send, Receive}
use Rattle.counted_cells.specs.declared.act.Waiter.{Waiter}
use Rattle.counted_cells.specs.declared.act.Waiter.TheVariants.{Receiver}
use Rattle.counted_cells.specs.declared.act.CellAct.{CellAct}
use Rattle.counted_cells.specs.declared.act.CellAct.TheVariants.{Draw, Miss, Place, Pair, GiveUp}
use Rattle.counted_cells.specs.declared.act.CellEntry.{CellEntry}
use Rattle.counted_cells.specs.declared.cell_state.CellState.{CellState}
use Rattle.counted_cells.specs.declared.cell_state.CellState.TheVariants.{Free, Waits, Paired, Broken}
use Rattle.counted_cells.specs.Cells.{State, start, put, put_side, other_side, side_of, partner, waits_for, after, state_from, state_of, Needs, LegalFrom, Legal, maker}
use Rattle.counted_cells.specs.Words.{word_count, Fits}
use Rattle.counted_cells.specs.Seen.{entry_of}
use Rattle.counted_cells.specs.Stories.{is_at, at_cell, draws_cell, draws_of, Story, HasStory, HoldsCells}
use Rattle.counted_cells.proofs.HistoriesGoOn.{put_here, put_else}
use Rattle.counted_cells.proofs.StatesStaySound.{Sound, sound_step, start_sound, one_if, is_same}
use Rattle.counted_cells.proofs.OthersLeave.{drawer_step, same_drawer}

-- ---- what a story says of the cell

-- a story is that of any state in which the cell has the same drawers
kept : (s t : State) (p : ℕ) (x : CellState) (xs : List CellEntry) → ((d : Side) (u : ℕ) → s.drawer d p ≡ Some u → t.drawer d p ≡ Some u)
    → Story s p x xs → Story t p x xs
kept s t p Free xs f Story.nobody = Story.nobody
kept s t p x xs f (Story.one u w h) = Story.one u w (f (side_of w) u h)
kept s t p x xs f (Story.two u z v d h k) = Story.two u z v d (f (other_side d) u h) (f d z k)
kept s t p x xs f (Story.left u w h) = Story.left u w (f (side_of w) u h)

free_story : (s : State) (p : ℕ) (x : CellState) (xs : List CellEntry) → x ≡ Free → Story s p x xs → xs ≡ []
free_story s p x xs e Story.nobody = refl
free_story s p x xs e other = cc

abbrev waiter_of : CellState → Waiter
waiter_of (Waits w) = w
waiter_of other = Receiver

record Waiting (s : State) (p : ℕ) (w : Waiter) (xs : List CellEntry) : Type 0 where
  pub who : ℕ
  pub drawer : s.drawer (side_of w) p ≡ Some who
  pub story : xs ≡ entry_of who (Place p w) ∷ []

waits_story : (s : State) (p : ℕ) (x : CellState) (xs : List CellEntry) (w : Waiter) → x ≡ Waits w → Story s p x xs → Waiting s p w xs
waits_story s p x xs w e (Story.one u z h) = subst (λ (y : Waiter). Waiting s p y (entry_of u (Place p z) ∷ [])) (ap waiter_of e)
    (record { who = u; drawer = h; story = refl })
waits_story s p x xs w e other = cc

partner_of : (d : Side) (v : ℕ) → side_of (partner d v) ≡ other_side d
partner_of Send v = refl
partner_of Receive v = refl

record Standing (x : CellState) (d : Side) : Type 0 where
  pub waiter : Waiter
  pub is : x ≡ Waits waiter
  pub side : side_of waiter ≡ d

is_standing : (x : CellState) (d : Side) → waits_for d x ≡ true → Standing x d
is_standing (Waits w) d h = record { waiter = w; is = refl; side = is_same (side_of w) d h }
is_standing other d h = cc

-- ---- one entry more

abbrev after_cell : State → ℕ → CellAct → ℕ → CellState
after_cell s who act p = (after s who act).cells p

-- an entry elsewhere
elsewhere : (s : State) (who : ℕ) (act : CellAct) (p : ℕ) (xs : List CellEntry) → is_at p act ≡ false → after_cell s who act p ≡ s.cells p
    → ((d : Side) (u : ℕ) → s.drawer d p ≡ Some u → (after s who act).drawer d p ≡ Some u)
    → Story s p (s.cells p) xs → Story (after s who act) p (after_cell s who act p) (xs ++ at_cell p (entry_of who act ∷ []))
elsewhere s who act p xs away same f h = subst (λ (y : CellState × List CellEntry). Story (after s who act) p y.0 y.1)
    (λ i. (sym same i, sym (ap (λ (b : Bool). xs ++ (if b then entry_of who act ∷ [] else [])) away ∙ append-nil xs) i))
    (kept s (after s who act) p (s.cells p) xs f h)

-- an entry at this cell
here : (s : State) (who : ℕ) (act : CellAct) (p : ℕ) (xs : List CellEntry) (x : CellState) (ys : List CellEntry) → is_at p act ≡ true
    → after_cell s who act p ≡ x → xs ++ entry_of who act ∷ [] ≡ ys
    → Story (after s who act) p x ys → Story (after s who act) p (after_cell s who act p) (xs ++ at_cell p (entry_of who act ∷ []))
here s who act p xs x ys at is same h = subst (λ (y : CellState × List CellEntry). Story (after s who act) p y.0 y.1)
    (λ i. (sym is i, sym (ap (λ (b : Bool). xs ++ (if b then entry_of who act ∷ [] else [])) at ∙ same) i)) h

story_step : (cells : ℕ) (s : State) (who : ℕ) (act : CellAct) (p : ℕ) (xs : List CellEntry) → Sound cells s → Needs cells s who act
    → Story s p (s.cells p) xs
    → Story (after s who act) p (after_cell s who act p) (xs ++ at_cell p (entry_of who act ∷ []))
story_step cells s who (Draw d i) p xs sound k h = elsewhere s who (Draw d i) p xs refl refl
    (λ e u q. drawer_step cells s who (Draw d i) e p u sound k q) h
story_step cells s who (Miss d) p xs sound k h = elsewhere s who (Miss d) p xs refl refl (λ e u q. q) h
story_step cells s who (Place i w) p xs sound k h = dite (ℕ_discrete i p)
    (λ is. here s who (Place i w) p xs (Waits w) (entry_of who (Place p w) ∷ []) (eq-eqb i p is) (ap (put i (Waits w) s.cells) (sym is)
    ∙ put_here i (Waits w) s.cells)
    (λ j. free_story s p (s.cells p) xs (ap s.cells (sym is) ∙ k.1) h j ++ entry_of who (Place (is j) w) ∷ [])
    (Story.one who w (ap (s.drawer (side_of w)) (sym is) ∙ k.0)))
    (λ ne. elsewhere s who (Place i w) p xs (ne_eqb i p ne) (put_else i p (Waits w) s.cells ne) (λ e u q. q) h)
story_step cells s who (Pair d i v) p xs sound k h = dite (ℕ_discrete i p)
    (λ is. let q = waits_story s p (s.cells p) xs (partner d v) (ap s.cells (sym is) ∙ k.1) h in
    here s who (Pair d i v) p xs (Paired v) (entry_of q.who (Place p (partner d v)) ∷ entry_of who (Pair d p v) ∷ []) (eq-eqb i p is)
    (ap (put i (Paired v) s.cells) (sym is) ∙ put_here i (Paired v) s.cells)
    (λ j. q.story j ++ entry_of who (Pair d (is j) v) ∷ [])
    (Story.two q.who who v d (ap (λ (e : Side). s.drawer e p) (sym (partner_of d v)) ∙ q.drawer) (ap (s.drawer d) (sym is) ∙ k.0)))
    (λ ne. elsewhere s who (Pair d i v) p xs (ne_eqb i p ne) (put_else i p (Paired v) s.cells ne) (λ e u q. q) h)
story_step cells s who (GiveUp d i) p xs sound k h = dite (ℕ_discrete i p)
    (λ is. let z = is_standing (s.cells p) d (ap (λ n. waits_for d (s.cells n)) (sym is) ∙ k.1) in
    let q = waits_story s p (s.cells p) xs z.waiter z.is h in
    let mine : s.drawer (side_of z.waiter) p ≡ Some who = ap (λ (e : Side). s.drawer e p) z.side ∙ ap (s.drawer d) (sym is) ∙ k.0 in
    let same : q.who ≡ who = same_drawer q.drawer mine in
    here s who (GiveUp d i) p xs (Broken (side_of z.waiter))
    (entry_of who (Place p z.waiter) ∷ entry_of who (GiveUp (side_of z.waiter) p) ∷ []) (eq-eqb i p is)
    (ap (put i (Broken d) s.cells) (sym is) ∙ put_here i (Broken d) s.cells ∙ ap Broken (sym z.side))
    (ap (λ (l : List CellEntry). l ++ entry_of who (GiveUp d i) ∷ []) q.story
    ∙ (λ j. entry_of (same j) (Place p z.waiter) ∷ entry_of who (GiveUp (sym z.side j) (is j)) ∷ []))
    (Story.left who z.waiter mine))
    (λ ne. elsewhere s who (GiveUp d i) p xs (ne_eqb i p ne) (put_else i p (Broken d) s.cells ne) (λ e u q. q) h)

-- ---- all entries

at_cell_first : (p : ℕ) (e : CellEntry) (es : List CellEntry) → at_cell p (e ∷ []) ++ at_cell p es ≡ at_cell p (e ∷ es)
at_cell_first p e es = by_test (is_at p e.act)
  where
    by_test : (b : Bool) → (if b then e ∷ [] else []) ++ at_cell p es ≡ (if b then e ∷ at_cell p es else at_cell p es)
    by_test true = refl
    by_test false = refl

story_from : (cells : ℕ) (s : State) (es : List CellEntry) (p : ℕ) (xs : List CellEntry) → Sound cells s → LegalFrom cells s es
    → Story s p (s.cells p) xs → Story (state_from s es) p ((state_from s es).cells p) (xs ++ at_cell p es)
unfolding state_from LegalFrom
story_from cells s [] p xs sound k h = subst (Story s p (s.cells p)) (sym (append-nil xs)) h
story_from cells s (e ∷ es) p xs sound k h =
    let t : State = after s e.who e.act in
    let r = story_from cells t es p (xs ++ at_cell p (e ∷ [])) (sound_step cells s e.who e.act sound k.0) k.1
    (story_step cells s e.who e.act p xs sound k.0 h) in
    subst (Story (state_from t es) p ((state_from t es).cells p)) (append_assoc xs (at_cell p (e ∷ [])) (at_cell p es)
    ∙ ap (λ l. xs ++ l) (at_cell_first p e es)) r

-- ---- draws

abbrev once : Option ℕ → ℕ
once None = 0
once (Some t) = 1

once_small : (x : Option ℕ) → once x ≤ 1
once_small None = omega arith
once_small (Some t) = omega arith

zero_plus : (x : ℕ) → 0 + x ≡ x
zero_plus x = omega arith

draw_step : (cells : ℕ) (s : State) (who : ℕ) (act : CellAct) (d : Side) (p : ℕ) → Sound cells s → Needs cells s who act
    → one_if (draws_cell d p act) + once (s.drawer d p) ≡ once ((after s who act).drawer d p)
draw_step cells s who (Draw e i) d p sound k = go e d k.0
  where
    one : (e : Side) → i ≡ s.drawn e → one_if (i == p) + once (s.drawer e p) ≡ once (put i (Some who) (s.drawer e) p)
    one e is = dite (ℕ_discrete i p)
        (λ at. let a : one_if (i == p) ≡ 1 = ap one_if (eq-eqb i p at) in
        let b : once (s.drawer e p) ≡ 0 = ap once (sound.undrawn e p (omega (arith, is, at))) in
        let c : once (put i (Some who) (s.drawer e) p) ≡ 1 =
        ap once (ap (put i (Some who) (s.drawer e)) (sym at) ∙ put_here i (Some who) (s.drawer e)) in omega (arith, a, b, c))
        (λ ne. let a : one_if (i == p) ≡ 0 = ap one_if (ne_eqb i p ne) in
        let c : once (put i (Some who) (s.drawer e) p) ≡ once (s.drawer e p) = ap once (put_else i p (Some who) (s.drawer e) ne)
        in omega (arith, a, c))

    go : (e d : Side) → i ≡ s.drawn e → one_if (draws_cell d p (Draw e i)) + once (s.drawer d p) ≡
        once (put_side e (put i (Some who) (s.drawer e)) s.drawer d p)
    go Send Send is = one Send is
    go Send Receive is = zero_plus (once (s.drawer Receive p))
    go Receive Send is = zero_plus (once (s.drawer Send p))
    go Receive Receive is = one Receive is
draw_step cells s who (Miss e) d p sound k = zero_plus (once (s.drawer d p))
draw_step cells s who other d p sound k = zero_plus (once (s.drawer d p))

draws_first : (d : Side) (p : ℕ) (e : CellEntry) (es : List CellEntry)
    → draws_of d p (e ∷ es) ≡ one_if (draws_cell d p e.act) + draws_of d p es
draws_first d p e es = by_test (draws_cell d p e.act)
  where
    by_test : (b : Bool) → (if b then 1 + draws_of d p es else draws_of d p es) ≡ one_if b + draws_of d p es
    by_test true = refl
    by_test false = sym (zero_plus (draws_of d p es))

add_up : (a b x y z m : ℕ) → m ≡ a + b → a + x ≡ y → b + y ≡ z → m + x ≡ z
add_up a b x y z m e f g = omega (arith, e, f, g)

draws_from : (cells : ℕ) (s : State) (es : List CellEntry) (d : Side) (p : ℕ) → Sound cells s → LegalFrom cells s es
    → draws_of d p es + once (s.drawer d p) ≡ once ((state_from s es).drawer d p)
unfolding state_from LegalFrom
draws_from cells s [] d p sound k = zero_plus (once (s.drawer d p))
draws_from cells s (e ∷ es) d p sound k =
    let t : State = after s e.who e.act in
    add_up (one_if (draws_cell d p e.act)) (draws_of d p es) (once (s.drawer d p)) (once (t.drawer d p))
    (once ((state_from t es).drawer d p)) (draws_of d p (e ∷ es)) (draws_first d p e es)
    (draw_step cells s e.who e.act d p sound k.0) (draws_from cells t es d p (sound_step cells s e.who e.act sound k.0) k.1)

at_most : (m k : ℕ) → m + 0 ≡ k → k ≤ 1 → m ≤ 1
at_most m k e le = omega (arith, e, le)

pub has_story : (cells : ℕ) (log : List CellEntry) (p : ℕ) → Legal cells log → HasStory log p
has_story cells log p k = record {
  drawn = λ d. at_most (draws_of d p log) (once ((state_of log).drawer d p)) (draws_from cells start log d p (start_sound cells) k)
      (once_small ((state_of log).drawer d p));
  story = story_from cells start log p [] (start_sound cells) k Story.nobody;
}

pub holds_cells : (cells : ℕ) (s : Table CellEntry (View CellEntry ℕ)) → HasOneHistory (Legal cells) Fits maker (word_count cells) s
    → HoldsCells cells s
holds_cells cells s r = record {
  log = r.log;
  legal = r.is_legal;
  words = λ i lt. r.words_fit i lt;
  prefixes = λ id v at. (r.views_fit id v at).begins;
  own = λ id t v at h. ((r.views_fit id v at).owned t h).1;
}
