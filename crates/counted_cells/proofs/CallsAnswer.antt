-- The answers of whole calls.
use Rattle.std.specs.Prelude.{◌≡◌, ◌≢◌, ℕ, Bool, true, false, List, [], ◌∷◌, Some, if◌then◌else◌, refl}
use Rattle.std.proofs.Common.{sym, ap, ◌∙◌, subst, ne_eqb}
use Rattle.worded.specs.Views.{has_tag}
use Rattle.counted_cells.specs.declared.act.Side.{Side}
use Rattle.counted_cells.specs.declared.act.Side.TheVariants.{Send, Receive}
use Rattle.counted_cells.specs.declared.act.Waiter.{Waiter}
use Rattle.counted_cells.specs.declared.act.Waiter.TheVariants.{Sender, Receiver}
use Rattle.counted_cells.specs.declared.act.CellAct.TheVariants.{Draw, Place, Pair, GiveUp}
use Rattle.counted_cells.specs.declared.act.CellEntry.{CellEntry}
use Rattle.counted_cells.specs.declared.cell_state.CellState.{CellState}
use Rattle.counted_cells.specs.declared.cell_state.CellState.TheVariants.{Free, Waits, Paired, Broken}
use Rattle.counted_cells.specs.declared.answers.CountedSend.{CountedSend}
use Rattle.counted_cells.specs.declared.answers.CountedSend.TheVariants as sent
use Rattle.counted_cells.specs.declared.answers.CountedGot.{CountedGot}
use Rattle.counted_cells.specs.declared.answers.CountedGot.TheVariants as got
use Rattle.counted_cells.specs.declared.answers.GaveUp.{GaveUp}
use Rattle.counted_cells.specs.declared.answers.GaveUp.TheVariants as gave
use Rattle.counted_cells.specs.declared.answers.CountedState.TheVariants as state
use Rattle.counted_cells.specs.declared.steps.Stood.{Stood}
use Rattle.counted_cells.specs.declared.steps.Stood.TheVariants as stood
use Rattle.counted_cells.specs.Cells.{State, side_of, has_come, Legal}
use Rattle.counted_cells.specs.Seen.{Seen, now_in, cell_in, entry_of, Sees, Makes, Adds}
use Rattle.counted_cells.specs.Answers.{IsDrawer, HasCome, is_whole, MayGiveUp, DrawAnswer, StoodAnswer, SendAnswer, ReceiveAnswer, GiveUpAnswer, LookAnswer, Stays}
use Rattle.counted_cells.proofs.StatesStaySound.{is_same, same_self}
use Rattle.counted_cells.proofs.OthersLeave.{Becomes, stays_so, whole_step}
use Rattle.counted_cells.proofs.CallsTell.{keeps_on, adds_sees, adds_makes, adds_then, left_cell, drawer_adds, kept_sees, became, waits_now, waits_after, come_after, stays_after}

-- ---- to send and to receive

-- the entries of who came to a cell
abbrev made_by : ℕ → ℕ → Waiter → Stood → List CellEntry
made_by who i x stood.Waits = entry_of who (Place i x) ∷ []
made_by who i x (stood.Paired n) = entry_of who (Pair (side_of x) i n) ∷ []
made_by who i x stood.Broken = []

made : (who i : ℕ) (x : Waiter) (m w : Seen) (a : Stood) → StoodAnswer who i x m w a → Adds who (made_by who i x a) m w
made who i x m w stood.Waits h = h.0
made who i x m w (stood.Paired n) h = h.0
made who i x m w stood.Broken h = h.0

called : (cells who i : ℕ) (d : Side) (x : Waiter) (v m w : Seen) (a : Stood) → DrawAnswer cells d who v m (Some i)
    → StoodAnswer who i x m w a → Adds who (entry_of who (Draw d i) ∷ made_by who i x a) v w
called cells who i d x v m w a h k = adds_then who (entry_of who (Draw d i) ∷ []) (made_by who i x a) v m w h.0 (made who i x m w a k)

pub call_stays : (cells key who i : ℕ) (d : Side) (x : Waiter) (v m w : Seen) (a : Stood) → Legal key w.seen
    → DrawAnswer cells d who v m (Some i) → StoodAnswer who i x m w a → Stays who v w
call_stays cells key who i d x v m w a legal h k = stays_after key who (entry_of who (Draw d i) ∷ made_by who i x a) v w legal
    (called cells who i d x v m w a h k) (λ j. on a j)
  where
    on : (a : Stood) (j : ℕ) → keeps_on j (entry_of who (Draw d i) ∷ made_by who i x a) ≡ true
    on stood.Waits j = refl
    on (stood.Paired n) j = refl
    on stood.Broken j = refl

-- what a send answers where it came to the cell i
abbrev pub sent_at : ℕ → Stood → CountedSend
sent_at i stood.Waits = sent.Waits i
sent_at i (stood.Paired n) = sent.Paired i
sent_at i stood.Broken = sent.Broken i

pub send_told : (cells key who u i : ℕ) (v m w : Seen) (a : Stood) → Legal key w.seen → DrawAnswer cells Send who v m (Some i)
    → StoodAnswer who i (Sender u) m w a → SendAnswer cells who u v w (sent_at i a)
send_told cells key who u i v m w stood.Waits legal h k = (
  called cells who i Send (Sender u) v m w stood.Waits h k,
  k.1,
  h.1,
  waits_now key who i Send (Sender u) (entry_of who (Place i (Sender u)) ∷ []) m w refl legal h.2 k.0 k.1,
)
send_told cells key who u i v m w (stood.Paired n) legal h k = (
  subst (λ b. Adds who (entry_of who (Draw Send i) ∷ entry_of who (Pair Send i b) ∷ []) v w) k.2
      (called cells who i Send (Sender u) v m w (stood.Paired n) h k),
  k.1 ∙ ap Paired k.2,
  h.1,
)
send_told cells key who u i v m w stood.Broken legal h k = (called cells who i Send (Sender u) v m w stood.Broken h k, k.1, h.1)

abbrev pub got_at : ℕ → Stood → CountedGot
got_at i stood.Waits = got.Waits i
got_at i (stood.Paired n) = got.Value i n
got_at i stood.Broken = got.Broken i

pub receive_told : (cells key who i : ℕ) (v m w : Seen) (a : Stood) → Legal key w.seen → DrawAnswer cells Receive who v m (Some i)
    → StoodAnswer who i Receiver m w a → ReceiveAnswer cells who v w (got_at i a)
receive_told cells key who i v m w stood.Waits legal h k = (
  called cells who i Receive Receiver v m w stood.Waits h k,
  k.1,
  h.1,
  waits_now key who i Receive Receiver (entry_of who (Place i Receiver) ∷ []) m w refl legal h.2 k.0 k.1,
)
receive_told cells key who i v m w (stood.Paired n) legal h k = (called cells who i Receive Receiver v m w (stood.Paired n) h k, k.1, h.1)
receive_told cells key who i v m w stood.Broken legal h k = (called cells who i Receive Receiver v m w stood.Broken h k, k.1, h.1)

-- ---- to give up

-- who gave up
pub left_now : (cells who i : ℕ) (d : Side) (v w : Seen) → has_tag who v.tags ≡ true → Legal cells w.seen
    → Makes v (entry_of who (GiveUp d i)) w → IsDrawer d who i (now_in v) → GiveUpAnswer who i v w gave.Done
left_now cells who i d v w own legal m drawer = let a = adds_makes who (GiveUp d i) v w own m
    in (d, a, left_cell who i d v w m, drawer_adds cells who i d (entry_of who (GiveUp d i) ∷ []) v w legal a drawer)

-- the cell of who has come to it, which it has not given up
pub may_still : (cells who i : ℕ) (v w : Seen) → has_tag who v.tags ≡ true → Legal cells w.seen → Sees v w → MayGiveUp who i (now_in v)
    → MayGiveUp who i (now_in w)
may_still cells who i v w own legal s h = kept_sees cells who v w (MayGiveUp who i)
    (λ t u act sound k ne q. whole_step cells t u act who i sound k (λ d at same. ne same) q) own legal s h

whole_paired : (d : Side) (x : Waiter) (y : CellState) → Becomes (Waits x) y → is_whole y ≡ true → y ≢ Waits x → (u : ℕ) × (y ≡ Paired u)
whole_paired d x Free h k ne = absurd h
whole_paired d x (Waits z) h k ne = absurd (ne (ap Waits h))
whole_paired d x (Paired u) h k ne = (u, refl)
whole_paired d x (Broken e) h k ne = cc

-- it came too late
pub left_late : (cells who i : ℕ) (x : Waiter) (y : CellState) (v w : Seen) → has_tag who v.tags ≡ true → Legal cells w.seen → Sees v w
    → IsDrawer (side_of x) who i (now_in v) → cell_in v i ≡ Waits x → cell_in w i ≡ y → y ≢ Waits x → GiveUpAnswer who i v w gave.Late
left_late cells who i x y v w own legal s drawer waits is ne =
    let may = may_still cells who i v w own legal s (record {
      come = record { side = side_of x; drawer = drawer; came = ap (has_come (side_of x)) waits ∙ same_self (side_of x) };
      whole =
          ap is_whole waits;
    }) in
    let p = whole_paired (side_of x) x y (subst (Becomes (Waits x)) is
    (became cells who i (Waits x) v w own legal s (subst (Becomes (Waits x)) (sym waits) (stays_so (Waits x))))) (sym (ap is_whole is)
    ∙ may.whole) ne in
    (p.0, adds_sees who v w own s, is ∙ p.1)

pub gave_after : (who i : ℕ) (v u w : Seen) (a : GaveUp) → has_tag who v.tags ≡ true → Sees v u → GiveUpAnswer who i u w a
    → GiveUpAnswer who i v w a
gave_after who i v u w gave.Done own s h = (
  h.0,
  adds_then who [] (entry_of who (GiveUp h.0 i) ∷ []) v u w (adds_sees who v u own s) h.1,
  h.2,
  h.3,
)
gave_after who i v u w gave.Late own s h = (h.0, adds_then who [] [] v u w (adds_sees who v u own s) h.1, h.2)

pub gave_come : (cells who i : ℕ) (v w : Seen) (a : GaveUp) → Legal cells w.seen → GiveUpAnswer who i v w a → (j : ℕ)
    → HasCome who j (now_in v) → HasCome who j (now_in w)
gave_come cells who i v w gave.Done legal h j = come_after cells who j (entry_of who (GiveUp h.0 i) ∷ []) v w legal h.1
gave_come cells who i v w gave.Late legal h j = come_after cells who j [] v w legal h.1

pub gave_others : (cells who i : ℕ) (v w : Seen) (a : GaveUp) → Legal cells w.seen → GiveUpAnswer who i v w a → (j : ℕ) → j ≢ i
    → MayGiveUp who j (now_in v) → MayGiveUp who j (now_in w)
gave_others cells who i v w gave.Done legal h j ne = waits_after cells who j (entry_of who (GiveUp h.0 i) ∷ []) v w legal h.1
    (ap (λ (b : Bool). if b then false else true) (ne_eqb i j (λ same. ne (sym same))))
gave_others cells who i v w gave.Late legal h j ne = waits_after cells who j [] v w legal h.1 refl

-- who may give up waits for its own side
pub own_side : (who i : ℕ) (x : Waiter) (s : State) → MayGiveUp who i s → s.cells i ≡ Waits x → IsDrawer (side_of x) who i s
own_side who i x s h is = ap (λ (d : Side). s.drawer d i)
    (is_same (side_of x) h.come.side (sym (ap (has_come h.come.side) is) ∙ h.come.came)) ∙ h.come.drawer

pub not_free : (who i : ℕ) (s : State) → HasCome who i s → s.cells i ≡ Free → ⊥
not_free who i s h is = let z : true ≡ false = sym h.came ∙ ap (has_come h.side) is in cc

pub not_broken : (who i : ℕ) (d : Side) (s : State) → MayGiveUp who i s → s.cells i ≡ Broken d → ⊥
not_broken who i d s h is = let z : true ≡ false = sym h.whole ∙ ap is_whole is in cc

-- ---- to look

pub come_still : (cells who i : ℕ) (v w : Seen) → has_tag who v.tags ≡ true → Legal cells w.seen → Sees v w → HasCome who i (now_in v)
    → HasCome who i (now_in w)
come_still cells who i v w own legal s h = come_after cells who i [] v w legal (adds_sees who v w own s) h

pub look_broken : (who i : ℕ) (d : Side) (v w : Seen) → has_tag who v.tags ≡ true → Sees v w → HasCome who i (now_in w)
    → cell_in w i ≡ Broken d → LookAnswer who i v w state.Broken
look_broken who i d v w own s h is = (
  d,
  adds_sees who v w own s,
  is,
  ap (λ (e : Side). (now_in w).drawer e i) (is_same d h.side (sym (ap (has_come h.side) is) ∙ h.came)) ∙ h.drawer,
)

pub look_stays : (cells who : ℕ) (v w : Seen) → has_tag who v.tags ≡ true → Legal cells w.seen → Sees v w → Stays who v w
look_stays cells who v w own legal s = stays_after cells who [] v w legal (adds_sees who v w own s) (λ i. refl)

pub never_free : (who i : ℕ) (s : State) → MayGiveUp who i s → s.cells i ≡ Free → ⊥
never_free who i s h is = not_free who i s h.come is

pub gave_by : (who t i : ℕ) (v w : Seen) (a : GaveUp) → t ≡ who → GiveUpAnswer t i v w a → GiveUpAnswer who i v w a
gave_by who t i v w a is h = subst (λ n. GiveUpAnswer n i v w a) is h

pub look_late : (who i u : ℕ) (v w : Seen) → has_tag who v.tags ≡ true → Sees v w → cell_in w i ≡ Paired u
    → GiveUpAnswer who i v w gave.Late
look_late who i u v w own s is = (u, adds_sees who v w own s, is)
