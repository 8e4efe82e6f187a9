-- What steps come to, as calls tell it.
use Rattle.std.specs.Prelude.{◌≡◌, ◌≢◌, ℕ, ◌<◌, ◌≤◌, ◌==◌, Bool, true, false, List, [], ◌∷◌, ◌++◌, Some, None, nat_lt, if◌then◌else◌, refl}
use Rattle.std.proofs.Common.{inl, inr, ⊎_elim, sym, ap, ◌∙◌, subst, arith, append_assoc, append-nil, eq-eqb}
use Rattle.std.proofs.lemmas.Bool.{lt-ltb, le-ltb}
use Rattle.worded.specs.Views.{has_tag}
use Rattle.worded.specs.Histories.{entries_of}
use Rattle.worded.proofs.TagsAndPrefixes.{entries_of-append, entries_of_else}
use Rattle.counted_cells.specs.declared.act.Side.{Side}
use Rattle.counted_cells.specs.declared.act.Side.TheVariants.{Send, Receive}
use Rattle.counted_cells.specs.declared.act.Waiter.{Waiter}
use Rattle.counted_cells.specs.declared.act.CellAct.{CellAct}
use Rattle.counted_cells.specs.declared.act.CellAct.TheVariants.{Draw, Miss, Place, Pair, GiveUp}
use Rattle.counted_cells.specs.declared.act.CellEntry.{CellEntry}
use Rattle.counted_cells.specs.declared.cell_state.CellState.{CellState}
use Rattle.counted_cells.specs.declared.cell_state.CellState.TheVariants.{Free, Waits, Paired, Broken}
use Rattle.counted_cells.specs.declared.steps.Stood.{Stood}
use Rattle.counted_cells.specs.declared.steps.Stood.TheVariants as stood
use Rattle.counted_cells.specs.Cells.{State, same_side, other_side, side_of, has_come, after, state_from, state_of, Needs, LegalFrom, Legal, maker}
use Rattle.counted_cells.specs.Seen.{Seen, now_in, cell_in, entry_of, Sees, Makes, Adds}
use Rattle.counted_cells.specs.Answers.{IsDrawer, IsMine, HasCome, is_whole, MayGiveUp, IsSpent, DrawnAnswer, DrawAnswer, PairAnswer, StoodAnswer, MeetsWith, Stays}
use Rattle.counted_cells.proofs.HistoriesGoOn.{put_here, state_push, state_more, Legal-rest}
use Rattle.counted_cells.proofs.StatesStaySound.{Sound, sound_step, sound_of, same_self}
use Rattle.counted_cells.proofs.OthersLeave.{Becomes, becomes_step, drawer_step, not_come_step, come_step, whole_step, others_keep, all_keep, stays_so}

-- ---- entries added

pub adds_sees : (who : ℕ) (v w : Seen) → has_tag who v.tags ≡ true → Sees v w → Adds who [] v w
adds_sees who v w own s = record {
  rest = s.others;
  now = s.now;
  mine = s.apart who own;
  apart = λ t h ne. s.apart t h;
  tags = s.tags;
  giving = s.giving;
}

pub adds_makes : (who : ℕ) (act : CellAct) (v w : Seen) → has_tag who v.tags ≡ true → Makes v (entry_of who act) w
    → Adds who (entry_of who act ∷ []) v w
adds_makes who act v w own m = record {
  rest = m.others ++ entry_of who act ∷ [];
  now = m.now ∙ append_assoc v.seen m.others (entry_of who act ∷ []);
  mine = entries_of-append maker who m.others (entry_of who act ∷ [])
      ∙ ap (λ l. l ++ entries_of maker who (entry_of who act ∷ [])) (m.apart who own)
      ∙ ap (λ (b : Bool). if b then entry_of who act ∷ [] else []) (eq-eqb who who refl);
  apart = λ t h ne. entries_of_else maker t m.others (entry_of who act) (λ same. ne (sym same)) ∙ m.apart t h;
  tags = m.tags;
  giving = m.giving;
}

pub adds_then : (who : ℕ) (a b : List CellEntry) (v u w : Seen) → Adds who a v u → Adds who b u w → Adds who (a ++ b) v w
adds_then who a b v u w x y = record {
  rest = x.rest ++ y.rest;
  now = y.now ∙ ap (λ l. l ++ y.rest) x.now ∙ append_assoc v.seen x.rest y.rest;
  mine = entries_of-append maker who x.rest y.rest ∙ (λ i. x.mine i ++ y.mine i);
  apart = λ t h ne. entries_of-append maker t x.rest y.rest ∙ (λ i. x.apart t h ne i ++ y.apart t (ap (has_tag t) x.tags ∙ h) ne i);
  tags = y.tags ∙ x.tags;
  giving = y.giving ∙ x.giving;
}

-- ---- what an entry leaves

pub made_state : (v w : Seen) (e : CellEntry) (m : Makes v e w) → now_in w ≡ after (state_of (v.seen ++ m.others)) e.who e.act
made_state v w e m = ap state_of m.now ∙ state_push (v.seen ++ m.others) e

pub placed_cell : (who i : ℕ) (x : Waiter) (v w : Seen) → Makes v (entry_of who (Place i x)) w → cell_in w i ≡ Waits x
placed_cell who i x v w m = ap (λ (s : State). s.cells i) (made_state v w (entry_of who (Place i x)) m)
    ∙ put_here i (Waits x) (state_of (v.seen ++ m.others)).cells

pub paired_cell : (who i u : ℕ) (d : Side) (v w : Seen) → Makes v (entry_of who (Pair d i u)) w → cell_in w i ≡ Paired u
paired_cell who i u d v w m = ap (λ (s : State). s.cells i) (made_state v w (entry_of who (Pair d i u)) m)
    ∙ put_here i (Paired u) (state_of (v.seen ++ m.others)).cells

pub left_cell : (who i : ℕ) (d : Side) (v w : Seen) → Makes v (entry_of who (GiveUp d i)) w → cell_in w i ≡ Broken d
left_cell who i d v w m = ap (λ (s : State). s.cells i) (made_state v w (entry_of who (GiveUp d i)) m)
    ∙ put_here i (Broken d) (state_of (v.seen ++ m.others)).cells

-- ---- what a look leaves

-- what each of others' entries keeps still holds after all that others added
pub kept_apart : (cells who : ℕ) (v w : Seen) (others : List CellEntry) (P : State → Type 0)
    → ((s : State) (t : ℕ) (act : CellAct) → Sound cells s → Needs cells s t act → (t ≡ who → ⊥) → P s → P (after s t act))
    → w.seen ≡ v.seen ++ others → Legal cells (v.seen ++ others) → entries_of maker who others ≡ [] → P (now_in v) → P (now_in w)
kept_apart cells who v w others P step now legal apart h = let r = Legal-rest cells v.seen others legal in
    subst P (sym (ap state_of now ∙ state_more v.seen others))
    (others_keep cells who P step (now_in v) others (sound_of cells v.seen r.0) r.1 apart h)

-- and after a look
pub kept_sees : (cells who : ℕ) (v w : Seen) (P : State → Type 0)
    → ((s : State) (t : ℕ) (act : CellAct) → Sound cells s → Needs cells s t act → (t ≡ who → ⊥) → P s → P (after s t act))
    → has_tag who v.tags ≡ true → Legal cells w.seen → Sees v w → P (now_in v) → P (now_in w)
kept_sees cells who v w P step own legal s h = kept_apart cells who v w s.others P step s.now (subst (Legal cells) s.now legal)
    (s.apart who own) h

-- what each entry keeps still holds
pub kept_adds : (cells who : ℕ) (made : List CellEntry) (v w : Seen) (P : State → Type 0)
    → ((s : State) (t : ℕ) (act : CellAct) → Sound cells s → Needs cells s t act → P s → P (after s t act))
    → Legal cells w.seen → Adds who made v w → P (now_in v) → P (now_in w)
kept_adds cells who made v w P step legal s h = let r = Legal-rest cells v.seen s.rest (subst (Legal cells) s.now legal) in
    subst P (sym (ap state_of s.now ∙ state_more v.seen s.rest)) (all_keep cells P step (now_in v) s.rest (sound_of cells v.seen r.0) r.1 h)

pub still_drawer : (cells who i : ℕ) (d : Side) (v w : Seen) → has_tag who v.tags ≡ true → Legal cells w.seen → Sees v w
    → IsDrawer d who i (now_in v) → IsDrawer d who i (now_in w)
still_drawer cells who i d v w own legal s h = kept_sees cells who v w (IsDrawer d who i)
    (λ s t act sound k ne q. drawer_step cells s t act d i who sound k q) own legal s h

pub drawer_adds : (cells who i : ℕ) (d : Side) (made : List CellEntry) (v w : Seen) → Legal cells w.seen → Adds who made v w
    → IsDrawer d who i (now_in v) → IsDrawer d who i (now_in w)
drawer_adds cells who i d made v w legal s h = kept_adds cells who made v w (IsDrawer d who i)
    (λ s t act sound k q. drawer_step cells s t act d i who sound k q) legal s h

mine_step : (cells who i : ℕ) (d : Side) (s : State) (t : ℕ) (act : CellAct) → Sound cells s → Needs cells s t act → (t ≡ who → ⊥)
    → IsMine d who i s → IsMine d who i (after s t act)
mine_step cells who i d s t act sound k ne m = record {
  drawer = drawer_step cells s t act d i who sound k m.drawer;
  not_yet =
      not_come_step cells s t act d i who k ne m.drawer m.not_yet;
}

pub still_mine : (cells who i : ℕ) (d : Side) (v w : Seen) → has_tag who v.tags ≡ true → Legal cells w.seen → Sees v w
    → IsMine d who i (now_in v) → IsMine d who i (now_in w)
still_mine cells who i d v w own legal s h = kept_sees cells who v w (IsMine d who i) (mine_step cells who i d) own legal s h

pub became : (cells who i : ℕ) (x : CellState) (v w : Seen) → has_tag who v.tags ≡ true → Legal cells w.seen → Sees v w
    → Becomes x (cell_in v i) → Becomes x (cell_in w i)
became cells who i x v w own legal s h = kept_sees cells who v w (λ s. Becomes x (s.cells i))
    (λ s t act sound k ne q. becomes_step cells s t act x i k q) own legal s h

-- ---- sides

pub other_of : (d e : Side) → same_side d e ≡ false → d ≡ other_side e
other_of Send Send h = cc
other_of Send Receive h = refl
other_of Receive Send h = refl
other_of Receive Receive h = cc

-- ---- a cell of which the other side may stand

-- who waited is gone: it gave up
pub partner_left : (d : Side) (x : Waiter) (y : CellState) → same_side (side_of x) d ≡ false → Becomes (Waits x) y → has_come d y ≡ false
    → y ≢ Waits x → y ≡ Broken (other_side d)
partner_left d x Free apart h none ne = absurd h
partner_left d x (Waits z) apart h none ne = absurd (ne (ap Waits h))
partner_left d x (Paired v) apart h none ne = cc
partner_left d x (Broken e) apart h none ne = ap Broken (h ∙ other_of (side_of x) d apart)

-- ---- a number is drawn

pub none_left : (cells who : ℕ) (d : Side) (v w : Seen) → has_tag who v.tags ≡ true → Sees v w → cells ≤ (now_in w).drawn d
    → IsSpent cells d who v w
none_left cells who d v w own s all = record { made = []; adds = adds_sees who v w own s; none = inl refl; all = all }

drawn_made : (cells who n : ℕ) (d : Side) (u w : Seen) → DrawnAnswer cells d who u w n → (b : Bool) → nat_lt n cells ≡ b
    → Makes u (entry_of who (if b then Draw d n else Miss d)) w
drawn_made cells who n d u w a b is = subst (λ (c : Bool). Makes u (entry_of who (if c then Draw d n else Miss d)) w) is a.makes

-- who has seen that a cell is left has not drawn past the last
pub still_early : (cells key who n : ℕ) (d : Side) (v : Seen) → Legal key v.seen → key ≡ cells → n ≡ (now_in v).drawn d → n < cells
    → (now_in v).late d who ≡ false
still_early cells key who n d v legal at is lt = (sound_of key v.seen legal).early d (few at is lt) who
  where
    few : key ≡ cells → n ≡ (now_in v).drawn d → n < cells → (now_in v).drawn d < key
    few at is lt = subst (λ (x : ℕ × ℕ). x.0 < x.1) (λ i. (is i, sym at i)) lt

pub drawn_by : (cells who t n : ℕ) (d : Side) (u w : Seen) → t ≡ who → DrawnAnswer cells d t u w n → DrawnAnswer cells d who u w n
drawn_by cells who t n d u w is a = subst (λ k. DrawnAnswer cells d k u w n) is a

pub too_late : (cells who n : ℕ) (d : Side) (v u w : Seen) → has_tag who v.tags ≡ true → Sees v u → DrawnAnswer cells d who u w n
    → cells ≤ n → IsSpent cells d who v w
too_late cells who n d v u w own s a le = record {
  made = entry_of who (Miss d) ∷ [];
  adds = adds_then who [] (entry_of who (Miss d) ∷ []) v u w (adds_sees who v u own s)
      (adds_makes who (Miss d) u w (ap (has_tag who) s.tags ∙ own) (drawn_made cells who n d u w a false (le-ltb n cells le)));
  none = inr refl;
  all = let e = a.number in omega (arith, e, le);
}

pub in_time : (cells who n : ℕ) (d : Side) (v u w : Seen) → has_tag who v.tags ≡ true → Sees v u → DrawnAnswer cells d who u w n → n < cells
    → DrawAnswer cells d who v w (Some n)
in_time cells who n d v u w own s a lt = let c = a.cell lt in (
  adds_then who [] (entry_of who (Draw d n) ∷ []) v u w (adds_sees who v u own s)
      (adds_makes who (Draw d n) u w (ap (has_tag who) s.tags ∙ own) (drawn_made cells who n d u w a true (lt-ltb n cells lt))),
  lt,
  c,
)

-- ---- what stays

-- it gives up in this cell
abbrev gives_up_in : ℕ → CellAct → Bool
gives_up_in p (GiveUp d i) = i == p
gives_up_in p other = false

abbrev pub keeps_on : ℕ → List CellEntry → Bool
keeps_on p [] = true
keeps_on p (e ∷ es) = if gives_up_in p e.act then false else keeps_on p es

keep_waits : (cells who i : ℕ) (s : State) (es : List CellEntry) → Sound cells s → LegalFrom cells s es
    → keeps_on i (entries_of maker who es) ≡ true → MayGiveUp who i s → MayGiveUp who i (state_from s es)
unfolding state_from LegalFrom
keep_waits cells who i s [] sound k keeps h = h
keep_waits cells who i s (e ∷ es) sound k keeps h = by_test (e.who == who) refl keeps
    (keep_waits cells who i (after s e.who e.act) es (sound_step cells s e.who e.act sound k.0) k.1)
  where
    by_test : (b : Bool) → (e.who == who) ≡ b → keeps_on i (if b then e ∷ entries_of maker who es else entries_of maker who es) ≡ true
        → (keeps_on i (entries_of maker who es) ≡ true → MayGiveUp who i (after s e.who e.act)
        → MayGiveUp who i (state_from (after s e.who e.act) es)) → MayGiveUp who i (state_from (after s e.who e.act) es)
    by_test true is q rest = by_act (gives_up_in i e.act) refl q
      where
        by_act : (c : Bool) → gives_up_in i e.act ≡ c → (if c then false else keeps_on i (entries_of maker who es)) ≡ true
            → MayGiveUp who i (state_from (after s e.who e.act) es)
        by_act true g p = cc
        by_act false g p = rest p (whole_step cells s e.who e.act who i sound k.0
            (λ d at same. let z : true ≡ false = sym (ap (gives_up_in i) at ∙ eq-eqb i i refl) ∙ g in cc) h)
    by_test false is q rest = rest q (whole_step cells s e.who e.act who i sound k.0
        (λ d at same. let z : true ≡ false = sym (eq-eqb e.who who same) ∙ is in cc) h)

pub waits_after : (cells who i : ℕ) (made : List CellEntry) (v w : Seen) → Legal cells w.seen → Adds who made v w → keeps_on i made ≡ true
    → MayGiveUp who i (now_in v) → MayGiveUp who i (now_in w)
waits_after cells who i made v w legal a keeps h = let r = Legal-rest cells v.seen a.rest (subst (Legal cells) a.now legal) in
    subst (MayGiveUp who i) (sym (ap state_of a.now ∙ state_more v.seen a.rest))
    (keep_waits cells who i (now_in v) a.rest (sound_of cells v.seen r.0) r.1 (ap (keeps_on i) a.mine ∙ keeps) h)

pub come_after : (cells who i : ℕ) (made : List CellEntry) (v w : Seen) → Legal cells w.seen → Adds who made v w → HasCome who i (now_in v)
    → HasCome who i (now_in w)
come_after cells who i made v w legal a h = kept_adds cells who made v w (HasCome who i)
    (λ s t act sound k q. come_step cells s t act who i sound k q) legal a h

pub stays_after : (cells who : ℕ) (made : List CellEntry) (v w : Seen) → Legal cells w.seen → Adds who made v w
    → ((i : ℕ) → keeps_on i made ≡ true) → Stays who v w
stays_after cells who made v w legal a keeps = record {
  come = λ i. come_after cells who i made v w legal a;
  waits =
      λ i. waits_after cells who i made v w legal a (keeps i);
}

-- ---- to come to a cell

pub stood_waiting : (who i : ℕ) (x : Waiter) (v w : Seen) → has_tag who v.tags ≡ true → Makes v (entry_of who (Place i x)) w
    → StoodAnswer who i x v w stood.Waits
stood_waiting who i x v w own m = (adds_makes who (Place i x) v w own m, placed_cell who i x v w m)

pub met : (who i u : ℕ) (d : Side) (x : Waiter) (v w : Seen) → d ≡ side_of x → has_tag who v.tags ≡ true
    → Makes v (entry_of who (Pair d i u)) w → MeetsWith x u → PairAnswer who i x v w (Some u)
met who i u d x v w side own m value = (
  ap_side (adds_makes who (Pair d i u) v w own m),
  paired_cell who i u d v w m,
  value,
)
  where
    ap_side : Adds who (entry_of who (Pair d i u) ∷ []) v w → Adds who (entry_of who (Pair (side_of x) i u) ∷ []) v w
    ap_side a = subst (λ (e : Side). Adds who (entry_of who (Pair e i u) ∷ []) v w) side a

pub not_met : (cells who i : ℕ) (x y : Waiter) (z : CellState) (v w : Seen) → has_tag who v.tags ≡ true → Legal cells w.seen → Sees v w
    → IsDrawer (side_of x) who i (now_in v) → cell_in v i ≡ Waits y → same_side (side_of y) (side_of x) ≡ false
    → cell_in w i ≡ z → z ≢ Waits y → PairAnswer who i x v w None
not_met cells who i x y z v w own legal s drawer waits apart is ne = (
  adds_sees who v w own s,
  is ∙ partner_left (side_of x) y z apart
      (subst (Becomes (Waits y)) is (became cells who i (Waits y) v w own legal s
      (subst (Becomes (Waits y)) (sym waits) (stays_so (Waits y)))))
      (sym (ap (has_come (side_of x)) is)
      ∙ (still_mine cells who i (side_of x) v w own legal s
      (record { drawer = drawer; not_yet = ap (has_come (side_of x)) waits ∙ apart })).not_yet)
      ne,
)

pub sees_self : (v : Seen) → Sees v v
sees_self v = record { others = []; now = sym (append-nil v.seen); apart = λ t h. refl; tags = refl; giving = refl }

pub mine_now : (cells who t i : ℕ) (d : Side) (v w : Seen) → t ≡ who → has_tag who v.tags ≡ true → Legal cells w.seen → Sees v w
    → IsMine d who i (now_in v) → IsMine d t i (now_in w)
mine_now cells who t i d v w is own legal s h = subst (λ n. IsMine d n i (now_in w)) (sym is) (still_mine cells who i d v w own legal s h)

pub stood_by : (who t i : ℕ) (x : Waiter) (v w : Seen) (a : Stood) → t ≡ who → StoodAnswer t i x v w a → StoodAnswer who i x v w a
stood_by who t i x v w a is h = subst (λ n. StoodAnswer n i x v w a) is h

pub stood_after : (who i : ℕ) (x : Waiter) (v u w : Seen) (a : Stood) → has_tag who v.tags ≡ true → Sees v u → StoodAnswer who i x u w a
    → StoodAnswer who i x v w a
stood_after who i x v u w stood.Waits own s h = (adds_then who [] _ v u w (adds_sees who v u own s) h.0, h.1)
stood_after who i x v u w (stood.Paired n) own s h = (adds_then who [] _ v u w (adds_sees who v u own s) h.0, h.1, h.2)
stood_after who i x v u w stood.Broken own s h = (adds_then who [] [] v u w (adds_sees who v u own s) h.0, h.1)

-- ---- to send and to receive

pub waits_now : (cells who i : ℕ) (d : Side) (x : Waiter) (made : List CellEntry) (m w : Seen) → side_of x ≡ d → Legal cells w.seen
    → IsMine d who i (now_in m) → Adds who made m w → cell_in w i ≡ Waits x → MayGiveUp who i (now_in w)
waits_now cells who i d x made m w side legal mine a is = record {
  come = record {
    side = d;
    drawer = drawer_adds cells who i d made m w legal a mine.drawer;
    came = ap (has_come d) is ∙ ap (λ (e : Side). same_side e d) side ∙ same_self d;
  };
  whole = ap is_whole is;
}

pub spent_stays : (cells key who : ℕ) (d : Side) (v w : Seen) → Legal key w.seen → IsSpent cells d who v w → Stays who v w
spent_stays cells key who d v w legal s = stays_after key who s.made v w legal s.adds
    (λ i. ⊎_elim (λ e. ap (keeps_on i) e) (λ e. ap (keeps_on i) e) s.none)
