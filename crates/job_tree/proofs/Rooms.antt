-- Room for each Cancel that may still be made, as the history goes on.
use Rattle.std.specs.Prelude.{◌≡◌, ℕ, zero, suc, ◌+◌, ◌==◌, ◌≤◌, ◌<◌, Bool, true, false, not, ◌||◌, List, [], ◌∷◌, ◌++◌, Option, Some, None, if◌then◌else◌, refl}
use mathlib.Core.List.{IsPrefix}
use Rattle.std.proofs.Common.{sym, ap, ◌∙◌, subst, arith}
use Rattle.std.proofs.lemmas.Bool.{eqb-true, or_parts, not-true, or_right}
use Rattle.std.proofs.lemmas.Bool.Decides.{nat_tests}
use Rattle.std.proofs.lemmas.List.Folds.{list_any-append}
use Rattle.job_model.specs.declared.acts.Reason.{Reason}
use Rattle.job_model.specs.declared.acts.JobAct.{JobAct}
use Rattle.job_model.specs.declared.acts.JobAct.TheVariants.{Cancel}
use Rattle.job_model.specs.declared.acts.JobEntry.{JobEntry}
use Rattle.job_model.specs.Trees.{Shape, IsShape, Job, Tree}
use Rattle.job_model.specs.Acts.{cancels}
use Rattle.job_model.specs.Effects.{after}
use Rattle.job_model.specs.Needs.{MayBeCancelled}
use Rattle.job_model.specs.Families.{IsCancellingOrEnded}
use Rattle.job_model.specs.Histories.{replay, replay_from, Legal, LegalFrom}
use Rattle.job_model.specs.Floors.{Floor, Looked, Made}
use Rattle.job_model.specs.Laws.{has}
use Rattle.job_model.proofs.Histories.{Legal-last}
use Rattle.job_model.proofs.Rows.{same}
use Rattle.job_model.proofs.Lasting.{history_keeps}
use Rattle.job_model.proofs.Steps.{RowStep, row_step}
use Rattle.job_model.proofs.Below.{cancelling_lasts}
use Rattle.job_tree.specs.Rooms.{count_below, uncancelled, MayCancelAll}

-- ---- counts

pub count_le : (n : ℕ) (t s : ℕ → Bool) → ((r : ℕ) → t r ≡ true → s r ≡ true) → count_below n t ≤ count_below n s
count_le zero t s h = omega arith
count_le (suc n) t s h = both (t n) (s n) (h n) (count_below n t) (count_below n s) (count_le n t s h)
  where
    both : (a b : Bool) → (a ≡ true → b ≡ true) → (x y : ℕ) → x ≤ y → (if a then 1 else 0) + x ≤ (if b then 1 else 0) + y
    both true true k x y le = omega arith
    both true false k x y le = absurd (let u : false ≡ true = k refl in cc)
    both false true k x y le = omega arith
    both false false k x y le = omega arith

pub count_less : (n : ℕ) (t s : ℕ → Bool) (q : ℕ) → q < n → t q ≡ false → s q ≡ true → ((r : ℕ) → t r ≡ true → s r ≡ true)
    → count_below n t + 1 ≤ count_below n s
count_less zero t s q l a b h = omega arith
count_less (suc n) t s q l a b h = by_test (q == n) refl (λ k. count_less n t s q k a b h)
  where
    here : (x y : ℕ) → x ≤ y → 0 + x + 1 ≤ 1 + y
    here x y le = omega arith

    later : (a b : Bool) → (a ≡ true → b ≡ true) → (x y : ℕ) → x + 1 ≤ y → (if a then 1 else 0) + x + 1 ≤ (if b then 1 else 0) + y
    later true true k x y le = omega arith
    later true false k x y le = absurd (let u : false ≡ true = k refl in cc)
    later false true k x y le = omega arith
    later false false k x y le = omega arith

    below : (q n : ℕ) → q < suc n → (q == n) ≡ false → q < n
    below q n l e = grind (arith, nat_tests)

    by_test : (b' : Bool) → (q == n) ≡ b' → (q < n → count_below n t + 1 ≤ count_below n s)
        → (if t n then 1 else 0) + count_below n t + 1 ≤ (if s n then 1 else 0) + count_below n s
    by_test true k rest =
        let is : q ≡ n = eqb-true q n k in
        let a' : t n ≡ false = subst (λ z. t z ≡ false) is a in
        let b' : s n ≡ true = subst (λ z. s z ≡ true) is b in
        rw a' (rw b' (here (count_below n t) (count_below n s) (count_le n t s h)))
    by_test false k rest = later (t n) (s n) (h n) (count_below n t) (count_below n s) (rest (below q n l k))

pub count_some : (n : ℕ) (t : ℕ → Bool) (q : ℕ) → q < n → t q ≡ true → 1 ≤ count_below n t
count_some n t q l e =
    let k = count_less n (λ r. false) t q l refl e (λ r f. cc) in omega arith

-- ---- a Cancel leaves its mark

cancelled_by : (shape : Shape) (tree : Tree) (who q : ℕ) (act : JobAct) (x y : Option Job) → RowStep shape tree who q act x y
    → cancels q act ≡ true → IsCancellingOrEnded y
cancelled_by shape tree who q _ _ _ (RowStep.is_cancelled reason j m o) e = refl
cancelled_by shape tree who q _ _ _ (RowStep.stays act x a b d f g) e = absurd (let u : false ≡ true = sym f ∙ e in cc)
cancelled_by shape tree who q _ _ _ other e = cc

marked_from : (shape : Shape) (tree : Tree) (es : List JobEntry) (r : ℕ) → LegalFrom shape tree es → has cancels r es ≡ true
    → IsCancellingOrEnded (replay_from tree es r)
unfolding LegalFrom replay_from
marked_from shape tree [] r l h = cc
marked_from shape tree (e ∷ es) r l h = by_test (cancels r e.act) refl h (marked_from shape (after tree e.who e.act) es r l.1)
  where
    by_test : (b : Bool) → cancels r e.act ≡ b → (b || has cancels r es) ≡ true
        → (has cancels r es ≡ true → IsCancellingOrEnded (replay_from (after tree e.who e.act) es r))
        → IsCancellingOrEnded (replay_from (after tree e.who e.act) es r)
    by_test true k h rest = history_keeps IsCancellingOrEnded cancelling_lasts shape (after tree e.who e.act) es r l.1
        (cancelled_by shape tree e.who r e.act _ _ (row_step shape tree e.who e.act r l.0) k)
    by_test false k h rest = rest h

not_cancellable : (x : Option Job) → MayBeCancelled x → IsCancellingOrEnded x → ⊥
not_cancellable None m h = absurd m
not_cancellable (Some j) m h = let u : true ≡ false = sym m ∙ h in cc

-- a Job that may be cancelled was not
unmarked : (shape : Shape) (es : List JobEntry) (r : ℕ) → Legal shape es → MayBeCancelled (replay es r) → has cancels r es ≡ false
unmarked shape es r l m = by_test (has cancels r es) refl
  where
    by_test : (b : Bool) → has cancels r es ≡ b → has cancels r es ≡ false
    by_test true k = absurd (not_cancellable (replay es r) m (marked_from shape _ es r l k))
    by_test false k = k

pub marked : (shape : Shape) (es : List JobEntry) (r : ℕ) → Legal shape es → has cancels r es ≡ true → IsCancellingOrEnded (replay es r)
marked shape es r l h = marked_from shape _ es r l h

has_more : (r : ℕ) (xs ys : List JobEntry) → has cancels r (xs ++ ys) ≡ (has cancels r xs || has cancels r ys)
has_more r xs ys = list_any-append (λ (e : JobEntry). cancels r e.act) xs ys

-- who has no Cancel had none before
had_none : (r : ℕ) (xs ys : List JobEntry) → IsPrefix xs ys → has cancels r ys ≡ false → has cancels r xs ≡ false
had_none r xs ys p h = (or_parts (has cancels r xs) (has cancels r p.0) (sym (has_more r xs p.0) ∙ ap (has cancels r) p.1 ∙ h)).0

still_none : (r : ℕ) (xs ys : List JobEntry) → IsPrefix xs ys → not (has cancels r ys) ≡ true → not (has cancels r xs) ≡ true
still_none r xs ys p h = ap not (had_none r xs ys p (not-true (has cancels r ys) h))

uncancelled_le : (n : ℕ) (xs ys : List JobEntry) → IsPrefix xs ys
    → count_below n (λ r. not (has cancels r ys)) ≤ count_below n (λ r. not (has cancels r xs))
uncancelled_le n xs ys p = count_le n _ _ (λ r h. still_none r xs ys p h)

-- ---- calls

same_rows : (a b : Floor) → b.shape ≡ a.shape → uncancelled b ≡ count_below a.shape.rows (λ r. not (has cancels r b.seen))
same_rows a b e = ap (λ (s : Shape). count_below s.rows (λ r. not (has cancels r b.seen))) e

pub looked_room : (who : ℕ) (rows : List ℕ) (a b : Floor) (spare spare' : ℕ) → Looked who rows a b → spare' ≡ spare → MayCancelAll a spare
    → MayCancelAll b spare'
looked_room who rows a b spare spare' h e m =
    let k = uncancelled_le a.shape.rows a.seen b.seen h.longer in
    let same = same_rows a b h.same.shape in
    let f = m.floor_room in
    let g = m.book_room in
    let s = h.spare in
    record { floor_room = omega arith; book_room = omega arith }

-- a Job was seen that may be cancelled: there is room for its Cancel
pub record HasRoomNow (floor : Floor) (spare : ℕ) : Type 0 where
  pub floor_room : 0 < floor.spare
  pub book_room : 0 < spare

pub seen_room : (row : ℕ) (a b : Floor) (moment : List JobEntry) (spare : ℕ) → IsShape a.shape → Legal a.shape moment → row < a.shape.rows
    → IsPrefix a.seen moment → MayBeCancelled (replay moment row) → a.spare ≤ b.spare → MayCancelAll a spare → HasRoomNow b spare
seen_room row a b moment spare s l w p m le room =
    let none = had_none row a.seen moment p (unmarked a.shape moment row l m) in
    let k = count_some a.shape.rows (λ r. not (has cancels r a.seen)) row w (ap not none) in
    let f = room.floor_room in
    let g = room.book_room in
    record { floor_room = omega arith; book_room = omega arith }

pub now_marked : (r : ℕ) (xs : List JobEntry) (who : ℕ) (reason : Reason)
    → has cancels r (xs ++ record { who = who; act = Cancel r reason } ∷ []) ≡ true
now_marked r xs who reason = has_more r xs _ ∙ ap (λ b. has cancels r xs || (b || false)) (same r) ∙ or_right (has cancels r xs) true refl

pub looked_fewer : (who : ℕ) (rows : List ℕ) (a b : Floor) → Looked who rows a b → 0 + uncancelled b ≤ uncancelled a
looked_fewer who rows a b h =
    let k = uncancelled_le a.shape.rows a.seen b.seen h.longer in
    let same = same_rows a b h.same.shape in
    omega arith

pub looked_fewer_twice : (who : ℕ) (rows : List ℕ) (a b c : Floor) → Looked who rows a b → Looked who rows b c
    → 0 + uncancelled c ≤ uncancelled a
looked_fewer_twice who rows a b c h k =
    let x = looked_fewer who rows a b h in
    let y = looked_fewer who rows b c k in
    omega arith

-- after a Cancel one row less has none
made_fewer : (who row : ℕ) (reason : Reason) (a b : Floor) → Legal b.shape b.seen → row < a.shape.rows → Made who (Cancel row reason) [] a b
    → 1 + uncancelled b ≤ uncancelled a
made_fewer who row reason a b l w m =
    let parts = Legal-last b.shape m.before _ (subst (Legal b.shape) m.last l) in
    let none = unmarked b.shape m.before row parts.0 parts.1.0 in
    let now : has cancels row b.seen ≡ true = ap (has cancels row) m.last ∙ now_marked row m.before who reason in
    let k = uncancelled_le a.shape.rows a.seen m.before m.longer in
    let less = count_less a.shape.rows (λ r. not (has cancels r b.seen)) (λ r. not (has cancels r m.before)) row w (ap not now)
    (ap not none) (λ r h. still_none r m.before b.seen (_, sym m.last) h) in
    let same = same_rows a b m.same.shape in
    omega arith

pub cancel_fewer : (who row : ℕ) (reason : Reason) (a b c : Floor) {d : Floor} → Looked who [] a b → Legal c.shape c.seen
    → row < a.shape.rows → Made who (Cancel row reason) [] b c → Looked who [] c d → 1 + uncancelled d ≤ uncancelled a
cancel_fewer who row reason a b c {d} h l w m k =
    let x = looked_fewer who [] a b h in
    let y = made_fewer who row reason b c l (subst (λ (s : Shape). row < s.rows) (sym h.same.shape) w) m in
    let z = looked_fewer who [] c d k in
    omega arith

-- a Cancel takes one of each
pub cancel_room : (who row : ℕ) (reason : Reason) (a b : Floor) (spare spare' : ℕ) → Legal b.shape b.seen → row < a.shape.rows
    → Made who (Cancel row reason) [] a b → spare ≡ spare' + 1 → MayCancelAll a spare → MayCancelAll b spare'
cancel_room who row reason a b spare spare' l w m e room =
    let k = made_fewer who row reason a b l w m in
    let f = room.floor_room in
    let g = room.book_room in
    let s = m.spare in
    record { floor_room = omega arith; book_room = omega arith }

pub uncancelled_rows : (a : Floor) → uncancelled a ≤ a.shape.rows
uncancelled_rows a = at_most a.shape.rows (λ r. not (has cancels r a.seen))
  where
    one : (b : Bool) (x n : ℕ) → x ≤ n → (if b then 1 else 0) + x ≤ suc n
    one true x n le = omega arith
    one false x n le = omega arith

    at_most : (n : ℕ) (t : ℕ → Bool) → count_below n t ≤ n
    at_most zero t = omega arith
    at_most (suc n) t = one (t n) (count_below n t) n (at_most n t)

-- room for as many entries as there are rows is room for each Cancel
pub room_for_rows : (floor : Floor) (spare : ℕ) → floor.shape.rows ≤ floor.spare → floor.shape.rows ≤ spare → MayCancelAll floor spare
room_for_rows floor spare f b = let k = uncancelled_rows floor in record { floor_room = omega arith; book_room = omega arith }
