-- A legal history is short: at most six entries a row.
use Rattle.std.specs.Prelude.{◌≡◌, ℕ, ◌+◌, ◌*◌, ◌==◌, ◌<◌, ◌≤◌, Bool, true, false, ◌&&◌, ◌||◌, List, [], ◌∷◌, length, map, Option, Some, None, MatchBool, is_some, refl}
use Rattle.std.specs.List.{list_any, IsDistinct, AllByRecursion}
use Rattle.std.proofs.Common.{sym, ap, ◌∙◌, arith}
use Rattle.std.proofs.lemmas.Bool.{eqb-true, eq-eqb, eqb-false}
use Rattle.std.proofs.lemmas.Map.Steps.{length-le_from_distinct_below}
use Rattle.job_model.specs.declared.acts.JobState.TheVariants.{New}
use Rattle.job_model.specs.declared.acts.JobKind.{JobKind}
use Rattle.job_model.specs.declared.acts.JobAct.{JobAct}
use Rattle.job_model.specs.declared.acts.JobAct.TheVariants.{Attach, Start, EndBody, Cancel, Finish, Gone}
use Rattle.job_model.specs.declared.acts.JobEntry.{JobEntry}
use Rattle.job_model.specs.Trees.{Shape, IsShape, Job, Tree, start, state_of}
use Rattle.job_model.specs.Acts.{attaches, starts, ends_body, cancels, finishes, tells}
use Rattle.job_model.specs.Effects.{after}
use Rattle.job_model.specs.Needs.{Needs, IsRowFor, MayEndBody, MayBeCancelled, MayFinish, IsFinishedBy}
use Rattle.job_model.specs.Histories.{replay, replay_from, Legal, LegalFrom}
use Rattle.job_model.specs.Laws.{HasFamilies, count_of, row_of_act}
use Rattle.job_model.proofs.Rows.{same}
use Rattle.job_model.proofs.Steps.{row_step}
use Rattle.job_model.proofs.Families.{after_families, start_families, start_root}
use Rattle.job_model.proofs.Claims.{attached_was}
use Rattle.job_model.proofs.Marks.{none_later, attach_mark, count-cons}
use Rattle.job_model.proofs.RowMarks.{start_mark, body_mark, cancel_mark, finish_mark, tell_mark}

-- ---- a number for each act on each row

abbrev kind_of : JobAct → ℕ
kind_of (Attach p q kind tag cancelled) = 0
kind_of (Start q) = 1
kind_of (EndBody q v) = 2
kind_of (Cancel q reason) = 3
kind_of (Finish q end) = 4
kind_of (Gone q) = 5

abbrev number_of : JobAct → ℕ
number_of a = 6 * row_of_act a + kind_of a

abbrev is_kind : ℕ → ℕ → JobAct → Bool
is_kind k r a = (k == kind_of a) && (r == row_of_act a)

attaches_is : (r : ℕ) (a : JobAct) → attaches r a ≡ is_kind 0 r a
attaches_is r (Gone q) = refl
attaches_is r other = refl

starts_is : (r : ℕ) (a : JobAct) → starts r a ≡ is_kind 1 r a
starts_is r (Gone q) = refl
starts_is r other = refl

ends_body_is : (r : ℕ) (a : JobAct) → ends_body r a ≡ is_kind 2 r a
ends_body_is r (Gone q) = refl
ends_body_is r other = refl

cancels_is : (r : ℕ) (a : JobAct) → cancels r a ≡ is_kind 3 r a
cancels_is r (Gone q) = refl
cancels_is r other = refl

finishes_is : (r : ℕ) (a : JobAct) → finishes r a ≡ is_kind 4 r a
finishes_is r (Gone q) = refl
finishes_is r other = refl

tells_is : (r : ℕ) (a : JobAct) → tells r a ≡ is_kind 5 r a
tells_is r (Gone q) = refl
tells_is r other = refl

kind_below : (a : JobAct) → kind_of a < 6
kind_below (Attach p q kind tag cancelled) = omega arith
kind_below other = omega arith

one_row : (k l q r : ℕ) → k ≡ l → 6 * q + k ≡ 6 * r + l → q ≡ r
one_row k l q r h e = omega arith

two_kinds : (k l q r : ℕ) → k < 6 → l < 6 → (k ≡ l → ⊥) → 6 * q + k ≡ 6 * r + l → ⊥
two_kinds k l q r lk ll n e = omega arith

-- another act, or an act on another row, has another number
other_number : (k r : ℕ) (a : JobAct) → k < 6 → is_kind k r a ≡ false → ((6 * r + k) == number_of a) ≡ false
other_number k r a lk e = by_number ((6 * r + k) == number_of a) refl
  where
    by_kind : (b : Bool) → (k == kind_of a) ≡ b → 6 * r + k ≡ number_of a → ⊥
    by_kind true f h =
        let same_kind : k ≡ kind_of a = eqb-true k (kind_of a) f in
        let same_row : r ≡ row_of_act a = one_row k (kind_of a) r (row_of_act a) same_kind h in
        let u : is_kind k r a ≡ true = ap (λ b. b && (r == row_of_act a)) f ∙ eq-eqb r (row_of_act a) same_row in
        let v : true ≡ false = sym u ∙ e in cc
    by_kind false f h = two_kinds k (kind_of a) r (row_of_act a) lk (kind_below a) (eqb-false k (kind_of a) f) h

    by_number : (b : Bool) → ((6 * r + k) == number_of a) ≡ b → ((6 * r + k) == number_of a) ≡ false
    by_number true f = absurd (by_kind (k == kind_of a) refl (eqb-true (6 * r + k) (number_of a) f))
    by_number false f = f

abbrev numbers : List JobEntry → List ℕ
numbers es = map (λ e. number_of e.act) es

-- ---- no number comes twice

none_again : (k r : ℕ) (acts : ℕ → JobAct → Bool) → k < 6 → ((a : JobAct) → acts r a ≡ is_kind k r a) → (es : List JobEntry)
    → count_of acts r es ≡ 0 → AllByRecursion (λ y. ((6 * r + k) == y) ≡ false) (numbers es)
none_again k r acts lk is [] e = tt
none_again k r acts lk is (x ∷ es) e = by_test (acts r x.act) refl (λ f. none_again k r acts lk is es f)
  where
    by_test : (b : Bool) → acts r x.act ≡ b → (count_of acts r es ≡ 0 → AllByRecursion (λ y. ((6 * r + k) == y) ≡ false) (numbers es))
        → (((6 * r + k) == number_of x.act) ≡ false) × AllByRecursion (λ y. ((6 * r + k) == y) ≡ false) (numbers es)
    by_test true f rest = absurd (let u : count_of acts r (x ∷ es) ≡ 1 + count_of acts r es = count-cons acts r x es true f in omega arith)
    by_test false f rest = (
      other_number k r x.act lk (sym (is x.act) ∙ f),
      rest (let u : count_of acts r (x ∷ es) ≡ 0 + count_of acts r es = count-cons acts r x es false f in omega arith),
    )

head_once : (shape : Shape) (tree : Tree) (who : ℕ) (act : JobAct) (es : List JobEntry) → HasFamilies tree → Needs shape tree who act
    → LegalFrom shape (after tree who act) es → AllByRecursion (λ y. (number_of act == y) ≡ false) (numbers es)
head_once shape tree who (Attach p q kind tag cancelled) es h n l =
    none_again 0 q attaches (omega arith) (attaches_is q) es
    (none_later attaches _ attach_mark shape _ es q l (attach_mark.sets shape tree who (Attach p q kind tag cancelled) q h n (same q)))
head_once shape tree who (Start q) es h n l = none_again 1 q starts (omega arith) (starts_is q) es
    (none_later starts _ start_mark shape _ es q l (start_mark.sets shape tree who (Start q) q h n (same q)))
head_once shape tree who (EndBody q v) es h n l = none_again 2 q ends_body (omega arith) (ends_body_is q) es
    (none_later ends_body _ body_mark shape _ es q l (body_mark.sets shape tree who (EndBody q v) q h n (same q)))
head_once shape tree who (Cancel q reason) es h n l = none_again 3 q cancels (omega arith) (cancels_is q) es
    (none_later cancels _ cancel_mark shape _ es q l (cancel_mark.sets shape tree who (Cancel q reason) q h n (same q)))
head_once shape tree who (Finish q end) es h n l = none_again 4 q finishes (omega arith) (finishes_is q) es
    (none_later finishes _ finish_mark shape _ es q l (finish_mark.sets shape tree who (Finish q end) q h n (same q)))
head_once shape tree who (Gone q) es h n l = none_again 5 q tells (omega arith) (tells_is q) es
    (none_later tells _ tell_mark shape _ es q l (tell_mark.sets shape tree who (Gone q) q h n (same q)))

all_once : (shape : Shape) (tree : Tree) (es : List JobEntry) → HasFamilies tree → LegalFrom shape tree es
    → IsDistinct (λ (m : ℕ) (n : ℕ). m == n) (numbers es)
unfolding LegalFrom IsDistinct
all_once shape tree [] h l = tt
all_once shape tree (e ∷ es) h l = (
  head_once shape tree e.who e.act es h l.0 l.1,
  all_once shape (after tree e.who e.act) es (after_families shape tree e.who e.act l.0 h) l.1,
)

-- ---- each number is small

abbrev AllWithin : Shape → Tree → Type 0
AllWithin shape tree = (r : ℕ) → is_some (tree r) ≡ true → r < shape.rows

pub row_within : (shape : Shape) (who : ℕ) (kind : JobKind) (tag r : ℕ) → IsShape shape → tag < shape.coroutines
    → IsRowFor shape who kind tag r
    → r < shape.rows
row_within shape who kind tag r s lt i = by_kind kind.scoped i
  where
    by_kind : (b : Bool) → MatchBool b ((tag ≡ who) × (shape.coroutines ≤ r) × (r < shape.rows)) (r ≡ tag) → r < shape.rows
    by_kind true h = h.2
    by_kind false h = omega (arith, s.fit)

act_within : (shape : Shape) (tree : Tree) (who : ℕ) (act : JobAct) → IsShape shape → AllWithin shape tree → Needs shape tree who act
    → row_of_act act < shape.rows
act_within shape tree who (Attach p q kind tag cancelled) s h n = row_within shape who kind tag q s n.2 n.3
act_within shape tree who (Start q) s h n = h q (some_state (tree q) n)
  where
    some_state : (x : Option Job) → state_of x ≡ Some New → is_some x ≡ true
    some_state None e = cc
    some_state (Some j) e = refl
act_within shape tree who (EndBody q v) s h n = h q (some_body (tree q) n)
  where
    some_body : (x : Option Job) → MayEndBody who x → is_some x ≡ true
    some_body None e = absurd e
    some_body (Some j) e = refl
act_within shape tree who (Cancel q reason) s h n = h q (some_live (tree q) n.0)
  where
    some_live : (x : Option Job) → MayBeCancelled x → is_some x ≡ true
    some_live None e = absurd e
    some_live (Some j) e = refl
act_within shape tree who (Finish q end) s h n = h q (some_done (tree q) n)
  where
    some_done : (x : Option Job) → MayFinish end x → is_some x ≡ true
    some_done None e = absurd e
    some_done (Some j) e = refl
act_within shape tree who (Gone q) s h n = h q (some_finished (tree q) n.0)
  where
    some_finished : (x : Option Job) → IsFinishedBy who x → is_some x ≡ true
    some_finished None e = absurd e
    some_finished (Some j) e = refl

named_attached : (r : ℕ) (act : JobAct) → attaches r act ≡ true → r ≡ row_of_act act
named_attached r (Attach p q kind tag cancelled) e = eqb-true r q e
named_attached r (Start q) e = cc
named_attached r other e = cc

after_within : (shape : Shape) (tree : Tree) (who : ℕ) (act : JobAct) → IsShape shape → AllWithin shape tree → Needs shape tree who act
    → AllWithin shape (after tree who act)
after_within shape tree who act s h n r a =
    attached_was shape tree who r act _ _ (r < shape.rows) (row_step shape tree who act r n) a (h r)
    (λ e. let k : r ≡ row_of_act act = named_attached r act e in let m = act_within shape tree who act s h n in omega arith)

numbers_within : (shape : Shape) (tree : Tree) (es : List JobEntry) → IsShape shape → AllWithin shape tree → LegalFrom shape tree es
    → (q : ℕ) → list_any (λ n. q == n) (numbers es) ≡ true → q < 6 * shape.rows
unfolding LegalFrom
numbers_within shape tree [] s h l q e = cc
numbers_within shape tree (x ∷ es) s h l q e = by_test (q == number_of x.act) refl e
    (λ f. numbers_within shape (after tree x.who x.act) es s (after_within shape tree x.who x.act s h l.0) l.1 q f)
  where
    by_test : (b : Bool) → (q == number_of x.act) ≡ b → (b || list_any (λ n. q == n) (numbers es)) ≡ true
        → (list_any (λ n. q == n) (numbers es) ≡ true → q < 6 * shape.rows) → q < 6 * shape.rows
    by_test true f g rest =
        let is : q ≡ number_of x.act = eqb-true q (number_of x.act) f in
        let small = kind_below x.act in
        let low = act_within shape tree x.who x.act s h l.0 in
        omega arith
    by_test false f g rest = rest g

start_within : (shape : Shape) → IsShape shape → AllWithin shape start
start_within shape s r a = let k : r ≡ 0 = start_root r a in omega (arith, s.some, s.fit)

from_within : (shape : Shape) (tree : Tree) (es : List JobEntry) → IsShape shape → AllWithin shape tree → LegalFrom shape tree es
    → AllWithin shape (replay_from tree es)
unfolding LegalFrom replay_from
from_within shape tree [] s h l = h
from_within shape tree (e ∷ es) s h l = from_within shape (after tree e.who e.act) es s (after_within shape tree e.who e.act s h l.0) l.1

-- each attached row is one of the tree's rows
pub attached_within : (shape : Shape) (history : List JobEntry) (r : ℕ) → IsShape shape → Legal shape history
    → is_some (replay history r) ≡ true → r < shape.rows
attached_within shape history r s l a = from_within shape start history s (start_within shape s) l r a

numbers-length : (es : List JobEntry) → length (numbers es) ≡ length es
numbers-length [] = refl
numbers-length (e ∷ es) = let k = numbers-length es in grind arith

pub legal_is_short : (shape : Shape) (history : List JobEntry) → IsShape shape → Legal shape history → length history ≤ 6 * shape.rows
legal_is_short shape history s l =
    let k : length (numbers history) ≤ 6 * shape.rows = length-le_from_distinct_below (numbers history) (6 * shape.rows)
    (all_once shape start history start_families l) (λ q e. numbers_within shape start history s (start_within shape s) l q e) in
    omega (arith, numbers-length history)
