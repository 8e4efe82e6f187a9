-- What one try of an act comes to, and several.
use Rattle.std.specs.Prelude.{◌≡◌, ◌≢◌, ℕ, ◌+◌, ◌==◌, ◌<◌, ◌≤◌, Bool, true, false, ◌&&◌, ◌||◌, List, [], ◌∷◌, ◌++◌, length, Option, Some, None, option_map, is_some, IsSome, if◌then◌else◌, refl}
use Rattle.std.proofs.Common.{sym, ap, ◌∙◌, subst, arith}
use Rattle.job_model.specs.declared.acts.JobAct.{JobAct}
use Rattle.job_model.specs.declared.acts.JobAct.TheVariants.{EndBody, Gone}
use Rattle.job_model.specs.declared.acts.JobState.{JobState}
use Rattle.job_model.specs.declared.acts.JobState.TheVariants.{New, Active, Completing, Cancelling, Cancelled, Completed}
use Rattle.job_model.specs.Trees.{Job, Tree, living, is_new, is_among, is_childless, is_none_left, is_done, is_ended, parent_of, parent_row, row_of}
use Rattle.job_model.specs.Needs.{MayEndBody, MayTell}
use Rattle.job_model.proofs.Lasting.{parent_lasts}
use Rattle.job_model.specs.Families.{children_of, older, older_after, older_sibling}
use Rattle.job_model.specs.Answers.{EndBodyAnswer, GoneAnswer, LinkAnswer, link_of, link_from, IsNotDone, is_owed}
use Rattle.job_model.specs.Floors.{AtStep}
use Rattle.job_model.specs.Histories.{replay}
use Rattle.job_model.specs.Laws.{IsSoundRow, HasFamilies, is_running}
use Rattle.job_model.proofs.Rows.{same}
use Rattle.job_model.specs.declared.floor.Ended.{Ended}
use Rattle.word_rules.specs.declared.job_word.JobWord.{JobWord}
use Rattle.word_rules.specs.declared.link_word.LinkWord.{LinkWord}
use Rattle.word_rules.specs.declared.size.ForestSize.{ForestSize}
use Rattle.word_rules.specs.declared.deed.Deed.{Deed}
use Rattle.word_rules.specs.declared.deed.Deed.TheVariants.{Act}
use Rattle.word_rules.specs.Rows.{job_code, word_of, link_word_of, link_at, row_code, end_from, IsNarrow}
use Rattle.word_rules.specs.Deeds.{shape_of, IsSize, history_of, Store, store_from, store_of, job_word, IsDone}
use Rattle.job_words.specs.Passes.{Seen, Sees, Goes, floor_seen}
use Rattle.job_words.specs.Attaches.{IsAttached, IsWord, ActedNow, HasLost}
use Rattle.job_model.specs.Effects.{change, change_parent, with_told}
use Rattle.job_words.proofs.DeedsAddUp.{tree_is, is_legal, store_push}
use Rattle.job_words.proofs.WordsOfChangedRows.{changed_job}
use Rattle.job_model.proofs.Siblings.{changed_at}
use Rattle.job_words.proofs.StepsAsCalls.{sees_goes, goes_trans, looked, made_with, at_step}
use Rattle.job_words.proofs.LostExchangesGrow.{grew, grew_more, lasts_goes, attached_goes}
use Rattle.job_words.proofs.MayExchange.{read_word, lasts_more}
use Rattle.job_model.proofs.Lasting.{Lasts, attached_lasts}
use Rattle.std.proofs.lemmas.Bool.Decides.{nat_tests}
use Rattle.std.proofs.lemmas.Bool.{or_right}
use Rattle.job_words.proofs.PartsOfAnAttach.{job_seen, last_needs}
use Rattle.job_words.proofs.ActsOnOneWord.{lives}
use Rattle.job_model.proofs.Spans.{added_looked}
use Rattle.job_model.proofs.Own.{own_body_kept, own_gone_kept}
use Rattle.job_words.proofs.StoreStaysSound.{kept}
use Rattle.job_words.proofs.ClaimedRows.{goes_self}
use Rattle.job_model.proofs.RowMarks.{listed_some}

-- the word had changed
pub lost : (who row : ℕ) (w : JobWord) (u v x : Seen) → Sees who u v → IsAttached v row → IsWord v row w → Sees who v x
    × (job_code w ≢ job_word (store_of x.seen) row) → HasLost who u x
lost who row w u v x s a k t =
    let g = sees_goes who u v s in
    let h = sees_goes who v x t.0 in
    record { goes = goes_trans who [] [] u v x g h; grew = grew_more who [] u v x g (grew who [] v x row h a (λ e. t.1 (k.is ∙ e))) }

-- ---- answers

-- the step's last moment
pub last_step : (who : ℕ) (u w : Seen) (P : Tree → Type 0) → Goes who [] u w → P (store_of w.seen).tree
    → AtStep (floor_seen u) (floor_seen w) P
last_step who u w P g p = at_step who [] [] u w w P g (goes_self who w g.idle
    (subst (λ (k : ForestSize). IsDone (shape_of k) w.seen) (sym g.key) g.done)) (subst P (tree_is w.seen) p)

-- ---- tests

pub new_is : (s : JobState) → is_new s ≡ true → s ≡ New
new_is New e = refl
new_is Active e = cc
new_is other e = cc

-- ---- what goes on to hold for the caller alone

pub own_body_goes : (who row : ℕ) (rows : List ℕ) (v w : Seen) → Goes who rows v w → MayEndBody who ((store_of v.seen).tree row)
    → MayEndBody who ((store_of w.seen).tree row)
own_body_goes who row rows v w g m =
    subst (λ (t : Tree). MayEndBody who (t row)) (sym (tree_is w.seen))
    (own_body_kept who row [] rows (floor_seen v) (floor_seen w)
    (is_legal (shape_of w.key) w.seen (subst (λ (k : ForestSize). IsDone (shape_of k) w.seen) (sym g.key) g.done))
    (added_looked who rows (floor_seen v) (floor_seen w) (looked who rows v w g)) refl
    (subst (λ (t : Tree). MayEndBody who (t row)) (tree_is v.seen) m))

pub own_gone_goes : (who row : ℕ) (rows : List ℕ) (v w : Seen) → Goes who rows v w → MayTell who row (store_of v.seen).tree
    → MayTell who row (store_of w.seen).tree
own_gone_goes who row rows v w g m =
    subst (MayTell who row) (sym (tree_is w.seen))
    (own_gone_kept who row [] rows (floor_seen v) (floor_seen w)
    (is_legal (shape_of w.key) w.seen (subst (λ (k : ForestSize). IsDone (shape_of k) w.seen) (sym g.key) g.done))
    (added_looked who rows (floor_seen v) (floor_seen w) (looked who rows v w g)) refl
    (subst (MayTell who row) (tree_is v.seen) m))

pub own_gone_sees : (who row : ℕ) (v w : Seen) → Sees who v w → MayTell who row (store_of v.seen).tree
    → MayTell who row (store_of w.seen).tree
own_gone_sees who row v w s m = own_gone_goes who row [] v w (sees_goes who v w s) m

pub may_attached : (who : ℕ) (x : Option Job) → MayEndBody who x → is_some x ≡ true
may_attached who None m = absurd m
may_attached who (Some j) m = refl

-- the parent of a row is attached
pub parent_attached : (size : ForestSize) (v : Seen) (row p : ℕ) → IsSize size → IsDone (shape_of size) v.seen
    → parent_of ((store_of v.seen).tree row) ≡ Some p → IsAttached v p
parent_attached size v row p s h e = listed_some row ((store_of v.seen).tree p) ((kept size v.seen s h).families.listed p row e)

-- and has a living child, where this one was not told gone
pub living_some : (size : ForestSize) (who row p : ℕ) (v : Seen) (w : JobWord) → IsSize size → IsDone (shape_of size) v.seen
    → MayTell who row (store_of v.seen).tree → parent_of ((store_of v.seen).tree row) ≡ Some p → IsWord v p w → 1 ≤ w.living
living_some size who row p v w s h m e k =
    let j = job_seen size v p w s h (parent_attached size v row p s h e) k in
    let l = lives (store_of v.seen).tree who row p j.0 (kept size v.seen s h).families m e j.1 in
    let is : w.living ≡ length (living j.0) = ap (λ (x : JobWord). x.living) (sym j.2) in
    omega arith

-- ---- the end of a Job

has_end_at : (s : JobState) (w : JobWord) (b : Bool) → (is_running s ≡ true → b ≡ false) → b ≡ true → is_ended s ≡ false
    → IsSome (end_from w s)
has_end_at Completing w b h e n = refl
has_end_at Cancelling w b h e n = refl
has_end_at Cancelled w b h e n = cc
has_end_at Completed w b h e n = cc
has_end_at other w b h e n = absurd (let k : true ≡ false = sym e ∙ h refl in cc)

pub has_end : (size : ForestSize) (v : Seen) (r : ℕ) (w : JobWord) → IsSize size → IsDone (shape_of size) v.seen → IsAttached v r
    → IsWord v r w → w.body_ended ≡ true → is_ended w.state ≡ false → IsSome (end_from w w.state)
has_end size v r w s h a k b n =
    let j = job_seen size v r w s h a k in
    let sound = subst IsSoundRow j.1 ((kept size v.seen s h).families.rows r) in
    let st : j.0.state ≡ w.state = ap (λ (x : JobWord). x.state) j.2 in
    has_end_at w.state w j.0.body_ended (λ e. sound.running (ap is_running st ∙ e)) (ap (λ (x : JobWord). x.body_ended) j.2 ∙ b) n

some_left : (l : List ℕ) → 0 < length l → is_none_left l ≡ false
some_left [] lt = absurd (omega arith)
some_left (x ∷ xs) lt = refl

pub and_false : (a : Bool) → (a && false) ≡ false
and_false true = refl
and_false false = refl

pub not_done_body : (j : Job) (w : JobWord) → word_of j ≡ w → w.body_ended ≡ false → IsNotDone (Some j)
not_done_body j w e n = ap (λ b. b && is_none_left (living j)) (ap (λ (x : JobWord). x.body_ended) e ∙ n)

pub not_done_living : (j : Job) (w : JobWord) → word_of j ≡ w → 0 < w.living → IsNotDone (Some j)
not_done_living j w e lt = ap (λ b. j.body_ended && b) (some_left (living j)
    (let k : length (living j) ≡ w.living = ap (λ (x : JobWord). x.living) e in omega arith)) ∙ and_false j.body_ended

-- ---- owing

none_length : (l : List ℕ) → is_none_left l ≡ (length l == 0)
none_length [] = refl
none_length (x ∷ xs) = grind (arith, nat_tests)

-- the Job of a row just before its act
pub job_before : (size : ForestSize) (who row : ℕ) (old : JobWord) (act : JobAct) (v w : Seen) → IsSize size → v.key ≡ size → IsNarrow old
    → IsAttached v row → (a : ActedNow who row old act v w) → (j : Job) × ((store_of (a.before.seen ++ a.does.others)).tree row ≡ Some j)
    × (word_of j ≡ old)
job_before size who row old act v w s key n at a =
    let bkey : a.before.key ≡ size = a.goes.key ∙ key in
    let log : List Deed = a.before.seen ++ a.does.others in
    let h : IsDone (shape_of size) (log ++ Act (record { who = who; act = act }) ∷ []) =
    subst (λ (k : ForestSize). IsDone (shape_of k) (log ++ Act (record { who = who; act = act }) ∷ [])) bkey
    (subst (IsDone (shape_of a.before.key)) a.does.seen a.does.done) in
    let hl = (last_needs (shape_of size) log (Act (record { who = who; act = act })) h).0 in
    let att : is_some ((store_of log).tree row) ≡ true = lasts_more (λ x. is_some x ≡ true) attached_lasts size a.before.seen a.does.others
    row hl (attached_goes who [] v a.before row a.goes at) in
    read_word size log row old s hl att n (a.does.found.job row refl)

pub end_body_answer : (size : ForestSize) (who row value : ℕ) (old : JobWord) (v w : Seen) (e : Ended) → IsSize size → v.key ≡ size
    → IsAttached v row → ActedNow who row old (EndBody row value) v w → IsNarrow old → is_owed e ≡ (old.living == 0)
    → EndBodyAnswer who row value (floor_seen v) (floor_seen w) e
end_body_answer size who row value old v w e s key at a n o =
    let m = made_with who (EndBody row value) [] _ _ v a.before w a.goes a.does in
    let j = job_before size who row old (EndBody row value) v w s key n at a in
    let there : replay m.0.before row ≡ Some j.0 = ap (λ l. replay l row) m.1
    ∙ ap (λ (x : Tree). x row) (sym (tree_is (a.before.seen ++ a.does.others))) ∙ j.1 in
    record { made = m.0; owes = o ∙ sym (ap is_childless there ∙ none_length (living j.0) ∙ ap (λ (x : JobWord). x.living == 0) j.2) }

told_parent : (row : ℕ) (x : Option Job) → parent_of (option_map (with_told row) x) ≡ parent_of x
told_parent row None = refl
told_parent row (Some j) = refl

one_less : (n m : ℕ) → n + 1 ≡ m → (n == 0) ≡ (m == 1)
one_less n m e = grind (arith, nat_tests)

told_done : (row : ℕ) (j : Job) (w : JobWord) → word_of j ≡ w → length (living (with_told row j)) + 1 ≡ length (living j)
    → is_done (Some (with_told row j)) ≡ (w.body_ended && (w.living == 1))
told_done row j w e l =
    ap (λ b. j.body_ended && b) (none_length (living (with_told row j))
    ∙ one_less (length (living (with_told row j))) (length (living j)) l)
    ∙ ap (λ (x : JobWord). x.body_ended && (x.living == 1)) e

-- the Job of the parent just after a child of it was told gone
pub gone_answer : (size : ForestSize) (who row parent : ℕ) (old : JobWord) (u v w : Seen) (e : Ended) → IsSize size → v.key ≡ size
    → IsAttached v parent → Goes who [] u v → ActedNow who parent old (Gone row) v w → IsNarrow old
    → is_owed e ≡ (old.body_ended && (old.living == 1)) → parent_of ((store_of v.seen).tree row) ≡ Some parent
    → GoneAnswer who row (floor_seen u) (floor_seen w) e
gone_answer size who row parent old u v w e s key at g a n o pa =
    let act : JobAct = Gone row in
    let m = made_with who act [] _ _ u a.before w (goes_trans who [] [] u v a.before g a.goes) a.does in
    let j = job_before size who parent old act v w s key n at a in
    let log : List Deed = a.before.seen ++ a.does.others in
    let d : Deed = Act (record { who = who; act = act }) in
    let bkey : a.before.key ≡ size = a.goes.key ∙ key in
    let h : IsDone (shape_of size) (log ++ d ∷ []) = subst (λ (k : ForestSize). IsDone (shape_of k) (log ++ d ∷ [])) bkey
    (subst (IsDone (shape_of a.before.key)) a.does.seen a.does.done) in
    let l = last_needs (shape_of size) log d h in
    let families = (kept size log s l.0).families in
    let up : parent_of ((store_of log).tree row) ≡ Some parent =
    lasts_more (λ x. parent_of x ≡ Some parent) (parent_lasts parent) size a.before.seen a.does.others row l.0
    (lasts_goes (λ x. parent_of x ≡ Some parent) (parent_lasts parent) who [] v a.before row a.goes pa) in
    let may : MayTell who row (store_of log).tree = l.1.0 in
    let fewer = lives (store_of log).tree who row parent j.0 families may up j.1 in
    let tree1 : Tree = change parent (with_told row) (store_of log).tree in
    let after_is : replay (history_of w.seen) ≡ tree1 =
    sym (tree_is w.seen) ∙ ap (λ x. (store_of x).tree) a.does.seen ∙ ap (λ (x : Store). x.tree) (store_push log d)
    ∙ ap (λ o. change_parent o (with_told row) (store_of log).tree) up in
    let here : tree1 parent ≡ Some (with_told row j.0) = changed_job parent (with_told row) (store_of log).tree j.0 j.1 in
    let still : parent_of (tree1 row) ≡ Some parent = changed_at parent_of parent (with_told row) (store_of log).tree
    (λ x. told_parent row x) row ∙ up in
    let top : parent_row tree1 row ≡ Some (with_told row j.0) = ap (row_of tree1) still ∙ here in
    record {
      made = m.0;
      owes = o ∙ sym (ap (λ (x : Tree). is_done (parent_row x row)) after_is ∙ ap is_done top ∙ told_done row j.0 old j.2 fewer);
    }

-- ---- links

-- the parent that a link word names
pub link_parent : (size : ForestSize) (v : Seen) (row : ℕ) (w : LinkWord) → IsSize size → IsDone (shape_of size) v.seen → row ≢ 0
    → link_at (store_of v.seen).tree row ≡ Some w → parent_of ((store_of v.seen).tree row) ≡ Some w.parent
link_parent size v row w s h ne e = by_job ((store_of v.seen).tree row) refl e
  where
    tree : Tree
    tree = (store_of v.seen).tree

    up : (j : Job) → tree row ≡ Some j → (o : Option ℕ) → j.parent ≡ o → row_code j.parent ≡ w.parent → parent_of (tree row) ≡ Some w.parent
    up j is None p f = absurd (ne ((kept size v.seen s h).families.root row (ap is_some is) (ap parent_of is ∙ p)))
    up j is (Some q) p f = ap parent_of is ∙ p ∙ ap (λ n. Some n) (sym (ap row_code p) ∙ f)

    by_job : (x : Option Job) → tree row ≡ x → option_map (link_word_of (older_sibling tree row)) x ≡ Some w
        → parent_of (tree row) ≡ Some w.parent
    by_job None is f = cc
    by_job (Some j) is f = let k : link_word_of (older_sibling tree row) j ≡ w = cc
        in up j is j.parent refl (ap (λ (x : LinkWord). x.parent) k)

some_parent : (tree : Tree) (c : ℕ) (o : Option ℕ) → HasFamilies tree → is_among c (children_of (row_of tree o)) ≡ true → (p : ℕ)
    × (parent_of (tree c) ≡ Some p)
some_parent tree c None h a = absurd (let k : false ≡ true = a in cc)
some_parent tree c (Some p) h a = (p, h.parents p c a)

-- a child has a parent
child_parent : (size : ForestSize) (log : List Deed) → IsSize size → IsDone (shape_of size) log → (o : Option ℕ) (c : ℕ)
    → is_among c (children_of (row_of (store_of log).tree o)) ≡ true → (p : ℕ) × (parent_of ((store_of log).tree c) ≡ Some p)
child_parent size log s h o c a = some_parent (store_of log).tree c o (kept size log s h).families a

-- the root has none
abbrev IsRoot : Option Job → Type 0
IsRoot x = (is_some x ≡ true) × (parent_of x ≡ None)

root_lasts : Lasts IsRoot
root_lasts = record {
  child = λ r j live h. (refl, h.1);
  start = λ j n h. (refl, h.1);
  body = λ v j h. (refl, h.1);
  cancel = λ cause j c h. (refl, h.1);
  finish = λ who end j m h. (refl, h.1);
  told = λ c j h. (refl, h.1);
  attached = λ h x. absurd (none h.0);
}
  where
    none : false ≡ true → ⊥
    none e = cc

first_root : IsRoot ((store_of []).tree 0)
unfolding store_from
first_root = (refl, refl)

pub root_attached : (size : ForestSize) (log : List Deed) → IsDone (shape_of size) log → is_some ((store_of log).tree 0) ≡ true
root_attached size log h = (lasts_more IsRoot root_lasts size [] log 0 h first_root).0

pub root_parent : (size : ForestSize) (log : List Deed) → IsSize size → IsDone (shape_of size) log
    → parent_of ((store_of log).tree 0) ≡ None
root_parent size log s h = (lasts_more IsRoot root_lasts size [] log 0 h first_root).1

older_at_all : (P : ℕ → Type 0) (o : Option ℕ) (r : ℕ) (l : List ℕ) (d : ℕ) → ((c : ℕ) → o ≡ Some c → P c)
    → ((c : ℕ) → is_among c l ≡ true → P c) → older_after o r l ≡ Some d → P d
older_at_all P o r [] d h k e = cc
older_at_all P o r (c ∷ cs) d h k e = by_test (r == c) e
    (older_at_all P (Some c) r cs d (λ x f. let m : c ≡ x = cc
    in subst P m (k c (ap (λ b. b || is_among c cs) (same c)))) (λ x a. k x (or_right (x == c) (is_among x cs) a)))
  where
    by_test : (b : Bool) → (if b then o else older_after (Some c) r cs) ≡ Some d → (older_after (Some c) r cs ≡ Some d → P d) → P d
    by_test true f rest = h d f
    by_test false f rest = rest f

root_no_child : (size : ForestSize) (log : List Deed) → IsSize size → IsDone (shape_of size) log → (l : List ℕ)
    → ((c : ℕ) → is_among c l ≡ true → (p : ℕ) × (parent_of ((store_of log).tree c) ≡ Some p)) → (r d : ℕ) → older r l ≡ Some d → d ≡ 0 → ⊥
root_no_child size log s h l k r d e z =
    older_at_all (λ c. c ≡ 0 → ⊥) None r l d (λ c f. absurd (let m : None ≡ Some c = f in cc)) (λ c a y. let p = k c a
    in let m : None ≡ Some p.0 = sym (root_parent size log s h) ∙ ap (λ n. parent_of ((store_of log).tree n)) (sym y) ∙ p.1 in cc) e z

-- the link that a link word gives
pub link_answer : (size : ForestSize) (who row : ℕ) (v w : Seen) (x : LinkWord) (next : Option ℕ) → IsSize size
    → IsDone (shape_of size) w.seen → row ≢ 0 → Sees who v w → link_at (store_of w.seen).tree row ≡ Some x → row_code next ≡ x.next
    → (next ≡ None → x.next ≡ 0) → ((d : ℕ) → next ≡ Some d → d ≢ 0)
    → LinkAnswer who row (floor_seen v) (floor_seen w) (record { parent = x.parent; next = next; tag = x.tag })
link_answer size who row v w x next s h ne sees e n none some =
    let g = sees_goes who v w sees in (
      looked who [] v w g,
      last_step who v w (λ tree. link_of tree row (tree row) ≡
          Some (record { parent = x.parent; next = next; tag = x.tag })) g (by_job ((store_of w.seen).tree row) refl e),
    )
  where
    tree : Tree
    tree = (store_of w.seen).tree

    same_next : (o p : Option ℕ) → row_code o ≡ row_code p → ((d : ℕ) → o ≡ Some d → d ≢ 0) → ((d : ℕ) → p ≡ Some d → d ≢ 0) → o ≡ p
    same_next None None f a b = refl
    same_next None (Some d) f a b = absurd (b d refl (sym f))
    same_next (Some c) None f a b = absurd (a c refl f)
    same_next (Some c) (Some d) f a b = ap (λ n. Some n) f

    older_some : (d : ℕ) → older_sibling tree row ≡ Some d → d ≢ 0
    older_some d f z = root_no_child size w.seen s h (children_of (parent_row tree row))
        (λ c a. child_parent size w.seen s h (parent_of (tree row)) c a) row d f z

    by_job : (y : Option Job) → tree row ≡ y → option_map (link_word_of (older_sibling tree row)) y ≡ Some x
        → link_of tree row y ≡ Some (record { parent = x.parent; next = next; tag = x.tag })
    by_job None is f = cc
    by_job (Some j) is f =
        let k : link_word_of (older_sibling tree row) j ≡ x = cc in
        let p : j.parent ≡ Some x.parent = ap parent_of (sym is) ∙ link_parent size w row x s h ne e in
        let o : older_sibling tree row ≡ next = same_next (older_sibling tree row) next (ap (λ (z : LinkWord). z.next) k
        ∙ sym n) older_some some in
        ap (λ q. link_from q (older_sibling tree row) j.tag) p ∙ (λ i. Some (record { parent = x.parent; next = o i; tag = (k i).tag }))
