-- The rows after an act.
use Rattle.std.specs.Prelude.{◌≡◌, ℕ, zero, suc, ◌+◌, ◌-◌, ◌==◌, ◌<◌, ◌≤◌, nat_lt, Bool, true, false, not, List, [], ◌∷◌, length, Option, Some, None, option_map, is_some, if◌then◌else◌, refl}
use Rattle.std.specs.List.{IsDistinct}
use Rattle.std.proofs.Common.{sym, ap, ◌∙◌, subst, arith}
use Rattle.std.proofs.lemmas.Bool.Decides.{nat_tests}
use Rattle.std.proofs.lemmas.List.Sums.{length-filter, count_by-le-length}
use Rattle.std.proofs.lemmas.Map.Steps.{length-le_from_distinct_below}
use Rattle.job_model.specs.declared.acts.JobKind.{JobKind}
use Rattle.job_model.specs.declared.acts.JobState.TheVariants.{New}
use Rattle.job_model.specs.declared.acts.Cause.{Cause}
use Rattle.job_model.specs.declared.acts.Reason.{Reason}
use Rattle.job_model.specs.declared.acts.Reason.TheVariants as reasons
use Rattle.job_model.specs.declared.acts.End.{End}
use Rattle.job_model.specs.declared.acts.JobAct.{JobAct}
use Rattle.job_model.specs.declared.acts.JobAct.TheVariants.{Attach, Start, EndBody, Cancel, Finish, Gone}
use Rattle.job_model.specs.Acts.{tells}
use Rattle.job_model.specs.Trees.{IsShape, Job, Shape, Tree, is_among, living, parent_of, parent_row, row_of, state_of, was_told}
use Rattle.job_model.specs.Effects.{after, cancelled_for, cause_of, cause_of_reason, change, change_parent, ended_by, new_child, put_row, started, with_child, with_told, without_body}
use Rattle.job_model.specs.Families.{children_of}
use Rattle.job_model.specs.Laws.{HasFamilies}
use Rattle.job_model.specs.Needs.{MayBeCancelled, MayEndBody, MayFinish, MayHaveChild, Needs}
use Rattle.job_model.proofs.Ends.{told_only}
use Rattle.job_model.proofs.Families.{after_families}
use Rattle.job_model.proofs.RowMarks.{tell_mark, listed_some, finished_some}
use Rattle.job_model.proofs.Siblings.{kept_last, living_told, not_told}
use Rattle.job_replay.specs.declared.job_row.JobRow.{JobRow}
use Rattle.job_replay.specs.Rows.{AreGoneIn, AreRowsOf, StandsFor, bit_in, cause_in, item_in, one_more, parent_in, row_of_job}
use Rattle.job_replay.specs.Changes.{Attaches, Changed, Changes, Lessens, Puts, Sets, bodiless_row, cancelled_row, cause_for, ended_row, started_row, with_less, with_more}
use Rattle.job_replay.proofs.May.{parent_is}
use Rattle.job_model.proofs.Ranks.{has_parent}
use Rattle.job_model.proofs.Short.{row_within as child_within}
use Rattle.job_model.proofs.Steps.{not_named}

-- ---- which rows there are

pub item_within : {X : Type 0} (xs : List (Option X)) (i : ℕ) → is_some (item_in xs i) ≡ true → i < length xs
item_within [] i e = cc
item_within (x ∷ xs) zero e = omega arith
item_within (x ∷ xs) (suc i) e = let k : i < length xs = item_within xs i e in omega arith

attached_item : (x : Option Job) → is_some x ≡ true → is_some (option_map row_of_job x) ≡ true
attached_item None e = cc
attached_item (Some j) e = refl

row_within : (tree : Tree) (xs : List (Option JobRow)) (r : ℕ) → AreRowsOf tree xs → is_some (tree r) ≡ true → r < length xs
row_within tree xs r are e = item_within xs r (ap is_some (are r) ∙ attached_item (tree r) e)

-- ---- a row that changes

mapped : (f : Job → Job) (g : JobRow → JobRow) (x : Option Job) → ((j : Job) → x ≡ Some j → row_of_job (f j) ≡ g (row_of_job j))
    → option_map g (option_map row_of_job x) ≡ option_map row_of_job (option_map f x)
mapped f g None h = refl
mapped f g (Some j) h = ap (λ u. Some u) (sym (h j refl))

changed_rows : (tree : Tree) (r : ℕ) (f : Job → Job) (g : JobRow → JobRow) (xs ys : List (Option JobRow)) → AreRowsOf tree xs
    → is_some (tree r) ≡ true → ((j : Job) → tree r ≡ Some j → row_of_job (f j) ≡ g (row_of_job j)) → Changes r g xs ys
    → AreRowsOf (change r f tree) ys
changed_rows tree r f g xs ys are some h put q = by_test (r == q) (put.rows (row_within tree xs r are some) q)
  where
    by_test : (b : Bool) → item_in ys q ≡ (if b then option_map g (item_in xs r) else item_in xs q)
        → item_in ys q ≡ option_map row_of_job (if b then option_map f (tree r) else tree q)
    by_test true p = p ∙ ap (option_map g) (are r) ∙ mapped f g (tree r) h
    by_test false p = p ∙ are q

put_rows : (tree : Tree) (r : ℕ) (j : Job) (xs ys : List (Option JobRow)) → AreRowsOf tree xs → r < length xs
    → Puts r (Some (row_of_job j)) xs ys → AreRowsOf (put_row r (Some j) tree) ys
put_rows tree r j xs ys are lt put q = by_test (r == q) (put.rows lt q)
  where
    by_test : (b : Bool) → item_in ys q ≡ (if b then Some (row_of_job j) else item_in xs q)
        → item_in ys q ≡ option_map row_of_job (if b then Some j else tree q)
    by_test true p = p
    by_test false p = p ∙ are q

-- ---- bits

same_bits : (a b : Bool) → (a ≡ true → b ≡ true) → (b ≡ true → a ≡ true) → a ≡ b
same_bits true b h k = sym (h refl)
same_bits false true h k = k refl
same_bits false false h k = refl

told_is : (shape : Shape) (tree : Tree) (who : ℕ) (act : JobAct) (r : ℕ) → HasFamilies tree → Needs shape tree who act
    → tells r act ≡ false → was_told r (parent_row tree r) ≡ was_told r (parent_row (after tree who act) r)
told_is shape tree who act r h n e =
    same_bits (was_told r (parent_row tree r)) (was_told r (parent_row (after tree who act) r))
    (λ t. tell_mark.kept shape tree who act r n t)
    (λ t. told_only shape tree who act r h n (parent_of (after tree who act r)) refl t e)

same_gone : (shape : Shape) (tree : Tree) (who : ℕ) (act : JobAct) (gone gone' : List Bool) → HasFamilies tree → Needs shape tree who act
    → ((r : ℕ) → tells r act ≡ false) → AreGoneIn tree gone → gone' ≡ gone → AreGoneIn (after tree who act) gone'
same_gone shape tree who act gone gone' h n none are is r =
    ap (λ l. bit_in l r) is ∙ are r ∙ told_is shape tree who act r h n (none r)

more_gone : (shape : Shape) (tree : Tree) (who r : ℕ) (gone gone' : List Bool) → HasFamilies tree → Needs shape tree who (Gone r)
    → r < length gone → AreGoneIn tree gone → Sets r gone gone' → AreGoneIn (after tree who (Gone r)) gone'
more_gone shape tree who r gone gone' h n lt are set q = by_test (r == q) refl (set.bits lt q)
  where
    here : (u v : ℕ) → (u == v) ≡ true → (v == u) ≡ true
    here u v k = grind (arith, nat_tests)

    by_test : (b : Bool) → (r == q) ≡ b → bit_in gone' q ≡ (if b then true else bit_in gone q)
        → bit_in gone' q ≡ was_told q (parent_row (after tree who (Gone r)) q)
    by_test true e p = p ∙ sym (tell_mark.sets shape tree who (Gone r) q h n (here r q e))
    by_test false e p = p ∙ are q ∙ told_is shape tree who (Gone r) q h n (not_named r q e)

-- ---- who is there

started_some : (x : Option Job) → state_of x ≡ Some New → is_some x ≡ true
started_some None e = cc
started_some (Some j) e = refl

body_some : (who : ℕ) (x : Option Job) → MayEndBody who x → is_some x ≡ true
body_some who None m = absurd m
body_some who (Some j) m = refl

cancelled_some : (x : Option Job) → MayBeCancelled x → is_some x ≡ true
cancelled_some None m = absurd m
cancelled_some (Some j) m = refl

finish_some : (end : End) (x : Option Job) → MayFinish end x → is_some x ≡ true
finish_some end None m = absurd m
finish_some end (Some j) m = refl

parent_some : (cancelled : Bool) (x : Option Job) → MayHaveChild cancelled x → is_some x ≡ true
parent_some cancelled None m = absurd m
parent_some cancelled (Some j) m = refl

-- ---- how many children live

few_children : (tree : Tree) (xs : List (Option JobRow)) (p : ℕ) → HasFamilies tree → AreRowsOf tree xs
    → length (children_of (tree p)) ≤ length xs
few_children tree xs p h are =
    length-le_from_distinct_below (children_of (tree p)) (length xs) (h.once p)
    (λ c e. row_within tree xs c are (has_parent (tree c) p (h.parents p c e)))

few_living : (j : Job) → length (living j) ≤ length j.children
few_living j = omega
    (arith, length-filter (λ c. not (is_among c j.told)) j.children, count_by-le-length (λ c. not (is_among c j.told)) j.children)

grown : (n : ℕ) → n < 4294967295 → one_more n ≡ n + 1
grown n lt = ap (λ b. if b then n + 1 else n) (less n lt)
  where
    less : (n : ℕ) → n < 4294967295 → nat_lt n 4294967295 ≡ true
    less n lt = grind (arith, nat_tests)

child_row : (r : ℕ) (j : Job) → is_among r j.told ≡ false → length (living j) < 4294967295
    → row_of_job (with_child r j) ≡ with_more (row_of_job j)
child_row r j e lt = ap (λ n. record (row_of_job j) { living = n })
    (kept_last (λ c. not (is_among c j.told)) r j.children (ap not e) ∙ sym (grown (length (living j)) lt))

told_row : (r : ℕ) (j : Job) → length (living (with_told r j)) + 1 ≡ length (living j)
    → row_of_job (with_told r j) ≡ with_less (row_of_job j)
told_row r j e = ap (λ n. record (row_of_job j) { living = n }) (less (length (living (with_told r j))) (length (living j)) e)
  where
    less : (m n : ℕ) → m + 1 ≡ n → m ≡ n - 1
    less m n e = omega arith

-- ---- each act

same_cause : (tree : Tree) (xs : List (Option JobRow)) (reason : Reason) → AreRowsOf tree xs
    → cause_of_reason tree reason ≡ cause_for xs reason
same_cause tree xs (reasons.Child c) are = sym (ap cause_in (are c) ∙ of_row (tree c))
  where
    of_row : (x : Option Job) → cause_in (option_map row_of_job x) ≡ cause_of x
    of_row None = refl
    of_row (Some j) = refl
same_cause tree xs other are = refl

told_rows : (tree : Tree) (r : ℕ) (xs ys : List (Option JobRow)) (o : Option ℕ) → HasFamilies tree → AreRowsOf tree xs
    → parent_of (tree r) ≡ o → was_told r (row_of tree o) ≡ false → Lessens o xs ys → AreRowsOf (change_parent o (with_told r) tree) ys
told_rows tree r xs ys None h are e t less = λ q. ap (λ l. item_in l q) less ∙ are q
told_rows tree r xs ys (Some p) h are e t less =
    changed_rows tree p (with_told r) with_less xs ys are (listed_some r (tree p) (h.listed p r e))
    (λ j is. told_row r j (living_told r j
    (subst (λ x. IsDistinct (λ (u : ℕ) (v : ℕ). u == v) (children_of x)) is (h.once p))
    (ap (λ x. is_among r (children_of x)) (sym is) ∙ h.listed p r e) (ap (was_told r) (sym is) ∙ t))) less

told_count : (o : Option ℕ) (xs ys : List (Option JobRow)) → Lessens o xs ys → length ys ≡ length xs
told_count None xs ys less = ap length less
told_count (Some p) xs ys less = less.count

attached_rows : (shape : Shape) (tree : Tree) (who p r : ℕ) (kind : JobKind) (tag : ℕ) (cancelled : Bool) (xs ys : List (Option JobRow))
    → IsShape shape → shape.rows ≤ 65535 → length xs ≡ shape.rows → HasFamilies tree → AreRowsOf tree xs
    → Needs shape tree who (Attach p r kind tag cancelled) → Attaches p r (row_of_job (new_child p kind tag cancelled)) xs ys
    → AreRowsOf (after tree who (Attach p r kind tag cancelled)) ys
attached_rows shape tree who p r kind tag cancelled xs ys s few count h are n a =
    let within = child_within shape who kind tag r s n.2 n.3 in
    let above = a.above.count in
    put_rows (change p (with_child r) tree) r (new_child p kind tag cancelled) a.mid ys
    (changed_rows tree p (with_child r) with_more xs a.mid are (parent_some cancelled (tree p) n.1)
    (λ j is. child_row r j (ap (was_told r) (sym is) ∙ not_told tree p r h n.0)
    (let k : length j.children ≤ length xs = subst (λ x. length (children_of x) ≤ length xs) is (few_children tree xs p h are) in
    let l = few_living j in omega (arith, k, l, count, few))) a.above)
    (omega (arith, within, above, count)) a.below

-- ---- all

pub stands_after : (shape : Shape) (tree : Tree) (who : ℕ) (act : JobAct) (xs ys : List (Option JobRow)) (gone gone' : List Bool)
    → IsShape shape → shape.rows ≤ 65535 → StandsFor shape.rows tree xs gone → Needs shape tree who act → Changed who act xs ys gone gone'
    → StandsFor shape.rows (after tree who act) ys gone'
stands_after shape tree who (Attach p r kind tag cancelled) xs ys gone gone' s few h n c = record {
  rows_count = c.0.below.count ∙ c.0.above.count ∙ h.rows_count;
  gone_count = ap length c.1 ∙ h.gone_count;
  rows_are = attached_rows shape tree who p r kind tag cancelled xs ys s few h.rows_count h.families h.rows_are n c.0;
  gone_are = same_gone shape tree who (Attach p r kind tag cancelled) gone gone' h.families n (λ q. refl) h.gone_are c.1;
  families = after_families shape tree who (Attach p r kind tag cancelled) n h.families;
}
stands_after shape tree who (Start r) xs ys gone gone' s few h n c = record {
  rows_count = c.0.count ∙ h.rows_count;
  gone_count = ap length c.1 ∙ h.gone_count;
  rows_are = changed_rows tree r started started_row xs ys h.rows_are (started_some (tree r) n) (λ j is. refl) c.0;
  gone_are = same_gone shape tree who (Start r) gone gone' h.families n (λ q. refl) h.gone_are c.1;
  families = after_families shape tree who (Start r) n h.families;
}
stands_after shape tree who (EndBody r v) xs ys gone gone' s few h n c = record {
  rows_count = c.0.count ∙ h.rows_count;
  gone_count = ap length c.1 ∙ h.gone_count;
  rows_are = changed_rows tree r (without_body v) (bodiless_row v) xs ys h.rows_are (body_some who (tree r) n) (λ j is. refl) c.0;
  gone_are = same_gone shape tree who (EndBody r v) gone gone' h.families n (λ q. refl) h.gone_are c.1;
  families = after_families shape tree who (EndBody r v) n h.families;
}
stands_after shape tree who (Cancel r reason) xs ys gone gone' s few h n c = record {
  rows_count = c.0.count ∙ h.rows_count;
  gone_count = ap length c.1 ∙ h.gone_count;
  rows_are = changed_rows tree r (cancelled_for (cause_of_reason tree reason)) (cancelled_row (cause_for xs reason)) xs ys h.rows_are
      (cancelled_some (tree r) n.0)
      (λ j is. ap (λ (u : Cause). cancelled_row u (row_of_job j)) (same_cause tree xs reason h.rows_are)) c.0;
  gone_are = same_gone shape tree who (Cancel r reason) gone gone' h.families n (λ q. refl) h.gone_are c.1;
  families = after_families shape tree who (Cancel r reason) n h.families;
}
stands_after shape tree who (Finish r end) xs ys gone gone' s few h n c = record {
  rows_count = c.0.count ∙ h.rows_count;
  gone_count = ap length c.1 ∙ h.gone_count;
  rows_are = changed_rows tree r (ended_by who end) (ended_row who end) xs ys h.rows_are (finish_some end (tree r) n) (λ j is. refl) c.0;
  gone_are = same_gone shape tree who (Finish r end) gone gone' h.families n (λ q. refl) h.gone_are c.1;
  families = after_families shape tree who (Finish r end) n h.families;
}
stands_after shape tree who (Gone r) xs ys gone gone' s few h n c =
    let parent : parent_in (item_in xs r) ≡ parent_of (tree r) = ap parent_in (h.rows_are r) ∙ parent_is (tree r) in
    let less : Lessens (parent_of (tree r)) xs ys = subst (λ o. Lessens o xs ys) parent c.0 in
    let within = row_within tree xs r h.rows_are (finished_some who (tree r) n.0) in
    let rows_count = h.rows_count in
    let gone_count = h.gone_count in
    record {
      rows_count = told_count (parent_of (tree r)) xs ys less ∙ h.rows_count;
      gone_count = c.1.count ∙ h.gone_count;
      rows_are = told_rows tree r xs ys (parent_of (tree r)) h.families h.rows_are refl n.1 less;
      gone_are = more_gone shape tree who r gone gone' h.families n (omega (arith, within, rows_count, gone_count)) h.gone_are c.1;
      families = after_families shape tree who (Gone r) n h.families;
    }
