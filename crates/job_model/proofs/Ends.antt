-- What the tree says by its entries, and that children end before their parent.
use Rattle.std.specs.Prelude.{◌≡◌, ℕ, ◌==◌, Bool, true, false, not, ◌||◌, List, [], ◌∷◌, ◌++◌, filter, Option, Some, None, option_map, is_some, if◌then◌else◌, refl}
use Rattle.std.proofs.Common.{sym, ap, ◌∙◌, subst}
use Rattle.std.proofs.Math.Bool.{or_assoc}
use Rattle.std.proofs.lemmas.Bool.{eqb-true, not-false}
use Rattle.job_model.specs.declared.acts.JobState.TheVariants.{Cancelled, Completed}
use Rattle.job_model.specs.declared.acts.JobState.{JobState}
use Rattle.job_model.specs.declared.acts.End.{End}
use Rattle.job_model.specs.declared.acts.End.TheVariants as ends
use Rattle.job_model.specs.declared.acts.JobAct.{JobAct}
use Rattle.job_model.specs.declared.acts.JobAct.TheVariants.{Finish}
use Rattle.job_model.specs.declared.acts.JobEntry.{JobEntry}
use Rattle.job_model.specs.Trees.{Shape, Job, Tree, root, start, is_ended, is_among, is_none_left, parent_of, parent_row, row_of, was_told}
use Rattle.job_model.specs.Acts.{attaches, ends_body, finishes, tells}
use Rattle.job_model.specs.Effects.{after, first_state, state_after_body, ended_by}
use Rattle.job_model.specs.Needs.{Needs, MayFinish, MayHaveChild}
use Rattle.job_model.specs.Families.{IsBelow, IsEnded, children_of}
use Rattle.job_model.specs.Histories.{replay, replay_from, Legal, LegalFrom}
use Rattle.job_model.specs.Laws.{HasFamilies, IsSoundRow, has, has_ended_body, has_ended, IsByEntries}
use Rattle.job_model.proofs.Steps.{RowStep, row_step}
use Rattle.job_model.proofs.Histories.{replay-append, Legal-append, LegalFrom-cons, replay_from-cons}
use Rattle.job_model.proofs.Lasting.{act_keeps, ended_lasts}
use Rattle.job_model.proofs.Families.{after_families, start_families, replay_families, at_start, told_was, parent_was, changed_here}
use Rattle.job_model.proofs.Rows.{same}
use Rattle.job_model.proofs.Marks.{IsMark, attach_mark}
use Rattle.job_model.proofs.RowMarks.{body_mark, finish_mark, tell_mark}
use Rattle.job_model.proofs.Claims.{attached_was}
use Rattle.job_model.proofs.Spans.{or_nothing}

-- ---- by entries

-- a mark that nothing but these acts makes
pub record IsOnlyMark (acts : ℕ → JobAct → Bool) (mark : Tree → ℕ → Bool) : Type 0 where
  pub is_mark : IsMark acts mark
  pub only : (shape : Shape) (tree : Tree) (who : ℕ) (act : JobAct) (r : ℕ) → HasFamilies tree → Needs shape tree who act
      → mark (after tree who act) r ≡ true → acts r act ≡ false → mark tree r ≡ true

true_or : (a b c : Bool) → (a ≡ true → c ≡ true) → (b ≡ true → c ≡ true) → (c ≡ true → b ≡ false → a ≡ true) → c ≡ (a || b)
true_or true b c h k l = h refl
true_or false true c h k l = k refl
true_or false false true h k l = sym (l refl refl)
true_or false false false h k l = refl

marked_from : (acts : ℕ → JobAct → Bool) (mark : Tree → ℕ → Bool) → IsOnlyMark acts mark
    → (shape : Shape) (tree : Tree) (es : List JobEntry) (r : ℕ) → HasFamilies tree → LegalFrom shape tree es
    → mark (replay_from tree es) r ≡ (mark tree r || has acts r es)
unfolding LegalFrom replay_from
marked_from acts mark k shape tree [] r h l = or_nothing (mark tree r)
marked_from acts mark k shape tree (e ∷ es) r h l =
    marked_from acts mark k shape (after tree e.who e.act) es r (after_families shape tree e.who e.act l.0 h) l.1
    ∙ ap (λ b. b || has acts r es) (true_or (mark tree r) (acts r e.act) (mark (after tree e.who e.act) r)
    (λ m. k.is_mark.kept shape tree e.who e.act r l.0 m) (λ m. k.is_mark.sets shape tree e.who e.act r h l.0 m)
    (λ m n. k.only shape tree e.who e.act r h l.0 m n))
    ∙ or_assoc (mark tree r) (acts r e.act) (has acts r es)

some_only : (shape : Shape) (tree : Tree) (who : ℕ) (act : JobAct) (r : ℕ) → Needs shape tree who act
    → is_some (after tree who act r) ≡ true → attaches r act ≡ false → is_some (tree r) ≡ true
some_only shape tree who act r n m e = attached_was shape tree who r act _ _ _ (row_step shape tree who act r n) m (λ o. o)
    (λ f. absurd (let k : true ≡ false = sym f ∙ e in cc))

body_only : (shape : Shape) (tree : Tree) (who q : ℕ) (act : JobAct) (x y : Option Job) → RowStep shape tree who q act x y
    → has_ended_body y ≡ true → ends_body q act ≡ false → has_ended_body x ≡ true
body_only shape tree who q _ _ _ (RowStep.is_attached p kind tag cancelled m i) h e = cc
body_only shape tree who q _ _ _ (RowStep.has_child r kind tag cancelled j none m) h e = h
body_only shape tree who q _ _ _ (RowStep.is_started j n) h e = h
body_only shape tree who q _ _ _ (RowStep.body_ends v j m) h e = absurd (let k : true ≡ false = sym (same q) ∙ e in cc)
body_only shape tree who q _ _ _ (RowStep.is_cancelled reason j m o) h e = h
body_only shape tree who q _ _ _ other h e = h

pub not_first : (cancelled lazy : Bool) → is_ended (first_state cancelled lazy) ≡ true → ⊥
not_first true lazy e = cc
not_first false true e = cc
not_first false false e = cc

pub ended_before_body : (s : JobState) → is_ended (state_after_body s) ≡ true → is_ended s ≡ true
ended_before_body Cancelled e = refl
ended_before_body Completed e = refl
ended_before_body other e = cc

end_only : (shape : Shape) (tree : Tree) (who q : ℕ) (act : JobAct) (x y : Option Job) → RowStep shape tree who q act x y
    → has_ended y ≡ true → finishes q act ≡ false → has_ended x ≡ true
end_only shape tree who q _ _ _ (RowStep.is_attached p kind tag cancelled m i) h e = absurd (not_first cancelled kind.lazy h)
end_only shape tree who q _ _ _ (RowStep.is_started j n) h e = cc
end_only shape tree who q _ _ _ (RowStep.body_ends v j m) h e = ended_before_body j.state h
end_only shape tree who q _ _ _ (RowStep.is_cancelled reason j m o) h e = cc
end_only shape tree who q _ _ _ (RowStep.ends end j m) h e = absurd (let k : true ≡ false = sym (same q) ∙ e in cc)
end_only shape tree who q _ _ _ other h e = h

pub told_only : (shape : Shape) (tree : Tree) (who : ℕ) (act : JobAct) (r : ℕ) → HasFamilies tree → Needs shape tree who act
    → (o : Option ℕ) → parent_of (after tree who act r) ≡ o → was_told r (row_of (after tree who act) o) ≡ true → tells r act ≡ false
    → was_told r (parent_row tree r) ≡ true
told_only shape tree who act r k n None e h f = cc
told_only shape tree who act r k n (Some p) e h f =
    told_was shape tree who p r act _ _ _ (row_step shape tree who act p n) h
    (λ o. parent_was shape tree who r p act _ _ _ (row_step shape tree who act r n) e
    (λ q. ap (λ u. was_told r (row_of tree u)) q ∙ o)
    (λ kind tag cancelled g. absurd (newly (subst (Needs shape tree who) g n).0 o)))
    (λ g by. absurd (let m : true ≡ false = sym (ap (tells r) g ∙ same r) ∙ f in cc))
  where
    newly : tree r ≡ None → was_told r (tree p) ≡ true → ⊥
    newly none o = subst IsEnded none (k.gone p r o)

attach_only : IsOnlyMark attaches (λ tree r. is_some (tree r))
attach_only = record { is_mark = attach_mark; only = λ shape tree who act r h n m e. some_only shape tree who act r n m e }

bodiless_only : IsOnlyMark ends_body (λ tree r. has_ended_body (tree r))
bodiless_only = record {
  is_mark = body_mark;
  only = λ shape tree who act r h n m e. body_only shape tree who r act _ _
      (row_step shape tree who act r n) m e;
}

finish_only : IsOnlyMark finishes (λ tree r. has_ended (tree r))
finish_only = record {
  is_mark = finish_mark;
  only = λ shape tree who act r h n m e. end_only shape tree who r act _ _
      (row_step shape tree who act r n) m e;
}

tell_only : IsOnlyMark tells (λ tree r. was_told r (parent_row tree r))
tell_only = record {
  is_mark = tell_mark;
  only = λ shape tree who act r h n m e. told_only shape tree who act r h n
      (parent_of (after tree who act r)) refl m e;
}

start_attached : (r : ℕ) → is_some (start r) ≡ (r == 0)
start_attached r = by_test (r == 0)
  where
    by_test : (b : Bool) → is_some (if b then Some root else None) ≡ b
    by_test true = refl
    by_test false = refl

pub start_told : (r : ℕ) (o : Option ℕ) → was_told r (row_of start o) ≡ false
start_told r None = refl
start_told r (Some p) = at_start (λ x. was_told r x ≡ false) refl refl p

pub by_entries : (shape : Shape) (history : List JobEntry) (r : ℕ) → Legal shape history → IsByEntries r history (replay history)
by_entries shape history r l = record {
  attached = marked_from attaches _ attach_only shape start history r start_families l
      ∙ ap (λ b. b || has attaches r history) (start_attached r);
  bodiless = marked_from ends_body _ bodiless_only shape start history r start_families l
      ∙ ap (λ b. b || has ends_body r history) (at_start (λ x. has_ended_body x ≡ false) refl refl r);
  ended = marked_from finishes _ finish_only shape start history r start_families l
      ∙ ap (λ b. b || has finishes r history) (at_start (λ x. has_ended x ≡ false) refl refl r);
  told = marked_from tells _ tell_only shape start history r start_families l
      ∙ ap (λ b. b || has tells r history) (start_told r (parent_of (start r)));
}

-- ---- children of an ended Job

nothing_lives : (f : ℕ → Bool) (c : ℕ) (l : List ℕ) → is_none_left (filter f l) ≡ true → is_among c l ≡ true → f c ≡ false
nothing_lives f c [] n a = cc
nothing_lives f c (x ∷ xs) n a = by_test (f x) refl n (λ k m. nothing_lives f c xs k m)
  where
    by_place : (b : Bool) → (c == x) ≡ b → f x ≡ false → (b || is_among c xs) ≡ true → (is_among c xs ≡ true → f c ≡ false) → f c ≡ false
    by_place true e g m rest = ap f (eqb-true c x e) ∙ g
    by_place false e g m rest = rest m

    by_test : (b : Bool) → f x ≡ b → is_none_left (if b then x ∷ filter f xs else filter f xs) ≡ true
        → (is_none_left (filter f xs) ≡ true → is_among c xs ≡ true → f c ≡ false) → f c ≡ false
    by_test true g k rest = cc
    by_test false g k rest = by_place (c == x) refl g a (rest k)

told_of_childless : (c : ℕ) (x : Option Job) → IsEnded x → IsSoundRow x → is_among c (children_of x) ≡ true → was_told c x ≡ true
told_of_childless c None e h a = absurd e
told_of_childless c (Some j) e h a = not-false (is_among c j.told)
    (nothing_lives (λ d. not (is_among d j.told)) c j.children (h.childless e) a)

-- a child of an ended Job has ended
pub child_ended : (tree : Tree) (p c : ℕ) → HasFamilies tree → IsEnded (tree p) → parent_of (tree c) ≡ Some p → IsEnded (tree c)
child_ended tree p c h e q = h.gone p c (told_of_childless c (tree p) e (h.rows p) (h.listed p c q))

below_ended : (tree : Tree) (p d : ℕ) → HasFamilies tree → IsEnded (tree p) → IsBelow tree p d → IsEnded (tree d)
below_ended tree p d h e (IsBelow.is_child _ q) = child_ended tree p d h e q
below_ended tree p d h e (IsBelow.is_further c _ b q) = child_ended tree c d h (below_ended tree p c h e b) q

pub descendants_ended : (shape : Shape) (history : List JobEntry) (p d : ℕ) → Legal shape history → IsEnded (replay history p)
    → IsBelow (replay history) p d → IsEnded (replay history d)
descendants_ended shape history p d l e b = below_ended (replay history) p d (replay_families shape history l) e b

-- ---- a child's Finish stands before its parent's

-- nobody becomes a child of an ended Job
parent_before : (shape : Shape) (tree : Tree) (es : List JobEntry) (p c : ℕ) → LegalFrom shape tree es → IsEnded (tree p)
    → parent_of (replay_from tree es c) ≡ Some p → parent_of (tree c) ≡ Some p
unfolding LegalFrom replay_from
parent_before shape tree [] p c l e h = h
parent_before shape tree (x ∷ xs) p c l e h =
    parent_was shape tree x.who c p x.act _ _ _ (row_step shape tree x.who x.act c l.0)
    (parent_before shape (after tree x.who x.act) xs p c l.1 (act_keeps IsEnded ended_lasts shape tree x.who x.act p l.0 e) h)
    (λ q. q)
    (λ kind tag cancelled g. absurd (not_taken (tree p) cancelled e (subst (Needs shape tree x.who) g l.0).1))
  where
    not_taken : (y : Option Job) (cancelled : Bool) → IsEnded y → MayHaveChild cancelled y → ⊥
    not_taken None cancelled e m = e
    not_taken (Some j) cancelled e m = let k : true ≡ false = sym e ∙ m.0 in cc

finished_now : (who : ℕ) (end : End) (x : Option Job) → MayFinish end x → IsEnded (option_map (ended_by who end) x)
finished_now who end None m = absurd m
finished_now who (ends.Completed v) (Some j) m = refl
finished_now who (ends.Cancelled cause) (Some j) m = refl

pub ended_is : (x : Option Job) → IsEnded x → has_ended x ≡ true
ended_is None e = absurd e
ended_is (Some j) e = e

-- a Job that may finish has no child that has not ended
child_before : (tree : Tree) (p c : ℕ) (end : End) → HasFamilies tree → MayFinish end (tree p) → parent_of (tree c) ≡ Some p
    → IsEnded (tree c)
child_before tree p c end h m q = h.gone p c (told_of_done c (tree p) m (h.listed p c q))
  where
    told_of_done : (c : ℕ) (x : Option Job) → MayFinish end x → is_among c (children_of x) ≡ true → was_told c x ≡ true
    told_of_done c None m a = absurd m
    told_of_done c (Some j) m a = not-false (is_among c j.told) (nothing_lives (λ d. not (is_among d j.told)) c j.children m.1 a)

pub children_first : (shape : Shape) (xs ys : List JobEntry) (who p c : ℕ) (end : End)
    → Legal shape (xs ++ record { who = who; act = Finish p end } ∷ ys)
    → parent_of (replay (xs ++ record { who = who; act = Finish p end } ∷ ys) c) ≡ Some p → has finishes c xs ≡ true
children_first shape xs ys who p c end l q =
    let parts = (Legal-append shape xs (record { who = who; act = Finish p end } ∷ ys)).0 l in
    let rest = LegalFrom-cons shape (replay xs) (record { who = who; act = Finish p end }) ys parts.1 in
    let ended : IsEnded (after (replay xs) who (Finish p end) p) =
    subst IsEnded (sym (changed_here p (ended_by who end) (replay xs))) (finished_now who end (replay xs p) rest.0) in
    let whole : replay (xs ++ record { who = who; act = Finish p end } ∷ ys) ≡ replay_from (after (replay xs) who (Finish p end)) ys =
    replay-append xs (record { who = who; act = Finish p end } ∷ ys)
    ∙ replay_from-cons (replay xs) (record { who = who; act = Finish p end }) ys in
    let later : parent_of (after (replay xs) who (Finish p end) c) ≡ Some p =
    parent_before shape (after (replay xs) who (Finish p end)) ys p c rest.1 ended (ap (λ (t : Tree). parent_of (t c)) (sym whole)
    ∙ q) in
    let before : parent_of (replay xs c) ≡ Some p = parent_was shape (replay xs) who c p (Finish p end) _ _ _
    (row_step shape (replay xs) who (Finish p end) c rest.0) later (λ u. u) (λ kind tag cancelled g. cc) in
    sym (by_entries shape xs c parts.0).ended ∙ ended_is (replay xs c)
    (child_before (replay xs) p c end (replay_families shape xs parts.0) rest.0 before)
