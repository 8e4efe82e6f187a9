-- At the end of a run the parent of a Job that failed and is no scope is a supervisor, Cancelling or Cancelled.
use Rattle.std.proofs.Common.{◌≡◌, ◌≢◌, ℕ, Bool, true, false, not, ◌&&◌, List, [], ◌∷◌, ◌++◌, refl, ap, sym, ◌∙◌, subst, inl, inr, ◌⊎◌, ⊎_elim, Option, Some, None, if◌then◌else◌}
use Rattle.std.specs.Prelude.{◌==◌, ◌||◌, map, MatchBool}
use Rattle.std.proofs.lemmas.Bool.{eqb-true, both_ways, false_from_ne_true, not_from_false, or_right, and_from, and_parts, or_cases}
use Rattle.channel_model.specs.declared.acts.Entry.{Entry}
use Rattle.job_model.specs.declared.acts.Cause.{Cause}
use Rattle.job_model.specs.declared.acts.Cause.TheVariants as because
use Rattle.job_model.specs.declared.acts.JobState.{JobState}
use Rattle.job_model.specs.declared.acts.JobState.TheVariants.{New, Cancelling, Cancelled, Completed}
use Rattle.job_model.specs.declared.acts.Reason.{Reason}
use Rattle.job_model.specs.declared.acts.Reason.TheVariants as reasons
use Rattle.job_model.specs.declared.acts.JobAct.{JobAct}
use Rattle.job_model.specs.declared.acts.JobAct.TheVariants.{Attach, Cancel}
use Rattle.job_model.specs.declared.acts.JobEntry.{JobEntry}
use Rattle.job_model.specs.Effects.{after, first_cause}
use Rattle.job_model.specs.Trees.{Job, Tree, root, start, parent_of, tag_of, is_ended, is_cancelled, is_cancellable, is_failure}
use Rattle.job_model.specs.Needs.{IsFailedChild}
use Rattle.job_model.specs.Laws.{HasFamilies}
use Rattle.job_model.specs.Families.{IsEnded, IsCancellingOrEnded}
use Rattle.job_model.specs.Histories.{replay, replay_from, Legal, LegalFrom}
use Rattle.job_model.proofs.Histories.{Legal-prefix}
use Rattle.job_model.proofs.Steps.{RowStep, row_step}
use Rattle.job_model.proofs.Sound.{body_cancelled, end_cancelled}
use Rattle.job_model.proofs.Lasting.{Lasts, act_keeps, history_keeps}
use Rattle.job_model.proofs.Ends.{child_ended}
use Rattle.job_model.proofs.Families.{replay_families}
use Rattle.job_model.specs.Cancels.{own_cancel, IsCancelBelow, AreCancelsBelow}
use Rattle.job_model.specs.Failures.{FailsUp, StaysBelow, IsScope, IsSupervisor}
use Rattle.note_book.specs.declared.book.Item.{Item}
use Rattle.call_meaning.specs.Telling.{Told, on_jobs, JobFact, PassedBelow, FailedUp, did}
use Rattle.call_meaning.specs.Facts.{IsAlive}
use Rattle.script_grammar.specs.Programs.{Program}
use Rattle.script_meaning.specs.Shapes.{job_shape}
use Rattle.script_meaning.specs.Rest.{BearsFailures}
use Rattle.script_meaning.specs.Books.{BooksOf}
use Rattle.script_meaning.proofs.Debts.{Exists, exists_first, exists_later, exists_right}
use Rattle.script_meaning.proofs.Payments.{AllPaid}
use Rattle.script_meaning.proofs.JobPieces.{job_told, JobPiece, IsMild, IsOwnReason}
use Rattle.script_meaning.proofs.JobStories.{JobHolds}
use Rattle.script_meaning.proofs.JobDebts.{parents_in, IsParent, IsUp, IsFor, AreFor, AllKnown, known_left, known_right, JobPaid, JobDebt, paid_then, paid_quiet, nobody_owes, needs_there}
use Rattle.script_laws.proofs.BelowCancelled.{chain_calm, is_row, row_is, row_same, exists_parts, AllTakenBy, paid_by_last}
use Rattle.script_laws.proofs.EndedJobsTold.{parts_of, not_before}
use Rattle.script_laws.proofs.DoneJobsEnded.{other_part}

abbrev pub failed_at : ℕ → Option Job → Bool
failed_at q None = false
failed_at q (Some j) = is_row q j.parent && (is_failure j.cause && not j.kind.scoped)

abbrev pub bears : Option Job → Bool
bears None = false
bears (Some j) = j.kind.supervisor || is_cancelled j.state

-- a child of q that is no scope failed, and q does not bear it
abbrev pub owes_failure : ℕ → ℕ → Tree → Bool
owes_failure r q tree = failed_at q (tree r) && not (bears (tree q))

abbrev pub RaisesByReason : ℕ → ℕ → ℕ → Reason → Type 0
RaisesByReason r k q (reasons.Child c) = q ≡ r
RaisesByReason r k q (reasons.Own f) = (q ≡ r) × (r ≡ k)
RaisesByReason r k q other = ⊥

abbrev pub RaisesFailure : ℕ → ℕ → JobAct → Type 0
RaisesFailure r k (Cancel q reason) = RaisesByReason r k q reason
RaisesFailure r k other = ⊥

abbrev pub IsChild : Reason → Type 0
IsChild (reasons.Child c) = Unit {0}
IsChild other = ⊥

abbrev pub IsChildCancelOf : ℕ → JobAct → Type 0
IsChildCancelOf r (Cancel q reason) = (q ≡ r) × IsChild reason
IsChildCancelOf r other = ⊥

abbrev pub TakenUp : ℕ → JobFact → Type 0
TakenUp r (FailedUp row acts) = (row ≡ r) ⊎ Exists (IsChildCancelOf r) acts
TakenUp r other = ⊥

abbrev pub TakesFailure : ℕ → JobAct → Told → Type 0
TakesFailure r a (on_jobs fact) = TakenUp r fact
TakesFailure r a other = ⊥

-- ---- what is told

abbrev pub FailurePaid : ℕ → ℕ → ℕ → List Told → Type 0
FailurePaid k r q told = JobPaid k (owes_failure r q) (RaisesFailure r k) (TakesFailure r) told

-- cancels of Jobs below raise nothing
below_mild : (r k : ℕ) (t : Told) (acts : List JobAct) → AreFor IsParent acts → AllTakenBy (RaisesFailure r k) (TakesFailure r) t acts
unfolding AreFor AllTakenBy
below_mild r k t [] h = tt
below_mild r k t (a ∷ acts) h = (one a h.0, below_mild r k t acts h.1)
  where
    by_reason : (q : ℕ) (reason : Reason) → IsParent reason → RaisesByReason r k q reason → TakesFailure r a t
    by_reason q (reasons.Child c) h x = absurd h
    by_reason q (reasons.Own f) h x = absurd h
    by_reason q other h x = absurd x

    one : (b : JobAct) → IsFor IsParent b → RaisesFailure r k b → TakesFailure r a t
    one (Cancel q reason) h x = by_reason q reason h x
    one other h x = absurd h

own_mild : (r k row : ℕ) (reason : Reason) (newly : Bool) → (newly ≡ true → RaisesByReason r k row reason → ⊥)
    → (t : Told) (below : List JobAct) → AreFor IsParent below
    → AllTakenBy (RaisesFailure r k) (TakesFailure r) t (own_cancel newly row reason ++ below)
unfolding AllTakenBy
own_mild r k row reason true n t below h = (λ x. absurd (n refl x), below_mild r k t below h)
own_mild r k row reason false n t below h = below_mild r k t below h

mild_reason : (r k row : ℕ) (reason : Reason) (newly : Bool) → IsMild k row reason newly → newly ≡ true → RaisesByReason r k row reason
    → row ≢ k ⊎ (reason ≡ reasons.Request)
mild_reason r k row reason newly (IsMild.had_been e) t x = absurd (both_ways newly e t)
mild_reason r k row reason newly (IsMild.asked e) t x = inr e
mild_reason r k row reason newly (IsMild.of_scope n) t x = inl n

-- the own reason of a pass is Request, or Own
not_raised : (r k row : ℕ) (reason : Reason) (newly : Bool) → IsMild k row reason newly → IsOwnReason reason → newly ≡ true
    → RaisesByReason r k row reason → ⊥
not_raised r k row (reasons.Child c) newly m o t x = o
not_raised r k row (reasons.Own f) newly m o t x = ⊎_elim (λ (n : row ≢ k). n (x.0 ∙ x.1)) (λ (e : reasons.Own f ≡ reasons.Request). cc)
    (mild_reason r k row (reasons.Own f) newly m t x)
not_raised r k row other newly m o t x = x

up_takes : (r k : ℕ) (t : Told) (acts : List JobAct) → (Exists (IsChildCancelOf r) acts → (a : JobAct) → TakesFailure r a t)
    → AreFor IsUp acts → AllTakenBy (RaisesFailure r k) (TakesFailure r) t acts
unfolding AreFor AllTakenBy
up_takes r k t [] all h = tt
up_takes r k t (a ∷ acts) all h = (
  λ x. all (exists_first (IsChildCancelOf r) a acts (one a h.0 x)) a,
  up_takes r k t acts (λ x b. all (exists_later (IsChildCancelOf r) a acts x) b) h.1,
)
  where
    by_reason : (q : ℕ) (reason : Reason) → IsUp reason → RaisesByReason r k q reason → (q ≡ r) × IsChild reason
    by_reason q (reasons.Child c) h x = (x, tt)
    by_reason q (reasons.Own f) h x = absurd h
    by_reason q other h x = absurd x

    one : (b : JobAct) → IsFor IsUp b → RaisesFailure r k b → IsChildCancelOf r b
    one (Cancel q reason) h x = by_reason q reason h x
    one other h x = absurd h

failure_pieces : (p : Program) (jobs : List JobEntry) (r q k : ℕ) (g : List Told) → AllKnown (parents_in jobs) g → JobPiece p k g
    → FailurePaid k r q g
unfolding AllPaid AllKnown
failure_pieces p jobs r q k _ h (JobPiece.quiet g s) = paid_quiet k (owes_failure r q) (RaisesFailure r k) (TakesFailure r) g s
failure_pieces p jobs r q k g h (JobPiece.passes row reason newly _ m o t) =
    let known = known_right (parents_in jobs) (map did (own_cancel newly row reason ++ t.below)) (on_jobs (PassedBelow row t.below) ∷ [])
    (subst (AllKnown (parents_in jobs)) t.all h) in
    subst (FailurePaid k r q) (sym t.all) (paid_by_last k (owes_failure r q) (RaisesFailure r k) (TakesFailure r)
    (on_jobs (PassedBelow row t.below)) (own_cancel newly row reason
    ++ t.below) refl (own_mild r k row reason newly (not_raised r k row reason newly m o) (on_jobs (PassedBelow row t.below)) t.below
    known.0.1))
failure_pieces p jobs r q k g h (JobPiece.fails f up pass _ t e) =
    let all = subst (AllKnown (parents_in jobs)) e h in
    let first = known_right (parents_in jobs) (map did (own_cancel true k (reasons.Own f) ++ t.below))
    (on_jobs (PassedBelow k t.below) ∷ []) (subst (AllKnown (parents_in jobs)) t.all (known_left (parents_in jobs) pass _ all)) in
    let second = known_right (parents_in jobs) (map did up) (on_jobs (FailedUp k up) ∷ []) (known_right (parents_in jobs) pass _ all) in
    let rest : FailurePaid k r q (map did up ++ on_jobs (FailedUp k up) ∷ []) =
    paid_by_last k (owes_failure r q) (RaisesFailure r k) (TakesFailure r) (on_jobs (FailedUp k up)) up refl
    (up_takes r k (on_jobs (FailedUp k up)) up (λ x a. inr x) second.0.1) in
    let below : FailurePaid k r q (map did t.below ++ on_jobs (PassedBelow k t.below) ∷ []) =
    paid_by_last k (owes_failure r q) (RaisesFailure r k) (TakesFailure r) (on_jobs (PassedBelow k t.below)) t.below refl
    (below_mild r k (on_jobs (PassedBelow k t.below)) t.below first.0.1) in
    let shape : g ≡ did (Cancel k (reasons.Own f)) ∷ ((map did t.below ++ on_jobs (PassedBelow k t.below) ∷ [])
    ++ (map did up ++ on_jobs (FailedUp k up) ∷ [])) = e ∙ ap (λ l. l ++ (map did up ++ on_jobs (FailedUp k up) ∷ [])) t.all in
    subst (FailurePaid k r q) (sym shape) (
      λ (x : (k ≡ r) × (r ≡ k)). exists_right (TakesFailure r (Cancel k (reasons.Own f))) (map did t.below
          ++ on_jobs (PassedBelow k t.below) ∷ []) _ (exists_right (TakesFailure r (Cancel k (reasons.Own f))) (map did up) _
          (exists_first (TakesFailure r (Cancel k (reasons.Own f))) (on_jobs (FailedUp k up)) [] (inl x.0))),
      paid_then k (owes_failure r q) (RaisesFailure r k) (TakesFailure r) (map did t.below
          ++ on_jobs (PassedBelow k t.below) ∷ []) _ below rest,
    )
failure_pieces p jobs r q k _ h (JobPiece.ends_body row v chain t) = (
  λ x. absurd x,
  chain_calm p k (owes_failure r q) (RaisesFailure r k) (TakesFailure r) (λ row end x. x) (λ row x. x) row chain t,
)
failure_pieces p jobs r q k _ h other = (λ x. absurd x, tt)

-- ---- what takes it away

bears_lasts : Lasts (λ x. bears x ≡ true)
bears_lasts = record {
  child = λ r j n h. h;
  start = λ j n h. new_bears j.kind.supervisor j.state n h;
  body = λ v j h. ap (λ b. j.kind.supervisor || b) (sym (body_cancelled j.state)) ∙ h;
  cancel = λ cause j n h. or_right j.kind.supervisor true refl;
  finish = λ who end j m h. ap (λ b. j.kind.supervisor || b) (sym (end_cancelled j.state j end m.2)) ∙ h;
  told = λ c j h. h;
  attached = λ h x. cc;
}
  where
    new_bears : (b : Bool) (s : JobState) → s ≡ New → (b || is_cancelled s) ≡ true → (b || false) ≡ true
    new_bears true s n h = refl
    new_bears false s n h = sym (ap is_cancelled n) ∙ h

no_debt : (tree : Tree) (r q : ℕ) → (failed_at q (tree r) ≡ true → bears (tree q) ≡ true) → owes_failure r q tree ≡ false
no_debt tree r q h = false_from_ne_true _ (λ k. let both = parts_of (failed_at q (tree r)) (bears (tree q)) k
    in both_ways (bears (tree q)) both.1 (h both.0))

third : (a b c : Bool) → (a && (b && not c)) ≡ true → c ≡ false
third a b c h = (parts_of b c (and_parts a (b && not c) h).1).1

failed_parent : (q : ℕ) (o : Option Job) → failed_at q o ≡ true → parent_of o ≡ Some q
failed_parent q None h = cc
failed_parent q (Some j) h = row_is q j.parent (and_parts (is_row q j.parent) _ h).0

failed_plain : (q : ℕ) (o : Option Job) → failed_at q o ≡ true → IsScope true o → ⊥
failed_plain q None h s = s
failed_plain q (Some j) h s = both_ways j.kind.scoped (third (is_row q j.parent) (is_failure j.cause) j.kind.scoped h) s

alive_ended : (o : Option Job) → IsAlive o → IsEnded o → ⊥
alive_ended None a e = a
alive_ended (Some j) a e = both_ways (is_ended j.state) a e

alive_bears : (o : Option Job) → IsCancellingOrEnded o → (IsEnded o → ⊥) → (bears o ≡ true) × IsAlive o
alive_bears None c n = absurd c
alive_bears (Some j) c n = at j.kind.supervisor j.state c n
  where
    at : (b : Bool) (s : JobState) → is_cancellable s ≡ false → (is_ended s ≡ true → ⊥) → ((b || is_cancelled s) ≡ true)
        × (is_ended s ≡ false)
    at b Cancelling c n = (or_right b true refl, refl)
    at b Cancelled c n = absurd (n refl)
    at b Completed c n = absurd (n refl)
    at b other c n = cc

supervisor_bears : (o : Option Job) → IsSupervisor true o → bears o ≡ true
supervisor_bears None s = absurd s
supervisor_bears (Some j) s = ap (λ b. b || is_cancelled j.state) s

same_parent : (o : Option ℕ) (p q : ℕ) → o ≡ Some p → o ≡ Some q → p ≡ q
same_parent o p q a b = let e : Some p ≡ Some q = sym a ∙ b in cc

no_child_below : (tree : Tree) (row r : ℕ) (acts : List JobAct) → AreCancelsBelow tree row acts → Exists (IsChildCancelOf r) acts → ⊥
unfolding Exists
no_child_below tree row r [] h x = x
no_child_below tree row r (a ∷ acts) h x = ⊎_elim (λ (y : IsChildCancelOf r a). one a h.0 y)
    (λ (y : Exists (IsChildCancelOf r) acts). no_child_below tree row r acts h.1 y) x
  where
    one : (b : JobAct) → IsCancelBelow tree row b → IsChildCancelOf r b → ⊥
    one (Cancel q reason) h y = subst IsChild h.0 y.1
    one (Attach p q kind tag c) h y = h
    one other h y = h

-- where a failure goes up from a Job that has not ended, all to which it comes bear it
up_bears : (tree : Tree) → HasFamilies tree → (parent_of (tree 0) ≡ None) → (r q row : ℕ) (acts : List JobAct) → FailsUp tree row acts
    → IsAlive (tree row) → (row ≡ r) ⊎ Exists (IsChildCancelOf r) acts → owes_failure r q tree ≡ false
unfolding Exists
up_bears tree fam top r q _ _ (FailsUp.ends row s) alive c =
    ⊎_elim (λ (i : row ≡ r). subst (λ u. owes_failure u q tree ≡ false) i (by_end row s)) (λ (x : Exists (IsChildCancelOf r) []). absurd x)
    c
  where
    by_end : (u : ℕ) → StaysBelow tree u → owes_failure u q tree ≡ false
    by_end _ StaysBelow.root = no_debt tree 0 q (λ f. let e : None ≡ Some q = sym top ∙ failed_parent q (tree 0) f in cc)
    by_end _ (StaysBelow.scope u s) = no_debt tree u q (λ f. absurd (failed_plain q (tree u) f s))
    by_end _ (StaysBelow.supervised u p e s) = no_debt tree u q
        (λ f. subst (λ n. bears (tree n) ≡ true) (same_parent (parent_of (tree u)) p q e (failed_parent q (tree u) f))
        (supervisor_bears (tree p) s))
up_bears tree fam top r q _ _ (FailsUp.stops row p acts g a b) alive c =
    let up = alive_bears (tree p) a.here (λ e. alive_ended (tree row) alive (child_ended tree p row fam e g.parent)) in
    ⊎_elim (λ (i : row ≡ r). subst (λ u. owes_failure u q tree ≡ false) i
    (no_debt tree row q (λ f. subst (λ n. bears (tree n) ≡ true)
    (same_parent (parent_of (tree row)) p q g.parent (failed_parent q (tree row) f)) up.0)))
    (λ (x : Exists (IsChildCancelOf r) acts). absurd (no_child_below tree p r acts b x)) c
up_bears tree fam top r q row acts (FailsUp.goes_on _ p these later _ g a b f e) alive c =
    let up = alive_bears (tree p) a.here (λ n. alive_ended (tree row) alive (child_ended tree p row fam n g.parent)) in
    ⊎_elim (λ (i : row ≡ r). subst (λ u. owes_failure u q tree ≡ false) i
    (no_debt tree row q (λ h. subst (λ n. bears (tree n) ≡ true)
    (same_parent (parent_of (tree row)) p q g.parent (failed_parent q (tree row) h)) up.0)))
    (λ (x : Exists (IsChildCancelOf r) acts). ⊎_elim (λ (i : (p ≡ r)
    × IsChild (reasons.Child row)). up_bears tree fam top r q p later f up.1 (inl i.0))
    (λ (z : Exists (IsChildCancelOf r) (these ++ later)). ⊎_elim
    (λ (u : Exists (IsChildCancelOf r) these). absurd (no_child_below tree p r these b u))
    (λ (u : Exists (IsChildCancelOf r) later). up_bears tree fam top r q p later f up.1 (inr u))
    (exists_parts (IsChildCancelOf r) these later z)) (subst (Exists (IsChildCancelOf r)) e x)) c

-- the root has no parent, for good
abbrev pub IsTop : Option Job → Type 0
IsTop None = ⊥
IsTop (Some j) = j.parent ≡ None

top_lasts : Lasts IsTop
top_lasts = record {
  child = λ r j n h. h;
  start = λ j n h. h;
  body = λ v j h. h;
  cancel = λ c j n h. h;
  finish = λ w e j m h. h;
  told =
      λ c j h. h;
  attached = λ h x. absurd h;
}

top_parent : (o : Option Job) → IsTop o → parent_of o ≡ None
top_parent None h = absurd h
top_parent (Some j) h = h

no_parent : (shape : _) (history : List JobEntry) → Legal shape history → parent_of (replay history 0) ≡ None
no_parent shape history l = top_parent (replay history 0) (history_keeps IsTop top_lasts shape start history 0 l refl)

failure_by_fact : (shape : _) (r q : ℕ) (at : List JobEntry) → Legal shape at → (fact : JobFact) → JobHolds (on_jobs fact) at
    → TakenUp r fact → owes_failure r q (replay at) ≡ false
failure_by_fact shape r q at l (FailedUp row acts) h c =
    up_bears (replay at) (replay_families shape at l) (no_parent shape at l) r q row acts h.0 h.1 c
failure_by_fact shape r q at l other h c = absurd c

failure_by_told : (shape : _) (r q : ℕ) (a : JobAct) (t : Told) (at : List JobEntry) → Legal shape at → JobHolds t at → TakesFailure r a t
    → owes_failure r q (replay at) ≡ false
failure_by_told shape r q a (on_jobs fact) at l h t = failure_by_fact shape r q at l fact h t
failure_by_told shape r q a other at l h t = absurd t

no_act : (r : ℕ) (a : JobAct) (t : Told) (b : JobAct) → job_told t ≡ Some b → TakesFailure r a t → ⊥
no_act r a (on_jobs fact) b m t = cc
no_act r a other b m t = t

-- ---- which act raises it

-- a Job that is no scope has the row of its tag
abbrev pub TagFits : ℕ → Option Job → Type 0
TagFits r None = Unit {0}
TagFits r (Some j) = j.kind.scoped ≡ false → r ≡ j.tag

no_scope : (A B : Type 0) (b : Bool) → MatchBool b A B → b ≡ false → B
no_scope A B true m e = cc
no_scope A B false m e = m

tag_step : (shape : _) (tree : Tree) (who r : ℕ) (act : JobAct) (x y : Option Job) → RowStep shape tree who r act x y → TagFits r x
    → TagFits r y
tag_step shape tree who r _ _ _ (RowStep.is_attached p kind tag cancelled m i) h = λ e. no_scope _ _ kind.scoped i e
tag_step shape tree who r _ _ _ other h = h

tags_from : (shape : _) (tree : Tree) (es : List JobEntry) (r : ℕ) → LegalFrom shape tree es → TagFits r (tree r)
    → TagFits r (replay_from tree es r)
unfolding LegalFrom replay_from
tags_from shape tree [] r l h = h
tags_from shape tree (e ∷ es) r l h = tags_from shape (after tree e.who e.act) es r l.1
    (tag_step shape tree e.who r e.act _ _ (row_step shape tree e.who e.act r l.0) h)

first_tag : (r : ℕ) (b : Bool) → (r == 0) ≡ b → TagFits r (if b then Some root else None)
first_tag r true q = λ e. eqb-true r 0 q
first_tag r false q = tt

tag_fits : (shape : _) (history : List JobEntry) (r : ℕ) → Legal shape history → TagFits r (replay history r)
tag_fits shape history r l = tags_from shape start history r l (first_tag r (r == 0) refl)

not_failure : (q : ℕ) (parent : Option ℕ) (cause : Cause) (b : Bool) → is_failure cause ≡ false
    → (is_row q parent && (is_failure cause && b)) ≡ true → ⊥
not_failure q parent cause b f h = both_ways (is_failure cause) f (and_parts (is_failure cause) b (and_parts (is_row q parent) _ h).1).0

first_is_none : (b : Bool) → is_failure (first_cause b) ≡ false
first_is_none true = refl
first_is_none false = refl

tag_is : (j : Job) (o : Option Job) (n : ℕ) → o ≡ Some j → tag_of o ≡ Some n → j.tag ≡ n
tag_is j o n e t = let k : Some j.tag ≡ Some n = sym (ap tag_of e) ∙ t in cc

failure_raised : (shape : _) (tree : Tree) (who r q : ℕ) (act : JobAct) (x y : Option Job) → RowStep shape tree who r act x y → tree r ≡ x
    → TagFits r x → failed_at q x ≡ false → failed_at q y ≡ true → RaisesFailure r who act
failure_raised shape tree who r q _ _ _ (RowStep.is_attached p kind tag cancelled m i) is fits f t =
    absurd (not_failure q (Some p) (first_cause cancelled) (not kind.scoped) (first_is_none cancelled) t)
failure_raised shape tree who r q _ _ _ (RowStep.is_cancelled (reasons.Child c) j m o) is fits f t = refl
failure_raised shape tree who r q _ _ _ (RowStep.is_cancelled (reasons.Own g) j m o) is fits f t =
    (refl, fits (third (is_row q j.parent) true j.kind.scoped t) ∙ tag_is j (tree r) who is o.0)
failure_raised shape tree who r q _ _ _ (RowStep.is_cancelled other j m o) is fits f t =
    absurd (not_failure q j.parent because.Request (not j.kind.scoped) refl t)
failure_raised shape tree who r q act x y other is fits f t = absurd (both_ways (failed_at q x) f t)

of_start : (q : ℕ) (b x : Bool) → (failed_at q (if b then Some root else None) && x) ≡ false
of_start q true x = refl
of_start q false x = refl

failure_debt : (p : Program) (jobs : List JobEntry) → Legal (job_shape p) jobs → (r q : ℕ) → JobDebt p jobs
failure_debt p jobs l r q = record {
  owes = owes_failure r q;
  Raises = λ k. RaisesFailure r k;
  Takes = TakesFailure r;
  first = of_start q (r == 0) _;
  rises = λ before e rest parts f t.
      let needs = needs_there (job_shape p) jobs before e rest l parts in
      let now = parts_of (failed_at q (after (replay before) e.who e.act r)) (bears (after (replay before) e.who e.act q)) t in
      failure_raised (job_shape p) (replay before) e.who r q e.act _ _ (row_step (job_shape p) (replay before) e.who e.act r needs) refl
      (tag_fits (job_shape p) before r (Legal-prefix (job_shape p) before (e ∷ rest) (subst (Legal (job_shape p)) parts l)))
      (not_before (failed_at q (replay before r)) (bears (replay before q)) f
      (λ b. both_ways _ now.1 (act_keeps (λ x. bears x ≡ true) bears_lasts (job_shape p) (replay before) e.who e.act q needs b))) now.0;
  pieces = λ k g h s. failure_pieces p jobs r q k g h s;
  by_fact = λ a t at more parts h m x. failure_by_told (job_shape p) r q a t at
      (Legal-prefix (job_shape p) at more (subst (Legal (job_shape p)) (sym parts) l)) h x;
  by_act = λ a t b m x before rest e parts is. absurd (no_act r a t b m x);
}

is_failed : (q : ℕ) (o : Option Job) → IsFailedChild q o → failed_at q o ≡ true
is_failed q None h = absurd h
is_failed q (Some j) h = and_from (is_row q j.parent) _ (row_same q j.parent h.0)
    (and_from (is_failure j.cause) _ h.1 (not_from_false j.kind.scoped h.2))

borne : (o : Option Job) → bears o ≡ true → BearsFailures o
borne None h = cc
borne (Some j) h = or_cases j.kind.supervisor (is_cancelled j.state) h

-- the parent of a Job that failed and is no scope bears it
pub failed : (p : Program) (books : List (List Item)) (channels : List Entry) (jobs : List JobEntry) → BooksOf p books channels jobs
    → (r parent : ℕ) → IsFailedChild parent (replay jobs r) → BearsFailures (replay jobs parent)
unfolding failure_debt
failed p books channels jobs of r parent h = borne (replay jobs parent)
    (other_part (failed_at parent (replay jobs r)) (bears (replay jobs parent))
    (nobody_owes p books channels jobs of (failure_debt p jobs of.legal_jobs r parent)) (is_failed parent (replay jobs r) h))
