-- The cause of a Job that is cancelled for a reason.
use Rattle.std.specs.Prelude.{◌≡◌, ℕ, true, List, [], ◌++◌, Option, Some, None, is_some, refl}
use Rattle.std.proofs.Common.{sym, ap, ◌∙◌, subst}
use Rattle.job_model.specs.declared.acts.JobState.{JobState}
use Rattle.job_model.specs.declared.acts.JobState.TheVariants.{Cancelling, Cancelled}
use Rattle.job_model.specs.declared.acts.Cause.{Cause}
use Rattle.job_model.specs.declared.acts.Cause.TheVariants as because
use Rattle.job_model.specs.declared.acts.Reason.{Reason}
use Rattle.job_model.specs.declared.acts.Reason.TheVariants as reasons
use Rattle.job_model.specs.Trees.{Job, Tree, is_cancelled, is_failure}
use Rattle.job_model.specs.Effects.{cause_of, cause_of_reason}
use Rattle.job_model.specs.Needs.{Holds, IsFailedChild}
use Rattle.job_model.specs.Histories.{replay, Legal}
use Rattle.job_model.specs.Laws.{is_cause, IsSoundRow}
use Rattle.job_model.proofs.Lasting.{Lasts}
use Rattle.job_model.proofs.Sound.{body_cancelled, end_cancelled}
use Rattle.job_model.proofs.Reasons.{reason_holds_on, new_not_cancelled, cancelled_not_cancellable}
use Rattle.word_rules.specs.declared.job_word.JobWord.{JobWord}
use Rattle.word_rules.specs.declared.size.ForestSize.{ForestSize}
use Rattle.word_rules.specs.declared.deed.Deed.{Deed}
use Rattle.word_rules.specs.Rows.{cause_code, cause_from, rest_of, word_of}
use Rattle.word_rules.specs.Deeds.{shape_of, IsSize, history_of, store_of, IsDone, IsSmall, IsSmallRow}
use Rattle.job_words.specs.Passes.{Seen, Sees, Goes}
use Rattle.job_words.specs.Attaches.{IsAttached, IsWord}
use Rattle.job_words.specs.Acts.{IsCauseOf}
use Rattle.job_words.proofs.DeedsAddUp.{tree_is, is_legal, history-append}
use Rattle.job_words.proofs.StepsAsCalls.{sees_goes}
use Rattle.job_words.proofs.StoreStaysSound.{kept}
use Rattle.job_words.proofs.MayExchange.{lasts_more}
use Rattle.job_words.proofs.LostExchangesGrow.{attached_goes}
use Rattle.job_words.proofs.PartsOfAnAttach.{job_seen, goes_done, attached_sees, sees_done}
use Rattle.job_words.proofs.ActsOnOneWord.{cause_back}

-- the Job was cancelled by this failure
abbrev Failing : ℕ → Option Job → Type 0
Failing f None = ⊥
Failing f (Some j) = (j.cause ≡ because.Failure f) × (is_cancelled j.state ≡ true)

failing_lasts : (f : ℕ) → Lasts (Failing f)
failing_lasts f = record {
  child = λ r j live h. h;
  start = λ j n h. absurd (new_not_cancelled j.state n h.1);
  body = λ v j h. (h.0, sym (body_cancelled j.state) ∙ h.1);
  cancel = λ cause j c h. absurd (cancelled_not_cancellable j.state c h.1);
  finish = λ who end j m h. (h.0, sym (end_cancelled j.state j end m.2) ∙ h.1);
  told = λ c j h. h;
  attached = λ h x. absurd h;
}

failing_of : (r : ℕ) (x : Option Job) → IsFailedChild r x → IsSoundRow x → (f : ℕ) × Failing f x
failing_of r None h s = absurd h
failing_of r (Some j) h s = by_cause j.cause refl h.1
  where
    by_cause : (c : Cause) → j.cause ≡ c → is_failure c ≡ true → (f : ℕ) × Failing f (Some j)
    by_cause because.None e k = cc
    by_cause because.Request e k = cc
    by_cause (because.Failure f) e k = (f, (e, sym (sym (ap is_cause e) ∙ s.caused)))

failing_cause : (f : ℕ) (x : Option Job) → Failing f x → cause_of x ≡ because.Failure f
failing_cause f None h = absurd h
failing_cause f (Some j) h = h.0

-- a cause that a reason gives is given later too
pub cause_more : (size : ForestSize) (xs ys : List Deed) (who row : ℕ) (reason : Reason) → IsSize size → IsDone (shape_of size) xs
    → IsDone (shape_of size) (xs ++ ys) → Holds (shape_of size) (store_of xs).tree who row reason
    → cause_of_reason (store_of (xs ++ ys)).tree reason ≡ cause_of_reason (store_of xs).tree reason
cause_more size xs ys who row (reasons.Child c) s hx h o =
    let f = failing_of row ((store_of xs).tree c) o.0 ((kept size xs s hx).families.rows c) in
    failing_cause f.0 ((store_of (xs ++ ys)).tree c) (lasts_more (Failing f.0) (failing_lasts f.0) size xs ys c h f.1)
    ∙ sym (failing_cause f.0 ((store_of xs).tree c) f.1)
cause_more size xs ys who row other s hx h o = refl

pub holds_more : (size : ForestSize) (xs ys : List Deed) (who row : ℕ) (reason : Reason) → IsDone (shape_of size) (xs ++ ys)
    → Holds (shape_of size) (store_of xs).tree who row reason → Holds (shape_of size) (store_of (xs ++ ys)).tree who row reason
holds_more size xs ys who row reason h o =
    subst (λ (x : Tree). Holds (shape_of size) x who row reason) (sym (tree_is (xs ++ ys) ∙ ap replay (history-append xs ys)))
    (reason_holds_on (shape_of size) (history_of xs) (history_of ys) who row reason
    (subst (Legal (shape_of size)) (history-append xs ys) (is_legal (shape_of size) (xs ++ ys) h))
    (subst (λ (x : Tree). Holds (shape_of size) x who row reason) (tree_is xs) o))

pub cause_goes : (size : ForestSize) (who row : ℕ) (reason : Reason) (rows : List ℕ) (v w : Seen) (c : Cause) → IsSize size → v.key ≡ size
    → IsDone (shape_of v.key) v.seen → Goes who rows v w → IsCauseOf size who row reason v c → IsCauseOf size who row reason w c
cause_goes size who row reason rows v w c s key h g k =
    let hx : IsDone (shape_of size) v.seen = subst (λ (z : ForestSize). IsDone (shape_of z) v.seen) key h in
    let hy : IsDone (shape_of size) (v.seen ++ g.rest) = subst (IsDone (shape_of size)) g.seen (goes_done size who rows v w key g) in
    record {
      attached = attached_goes who rows v w row g k.attached;
      holds = subst (λ (l : List Deed). Holds (shape_of size) (store_of l).tree who row reason) (sym g.seen)
          (holds_more size v.seen g.rest who row reason hy k.holds);
      is = ap (λ (l : List Deed). cause_of_reason (store_of l).tree reason) g.seen
          ∙ cause_more size v.seen g.rest who row reason s hx hy k.holds ∙ k.is;
    }

rest_cause : (s : JobState) (v : ℕ) (c : Cause) → is_cancelled s ≡ true → rest_of s v c ≡ cause_code c
rest_cause Cancelling v c e = refl
rest_cause Cancelled v c e = refl
rest_cause other v c e = cc

-- the cause that the word of a cancelled Job has
pub cause_word : (size : ForestSize) (j : Job) (w : JobWord) → IsSize size → IsSmall (shape_of size) j
    → is_cause j.cause ≡ is_cancelled j.state → word_of j ≡ w → is_cancelled w.state ≡ true → cause_from w.rest ≡ j.cause
cause_word size j w s small caused e c =
    let st : is_cancelled j.state ≡ true = ap (λ (x : JobWord). is_cancelled x.state) e ∙ c in
    ap cause_from (ap (λ (x : JobWord). x.rest) (sym e) ∙ rest_cause j.state j.value j.cause st)
    ∙ cause_back size.rows j.cause s.few small.cause (caused ∙ st)

pub failed_attached : (r : ℕ) (x : Option Job) → IsFailedChild r x → is_some x ≡ true
failed_attached r None h = absurd h
failed_attached r (Some j) h = refl

-- the cause of a child, by its word
pub child_cause : (size : ForestSize) (who row child : ℕ) (v w : Seen) (x : JobWord) → IsSize size → v.key ≡ size
    → IsDone (shape_of v.key) v.seen → Sees who v w → IsAttached v row
    → Holds (shape_of size) (store_of v.seen).tree who row (reasons.Child child) → IsWord w child x
    → IsCauseOf size who row (reasons.Child child) w (cause_from x.rest)
child_cause size who row child v w x s key h sees a o k =
    let g = sees_goes who v w sees in
    let one : IsCauseOf size who row (reasons.Child child) w (cause_of ((store_of v.seen).tree child)) =
    cause_goes size who row (reasons.Child child) [] v w (cause_of ((store_of v.seen).tree child)) s key h g
    (record { attached = a; holds = o; is = refl }) in
    let hw = sees_done size who v w key sees in
    let att = attached_sees who v w child sees (failed_attached row ((store_of v.seen).tree child) o.0) in
    let j = job_seen size w child x s hw att k in
    let kp = kept size w.seen s hw in
    let sound = subst IsSoundRow j.1 (kp.families.rows child) in
    let small : IsSmall (shape_of size) j.0 = subst (IsSmallRow (shape_of size)) j.1 (kp.holds.small child) in
    let f = failing_of row ((store_of w.seen).tree child) one.holds.0 (kp.families.rows child) in
    let fj : Failing f.0 (Some j.0) = subst (Failing f.0) j.1 f.1 in
    let cw : cause_from x.rest ≡ j.0.cause = cause_word size j.0 x s small sound.caused j.2
    (ap (λ (y : JobWord). is_cancelled y.state) (sym j.2) ∙ fj.1) in
    record { attached = one.attached; holds = one.holds; is = ap cause_of j.1 ∙ sym cw }
