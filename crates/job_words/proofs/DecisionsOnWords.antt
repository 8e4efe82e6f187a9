-- What is decided on a Job word may come, and what it comes to.
use Rattle.std.specs.Prelude.{◌≡◌, ℕ, ◌-◌, ◌==◌, ◌<◌, ◌≤◌, Bool, true, false, ◌&&◌, [], if◌then◌else◌, Option, Some, None, IsSome, refl}
use Rattle.std.proofs.Common.{sym, ap, ◌∙◌, subst, arith}
use Rattle.std.proofs.lemmas.Bool.Decides.{nat_tests}
use Rattle.std.proofs.lemmas.Bool.{eqb-true}
use Rattle.worded.specs.Views.{has_tag}
use Rattle.job_model.specs.declared.acts.JobState.{JobState}
use Rattle.job_model.specs.declared.acts.JobState.TheVariants.{Active, Cancelling}
use Rattle.job_model.specs.declared.acts.JobAct.TheVariants.{Start, Cancel, Finish}
use Rattle.job_model.specs.declared.acts.Cause.{Cause}
use Rattle.job_model.specs.declared.acts.End.{End}
use Rattle.job_model.specs.declared.acts.Reason.{Reason}
use Rattle.job_model.specs.declared.floor.Ended.{Ended}
use Rattle.job_model.specs.declared.floor.Finished.{Finished}
use Rattle.job_model.specs.declared.floor.Finished.TheVariants as finished
use Rattle.job_model.specs.declared.floor.CancelledNow.{CancelledNow}
use Rattle.job_model.specs.declared.floor.CancelledNow.TheVariants as cancelled
use Rattle.job_model.specs.Trees.{Job, Tree, is_new, is_cancellable, is_ended, parent_of}
use Rattle.job_model.specs.Needs.{MayEndBody, MayTell}
use Rattle.job_model.specs.Families.{IsEnded, IsCancellingOrEnded}
use Rattle.job_model.specs.Floors.{AtStep, Looked}
use Rattle.job_model.specs.Answers.{StartAnswer, EndBodyAnswer, CancelAnswer, FinishAnswer, GoneAnswer, IsNotNew, IsNotDone, is_owed}
use Rattle.word_rules.specs.declared.size.ForestSize.{ForestSize}
use Rattle.word_rules.specs.declared.job_word.JobWord.{JobWord}
use Rattle.job_words.specs.declared.decision.Decision.{Decision}
use Rattle.job_words.specs.declared.decision.Decision.TheVariants.{Keep, Change}
use Rattle.word_rules.specs.Rows.{cause_code, end_from, rest_after_body, word_of}
use Rattle.word_rules.specs.Deeds.{shape_of, IsSize, IsDone, store_of}
use Rattle.job_words.specs.Passes.{Seen, Goes, floor_seen}
use Rattle.job_words.specs.Attaches.{IsAttached, IsWord}
use Rattle.job_words.specs.Acts.{MayAct, IsCauseOf}
use Rattle.job_words.specs.Decisions.{MayDecide, UpdateAnswer, start_decision, owed_if, end_decision, cancel_decision, finish_with, finish_decision, gone_decision}
use Rattle.job_words.proofs.DeedsAddUp.{tree_is}
use Rattle.job_words.proofs.ActsOnOneWord.{starts_row, ends_body_row, cancels_row, finishes_row, tells_row, is_state}
use Rattle.job_words.proofs.StepsAsCalls.{goes_trans, looked, made}
use Rattle.job_model.proofs.Lasting.{parent_lasts}
use Rattle.job_words.proofs.LostExchangesGrow.{attached_goes, lasts_goes}
use Rattle.job_words.proofs.PartsOfAnAttach.{job_seen, goes_done}
use Rattle.job_words.proofs.CausesInWords.{cause_more}
use Rattle.job_words.proofs.TriesOfAnAct.{new_is, last_step, has_end, not_done_body, not_done_living, own_gone_goes, parent_attached, living_some, end_body_answer, gone_answer}

-- who still is a caller
pub tag_goes : (who : ℕ) (v w : Seen) → Goes who [] v w → has_tag who v.tags ≡ true → has_tag who w.tags ≡ true
tag_goes who v w g h = subst (λ t. has_tag who t ≡ true) (sym g.tags) h

-- a fact of the state that the word shows, which was seen last
state_shown : (P : Option Job → Type 0) (size : ForestSize) (who row : ℕ) (w : JobWord) (u x : Seen) → IsSize size → u.key ≡ size
    → IsAttached u row → Goes who [] u x → IsWord x row w → ((j : Job) → word_of j ≡ w → P (Some j)) → P ((store_of x.seen).tree row)
state_shown P size who row w u x s key a g k f =
    let j = job_seen size x row w s (goes_done size who [] u x key g) (attached_goes who [] u x row g a) k in
    subst P (sym j.1) (f j.0 j.2)

-- it was so at the last moment
shown_last : (P : Option Job → Type 0) (size : ForestSize) (who row : ℕ) (w : JobWord) (u x : Seen) → IsSize size → u.key ≡ size
    → IsAttached u row → Goes who [] u x → IsWord x row w → ((j : Job) → word_of j ≡ w → P (Some j))
    → Looked who [] (floor_seen u) (floor_seen x) × AtStep (floor_seen u) (floor_seen x) (λ tree. P (tree row))
shown_last P size who row w u x s key a g k f =
    (looked who [] u x g, last_step who u x (λ tree. P (tree row)) g (state_shown P size who row w u x s key a g k f))

-- ---- a start

pub start_may : (size : ForestSize) (who row : ℕ) (v : Seen) (w : JobWord) (d : Decision Bool) → IsSize size → has_tag who v.tags ≡ true
    → IsAttached v row → IsWord v row w → d ≡ start_decision row w → MayDecide size v who row w d
start_may size who row v w d s own a k e = subst (MayDecide size v who row w) (sym e) (by_test (is_new w.state) refl)
  where
    by_test : (b : Bool) → is_new w.state ≡ b
        → MayDecide size v who row w (if b then Change (record w { state = Active }) (Start row) true else Keep false)
    by_test true n = (
      record { first_child = k.narrow.first_child; living = k.narrow.living; rest = k.narrow.rest },
      starts_row size v who row w s own a k.narrow (new_is w.state n),
    )
    by_test false n = tt

pub start_answer : (size : ForestSize) (who row : ℕ) (w : JobWord) (d : Decision Bool) (u x : Seen) (b : Bool) → IsSize size → u.key ≡ size
    → IsAttached u row → d ≡ start_decision row w → UpdateAnswer who row w d u x b → StartAnswer who row (floor_seen u) (floor_seen x) b
start_answer size who row w d u x b s key a e t = by_test (is_new w.state) refl (subst (λ y. UpdateAnswer who row w y u x b) e t)
  where
    by_test : (n : Bool) → is_new w.state ≡ n
        → UpdateAnswer who row w (if n then Change (record w { state = Active }) (Start row) true else Keep false) u x b
        → StartAnswer who row (floor_seen u) (floor_seen x) b
    by_test true n h = subst (StartAnswer who row (floor_seen u) (floor_seen x)) (sym h.2)
        (made who (Start row) [] _ _ u h.0.before x h.0.goes h.0.does)
    by_test false n h = subst (StartAnswer who row (floor_seen u) (floor_seen x)) (sym h.2)
        (shown_last IsNotNew size who row w u x s key a h.0 h.1 (λ j f. ap is_new (is_state j w f) ∙ n))

-- ---- the end of a body

rest_narrow : (s : JobState) (value rest : ℕ) → value < 4294967296 → rest < 4294967296 → rest_after_body s value rest < 4294967296
rest_narrow Active value rest a b = a
rest_narrow other value rest a b = b

pub end_may : (size : ForestSize) (who row value : ℕ) (v : Seen) (w : JobWord) (d : Decision Ended) → IsSize size
    → has_tag who v.tags ≡ true → IsAttached v row → value < 4294967296 → MayEndBody who ((store_of v.seen).tree row) → IsWord v row w
    → d ≡ end_decision row value w → MayDecide size v who row w d
end_may size who row value v w d s own a lt may k e = subst (MayDecide size v who row w) (sym e) (
  record {
    first_child = k.narrow.first_child;
    living = k.narrow.living;
    rest = rest_narrow w.state value w.rest lt k.narrow.rest;
  },
  ends_body_row size v who row value w s own a k.narrow lt may,
)

owed_is : (b : Bool) → is_owed (owed_if b) ≡ b
owed_is true = refl
owed_is false = refl

pub end_answer : (size : ForestSize) (who row value : ℕ) (w : JobWord) (d : Decision Ended) (u x : Seen) (b : Ended) → IsSize size
    → u.key ≡ size → IsAttached u row → d ≡ end_decision row value w → UpdateAnswer who row w d u x b
    → EndBodyAnswer who row value (floor_seen u) (floor_seen x) b
end_answer size who row value w d u x b s key a e t =
    let h : UpdateAnswer who row w (end_decision row value w) u x b = subst (λ y. UpdateAnswer who row w y u x b) e t in
    end_body_answer size who row value w u x b s key a h.0 h.1 (ap is_owed h.2 ∙ owed_is (w.living == 0))

-- ---- a cancellation

pub cancel_may : (size : ForestSize) (who row : ℕ) (reason : Reason) (cause : Cause) (code : ℕ) (v : Seen) (w : JobWord)
    (d : Decision CancelledNow) → IsSize size → has_tag who v.tags ≡ true → IsDone (shape_of size) v.seen
    → IsCauseOf size who row reason v cause → code ≡ cause_code cause → code < 4294967296 → IsWord v row w
    → d ≡ cancel_decision row reason code w → MayDecide size v who row w d
cancel_may size who row reason cause code v w d s own done c is lt k e =
    subst (MayDecide size v who row w) (sym e) (by_test (is_cancellable w.state) refl)
  where
    by_test : (b : Bool) → is_cancellable w.state ≡ b → MayDecide size v who row w
        (if b then Change (record w { state = Cancelling; rest = code }) (Cancel row reason) cancelled.Now else Keep cancelled.Already)
    by_test true n = (
      record { first_child = k.narrow.first_child; living = k.narrow.living; rest = lt },
      subst (λ z. MayAct size v who row w (record w { state = Cancelling; rest = z }) (Cancel row reason)) (sym is)
          (cancels_row size v who row reason cause w s own c.attached k.narrow n c.holds
          (λ others h. cause_more size v.seen others who row reason s done h c.holds ∙ c.is)),
    )
    by_test false n = tt

pub cancel_answer : (size : ForestSize) (who row : ℕ) (reason : Reason) (code : ℕ) (w : JobWord) (d : Decision CancelledNow) (u v x : Seen)
    (b : CancelledNow) → IsSize size → v.key ≡ size → IsAttached v row → Goes who [] u v → d ≡ cancel_decision row reason code w
    → UpdateAnswer who row w d v x b → CancelAnswer who row reason (floor_seen u) (floor_seen x) b
cancel_answer size who row reason code w d u v x b s key a g e t =
    by_test (is_cancellable w.state) refl (subst (λ y. UpdateAnswer who row w y v x b) e t)
  where
    by_test : (n : Bool) → is_cancellable w.state ≡ n → UpdateAnswer who row w
        (if n then Change (record w { state = Cancelling; rest = code }) (Cancel row reason) cancelled.Now else Keep cancelled.Already) v x
        b
        → CancelAnswer who row reason (floor_seen u) (floor_seen x) b
    by_test true n h = subst (CancelAnswer who row reason (floor_seen u) (floor_seen x)) (sym h.2)
        (made who (Cancel row reason) [] _ _ u h.0.before x (goes_trans who [] [] u v h.0.before g h.0.goes) h.0.does)
    by_test false n h =
        let all = goes_trans who [] [] u v x g h.0 in
        subst (CancelAnswer who row reason (floor_seen u) (floor_seen x)) (sym h.2) (
          looked who [] u x all,
          last_step who u x (λ tree. IsCancellingOrEnded (tree row)) all (state_shown IsCancellingOrEnded size who row w v x s key a h.0 h.1
              (λ j f. ap is_cancellable (is_state j w f) ∙ n)),
        )

-- ---- the end of a Job

is_some_left : (n : ℕ) → (n == 0) ≡ false → 0 < n
is_some_left n e = grind (arith, nat_tests)

pub finish_may : (size : ForestSize) (who row : ℕ) (v : Seen) (w : JobWord) (d : Decision Finished) → IsSize size
    → has_tag who v.tags ≡ true → IsAttached v row → IsWord v row w → d ≡ finish_decision row w → MayDecide size v who row w d
finish_may size who row v w d s own a k e = subst (MayDecide size v who row w) (sym e) (by_state (is_ended w.state))
  where
    by_end : (o : Option End) → end_from w w.state ≡ o → w.body_ended ≡ true → w.living ≡ 0
        → MayDecide size v who row w (finish_with row w o)
    by_end None f b l = tt
    by_end (Some end) f b l = (
      record { first_child = k.narrow.first_child; living = k.narrow.living; rest = k.narrow.rest },
      finishes_row size v who row w end s own a k.narrow b l f,
    )

    by_tests : (b n : Bool) → w.body_ended ≡ b → (w.living == 0) ≡ n
        → MayDecide size v who row w (if b && n then finish_with row w (end_from w w.state) else Keep finished.NotYet)
    by_tests true true b n = by_end (end_from w w.state) refl b (eqb-true w.living 0 n)
    by_tests true false b n = tt
    by_tests false m b n = tt

    by_state : (b : Bool) → MayDecide size v who row w (if b then Keep finished.Already
        else if w.body_ended && (w.living == 0) then finish_with row w (end_from w w.state) else Keep finished.NotYet)
    by_state true = tt
    by_state false = by_tests w.body_ended (w.living == 0) refl refl

pub finish_answer : (size : ForestSize) (who row : ℕ) (w : JobWord) (d : Decision Finished) (u x : Seen) (b : Finished) → IsSize size
    → u.key ≡ size → IsAttached u row → d ≡ finish_decision row w → UpdateAnswer who row w d u x b
    → FinishAnswer who row (floor_seen u) (floor_seen x) b
finish_answer size who row w d u x b s key a e t = by_state (is_ended w.state) refl (subst (λ y. UpdateAnswer who row w y u x b) e t)
  where
    not_yet : UpdateAnswer who row w (Keep finished.NotYet) u x b → ((j : Job) → word_of j ≡ w → IsNotDone (Some j))
        → FinishAnswer who row (floor_seen u) (floor_seen x) b
    not_yet h f = subst (FinishAnswer who row (floor_seen u) (floor_seen x)) (sym h.2)
        (shown_last IsNotDone size who row w u x s key a h.0 h.1 f)

    by_end : (o : Option End) → end_from w w.state ≡ o → is_ended w.state ≡ false → w.body_ended ≡ true
        → UpdateAnswer who row w (finish_with row w o) u x b → FinishAnswer who row (floor_seen u) (floor_seen x) b
    by_end None f n y h = absurd (let k : false ≡ true = subst IsSome f
        (has_end size x row w s (goes_done size who [] u x key h.0) (attached_goes who [] u x row h.0 a) h.1 y n) in cc)
    by_end (Some end) f n y h = subst (FinishAnswer who row (floor_seen u) (floor_seen x)) (sym h.2)
        (made who (Finish row end) [] _ _ u h.0.before x h.0.goes h.0.does)

    by_tests : (y l : Bool) → w.body_ended ≡ y → (w.living == 0) ≡ l → is_ended w.state ≡ false
        → UpdateAnswer who row w (if y && l then finish_with row w (end_from w w.state) else Keep finished.NotYet) u x b
        → FinishAnswer who row (floor_seen u) (floor_seen x) b
    by_tests true true y l n h = by_end (end_from w w.state) refl n y h
    by_tests true false y l n h = not_yet h (λ j f. not_done_living j w f (is_some_left w.living l))
    by_tests false m y l n h = not_yet h (λ j f. not_done_body j w f y)

    by_state : (n : Bool) → is_ended w.state ≡ n → UpdateAnswer who row w (if n then Keep finished.Already
        else if w.body_ended && (w.living == 0) then finish_with row w (end_from w w.state) else Keep finished.NotYet) u x b
        → FinishAnswer who row (floor_seen u) (floor_seen x) b
    by_state true n h = subst (FinishAnswer who row (floor_seen u) (floor_seen x)) (sym h.2) (
      looked who [] u x h.0,
      subst (λ (tree : Tree). IsEnded (tree row)) (tree_is x.seen)
          (state_shown IsEnded size who row w u x s key a h.0 h.1 (λ j f. ap is_ended (is_state j w f) ∙ n)),
    )
    by_state false n h = by_tests w.body_ended (w.living == 0) refl refl n h

-- ---- a child that is gone

-- the parent has a living child
pub gone_some : (size : ForestSize) (who row parent : ℕ) (w : JobWord) (u v : Seen) → IsSize size → u.key ≡ size → Goes who [] u v
    → MayTell who row (store_of u.seen).tree → parent_of ((store_of u.seen).tree row) ≡ Some parent → IsWord v parent w → 1 ≤ w.living
gone_some size who row parent w u v s key g may up k =
    living_some size who row parent v w s (goes_done size who [] u v key g) (own_gone_goes who row [] u v g may)
    (lasts_goes (λ x. parent_of x ≡ Some parent) (parent_lasts parent) who [] u v row g up) k

pub gone_may : (size : ForestSize) (who row parent : ℕ) (w : JobWord) (d : Decision Ended) (u v : Seen) → IsSize size → u.key ≡ size
    → has_tag who u.tags ≡ true → Goes who [] u v → MayTell who row (store_of u.seen).tree
    → parent_of ((store_of u.seen).tree row) ≡ Some parent → IsWord v parent w → d ≡ gone_decision row w
    → MayDecide size v who parent w d
gone_may size who row parent w d u v s key own g may up k e =
    let some : 1 ≤ w.living = gone_some size who row parent w u v s key g may up k in
    let last = lasts_goes (λ x. parent_of x ≡ Some parent) (parent_lasts parent) who [] u v row g up in
    subst (MayDecide size v who parent w) (sym e) (
      record { first_child = k.narrow.first_child; living = omega (arith, k.narrow.living); rest = k.narrow.rest },
      tells_row size v who row parent (w.living - 1) w s (tag_goes who u v g own)
          (parent_attached size v row parent s (goes_done size who [] u v key g) last) k.narrow (own_gone_goes who row [] u v g may) last
          (omega arith),
    )

pub gone_told : (size : ForestSize) (who row parent : ℕ) (w : JobWord) (d : Decision Ended) (u v x : Seen) (b : Ended) → IsSize size
    → v.key ≡ size → IsAttached v parent → Goes who [] u v → parent_of ((store_of v.seen).tree row) ≡ Some parent
    → d ≡ gone_decision row w → UpdateAnswer who parent w d v x b → GoneAnswer who row (floor_seen u) (floor_seen x) b
gone_told size who row parent w d u v x b s key a g up e t =
    let h : UpdateAnswer who parent w (gone_decision row w) v x b = subst (λ y. UpdateAnswer who parent w y v x b) e t in
    gone_answer size who row parent w u v x b s key a g h.0 h.1 (ap is_owed h.2 ∙ owed_is (w.body_ended && (w.living == 1))) up
