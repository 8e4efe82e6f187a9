-- By the rows, an act may come exactly where it may come on the tree.
use Rattle.std.specs.Prelude.{◌≡◌, ℕ, zero, suc, ◌==◌, nat_lt, Bool, false, not, ◌&&◌, ◌||◌, List, [], ◌∷◌, length, Option, Some, None, option_map, is_some, refl}
use Rattle.std.proofs.Common.{sym, ap, ◌∙◌, arith}
use Rattle.std.proofs.lemmas.Bool.Decides.{nat_tests}
use Rattle.job_model.specs.declared.acts.JobState.{JobState}
use Rattle.job_model.specs.declared.acts.JobState.TheVariants.{New, Active, Completing, Cancelling, Cancelled, Completed}
use Rattle.job_model.specs.declared.acts.Reason.{Reason}
use Rattle.job_model.specs.declared.acts.Reason.TheVariants as reasons
use Rattle.job_model.specs.declared.acts.End.{End}
use Rattle.job_model.specs.declared.acts.JobAct.{JobAct}
use Rattle.job_model.specs.declared.acts.JobAct.TheVariants.{Attach, Start, EndBody, Cancel, Finish, Gone}
use Rattle.job_model.specs.Trees.{Job, Tree, Shape, is_none_left, living, parent_of, parent_row, row_of, tag_of, is_supervisor}
use Rattle.job_model.specs.Needs.{any_below, end_of, ended_by_failure}
use Rattle.job_model.specs.Steps as model
use Rattle.job_replay.specs.declared.job_row.JobRow.{JobRow}
use Rattle.job_replay.specs.Rows.{AreRowsOf, StandsFor, bit_in, end_of_row, item_in, parent_in, parent_item, row_of_job, tag_in}
use Rattle.job_replay.specs.Tests as by_rows

-- ---- a row

attached_is : (x : Option Job) → is_some (option_map row_of_job x) ≡ is_some x
attached_is None = refl
attached_is (Some j) = refl

child_is : (cancelled : Bool) (x : Option Job) → by_rows.may_have_child cancelled (option_map row_of_job x) ≡
    model.may_have_child cancelled x
child_is cancelled None = refl
child_is cancelled (Some j) = refl

start_is : (x : Option Job) → by_rows.may_start (option_map row_of_job x) ≡ model.may_start x
start_is None = refl
start_is (Some j) = refl

body_is : (who : ℕ) (x : Option Job) → by_rows.may_end_body who (option_map row_of_job x) ≡ model.may_end_body who x
body_is who None = refl
body_is who (Some j) = refl

cancellable_is : (x : Option Job) → by_rows.may_be_cancelled (option_map row_of_job x) ≡ model.may_be_cancelled x
cancellable_is None = refl
cancellable_is (Some j) = refl

none_left : (l : List ℕ) → (length l == 0) ≡ is_none_left l
none_left [] = refl
none_left (x ∷ xs) = grind (arith, nat_tests)

end_is : (s : JobState) (j : Job) → end_of_row s (row_of_job j) ≡ end_of s j
end_is New j = refl
end_is Active j = refl
end_is Completing j = refl
end_is Cancelling j = refl
end_is Cancelled j = refl
end_is Completed j = refl

finish_is : (end : End) (x : Option Job) → by_rows.may_finish end (option_map row_of_job x) ≡ model.may_finish end x
finish_is end None = refl
finish_is end (Some j) =
    ap (λ b. j.body_ended && (b && model.is_end end (end_of_row j.state (row_of_job j)))) (none_left (living j))
    ∙ ap (λ e. j.body_ended && (is_none_left (living j) && model.is_end end e)) (end_is j.state j)

finished_is : (who : ℕ) (x : Option Job) → by_rows.is_finished_by who (option_map row_of_job x) ≡ model.is_finished_by who x
finished_is who None = refl
finished_is who (Some j) = refl

cancelled_is : (x : Option Job) → by_rows.was_cancelled (option_map row_of_job x) ≡ model.was_cancelled x
cancelled_is None = refl
cancelled_is (Some j) = refl

failed_is : (r : ℕ) (x : Option Job) → by_rows.is_failed_child r (option_map row_of_job x) ≡ model.is_failed_child r x
failed_is r None = refl
failed_is r (Some j) = refl

supervisor_is : (x : Option Job) → by_rows.is_supervisor (option_map row_of_job x) ≡ is_supervisor x
supervisor_is None = refl
supervisor_is (Some j) = refl

ended_is : (f : ℕ) (x : Option Job) → by_rows.ended_by_failure f (option_map row_of_job x) ≡ ended_by_failure f x
ended_is f None = refl
ended_is f (Some j) = refl

tag_is : (x : Option Job) → tag_in (option_map row_of_job x) ≡ tag_of x
tag_is None = refl
tag_is (Some j) = refl

pub parent_is : (x : Option Job) → parent_in (option_map row_of_job x) ≡ parent_of x
parent_is None = refl
parent_is (Some j) = refl

-- ---- reasons

any_is : (n : ℕ) (f g : ℕ → Bool) → ((q : ℕ) → f q ≡ g q) → any_below n f ≡ any_below n g
any_is zero f g h = refl
any_is (suc n) f g h = ap (λ b. b || any_below n f) (h n) ∙ ap (λ b. g n || b) (any_is n f g h)

above_is : (tree : Tree) (xs : List (Option JobRow)) (o : Option ℕ) → AreRowsOf tree xs
    → parent_item xs o ≡ option_map row_of_job (row_of tree o)
above_is tree xs None are = refl
above_is tree xs (Some p) are = are p

holds_is : (shape : Shape) (tree : Tree) (xs : List (Option JobRow)) (who r : ℕ) (reason : Reason) → AreRowsOf tree xs
    → by_rows.does_hold shape.rows xs who r reason ≡ model.does_hold shape tree who r reason
holds_is shape tree xs who r reasons.Request are = refl
holds_is shape tree xs who r reasons.Parent are =
    ap (λ o. by_rows.was_cancelled (parent_item xs o)) (ap parent_in (are r) ∙ parent_is (tree r))
    ∙ ap by_rows.was_cancelled (above_is tree xs (parent_of (tree r)) are) ∙ cancelled_is (parent_row tree r)
holds_is shape tree xs who r (reasons.Child c) are =
    ap (λ b. b && not (by_rows.is_supervisor (item_in xs r))) (ap (by_rows.is_failed_child r) (are c) ∙ failed_is r (tree c))
    ∙ ap (λ b. model.is_failed_child r (tree c) && not b) (ap by_rows.is_supervisor (are r) ∙ supervisor_is (tree r))
holds_is shape tree xs who r (reasons.Own f) are =
    ap (λ o. model.is_number who o && ((f == r) || ((f == who) || by_rows.any_failed shape.rows xs f)))
    (ap tag_in (are r) ∙ tag_is (tree r))
    ∙ ap (λ b. model.is_number who (tag_of (tree r)) && ((f == r) || ((f == who) || b)))
    (any_is shape.rows (λ q. by_rows.ended_by_failure f (item_in xs q)) (λ q. ended_by_failure f (tree q))
    (λ q. ap (by_rows.ended_by_failure f) (are q) ∙ ended_is f (tree q)))

-- ---- acts

pub may_is : (shape : Shape) (tree : Tree) (xs : List (Option JobRow)) (gone : List Bool) (who : ℕ) (act : JobAct)
    → StandsFor shape.rows tree xs gone → by_rows.may_in shape xs gone who act ≡ model.may_make shape tree who act
may_is shape tree xs gone who (Attach p r kind tag cancelled) h =
    ap (λ b. not b && (by_rows.may_have_child cancelled (item_in xs p)
    && (nat_lt tag shape.coroutines && model.is_row_for shape who kind tag r)))
    (ap is_some (h.rows_are r) ∙ attached_is (tree r))
    ∙ ap (λ b. not (is_some (tree r)) && (b && (nat_lt tag shape.coroutines && model.is_row_for shape who kind tag r)))
    (ap (by_rows.may_have_child cancelled) (h.rows_are p) ∙ child_is cancelled (tree p))
may_is shape tree xs gone who (Start r) h = ap by_rows.may_start (h.rows_are r) ∙ start_is (tree r)
may_is shape tree xs gone who (EndBody r v) h = ap (by_rows.may_end_body who) (h.rows_are r) ∙ body_is who (tree r)
may_is shape tree xs gone who (Cancel r reason) h =
    ap (λ b. b && by_rows.does_hold shape.rows xs who r reason) (ap by_rows.may_be_cancelled (h.rows_are r) ∙ cancellable_is (tree r))
    ∙ ap (λ b. model.may_be_cancelled (tree r) && b) (holds_is shape tree xs who r reason h.rows_are)
may_is shape tree xs gone who (Finish r end) h = ap (by_rows.may_finish end) (h.rows_are r) ∙ finish_is end (tree r)
may_is shape tree xs gone who (Gone r) h =
    ap (λ b. b && (not (bit_in gone r) && not (r == 0))) (ap (by_rows.is_finished_by who) (h.rows_are r) ∙ finished_is who (tree r))
    ∙ ap (λ b. model.is_finished_by who (tree r) && (not b && not (r == 0))) (h.gone_are r)

-- ---- the walk over all rows, from the last

pub any_less : (m n : ℕ) (xs : List (Option JobRow)) (f : ℕ) (x : Option JobRow) → n ≡ suc m → x ≡ item_in xs m
    → false ≡ by_rows.ended_by_failure f x → by_rows.any_failed m xs f ≡ by_rows.any_failed n xs f
any_less m n xs f x e is none =
    let here : by_rows.ended_by_failure f (item_in xs m) ≡ false = ap (by_rows.ended_by_failure f) (sym is) ∙ sym none in
    sym (ap (λ k. by_rows.any_failed k xs f) e ∙ ap (λ b. b || by_rows.any_failed m xs f) here)
