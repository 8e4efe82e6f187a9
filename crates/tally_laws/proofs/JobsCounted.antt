-- How many Jobs there are, and how they ended, by how many acts there are of each kind.
use Rattle.std.specs.Prelude.{◌≡◌, ℕ, zero, suc, ◌+◌, ◌<◌, ◌≤◌, ◌==◌, Bool, true, false, ◌&&◌, ◌||◌, cond, List, [], ◌∷◌, Option, Some, None, is_some, refl, if◌then◌else◌}
use Rattle.std.specs.List.{list_any, fold, range_with_len}
use Rattle.std.specs.Option.{option_or}
use Rattle.std.proofs.Common.{sym, ap, ◌∙◌, arith}
use Rattle.std.proofs.lemmas.Bool.{eqb-true, ne_eqb, and_parts, and_right, true_from_ne_false}
use Rattle.channel_model.specs.Laws.{how_many}
use Rattle.channel_fates.proofs.Appended.{none_count}
use Rattle.job_model.specs.declared.acts.End.{End}
use Rattle.job_model.specs.declared.acts.End.TheVariants as ends
use Rattle.job_model.specs.declared.acts.JobAct.{JobAct}
use Rattle.job_model.specs.declared.acts.JobAct.TheVariants.{Attach, Finish}
use Rattle.job_model.specs.declared.acts.JobEntry.{JobEntry}
use Rattle.job_model.specs.Trees.{Shape, IsShape, Job, Tree, start}
use Rattle.job_model.specs.Acts.{attaches, finishes}
use Rattle.job_model.specs.Histories.{replay, acts_in, Legal}
use Rattle.job_model.specs.Laws.{has_ended, count_of}
use Rattle.job_model.proofs.Ends.{by_entries}
use Rattle.job_model.proofs.Marks.{attach_mark, none_later, count-cons}
use Rattle.job_model.proofs.RowMarks.{each_once}
use Rattle.job_model.proofs.Short.{attached_within}
use Rattle.call_meaning.specs.Facts.{end_at}
use Rattle.run_report.specs.Jobs.{end_noted}
use Rattle.run_report.specs.Summaries.{no_jobs, with_job, jobs_counted}
use Rattle.tally_laws.specs.JobTallies.{is_completed, is_cancelled, attaches_one}
use Rattle.tally_laws.specs.Sums.{sum_below}
use Rattle.tally_laws.proofs.Counting.{any_one, count_less}
use Rattle.tally_laws.proofs.Summed.{sum_add, sum_same, sum_at}
use Rattle.tally_laws.proofs.Summing.{sum_first}
use Rattle.tally_laws.specs.JobsTold.{with_row_of}
use Rattle.tally_laws.proofs.SameMembers.{SameMembers}
use Rattle.tally_laws.proofs.JobsTold.{any_mapped, end_told, jobs_told}
use Rattle.tally_laws.proofs.RowSums.{AtRow, by_rows}

-- ---- the acts of a row

-- the act ends the Job of the row so
abbrev finishes_as : (End → Bool) → ℕ → JobAct → Bool
finishes_as g r (Finish q end) = (r == q) && g end
finishes_as g r other = false

-- the act ends a Job so
abbrev pub finishes_one : (End → Bool) → JobAct → Bool
finishes_one g (Finish q end) = g end
finishes_one g other = false

-- it has ended, and so
abbrev has_end : (End → Bool) → Option End → Bool
has_end g None = false
has_end g (Some end) = g end

and_true : (b : Bool) → b ≡ (b && true)
and_true true = refl
and_true false = refl

attach_at : AtRow attaches attaches_one
attach_at r (Attach p q kind tag cancelled) = and_true (r == q)
attach_at r other = sym (and_right _ false refl)

finish_at : (g : End → Bool) → AtRow (finishes_as g) (finishes_one g)
finish_at g r (Finish q end) = refl
finish_at g r other = sym (and_right _ false refl)

finish_less : (g : End → Bool) (r : ℕ) (a : JobAct) → finishes_as g r a ≡ true → finishes r a ≡ true
finish_less g r (Finish q end) e = (and_parts (r == q) _ e).0
finish_less g r other e = cc

-- where one act at most ends the Job of the row, as many end it so as its end says
end_once : (g : End → Bool) (r : ℕ) (acts : List JobAct) → how_many (finishes r) acts ≤ 1
    → cond (has_end g (end_noted r acts)) 1 0 ≡ how_many (finishes_as g r) acts
end_once g r [] one = refl
end_once g r (Finish q end ∷ acts) one = by_row (r == q) one (λ few. end_once g r acts few)
  where
    by_row : (b : Bool) → cond b 1 0 + how_many (finishes r) acts ≤ 1
        → (how_many (finishes r) acts ≤ 1 → cond (has_end g (end_noted r acts)) 1 0 ≡ how_many (finishes_as g r) acts)
        → cond (has_end g (option_or (if b then Some end else None) (end_noted r acts))) 1 0 ≡
        cond (b && g end) 1 0 + how_many (finishes_as g r) acts
    by_row true m k = let less = count_less (finishes_as g r) (finishes r) (finish_less g r) acts in omega (arith, m, less)
    by_row false m k = let few : how_many (finishes r) acts ≤ 1 = omega (arith, m) in let h = k few in omega (arith, h)
end_once g r (other ∷ acts) one = let h = end_once g r acts (omega (arith, one)) in omega (arith, h)

-- ---- counts of entries and of acts

counted_as : (acts : ℕ → JobAct → Bool) (r : ℕ) (es : List JobEntry) → count_of acts r es ≡ how_many (acts r) (acts_in es)
counted_as acts r [] = refl
counted_as acts r (e ∷ es) = count-cons acts r e es (acts r e.act) refl ∙ ap (λ n. cond (acts r e.act) 1 0 + n) (counted_as acts r es)

-- ---- sums

-- a field of what the rows below n come to
rows_field : {N : Type 0} (add : N → Option Job → N) (field : N → ℕ) (f : Option Job → ℕ)
    → ((n : N) (x : Option Job) → field (add n x) ≡ field n + f x) → (tree : Tree) (n : N) (i k : ℕ)
    → field (fold (λ m r. add m (tree r)) n (range_with_len i k)) ≡ field n + sum_below (λ r. f (tree (i + r))) k
rows_field add field f step tree n i zero = omega arith
rows_field add field f step tree n i (suc k) =
    let a = rows_field add field f step tree (add n (tree i)) (i + 1) k in
    let b = step n (tree i) in
    let c = sum_first (λ r. f (tree (i + r))) k in
    let z : i + 0 ≡ i = omega arith in
    let d : ◌≡◌ {A = ℕ} (f (tree (i + 0))) (f (tree i)) = ap {B = ℕ} (λ r. f (tree r)) z in
    let g = sum_same (λ r. f (tree (i + 1 + r))) (λ r. f (tree (i + suc r))) k (λ r l. let q : i + 1 + r ≡ i + suc r = omega arith
    in ap {B = ℕ} (λ x. f (tree x)) q) in
    omega arith

attached_step : (n : _) (x : Option Job) → (with_row_of with_job n x).attached ≡ n.attached + cond (is_some x) 1 0
attached_step n None = omega arith
attached_step n (Some j) = by_end (end_at (Some j))
  where
    by_end : (o : Option End) → (with_job n o).attached ≡ n.attached + 1
    by_end None = refl
    by_end (Some (ends.Completed v)) = refl
    by_end (Some (ends.Cancelled cause)) = refl

completed_step : (n : _) (x : Option Job) → (with_row_of with_job n x).completed ≡ n.completed + cond (has_end is_completed (end_at x)) 1 0
completed_step n None = omega arith
completed_step n (Some j) = by_end (end_at (Some j))
  where
    by_end : (o : Option End) → (with_job n o).completed ≡ n.completed + cond (has_end is_completed o) 1 0
    by_end (Some (ends.Completed v)) = refl
    by_end other = omega arith

cancelled_step : (n : _) (x : Option Job) → (with_row_of with_job n x).cancelled ≡ n.cancelled + cond (has_end is_cancelled (end_at x)) 1 0
cancelled_step n None = omega arith
cancelled_step n (Some j) = by_end (end_at (Some j))
  where
    by_end : (o : Option End) → (with_job n o).cancelled ≡ n.cancelled + cond (has_end is_cancelled o) 1 0
    by_end (Some (ends.Cancelled cause)) = refl
    by_end other = omega arith

-- the sum of what only the root's row has
root_once : (n : ℕ) → 0 < n → sum_below (λ r. cond (r == 0) 1 0) n ≡ 1
root_once n l = sum_at (λ r. cond (r == 0) 1 0) n 0 l (λ i m a. ap (λ b. cond b 1 0) (ne_eqb i 0 a))

-- ---- all rows

module _ (shape : Shape) (jobs : List JobEntry) (s : IsShape shape) (l : Legal shape jobs) where
  few_attach : (r : ℕ) → how_many (attaches r) (acts_in jobs) ≤ 1
  few_attach r = let a = (each_once shape jobs r l).attach in let b = counted_as attaches r jobs in omega (arith, a, b)

  few_finish : (r : ℕ) → how_many (finishes r) (acts_in jobs) ≤ 1
  few_finish r = let a = (each_once shape jobs r l).finish in let b = counted_as finishes r jobs in omega (arith, a, b)

  no_root : how_many (attaches 0) (acts_in jobs) ≡ 0
  no_root = sym (counted_as attaches 0 jobs) ∙ none_later attaches (λ tree r. is_some (tree r)) attach_mark shape start jobs 0 l refl

  attached_row : (r : ℕ) → cond (is_some (replay jobs r)) 1 0 ≡ cond (r == 0) 1 0 + how_many (attaches r) (acts_in jobs)
  attached_row r =
      ap (λ b. cond b 1 0) ((by_entries shape jobs r l).attached ∙ ap (λ b. (r == 0) || b) (any_mapped (attaches r) jobs))
      ∙ by_root (r == 0) refl
    where
      by_root : (b : Bool) → (r == 0) ≡ b → cond (b || list_any (attaches r) (acts_in jobs)) 1 0 ≡
          cond b 1 0 + how_many (attaches r) (acts_in jobs)
      by_root true e = let z : how_many (attaches r) (acts_in jobs) ≡ 0 =
          ap {B = ℕ} (λ q. how_many (attaches q) (acts_in jobs)) (eqb-true r 0 e) ∙ no_root in omega (arith, z)
      by_root false e = let z = any_one (attaches r) (acts_in jobs) (few_attach r) in omega (arith, z)

  attach_low : (r : ℕ) → 1 ≤ how_many (attaches r) (acts_in jobs) → r < shape.rows
  attach_low r h = attached_within shape jobs r s l (true_from_ne_false (is_some (replay jobs r))
      (λ e. let none : ◌≡◌ {A = ℕ} (cond (is_some (replay jobs r)) 1 0) 0 = ap (λ b. cond b 1 0) e in let here = attached_row r
      in omega (arith, none, here, h)))

  ended_some : (x : Option Job) → has_ended x ≡ true → is_some x ≡ true
  ended_some None e = cc
  ended_some (Some j) e = refl

  finish_low : (g : End → Bool) (r : ℕ) → 1 ≤ how_many (finishes_as g r) (acts_in jobs) → r < shape.rows
  finish_low g r h =
      attached_within shape jobs r s l (ended_some (replay jobs r) ((by_entries shape jobs r l).ended
      ∙ (any_mapped (finishes r) jobs ∙ true_from_ne_false (list_any (finishes r) (acts_in jobs)) (λ e.
      let a = none_count (finishes r) (acts_in jobs) e in
      let b = count_less (finishes_as g r) (finishes r) (finish_less g r) (acts_in jobs) in
      omega (arith, a, b, h)))))

  members : SameMembers (acts_in jobs) (acts_in jobs)
  members = record { to = λ x m. m; back = λ x m. m }

  ended_row : (g : End → Bool) (r : ℕ) → cond (has_end g (end_at (replay jobs r))) 1 0 ≡ how_many (finishes_as g r) (acts_in jobs)
  ended_row g r = ap (λ o. cond (has_end g o) 1 0) (sym (end_told shape jobs (acts_in jobs) l members r))
      ∙ end_once g r (acts_in jobs) (few_finish r)

  attached_rows : sum_below (λ r. cond (is_some (replay jobs (0 + r))) 1 0) shape.rows ≡ 1 + how_many attaches_one (acts_in jobs)
  attached_rows =
      let a = sum_same (λ r. cond (is_some (replay jobs (0 + r))) 1 0) (λ r. cond (r == 0) 1 0 + how_many (attaches r) (acts_in jobs))
      shape.rows
      (λ r m. (let q : 0 + r ≡ r = omega arith in ap {B = ℕ} (λ x. cond (is_some (replay jobs x)) 1 0) q) ∙ attached_row r) in
      let b = sum_add (λ r. cond (r == 0) 1 0) (λ r. how_many (attaches r) (acts_in jobs)) shape.rows in
      let some = s.some in let fit = s.fit in
      let c = root_once shape.rows (omega (arith, some, fit)) in
      let d = by_rows attaches attaches_one attach_at shape.rows (acts_in jobs) attach_low in
      omega (arith, a, b, c, d)

  ended_rows : (g : End → Bool) → sum_below (λ r. cond (has_end g (end_at (replay jobs (0 + r)))) 1 0) shape.rows ≡
      how_many (finishes_one g) (acts_in jobs)
  ended_rows g =
      sum_same (λ r. cond (has_end g (end_at (replay jobs (0 + r)))) 1 0) (λ r. how_many (finishes_as g r) (acts_in jobs)) shape.rows
      (λ r m. (let q : 0 + r ≡ r = omega arith in ap {B = ℕ} (λ x. cond (has_end g (end_at (replay jobs x))) 1 0) q) ∙ ended_row g r)
      ∙ by_rows (finishes_as g) (finishes_one g) (finish_at g) shape.rows (acts_in jobs) (finish_low g)

  -- acts that say what the tree says
  module _ (acts : List JobAct) (same : SameMembers (acts_in jobs) acts) where
    pub attached_counted : (jobs_counted acts shape.rows).attached ≡ 1 + how_many attaches_one (acts_in jobs)
    attached_counted =
        ap (λ n. n.attached) ((jobs_told shape jobs acts l same).counts shape.rows)
        ∙ (rows_field (with_row_of with_job) (λ n. n.attached) (λ x. cond (is_some x) 1 0) attached_step (replay jobs) no_jobs 0 shape.rows
        ∙ (let a = attached_rows in omega (arith, a)))

    pub completed_counted : (jobs_counted acts shape.rows).completed ≡ how_many (finishes_one is_completed) (acts_in jobs)
    completed_counted =
        ap (λ n. n.completed) ((jobs_told shape jobs acts l same).counts shape.rows)
        ∙ (rows_field (with_row_of with_job) (λ n. n.completed) (λ x. cond (has_end is_completed (end_at x)) 1 0) completed_step
        (replay jobs) no_jobs 0 shape.rows
        ∙ (let a = ended_rows is_completed in omega (arith, a)))

    pub cancelled_counted : (jobs_counted acts shape.rows).cancelled ≡ how_many (finishes_one is_cancelled) (acts_in jobs)
    cancelled_counted =
        ap (λ n. n.cancelled) ((jobs_told shape jobs acts l same).counts shape.rows)
        ∙ (rows_field (with_row_of with_job) (λ n. n.cancelled) (λ x. cond (has_end is_cancelled (end_at x)) 1 0) cancelled_step
        (replay jobs) no_jobs 0 shape.rows
        ∙ (let a = ended_rows is_cancelled in omega (arith, a)))
