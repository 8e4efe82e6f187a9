-- The tree at the start, and what a look shows.
use Rattle.std.specs.Prelude.{◌≡◌, ℕ, Bool, true, false, List, length, Option, Some, None, option_map, refl, if◌then◌else◌}
use Rattle.std.proofs.Common.{sym, ap, ◌∙◌}
use Rattle.job_model.specs.Trees.{Job, Shape, Tree, parent_of, start}
use Rattle.job_model.specs.declared.acts.JobAct.{JobAct}
use Rattle.job_model.specs.Effects.{after}
use Rattle.job_model.specs.Needs.{Needs}
use Rattle.job_model.specs.Steps.{may_make}
use Rattle.job_model.proofs.Families.{start_families}
use Rattle.job_model.proofs.Needed.{step_made}
use Rattle.job_replay.specs.declared.job_row.JobRow.{JobRow}
use Rattle.job_replay.specs.Rows.{AreRowsOf, StandsFor, bit_in, item_in, row_of_job}
use Rattle.job_replay.specs.Replays.{look_of, look_of_row}
use Rattle.job_model.proofs.Ends.{start_told}

pub fresh_tree : (n : ℕ) (xs : List (Option JobRow)) (gone : List Bool) → length xs ≡ n → AreRowsOf start xs → length gone ≡ n
    → ((r : ℕ) → bit_in gone r ≡ false) → StandsFor n start xs gone
fresh_tree n xs gone count are few none = record {
  rows_count = count;
  gone_count = few;
  rows_are = are;
  gone_are = λ r. none r ∙ sym (start_told r (parent_of (start r)));
  families = start_families;
}

look_is : (x : Option Job) → option_map look_of_row (option_map row_of_job x) ≡ option_map look_of x
look_is None = refl
look_is (Some j) = refl

pub looked : (tree : Tree) (xs : List (Option JobRow)) (r : ℕ) → AreRowsOf tree xs
    → option_map look_of_row (item_in xs r) ≡ option_map look_of (tree r)
looked tree xs r are = ap (option_map look_of_row) (are r) ∙ look_is (tree r)

chosen : {A : Type 0} (b : Bool) (x y : A) → (if b then Some x else None) ≡ Some y → b ≡ true
chosen true x y e = refl
chosen false x y e = cc

-- what an act needs that may come
pub needs_of : (shape : Shape) (tree : Tree) (who : ℕ) (act : JobAct) → may_make shape tree who act ≡ true → Needs shape tree who act
needs_of shape tree who act e = (step_made shape tree (record { who = who; act = act })).1
    (ap (λ b. if b then Some (after tree who act) else None) e)

pub may_of : (shape : Shape) (tree : Tree) (who : ℕ) (act : JobAct) → Needs shape tree who act → may_make shape tree who act ≡ true
may_of shape tree who act n = chosen (may_make shape tree who act) (after tree who act) (after tree who act)
    ((step_made shape tree (record { who = who; act = act })).0 n)
