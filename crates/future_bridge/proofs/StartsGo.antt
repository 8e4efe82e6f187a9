-- A Job is not New after a start, and its pass goes on.
use Rattle.std.specs.Prelude.{◌≡◌, ℕ, Bool, true, false, [], ◌∷◌, Option, Some, None, option_map, refl}
use Rattle.std.proofs.Common.{sym, ap, ◌∙◌, subst, inl, inr}
use Rattle.job_model.specs.declared.acts.JobState.TheVariants.{New}
use Rattle.job_model.specs.declared.acts.JobAct.TheVariants.{Start}
use Rattle.job_model.specs.declared.acts.JobEntry.{JobEntry}
use Rattle.job_model.specs.Trees.{Job, state_of}
use Rattle.job_model.specs.Effects.{started}
use Rattle.job_model.specs.Histories.{replay, Legal}
use Rattle.job_model.specs.Floors.{Floor, SameSetting}
use Rattle.job_model.specs.Answers.{StartAnswer, IsNotNew}
use Rattle.job_model.proofs.Histories.{Legal-last, replay_push}
use Rattle.job_model.proofs.Spans.{added_made, added_looked}
use Rattle.job_model.proofs.Families.{changed_here}
use Rattle.job_model.proofs.Lasting.{not_new_lasts}
use Rattle.job_model.proofs.Own.{prefix_keeps}
use Rattle.job_words.specs.declared.pass.JobPass.{JobPass}
use Rattle.future_bridge.specs.Jobs.{Started, StartsFirst, RowStands, jobs_seen}

pub start_same : (who row : ℕ) (a d : Floor) (b : Bool) → StartAnswer who row a d b → SameSetting a d
start_same who row a d true h = h.same
start_same who row a d false h = h.0.same

started_not_new : (x : Option Job) → state_of x ≡ Some New → IsNotNew (option_map started x)
started_not_new None e = cc
started_not_new (Some j) e = refl

pub starts : (who row : ℕ) (a d : Floor) (b : Bool) → Legal d.shape d.seen → StartAnswer who row a d b → Started who row a d
starts who row a d true l m =
    let entry : JobEntry = record { who = who; act = Start row } in
    let need : state_of (replay m.before row) ≡ Some New = (Legal-last d.shape m.before entry (subst (Legal d.shape) m.last l)).1 in
    record {
      acts = Start row ∷ [];
      added = added_made who (Start row) [] a d m;
      at_most = inl refl;
      not_new = subst IsNotNew (sym (changed_here row started (replay m.before))
          ∙ sym (ap (λ t. t row) (ap replay m.last ∙ replay_push m.before entry))) (started_not_new (replay m.before row) need);
    }
starts who row a d false l m = record {
  acts = [];
  added = added_looked who [] a d m.0;
  at_most = inr refl;
  not_new = prefix_keeps IsNotNew not_new_lasts d.shape m.1.moment d.seen row l m.1.before m.1.holds;
}

-- by the wait
pub row_here : (row : ℕ) (pass : JobPass) (wait : Option ℕ) → wait ≡ None → RowStands row pass wait → RowStands row pass None
row_here row pass wait e h = subst (RowStands row pass) e h

pub starts_here : (who row : ℕ) (a d : JobPass) (wait : Option ℕ) → wait ≡ None → Started who row (jobs_seen a) (jobs_seen d)
    → StartsFirst wait who row a d
starts_here who row a d wait e h = subst (λ (w : Option ℕ). StartsFirst w who row a d) (sym e) h

pub left_here : (who row place : ℕ) (a : JobPass) (wait : Option ℕ) → wait ≡ Some place → StartsFirst wait who row a a
left_here who row place a wait e = subst (λ (w : Option ℕ). StartsFirst w who row a a) (sym e) refl

pub not_new_here : (row place : ℕ) (pass : JobPass) (wait : Option ℕ) → wait ≡ Some place → RowStands row pass wait
    → IsNotNew (replay (jobs_seen pass).seen row)
not_new_here row place pass wait e h = subst (RowStands row pass) e h
