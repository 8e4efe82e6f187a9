-- What was told and true, as far as it is of Jobs.
use Rattle.std.proofs.lemmas.List.{append-nil}
use Rattle.std.proofs.Common.{◌≡◌, ℕ, Bool, true, false, List, [], ◌∷◌, ◌++◌, refl, ap, sym, ◌∙◌, subst, if◌then◌else◌}
use Rattle.std.specs.Prelude.{◌==◌}
use Rattle.job_model.specs.declared.acts.JobAct.{JobAct}
use Rattle.job_model.specs.declared.acts.JobEntry.{JobEntry}
use Rattle.job_model.specs.declared.acts.JobNote.TheVariants as of_job
use Rattle.job_model.specs.Effects.{after}
use Rattle.job_model.specs.Trees.{Tree, start}
use Rattle.job_model.specs.Histories.{replay, replay_from, acts_of}
use Rattle.note_book.specs.declared.book.Item.{Item}
use Rattle.note_book.specs.declared.book.Item.TheVariants as item
use Rattle.note_book.specs.Items.{job_act, job_acts_in}
use Rattle.note_book.proofs.Appended.{job_acts_in-append}
use Rattle.call_meaning.specs.Telling.{Told, note, on_channels, on_jobs, items_in}
use Rattle.call_meaning.specs.Facts.{JobFactHolds}
use Rattle.call_meaning.specs.Stories.{Moment, Story, IsSo, IsTrue, with_told}
use Rattle.script_meaning.proofs.Debts.{add, part, state_after}
use Rattle.script_meaning.proofs.Payments.{act_list, acts_told, AllSo}
use Rattle.script_meaning.proofs.JobPieces.{job_told, act_in_note}

abbrev pub step : Tree → JobEntry → Tree
step tree e = after tree e.who e.act

abbrev pub who_did : JobEntry → ℕ
who_did e = e.who

abbrev pub deed : JobEntry → JobAct
deed e = e.act

-- what a told thing says of the Jobs
abbrev pub JobHolds : Told → List JobEntry → Type 0
JobHolds (on_jobs fact) history = JobFactHolds fact (replay history)
JobHolds other history = Unit {0}

pub same_tree : (tree : Tree) (es : List JobEntry) → state_after step tree es ≡ replay_from tree es
unfolding replay_from
same_tree tree [] = refl
same_tree tree (e ∷ es) = same_tree (step tree e) es

pub same_part : (k : ℕ) (es : List JobEntry) → part who_did deed k es ≡ acts_of k es
unfolding part acts_of
same_part k [] = refl
same_part k (e ∷ es) = by_test (same_part k es) (e.who == k)
  where
    by_test : part who_did deed k es ≡ acts_of k es → (b : Bool)
        → add b e.act (part who_did deed k es) ≡ (if b then e.act ∷ acts_of k es else acts_of k es)
    by_test h true = ap (λ l. e.act ∷ l) h
    by_test h false = h

act_of_note : (n : _) → job_act n ≡ act_list (act_in_note n)
act_of_note (of_job.Made act) = refl
act_of_note other = refl

told_acts : (t : Told) (items : List Item) → job_acts_in (with_told t items) ≡ job_acts_in items ++ act_list (job_told t)
told_acts (note (item.Channel n)) items = job_acts_in-append items (item.Channel n ∷ [])
told_acts (note (item.Job n)) items = job_acts_in-append items (item.Job n ∷ [])
    ∙ ap (λ l. job_acts_in items ++ l) (append-nil (job_act n) ∙ act_of_note n)
told_acts other items = sym (append-nil (job_acts_in items))

holds_there : (s : Story) (items : List Item) (earlier at : Moment) (t : Told) → IsSo s items earlier t at → JobHolds t at.jobs
holds_there s items earlier at (on_jobs fact) h = h.holds
holds_there s items earlier at other h = tt

abbrev pub JobSo : ℕ → List JobEntry → List JobAct → List Told → Type 0
JobSo k history done told = AllSo step start who_did deed k job_told JobHolds history done told

pub true_so : (s : Story) (items : List Item) (earlier : Moment) (told : List Told) → IsTrue s items earlier told
    → JobSo s.tag s.now.jobs (job_acts_in items) told
unfolding IsTrue AllSo
true_so s items earlier [] h = tt
true_so s items earlier (t ∷ told) h = (
  record {
    at = h.0.jobs;
    more = h.1.not_after.jobs.0;
    parts = h.1.not_after.jobs.1;
    acts = same_part s.tag h.0.jobs
        ∙ h.1.job_acts;
    holds = holds_there s items earlier h.0 t h.1;
  },
  subst (λ d. JobSo s.tag s.now.jobs d told) (told_acts t items) (true_so s (with_told t items) h.0 told h.2),
)

pub told_parts : (k : ℕ) (told : List Told) → job_acts_in (items_in told) ≡ acts_told step start who_did deed k job_told JobHolds told
unfolding acts_told items_in
told_parts k [] = refl
told_parts k (note (item.Channel n) ∷ told) = told_parts k told
told_parts k (note (item.Job n) ∷ told) = ap (λ l. l ++ job_acts_in (items_in told)) (act_of_note n)
    ∙ ap (λ l. act_list (act_in_note n) ++ l) (told_parts k told)
told_parts k (on_channels fact ∷ told) = told_parts k told
told_parts k (on_jobs fact ∷ told) = told_parts k told
