-- What a line of a Job leaves, and what notes of Jobs say.
use Rattle.std.specs.Prelude.{◌≡◌, ℕ, Bool, true, false, List, [], ◌∷◌, ◌++◌, length, Option, Some, None, option_map, refl}
use Rattle.std.specs.Bool.{Decides}
use Rattle.std.proofs.Common.{sym, ap, ◌∙◌, subst, arith, append_assoc, append-nil, true≢false}
use Rattle.std.proofs.lemmas.Bool.Decides.{Decides-at}
use Rattle.job_model.specs.declared.acts.End.{End}
use Rattle.job_model.specs.declared.acts.JobAct.{JobAct}
use Rattle.job_model.specs.declared.acts.JobEntry.{JobEntry}
use Rattle.job_model.specs.declared.acts.JobNote.{JobNote}
use Rattle.job_model.specs.declared.acts.JobNote.TheVariants.{Made, Saw, SawEnd, Fail, NoRow, Used, ParentEnded}
use Rattle.job_model.specs.declared.acts.JobState.{JobState}
use Rattle.job_model.specs.declared.acts.JobState.TheVariants as states
use Rattle.job_model.specs.Effects.{after}
use Rattle.job_model.specs.Histories.{Legal, LegalFrom, replay, replay_from}
use Rattle.job_model.specs.Needs.{Needs}
use Rattle.job_model.specs.Steps.{is_end, may_make}
use Rattle.job_model.specs.Trees.{Job, Shape, Tree, is_cancelling, start, state_of}
use Rattle.job_model.proofs.Histories.{LegalFrom-parts, Legal_push, replay_push}
use Rattle.job_replay.specs.declared.calls.JobLook.{JobLook}
use Rattle.job_replay.specs.declared.replay.JobReplay.{JobReplay}
use Rattle.job_replay.specs.Replays.{IsStep, IsTree, look_of}
use Rattle.job_replay.specs.Sizes.{shape_of}
use Rattle.job_replay.proofs.TreeCalls.{may_of, needs_of}
use Rattle.note_book.specs.declared.book.Item.TheVariants as item
use Rattle.note_book.specs.Items.{job_act}
use Rattle.call_meaning.specs.Facts.{JobNoteHolds, end_at, end_by}
use Rattle.history_check.specs.declared.verdict.Step.TheVariants as step
use Rattle.history_check.specs.Histories.{job_entry_by}
use Rattle.history_check.specs.Steps.{IsJobMade, IsJobStep, IsJobTold, end_shown, end_shown_by, listed_job, shows_cancelling}
use Rattle.job_model.proofs.Needed.{ends_so}

-- ---- notes

shown_by : (state : JobState) (j : Job) → end_shown_by state (look_of j) ≡ end_by state j
shown_by states.New j = refl
shown_by states.Active j = refl
shown_by states.Completing j = refl
shown_by states.Cancelling j = refl
shown_by states.Cancelled j = refl
shown_by states.Completed j = refl

shown_end : (x : Option Job) → end_shown (option_map look_of x) ≡ end_at x
shown_end None = refl
shown_end (Some j) = shown_by j.state j

cancelling_is : (state : JobState) → Decides (is_cancelling state) (Some state ≡ Some states.Cancelling)
cancelling_is states.Cancelling = (λ e. refl, λ e. refl)
cancelling_is other = (λ e. cc, λ e. cc)

seen_cancelling : (x : Option Job) → Decides (shows_cancelling (option_map look_of x)) (state_of x ≡ Some states.Cancelling)
seen_cancelling None = (λ e. cc, λ e. cc)
seen_cancelling (Some j) = cancelling_is j.state

-- a Job that was looked at is Cancelling, or has ended so
pub saw_is : (b : Bool) (look : Option JobLook) (tree : Tree) (row : ℕ) → b ≡ shows_cancelling look → look ≡ option_map look_of (tree row)
    → Decides b (JobNoteHolds (Saw row) tree)
saw_is b look tree row e is = Decides-at _ _ (e ∙ ap shows_cancelling is) (seen_cancelling (tree row))

pub saw_end_is : (b : Bool) (end : End) (shown : Option End) (look : Option JobLook) (tree : Tree) (row : ℕ) → b ≡ is_end end shown
    → shown ≡ end_shown look → look ≡ option_map look_of (tree row) → Decides b (JobNoteHolds (SawEnd row end) tree)
saw_end_is b end shown look tree row e f is =
    Decides-at _ _ (e ∙ ap (is_end end) (f ∙ ap end_shown is ∙ shown_end (tree row))) (ends_so end (end_at (tree row)))

-- ---- what becomes of a note

-- an act that was made, and one that may not come
pub act_made : (who : ℕ) (note : JobNote) (act : JobAct) (old new : JobReplay) → listed_job (Some act) ≡ job_act note
    → ((tree : Tree) → IsTree tree old → IsStep true tree who act old new) → IsJobStep step.Good who note old new
act_made who (Made b) act old new e f = λ tree h.
    let is : act ≡ b = cc in
    subst (λ (a : JobAct). (may_make (shape_of old.size) tree who a ≡ true) × IsTree (after tree who a) new) is
    (sym (f tree h).may, (f tree h).left)
act_made who other act old new e f = absurd (omega (arith, ap length e))

pub act_refused : (who : ℕ) (note : JobNote) (act : JobAct) (old new : JobReplay) → listed_job (Some act) ≡ job_act note
    → ((tree : Tree) → IsTree tree old → IsStep false tree who act old new) → IsJobStep step.MayNotCome who note old new
act_refused who (Made b) act old new e f = λ tree h.
    let is : act ≡ b = cc in
    subst (λ (a : JobAct). may_make (shape_of old.size) tree who a ≡ false) is (sym (f tree h).may)
act_refused who other act old new e f = absurd (omega (arith, ap length e))

-- a note that is no act, and holds or not
pub note_good : (who : ℕ) (note : JobNote) (x : JobReplay) → listed_job None ≡ job_act note
    → ((tree : Tree) → IsTree tree x → Decides true (JobNoteHolds note tree)) → IsJobStep step.Good who note x x
note_good who (Made b) x e f = absurd (omega (arith, ap length e))
note_good who (Saw row) x e f = λ tree h. ((f tree h).0 refl, refl)
note_good who (SawEnd row end) x e f = λ tree h. ((f tree h).0 refl, refl)
note_good who other x e f = λ tree h. (tt, refl)

pub note_bad : (who : ℕ) (note : JobNote) (x : JobReplay) → listed_job None ≡ job_act note
    → ((tree : Tree) → IsTree tree x → Decides false (JobNoteHolds note tree)) → IsJobStep step.NotSo who note x x
note_bad who (Made b) x e f = absurd (omega (arith, ap length e))
note_bad who other x e f = λ tree h k. true≢false (sym ((f tree h).1 k))

-- ---- a line of a Job

pub none_legal : (jobs : Shape) → Legal jobs []
unfolding LegalFrom
none_legal jobs = tt

pub none_seen : (x : JobReplay) → IsTree start x → IsTree (replay []) x
unfolding replay_from
none_seen x h = h

first_needs : (shape : Shape) (tree : Tree) (e : JobEntry) (more : List JobEntry) → LegalFrom shape tree (e ∷ more)
    → Needs shape tree e.who e.act
unfolding LegalFrom
first_needs shape tree e more l = l.0

-- a good line that is an act, and one that is none
made : (jobs : Shape) (before : List JobEntry) (who : ℕ) (act : JobAct) (old new : JobReplay) → shape_of old.size ≡ jobs
    → Legal jobs before → IsJobMade step.Good who act (replay before) old new
    → Legal jobs (before ++ record { who = who; act = act } ∷ []) × IsTree (replay (before ++ record { who = who; act = act } ∷ [])) new
made jobs before who act old new is l h =
    let e : JobEntry = record { who = who; act = act } in (
      Legal_push jobs before e l
          (needs_of jobs (replay before) who act (ap (λ (s : Shape). may_make s (replay before) who act) (sym is) ∙ h.0)),
      subst (λ t. IsTree t new) (sym (replay_push before e)) h.1,
    )

told : (jobs : Shape) (before : List JobEntry) (note : JobNote) (old new : JobReplay) → Legal jobs before → IsTree (replay before) old
    → IsJobTold step.Good note (replay before) old new
    → JobNoteHolds note (replay before) × Legal jobs (before ++ []) × IsTree (replay (before ++ [])) new
told jobs before note old new l at h = (
  h.0,
  subst (Legal jobs) (sym (append-nil before)) l,
  subst (λ es. IsTree (replay es) new) (sym (append-nil before)) (subst (IsTree (replay before)) (sym h.1) at),
)

pub job_goes_on : (jobs : Shape) (before : List JobEntry) (who : ℕ) (note : JobNote) (old new : JobReplay) → shape_of old.size ≡ jobs
    → new.size ≡ old.size → Legal jobs before → IsTree (replay before) old → IsJobStep step.Good who note old new
    → JobNoteHolds note (replay before) × Legal jobs (before ++ job_entry_by who (item.Job note))
    × IsTree (replay (before ++ job_entry_by who (item.Job note))) new
job_goes_on jobs before who (Made act) old new is size l at h =
    let x = made jobs before who act old new is l (h (replay before) at) in (tt, x.0, x.1)
job_goes_on jobs before who (Saw row) old new is size l at h = told jobs before (Saw row) old new l at (h (replay before) at)
job_goes_on jobs before who (SawEnd row end) old new is size l at h = told jobs before (SawEnd row end) old new l at (h (replay before) at)
job_goes_on jobs before who (Fail code) old new is size l at h = told jobs before (Fail code) old new l at (h (replay before) at)
job_goes_on jobs before who NoRow old new is size l at h = told jobs before NoRow old new l at (h (replay before) at)
job_goes_on jobs before who Used old new is size l at h = told jobs before Used old new l at (h (replay before) at)
job_goes_on jobs before who ParentEnded old new is size l at h = told jobs before ParentEnded old new l at (h (replay before) at)

refused : (jobs : Shape) (before : List JobEntry) (who : ℕ) (act : JobAct) (old new : JobReplay) → shape_of old.size ≡ jobs
    → IsJobMade step.MayNotCome who act (replay before) old new → (more : List JobEntry)
    → Legal jobs ((before ++ record { who = who; act = act } ∷ []) ++ more) → ⊥
refused jobs before who act old new is h more l =
    let e : JobEntry = record { who = who; act = act } in
    let parts = LegalFrom-parts jobs start before (e ∷ more) (subst (Legal jobs) (append_assoc before (e ∷ []) more) l) in
    true≢false (sym (may_of jobs (replay before) who act (first_needs jobs (replay before) e more parts.1))
    ∙ ap (λ (s : Shape). may_make s (replay before) who act) (sym is) ∙ h)

pub job_may_not_come : (jobs : Shape) (before : List JobEntry) (who : ℕ) (note : JobNote) (old new : JobReplay) → shape_of old.size ≡ jobs
    → IsTree (replay before) old → IsJobStep step.MayNotCome who note old new → (more : List JobEntry)
    → Legal jobs ((before ++ job_entry_by who (item.Job note)) ++ more) → ⊥
job_may_not_come jobs before who (Made act) old new is at h more l = refused jobs before who act old new is (h (replay before) at) more l
job_may_not_come jobs before who other old new is at h more l = absurd (h (replay before) at)

pub job_not_so : (before : List JobEntry) (who : ℕ) (note : JobNote) (old new : JobReplay) → IsTree (replay before) old
    → IsJobStep step.NotSo who note old new → JobNoteHolds note (replay before) → ⊥
job_not_so before who (Made act) old new at h k = absurd (h (replay before) at)
job_not_so before who other old new at h k = h (replay before) at k
