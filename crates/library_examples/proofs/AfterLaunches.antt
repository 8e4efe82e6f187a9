-- What stands after a launch, and at a later moment.
use Rattle.std.specs.Prelude.{◌≡◌, ℕ, ◌<◌, Bool, true, List, [], ◌∷◌, ◌++◌, Option, Some, is_some, Ok, refl}
use Rattle.std.proofs.Common.{sym, ap, ◌∙◌, subst}
use mathlib.Core.List.{IsPrefix}
use Rattle.job_model.specs.declared.acts.JobAct.{JobAct}
use Rattle.job_model.specs.declared.acts.JobAct.TheVariants.{Attach}
use Rattle.job_model.specs.declared.acts.JobEntry.{JobEntry}
use Rattle.job_model.specs.declared.acts.End.{End}
use Rattle.job_model.specs.declared.acts.End.TheVariants.{Completed}
use Rattle.job_model.specs.declared.acts.JobNote.TheVariants.{SawEnd}
use Rattle.job_model.specs.declared.floor.Attached.{Attached}
use Rattle.job_model.specs.Trees.{Shape, Tree}
use Rattle.job_model.specs.Histories.{replay, Legal}
use Rattle.job_model.specs.Floors.{Floor, entries_by}
use Rattle.job_model.proofs.Histories.{replay_push}
use Rattle.job_model.proofs.Families.{attached_now}
use Rattle.job_model.proofs.Lasting.{attached_lasts}
use Rattle.job_model.proofs.Own.{prefix_keeps}
use Rattle.note_book.specs.declared.book.Item.{Item}
use Rattle.note_book.specs.declared.book.Item.TheVariants.{Job}
use Rattle.note_book.specs.Items.{job_acts_in}
use Rattle.call_meaning.specs.Seen.{SeenOnJobs, SeenOnBoth}
use Rattle.call_meaning.specs.Telling.{did, saw_end, items_in}
use Rattle.call_meaning.specs.JobCalls.{child_kind}
use Rattle.call_meaning.specs.Calls.{ToldOnJobs}
use Rattle.call_meaning.proofs.JobTellings.{acts_did}
use Rattle.scope_builders.specs.Calls.{LaunchAnswer, SeenEndAnswer, MayBuild}
use Rattle.library_examples.specs.Examples.{SawCompleted}

-- what a coroutine sees of the Jobs
abbrev sees : ℕ → Floor → List Item → SeenOnJobs
sees who floor items = record { who = who; floor = floor; items = items }

-- where nobody else makes entries, the child is attached
pub launched_attached : (who me parent tag : ℕ) (lazy : Bool) (a b : Floor) (i j : List Item) (child : Attached) → a.alone ≡ true
    → LaunchAnswer parent tag lazy (sees who a i) (sees me b j) (Ok child) → is_some (replay b.seen child.row) ≡ true
launched_attached who me parent tag lazy a b i j child alone h =
    let act : JobAct = Attach parent tag (child_kind lazy) tag child.cancelled in
    let acts : job_acts_in (items_in (did act ∷ [])) ≡ act ∷ [] = acts_did (act ∷ []) in
    let seen : b.seen ≡ a.seen ++ record { who = who; act = act } ∷ [] = h.1.added.alone alone
    ∙ ap (λ l. a.seen ++ entries_by who l) acts in
    ap (λ r. is_some (replay b.seen r)) h.0
    ∙ ap (λ (es : List JobEntry). is_some (replay es tag)) seen
    ∙ ap (λ (t : Tree). is_some (t tag)) (replay_push a.seen (record { who = who; act = act }))
    ∙ ap is_some (attached_now (replay a.seen) who parent tag (child_kind lazy) tag child.cancelled)

-- what was attached is so later
pub attached_later : (row : ℕ) (a b : Floor) → Legal b.shape b.seen → IsPrefix a.seen b.seen → is_some (replay a.seen row) ≡ true
    → is_some (replay b.seen row) ≡ true
attached_later row a b l p h = prefix_keeps _ attached_lasts b.shape a.seen b.seen row l p h

-- whoever might build still may, where both floors have the shapes that they had
pub builds_again : {base base' : ℕ} {a b : SeenOnBoth} → base' ≡ base → b.channels.shape ≡ a.channels.shape → b.jobs.shape ≡ a.jobs.shape
    → b.channels.callers b.who ≡ true → b.jobs.callers b.who ≡ true → MayBuild base a → MayBuild base' b
builds_again {base} {base'} {a} {b} e channels jobs of_channels of_jobs m = subst (λ n. MayBuild n b) (sym e) (record {
  of_channels = of_channels;
  of_jobs = of_jobs;
  done = rw channels (rw jobs m.done);
  signals = λ r h. rw channels (m.signals r (subst (λ (s : Shape). r < s.rows) jobs h));
  few = rw channels m.few;
})

saw_noted : (row value : ℕ) → items_in (saw_end row (Completed value) ∷ []) ≡ Job (SawEnd row (Completed value)) ∷ []
unfolding items_in
saw_noted row value = refl

-- what was seen is the last note
pub saw_completed : (who me row value : ℕ) (o : Option End) (e : End) (a b : Floor) (i j : List Item) → o ≡ Some e → e ≡ Completed value
    → SeenEndAnswer row (sees who a i) (sees me b j) (Ok o) → SawCompleted row value j
saw_completed who me row value o e a b i j p q h =
    let told : ToldOnJobs [] (sees who a i) (sees me b j) (saw_end row (Completed value) ∷ []) =
    subst (λ x. SeenEndAnswer row (sees who a i) (sees me b j) (Ok x)) (p ∙ ap Some q) h in
    record { before = i; noted = told.appended ∙ ap (λ l. i ++ l) (saw_noted row value) }
