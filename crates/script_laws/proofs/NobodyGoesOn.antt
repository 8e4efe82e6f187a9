-- In a run that came to rest no coroutine has a move that is so.
use Rattle.std.specs.Prelude.{◌≡◌, ℕ, ◌==◌, ◌<◌, true, false, List, [], ◌∷◌, ◌++◌, Option, Some, None, if◌then◌else◌}
use Rattle.std.proofs.Common.{refl, ap, sym, ◌∙◌, subst, append_assoc}
use Rattle.std.proofs.lemmas.Bool.{eq-eqb, cond-true}
use Rattle.std.proofs.lemmas.List.{append-nil, append_cancel_left}
use mathlib.Core.List.{IsPrefix}
use Rattle.channel_model.specs.declared.acts.Act.{Act}
use Rattle.channel_model.specs.declared.acts.Act.TheVariants.{Settle}
use Rattle.channel_model.specs.declared.acts.Entry.{Entry}
use Rattle.channel_model.specs.declared.acts.Settled.{Settled}
use Rattle.channel_model.specs.declared.acts.Settled.TheVariants as settled
use Rattle.channel_model.specs.Channels.{Wait}
use Rattle.channel_model.specs.Outcomes.{IsOutcome}
use Rattle.channel_model.specs.Needs.{IsOpenOf, MaySettle}
use Rattle.channel_model.specs.Floors.{entries_by}
use Rattle.channel_model.specs.Histories.{replay, acts_of, Legal}
use Rattle.channel_model.proofs.Histories.{acts_of-append, Legal-last}
use Rattle.job_model.specs.declared.acts.JobAct.{JobAct}
use Rattle.job_model.specs.declared.acts.JobEntry.{JobEntry}
use Rattle.job_model.specs.declared.acts.JobState.TheVariants.{New, Cancelling}
use Rattle.job_model.specs.declared.acts.End.{End}
use Rattle.job_model.specs.Trees.{Job, is_active, state_of}
use Rattle.job_model.specs.Floors.{entries_by as job_entries_by}
use Rattle.job_model.specs.Histories.{replay as replay_jobs, acts_of as job_acts_of}
use Rattle.job_model.proofs.Histories.{acts_of-append as job_acts_of-append}
use Rattle.note_book.specs.declared.book.Item.{Item}
use Rattle.note_book.specs.Items.{channel_acts_in, job_acts_in}
use Rattle.call_meaning.specs.Telling.{Told, on_channels, on_jobs, IsResolved, TakenBack, MayRun, items_in, made, saw}
use Rattle.call_meaning.specs.Facts.{IsRunning, IsWithdrawnOrVoided, is_withdrawn_or_voided, ToldHolds}
use Rattle.call_meaning.specs.Stories.{Moment, IsTrue}
use Rattle.script_grammar.specs.Programs.{Program}
use Rattle.script_grammar.specs.Tags.{coroutine_count}
use Rattle.script_meaning.specs.declared.stage.Stage.{Stage}
use Rattle.script_meaning.specs.declared.stage.Stage.TheVariants.{Fresh, Waiting, Leaving}
use Rattle.script_meaning.specs.Shapes.{floor_shape}
use Rattle.script_meaning.specs.Configs.{Config, innermost}
use Rattle.script_meaning.specs.Books.{BooksOf, book_at, story}
use Rattle.script_meaning.specs.Moves.{Move}
use Rattle.script_meaning.specs.Idle.{IsNotStarted, IsLeft, IsIdle}
use Rattle.script_laws.specs.GoingOn.{with_acts, GoesOn}
use Rattle.script_laws.proofs.MovesFrom.{begins_at, stage_of, stage_is}
use Rattle.channel_model.proofs.Resolutions.{open_of}

-- ---- a moment behind which k alone made entries, and to which it made none, is the first one

none_made : (k : ℕ) (acts : List Act) (es rest : List Entry) → es ++ rest ≡ entries_by k acts → acts_of k es ≡ [] → es ≡ []
unfolding acts_of
none_made k acts [] rest e none = refl
none_made k [] (x ∷ es) rest e none = cc
none_made k (a ∷ acts) (x ∷ es) rest e none =
    let own : x ≡ record { who = k; act = a } = cc in
    let same : (x.who == k) ≡ true = eq-eqb x.who k (ap (λ (y : Entry). y.who) own) in
    let some : x.act ∷ acts_of k es ≡ [] = sym (cond-true (x.who == k) (x.act ∷ acts_of k es) (acts_of k es) same) ∙ none in
    cc

same_channels : (k : ℕ) (now at : List Entry) (acts : List Act) → IsPrefix now at → IsPrefix at (now ++ entries_by k acts)
    → acts_of k at ≡ acts_of k now → at ≡ now
same_channels k now at acts (d, e) (f, g) same =
    let rest : d ++ f ≡ entries_by k acts = append_cancel_left now _ _ (sym (append_assoc now d f) ∙ ap (λ l. l ++ f) e ∙ g) in
    let none : acts_of k d ≡ [] = append_cancel_left (acts_of k now) _ _
    (sym (acts_of-append k now d) ∙ ap (acts_of k) e ∙ same ∙ sym (append-nil (acts_of k now))) in
    sym e ∙ ap (λ l. now ++ l) (none_made k acts d f rest none) ∙ append-nil now

no_job_act : (k : ℕ) (acts : List JobAct) (es rest : List JobEntry) → es ++ rest ≡ job_entries_by k acts → job_acts_of k es ≡ [] → es ≡ []
unfolding job_acts_of
no_job_act k acts [] rest e none = refl
no_job_act k [] (x ∷ es) rest e none = cc
no_job_act k (a ∷ acts) (x ∷ es) rest e none =
    let own : x ≡ record { who = k; act = a } = cc in
    let same : (x.who == k) ≡ true = eq-eqb x.who k (ap (λ (y : JobEntry). y.who) own) in
    let some : x.act ∷ job_acts_of k es ≡ [] = sym (cond-true (x.who == k) (x.act ∷ job_acts_of k es) (job_acts_of k es) same) ∙ none in
    cc

same_jobs : (k : ℕ) (now at : List JobEntry) (acts : List JobAct) → IsPrefix now at → IsPrefix at (now ++ job_entries_by k acts)
    → job_acts_of k at ≡ job_acts_of k now → at ≡ now
same_jobs k now at acts (d, e) (f, g) same =
    let rest : d ++ f ≡ job_entries_by k acts = append_cancel_left now _ _ (sym (append_assoc now d f) ∙ ap (λ l. l ++ f) e ∙ g) in
    let none : job_acts_of k d ≡ [] = append_cancel_left (job_acts_of k now) _ _
    (sym (job_acts_of-append k now d) ∙ ap (job_acts_of k) e ∙ same ∙ sym (append-nil (job_acts_of k now))) in
    sym e ∙ ap (λ l. now ++ l) (no_job_act k acts d f rest none) ∙ append-nil now

-- ---- what a wait or a Job that is so is not

open_not_back : (k : ℕ) (o : Option Wait) → IsOpenOf k o → IsWithdrawnOrVoided o → ⊥
open_not_back k None h r = h
open_not_back k (Some x) h r =
    let none : false ≡ true = subst (λ how. is_withdrawn_or_voided how ≡ true) h.1 r in cc

open_not_settled : (k : ℕ) (outcome : Settled) (o : Option Wait) → IsOpenOf k o → MaySettle k outcome o → ⊥
open_not_settled k outcome None h r = h
open_not_settled k outcome (Some x) h r = subst (IsOutcome outcome) h.1 r.2

not_started_runs : (o : Option Job) → IsNotStarted o → IsRunning o → ⊥
not_started_runs None h r = r
not_started_runs (Some j) h r = let no : is_active New ≡ true = subst (λ s. is_active s ≡ true) h r in cc

not_started_cancelling : (o : Option Job) → IsNotStarted o → state_of o ≡ Some Cancelling → ⊥
not_started_cancelling None h e = cc
not_started_cancelling (Some j) h e = let no : New ≡ Cancelling = cc in cc

-- ---- the moves

module _ (p : Program) (k : ℕ) (book : List Item) (now : Moment) (own : acts_of k now.channels ≡ channel_acts_in book)
    (own_jobs : job_acts_of k now.jobs ≡ job_acts_in book)
  where
    -- the first thing that is told is so now
    first_now : (t : Told) (more : List Told) → IsTrue (story p k (with_acts k (items_in (t ∷ more)) now)) book now (t ∷ more)
        → ToldHolds (floor_shape p) t (replay now.channels) (replay_jobs now.jobs)
    unfolding IsTrue
    first_now t more (at, so, rest) =
        let items : List Item = items_in (t ∷ more) in
        let channels : at.channels ≡ now.channels = same_channels k now.channels at.channels (channel_acts_in items) so.not_before.channels
        so.not_after.channels (so.channel_acts ∙ sym own) in
        let jobs : at.jobs ≡ now.jobs = same_jobs k now.jobs at.jobs (job_acts_in items) so.not_before.jobs so.not_after.jobs
        (so.job_acts ∙ sym own_jobs) in
        subst (λ es. ToldHolds (floor_shape p) t (replay es) (replay_jobs now.jobs)) channels
        (subst (λ es. ToldHolds (floor_shape p) t (replay at.channels) (replay_jobs es)) jobs so.holds)

    module _ (x : Config) (left : IsLeft k x book (replay now.channels) now.jobs x.stage) where
      left_at : (stage : Stage) → x.stage ≡ stage → IsLeft k x book (replay now.channels) now.jobs stage
      left_at stage e = subst (IsLeft k x book (replay now.channels) now.jobs) e left

    -- none of its moves is so
    refused : (x : Config) (told : List Told) (y : Config) → IsLeft k x book (replay now.channels) now.jobs x.stage → Move p k x told y
        → IsTrue (story p k (with_acts k (items_in told) now)) book now told
        → Legal (floor_shape p) (with_acts k (items_in told) now).channels → ⊥
    unfolding items_in
    refused _ _ _ left (Move.runs x s) t l = not_started_runs (replay_jobs now.jobs k) (left_at x left Fresh s).0
        (first_now (on_jobs (MayRun k)) [] t)
    refused _ _ _ left (Move.never_runs x s) t l =
        not_started_cancelling (replay_jobs now.jobs k) (left_at x left Fresh s).0 (first_now (saw k) [] t)
    refused _ _ _ left (Move.resumes x y w i outcome a s at m f) t l =
        open_of k ((replay now.channels).waits w) (left_at x left (Waiting w) s).0.open_now
        (first_now (on_channels (IsResolved w)) (on_jobs (MayRun (innermost k x)) ∷ made (Settle w outcome) ∷ []) t)
    refused _ _ _ left (Move.cancelled x w s) t l =
        open_not_back k ((replay now.channels).waits w) (left_at x left (Waiting w) s).0.open_now
        (first_now (on_channels (TakenBack w)) (made (Settle w settled.Cancelled) ∷ []) t)
    refused _ _ _ left (Move.gives_up x w group s g) t l = (left_at x left (Waiting w) s).1 (first_now (saw (innermost k x)) group t)
    refused _ _ _ left (Move.scope_ended x w n v s) t l =
        open_not_settled k (settled.Closed n v) ((replay now.channels).waits w) (left_at x left (Leaving w) s).open_now
        (Legal-last (floor_shape p) now.channels (record { who = k; act = Settle w (settled.Closed n v) }) l).1
    refused x told y left other t l = left_at x left (stage_of (begins_at other)) (stage_is (begins_at other))

pub nobody_goes : (p : Program) (books : List (List Item)) (channels : List Entry) (jobs : List JobEntry)
    (of : BooksOf p books channels jobs) (root : Option End) → IsIdle p books channels jobs of root → (k : ℕ) → k < coroutine_count p
    → GoesOn p k (of.ends_at k) (book_at k books) (record { channels = channels; jobs = jobs }) → ⊥
nobody_goes p books channels jobs of root idle k low g =
    refused p k (book_at k books) (record { channels = channels; jobs = jobs }) (of.channel_parts k) (of.job_parts k) (of.ends_at k) g.told
    g.to (idle.left k low) g.moves g.is_true g.legal_channels
