-- What a look at a Job tells: how it has ended, or whether the caller's own Job goes on.
use Rattle.std.specs.Prelude.{◌≡◌, ℕ, true, false, List, [], ◌∷◌, ◌++◌, Option, Some, None, is_some, option_map, Ok, refl}
use mathlib.Core.List.{IsPrefix}
use Rattle.std.proofs.Common.{sym, ap, ◌∙◌, subst}
use Rattle.job_model.specs.declared.acts.End.{End}
use Rattle.job_model.specs.declared.acts.JobState.{JobState}
use Rattle.job_model.specs.declared.acts.JobState.TheVariants.{New, Active, Completing, Cancelling, Cancelled, Completed}
use Rattle.job_model.specs.declared.acts.JobNote.TheVariants.{SawEnd}
use Rattle.job_model.specs.declared.acts.JobEntry.{JobEntry}
use Rattle.job_model.specs.declared.floor.JobView.{JobView}
use Rattle.job_model.specs.Trees.{Job, is_new, is_active, is_ended, state_of}
use Rattle.job_model.specs.Needs.{OwnsBody, MayEndBody}
use Rattle.job_model.specs.Families.{IsEnded}
use Rattle.job_model.specs.Laws.{has_ended}
use Rattle.job_model.specs.Histories.{replay, Legal}
use Rattle.job_model.specs.Answers.{LookAnswer, IsNotNew, view_of}
use Rattle.job_model.specs.Floors.{Floor, Looked, AtStep}
use Rattle.job_model.proofs.Spans.{added_looked, looked_moment}
use Rattle.job_model.proofs.Families.{replay_families}
use Rattle.job_model.proofs.Histories.{Legal-prefix}
use Rattle.job_model.proofs.Lasting.{ended_lasts, not_new_lasts, attached_lasts}
use Rattle.job_model.proofs.Own.{prefix_keeps, owned_body_kept, owned_not_ended}
use Rattle.note_book.specs.declared.book.Item.{Item}
use Rattle.note_book.specs.declared.book.Item.TheVariants as item
use Rattle.call_meaning.specs.Telling.{MayRun}
use Rattle.call_meaning.specs.Facts.{IsRunning, IsAlive, end_at, JobFactHolds, JobNoteHolds}
use Rattle.call_meaning.specs.Seen.{SeenOnJobs, tree_in}
use Rattle.call_meaning.proofs.JobTellings.{told_knew, told_nothing}
use Rattle.scope_builders.specs.Calls.{SeenEndAnswer}
use Rattle.scope_builders.specs.Parts.{OwnAnswer, goes_on, goes_on_in, end_in}

-- ---- how a Job has ended

end_in-state : (s : JobState) (j : Job) → j.state ≡ s → end_in (Some (view_of j)) ≡ end_at (Some j)
end_in-state New j e = rw e refl
end_in-state other j e = rw e refl

end_in-view : (x : Option Job) → end_in (option_map view_of x) ≡ end_at x
end_in-view None = refl
end_in-view (Some j) = end_in-state j.state j refl

pub seen_ended : (v : Option JobView) {row : ℕ} {end : End} {a b : SeenOnJobs} {ready : List Item} → end_in v ≡ Some end
    → LookAnswer a.who row a.floor b.floor v → b.who ≡ a.who → ready ≡ a.items → b.items ≡ ready ++ item.Job (SawEnd row end) ∷ []
    → SeenEndAnswer row a b (Ok (Some end))
seen_ended v {row} {end} {a} {b} e h w f g =
    let m = h.1 in
    let so : AtStep a.floor b.floor (JobNoteHolds (SawEnd row end)) = record {
      moment = m.moment;
      after = m.after;
      before = m.before;
      holds = sym (end_in-view (replay m.moment row)) ∙ ap end_in m.holds ∙ e;
    } in
    told_knew (SawEnd row end) refl w (g ∙ ap (λ l. l ++ item.Job (SawEnd row end) ∷ []) f) (added_looked a.who [] a.floor b.floor h.0)
    (looked_moment a.who [] a.floor b.floor (JobNoteHolds (SawEnd row end)) h.0 so)

still_alive : (x : Option Job) → is_some x ≡ true → end_at x ≡ None → IsAlive x
still_alive None s e = cc
still_alive (Some j) s e = by_state j.state refl
  where
    by_state : (t : JobState) → j.state ≡ t → is_ended j.state ≡ false
    by_state New k = ap is_ended k
    by_state Active k = ap is_ended k
    by_state Completing k = ap is_ended k
    by_state Cancelling k = ap is_ended k
    by_state Cancelled k = cc
    by_state Completed k = cc

pub seen_alive : (row : ℕ) (v : Option JobView) {a b : SeenOnJobs} → Legal b.floor.shape b.floor.seen → is_some (tree_in a row) ≡ true
    → end_in v ≡ None → LookAnswer a.who row a.floor b.floor v → b.who ≡ a.who → b.items ≡ a.items → SeenEndAnswer row a b (Ok None)
seen_alive row v {a} {b} l s e h w f =
    let m = h.1 in
    let legal = Legal-prefix b.floor.shape m.moment m.before.0 (rw m.before.1 l) in
    let attached = prefix_keeps _ attached_lasts b.floor.shape a.floor.seen m.moment row legal m.after s in (
      told_nothing w f (added_looked a.who [] a.floor b.floor h.0),
      record {
        moment = m.moment;
        after = m.after;
        before = m.before;
        holds = still_alive (replay m.moment row) attached (sym (end_in-view (replay m.moment row)) ∙ ap end_in m.holds ∙ e);
      },
    )

-- ---- the caller's own Job

may_be_begun : (who : ℕ) (x : Option Job) → MayEndBody who x → IsNotNew x
may_be_begun who None h = h
may_be_begun who (Some j) h = h.1

may_be_owned : (who : ℕ) (x : Option Job) → MayEndBody who x → OwnsBody who x
may_be_owned who None h = h
may_be_owned who (Some j) h = (h.0, h.2)

not_ended : (x : Option Job) → has_ended x ≡ false → IsEnded x → ⊥
not_ended None e h = h
not_ended (Some j) e h = cc

-- a Job that is seen neither New nor ended goes on, or is Cancelling
own_by : (who row : ℕ) (a b : Floor) (m : List JobEntry) (x : Option Job) → IsPrefix a.seen m → IsPrefix m b.seen → replay m row ≡ x
    → Looked who [] a b → IsNotNew x → (IsEnded x → ⊥) → OwnAnswer who row a b (goes_on (option_map view_of x))
own_by who row a b m None p q e look begun lives = absurd begun
own_by who row a b m (Some j) p q e look begun lives = by_state j.state refl
  where
    runs : (s : JobState) → j.state ≡ s → is_active s ≡ true → goes_on_in s ≡ true → OwnAnswer who row a b (goes_on_in j.state)
    runs s k r g =
        let at : AtStep a b (JobFactHolds (MayRun row)) = record
        { moment = m; after = p; before = q; holds = subst IsRunning (sym e) (ap is_active k ∙ r) } in
        subst (OwnAnswer who row a b) (sym (ap goes_on_in k ∙ g)) (look, at)

    stops : j.state ≡ Cancelling → OwnAnswer who row a b (goes_on_in j.state)
    stops k =
        let at : AtStep a b (λ tree. state_of (tree row) ≡ Some Cancelling) =
        record { moment = m; after = p; before = q; holds = ap state_of e ∙ ap (λ (s : JobState). Some s) k } in
        subst (OwnAnswer who row a b) (sym (ap goes_on_in k)) (look, at)

    by_state : (s : JobState) → j.state ≡ s → OwnAnswer who row a b (goes_on_in j.state)
    by_state New k = absurd (let n : true ≡ false = sym (ap is_new k) ∙ begun in cc)
    by_state Active k = runs Active k refl refl
    by_state Completing k = runs Completing k refl refl
    by_state Cancelling k = stops k
    by_state other k = absurd (lives (ap is_ended k))

pub own_answer : (who row : ℕ) (v : Option JobView) (a b : Floor) → Legal b.shape b.seen → MayEndBody who (replay a.seen row)
    → LookAnswer who row a b v → OwnAnswer who row a b (goes_on v)
own_answer who row v a b l own h =
    let m = h.1 in
    let legal = Legal-prefix b.shape m.moment m.before.0 (rw m.before.1 l) in
    let begun : IsNotNew (replay m.moment row) = prefix_keeps IsNotNew not_new_lasts b.shape a.seen m.moment row legal m.after
    (may_be_begun who (replay a.seen row) own) in
    let owned : OwnsBody who (replay b.seen row) = owned_body_kept who row [] [] a b l (added_looked who [] a b h.0) refl
    (may_be_owned who (replay a.seen row) own) in
    let alive : has_ended (replay b.seen row) ≡ false = owned_not_ended who (replay b.seen row) owned
    ((replay_families b.shape b.seen l).rows row) in
    let lives : IsEnded (replay m.moment row) → ⊥ = λ e. not_ended (replay b.seen row) alive
    (prefix_keeps IsEnded ended_lasts b.shape m.moment b.seen row l m.before e) in
    subst (λ (x : Option JobView). OwnAnswer who row a b (goes_on x)) m.holds
    (own_by who row a b m.moment (replay m.moment row) m.after m.before refl h.0 begun lives)
