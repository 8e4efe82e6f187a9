-- A Job that was seen Cancelling is not one that completed.
use Rattle.std.proofs.Common.{◌≡◌, ℕ, Bool, true, false, List, [], ◌∷◌, ◌++◌, Option, Some, None, refl, ap, sym, ◌∙◌}
use mathlib.Core.List.{IsPrefix}
use Rattle.job_model.specs.declared.acts.End.{End}
use Rattle.job_model.specs.declared.acts.End.TheVariants as ended
use Rattle.job_model.specs.declared.acts.JobState.{JobState}
use Rattle.job_model.specs.declared.acts.JobState.TheVariants.{New, Active, Completing, Cancelling, Cancelled, Completed}
use Rattle.job_model.specs.declared.acts.JobEntry.{JobEntry}
use Rattle.job_model.specs.declared.acts.JobNote.{JobNote}
use Rattle.job_model.specs.declared.acts.JobNote.TheVariants as known
use Rattle.job_model.specs.Trees.{Job, is_cancellable, state_of}
use Rattle.job_model.specs.Effects.{state_after_body, state_of_end}
use Rattle.job_model.specs.Needs.{end_of}
use Rattle.job_model.specs.Histories.{replay, Legal}
use Rattle.job_model.proofs.Lasting.{Lasts}
use Rattle.job_model.proofs.Own.{prefix_keeps}
use Rattle.note_book.specs.declared.book.Item.{Item}
use Rattle.note_book.specs.declared.book.Item.TheVariants as item
use Rattle.call_meaning.specs.Telling.{Told, JobFact, note, on_channels, on_jobs, IsCancelling}
use Rattle.call_meaning.specs.Facts.{end_by, end_at, ToldHolds}
use Rattle.call_meaning.specs.Stories.{Moment, Story, IsTrue, with_told}

-- ---- the state of a Job for good

abbrev pub is_completed : JobState → Bool
is_completed Completed = true
is_completed other = false

is_for_cancel : JobState → Bool
is_for_cancel Cancelling = true
is_for_cancel Cancelled = true
is_for_cancel other = false

-- the Job of a row has completed
abbrev pub has_completed : Option Job → Bool
has_completed None = false
has_completed (Some j) = is_completed j.state

abbrev pub completed_in : List JobEntry → ℕ → Bool
completed_in jobs row = has_completed (replay jobs row)

IsForCancel : Option Job → Type 0
IsForCancel None = ⊥
IsForCancel (Some j) = is_for_cancel j.state ≡ true

completed_is : (s : JobState) → is_completed s ≡ true → s ≡ Completed
completed_is Completed e = refl
completed_is other e = cc

not_cancellable : (s : JobState) → is_cancellable s ≡ true → is_completed s ≡ true → ⊥
not_cancellable s c e = let no_way : is_cancellable Completed ≡ true = sym (ap is_cancellable (completed_is s e)) ∙ c in cc

not_new : (s : JobState) → s ≡ New → is_completed s ≡ true → ⊥
not_new s e f = let k : is_completed New ≡ true = ap is_completed (sym e) ∙ f in cc

body_completed : (s : JobState) → is_completed s ≡ true → is_completed (state_after_body s) ≡ true
body_completed s e = ap (λ t. is_completed (state_after_body t)) (completed_is s e)

end_completed : (s : JobState) (j : Job) (end : End) → end_of s j ≡ Some end → is_completed s ≡ true
    → is_completed (state_of_end end) ≡ true
end_completed s j end m e = let no_way : end_of Completed j ≡ Some end = sym (ap (λ t. end_of t j) (completed_is s e)) ∙ m in cc

completed_lasts : Lasts (λ x. has_completed x ≡ true)
completed_lasts = record {
  child = λ r j live h. h;
  start = λ j n h. absurd (not_new j.state n h);
  body = λ v j h. body_completed j.state h;
  cancel = λ cause j c h. absurd (not_cancellable j.state c h);
  finish = λ who end j m h. end_completed j.state j end m.2 h;
  told = λ c j h. h;
  attached = λ h x. absurd (none_done h);
}
  where
    none_done : has_completed None ≡ true → ⊥
    none_done e = cc

start_cancel : (s : JobState) → s ≡ New → is_for_cancel s ≡ true → ⊥
unfolding is_for_cancel
start_cancel s e f = let k : is_for_cancel New ≡ true = ap is_for_cancel (sym e) ∙ f in cc

body_cancel : (s : JobState) → is_for_cancel s ≡ true → is_for_cancel (state_after_body s) ≡ true
unfolding is_for_cancel
body_cancel Cancelling e = refl
body_cancel Cancelled e = refl
body_cancel other e = cc

cancel_cancel : is_for_cancel Cancelling ≡ true
unfolding is_for_cancel
cancel_cancel = refl

end_cancel : (s : JobState) (j : Job) (end : End) → end_of s j ≡ Some end → is_for_cancel s ≡ true → is_for_cancel (state_of_end end) ≡ true
unfolding is_for_cancel
end_cancel Cancelling j (ended.Completed v) m e = cc
end_cancel Cancelling j (ended.Cancelled cause) m e = refl
end_cancel other j end m e = cc

cancel_lasts : Lasts IsForCancel
unfolding IsForCancel
cancel_lasts = record {
  child = λ r j live h. h;
  start = λ j n h. absurd (start_cancel j.state n h);
  body = λ v j h. body_cancel j.state h;
  cancel = λ cause j c h. cancel_cancel;
  finish = λ who end j m h. end_cancel j.state j end m.2 h;
  told = λ c j h. h;
  attached = λ h x. absurd h;
}

never_both : (s : JobState) → is_for_cancel s ≡ true → is_completed s ≡ false
unfolding is_for_cancel
never_both Cancelling e = refl
never_both Cancelled e = refl
never_both other e = cc

not_completed : (x : Option Job) → IsForCancel x → has_completed x ≡ false
unfolding IsForCancel
not_completed None h = absurd h
not_completed (Some j) h = never_both j.state h

cancelling_now : (x : Option Job) → state_of x ≡ Some Cancelling → IsForCancel x
unfolding IsForCancel is_for_cancel
cancelling_now None e = cc
cancelling_now (Some j) e = by_state j.state (let same : Some j.state ≡ Some Cancelling = e in cc)
  where
    by_state : (s : JobState) → s ≡ Cancelling → is_for_cancel s ≡ true
    by_state s e = ap is_for_cancel e

completed_now : (x : Option Job) (v : ℕ) → end_at x ≡ Some (ended.Completed v) → has_completed x ≡ true
completed_now None v e = cc
completed_now (Some j) v e = by_state j.state e
  where
    by_state : (s : JobState) → end_by s j ≡ Some (ended.Completed v) → is_completed s ≡ true
    by_state New e = cc
    by_state Active e = cc
    by_state Completing e = cc
    by_state Cancelling e = cc
    by_state Cancelled e = cc
    by_state Completed e = refl

-- ---- what is told of it

-- as far as it tells of Jobs that completed, it is so by this test; and what was Cancelling did not
abbrev pub SeenAs : (ℕ → Bool) → ℕ → End → Type 0
SeenAs done row (ended.Completed v) = done row ≡ true
SeenAs done row (ended.Cancelled cause) = Unit {0}

abbrev pub NoteIsSo : (ℕ → Bool) → JobNote → Type 0
NoteIsSo done (known.SawEnd row end) = SeenAs done row end
NoteIsSo done other = Unit {0}

abbrev pub ItemIsSo : (ℕ → Bool) → Item → Type 0
ItemIsSo done (item.Channel n) = Unit {0}
ItemIsSo done (item.Job n) = NoteIsSo done n

abbrev pub FactIsSo : (ℕ → Bool) → JobFact → Type 0
FactIsSo done (IsCancelling row) = done row ≡ false
FactIsSo done other = Unit {0}

abbrev pub ToldIsSo : (ℕ → Bool) → Told → Type 0
ToldIsSo done (note i) = ItemIsSo done i
ToldIsSo done (on_channels fact) = Unit {0}
ToldIsSo done (on_jobs fact) = FactIsSo done fact

unfoldable pub EndsSo : (ℕ → Bool) → List Told → Type 0
EndsSo done [] = Unit {0}
EndsSo done (t ∷ ts) = ToldIsSo done t × EndsSo done ts

pub ends_left : (done : ℕ → Bool) (xs ys : List Told) → EndsSo done (xs ++ ys) → EndsSo done xs
unfolding EndsSo
ends_left done [] ys h = tt
ends_left done (x ∷ xs) ys h = (h.0, ends_left done xs ys h.1)

pub ends_right : (done : ℕ → Bool) (xs ys : List Told) → EndsSo done (xs ++ ys) → EndsSo done ys
unfolding EndsSo
ends_right done [] ys h = h
ends_right done (x ∷ xs) ys h = ends_right done xs ys h.1

end_so : (shape : _) (jobs at : List JobEntry) (row : ℕ) (end : End) → Legal shape jobs → IsPrefix at jobs
    → end_at (replay at row) ≡ Some end → SeenAs (completed_in jobs) row end
end_so shape jobs at row (ended.Completed v) l p h = prefix_keeps (λ x. has_completed x ≡ true) completed_lasts shape at jobs row l p
    (completed_now (replay at row) v h)
end_so shape jobs at row (ended.Cancelled cause) l p h = tt

note_so : (shape channels : _) (jobs at : List JobEntry) (n : JobNote) (s : _) → Legal shape jobs → IsPrefix at jobs
    → ToldHolds channels (note (item.Job n)) s (replay at) → NoteIsSo (completed_in jobs) n
note_so shape channels jobs at (known.Made act) s l p h = tt
note_so shape channels jobs at (known.Saw row) s l p h = tt
note_so shape channels jobs at (known.SawEnd row end) s l p h = end_so shape jobs at row end l p h
note_so shape channels jobs at (known.Fail v) s l p h = tt
note_so shape channels jobs at other s l p h = tt

fact_so : (shape channels : _) (jobs at : List JobEntry) (fact : JobFact) (s : _) → Legal shape jobs → IsPrefix at jobs
    → ToldHolds channels (on_jobs fact) s (replay at) → FactIsSo (completed_in jobs) fact
fact_so shape channels jobs at (IsCancelling row) s l p h =
    not_completed (replay jobs row) (prefix_keeps IsForCancel cancel_lasts shape at jobs row l p (cancelling_now (replay at row) h))
fact_so shape channels jobs at other s l p h = tt

told_so : (shape channels : _) (jobs at : List JobEntry) (t : Told) (s : _) → Legal shape jobs → IsPrefix at jobs
    → ToldHolds channels t s (replay at) → ToldIsSo (completed_in jobs) t
told_so shape channels jobs at (note (item.Channel n)) s l p h = tt
told_so shape channels jobs at (note (item.Job n)) s l p h = note_so shape channels jobs at n s l p h
told_so shape channels jobs at (on_channels fact) s l p h = tt
told_so shape channels jobs at (on_jobs fact) s l p h = fact_so shape channels jobs at fact s l p h

-- what was told in a legal history is so
pub ends_so : (shape : _) (s : Story) (items : List Item) (earlier : Moment) (told : List Told) → Legal shape s.now.jobs
    → IsTrue s items earlier told → EndsSo (completed_in s.now.jobs) told
unfolding EndsSo IsTrue
ends_so shape s items earlier [] l h = tt
ends_so shape s items earlier (t ∷ told) l h = (
  told_so shape s.shape s.now.jobs h.0.jobs t _ l h.1.not_after.jobs h.1.holds,
  ends_so shape s (with_told t items) h.0 told l h.2,
)
