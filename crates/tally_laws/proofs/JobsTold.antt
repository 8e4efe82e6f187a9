-- What a report prints of Jobs, which it computes of the joined books, is what the tree after the history says.
use Rattle.std.specs.Prelude.{◌≡◌, ℕ, ◌==◌, ◌⊎◌, Bool, true, false, not, ◌&&◌, ◌||◌, List, [], ◌∷◌, Option, Some, None, is_some, refl, if◌then◌else◌}
use Rattle.std.specs.List.{list_any, fold, range_with_len}
use Rattle.std.specs.Option.{option_or}
use Rattle.std.proofs.Common.{ap, sym, ◌∙◌, inl, inr, ⊎_elim}
use Rattle.std.proofs.lemmas.Bool.{eqb-true, or_right, and_right, false_from_ne_true}
use Rattle.std.proofs.lemmas.Option.{cond_some}
use Rattle.std.proofs.Math.Bool.{or-false}
use lib.Chars.{codes}
use Rattle.job_model.specs.declared.acts.End.{End}
use Rattle.job_model.specs.declared.acts.End.TheVariants as ends
use Rattle.job_model.specs.declared.acts.JobAct.{JobAct}
use Rattle.job_model.specs.declared.acts.JobAct.TheVariants.{Attach, Cancel, Finish, Gone}
use Rattle.job_model.specs.declared.acts.JobEntry.{JobEntry}
use Rattle.job_model.specs.declared.acts.JobState.{JobState}
use Rattle.job_model.specs.declared.acts.JobState.TheVariants.{New, Active, Completing, Cancelling, Cancelled, Completed}
use Rattle.job_model.specs.Trees.{Shape, Job, Tree, start, root, is_new, is_ended, is_cancellable}
use Rattle.job_model.specs.Acts.{attaches, starts, ends_body, cancels, finishes}
use Rattle.job_model.specs.Effects.{after, first_state, with_child, with_told, ended_by, state_after_body, value_after_body, state_of_end}
use Rattle.job_model.specs.Needs.{end_of}
use Rattle.job_model.specs.Histories.{replay, replay_from, acts_in, Legal, LegalFrom}
use Rattle.job_model.specs.Laws.{has_ended}
use Rattle.job_model.proofs.Steps.{RowStep, row_step}
use Rattle.job_model.proofs.Rows.{same}
use Rattle.job_model.proofs.Lasting.{Lasts, history_keeps}
use Rattle.job_model.proofs.Ends.{by_entries}
use Rattle.call_meaning.specs.Facts.{end_at, end_by}
use Rattle.run_report.specs.Jobs.{attaches_lazy, makes_cancelling, ends_as, is_attached, end_noted, end_or, job_line, job_text, line_of_job}
use Rattle.run_report.specs.Summaries.{no_jobs, with_job, with_row}
use Rattle.tally_laws.specs.JobsTold.{AreToldOf, state_text, row_line, with_row_of}
use Rattle.tally_laws.proofs.SameMembers.{Among, SameMembers, same_any}

-- ---- how a Job has ended

no_end : (s : JobState) (j : Job) (end : End) → is_cancellable s ≡ true → end_by s j ≡ Some end → ⊥
no_end New j end c e = cc
no_end other j end c e = cc

new_cancellable : (s : JobState) → s ≡ New → is_cancellable s ≡ true
new_cancellable s e = ap is_cancellable e

end_behind_body : (v : ℕ) (s : JobState) (j : Job) (end : End) → end_by s j ≡ Some end
    → end_by (state_after_body s) (record j { body_ended = true; state = state_after_body s; value = value_after_body s v j.value }) ≡
    Some end
end_behind_body v Cancelled j end e = e
end_behind_body v Completed j end e = e
end_behind_body v other j end e = cc

none_ends_yet : (s : JobState) (j : Job) (end other : End) → end_of s j ≡ Some end → end_by s j ≡ Some other → ⊥
none_ends_yet New j end other m e = cc
none_ends_yet s j end other m e = cc

-- the end of a Job is in its state, its cause and its value
same_end : (s : JobState) (j k : Job) → k.cause ≡ j.cause → k.value ≡ j.value → end_by s k ≡ end_by s j
same_end Cancelled j k c v = ap (λ cause. Some (ends.Cancelled cause)) c
same_end Completed j k c v = ap (λ value. Some (ends.Completed value)) v
same_end other j k c v = refl

end_lasts : (end : End) → Lasts (λ x. end_at x ≡ Some end)
end_lasts end = record {
  child = λ r j live h. same_end j.state j (with_child r j) refl refl ∙ h;
  start = λ j n h. absurd (no_end j.state j end (new_cancellable j.state n) h);
  body = λ v j h. end_behind_body v j.state j end h;
  cancel = λ cause j c h. absurd (no_end j.state j end c h);
  finish = λ who other j m h. absurd (none_ends_yet j.state j other end m.2 h);
  told = λ c j h. same_end j.state j (with_told c j) refl refl ∙ h;
  attached = λ h x. absurd (none h);
}
  where
    none : end_at None ≡ Some end → ⊥
    none e = cc

-- a Job that finishes has ended as its Finish says
finished_as : (who : ℕ) (end : End) (s : JobState) (j : Job) → end_of s j ≡ Some end
    → end_by (state_of_end end) (ended_by who end j) ≡ Some end
finished_as who (ends.Completed v) Completing j e = e
finished_as who (ends.Completed v) other j e = cc
finished_as who (ends.Cancelled cause) Cancelling j e = e
finished_as who (ends.Cancelled cause) other j e = cc

-- an act that ends the Job of a row is its Finish
ends_by_finish : (r : ℕ) (act : JobAct) (end : End) → ends_as r act ≡ Some end → finishes r act ≡ true
ends_by_finish r (Finish q other) end e = (cond_some (r == q) other end e).0
ends_by_finish r other end e = cc

step_ends : (shape : Shape) (tree : Tree) (who q : ℕ) (act : JobAct) (x y : Option Job) (end : End) → RowStep shape tree who q act x y
    → ends_as q act ≡ Some end → end_at y ≡ Some end
step_ends shape tree who q _ _ _ end (RowStep.ends other j m) e =
    finished_as who other j.state j m.2 ∙ sym (ap (λ b. if b then Some other else None) (same q)) ∙ e
step_ends shape tree who q _ _ _ end (RowStep.stays act x a b c d f) e = let k : false ≡ true = sym f ∙ ends_by_finish q act end e in cc
step_ends shape tree who q _ _ _ end other e = cc

-- each Finish of a row in a legal history says how its Job has ended
ended_as : (shape : Shape) (tree : Tree) (es : List JobEntry) (r : ℕ) (act : JobAct) (end : End) → LegalFrom shape tree es
    → Among act (acts_in es) → ends_as r act ≡ Some end → end_at (replay_from tree es r) ≡ Some end
unfolding LegalFrom replay_from Among
ended_as shape tree [] r act end l m e = absurd m
ended_as shape tree (x ∷ xs) r act end l m e =
    ⊎_elim (λ q. history_keeps _ (end_lasts end) shape (after tree x.who x.act) xs r l.1
    (step_ends shape tree x.who r x.act _ _ end (row_step shape tree x.who x.act r l.0) (ap (ends_as r) (sym q) ∙ e)))
    (λ n. ended_as shape (after tree x.who x.act) xs r act end l.1 n e) m

-- ---- how far a Job is

-- what four tests of a history say of a row that is so: attached as lazy, started, cancelled, its body ended
abbrev Shows : Bool → Bool → Bool → Bool → JobState → Type 0
Shows lazy begun stopped bodiless New = (lazy ≡ true) × (begun ≡ false) × (stopped ≡ false) × (bodiless ≡ false)
Shows lazy begun stopped bodiless Active = ((lazy && not begun) ≡ false) × (stopped ≡ false) × (bodiless ≡ false)
Shows lazy begun stopped bodiless Completing = (stopped ≡ false) × (bodiless ≡ true)
Shows lazy begun stopped bodiless Cancelling = stopped ≡ true
Shows lazy begun stopped bodiless other = Unit {0}

abbrev ShowsRow : Bool → Bool → Bool → Bool → Option Job → Type 0
ShowsRow lazy begun stopped bodiless None = (lazy ≡ false) × (begun ≡ false) × (stopped ≡ false) × (bodiless ≡ false)
ShowsRow lazy begun stopped bodiless (Some j) = Shows lazy begun stopped bodiless j.state

-- the text of a Job by these tests is that of its state
text_shown : (s : JobState) (j : Job) (o : Option End) (lazy begun stopped bodiless : Bool) → o ≡ end_by s j
    → Shows lazy begun stopped bodiless s
    → end_or o (if stopped then codes "cancelling" else if bodiless then codes "completing" else if lazy
    && not begun then codes "new" else codes "active") ≡ state_text s j
text_shown New j o lazy begun stopped bodiless e h = rw (e, h.0, h.1, h.2, h.3) refl
text_shown Active j o lazy begun stopped bodiless e h = rw (e, h.0, h.1, h.2) refl
text_shown Completing j o lazy begun stopped bodiless e h = rw (e, h.0, h.1) refl
text_shown Cancelling j o lazy begun stopped bodiless e h = rw (e, h) refl
text_shown other j o lazy begun stopped bodiless e h = rw e refl

first_shown : (cancelled lazy : Bool) → Shows lazy false cancelled false (first_state cancelled lazy)
first_shown true lazy = refl
first_shown false true = (refl, refl, refl, refl)
first_shown false false = (refl, refl, refl)

body_shown : (s : JobState) (lazy begun stopped bodiless : Bool) → is_new s ≡ false → Shows lazy begun stopped bodiless s
    → Shows lazy begun stopped true (state_after_body s)
body_shown New lazy begun stopped bodiless n h = cc
body_shown Active lazy begun stopped bodiless n h = (h.1, refl)
body_shown Completing lazy begun stopped bodiless n h = (h.0, refl)
body_shown other lazy begun stopped bodiless n h = h

started_shown : (s : JobState) (lazy begun stopped bodiless : Bool) → s ≡ New → Shows lazy begun stopped bodiless s
    → Shows lazy true stopped bodiless Active
started_shown New lazy begun stopped bodiless e h = (and_right lazy false refl, h.2, h.3)
started_shown other lazy begun stopped bodiless e h = cc

ended_shown : (lazy begun stopped bodiless : Bool) (end : End) → Shows lazy begun stopped bodiless (state_of_end end)
ended_shown lazy begun stopped bodiless (ends.Completed v) = tt
ended_shown lazy begun stopped bodiless (ends.Cancelled cause) = tt

-- what the four tests say of a row, with one more act
abbrev ShowsAlso : ℕ → JobAct → Bool → Bool → Bool → Bool → Option Job → Type 0
ShowsAlso r act lazy begun stopped bodiless x = ShowsRow (lazy || attaches_lazy r act) (begun || starts r act) (stopped
    || makes_cancelling r act) (bodiless || ends_body r act) x

not_lazy : (r : ℕ) (act : JobAct) → attaches r act ≡ false → attaches_lazy r act ≡ false
not_lazy r (Attach p q kind tag cancelled) e = ap (λ b. b && kind.lazy) e
not_lazy r other e = refl

not_stopped : (r : ℕ) (act : JobAct) → attaches r act ≡ false → cancels r act ≡ false → makes_cancelling r act ≡ false
not_stopped r (Attach p q kind tag cancelled) e f = ap (λ b. b && cancelled) e
not_stopped r (Cancel q reason) e f = f
not_stopped r other e f = refl

-- an act that leaves the row as it was
unshown : (r : ℕ) (act : JobAct) (lazy begun stopped bodiless : Bool) (x : Option Job) → attaches_lazy r act ≡ false → starts r act ≡ false
    → makes_cancelling r act ≡ false → ends_body r act ≡ false
    → ShowsRow lazy begun stopped bodiless x → ShowsAlso r act lazy begun stopped bodiless x
unshown r act lazy begun stopped bodiless x l b s e h =
    rw (l, b, s, e, or-false lazy, or-false begun, or-false stopped, or-false bodiless) h

row_shown : (shape : Shape) (tree : Tree) (who q : ℕ) (act : JobAct) (x y : Option Job) (lazy begun stopped bodiless : Bool)
    → RowStep shape tree who q act x y → tree q ≡ x
    → ShowsRow lazy begun stopped bodiless x → ShowsAlso q act lazy begun stopped bodiless y
row_shown shape tree who q _ _ _ lazy begun stopped bodiless (RowStep.is_attached p kind tag cancelled m i) is h =
    rw (h.0, h.1, h.2, h.3, same q) (first_shown cancelled kind.lazy)
row_shown shape tree who q _ _ _ lazy begun stopped bodiless (RowStep.has_child r kind tag cancelled j none m) is h =
    let another = false_from_ne_true (q == r) (λ e. let k : Some j ≡ None = sym is ∙ ap tree (eqb-true q r e) ∙ none in cc) in
    unshown q (Attach q r kind tag cancelled) lazy begun stopped bodiless (Some j) (ap (λ b. b && kind.lazy) another) refl
    (ap (λ b. b && cancelled) another) refl h
row_shown shape tree who q _ _ _ lazy begun stopped bodiless (RowStep.is_started j n) is h =
    rw (or-false lazy, or-false stopped, or-false bodiless, same q, or_right begun true refl)
    (started_shown j.state lazy begun stopped bodiless n h)
row_shown shape tree who q _ _ _ lazy begun stopped bodiless (RowStep.body_ends v j m) is h =
    rw (or-false lazy, or-false begun, or-false stopped, same q, or_right bodiless true refl)
    (body_shown j.state lazy begun stopped bodiless m.1 h)
row_shown shape tree who q _ _ _ lazy begun stopped bodiless (RowStep.is_cancelled reason j m o) is h = ap (λ b. stopped || b) (same q)
    ∙ or_right stopped true refl
row_shown shape tree who q _ _ _ lazy begun stopped bodiless (RowStep.ends end j m) is h = ended_shown _ _ _ _ end
row_shown shape tree who q _ _ _ lazy begun stopped bodiless (RowStep.is_told c j m p) is h =
    unshown q (Gone c) lazy begun stopped bodiless (Some j) refl refl refl refl h
row_shown shape tree who q _ _ _ lazy begun stopped bodiless (RowStep.stays act x a b c d f) is h =
    unshown q act lazy begun stopped bodiless x (not_lazy q act a) b (not_stopped q act a d) c h

or_again : (a b c : Bool) → (a || (b || c)) ≡ ((a || b) || c)
or_again true b c = refl
or_again false b c = refl

-- what the four tests say behind a history that goes on
shown_from : (shape : Shape) (tree : Tree) (es : List JobEntry) (r : ℕ) (lazy begun stopped bodiless : Bool) → LegalFrom shape tree es
    → ShowsRow lazy begun stopped bodiless (tree r)
    → ShowsRow (lazy || list_any (attaches_lazy r) (acts_in es)) (begun || list_any (starts r) (acts_in es)) (stopped
    || list_any (makes_cancelling r) (acts_in es)) (bodiless || list_any (ends_body r) (acts_in es)) (replay_from tree es r)
unfolding LegalFrom replay_from
shown_from shape tree [] r lazy begun stopped bodiless l h = rw (or-false lazy, or-false begun, or-false stopped, or-false bodiless) h
shown_from shape tree (x ∷ xs) r lazy begun stopped bodiless l h =
    rw (
      or_again lazy (attaches_lazy r x.act) (list_any (attaches_lazy r) (acts_in xs)),
      or_again begun (starts r x.act) (list_any (starts r) (acts_in xs)),
      or_again stopped (makes_cancelling r x.act) (list_any (makes_cancelling r) (acts_in xs)),
      or_again bodiless (ends_body r x.act) (list_any (ends_body r) (acts_in xs)),
    )
    (shown_from shape (after tree x.who x.act) xs r _ _ _ _ l.1
    (row_shown shape tree x.who r x.act (tree r) (after tree x.who x.act r) lazy begun stopped bodiless
    (row_step shape tree x.who x.act r l.0) refl h))

shown_at_start : (r : ℕ) → ShowsRow false false false false (start r)
shown_at_start r = by_row (r == 0)
  where
    by_row : (b : Bool) → ShowsRow false false false false (if b then Some root else None)
    by_row true = (refl, refl, refl)
    by_row false = (refl, refl, refl, refl)

-- ---- what is printed

pub any_mapped : (f : JobAct → Bool) (es : List JobEntry) → list_any (λ e. f e.act) es ≡ list_any f (acts_in es)
any_mapped f [] = refl
any_mapped f (e ∷ es) = ap (λ b. f e.act || b) (any_mapped f es)

noted_end : (r : ℕ) (acts : List JobAct) (end : End) → end_noted r acts ≡ Some end → (a : JobAct) × Among a acts × (ends_as r a ≡ Some end)
unfolding Among
noted_end r [] end e = cc
noted_end r (a ∷ acts) end e = by_first (ends_as r a) refl (λ k. noted_end r acts end k) e
  where
    by_first : (o : Option End) → ends_as r a ≡ o → (end_noted r acts ≡ Some end → (b : JobAct) × Among b acts × (ends_as r b ≡ Some end))
        → option_or o (end_noted r acts) ≡ Some end
        → (b : JobAct) × ((b ≡ a) ⊎ Among b acts) × (ends_as r b ≡ Some end)
    by_first None q more h = let m = more h in (m.0, inr m.1, m.2)
    by_first (Some u) q more h = (a, inl refl, q ∙ h)

ends_nothing : (r : ℕ) (act : JobAct) → ends_as r act ≡ None → finishes r act ≡ false
ends_nothing r (Finish q end) e = false_from_ne_true (r == q) (λ k. let both : Some end ≡ None =
    sym (ap (λ b. if b then Some end else None) k) ∙ e in cc)
ends_nothing r other e = refl

none_noted : (r : ℕ) (acts : List JobAct) → end_noted r acts ≡ None → list_any (finishes r) acts ≡ false
none_noted r [] e = refl
none_noted r (a ∷ acts) e = by_first (ends_as r a) refl (λ k. none_noted r acts k) e
  where
    by_first : (o : Option End) → ends_as r a ≡ o → (end_noted r acts ≡ None → list_any (finishes r) acts ≡ false)
        → option_or o (end_noted r acts) ≡ None → (finishes r a || list_any (finishes r) acts) ≡ false
    by_first None q more h = ap (λ b. b || list_any (finishes r) acts) (ends_nothing r a q) ∙ more h
    by_first (Some u) q more h = cc

not_ended : (x : Option Job) → has_ended x ≡ false → end_at x ≡ None
not_ended None e = refl
not_ended (Some j) e = by_state j.state e
  where
    by_state : (s : JobState) → is_ended s ≡ false → end_by s j ≡ None
    by_state Cancelled e = cc
    by_state Completed e = cc
    by_state other e = refl

fold_same : {A B : Type 0} (f g : A → B → A) → ((a : A) (b : B) → f a b ≡ g a b) → (bs : List B) (a : A) → fold f a bs ≡ fold g a bs
fold_same f g e [] a = refl
fold_same f g e (b ∷ bs) a = ap (λ x. fold f x bs) (e a b) ∙ fold_same f g e bs (g a b)

row_counted : {N : Type 0} (add : N → Option End → N) (n : N) (b : Bool) (o : Option End) (x : Option Job) → b ≡ is_some x → o ≡ end_at x
    → (if b then add n o else n) ≡ with_row_of add n x
row_counted add n b o None a e = ap (λ c. if c then add n o else n) a
row_counted add n b o (Some j) a e = ap (λ c. if c then add n o else n) a ∙ ap (add n) e

module _ (shape : Shape) (jobs : List JobEntry) (acts : List JobAct) (l : Legal shape jobs) (members : SameMembers (acts_in jobs) acts)
  where
    tested : (f : JobAct → Bool) → list_any f acts ≡ list_any f (acts_in jobs)
    tested f = sym (same_any (acts_in jobs) acts members f)

    attached_told : (r : ℕ) → is_attached r acts ≡ is_some (replay jobs r)
    attached_told r = ap (λ b. (r == 0) || b) (tested (attaches r) ∙ sym (any_mapped (attaches r) jobs))
        ∙ sym (by_entries shape jobs r l).attached

    pub end_told : (r : ℕ) → end_noted r acts ≡ end_at (replay jobs r)
    end_told r = by_end (end_noted r acts) refl
      where
        by_end : (o : Option End) → end_noted r acts ≡ o → o ≡ end_at (replay jobs r)
        by_end None e = sym (not_ended (replay jobs r) ((by_entries shape jobs r l).ended ∙ any_mapped (finishes r) jobs
            ∙ sym (tested (finishes r)) ∙ none_noted r acts e))
        by_end (Some end) e = let m = noted_end r acts end e in sym (ended_as shape start jobs r m.0 end l (members.back m.0 m.1) m.2)

    row_told : (r : ℕ) → ShowsRow (list_any (attaches_lazy r) acts) (list_any (starts r) acts) (list_any (makes_cancelling r) acts)
        (list_any (ends_body r) acts) (replay jobs r)
    row_told r =
        rw (tested (attaches_lazy r), tested (starts r), tested (makes_cancelling r), tested (ends_body r))
        (shown_from shape start jobs r false false false false l (shown_at_start r))

    line_told : (r : ℕ) → job_line r acts ≡ row_line r (replay jobs r)
    line_told r = by_row (replay jobs r) (attached_told r) (end_told r) (row_told r)
      where
        by_row : (x : Option Job) → is_attached r acts ≡ is_some x → end_noted r acts ≡ end_at x
            → ShowsRow (list_any (attaches_lazy r) acts) (list_any (starts r) acts) (list_any (makes_cancelling r) acts)
            (list_any (ends_body r) acts) x → job_line r acts ≡ row_line r x
        by_row None a e h = ap (λ b. if b then line_of_job r (job_text r acts) else []) a
        by_row (Some j) a e h =
            ap (λ b. if b then line_of_job r (job_text r acts) else []) a
            ∙ ap (line_of_job r) (text_shown j.state j (end_noted r acts) (list_any (attaches_lazy r) acts) (list_any (starts r) acts)
            (list_any (makes_cancelling r) acts) (list_any (ends_body r) acts) e h)

    -- acts that are those of a legal history say of Jobs what its tree says
    pub jobs_told : AreToldOf acts (replay jobs)
    jobs_told = record {
      lines = line_told;
      counts = λ rows. fold_same (with_row acts) (λ n r. with_row_of with_job n (replay jobs r))
          (λ n r. row_counted with_job n (is_attached r acts) (end_noted r acts) (replay jobs r) (attached_told r) (end_told r))
          (range_with_len 0 rows) no_jobs;
      root = end_told 0;
    }
