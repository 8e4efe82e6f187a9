-- A name that a line uses was given by a launch: by what was told, which was so.
use Rattle.std.specs.Prelude.{◌≡◌, ℕ, zero, suc, ◌+◌, ◌-◌, ◌<◌, ◌≤◌, ◌==◌, nat_lt, Bool, true, false, ◌||◌, List, [], ◌∷◌, ◌++◌, length, map, Option, Some, None, slice_get, refl}
use Rattle.std.specs.List.{list_any}
use mathlib.Core.List.{IsPrefix}
use Rattle.std.proofs.Common.{sym, ap, ◌∙◌, subst, append_assoc, eqb-true, arith}
use Rattle.std.proofs.lemmas.List.Folds.{list_any-append}
use Rattle.std.proofs.lemmas.Bool.{false≢true, or_right, eq-eqb}
use Rattle.job_model.specs.declared.acts.End.{End}
use Rattle.job_model.specs.declared.acts.End.TheVariants as ends
use Rattle.job_model.specs.declared.acts.JobState.{JobState}
use Rattle.job_model.specs.declared.acts.JobState.TheVariants.{New, Cancelling, Cancelled, Completed}
use Rattle.job_model.specs.Trees.{Shape, Job, is_cancelled, state_of}
use Rattle.job_model.specs.Laws.{is_step, GoesTo, RowGoesTo}
use Rattle.job_model.specs.Histories.{replay, Legal}
use Rattle.job_model.proofs.Histories.{Legal-prefix}
use Rattle.job_model.proofs.States.{states_go_on}
use Rattle.note_book.specs.declared.book.Item.{Item}
use Rattle.call_meaning.specs.Telling.{Told, on_jobs, JobFact, MayRun, NotNew, IsCancelling, HasEnded, PassedBelow, FailedUp, ParentIs, OwesNoEnd, saw_end}
use Rattle.call_meaning.specs.Facts.{end_at, end_by}
use Rattle.call_meaning.specs.Stories.{Moment, Story, IsSo, IsTrue, with_told, beginning}
use Rattle.call_meaning.specs.ChannelCalls.{Answer}
use Rattle.call_meaning.specs.JobCalls.{BreaksOff}
use Rattle.script_grammar.specs.declared.instructions.Instruction.{Instruction}
use Rattle.script_grammar.specs.declared.instructions.Instruction.TheVariants as line
use Rattle.script_grammar.specs.Programs.{Program}
use Rattle.script_grammar.specs.Blocks.{job_given, job_used}
use Rattle.script_grammar.specs.Nesting.{closing_of}
use Rattle.script_grammar.specs.Declarations.{is_below, is_next_job, jobs_after_name}
use Rattle.script_grammar.specs.Tags.{code_of}
use Rattle.script_grammar.specs.WellFormed.{IsProgram}
use Rattle.script_grammar.proofs.Layouts.{jobs_known}
use Rattle.script_grammar.proofs.Truths.{lt-from_true}
use Rattle.script_meaning.specs.declared.stage.Stage.{Stage}
use Rattle.script_meaning.specs.declared.stage.Stage.TheVariants.{Fresh, Running, Waiting, SeesJob, Unwinding, Leaving, SeesScope, Ended}
use Rattle.script_meaning.specs.Shapes.{job_shape, base_of}
use Rattle.script_meaning.specs.Configs.{Config, InScope, fresh, at_stage, named, set_row, past_launch, scope_in, LineIs}
use Rattle.script_meaning.specs.Lines.{After, AfterAwait, AtScopeEnd, AfterScope}
use Rattle.script_meaning.specs.Moves.{Move}
use Rattle.script_meaning.specs.Books.{story, Spawns, Begins, Reaches, Runs}
use Rattle.script_meaning.specs.Inside.{heads_at, head_of, is_in_lines, Fits}
use Rattle.script_meaning.proofs.OpenLines.{end_closes_first, opened_at}
use Rattle.script_meaning.proofs.InsideCode.{reach_fits, just_entered, at_in_lines, scope_closes}
use Rattle.script_meaning.proofs.NamesGiven.{names_from, names_at, names_next, names_none, names_past, knows_at, each_gives_none, select_gives_none}

-- ---- a scope that was broken off is not seen completed

abbrev pub is_cancelling_fact : ℕ → JobFact → Bool
is_cancelling_fact row (MayRun r) = false
is_cancelling_fact row (NotNew r) = false
is_cancelling_fact row (IsCancelling r) = r == row
is_cancelling_fact row (HasEnded r) = false
is_cancelling_fact row other = false

-- the Job of the row was Cancelling
abbrev pub tells_cancelling : ℕ → Told → Bool
tells_cancelling row (on_jobs fact) = is_cancelling_fact row fact
tells_cancelling row other = false

-- no Job that was Cancelling is seen completed
pub EndsAgree : List Told → Type 0
EndsAgree told = (before behind : List Told) (row v : ℕ) → told ≡ before ++ saw_end row (ends.Completed v) ∷ behind
    → list_any (tells_cancelling row) before ≡ true → ⊥

agree_before : (xs ys : List Told) → EndsAgree (xs ++ ys) → EndsAgree xs
unfolding EndsAgree
agree_before xs ys h before behind row v e = h before (behind ++ ys) row v (ap (λ l. l ++ ys) e
    ∙ append_assoc before (saw_end row (ends.Completed v) ∷ behind) ys)

-- a Job that is Cancelling does not complete
step_cancelled : (s t : JobState) → is_step s t ≡ true → is_cancelled s ≡ true → is_cancelled t ≡ true
step_cancelled Cancelling Cancelling e c = refl
step_cancelled Cancelling Cancelled e c = refl
step_cancelled Cancelling other e c = cc
step_cancelled other t e c = cc

goes_cancelled : (s t : JobState) → GoesTo s t → is_cancelled s ≡ true → is_cancelled t ≡ true
goes_cancelled s _ GoesTo.stays c = c
goes_cancelled s _ (GoesTo.goes_on t u g e) c = step_cancelled t u e (goes_cancelled s t g c)

never_completed : (x y : Option Job) (v : ℕ) → RowGoesTo x y → state_of x ≡ Some Cancelling → end_at y ≡ Some (ends.Completed v) → ⊥
never_completed None y v g c e = cc
never_completed (Some j) None v g c e = g
never_completed (Some j) (Some k) v g c e =
    let is : j.state ≡ Cancelling = cc in
    not_so k.state (goes_cancelled j.state k.state g (ap is_cancelled is)) e
  where
    not_so : (s : JobState) → is_cancelled s ≡ true → end_by s k ≡ Some (ends.Completed v) → ⊥
    not_so New c e = cc
    not_so other c e = cc

prefix_then : {A : Type 0} (xs ys zs : List A) → IsPrefix xs ys → IsPrefix ys zs → IsPrefix xs zs
prefix_then xs ys zs p q = (p.0 ++ q.0, sym (append_assoc xs p.0 q.0) ∙ ap (λ l. l ++ q.0) p.1 ∙ q.1)

-- what was told behind the first things was so at a later moment
later_so : (s : Story) (items : List Item) (earlier : Moment) (before : List Told) (t : Told) (behind : List Told)
    → IsTrue s items earlier (before ++ t ∷ behind)
    → (at : Moment) × ((i : List Item) × ((e : Moment) × (IsSo s i e t at × IsPrefix earlier.jobs at.jobs)))
unfolding IsTrue
later_so s items earlier [] t behind h = (h.0, (items, (earlier, (h.1, h.1.not_before.jobs))))
later_so s items earlier (x ∷ before) t behind h =
    let r = later_so s (with_told x items) h.0 before t behind h.2 in
    (r.0, (r.1.0, (r.1.1.0, (r.1.1.1.0, prefix_then earlier.jobs h.0.jobs r.0.jobs h.1.not_before.jobs r.1.1.1.1))))

fact_so : (row : ℕ) (t : Told) (s : Story) (i : List Item) (e at : Moment) → tells_cancelling row t ≡ true → IsSo s i e t at
    → state_of (replay at.jobs row) ≡ Some Cancelling
fact_so row (on_jobs (MayRun r)) s i e at c h = cc
fact_so row (on_jobs (NotNew r)) s i e at c h = cc
fact_so row (on_jobs (IsCancelling r)) s i e at c h = ap (λ n. state_of (replay at.jobs n)) (sym (eqb-true r row c)) ∙ h.holds
fact_so row (on_jobs (HasEnded r)) s i e at c h = cc
fact_so row (on_jobs (PassedBelow r acts)) s i e at c h = cc
fact_so row (on_jobs (FailedUp r acts)) s i e at c h = cc
fact_so row (on_jobs (ParentIs r parent)) s i e at c h = cc
fact_so row (on_jobs (OwesNoEnd r)) s i e at c h = cc
fact_so row other s i e at c h = cc

not_both : (shape : Shape) (s : Story) (items : List Item) (earlier : Moment) (before behind : List Told) (row v : ℕ)
    → Legal shape s.now.jobs → IsTrue s items earlier (before ++ saw_end row (ends.Completed v) ∷ behind)
    → list_any (tells_cancelling row) before ≡ true → ⊥
unfolding IsTrue
not_both shape s items earlier [] behind row v l h c = cc
not_both shape s items earlier (t ∷ before) behind row v l h c =
    by_test (tells_cancelling row t) refl c (not_both shape s (with_told t items) h.0 before behind row v l h.2)
  where
    by_test : (b : Bool) → tells_cancelling row t ≡ b → (b || list_any (tells_cancelling row) before) ≡ true
        → (list_any (tells_cancelling row) before ≡ true → ⊥) → ⊥
    by_test true e d more =
        let r = later_so s (with_told t items) h.0 before (saw_end row (ends.Completed v)) behind h.2 in
        let is : h.0.jobs ++ r.1.1.1.1.0 ≡ r.0.jobs = r.1.1.1.1.1 in
        let now : r.0.jobs ++ r.1.1.1.0.not_after.jobs.0 ≡ s.now.jobs = r.1.1.1.0.not_after.jobs.1 in
        let legal : Legal shape (h.0.jobs ++ r.1.1.1.1.0) = subst (Legal shape) (sym is)
        (Legal-prefix shape r.0.jobs r.1.1.1.0.not_after.jobs.0 (subst (Legal shape) (sym now) l)) in
        let goes : RowGoesTo (replay h.0.jobs row) (replay r.0.jobs row) =
        subst (λ es. RowGoesTo (replay h.0.jobs row) (replay es row)) is (states_go_on shape h.0.jobs r.1.1.1.1.0 row legal) in
        never_completed (replay h.0.jobs row) (replay r.0.jobs row) v goes (fact_so row t s items earlier h.0 e h.1) r.1.1.1.0.holds
    by_test false e d more = more d

-- what was so agrees
pub ends_agree : (shape : Shape) (s : Story) (items : List Item) (earlier : Moment) (told : List Told) → Legal shape s.now.jobs
    → IsTrue s items earlier told → EndsAgree told
unfolding EndsAgree
ends_agree shape s items earlier told l h before behind row v e c =
    not_both shape s items earlier before behind row v l (subst (IsTrue s items earlier) e h) c

-- ---- names

abbrev pub is_leaving : Stage → Bool
is_leaving (Leaving w) = true
is_leaving SeesScope = true
is_leaving other = false

-- the scope that it leaves has come to its end, where the names are known, or was broken off
pub data LeavesKnown (p : Program) (k : ℕ) (told : List Told) (x : Config) (s : InScope) : Type 0 where
  ended : closing_of (code_of p k) s.head ≡ Some x.line → names_at (code_of p k) x.line ≤ length x.rows → LeavesKnown p k told x s
  broken : list_any (tells_cancelling s.row) told ≡ true → LeavesKnown p k told x s

-- the names that are given before its line are known
pub record KnowsNames (p : Program) (k : ℕ) (told : List Told) (x : Config) : Type 0 where
  pub inside : is_in_lines x.stage ≡ true → names_at (code_of p k) x.line ≤ length x.rows
  pub leaving : is_leaving x.stage ≡ true → (s : InScope) → scope_in x.entered ≡ Some s → LeavesKnown p k told x s

-- where it runs
running : (p : Program) (k : ℕ) (told : List Told) (y : Config) → y.stage ≡ Running → names_at (code_of p k) y.line ≤ length y.rows
    → KnowsNames p k told y
running p k told y s h = record { inside = λ e. h; leaving = λ e. absurd (false≢true (sym (ap is_leaving s) ∙ e)) }

-- where nothing is asked
elsewhere : (p : Program) (k : ℕ) (told : List Told) (y : Config) (s : Stage) → y.stage ≡ s → is_in_lines s ≡ false → is_leaving s ≡ false
    → KnowsNames p k told y
elsewhere p k told y s e i l = record {
  inside = λ f. absurd (false≢true (sym i ∙ sym (ap is_in_lines e) ∙ f));
  leaving =
      λ f. absurd (false≢true (sym l ∙ sym (ap is_leaving e) ∙ f));
}

-- at the same line
at_line_still : (p : Program) (k : ℕ) (told : List Told) (x : Config) (s : Stage) → is_leaving s ≡ false
    → names_at (code_of p k) x.line ≤ length x.rows → KnowsNames p k told (at_stage s x)
at_line_still p k told x s l h = record { inside = λ e. h; leaving = λ e. absurd (false≢true (sym l ∙ e)) }

-- behind a line that gives no name
behind_line : (p : Program) (k : ℕ) (told : List Told) (x : Config) (l : Instruction) (y : Config)
    → names_at (code_of p k) x.line ≤ length x.rows → LineIs p k x l → job_given l ≡ None → y.stage ≡ Running → y.line ≡ x.line + 1
    → y.rows ≡ x.rows → KnowsNames p k told y
behind_line p k told x l y h at n s i r =
    running p k told y s (omega (
      arith,
      h,
      ap (names_at (code_of p k)) i,
      names_none (code_of p k) x.line l at n,
      ap (λ (rs : List ℕ). length rs) r,
    ))

grows : (code : List Instruction) (i d : ℕ) → names_at code i ≤ names_at code (i + d)
grows code i zero = let same : i + 0 ≡ i = omega arith in omega (arith, ap (names_at code) same)
grows code i (suc d) =
    let up : i + suc d ≡ i + d + 1 = omega arith in
    omega (arith, grows code i d, ap (names_at code) up, one_more code (i + d))
  where
    after_name : (n : ℕ) (o : Option ℕ) → n ≤ jobs_after_name n o
    after_name n None = omega arith
    after_name n (Some j) = omega arith

    past_end : (n : ℕ) (code : List Instruction) (j : ℕ) → slice_get code j ≡ None → names_from n code j ≤ names_from n code (suc j)
    past_end n [] zero e = omega arith
    past_end n [] (suc j) e = omega arith
    past_end n (x ∷ code) zero e = cc
    past_end n (x ∷ code) (suc j) e = past_end (jobs_after_name n (job_given x)) code j e

    one_more : (code : List Instruction) (j : ℕ) → names_at code j ≤ names_at code (j + 1)
    one_more code j = by_line (slice_get code j) refl
      where
        by_line : (o : Option Instruction) → slice_get code j ≡ o → names_at code j ≤ names_at code (j + 1)
        by_line None e = let up : j + 1 ≡ suc j = omega arith in omega (arith, past_end 0 code j e, ap (names_at code) up)
        by_line (Some x) e = omega (arith, names_next code j x e, after_name (names_at code j) (job_given x))

-- at an earlier line fewer names are given
fewer_names : (code : List Instruction) (i j : ℕ) → i ≤ j → names_at code i ≤ names_at code j
fewer_names code i j h =
    let sum : i + (j - i) ≡ j = omega (arith, h) in
    omega (arith, grows code i (j - i), ap (names_at code) sum)

back_at : (p : Program) (k : ℕ) (told : List Told) (x : Config) (i : ℕ) (y : Config) → names_at (code_of p k) x.line ≤ length x.rows
    → i ≤ x.line → y.stage ≡ Running → y.line ≡ i → y.rows ≡ x.rows → KnowsNames p k told y
back_at p k told x i y h le s l r = running p k told y s
    (omega (arith, h, fewer_names (code_of p k) i x.line le, ap (names_at (code_of p k)) l, ap (λ (rs : List ℕ). length rs) r))

past_line : (p : Program) (k : ℕ) (told : List Told) (x : Config) (e : ℕ) (y : Config) → names_at (code_of p k) x.line ≤ length x.rows
    → names_at (code_of p k) (e + 1) ≡ names_at (code_of p k) x.line → y.stage ≡ Running → y.line ≡ e + 1 → y.rows ≡ x.rows
    → KnowsNames p k told y
past_line p k told x e y h n s l r = running p k told y s
    (omega (arith, h, n, ap (names_at (code_of p k)) l, ap (λ (rs : List ℕ). length rs) r))

-- ---- launches

length-set_row : (n row : ℕ) (rows : List ℕ) → n ≤ length rows → n + 1 ≤ length (set_row n row rows)
unfolding set_row
length-set_row zero row [] h = omega arith
length-set_row zero row (r ∷ rows) h = omega arith
length-set_row (suc n) row [] h = absurd (omega (arith, h))
length-set_row (suc n) row (r ∷ rows) h = let shorter : n ≤ length rows = omega (arith, h)
    in omega (arith, length-set_row n row rows shorter)

-- one name more, or as many
named_more : (names : ℕ) (job : Option ℕ) (row : ℕ) (rows : List ℕ) → is_next_job names job ≡ true → names ≤ length rows
    → jobs_after_name names job ≤ length (named job row rows)
named_more names None row rows e h = h
named_more names (Some n) row rows e h = let same : n ≡ names = eqb-true n names e in let short : n ≤ length rows = omega (arith, h, same)
    in omega (arith, length-set_row n row rows short, same)

launch_knows : (p : Program) (k : ℕ) (told : List Told) (x : Config) (block : ℕ) (how : _) (job : Option ℕ) (y : Config) → IsProgram p
    → names_at (code_of p k) x.line ≤ length x.rows → LineIs p k x (line.Launch block how job) → y.stage ≡ Running → y.line ≡ x.line + 1
    → y.rows ≡ named job x.free x.rows → KnowsNames p k told y
launch_knows p k told x block how job y ok h at s l r =
    let known = knows_at (code_of p k) x.line (line.Launch block how job) (jobs_known p k ok) at in
    running p k told y s (omega (
      arith,
      named_more (names_at (code_of p k) x.line) job x.free x.rows known.1 h,
      names_next (code_of p k) x.line (line.Launch block how job) at,
      ap (names_at (code_of p k)) l,
      ap (λ (rs : List ℕ). length rs) r,
    ))

-- ---- lines

after_knows : (p : Program) (k : ℕ) (t : List Told) (x : Config) (i : Instruction) (a : Answer) (y : Config) → IsProgram p
    → names_at (code_of p k) x.line ≤ length x.rows → LineIs p k x i → is_in_lines x.stage ≡ true → After p k x i a y → KnowsNames p k t y
after_knows p k t x _ _ _ ok h at s (After.waits i w) = at_line_still p k t x (Waiting w) refl h
after_knows p k t x _ _ _ ok h at s (After.no_place i) = elsewhere p k t _ (Unwinding (Some k)) refl refl refl
after_knows p k t x _ _ y ok h at s (After.got_all c v e f) =
    past_line p k t x e y h (names_past (code_of p k) x.line e _ at refl refl f (each_gives_none p k x.line c ok at)) refl refl refl
after_knows p k t x _ _ y ok h at s (After.chose_send e f) =
    past_line p k t x e y h (names_past (code_of p k) x.line e _ at refl refl f (select_gives_none p k x.line ok at)) refl refl refl
after_knows p k t x _ _ y ok h at s (After.chose_got e v f) =
    past_line p k t x e y h (names_past (code_of p k) x.line e _ at refl refl f (select_gives_none p k x.line ok at)) refl refl refl
after_knows p k t x _ _ y ok h at s (After.chose_closed e v f) =
    past_line p k t x e y h (names_past (code_of p k) x.line e _ at refl refl f (select_gives_none p k x.line ok at)) refl refl refl
after_knows p k t x _ _ _ ok h at s After.looks_again = record { inside = λ e. h; leaving = λ e. apart x.stage s e }
  where
    apart : {A : Type 0} (s : Stage) → is_in_lines s ≡ true → is_leaving s ≡ true → A
    apart Fresh i l = cc
    apart other i l = cc
after_knows p k t x _ _ _ ok h at s (After.awaited job v) = at_line_still p k t x SeesJob refl h
after_knows p k t x _ _ y ok h at s other = behind_line p k t x _ y h at refl refl refl refl

after_await_knows : (p : Program) (k : ℕ) (t : List Told) (x : Config) (job : ℕ) (end : End) (y : Config)
    → names_at (code_of p k) x.line ≤ length x.rows → LineIs p k x (line.Await job) → AfterAwait x end y → KnowsNames p k t y
after_await_knows p k t x job _ y h at (AfterAwait.completed v) = behind_line p k t x _ y h at refl refl refl refl
after_await_knows p k t x job _ y h at AfterAwait.cancelled = elsewhere p k t y (Unwinding None) refl refl refl
after_await_knows p k t x job _ y h at (AfterAwait.failed f) = elsewhere p k t y (Unwinding (Some f)) refl refl refl

-- ---- scopes

-- it leaves a scope, of which this is known
leaves : (p : Program) (k : ℕ) (t : List Told) (x : Config) (s : InScope) (stage : Stage) → scope_in x.entered ≡ Some s
    → LeavesKnown p k t x s → is_in_lines stage ≡ false → KnowsNames p k t (at_stage stage x)
leaves p k t x s stage e l i = record {
  inside = λ f. absurd (false≢true (sym i ∙ f));
  leaving = λ f u g. let same : s ≡ u = let both_ways : Some s ≡ Some u = sym e ∙ g in cc in still (subst (LeavesKnown p k t x) same l);
}
  where
    still : {u : InScope} → LeavesKnown p k t x u → LeavesKnown p k t (at_stage stage x) u
    still (LeavesKnown.ended c h) = LeavesKnown.ended c h
    still (LeavesKnown.broken b) = LeavesKnown.broken b

scope_end_knows : (p : Program) (k : ℕ) (t : List Told) (x : Config) (s : InScope) (a : Answer) (y : Config) → scope_in x.entered ≡ Some s
    → LeavesKnown p k t x s → AtScopeEnd k x s a y → KnowsNames p k t y
scope_end_knows p k t x s _ _ e l (AtScopeEnd.waits w) = leaves p k t x s (Leaving w) e l refl
scope_end_knows p k t x s _ _ e l (AtScopeEnd.closed v) = leaves p k t x s SeesScope e l refl
scope_end_knows p k t x s _ y e l AtScopeEnd.no_place = elsewhere p k t y (Unwinding (Some k)) refl refl refl

-- more is told
later_told : (p : Program) (k : ℕ) (told more : List Told) (x : Config) (s : InScope) → LeavesKnown p k told x s
    → LeavesKnown p k (told ++ more) x s
later_told p k told more x s (LeavesKnown.ended c h) = LeavesKnown.ended c h
later_told p k told more x s (LeavesKnown.broken b) = LeavesKnown.broken (list_any-append (tells_cancelling s.row) told more
    ∙ ap (λ c. c || list_any (tells_cancelling s.row) more) b)

-- the wait at its end has ended
end_seen : (p : Program) (k : ℕ) (told more : List Told) (x : Config)
    → ((s : InScope) → scope_in x.entered ≡ Some s → LeavesKnown p k told x s) → KnowsNames p k (told ++ more) (at_stage SeesScope x)
end_seen p k told more x known = record {
  inside = λ f. absurd (false≢true f);
  leaving = λ f u g. still u (later_told p k told more x u (known u g));
}
  where
    still : (u : InScope) → LeavesKnown p k (told ++ more) x u → LeavesKnown p k (told ++ more) (at_stage SeesScope x) u
    still u (LeavesKnown.ended c q) = LeavesKnown.ended c q
    still u (LeavesKnown.broken b) = LeavesKnown.broken b

after_scope_knows : (p : Program) (k : ℕ) (told : List Told) (x : Config) (s : InScope) (end : End) (y : Config) → IsProgram p → Fits p k x
    → scope_in x.entered ≡ Some s → LeavesKnown p k told x s → EndsAgree (told ++ saw_end s.row end ∷ []) → AfterScope p k x s end y
    → KnowsNames p k (told ++ saw_end s.row end ∷ []) y
unfolding EndsAgree
after_scope_knows p k told x s _ y ok h e (LeavesKnown.ended c n) agree (AfterScope.completed v i f) =
    let closed = scope_closes p k x s ok h e in
    let first : closed.0 ≡ x.line = let both_ways : Some closed.0 ≡ Some x.line = sym closed.1 ∙ c in cc in
    let here : i ≡ x.line = let both_ways : Some i ≡ Some x.line = sym f ∙ c in cc in
    let end : slice_get (code_of p k) x.line ≡ Some line.End = ap (slice_get (code_of p k)) (sym first) ∙ closed.3.is_end in
    past_line p k _ x i y n (ap (λ m. names_at (code_of p k) (m + 1)) here
    ∙ names_none (code_of p k) x.line line.End end refl) refl refl refl
after_scope_knows p k told x s _ y ok h e (LeavesKnown.broken b) agree (AfterScope.completed v i f) = absurd (agree told [] s.row v refl b)
after_scope_knows p k told x s _ y ok h e l agree AfterScope.cancelled = elsewhere p k _ y (Unwinding None) refl refl refl
after_scope_knows p k told x s _ y ok h e l agree (AfterScope.failed f) = elsewhere p k _ y (Unwinding (Some f)) refl refl refl

-- it is broken off
breaks_tell : (p : Program) (k : ℕ) (row : ℕ) (failure : Option ℕ) (group : List Told) → BreaksOff (base_of p) k row failure group
    → list_any (tells_cancelling row) group ≡ true
breaks_tell p k row failure group b =
    ap (list_any (tells_cancelling row)) b.all ∙ list_any-append (tells_cancelling row) b.cancels (on_jobs (IsCancelling row) ∷ b.end)
    ∙ ap (λ c. list_any (tells_cancelling row) b.cancels || (c || list_any (tells_cancelling row) b.end)) (eq-eqb row row refl)
    ∙ or_right (list_any (tells_cancelling row) b.cancels) true refl

-- ---- moves

move_knows : (p : Program) (k : ℕ) (told : List Told) (x : Config) (group : List Told) (y : Config) → IsProgram p → Fits p k x
    → KnowsNames p k told x → EndsAgree (told ++ group) → Move p k x group y → KnowsNames p k (told ++ group) y
move_knows p k told _ group _ ok h n a (Move.runs x s) = at_line_still p k _ x Running refl (n.inside (ap is_in_lines s))
move_knows p k told _ group y ok h n a (Move.never_runs x s) = elsewhere p k _ y (Unwinding None) refl refl refl
move_knows p k told _ _ _ ok h n a (Move.calls x y i group answer at c f) =
    after_knows p k _ x i answer y ok (n.inside (at_in_lines p k x i at)) at.line_is (at_in_lines p k x i at) f
move_knows p k told _ _ _ ok h n a (Move.resumes x y w i outcome answer s at m f) =
    after_knows p k _ x i answer y ok (n.inside (ap is_in_lines s)) at (ap is_in_lines s) f
move_knows p k told _ _ _ ok h n a (Move.sees_job x y job row end s at m f) =
    after_await_knows p k _ x job end y (n.inside (ap is_in_lines s)) at f
move_knows p k told _ _ y ok h n a (Move.closes x c group at g) =
    behind_line p k _ x _ y (n.inside (at_in_lines p k x _ at)) at.line_is refl refl refl refl
move_knows p k told _ _ y ok h n a (Move.cancels_channel x c group at g) =
    behind_line p k _ x _ y (n.inside (at_in_lines p k x _ at)) at.line_is refl refl refl refl
move_knows p k told _ _ y ok h n a (Move.yields x at) =
    behind_line p k _ x _ y (n.inside (at_in_lines p k x _ at)) at.line_is refl refl refl refl
move_knows p k told _ _ y ok h n a (Move.launches x block how job now at) =
    launch_knows p k _ x block how job y ok (n.inside (at_in_lines p k x _ at)) at.line_is refl refl refl
move_knows p k told _ _ y ok h n a (Move.launch_refused x block how job group at g) = elsewhere p k _ y (Unwinding (Some k)) refl refl refl
move_knows p k told _ _ y ok h n a (Move.enters x supervisor row now at) =
    behind_line p k _ x _ y (n.inside (at_in_lines p k x _ at)) at.line_is refl refl refl refl
move_knows p k told _ _ y ok h n a (Move.enter_refused x supervisor group at g) = elsewhere p k _ y (Unwinding (Some k)) refl refl refl
move_knows p k told _ _ y ok h n a (Move.starts x job row group at m g) =
    behind_line p k _ x _ y (n.inside (at_in_lines p k x _ at)) at.line_is refl refl refl refl
move_knows p k told _ _ y ok h n a (Move.cancels x job row newly group at m g) =
    behind_line p k _ x _ y (n.inside (at_in_lines p k x _ at)) at.line_is refl refl refl refl
move_knows p k told _ _ y ok h n a (Move.fails x v at) = elsewhere p k _ y (Unwinding (Some k)) refl refl refl
move_knows p k told _ _ y ok h n a (Move.results x o at) =
    behind_line p k _ x _ y (n.inside (at_in_lines p k x _ at)) at.line_is refl refl refl refl
move_knows p k told _ _ y ok h n a (Move.repeats x m at) =
    behind_line p k _ x _ y (n.inside (at_in_lines p k x _ at)) at.line_is refl refl refl refl
move_knows p k told _ _ y ok h n a (Move.turns_again x head m es at e) =
    let is : heads_at (code_of p k) x.line ≡ head ∷ map head_of es = just_entered p k x h (at_in_lines p k x line.End at)
    ∙ ap (map head_of) e in
    let o = opened_at (code_of p k) x.line h.inside [] head (map head_of es) is in
    back_at p k _ x (head + 1) y (n.inside (at_in_lines p k x _ at)) (omega (arith, o.before)) refl refl refl
move_knows p k told _ _ y ok h n a (Move.turns_no_more x head es at e) =
    behind_line p k _ x _ y (n.inside (at_in_lines p k x _ at)) at.line_is refl refl refl refl
move_knows p k told _ _ y ok h n a (Move.receives_again x head es at e) =
    let is : heads_at (code_of p k) x.line ≡ head ∷ map head_of es = just_entered p k x h (at_in_lines p k x line.End at)
    ∙ ap (map head_of) e in
    let o = opened_at (code_of p k) x.line h.inside [] head (map head_of es) is in
    back_at p k _ x head y (n.inside (at_in_lines p k x _ at)) (omega (arith, o.before)) refl refl refl
move_knows p k told _ _ _ ok h n a (Move.ends_scope x y s end group all answer at e b c f j) =
    let is : heads_at (code_of p k) x.line ≡ s.head ∷ map head_of s.around = just_entered p k x h (at_in_lines p k x line.End at)
    ∙ ap (map head_of) e in
    let closes = end_closes_first (code_of p k) x.line s.head (map head_of s.around) at.line_is is in
    scope_end_knows p k _ x s answer y (ap scope_in e) (LeavesKnown.ended closes (n.inside (at_in_lines p k x _ at))) f
move_knows p k told _ group y ok h n a (Move.scope_ended x w m v s) = end_seen p k told _ x (n.leaving (ap is_leaving s))
move_knows p k told _ _ _ ok h n a (Move.sees_scope x y s end t e f) =
    after_scope_knows p k told x s end y ok h e (n.leaving (ap is_leaving t) s e) a f
move_knows p k told _ _ _ ok h n a (Move.breaks_scope x y s failure break group all answer t e b c f j) =
    let here : list_any (tells_cancelling s.row) all ≡ true =
    ap (list_any (tells_cancelling s.row)) j ∙ list_any-append (tells_cancelling s.row) break group
    ∙ ap (λ q. q || list_any (tells_cancelling s.row) group) (breaks_tell p k s.row failure break b) in
    let told_so : list_any (tells_cancelling s.row) (told ++ all) ≡ true =
    list_any-append (tells_cancelling s.row) told all ∙ ap (λ q. list_any (tells_cancelling s.row) told || q) here
    ∙ or_right (list_any (tells_cancelling s.row) told) true refl in
    scope_end_knows p k _ x s answer y e (LeavesKnown.broken told_so) f
move_knows p k told _ _ y ok h n a (Move.breaks x failure group t e b) = elsewhere p k _ y Ended refl refl refl
move_knows p k told _ _ y ok h n a (Move.ends x group t e b) = elsewhere p k _ y Ended refl refl refl
move_knows p k told _ _ y ok h n a other = elsewhere p k _ y (Unwinding None) refl refl refl

-- ---- beginnings

-- before its first line no name is given
first_knows : (p : Program) (k : ℕ) (told : List Told) (x : Config) → x.line ≡ 0 → is_leaving x.stage ≡ false → KnowsNames p k told x
first_knows p k told x e l = record {
  inside = λ f. omega (arith, ap (names_at (code_of p k)) e);
  leaving =
      λ f. absurd (false≢true (sym l ∙ f));
}

spawns_know : (p : Program) (told : List Told) (blocks : List ℕ) (x : Config) (group : List Told) (y : Config) → x.line ≡ 0
    → is_leaving x.stage ≡ false → Spawns p blocks x group y → KnowsNames p 0 told y
spawns_know p told _ _ _ _ e l (Spawns.done x) = first_knows p 0 told x e l
spawns_know p told _ _ _ _ e l (Spawns.attaches block blocks x y now more s) =
    spawns_know p told blocks (past_launch p block None x) more y e l s
spawns_know p told _ _ _ y e l (Spawns.refused block blocks x group g) = elsewhere p 0 told y (Unwinding (Some 0)) refl refl refl

begins_know : (p : Program) (k : ℕ) (group : List Told) (x : Config) → Begins p k group x → KnowsNames p k group x
begins_know p _ _ _ (Begins.root group x s) = spawns_know p group _ (fresh 0) group x refl refl s
begins_know p _ _ _ (Begins.child k n) = first_knows p k [] (fresh k) refl refl

reach_knows : (p : Program) (k : ℕ) (told : List Told) (x : Config) → IsProgram p → EndsAgree told → Reaches p k told x
    → KnowsNames p k told x
reach_knows p k _ _ ok a (Reaches.begins group x b) = begins_know p k group x b
reach_knows p k _ _ ok a (Reaches.goes_on before group all x y r m e) =
    let agree : EndsAgree (before ++ group) = subst EndsAgree e a in
    subst (λ t. KnowsNames p k t y) (sym e) (move_knows p k before x group y ok (reach_fits p k before x r)
    (reach_knows p k before x ok (agree_before before group agree) r) agree m)

-- the name that a line uses means a row
pub job_known : (p : Program) (k : ℕ) (now : Moment) (book : List Item) (x : Config) (l : Instruction) (job : ℕ) → IsProgram p
    → Legal (job_shape p) now.jobs → Runs p k now book x → is_in_lines x.stage ≡ true → LineIs p k x l → job_used l ≡ Some job
    → job < length x.rows
job_known p k now book x l job ok legal runs s at used =
    let known = (reach_knows p k runs.told x ok (ends_agree (job_shape p) (story p k now) [] beginning runs.told legal runs.is_true)
    runs.reaches).inside s in
    let below : nat_lt job (names_at (code_of p k) x.line) ≡ true = ap (is_below (names_at (code_of p k) x.line)) (sym used)
    ∙ (knows_at (code_of p k) x.line l (jobs_known p k ok) at).0 in
    let lt = lt-from_true job (names_at (code_of p k) x.line) below in
    omega (arith, lt, known)
