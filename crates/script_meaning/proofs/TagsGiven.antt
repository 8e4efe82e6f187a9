-- What a coroutine launches: the tags that it gives to it are those laid out for it, and what is left is what its lines have still to
-- launch.
use Rattle.std.specs.Prelude.{◌≡◌, ℕ, zero, suc, ◌+◌, ◌<◌, ◌≤◌, ◌==◌, nat_lt, ◌⊎◌, Bool, true, false, ◌||◌, ◌&&◌, not, List, [], ◌∷◌, ◌++◌, length, take, drop, Option, Some, slice_get, if◌then◌else◌, refl}
use Rattle.std.specs.List.{list_any}
use Rattle.std.proofs.Common.{sym, ap, ◌∙◌, subst, inl, inr, ⊎_elim, arith}
use Rattle.std.proofs.lemmas.Bool.{eqb-true, or_parts, false≢true}
use Rattle.std.proofs.lemmas.List.Folds.{list_any-append}
use Rattle.job_model.specs.declared.acts.End.{End}
use Rattle.job_model.specs.declared.acts.JobAct.{JobAct}
use Rattle.job_model.specs.declared.acts.JobAct.TheVariants.{Attach, Start, Cancel}
use Rattle.job_model.specs.declared.acts.JobKind.{JobKind}
use Rattle.job_model.specs.declared.acts.JobNote.TheVariants as known
use Rattle.note_book.specs.declared.book.Item.{Item}
use Rattle.note_book.specs.declared.book.Item.TheVariants as item
use Rattle.note_book.specs.Items.{job_acts_in}
use Rattle.note_book.proofs.Appended.{job_acts_in-append}
use Rattle.call_meaning.specs.Telling.{Told, on_jobs, IsCancelling, did, items_in}
use Rattle.call_meaning.specs.ChannelCalls.{Answer}
use Rattle.call_meaning.specs.JobCalls.{child_kind, scope_kind, NotAttached}
use Rattle.script_grammar.specs.declared.instructions.Launching.{Launching}
use Rattle.script_grammar.specs.declared.instructions.Instruction.{Instruction}
use Rattle.script_grammar.specs.declared.instructions.Instruction.TheVariants as line
use Rattle.script_grammar.specs.Programs.{Program}
use Rattle.script_grammar.specs.Blocks.{launch_of, listed, opens_lines, is_end}
use Rattle.script_grammar.specs.Nesting.{closing_of}
use Rattle.script_grammar.specs.WellFormed.{IsProgram}
use Rattle.script_grammar.specs.Tags.{code_of, launches_of, LaunchesAt, size_of, sizes_of}
use Rattle.script_grammar.proofs.Truths.{lt-from_true}
use Rattle.script_grammar.proofs.Layouts.{test_at, size_some}
use Rattle.script_grammar.proofs.LaunchedTags.{launches_known, sizes_take-next}
use Rattle.script_meaning.specs.declared.stage.Stage.{Stage}
use Rattle.script_meaning.specs.declared.stage.Stage.TheVariants.{Fresh, Running, Waiting, SeesJob, Unwinding, Leaving, SeesScope, Ended}
use Rattle.script_meaning.specs.Shapes.{base_of}
use Rattle.script_meaning.specs.Configs.{Config, Entered, in_scope, InScope, scope_in, innermost, IsAt}
use Rattle.script_meaning.specs.Lines.{is_lazy, After, AfterAwait, AtScopeEnd, AfterScope}
use Rattle.script_meaning.specs.Moves.{Move}
use Rattle.script_meaning.specs.Polls.{is_no_row, is_used}
use Rattle.script_meaning.proofs.BooksGoOn.{items_in-append}
use Rattle.script_meaning.proofs.JobDebts.{Parents, AllKnown, known_left}
use Rattle.script_meaning.proofs.LinesLeft.{Left, First}
use Rattle.script_meaning.proofs.LinesPassed.{first_at, next_line, enter_repeat, enter_each, past_each, past_select, enter_scope, end_again, end_last, end_each, end_scope}
use Rattle.script_meaning.proofs.AttachesTold.{attach_in, neither, is_attach, item_attaches, line_none, plain_none, gives_up_none, closes_none, cancels_channel_none, starts_none, passes_none, ends_none, breaks_off_none}
use Rattle.script_meaning.proofs.NamedRows.{call_names, await_names, scope_end_names, past_scope_names}
use Rattle.script_meaning.proofs.CompletedJobs.{EndsSo, SeenAs, ends_left, ends_right}

-- ---- what is told of launches and scopes

-- a coroutine's Job of this row was attached
abbrev pub launches_row : ℕ → JobAct → Bool
launches_row r (Attach p q kind tag cancelled) = (r == q) && not kind.scoped
launches_row r other = false

abbrev pub launched_in : ℕ → List Told → Bool
launched_in r group = list_any (launches_row r) (job_acts_in (items_in group))

-- how many scopes these acts attach
abbrev pub one_scope : JobAct → ℕ
one_scope (Attach p q kind tag cancelled) = if kind.scoped then 1 else 0
one_scope other = 0

abbrev pub scopes_of_acts : List JobAct → ℕ
scopes_of_acts [] = 0
scopes_of_acts (act ∷ acts) = one_scope act + scopes_of_acts acts

abbrev pub scopes_told : List Told → ℕ
scopes_told group = scopes_of_acts (job_acts_in (items_in group))

pub scopes_of_acts-append : (xs ys : List JobAct) → scopes_of_acts (xs ++ ys) ≡ scopes_of_acts xs + scopes_of_acts ys
scopes_of_acts-append [] ys = omega arith
scopes_of_acts-append (x ∷ xs) ys = omega (arith, scopes_of_acts-append xs ys)

pub scopes_then : (xs ys : List Told) → scopes_told (xs ++ ys) ≡ scopes_told xs + scopes_told ys
scopes_then xs ys =
    ap (λ l. scopes_of_acts (job_acts_in l)) (items_in-append xs ys)
    ∙ ap scopes_of_acts (job_acts_in-append (items_in xs) (items_in ys))
    ∙ scopes_of_acts-append (job_acts_in (items_in xs)) (job_acts_in (items_in ys))

pub launched_then : (r : ℕ) (xs ys : List Told) → launched_in r (xs ++ ys) ≡ (launched_in r xs || launched_in r ys)
launched_then r xs ys =
    ap (λ l. list_any (launches_row r) (job_acts_in l)) (items_in-append xs ys)
    ∙ ap (list_any (launches_row r)) (job_acts_in-append (items_in xs) (items_in ys))
    ∙ list_any-append (launches_row r) (job_acts_in (items_in xs)) (job_acts_in (items_in ys))

pub noted_then : (test : Item → Bool) (xs ys : List Told)
    → list_any test (items_in (xs ++ ys)) ≡ (list_any test (items_in xs) || list_any test (items_in ys))
noted_then test xs ys = ap (list_any test) (items_in-append xs ys) ∙ list_any-append test (items_in xs) (items_in ys)

-- where nothing was attached, nor refused
pub record Nothing (items : List Item) : Type 0 where
  pub launched : (r : ℕ) → list_any (launches_row r) (job_acts_in items) ≡ false
  pub scopes : scopes_of_acts (job_acts_in items) ≡ 0
  pub no_row : list_any is_no_row items ≡ false
  pub used : list_any is_used items ≡ false

none_first : (n : ℕ) → n ≡ 0 → 0 + n ≡ 0
none_first n e = omega (arith, e)

act_nothing : (act : JobAct) (items : List Item) → is_attach act ≡ false → Nothing items → Nothing (item.Job (known.Made act) ∷ items)
act_nothing (Attach p q kind tag cancelled) items e h = cc
act_nothing other items e h = record {
  launched = h.launched;
  scopes = none_first (scopes_of_acts (job_acts_in items)) h.scopes;
  no_row = h.no_row;
  used = h.used;
}

pub nothing_in : (items : List Item) → list_any item_attaches items ≡ false → Nothing items
nothing_in [] e = record { launched = λ r. refl; scopes = refl; no_row = refl; used = refl }
nothing_in (item.Channel n ∷ items) e = let h = nothing_in items e
    in record { launched = h.launched; scopes = h.scopes; no_row = h.no_row; used = h.used }
nothing_in (item.Job (known.Made act) ∷ items) e = let two = or_parts (is_attach act) (list_any item_attaches items) e
    in act_nothing act items two.0 (nothing_in items two.1)
nothing_in (item.Job (known.Saw row) ∷ items) e = let h = nothing_in items e
    in record { launched = h.launched; scopes = h.scopes; no_row = h.no_row; used = h.used }
nothing_in (item.Job (known.SawEnd row end) ∷ items) e = let h = nothing_in items e
    in record { launched = h.launched; scopes = h.scopes; no_row = h.no_row; used = h.used }
nothing_in (item.Job (known.Fail v) ∷ items) e = let h = nothing_in items e
    in record { launched = h.launched; scopes = h.scopes; no_row = h.no_row; used = h.used }
nothing_in (item.Job known.NoRow ∷ items) e = cc
nothing_in (item.Job known.Used ∷ items) e = cc
nothing_in (item.Job known.ParentEnded ∷ items) e = cc

-- ---- the tag of what it launches next, and what is left

-- the innermost scope did not complete; or else, past its end, this is left
abbrev pub ScopeLeaves : Program → ℕ → (ℕ → Bool) → List Entered → List ℕ → ℕ → Type 0
ScopeLeaves p k done entered blocks scopes =
    (s : InScope) → scope_in entered ≡ Some s
    → (done s.row ≡ false) ⊎ ((e : ℕ) → closing_of (code_of p k) s.head ≡ Some e
    → Left (code_of p k) s.around (drop (e + 1) (code_of p k)) blocks scopes)

-- this is left to be launched, and so many scopes, until the body breaks off
abbrev pub LinesLeave : Program → ℕ → (ℕ → Bool) → Stage → ℕ → List Entered → List ℕ → ℕ → Type 0
LinesLeave p k done (Unwinding failure) i entered blocks scopes = Unit {0}
LinesLeave p k done Ended i entered blocks scopes = Unit {0}
LinesLeave p k done (Leaving w) i entered blocks scopes = ScopeLeaves p k done entered blocks scopes
LinesLeave p k done SeesScope i entered blocks scopes = ScopeLeaves p k done entered blocks scopes
LinesLeave p k done other i entered blocks scopes = Left (code_of p k) entered (drop i (code_of p k)) blocks scopes

-- so many instances were passed, and the next tag is behind them; `done` says which Jobs completed
pub record Gives (p : Program) (k : ℕ) (done : ℕ → Bool) (x : Config) : Type 0 where
  pub passed : ℕ
  pub next_tag : x.free ≡ k + 1 + sizes_of p (take passed (launches_of p k))
  -- so many scopes may still be entered
  pub scopes : ℕ
  pub left : LinesLeave p k done x.stage x.line x.entered (drop passed (launches_of p k)) scopes

abbrev AtLine : Program → ℕ → ℕ → List Entered → ℕ → ℕ → Type 0
AtLine p k i entered passed scopes = Left (code_of p k) entered (drop i (code_of p k)) (drop passed (launches_of p k)) scopes

left_at : (p : Program) (k : ℕ) (done : ℕ → Bool) (x : Config) (stage : Stage) → x.stage ≡ stage → (h : Gives p k done x)
    → LinesLeave p k done stage x.line x.entered (drop h.passed (launches_of p k)) h.scopes
left_at p k done x stage e h = subst (λ t. LinesLeave p k done t x.line x.entered (drop h.passed (launches_of p k)) h.scopes) e h.left

-- what is left at a line that it runs, by that line
first_there : (p : Program) (k : ℕ) (done : ℕ → Bool) (x : Config) (l : Instruction) (h : Gives p k done x)
    → AtLine p k x.line x.entered h.passed h.scopes → slice_get (code_of p k) x.line ≡ Some l
    → First (code_of p k) x.entered l (drop (x.line + 1) (code_of p k)) (drop h.passed (launches_of p k)) h.scopes
first_there p k done x l h left at = first_at (code_of p k) x.entered x.line l (drop h.passed (launches_of p k)) h.scopes at left

-- a line that launches nothing, opens nothing and closes nothing
idle_next : (p : Program) (k : ℕ) (done : ℕ → Bool) (x : Config) (l : Instruction) (h : Gives p k done x)
    → AtLine p k x.line x.entered h.passed h.scopes → slice_get (code_of p k) x.line ≡ Some l → opens_lines l ≡ false → is_end l ≡ false
    → listed (launch_of l) ≡ []
    → AtLine p k (x.line + 1) x.entered h.passed h.scopes
idle_next p k done x l h left at o e idle =
    let n = next_line (code_of p k) x.entered l (drop (x.line + 1) (code_of p k)) (drop h.passed (launches_of p k)) h.scopes o e
    (first_there p k done x l h left at) in
    subst (λ bs. Left (code_of p k) x.entered (drop (x.line + 1) (code_of p k)) bs h.scopes) (sym (n.is ∙ ap (λ l. l ++ n.blocks) idle))
    n.left

-- ---- tags

-- the first of what is left of a list
pub first_left : (js : List ℕ) (n j : ℕ) (rest : List ℕ) → drop n js ≡ j ∷ rest → (n < length js) × (slice_get js n ≡ Some j)
    × (drop (suc n) js ≡ rest)
first_left [] zero j rest e = cc
first_left [] (suc n) j rest e = cc
first_left (i ∷ js) zero j rest e = (omega arith, cc, cc)
first_left (i ∷ js) (suc n) j rest e = let r = first_left js n j rest e in (omega (arith, r.0), r.1, r.2)

-- the next tag is that of the first instance that is left
pub next_is_given : (p : Program) (k n free block : ℕ) (rest : List ℕ) → free ≡ k + 1 + sizes_of p (take n (launches_of p k))
    → drop n (launches_of p k) ≡ block ∷ rest → LaunchesAt p k free
next_is_given p k n free block rest e left = record { before = n; one_more = (first_left (launches_of p k) n block rest left).0; next = e }

-- and behind it is that of the next one
pub then_is_given : (p : Program) (k n free block : ℕ) (rest : List ℕ) → free ≡ k + 1 + sizes_of p (take n (launches_of p k))
    → drop n (launches_of p k) ≡ block ∷ rest → free + size_of p block ≡ k + 1 + sizes_of p (take (suc n) (launches_of p k))
then_is_given p k n free block rest e left = let more =
    sizes_take-next p (launches_of p k) n block (first_left (launches_of p k) n block rest left).1 in omega (arith, e, more)

pub takes_a_tag : (p : Program) → IsProgram p → (k n block : ℕ) (rest : List ℕ) → drop n (launches_of p k) ≡ block ∷ rest
    → 1 ≤ size_of p block
takes_a_tag p ok k n block rest left =
    let first = first_left (launches_of p k) n block rest left in
    size_some p block (lt-from_true block (length p.blocks)
    (test_at (λ j. nat_lt j (length p.blocks)) (launches_of p k) n block (launches_known p ok k) first.1))

-- ---- one move

-- what a move gives: whatever it launches has a tag that the coroutine gives, below the next one; each scope that it enters is one less
-- that is left; and what it is refused
pub record MoveGives (p : Program) (k : ℕ) (done : ℕ → Bool) (x : Config) (scopes : ℕ) (group : List Told) (y : Config) : Type 0 where
  pub gives : Gives p k done y
  pub grows : x.free ≤ y.free
  pub launched : (r : ℕ) → launched_in r group ≡ true → LaunchesAt p k r × (r < y.free)
  pub entered : scopes_told group + gives.scopes ≤ scopes
  pub used : list_any is_used (items_in group) ≡ true → LaunchesAt p k x.free × (y.free ≡ x.free)
  pub no_row : list_any is_no_row (items_in group) ≡ true → (1 ≤ scopes) × (scopes_told group ≡ 0) × (y.free ≡ x.free)

-- a move that attaches nothing and is refused nothing
quiet_move : (p : Program) (k : ℕ) (done : ℕ → Bool) (x : Config) (group : List Told) (y : Config) (h : Gives p k done x)
    → attach_in group ≡ false → y.free ≡ x.free → LinesLeave p k done y.stage y.line y.entered (drop h.passed (launches_of p k)) h.scopes
    → MoveGives p k done x h.scopes group y
quiet_move p k done x group y h quiet same left =
    let n = nothing_in (items_in group) quiet in
    let none = n.scopes in
    record {
      gives = record { passed = h.passed; next_tag = same ∙ h.next_tag; scopes = h.scopes; left = left };
      grows = omega (arith, same);
      launched = λ r e. absurd (false≢true (sym (n.launched r) ∙ e));
      entered = omega (arith, none);
      used = λ e. absurd (false≢true (sym n.used ∙ e));
      no_row = λ e. absurd (false≢true (sym n.no_row ∙ e));
    }

-- where a call goes on
call_leaves : (p : Program) (k : ℕ) (done : ℕ → Bool) (x : Config) (i : Instruction) (a : Answer) (y : Config) (h : Gives p k done x)
    → AtLine p k x.line x.entered h.passed h.scopes → slice_get (code_of p k) x.line ≡ Some i → After p k x i a y
    → LinesLeave p k done y.stage y.line y.entered (drop h.passed (launches_of p k)) h.scopes
call_leaves p k done x _ _ _ h left at (After.no_place i) = tt
call_leaves p k done x _ _ _ h left at (After.sent c o) = idle_next p k done x (line.Send c o) h left at refl refl refl
call_leaves p k done x _ _ _ h left at (After.tried_to_send c o) = idle_next p k done x (line.TrySend c o) h left at refl refl refl
call_leaves p k done x _ _ _ h left at (After.got c v) = idle_next p k done x (line.Receive c) h left at refl refl refl
call_leaves p k done x _ _ _ h left at (After.no_more c v) = idle_next p k done x (line.Receive c) h left at refl refl refl
call_leaves p k done x _ _ _ h left at (After.tried_and_got c v) = idle_next p k done x (line.TryReceive c) h left at refl refl refl
call_leaves p k done x _ _ _ h left at (After.tried_to_get c) = idle_next p k done x (line.TryReceive c) h left at refl refl refl
call_leaves p k done x _ _ _ h left at (After.got_one_more c v) =
    enter_each (code_of p k) x.entered x.line c (drop h.passed (launches_of p k)) h.scopes at
    (first_there p k done x (line.Each c) h left at)
call_leaves p k done x _ _ _ h left at (After.got_all c v e f) =
    past_each (code_of p k) x.entered x.line c e (drop h.passed (launches_of p k)) h.scopes f
    (first_there p k done x (line.Each c) h left at)
call_leaves p k done x _ _ _ h left at (After.chose_send e f) =
    past_select (code_of p k) x.entered x.line e (drop h.passed (launches_of p k)) h.scopes f (first_there p k done x line.Select h left at)
call_leaves p k done x _ _ _ h left at (After.chose_got e v f) =
    past_select (code_of p k) x.entered x.line e (drop h.passed (launches_of p k)) h.scopes f (first_there p k done x line.Select h left at)
call_leaves p k done x _ _ _ h left at (After.chose_closed e v f) =
    past_select (code_of p k) x.entered x.line e (drop h.passed (launches_of p k)) h.scopes f (first_there p k done x line.Select h left at)
call_leaves p k done x _ _ _ h left at After.looks_again = h.left
call_leaves p k done x _ _ _ h left at (After.joined job v) = idle_next p k done x (line.Join job) h left at refl refl refl
call_leaves p k done x _ _ _ h left at other = left

-- at the end of a scope, and behind it
same_scope : (entered : List Entered) (s t : InScope) → scope_in entered ≡ Some s → scope_in entered ≡ Some t → s ≡ t
same_scope entered s t e f = let both_some : Some s ≡ Some t = sym e ∙ f in cc

end_leaves : (p : Program) (k : ℕ) (done : ℕ → Bool) (x : Config) (s : InScope) (h : Gives p k done x)
    → AtLine p k x.line x.entered h.passed h.scopes → slice_get (code_of p k) x.line ≡ Some line.End
    → x.entered ≡ in_scope s.head s.row ∷ s.around
    → ScopeLeaves p k done x.entered (drop h.passed (launches_of p k)) h.scopes
end_leaves p k done x s h left at e t is = inr (λ end c. by_scope end (ends_at t same end c))
  where
    same : s ≡ t
    same = same_scope x.entered s t (ap scope_in e) is

    ends_at : (t : InScope) → s ≡ t → (end : ℕ) → closing_of (code_of p k) t.head ≡ Some end → closing_of (code_of p k) s.head ≡ Some end
    ends_at t same end c = subst (λ (u : InScope). closing_of (code_of p k) u.head ≡ Some end) (sym same) c

    by_scope : (end : ℕ) → closing_of (code_of p k) s.head ≡ Some end
        → Left (code_of p k) t.around (drop (end + 1) (code_of p k)) (drop h.passed (launches_of p k)) h.scopes
    by_scope end c =
        subst (λ (u : InScope). Left (code_of p k) u.around (drop (end + 1) (code_of p k)) (drop h.passed (launches_of p k)) h.scopes) same
        (end_scope (code_of p k) x.entered s.around (drop (x.line + 1) (code_of p k)) s.head s.row end (drop h.passed (launches_of p k))
        h.scopes e c (first_there p k done x line.End h left at))

broken_leaves : (p : Program) (k : ℕ) (done : ℕ → Bool) (entered : List Entered) (s : InScope) (blocks : List ℕ) (scopes : ℕ)
    → scope_in entered ≡ Some s → done s.row ≡ false → ScopeLeaves p k done entered blocks scopes
broken_leaves p k done entered s blocks scopes e d t is = inl (subst (λ (u : InScope). done u.row ≡ false) (same_scope entered s t e is) d)

at_end_leaves : (p : Program) (k : ℕ) (done : ℕ → Bool) (x : Config) (s : InScope) (a : Answer) (y : Config) (blocks : List ℕ) (scopes : ℕ)
    → ScopeLeaves p k done x.entered blocks scopes → AtScopeEnd k x s a y → LinesLeave p k done y.stage y.line y.entered blocks scopes
at_end_leaves p k done x s _ _ blocks scopes h AtScopeEnd.no_place = tt
at_end_leaves p k done x s _ _ blocks scopes h other = h

past_scope : (p : Program) (k : ℕ) (done : ℕ → Bool) (x : Config) (s : InScope) (end : End) (y : Config) (blocks : List ℕ) (scopes : ℕ)
    → scope_in x.entered ≡ Some s → SeenAs done s.row end → ScopeLeaves p k done x.entered blocks scopes → AfterScope p k x s end y
    → LinesLeave p k done y.stage y.line y.entered blocks scopes
past_scope p k done x s _ _ blocks scopes is seen h (AfterScope.completed v e c) =
    ⊎_elim (λ f. absurd (false≢true (sym f ∙ seen))) (λ f. f e c) (h s is)
past_scope p k done x s _ _ blocks scopes is seen h other = tt

await_leaves : (p : Program) (k : ℕ) (done : ℕ → Bool) (x : Config) (job : ℕ) (end : End) (y : Config) (h : Gives p k done x)
    → AtLine p k x.line x.entered h.passed h.scopes → slice_get (code_of p k) x.line ≡ Some (line.Await job) → AfterAwait x end y
    → LinesLeave p k done y.stage y.line y.entered (drop h.passed (launches_of p k)) h.scopes
await_leaves p k done x job _ _ h left at (AfterAwait.completed v) = idle_next p k done x (line.Await job) h left at refl refl refl
await_leaves p k done x job _ _ h left at other = tt

-- a launch that is made, at a line or by a spawn
pub launch_of_row : (p : Program) (k parent free size r : ℕ) (lazy now : Bool) → LaunchesAt p k free → 1 ≤ size
    → launched_in r (did (Attach parent free (child_kind lazy) free now) ∷ []) ≡ true → LaunchesAt p k r × (r < free + size)
unfolding items_in
launch_of_row p k parent free size r lazy now h some e =
    let same : r ≡ free = eqb-true r free (only (r == free) e) in
    (subst (LaunchesAt p k) (sym same) h, omega (arith, same, some))
  where
    only : (b : Bool) → ((b && true) || false) ≡ true → b ≡ true
    only true f = refl
    only false f = f

pub no_scope : (parent free : ℕ) (lazy now : Bool) → scopes_told (did (Attach parent free (child_kind lazy) free now) ∷ []) ≡ 0
unfolding items_in
no_scope parent free lazy now = refl

not_used : (parent row tag : ℕ) (kind : JobKind) (now : Bool)
    → list_any is_used (items_in (did (Attach parent row kind tag now) ∷ [])) ≡ false
unfolding items_in
not_used parent row tag kind now = refl

not_no_row : (parent row tag : ℕ) (kind : JobKind) (now : Bool)
    → list_any is_no_row (items_in (did (Attach parent row kind tag now) ∷ [])) ≡ false
unfolding items_in
not_no_row parent row tag kind now = refl

a_scope : (parent row tag : ℕ) (supervisor now : Bool) → scopes_told (did (Attach parent row (scope_kind supervisor) tag now) ∷ []) ≡ 1
unfolding items_in
a_scope parent row tag supervisor now = refl

scope_launches_none : (r parent row tag : ℕ) (supervisor now : Bool)
    → launched_in r (did (Attach parent row (scope_kind supervisor) tag now) ∷ []) ≡ false
unfolding items_in
scope_launches_none r parent row tag supervisor now = off (r == row)
  where
    off : (b : Bool) → ((b && false) || false) ≡ false
    off true = refl
    off false = refl

-- what is told of a refusal
pub record Refusal (scoped : Bool) (group : List Told) : Type 0 where
  pub launched : (r : ℕ) → launched_in r group ≡ false
  pub scopes : scopes_told group ≡ 0
  pub used : scoped ≡ true → list_any is_used (items_in group) ≡ false
  pub no_row : scoped ≡ false → list_any is_no_row (items_in group) ≡ false

pub refusal_of : (parent : ℕ) (scoped : Bool) (group : List Told) → NotAttached parent scoped group → Refusal scoped group
unfolding items_in
refusal_of parent _ _ NotAttached.no_row = record {
  launched = λ r. refl;
  scopes = refl;
  used = λ e. refl;
  no_row =
      λ e. absurd (false≢true (sym e));
}
refusal_of parent _ _ NotAttached.used = record {
  launched = λ r. refl;
  scopes = refl;
  used = λ e. absurd (false≢true e);
  no_row =
      λ e. refl;
}
refusal_of parent _ _ (NotAttached.parent_ended scoped) =
    record { launched = λ r. refl; scopes = refl; used = λ e. refl; no_row = λ e. refl }

-- the launch at its line
pub record Launch (p : Program) (k : ℕ) (done : ℕ → Bool) (x : Config) (h : Gives p k done x) (block : ℕ) : Type 0 where
  pub blocks : List ℕ
  pub first : drop h.passed (launches_of p k) ≡ block ∷ blocks
  pub left : Left (code_of p k) x.entered (drop (x.line + 1) (code_of p k)) blocks h.scopes

pub launch_there : (p : Program) (k : ℕ) (done : ℕ → Bool) (x : Config) (block : ℕ) (how : Launching) (job : Option ℕ)
    (h : Gives p k done x) → IsAt p k x (line.Launch block how job) → Launch p k done x h block
launch_there p k done x block how job h at =
    let n = next_line (code_of p k) x.entered (line.Launch block how job) (drop (x.line + 1) (code_of p k))
    (drop h.passed (launches_of p k)) h.scopes refl refl
    (first_there p k done x (line.Launch block how job) h (left_at p k done x Running at.stage h) at.line_is) in
    record { blocks = n.blocks; first = n.is; left = n.left }

pub move_gives : (p : Program) (k : ℕ) (parents : Parents) (done : ℕ → Bool) (x : Config) (group : List Told) (y : Config) → IsProgram p
    → AllKnown parents group → EndsSo done group → (h : Gives p k done x) → Move p k x group y → MoveGives p k done x h.scopes group y
unfolding items_in EndsSo
move_gives p k parents done _ _ _ ok a e h (Move.runs x s) = quiet_move p k done x _ _ h refl refl (left_at p k done x Fresh s h)
move_gives p k parents done _ _ _ ok a e h (Move.never_runs x s) = quiet_move p k done x _ _ h refl refl tt
move_gives p k parents done _ _ _ ok a e h (Move.calls x y i group b at c f) =
    quiet_move p k done x group y h (line_none p k x i group b c) (call_names p k x i b y f).1
    (call_leaves p k done x i b y h (left_at p k done x Running at.stage h) at.line_is f)
move_gives p k parents done _ _ _ ok a e h (Move.resumes x y w i outcome b s at m f) =
    quiet_move p k done x _ y h refl (call_names p k x i b y f).1 (call_leaves p k done x i b y h (left_at p k done x (Waiting w) s h) at f)
move_gives p k parents done _ _ _ ok a e h (Move.cancelled x w s) = quiet_move p k done x _ _ h refl refl tt
move_gives p k parents done _ _ _ ok a e h (Move.gives_up x w group s g) = quiet_move p k done x _ _ h (gives_up_none w group g) refl tt
move_gives p k parents done _ _ _ ok a e h (Move.sees_job x y job row end s at n f) =
    quiet_move p k done x _ y h refl (await_names x end y f).1 (await_leaves p k done x job end y h (left_at p k done x SeesJob s h) at f)
move_gives p k parents done _ _ _ ok a e h (Move.closes x c group at g) =
    quiet_move p k done x group _ h (closes_none c 0 group g) refl
    (idle_next p k done x (line.Close c) h (left_at p k done x Running at.stage h) at.line_is refl refl refl)
move_gives p k parents done _ _ _ ok a e h (Move.cancels_channel x c group at g) =
    quiet_move p k done x group _ h (cancels_channel_none c group g) refl
    (idle_next p k done x (line.CancelChannel c) h (left_at p k done x Running at.stage h) at.line_is refl refl refl)
move_gives p k parents done _ _ _ ok a e h (Move.yields x at) =
    quiet_move p k done x _ _ h refl refl (idle_next p k done x line.Yield h (left_at p k done x Running at.stage h) at.line_is refl refl
    refl)
move_gives p k parents done _ _ _ ok a e h (Move.stops_at_yield x at) = quiet_move p k done x _ _ h refl refl tt
move_gives p k parents done _ _ _ ok a e h (Move.stops_at_join x job at) = quiet_move p k done x _ _ h refl refl tt
move_gives p k parents done _ _ _ ok a e h (Move.launches x block how job now at) =
    let l = launch_there p k done x block how job h at in
    let parent = innermost k x in
    let some = takes_a_tag p ok k h.passed block l.blocks l.first in
    let given = next_is_given p k h.passed x.free block l.blocks h.next_tag l.first in
    let none = no_scope parent x.free (is_lazy how) now in
    record {
      gives = record {
        passed = suc h.passed;
        next_tag = then_is_given p k h.passed x.free block l.blocks h.next_tag l.first;
        scopes =
            h.scopes;
        left = subst (λ bs. Left (code_of p k) x.entered (drop (x.line + 1) (code_of p k)) bs h.scopes)
            (sym (first_left (launches_of p k) h.passed block l.blocks l.first).2) l.left;
      };
      grows = omega arith;
      launched = λ r f. launch_of_row p k parent x.free (size_of p block) r (is_lazy how) now given some f;
      entered = omega (arith, none);
      used = λ f. absurd (false≢true (sym (not_used parent x.free x.free (child_kind (is_lazy how)) now) ∙ f));
      no_row = λ f. absurd (false≢true (sym (not_no_row parent x.free x.free (child_kind (is_lazy how)) now) ∙ f));
    }
move_gives p k parents done _ _ _ ok a e h (Move.launch_refused x block how job group at g) =
    let l = launch_there p k done x block how job h at in
    let r = refusal_of (innermost k x) false group g in
    let none = r.scopes in
    record {
      gives = record { passed = h.passed; next_tag = h.next_tag; scopes = h.scopes; left = tt };
      grows = omega arith;
      launched = λ q f. absurd (false≢true (sym (r.launched q) ∙ f));
      entered = omega (arith, none);
      used = λ f. (next_is_given p k h.passed x.free block l.blocks h.next_tag l.first, refl);
      no_row = λ f. absurd (false≢true (sym (r.no_row refl) ∙ f));
    }
move_gives p k parents done _ _ _ ok a e h (Move.enters x supervisor row now at) =
    let s = enter_scope (code_of p k) x.entered x.line row supervisor (drop h.passed (launches_of p k)) h.scopes
    (first_there p k done x (line.Scope supervisor) h (left_at p k done x Running at.stage h) at.line_is) in
    let one = a_scope (innermost k x) row k supervisor now in
    let fewer = s.1 in
    record {
      gives = record { passed = h.passed; next_tag = h.next_tag; scopes = s.0; left = s.2 };
      grows = omega arith;
      launched = λ q f. absurd (false≢true (sym (scope_launches_none q (innermost k x) row k supervisor now) ∙ f));
      entered = omega (arith, one, fewer);
      used = λ f. absurd (false≢true (sym (not_used (innermost k x) row k (scope_kind supervisor) now) ∙ f));
      no_row = λ f. absurd (false≢true (sym (not_no_row (innermost k x) row k (scope_kind supervisor) now) ∙ f));
    }
move_gives p k parents done _ _ _ ok a e h (Move.enter_refused x supervisor group at g) =
    let s = enter_scope (code_of p k) x.entered x.line 0 supervisor (drop h.passed (launches_of p k)) h.scopes
    (first_there p k done x (line.Scope supervisor) h (left_at p k done x Running at.stage h) at.line_is) in
    let r = refusal_of (innermost k x) true group g in
    let none = r.scopes in
    let fewer = s.1 in
    record {
      gives = record { passed = h.passed; next_tag = h.next_tag; scopes = h.scopes; left = tt };
      grows = omega arith;
      launched = λ q f. absurd (false≢true (sym (r.launched q) ∙ f));
      entered = omega (arith, none);
      used = λ f. absurd (false≢true (sym (r.used refl) ∙ f));
      no_row = λ f. (omega (arith, fewer), none, refl);
    }
move_gives p k parents done _ _ _ ok a e h (Move.starts x job row group at n g) =
    quiet_move p k done x group _ h (starts_none row group g) refl
    (idle_next p k done x (line.Start job) h (left_at p k done x Running at.stage h) at.line_is refl refl refl)
move_gives p k parents done _ _ _ ok a e h (Move.cancels x job row newly group at n g) =
    quiet_move p k done x group _ h (passes_none parents row _ newly group a g) refl
    (idle_next p k done x (line.Cancel job) h (left_at p k done x Running at.stage h) at.line_is refl refl refl)
move_gives p k parents done _ _ _ ok a e h (Move.fails x v at) = quiet_move p k done x _ _ h refl refl tt
move_gives p k parents done _ _ _ ok a e h (Move.results x o at) =
    quiet_move p k done x _ _ h refl refl (idle_next p k done x (line.SetResult o) h (left_at p k done x Running at.stage h) at.line_is refl
    refl refl)
move_gives p k parents done _ _ _ ok a e h (Move.repeats x n at) =
    let same : n + 1 ≡ suc n = omega arith in
    quiet_move p k done x _ _ h refl refl (enter_repeat (code_of p k) x.entered x.line (n + 1) n (drop h.passed (launches_of p k)) h.scopes
    same (first_there p k done x (line.Repeat (n + 1)) h (left_at p k done x Running at.stage h) at.line_is))
move_gives p k parents done _ _ _ ok a e h (Move.turns_again x head n es at is) =
    let same : n + 1 ≡ suc n = omega arith in
    quiet_move p k done x _ _ h refl refl (end_again (code_of p k) x.entered es (drop (x.line + 1) (code_of p k)) head (n + 1) n
    (drop h.passed (launches_of p k)) h.scopes same is (first_there p k done x line.End h (left_at p k done x Running at.stage h)
    at.line_is))
move_gives p k parents done _ _ _ ok a e h (Move.turns_no_more x head es at is) =
    quiet_move p k done x _ _ h refl refl (end_last (code_of p k) x.entered es (drop (x.line + 1) (code_of p k)) head
    (drop h.passed (launches_of p k)) h.scopes is (first_there p k done x line.End h (left_at p k done x Running at.stage h)
    at.line_is))
move_gives p k parents done _ _ _ ok a e h (Move.receives_again x head es at is) =
    quiet_move p k done x _ _ h refl refl (end_each (code_of p k) x.entered es (drop (x.line + 1) (code_of p k)) head
    (drop h.passed (launches_of p k)) h.scopes is (first_there p k done x line.End h (left_at p k done x Running at.stage h)
    at.line_is))
move_gives p k parents done _ _ _ ok a e h (Move.ends_scope x y s end group all b at is g c f parts) =
    quiet_move p k done x all y h (ap attach_in parts ∙ neither end group (ends_none (base_of p) s.row 0 end g) (plain_none _ group b c))
    (scope_end_names k x s b y f).1
    (at_end_leaves p k done x s b y (drop h.passed (launches_of p k)) h.scopes
    (end_leaves p k done x s h (left_at p k done x Running at.stage h) at.line_is is) f)
move_gives p k parents done _ _ _ ok a e h (Move.scope_ended x w n v s) =
    quiet_move p k done x _ _ h refl refl (left_at p k done x (Leaving w) s h)
move_gives p k parents done _ _ _ ok a e h (Move.sees_scope x y s end at is f) =
    quiet_move p k done x _ y h refl (past_scope_names p k x s end y f).1
    (past_scope p k done x s end y (drop h.passed (launches_of p k)) h.scopes is e.0 (left_at p k done x SeesScope at h) f)
move_gives p k parents done _ _ _ ok a e h (Move.breaks_scope x y s failure break group all b at is g c f parts) =
    let known = known_left parents break group (subst (AllKnown parents) parts a) in
    let ends = ends_left done break group (subst (EndsSo done) parts e) in
    let broken : done s.row ≡ false = (ends_right done g.cancels (on_jobs (IsCancelling s.row) ∷ g.end) (subst (EndsSo done) g.all ends)).0
    in
    quiet_move p k done x all y h (ap attach_in parts ∙ neither break group
    (breaks_off_none parents (base_of p) k s.row failure break known g) (plain_none _ group b c)) (scope_end_names k x s b y f).1
    (at_end_leaves p k done x s b y (drop h.passed (launches_of p k)) h.scopes
    (broken_leaves p k done x.entered s (drop h.passed (launches_of p k)) h.scopes is broken) f)
move_gives p k parents done _ _ _ ok a e h (Move.breaks x failure group s is g) =
    quiet_move p k done x group _ h (breaks_off_none parents (base_of p) k k failure group a g) refl tt
move_gives p k parents done _ _ _ ok a e h (Move.ends x group s is g) =
    quiet_move p k done x group _ h (ends_none (base_of p) k x.result group g) refl tt
