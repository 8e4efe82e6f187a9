-- The tags that a coroutine gives wherever its moves lead it, and that those of all that it launches are there.
use Rattle.std.specs.Prelude.{◌≡◌, ◌≢◌, ℕ, zero, suc, ◌+◌, ◌<◌, ◌≤◌, ◌==◌, ◌⊎◌, Bool, true, false, ◌||◌, ◌&&◌, List, [], ◌∷◌, ◌++◌, take, drop, Option, None, refl}
use Rattle.std.specs.List.{list_any}
use Rattle.std.proofs.Common.{sym, ap, ◌∙◌, subst, inl, inr, ⊎_elim, arith}
use Rattle.std.proofs.lemmas.Bool.{false≢true, or_cases}
use Rattle.job_model.specs.declared.acts.JobAct.TheVariants.{Attach}
use Rattle.job_model.specs.Histories.{Legal}
use Rattle.note_book.specs.declared.book.Item.{Item}
use Rattle.call_meaning.specs.Telling.{Told, did, items_in}
use Rattle.call_meaning.specs.JobCalls.{child_kind}
use Rattle.call_meaning.specs.Stories.{Moment, beginning}
use Rattle.script_grammar.specs.declared.instructions.Launching.{Launching}
use Rattle.script_grammar.specs.declared.instructions.Instruction.TheVariants as line
use Rattle.script_grammar.specs.Programs.{Program}
use Rattle.script_grammar.specs.WellFormed.{IsProgram}
use Rattle.script_grammar.specs.Tags.{code_of, coroutine_count, spawned, launched, launches_of, LaunchesAt, size_of, sizes_of, scopes_from}
use Rattle.script_grammar.proofs.Layouts.{main_fits, launches_fit}
use Rattle.script_grammar.proofs.LaunchedTags.{launches_known, launches_of-other, take_less, sizes_take-all}
use Rattle.script_grammar.proofs.ProgramsBalanced.{program-balances}
use Rattle.script_meaning.specs.declared.stage.Stage.{Stage}
use Rattle.script_meaning.specs.declared.stage.Stage.TheVariants.{Fresh, Running}
use Rattle.script_meaning.specs.Shapes.{base_of, job_shape}
use Rattle.script_meaning.specs.Configs.{Config, Entered, fresh, past_launch, IsAt}
use Rattle.script_meaning.specs.Moves.{Move}
use Rattle.script_meaning.specs.Books.{Spawns, Begins, Reaches, Runs, story}
use Rattle.script_meaning.specs.Polls.{MovesOnce, Turned, is_no_row, is_used, is_seeing}
use Rattle.script_meaning.proofs.JobStories.{true_so}
use Rattle.script_meaning.proofs.JobDebts.{Parents, AllKnown, all_known, parents_in, known_left, known_right}
use Rattle.script_meaning.proofs.LinesLeft.{Left}
use Rattle.script_meaning.proofs.AttachesTold.{attach_in, neither, gives_up_none, breaks_off_none, plain_none}
use Rattle.script_meaning.proofs.CompletedJobs.{EndsSo, completed_in, ends_left, ends_right, ends_so}
use Rattle.script_meaning.proofs.NamedRows.{call_names, await_names, scope_end_names, past_scope_names}
use Rattle.script_meaning.proofs.TagsGiven.{launched_in, scopes_told, scopes_then, launched_then, noted_then, nothing_in, LinesLeave, Gives, MoveGives, move_gives, first_left, next_is_given, then_is_given, takes_a_tag, launch_of_row, refusal_of, launch_there}

-- ---- the beginning

-- these blocks are still to be spawned by the root
record Spawning (p : Program) (blocks : List ℕ) (x : Config) : Type 0 where
  passed : ℕ
  next_tag : x.free ≡ 0 + 1 + sizes_of p (take passed (launches_of p 0))
  left : drop passed (launches_of p 0) ≡ blocks ++ launched (code_of p 0)
  line : x.line ≡ 0
  entered : x.entered ≡ []
  stage : x.stage ≡ Fresh

-- what a beginning gives
pub record BeginGives (p : Program) (k : ℕ) (done : ℕ → Bool) (group : List Told) (y : Config) : Type 0 where
  pub gives : Gives p k done y
  pub launched : (r : ℕ) → launched_in r group ≡ true → LaunchesAt p k r × (r < y.free)
  pub entered : scopes_told group + gives.scopes ≤ scopes_from [] (code_of p k)
  pub used : list_any is_used (items_in group) ≡ true → LaunchesAt p k y.free
  pub no_row : list_any is_no_row (items_in group) ≡ false

spawned_free : (p : Program) (blocks : List ℕ) (x : Config) (group : List Told) (y : Config) → Spawns p blocks x group y → x.free ≤ y.free
spawned_free p _ _ _ _ (Spawns.attaches block blocks x y now more rest) = let le =
    spawned_free p blocks (past_launch p block None x) more y rest in omega (arith, le)
spawned_free p _ _ _ _ other = omega arith

launched_behind : (r free : ℕ) (now : Bool) (more : List Told)
    → launched_in r (did (Attach 0 free (child_kind false) free now) ∷ more) ≡ true
    → (launched_in r (did (Attach 0 free (child_kind false) free now) ∷ []) ≡ true) ⊎ (launched_in r more ≡ true)
unfolding items_in
launched_behind r free now more e = by_test (r == free) e
  where
    by_test : (b : Bool) → ((b && true) || launched_in r more) ≡ true → (((b && true) || false) ≡ true) ⊎ (launched_in r more ≡ true)
    by_test true f = inl refl
    by_test false f = inr f

no_scope_more : (free : ℕ) (now : Bool) (more : List Told)
    → scopes_told (did (Attach 0 free (child_kind false) free now) ∷ more) ≡ scopes_told more
unfolding items_in
no_scope_more free now more = omega arith

no_row_more : (free : ℕ) (now : Bool) (more : List Told)
    → list_any is_no_row (items_in (did (Attach 0 free (child_kind false) free now) ∷ more)) ≡ list_any is_no_row (items_in more)
unfolding items_in
no_row_more free now more = refl

used_more : (free : ℕ) (now : Bool) (more : List Told) → list_any is_used
    (items_in (did (Attach 0 free (child_kind false) free now) ∷ more)) ≡ list_any is_used (items_in more)
unfolding items_in
used_more free now more = refl

-- the whole code is left
code_left : (p : Program) → IsProgram p → (k : ℕ) → Left (code_of p k) [] (code_of p k) (launched (code_of p k))
    (scopes_from [] (code_of p k))
code_left p ok k = Left.outside (code_of p k) (launched (code_of p k)) (scopes_from [] (code_of p k)) (program-balances p ok k)

begun_left : (p : Program) (k : ℕ) (done : ℕ → Bool) (stage : Stage) (i : ℕ) (entered : List Entered) (blocks : List ℕ) → IsProgram p
    → stage ≡ Fresh → i ≡ 0 → entered ≡ [] → blocks ≡ launched (code_of p k)
    → LinesLeave p k done stage i entered blocks (scopes_from [] (code_of p k))
begun_left p k done stage i entered blocks ok s e f g =
    subst (λ t. LinesLeave p k done t i entered blocks (scopes_from [] (code_of p k))) (sym s)
    (subst (λ n. Left (code_of p k) entered (drop n (code_of p k)) blocks (scopes_from [] (code_of p k))) (sym e)
    (subst (λ l. Left (code_of p k) l (code_of p k) blocks (scopes_from [] (code_of p k))) (sym f)
    (subst (λ l. Left (code_of p k) [] (code_of p k) l (scopes_from [] (code_of p k))) (sym g) (code_left p ok k))))

spawns_give : (p : Program) (done : ℕ → Bool) → IsProgram p → (blocks : List ℕ) (x : Config) (group : List Told) (y : Config)
    → Spawning p blocks x → Spawns p blocks x group y → BeginGives p 0 done group y
unfolding items_in
spawns_give p done ok _ _ _ _ h (Spawns.done x) = record {
  gives = record {
    passed = h.passed;
    next_tag = h.next_tag;
    scopes = scopes_from [] (code_of p 0);
    left = begun_left p 0 done x.stage x.line x.entered (drop h.passed (launches_of p 0)) ok h.stage h.line h.entered h.left;
  };
  launched = λ r e. cc;
  entered = omega arith;
  used = λ e. cc;
  no_row = refl;
}
spawns_give p done ok _ _ _ _ h (Spawns.attaches block blocks x y now more rest) =
    let behind = blocks ++ launched (code_of p 0) in
    let given = next_is_given p 0 h.passed x.free block behind h.next_tag h.left in
    let some = takes_a_tag p ok 0 h.passed block behind h.left in
    let le = spawned_free p blocks (past_launch p block None x) more y rest in
    let after = spawns_give p done ok blocks (past_launch p block None x) more y
    (record {
      passed = suc h.passed;
      next_tag = then_is_given p 0 h.passed x.free block behind h.next_tag h.left;
      left =
          (first_left (launches_of p 0) h.passed block behind h.left).2;
      line = h.line;
      entered = h.entered;
      stage = h.stage;
    }) rest in
    record {
      gives = after.gives;
      launched = λ r e. ⊎_elim (λ f. let here = launch_of_row p 0 0 x.free (size_of p block) r false now given some f
          in (here.0, omega (arith, here.1, le))) (λ f. after.launched r f) (launched_behind r x.free now more e);
      entered = let same = no_scope_more x.free now more in let few = after.entered in omega (arith, same, few);
      used = λ e. after.used (sym (used_more x.free now more) ∙ e);
      no_row = no_row_more x.free now more ∙ after.no_row;
    }
spawns_give p done ok _ _ _ _ h (Spawns.refused block blocks x group g) =
    let r = refusal_of 0 false group g in
    let none = r.scopes in
    record {
      gives = record { passed = h.passed; next_tag = h.next_tag; scopes = scopes_from [] (code_of p 0); left = tt };
      launched = λ q e. absurd (false≢true (sym (r.launched q) ∙ e));
      entered = omega (arith, none);
      used = λ e. next_is_given p 0 h.passed x.free block (blocks ++ launched (code_of p 0)) h.next_tag h.left;
      no_row = r.no_row refl;
    }

pub begins_give : (p : Program) (k : ℕ) (done : ℕ → Bool) (group : List Told) (x : Config) → IsProgram p → Begins p k group x
    → BeginGives p k done group x
unfolding items_in
begins_give p _ done _ _ ok (Begins.root group x s) = spawns_give p done ok (spawned p) (fresh 0) group x
    (record { passed = 0; next_tag = omega arith; left = refl; line = refl; entered = refl; stage = refl }) s
begins_give p _ done _ _ ok (Begins.child k n) = record {
  gives = record {
    passed = 0;
    next_tag = omega arith;
    scopes = scopes_from [] (code_of p k);
    left =
        begun_left p k done Fresh 0 [] (launches_of p k) ok refl refl refl (launches_of-other p k n);
  };
  launched = λ r e. cc;
  entered = omega arith;
  used = λ e. cc;
  no_row = refl;
}

-- ---- wherever its moves lead it

pub record ReachGives (p : Program) (k : ℕ) (done : ℕ → Bool) (told : List Told) (x : Config) : Type 0 where
  pub gives : Gives p k done x
  -- what it launched has a tag of its own below the next
  pub launched : (r : ℕ) → launched_in r told ≡ true → LaunchesAt p k r × (r < x.free)
  -- the scopes that it entered and those that are left are no more than its lines enter
  pub entered : scopes_told told + gives.scopes ≤ scopes_from [] (code_of p k)

pub reach_gives : (p : Program) (k : ℕ) (parents : Parents) (done : ℕ → Bool) (told : List Told) (x : Config) → IsProgram p
    → AllKnown parents told → EndsSo done told → Reaches p k told x → ReachGives p k done told x
reach_gives p k parents done _ _ ok a e (Reaches.begins group x b) = let r = begins_give p k done group x ok b
    in record { gives = r.gives; launched = r.launched; entered = r.entered }
reach_gives p k parents done _ _ ok a e (Reaches.goes_on before group all x y r m is) =
    let known = subst (AllKnown parents) is a in
    let ends = subst (EndsSo done) is e in
    let first = reach_gives p k parents done before x ok (known_left parents before group known) (ends_left done before group ends) r in
    let more = move_gives p k parents done x group y ok (known_right parents before group known) (ends_right done before group ends)
    first.gives m in
    let all_scopes = ap scopes_told is ∙ scopes_then before group in
    let few = first.entered in
    let fewer = more.entered in
    record {
      gives = more.gives;
      launched = λ q f. ⊎_elim
          (λ g. let was = first.launched q g in let le = more.grows in (was.0, omega (arith, was.1, le)))
          (λ g. more.launched q g)
          (or_cases (launched_in q before) (launched_in q group) (sym (ap (launched_in q) is ∙ launched_then q before group) ∙ f));
      entered = omega (arith, all_scopes, few, fewer);
    }

-- where a coroutine stands that wrote its book in legal histories
pub runs_give : (p : Program) (k : ℕ) (now : Moment) (book : List Item) (x : Config) → IsProgram p → Legal (job_shape p) now.jobs
    → (h : Runs p k now book x) → ReachGives p k (completed_in now.jobs) h.told x
runs_give p k now book x ok legal h =
    reach_gives p k (parents_in now.jobs) (completed_in now.jobs) h.told x ok
    (all_known (job_shape p) k now.jobs [] h.told legal (true_so (story p k now) [] beginning h.told h.is_true))
    (ends_so (job_shape p) (story p k now) [] beginning h.told legal h.is_true)
    h.reaches

-- ---- the tags are there

sizes_of-append : (p : Program) (xs ys : List ℕ) → sizes_of p (xs ++ ys) ≡ sizes_of p xs + sizes_of p ys
sizes_of-append p [] ys = omega arith
sizes_of-append p (x ∷ xs) ys = omega (arith, sizes_of-append p xs ys)

-- all that a coroutine launches has its tags behind its own
pub all_fit : (p : Program) (k : ℕ) → IsProgram p → k < coroutine_count p → k + 1 + sizes_of p (launches_of p k) ≤ coroutine_count p
all_fit p zero ok lt = let both = sizes_of-append p (spawned p) (launched (code_of p 0)) in let fits = main_fits p ok
    in omega (arith, both, fits)
all_fit p (suc k) ok lt =
    let other : suc k ≢ 0 = λ z. omega (arith, z) in
    let same : sizes_of p (launches_of p (suc k)) ≡ sizes_of p (launched (code_of p (suc k))) =
    ap (sizes_of p) (launches_of-other p (suc k) other) in
    let fits = launches_fit p (suc k) ok other lt in
    omega (arith, same, fits)

-- what it launches is a coroutine of the script
pub launched_in_run : (p : Program) (k r : ℕ) → IsProgram p → k < coroutine_count p → LaunchesAt p k r → r < coroutine_count p
launched_in_run p k r ok lt h =
    let fits = all_fit p k ok lt in
    let less = take_less p (launches_of p k) h.before (launches_known p ok k) h.one_more in
    let next = h.next in
    omega (arith, fits, less, next)

-- the tags that a launch takes are there
pub launch_fits : (p : Program) (k : ℕ) (done : ℕ → Bool) (x : Config) (block : ℕ) (how : Launching) (job : Option ℕ) → IsProgram p
    → k < coroutine_count p → Gives p k done x → IsAt p k x (line.Launch block how job) → x.free + size_of p block ≤ coroutine_count p
launch_fits p k done x block how job ok lt h at =
    let l = launch_there p k done x block how job h at in
    let next = then_is_given p k h.passed x.free block l.blocks h.next_tag l.first in
    let few = sizes_take-all p (launches_of p k) (suc h.passed) in
    let fits = all_fit p k ok lt in
    omega (arith, next, few, fits)

pub launch_room : (p : Program) (k : ℕ) (now : Moment) (book : List Item) (x : Config) (block : ℕ) (how : Launching) (job : Option ℕ)
    → IsProgram p → k < coroutine_count p → Legal (job_shape p) now.jobs → Runs p k now book x → IsAt p k x (line.Launch block how job)
    → x.free + size_of p block ≤ coroutine_count p
launch_room p k now book x block how job ok lt legal h at =
    launch_fits p k (completed_in now.jobs) x block how job ok lt (runs_give p k now book x ok legal h).gives at

-- ---- one turn

-- only a coroutine that runs a line launches, and is refused
quiet_unless_running : (p : Program) (k : ℕ) (parents : Parents) (x : Config) (group : List Told) (y : Config) → AllKnown parents group
    → Move p k x group y → (x.stage ≡ Running) ⊎ ((attach_in group ≡ false) × (y.free ≡ x.free))
unfolding items_in
quiet_unless_running p k parents _ _ _ a (Move.calls x y i group b at c f) = inl at.stage
quiet_unless_running p k parents _ _ _ a (Move.resumes x y w i outcome b s at m f) = inr (refl, (call_names p k x i b y f).1)
quiet_unless_running p k parents _ _ _ a (Move.gives_up x w group s g) = inr (gives_up_none w group g, refl)
quiet_unless_running p k parents _ _ _ a (Move.sees_job x y job row end s at n f) = inr (refl, (await_names x end y f).1)
quiet_unless_running p k parents _ _ _ a (Move.closes x c group at g) = inl at.stage
quiet_unless_running p k parents _ _ _ a (Move.cancels_channel x c group at g) = inl at.stage
quiet_unless_running p k parents _ _ _ a (Move.yields x at) = inl at.stage
quiet_unless_running p k parents _ _ _ a (Move.stops_at_yield x at) = inl at.stage
quiet_unless_running p k parents _ _ _ a (Move.stops_at_join x job at) = inl at.stage
quiet_unless_running p k parents _ _ _ a (Move.launches x block how job now at) = inl at.stage
quiet_unless_running p k parents _ _ _ a (Move.launch_refused x block how job group at g) = inl at.stage
quiet_unless_running p k parents _ _ _ a (Move.enters x supervisor row now at) = inl at.stage
quiet_unless_running p k parents _ _ _ a (Move.enter_refused x supervisor group at g) = inl at.stage
quiet_unless_running p k parents _ _ _ a (Move.starts x job row group at n g) = inl at.stage
quiet_unless_running p k parents _ _ _ a (Move.cancels x job row newly group at n g) = inl at.stage
quiet_unless_running p k parents _ _ _ a (Move.fails x v at) = inl at.stage
quiet_unless_running p k parents _ _ _ a (Move.results x o at) = inl at.stage
quiet_unless_running p k parents _ _ _ a (Move.repeats x n at) = inl at.stage
quiet_unless_running p k parents _ _ _ a (Move.turns_again x head n es at is) = inl at.stage
quiet_unless_running p k parents _ _ _ a (Move.turns_no_more x head es at is) = inl at.stage
quiet_unless_running p k parents _ _ _ a (Move.receives_again x head es at is) = inl at.stage
quiet_unless_running p k parents _ _ _ a (Move.ends_scope x y s end group all b at is g c f parts) = inl at.stage
quiet_unless_running p k parents _ _ _ a (Move.sees_scope x y s end at is f) = inr (refl, (past_scope_names p k x s end y f).1)
quiet_unless_running p k parents _ _ _ a (Move.breaks_scope x y s failure break group all b at is g c f parts) =
    let known = known_left parents break group (subst (AllKnown parents) parts a) in
    inr (
      ap attach_in parts ∙ neither break group (breaks_off_none parents (base_of p) k s.row failure break known g)
          (plain_none _ group b c),
      (scope_end_names k x s b y f).1,
    )
quiet_unless_running p k parents _ _ _ a (Move.breaks x failure group s is g) =
    inr (breaks_off_none parents (base_of p) k k failure group a g, refl)
quiet_unless_running p k parents _ _ _ a (Move.ends x group s is g) = inl s
quiet_unless_running p k parents _ _ _ a other = inr (refl, refl)

-- a move that attaches nothing and is refused nothing, before others
quiet_front : (p : Program) (k : ℕ) (done : ℕ → Bool) (x y z : Config) (n m : ℕ) (group more all : List Told) → attach_in group ≡ false
    → y.free ≡ x.free → m ≤ n → all ≡ group ++ more → MoveGives p k done y m more z → MoveGives p k done x n all z
quiet_front p k done x y z n m group more all quiet same le is h =
    let q = nothing_in (items_in group) quiet in
    let none : scopes_told group ≡ 0 = q.scopes in
    let parts : scopes_told all ≡ scopes_told group + scopes_told more = ap scopes_told is ∙ scopes_then group more in
    let few = h.entered in
    let grows = h.grows in
    record {
      gives = h.gives;
      grows = omega (arith, same, grows);
      launched = λ r e. h.launched r (sym (ap (launched_in r) is ∙ launched_then r group more
          ∙ ap (λ b. b || launched_in r more) (q.launched r)) ∙ e);
      entered = omega (arith, none, parts, few, le);
      used = λ e. let u = h.used (sym (ap (λ l. list_any is_used (items_in l)) is ∙ noted_then is_used group more
          ∙ ap (λ b. b || list_any is_used (items_in more)) q.used) ∙ e) in (subst (LaunchesAt p k) same u.0, u.1 ∙ same);
      no_row = λ e. let u = h.no_row (sym (ap (λ l. list_any is_no_row (items_in l)) is ∙ noted_then is_no_row group more
          ∙ ap (λ b. b || list_any is_no_row (items_in more)) q.no_row) ∙ e)
          in (omega (arith, u.0, le), omega (arith, parts, none, u.1), u.2 ∙ same);
    }

or_none : (a b : Bool) → b ≡ false → (a || b) ≡ a
or_none true b e = refl
or_none false b e = e

-- and behind them
quiet_behind : (p : Program) (k : ℕ) (done : ℕ → Bool) (x y z : Config) (n : ℕ) (group more all : List Told)
    → (h : MoveGives p k done x n group y) → attach_in more ≡ false → z.free ≡ y.free → all ≡ group ++ more
    → MoveGives p k done y h.gives.scopes more z → MoveGives p k done x n all z
quiet_behind p k done x y z n group more all h quiet same is g =
    let q = nothing_in (items_in more) quiet in
    let none : scopes_told more ≡ 0 = q.scopes in
    let parts : scopes_told all ≡ scopes_told group + scopes_told more = ap scopes_told is ∙ scopes_then group more in
    let few = h.entered in
    let fewer = g.entered in
    let grows = h.grows in
    record {
      gives = g.gives;
      grows = omega (arith, same, grows);
      launched = λ r e. let u = h.launched r (sym (ap (launched_in r) is ∙ launched_then r group more
          ∙ or_none (launched_in r group) (launched_in r more) (q.launched r)) ∙ e) in (u.0, omega (arith, u.1, same));
      entered = omega (arith, none, parts, few, fewer);
      used = λ e. let u = h.used (sym (ap (λ l. list_any is_used (items_in l)) is ∙ noted_then is_used group more
          ∙ or_none (list_any is_used (items_in group)) (list_any is_used (items_in more)) q.used) ∙ e) in (u.0, same ∙ u.1);
      no_row = λ e. let u = h.no_row (sym (ap (λ l. list_any is_no_row (items_in l)) is ∙ noted_then is_no_row group more
          ∙ or_none (list_any is_no_row (items_in group)) (list_any is_no_row (items_in more)) q.no_row) ∙ e)
          in (u.0, omega (arith, parts, none, u.1), same ∙ u.2);
    }

fresh_runs : {A : Type 0} (stage : Stage) → stage ≡ Fresh → stage ≡ Running → A
fresh_runs stage e f = let both : Fresh ≡ Running = sym e ∙ f in cc

seeing_runs : {A : Type 0} (stage : Stage) → is_seeing stage ≡ true → stage ≡ Running → A
seeing_runs stage e f = let both : is_seeing Running ≡ true = ap is_seeing (sym f) ∙ e in cc

moves_give : (p : Program) (k : ℕ) (parents : Parents) (done : ℕ → Bool) (x : Config) (group : List Told) (y : Config) → IsProgram p
    → AllKnown parents group → EndsSo done group → (h : Gives p k done x) → MovesOnce p k x group y → MoveGives p k done x h.scopes group y
moves_give p k parents done _ _ _ ok a e h (MovesOnce.once x y group m) = move_gives p k parents done x group y ok a e h m
moves_give p k parents done _ _ _ ok a e h (MovesOnce.first x y z group more all s m r rest is) =
    let known = subst (AllKnown parents) is a in
    let ends = subst (EndsSo done) is e in
    let first = move_gives p k parents done x group y ok (known_left parents group more known) (ends_left done group more ends) h m in
    let few = first.entered in
    let q = ⊎_elim (λ f. fresh_runs x.stage s f) (λ f. f)
    (quiet_unless_running p k parents x group y (known_left parents group more known) m) in
    quiet_front p k done x y z h.scopes first.gives.scopes group more all q.0 q.1 (omega (arith, few)) is
    (moves_give p k parents done y more z ok (known_right parents group more known) (ends_right done group more ends) first.gives rest)
moves_give p k parents done _ _ _ ok a e h (MovesOnce.then_sees x y z group more all m s rest is) =
    let known = subst (AllKnown parents) is a in
    let ends = subst (EndsSo done) is e in
    let first = move_gives p k parents done x group y ok (known_left parents group more known) (ends_left done group more ends) h m in
    let q = ⊎_elim (λ f. seeing_runs y.stage s f) (λ f. f)
    (quiet_unless_running p k parents y more z (known_right parents group more known) rest) in
    quiet_behind p k done x y z h.scopes group more all first q.0 q.1 is
    (move_gives p k parents done y more z ok (known_right parents group more known) (ends_right done group more ends) first.gives rest)

nothing_done : (p : Program) (k : ℕ) (done : ℕ → Bool) (x : Config) (h : Gives p k done x) → MoveGives p k done x h.scopes [] x
unfolding items_in
nothing_done p k done x h = record {
  gives = h;
  grows = omega arith;
  launched = λ r e. cc;
  entered = omega arith;
  used = λ e. cc;
  no_row = λ e. cc;
}

-- what a turn gives
pub turn_gives : (p : Program) (k : ℕ) (parents : Parents) (done : ℕ → Bool) (x : Config) (told : List Told) (y : Config) → IsProgram p
    → AllKnown parents told → EndsSo done told → (h : Gives p k done x) → Turned p k x told y → MoveGives p k done x h.scopes told y
turn_gives p k parents done _ _ _ ok a e h (Turned.still x) = nothing_done p k done x h
turn_gives p k parents done _ _ _ ok a e h (Turned.moved x y told m) = moves_give p k parents done x told y ok a e h m
