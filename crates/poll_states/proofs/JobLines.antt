-- The lines of a coroutine on Jobs, and the end of its body.
use Rattle.std.specs.Prelude.{◌≡◌, ℕ, ◌+◌, ◌<◌, ◌⊎◌, Bool, true, false, List, [], ◌∷◌, ◌++◌, Option, Some, None, is_some, slice_get, refl, Err}
use Rattle.std.specs.List.{list_any}
use Rattle.std.proofs.Common.{sym, ap, ◌∙◌, subst, inl, inr, ⊎_elim}
use Rattle.channel_model.specs.Histories.{acts_of}
use Rattle.channel_model.specs.Floors.{Floor as ChannelFloor}
use Rattle.channel_model.proofs.Spans as spans
use Rattle.job_model.specs.declared.acts.JobAct.TheVariants.{Attach}
use Rattle.job_model.specs.declared.acts.JobNote.TheVariants as known
use Rattle.job_model.specs.declared.acts.Reason.TheVariants as reasons
use Rattle.job_model.specs.declared.floor.Ended.{Ended as BodyEnd}
use Rattle.job_model.specs.Acts.{ends_body}
use Rattle.job_model.specs.Histories.{acts_of as job_acts_of, Legal}
use Rattle.job_model.specs.Floors.{Floor}
use Rattle.job_model.proofs.Own.{prefix_keeps}
use Rattle.job_model.proofs.Histories.{Legal-prefix}
use Rattle.job_model.specs.Trees.{Shape, tag_of}
use Rattle.job_model.specs.declared.acts.JobEntry.{JobEntry}
use Rattle.job_model.proofs.Spans.{added_looked, looked_moment}
use mathlib.Core.List.{IsPrefix}
use Rattle.note_book.specs.declared.book.Item.{Item}
use Rattle.note_book.specs.declared.book.Item.TheVariants as item
use Rattle.note_book.specs.Items.{channel_acts_in, job_acts_in}
use Rattle.call_meaning.specs.Telling.{Told, on_jobs, MayRun, HasEnded, items_in, did, knew, saw}
use Rattle.call_meaning.specs.Stories.{IsTrue}
use Rattle.call_meaning.specs.JobCalls.{child_kind, NotAttached, Starts, EndsBody, BreaksOff}
use Rattle.call_meaning.specs.Seen.{SeenOnJobs}
use Rattle.call_meaning.specs.Calls.{ToldOnJobs, ToldOnBoth, rows_in}
use Rattle.call_meaning.proofs.JobTellings.{told_fact, told_knew, both_jobs}
use Rattle.scope_builders.specs.declared.builder.LaunchError.{LaunchError}
use Rattle.scope_builders.specs.declared.builder.LaunchError.TheVariants as launch
use Rattle.scope_builders.specs.Dones.{KeepsDones}
use Rattle.scope_builders.specs.Calls.{LaunchAnswer, CancelledAll, EndedJob, BrokeJob, start_told}
use Rattle.script_grammar.specs.declared.instructions.Launching.{Launching}
use Rattle.script_grammar.specs.declared.instructions.Instruction.TheVariants as line
use Rattle.script_grammar.specs.Programs.{Program}
use Rattle.script_grammar.specs.Tags.{size_of}
use Rattle.script_meaning.specs.declared.stage.Stage.TheVariants.{Fresh, Running, Unwinding, Ended}
use Rattle.script_meaning.specs.Shapes.{base_of}
use Rattle.script_meaning.specs.Configs.{Config, IsAt, scope_in, innermost, at_stage, next, past_launch, named}
use Rattle.script_meaning.specs.Lines.{is_lazy}
use Rattle.script_meaning.specs.Moves.{Move}
use Rattle.script_meaning.proofs.JobDebts.{parents_in}
use Rattle.poll_states.specs.declared.jobs.OwnState.TheVariants as own
use Rattle.poll_states.specs.Frames.{Frame, config_of, items_of, Stands, seen_at, jobs_at, SeenAtPoll, at_poll, both_of, StandsAt}
use Rattle.poll_states.specs.Steps.{OwnStateSeen, IsAtEnd, HasBody, Stepped}
use Rattle.call_meaning.specs.Orders.{IsToldOfJobs}
use Rattle.script_meaning.specs.Laws.{wait_of}
use Rattle.script_meaning.specs.Bodies.{is_over, is_fresh, is_leaving, IsOwnRow, HasBodyAt}
use Rattle.job_model.proofs.Lasting.{tag_lasts}
use Rattle.script_meaning.proofs.OwnRows.{never_over}
use Rattle.poll_states.proofs.Standing.{stands_body}
use Rattle.poll_states.proofs.DonesLeft.{unclosed_kept}
use Rattle.script_meaning.proofs.GroupNotes.{passes_all, end_all, break_all}
use Rattle.script_meaning.proofs.GentleNotes.{attach_mild}
use Rattle.poll_states.proofs.Mild.{saw_mild, nothing_mild, one_fact_mild, starts_mild, passes_mild}
use Rattle.poll_states.proofs.QuietNotes.{is_quiet, quiet_allows, quiet_ends, quiet_rows, quiet_refused}
use Rattle.poll_states.proofs.Stepping.{told_at, both_at, dones_at, no_wait, mild_step, jobs_noted, known_of}

-- ---- looks at one's own Job

-- a Job of its own was seen Cancelling, and that was noted
pub saw_noted : (c d : ChannelFloor) (a b : Floor) (f g : Frame) (row : ℕ) → IsToldOfJobs f.tag c d b
    → OwnStateSeen f.tag row a b own.Cancelling → g.tag ≡ f.tag
    → items_of g ≡ items_of f ++ item.Job (known.Saw row) ∷ [] → ToldOnBoth [] (seen_at c a f) (seen_at d b g) (saw row ∷ [])
saw_noted c d a b f g row e s t is = both_jobs (spans.added_looked f.tag c d e.looked) e.told
    (told_knew (known.Saw row) refl t is (added_looked f.tag [] a b s.looked) (looked_moment f.tag [] a b _ s.looked s.was))

-- it was seen running
pub may_run_noted : (c d : ChannelFloor) (a b : Floor) (f g : Frame) (row : ℕ) → IsToldOfJobs f.tag c d b
    → OwnStateSeen f.tag row a b own.MayRun → g.tag ≡ f.tag
    → items_of g ≡ items_of f → ToldOnBoth [] (seen_at c a f) (seen_at d b g) (on_jobs (MayRun row) ∷ [])
may_run_noted c d a b f g row e s t is = both_jobs (spans.added_looked f.tag c d e.looked) e.told
    (told_fact (MayRun row) t is (added_looked f.tag [] a b s.looked) (looked_moment f.tag [] a b _ s.looked s.was))

saw_step : (p : Program) (c d : ChannelFloor) (a b : Floor) (f g : Frame) (row : ℕ) → IsToldOfJobs f.tag c d b → Legal b.shape b.seen
    → Move p f.tag (config_of f) (saw row ∷ []) (at_stage (Unwinding None) (config_of f)) → OwnStateSeen f.tag row a b own.Cancelling
    → g.tag ≡ f.tag → config_of g ≡ at_stage (Unwinding None) (config_of f) → items_of g ≡ items_of f ++ item.Job (known.Saw row) ∷ []
    → Stepped p (at_poll c a f) (at_poll d b g)
unfolding items_in rows_in
saw_step p c d a b f g row e l move s t config items =
    mild_step p c d a b f g (saw row ∷ []) _ l move (saw_noted c d a b f g row e s t items)
    (saw_mild (base_of p) row [] (nothing_mild (base_of p))) t config (λ w k. no_wait g _ w config refl k)

run_step : (p : Program) (c d : ChannelFloor) (a b : Floor) (f g : Frame) (row : ℕ) (y : Config) → IsToldOfJobs f.tag c d b
    → Legal b.shape b.seen
    → Move p f.tag (config_of f) (on_jobs (MayRun row) ∷ []) y → wait_of y.stage ≡ None → OwnStateSeen f.tag row a b own.MayRun
    → g.tag ≡ f.tag → config_of g ≡ y → items_of g ≡ items_of f → Stepped p (at_poll c a f) (at_poll d b g)
unfolding items_in rows_in
run_step p c d a b f g row y e l move none s t config items =
    mild_step p c d a b f g (on_jobs (MayRun row) ∷ []) y l move (may_run_noted c d a b f g row e s t items)
    (one_fact_mild (base_of p) (MayRun row)) t config (λ w k. no_wait g y w config none k)

pub stopped : (p : Program) (c d : ChannelFloor) (a b : Floor) (f g : Frame) → IsToldOfJobs f.tag c d b → Legal b.shape b.seen
    → IsAt p f.tag (config_of f) line.Yield
    → OwnStateSeen f.tag (innermost f.tag (config_of f)) a b own.Cancelling → g.tag ≡ f.tag
    → config_of g ≡ at_stage (Unwinding None) (config_of f)
    → items_of g ≡ items_of f ++ item.Job (known.Saw (innermost f.tag (config_of f))) ∷ [] → Stepped p (at_poll c a f) (at_poll d b g)
stopped p c d a b f g e l at s t config items =
    saw_step p c d a b f g (innermost f.tag (config_of f)) e l (Move.stops_at_yield (config_of f) at) s t config items

pub yielded : (p : Program) (c d : ChannelFloor) (a b : Floor) (f g : Frame) → IsToldOfJobs f.tag c d b → Legal b.shape b.seen
    → IsAt p f.tag (config_of f) line.Yield
    → OwnStateSeen f.tag (innermost f.tag (config_of f)) a b own.MayRun → g.tag ≡ f.tag → config_of g ≡ next (config_of f)
    → items_of g ≡ items_of f → Stepped p (at_poll c a f) (at_poll d b g)
yielded p c d a b f g e l at s t config items =
    run_step p c d a b f g (innermost f.tag (config_of f)) _ e l (Move.yields (config_of f) at) refl s t config items

-- the same before the first line
pub never_begun : (p : Program) (c d : ChannelFloor) (a b : Floor) (f g : Frame) → IsToldOfJobs f.tag c d b → Legal b.shape b.seen
    → f.stage ≡ Fresh
    → OwnStateSeen f.tag f.tag a b own.Cancelling → g.tag ≡ f.tag → config_of g ≡ at_stage (Unwinding None) (config_of f)
    → items_of g ≡ items_of f ++ item.Job (known.Saw f.tag) ∷ [] → Stepped p (at_poll c a f) (at_poll d b g)
never_begun p c d a b f g e l fresh s t config items =
    saw_step p c d a b f g f.tag e l (Move.never_runs (config_of f) fresh) s t config items

pub has_begun : (p : Program) (c d : ChannelFloor) (a b : Floor) (f g : Frame) → IsToldOfJobs f.tag c d b → Legal b.shape b.seen
    → f.stage ≡ Fresh
    → OwnStateSeen f.tag f.tag a b own.MayRun → g.tag ≡ f.tag → config_of g ≡ at_stage Running (config_of f) → items_of g ≡ items_of f
    → Stepped p (at_poll c a f) (at_poll d b g)
has_begun p c d a b f g e l fresh s t config items =
    run_step p c d a b f g f.tag _ e l (Move.runs (config_of f) fresh) refl s t config items

-- ---- launch

pub has_launched : (p : Program) {a b : SeenAtPoll} {parent block size : ℕ} {how : Launching} {lazy : Bool} {job : Option ℕ} {now : Bool}
    → IsToldOfJobs a.frame.tag a.channels b.channels b.jobs → Legal b.jobs.shape b.jobs.seen
    → IsAt p a.frame.tag (config_of a.frame) (line.Launch block how job)
    → parent ≡ innermost a.frame.tag (config_of a.frame) → lazy ≡ is_lazy how → size ≡ size_of p block
    → ToldOnJobs (a.frame.free ∷ []) (jobs_at a.jobs a.frame) (jobs_at b.jobs b.frame)
    (did (Attach parent a.frame.free (child_kind lazy) a.frame.free now) ∷ []) → b.frame.tag ≡ a.frame.tag
    → config_of b.frame ≡ next (record (config_of a.frame) { rows = named job a.frame.free a.frame.rows.items; free = a.frame.free + size })
    → Stepped p a b
unfolding items_in rows_in
has_launched p {a} {b} {parent} {block} {size} {how} {lazy} {job} {now} e l at under same is noted t config =
    let f : Frame = a.frame in
    let g : Frame = b.frame in
    let j : Floor = a.jobs in
    let j' : Floor = b.jobs in
    let row : ℕ = innermost f.tag (config_of f) in
    let told : List Told = did (Attach row f.free (child_kind (is_lazy how)) f.free now) ∷ [] in
    mild_step p a.channels b.channels j j' f g told (next (past_launch p block job (config_of f))) l
    (Move.launches (config_of f) block how job now at)
    (jobs_noted (f.free ∷ []) a.channels b.channels j j' f g told e refl
    (subst (λ b. ToldOnJobs (f.free ∷ []) (jobs_at j f) (jobs_at j' g) (did (Attach row f.free (child_kind b) f.free now) ∷ [])) same
    (subst (λ r. ToldOnJobs (f.free ∷ []) (jobs_at j f) (jobs_at j' g) (did (Attach r f.free (child_kind lazy) f.free now) ∷ [])) under
    noted)))
    (attach_mild (base_of p) row f.free (child_kind (is_lazy how)) f.free now) t (config
    ∙ ap (λ n. next (record (config_of f) { rows = named job f.free f.rows.items; free = f.free + n })) is)
    (λ w k. no_wait g _ w config refl k)

-- a coroutine is not told that a Job of its own has ended whose body has not
pub never_told_over : (w who row : ℕ) (rows : List ℕ) (c : ChannelFloor) (j j' : Floor) (i i' : List Item) (more : List Told)
    → Legal j'.shape j'.seen → HasBodyAt who row j → acts_of who c.seen ≡ channel_acts_in i → job_acts_of who j.seen ≡ job_acts_in i
    → ToldOnJobs rows (record { who = who; floor = j; items = i }) (record { who = w; floor = j'; items = i' })
    (on_jobs (HasEnded row) ∷ more) → ⊥
unfolding IsTrue
never_told_over w who row rows c j j' i i' more l body e f h =
    let so = h.was_so i c.shape c.seen e f in
    let at : List JobEntry = so.0.jobs in
    let q : IsPrefix at j'.seen = so.1.not_after.jobs in
    let there : Floor = record j' { seen = at } in
    let legal : Legal j'.shape at = Legal-prefix j'.shape at q.0 (rw q.1 l) in
    never_over who row there legal (record {
      caller = ap (λ (t : ℕ → Bool). t who) h.added.same.callers ∙ body.caller;
      whose = own_at at legal so.1.not_before.jobs body.whose;
      not_ended = ap (list_any (ends_body row)) (so.1.job_acts ∙ sym f) ∙ body.not_ended;
    }) so.1.holds
  where
    own_at : (at : List JobEntry) → Legal j'.shape at → IsPrefix j.seen at → IsOwnRow who row j → IsOwnRow who row (record j' { seen = at })
    own_at at l p (IsOwnRow.own k lt) = IsOwnRow.own k (subst (λ n. who < n) (sym (ap (λ (s : Shape). s.coroutines) h.added.same.shape)) lt)
    own_at at l p (IsOwnRow.scope t) = IsOwnRow.scope (prefix_keeps (λ x. tag_of x ≡ Some who) (tag_lasts who) j'.shape j.seen at row l p t)

refused_step : (p : Program) (c d : ChannelFloor) (j j' : Floor) (f g : Frame) (block : ℕ) (how : Launching) (job : Option ℕ)
    → IsToldOfJobs f.tag c d j'
    → IsAt p f.tag (config_of f) (line.Launch block how job) → is_some (j'.claims f.free) ≡ true
    → ToldOnJobs [] (jobs_at j f) (jobs_at j' g) (knew known.Used ∷ [])
    → Legal j'.shape j'.seen → g.tag ≡ f.tag → config_of g ≡ at_stage (Unwinding (Some f.tag)) (config_of f)
    → Stepped p (at_poll c j f) (at_poll d j' g)
unfolding items_in rows_in
refused_step p c d j j' f g block how job e at claimed noted l t config = record {
  tag = t;
  told = knew known.Used ∷ [];
  move = subst (Move p f.tag (config_of f) (knew known.Used ∷ [])) (sym config)
      (Move.launch_refused (config_of f) block how job _ at NotAttached.used);
  noted = jobs_noted [] c d j j' f g _ e refl noted;
  refused = record { no_row = λ k. absurd (let u : ⊥ = cc in u); used = λ k. claimed; none_ended = refl };
  dones = unclosed_kept f.tag (base_of p) [] [] [] (seen_at c j f) (seen_at d j' g) _ l (spans.added_looked f.tag c d e.looked) refl
      noted.added (tt, tt);
  stood = λ w k. no_wait g _ w config refl k;
}

-- why it was refused: its row was claimed, or the parent had ended
pub refused_for : {parent tag : ℕ} (lazy : Bool) {old new : SeenOnJobs} {error : LaunchError} → (error ≡ launch.Used)
    ⊎ (error ≡ launch.ParentEnded) → LaunchAnswer parent tag lazy old new (Err error)
    → ((is_some (new.floor.claims tag) ≡ true) × ToldOnJobs [] old new (knew known.Used ∷ []))
    ⊎ ToldOnJobs (tag ∷ []) old new (on_jobs (HasEnded parent) ∷ knew known.ParentEnded ∷ [])
refused_for {parent} {tag} lazy {old} {new} which answer =
    ⊎_elim
    (λ k. inl (subst (λ x. LaunchAnswer parent tag lazy old new (Err x)) k answer))
    (λ k. inr (subst (λ x. LaunchAnswer parent tag lazy old new (Err x)) k answer))
    which

pub launch_refused : (p : Program) {a : SeenAtPoll} {d : ChannelFloor} {m : SeenOnJobs} {g : Frame} {parent block : ℕ} {how : Launching}
    {job : Option ℕ} → IsToldOfJobs a.frame.tag a.channels d m.floor → Legal a.jobs.shape a.jobs.seen → Legal m.floor.shape m.floor.seen
    → StandsAt p a
    → IsAt p a.frame.tag (config_of a.frame) (line.Launch block how job) → parent ≡ innermost a.frame.tag (config_of a.frame)
    → ((is_some (m.floor.claims a.frame.free) ≡ true) × ToldOnJobs [] (jobs_at a.jobs a.frame) m (knew known.Used ∷ []))
    ⊎ ToldOnJobs (a.frame.free ∷ []) (jobs_at a.jobs a.frame) m (on_jobs (HasEnded parent) ∷ knew known.ParentEnded ∷ [])
    → g.tag ≡ a.frame.tag → config_of g ≡ at_stage (Unwinding (Some a.frame.tag)) (config_of a.frame) → items_of g ≡ m.items
    → Stepped p a (at_poll d m.floor g)
launch_refused p {a} {d} {m} {g} {parent} {block} {how} {job} e l l' h at under why t config items =
    let f : Frame = a.frame in
    let body : HasBody f.tag (innermost f.tag (config_of f)) a.jobs =
    stands_body p a.channels a.jobs f l h (ap is_fresh at.stage) (ap is_leaving at.stage) (ap is_over at.stage) in
    ⊎_elim
    (λ q. refused_step p a.channels d a.jobs m.floor f g block how job e at q.0 (told_at g q.1 t items) l' t config)
    (λ q. absurd (never_told_over m.who f.tag parent (f.free ∷ []) a.channels a.jobs m.floor (items_of f) m.items _ l'
    (subst (λ r. HasBodyAt f.tag r a.jobs) (sym under) body.at) h.on.channel_acts h.on.job_acts q))
    why

-- ---- start and cancel

started_group : (now : Bool) (row : ℕ) → Starts row (start_told now row)
started_group true row = Starts.now
started_group false row = Starts.before

started_rows : (now : Bool) (row : ℕ) → [] ≡ rows_in (job_acts_in (items_in (start_told now row)))
unfolding items_in rows_in
started_rows true row = refl
started_rows false row = refl

pub has_started : (p : Program) (c d : ChannelFloor) (j j' : Floor) (f g : Frame) (job row : ℕ) (now : Bool) → IsToldOfJobs f.tag c d j'
    → Legal j'.shape j'.seen → IsAt p f.tag (config_of f) (line.Start job) → slice_get f.rows.items job ≡ Some row
    → ToldOnJobs [] (jobs_at j f) (jobs_at j' g) (start_told now row) → g.tag ≡ f.tag → config_of g ≡ next (config_of f)
    → Stepped p (at_poll c j f) (at_poll d j' g)
has_started p c d j j' f g job row now e l at is noted t config =
    mild_step p c d j j' f g (start_told now row) _ l (Move.starts (config_of f) job row _ at is (started_group now row))
    (jobs_noted [] c d j j' f g (start_told now row) e (started_rows now row) noted) (starts_mild (base_of p) row _ (started_group now row))
    t config
    (λ w k. no_wait g _ w config refl k)

pub has_cancelled : (p : Program) (c d : ChannelFloor) (j j' : Floor) (f g : Frame) (job row count : ℕ) → IsToldOfJobs f.tag c d j'
    → Legal j'.shape j'.seen
    → Stands p c j f → IsAt p f.tag (config_of f) (line.Cancel job) → slice_get f.rows.items job ≡ Some row
    → CancelledAll row (jobs_at j f) (jobs_at j' g) count → g.tag ≡ f.tag → config_of g ≡ next (config_of f)
    → Stepped p (at_poll c j f) (at_poll d j' g)
has_cancelled p c d j j' f g job row count e l h at is all t config =
    let raw : ToldOnBoth [] (seen_at c j f) (seen_at d j' g) all.told =
    both_jobs (spans.added_looked f.tag c d e.looked) e.told all.noted in
    let known = known_of c d j j' f g [] all.told l h.on.channel_acts h.on.job_acts raw in
    let rows = quiet_rows all.told (passes_all is_quiet quiet_allows (parents_in j'.seen) row reasons.Request all.newly all.told known
    all.group) in
    mild_step p c d j j' f g all.told _ l (Move.cancels (config_of f) job row all.newly all.told at is all.group)
    (jobs_noted [] c d j j' f g all.told e (sym rows) all.noted)
    (passes_mild (base_of p) (parents_in j'.seen) row reasons.Request all.newly all.told known all.group) t config
    (λ w k. no_wait g _ w config refl k)

-- ---- the end of a body

pub has_ended : (p : Program) {base w : ℕ} {a b : SeenAtPoll} {answer : BodyEnd} → base ≡ base_of p → IsAtEnd p a.frame
    → EndedJob base a.frame.tag a.frame.result (both_of a) (record (both_of b) { who = w }) answer → b.frame.tag ≡ a.frame.tag
    → config_of b.frame ≡ at_stage Ended (config_of a.frame) → Stepped p a b
has_ended p {base} {w} {a} {b} {answer} e end did t config =
    let f : Frame = a.frame in
    let group : EndsBody (base_of p) f.tag f.result did.told = subst (λ n. EndsBody n f.tag f.result did.told) e did.group in
    let quiet = end_all is_quiet quiet_allows quiet_ends (base_of p) f.tag f.result did.told group in
    record {
      tag = t;
      told = did.told;
      move = subst (Move p f.tag (config_of f) did.told) (sym config) (Move.ends (config_of f) did.told end.running end.none_left group);
      noted = subst (λ (l : List ℕ). ToldOnBoth l (both_of a) (both_of b) did.told) (sym (quiet_rows did.told quiet))
          (both_at b.frame did.noted t refl);
      refused = quiet_refused (config_of f) did.told b.jobs quiet;
      dones = subst (λ n. KeepsDones n (both_of a) (both_of b) (items_in did.told)) e (dones_at b.frame did.dones);
      stood = λ w k. no_wait b.frame _ w config refl k;
    }

pub has_broken : (p : Program) {base w : ℕ} {a b : SeenAtPoll} {failure : Option ℕ} {answer : BodyEnd} → base ≡ base_of p
    → Legal b.jobs.shape b.jobs.seen → StandsAt p a → scope_in (config_of a.frame).entered ≡ None → a.frame.stage ≡ Unwinding failure
    → BrokeJob base a.frame.tag failure (both_of a) (record (both_of b) { who = w }) answer → b.frame.tag ≡ a.frame.tag
    → config_of b.frame ≡ at_stage Ended (config_of a.frame) → Stepped p a b
has_broken p {base} {w} {a} {b} {failure} {answer} e l h none at did t config =
    let f : Frame = a.frame in
    let parents = parents_in b.jobs.seen in
    let group : BreaksOff (base_of p) f.tag f.tag failure did.told = subst (λ n. BreaksOff n f.tag f.tag failure did.told) e did.group in
    let noted : ToldOnBoth [] (both_of a) (both_of b) did.told = both_at b.frame did.noted t refl in
    let known = known_of a.channels b.channels a.jobs b.jobs f b.frame [] did.told l h.on.channel_acts h.on.job_acts noted in
    let quiet = break_all is_quiet quiet_allows quiet_ends parents (base_of p) f.tag f.tag failure did.told known group in
    record {
      tag = t;
      told = did.told;
      move = subst (Move p f.tag (config_of f) did.told) (sym config) (Move.breaks (config_of f) failure did.told at none group);
      noted = subst (λ (l : List ℕ). ToldOnBoth l (both_of a) (both_of b) did.told) (sym (quiet_rows did.told quiet)) noted;
      refused = quiet_refused (config_of f) did.told b.jobs quiet;
      dones = subst (λ n. KeepsDones n (both_of a) (both_of b) (items_in did.told)) e (dones_at b.frame did.dones);
      stood = λ w k. no_wait b.frame _ w config refl k;
    }
