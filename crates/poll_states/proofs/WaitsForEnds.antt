-- The lines that wait for the end of a Job or of a scope, and how a coroutine sees an end.
use Rattle.std.specs.Prelude.{◌≡◌, ℕ, ◌⊎◌, Bool, true, false, List, [], ◌∷◌, Option, Some, None, slice_get, refl, Ok, Err}
use Rattle.std.proofs.Common.{sym, ap, ◌∙◌, subst, ⊎_elim}
use mathlib.Core.List.{IsPrefix}
use Rattle.co_base.specs.declared.names.WaitId.{WaitId}
use Rattle.channel_model.specs.declared.acts.Act.{Act}
use Rattle.channel_model.specs.Floors.{Floor as ChannelFloor}
use Rattle.channel_model.proofs.Spans as spans
use Rattle.job_model.specs.declared.acts.Cause.{Cause}
use Rattle.job_model.specs.declared.acts.Cause.TheVariants as because
use Rattle.job_model.specs.declared.acts.End.{End}
use Rattle.job_model.specs.declared.acts.End.TheVariants as ended
use Rattle.job_model.specs.declared.acts.JobState.{JobState}
use Rattle.job_model.specs.declared.acts.JobState.TheVariants as states
use Rattle.job_model.specs.declared.acts.JobAct.TheVariants.{Attach}
use Rattle.job_model.specs.declared.acts.JobNote.TheVariants as known
use Rattle.job_model.specs.declared.floor.Attached.{Attached}
use Rattle.job_model.proofs.Spans.{nothing_more}
use Rattle.job_model.specs.Trees.{Job, is_cancelled, is_ended}
use Rattle.job_model.specs.Laws.{IsSoundRow, is_cause}
use Rattle.job_model.specs.Needs.{MayEndBody, OwnsBody, Holds}
use Rattle.job_model.specs.Histories.{replay, Legal}
use Rattle.job_model.specs.Floors.{Floor, AtStep}
use Rattle.job_model.proofs.Histories.{Legal-prefix}
use Rattle.job_model.proofs.Families.{replay_families}
use Rattle.note_book.specs.declared.book.Item.{Item}
use Rattle.note_book.specs.Items.{job_acts_in}
use Rattle.call_meaning.specs.Telling.{Told, on_jobs, MayRun, items_in, did, knew, saw, saw_end}
use Rattle.call_meaning.specs.Facts.{end_at, end_by, IsAlive}
use Rattle.call_meaning.specs.Stories.{IsTrue}
use Rattle.call_meaning.specs.ChannelCalls.{receives, Answer, Closed, Waits, NoPlace, PlainCall}
use Rattle.call_meaning.specs.JobCalls.{scope_kind, NotAttached, Starts, EndsBody, BreaksOff, reason_for}
use Rattle.call_meaning.specs.Seen.{SeenOnChannels, SeenOnJobs, SeenOnBoth}
use Rattle.call_meaning.specs.Calls.{ToldOnJobs, ToldOnBoth, rows_in, seen_by}
use Rattle.call_meaning.proofs.JobTellings.{both_jobs}
use Rattle.channel_calls.specs.Calls.{IsLeftWaiting}
use Rattle.job_model.specs.Done.{done_channel}
use Rattle.scope_builders.specs.declared.builder.Joined.{Joined}
use Rattle.scope_builders.specs.declared.builder.Joined.TheVariants as joined
use Rattle.scope_builders.specs.Calls.{Entered as HasEntered}
use Rattle.scope_builders.specs.Dones.{KeepsDones}
use Rattle.scope_builders.specs.declared.builder.LaunchError.{LaunchError}
use Rattle.scope_builders.specs.declared.builder.LaunchError.TheVariants as launch
use Rattle.scope_builders.specs.Calls.{NoneLeft, EnteredNone, EnterAnswer, TellsBoth, ReceivesDone, AwaitsEnd, JoinsJob, BeginsToBreakOff, DoneAnswer, JoinAnswer}
use Rattle.script_grammar.specs.declared.instructions.Instruction.{Instruction}
use Rattle.script_grammar.specs.declared.instructions.Instruction.TheVariants as line
use Rattle.script_grammar.specs.Programs.{Program}
use Rattle.script_meaning.specs.declared.stage.Stage.TheVariants.{Running, SeesJob, Unwinding, SeesScope}
use Rattle.script_meaning.specs.Shapes.{base_of}
use Rattle.script_meaning.specs.Configs.{Config, InScope, in_scope, scope_in, row_or, innermost, outside, IsAt, at_stage, into}
use Rattle.script_meaning.specs.Lines.{LineCalls, StartsAndReceives, After, AfterAwait, AtScopeEnd, AfterScope}
use Rattle.script_meaning.specs.Moves.{Move}
use Rattle.script_meaning.specs.Laws.{wait_of}
use Rattle.script_meaning.specs.Polls.{StandsOn, RefusedByClaims, HasStood, HasToSee}
use Rattle.script_meaning.specs.Bodies.{is_over, is_fresh, is_leaving, HasBodyAt}
use Rattle.script_meaning.proofs.BodiesOpen.{innermost_ends, innermost_owned, innermost_reason}
use Rattle.script_meaning.proofs.JobDebts.{known_left, parents_in, AllKnown}
use Rattle.script_meaning.proofs.GroupNotes.{AllPass, all_as, all_then, plain_all, both_all, job_fact, saw_all, all_none, end_all, break_all, saw_end_all}
use Rattle.poll_states.specs.declared.entered.OpenScope.{OpenScope}
use Rattle.poll_states.specs.Frames.{Frame, config_of, items_of, Stands, seen_at, jobs_at, channels_at, SeenAtPoll, at_poll, both_of, StandsAt}
use Rattle.poll_states.specs.Steps.{HasBody, Stepped}
use Rattle.call_meaning.specs.Orders.{IsToldOfJobs}
use Rattle.poll_states.specs.Named.{answer_of_joined, after_named}
use Rattle.poll_states.specs.SeenEnds.{after_job, AfterDone, GoesOutside, LeavesEnded, IsInScope, IsScopeTop, EndsAndReceives, BreaksAndReceives, HasSeen, NotYetSeen}
use Rattle.poll_states.proofs.Standing.{stands_knows, stands_body}
use Rattle.script_meaning.proofs.GentleNotes.{attach_mild}
use Rattle.poll_states.proofs.JobLines.{never_told_over}
use Rattle.poll_states.proofs.DonesLeft.{unclosed_kept}
use Rattle.poll_states.proofs.QuietNotes.{is_quiet, quiet_allows, quiet_ends, quiet_rows, quiet_refused}
use Rattle.poll_states.proofs.Stepping.{as_frame, told_at, no_wait, known_of, jobs_noted, mild_step}

-- ---- a move of which nothing is noted that attaches or refuses

pub quiet_step : (p : Program) (c c' : ChannelFloor) (j j' : Floor) (f g : Frame) (told : List Told) (y : Config)
    → Move p f.tag (config_of f) told y → ToldOnBoth [] (seen_at c j f) (seen_at c' j' g) told
    → KeepsDones (base_of p) (seen_at c j f) (seen_at c' j' g) (items_in told) → AllPass is_quiet told
    → g.tag ≡ f.tag → config_of g ≡ y → ((w : WaitId) → wait_of y.stage ≡ Some w → HasStood c c' w)
    → Stepped p (at_poll c j f) (at_poll c' j' g)
quiet_step p c c' j j' f g told y move noted dones quiet t config stood = record {
  tag = t;
  told = told;
  move = subst (Move p f.tag (config_of f) told) (sym config) move;
  noted = subst (λ (l : List ℕ). ToldOnBoth l (seen_at c j f) (seen_at c' j' g) told) (sym (quiet_rows told quiet)) noted;
  refused = quiet_refused (config_of f) told j' quiet;
  dones = dones;
  stood = λ w e. stood w (sym (ap (λ (x : Config). wait_of x.stage) config) ∙ e);
}

no_more_wait : {A : Type 0} (w : WaitId) → None ≡ Some w → A
no_more_wait w e = absurd (let u : ⊥ = cc in u)

left_stood : {acts : List Act} (v w : WaitId) (a b : SeenOnChannels) → IsLeftWaiting v acts a b → Some v ≡ Some w
    → HasStood a.floor b.floor w
left_stood v w a b h e = let same : v ≡ w = cc in subst (HasStood a.floor b.floor) same
    (record { moment = h.stood.moment; after = h.stood.after; before = h.stood.before; holds = h.stood.holds })

-- a call with this base, which is the script's
tells_at : (p : Program) (base : ℕ) (P : List Told → Type 0) {a b : SeenOnBoth} → base ≡ base_of p → (t : TellsBoth base P a b)
    → KeepsDones (base_of p) a b (items_in t.told)
tells_at p base P {a} {b} e t = subst (λ n. KeepsDones n a b (items_in t.told)) e t.dones

-- ---- join and await

awaits_group : (p : Program) (base row : ℕ) (a : Answer) (told : List Told) → base ≡ base_of p → AwaitsEnd base row a told
    → StartsAndReceives p row told a
awaits_group p base row a told e h =
    StartsAndReceives.both h.starts h.group told a h.is_started
    (subst (λ b. PlainCall (receives (done_channel b row)) h.group a) e h.received) h.all

pub has_joined : (p : Program) (base : ℕ) (x : SeenAtPoll) (m : SeenOnBoth) (g : Frame) (job own row : ℕ) (answer : Joined)
    → base ≡ base_of p → StandsAt p x → IsAt p x.frame.tag (config_of x.frame) (line.Join job)
    → own ≡ innermost x.frame.tag (config_of x.frame) → slice_get x.frame.rows.items job ≡ Some row
    → JoinAnswer base own row (both_of x) m (Ok answer) → m.who ≡ x.frame.tag → g.tag ≡ x.frame.tag
    → config_of g ≡ after_named p x.frame.tag (config_of x.frame) (line.Join job) (answer_of_joined answer) → items_of g ≡ m.items
    → Stepped p x (at_poll m.channels m.jobs g)
has_joined p base x m g job own row answer e h at is named did who t config items =
    by_answer answer (as_frame (λ (z : SeenOnBoth). JoinAnswer base own row (both_of x) z (Ok answer)) m.channels m.jobs m.who m.items g
    (who
    ∙ sym t) items did) config
  where
    say : (a : Answer) (y : Config) → (d : TellsBoth base (JoinsJob base own row a) (both_of x) (seen_at m.channels m.jobs g))
        → After p x.frame.tag (config_of x.frame) (line.Join job) a y → config_of g ≡ y
        → ((w : WaitId) → wait_of y.stage ≡ Some w → HasStood x.channels m.channels w)
        → Stepped p x (at_poll m.channels m.jobs g)
    say a y d after k stood =
        let own_row : ℕ = innermost x.frame.tag (config_of x.frame) in
        let group : StartsAndReceives p row d.goes.group a = awaits_group p base row a d.goes.group e d.goes.awaits in
        let is_told : d.told ≡ on_jobs (MayRun own_row) ∷ d.goes.group = d.goes.all ∙ ap (λ r. on_jobs (MayRun r) ∷ d.goes.group) is in
        let calls : LineCalls p x.frame.tag (config_of x.frame) (line.Join job) d.told a =
        subst (λ l. LineCalls p x.frame.tag (config_of x.frame) (line.Join job) l a) (sym is_told)
        (LineCalls.join job row d.goes.group a named group) in
        quiet_step p x.channels m.channels x.jobs m.jobs x.frame g d.told y
        (Move.calls (config_of x.frame) y (line.Join job) d.told a at calls after) d.noted
        (tells_at p base _ e d)
        (all_as is_quiet d.told _ is_told (job_fact is_quiet (MayRun own_row) d.goes.group
        (both_all is_quiet quiet_allows p row d.goes.group a (λ s. refl) group))) t k stood

    by_answer : (answer : Joined) → JoinAnswer base own row (both_of x) (seen_at m.channels m.jobs g) (Ok answer)
        → config_of g ≡ after_named p x.frame.tag (config_of x.frame) (line.Join job) (answer_of_joined answer)
        → Stepped p x (at_poll m.channels m.jobs g)
    by_answer (joined.Closed v) d k = say (Closed v) _ d (After.joined job v) k (λ w n. no_more_wait w n)
    by_answer (joined.Waits w) d k = say (Waits w) _ d.0 (After.waits (line.Join job) w) k
        (λ u n. left_stood w u (channels_at x.channels x.frame) (channels_at m.channels g) d.1 n)
    by_answer joined.Spent d k = say NoPlace _ d (After.no_place (line.Join job)) k (λ w n. no_more_wait w n)
    by_answer joined.Cancelled d k =
        let own_row : ℕ = innermost x.frame.tag (config_of x.frame) in
        let is_told : d.told ≡ saw own_row ∷ [] = d.goes ∙ ap (λ r. saw r ∷ []) is in
        quiet_step p x.channels m.channels x.jobs m.jobs x.frame g d.told _
        (subst (λ l. Move p x.frame.tag (config_of x.frame) l (at_stage (Unwinding None) (config_of x.frame)))
        (sym is_told) (Move.stops_at_join (config_of x.frame) job at)) d.noted (tells_at p base _ e d)
        (all_as is_quiet d.told _ is_told (saw_all is_quiet quiet_allows own_row [] (all_none is_quiet))) t k (λ w n. no_more_wait w n)

pub has_awaited : (p : Program) (base : ℕ) (x : SeenAtPoll) (m : SeenOnBoth) (g : Frame) (job row : ℕ) (answer : Joined)
    → base ≡ base_of p → StandsAt p x → IsAt p x.frame.tag (config_of x.frame) (line.Await job)
    → slice_get x.frame.rows.items job ≡ Some row → DoneAnswer base (AwaitsEnd base row) (Starts row) (both_of x) m (Ok answer)
    → m.who ≡ x.frame.tag → g.tag ≡ x.frame.tag
    → config_of g ≡ after_named p x.frame.tag (config_of x.frame) (line.Await job) (answer_of_joined answer) → items_of g ≡ m.items
    → Stepped p x (at_poll m.channels m.jobs g)
has_awaited p base x m g job row answer e h at named did who t config items =
    by_answer answer (as_frame (λ (z : SeenOnBoth). DoneAnswer base (AwaitsEnd base row) (Starts row) (both_of x) z (Ok answer)) m.channels
    m.jobs
    m.who m.items g (who ∙ sym t) items did) config
  where
    say : (a : Answer) (y : Config) → (d : TellsBoth base (AwaitsEnd base row a) (both_of x) (seen_at m.channels m.jobs g))
        → After p x.frame.tag (config_of x.frame) (line.Await job) a y → config_of g ≡ y
        → ((w : WaitId) → wait_of y.stage ≡ Some w → HasStood x.channels m.channels w)
        → Stepped p x (at_poll m.channels m.jobs g)
    say a y d after k stood =
        let group : StartsAndReceives p row d.told a = awaits_group p base row a d.told e d.goes in
        quiet_step p x.channels m.channels x.jobs m.jobs x.frame g d.told y (Move.calls (config_of x.frame) y (line.Await job) d.told a at
        (LineCalls.await job row d.told a named group) after) d.noted (tells_at p base _ e d)
        (both_all is_quiet quiet_allows p row d.told a (λ s. refl) group) t k stood

    by_answer : (answer : Joined) → DoneAnswer base (AwaitsEnd base row) (Starts row) (both_of x) (seen_at m.channels m.jobs g) (Ok answer)
        → config_of g ≡ after_named p x.frame.tag (config_of x.frame) (line.Await job) (answer_of_joined answer)
        → Stepped p x (at_poll m.channels m.jobs g)
    by_answer (joined.Closed v) d k = say (Closed v) _ d (After.awaited job v) k (λ w n. no_more_wait w n)
    by_answer (joined.Waits w) d k = say (Waits w) _ d.0 (After.waits (line.Await job) w) k
        (λ u n. left_stood w u (channels_at x.channels x.frame) (channels_at m.channels g) d.1 n)
    by_answer joined.Cancelled d k = absurd d
    by_answer joined.Spent d k = say NoPlace _ d (After.no_place (line.Await job)) k (λ w n. no_more_wait w n)

-- ---- the end of a scope

done_call : (p : Program) (base row : ℕ) (a : Answer) (told : List Told) → base ≡ base_of p → ReceivesDone base row a told
    → PlainCall (receives (done_channel (base_of p) row)) told a
done_call p base row a told e h = subst (λ b. PlainCall (receives (done_channel b row)) told a) e h

-- the body of the scope ends
pub scope_body_ended : (p : Program) (base : ℕ) (x : SeenAtPoll) (m : SeenOnBoth) (g : Frame) (scope : OpenScope) (answer : Joined)
    → base ≡ base_of p → StandsAt p x → IsAt p x.frame.tag (config_of x.frame) line.End → IsScopeTop (config_of x.frame) scope
    → DoneAnswer base (EndsAndReceives base scope.row) (EndsBody base scope.row 0) (both_of x) m (Ok answer) → m.who ≡ x.frame.tag
    → g.tag ≡ x.frame.tag → AfterDone x.frame.tag answer (config_of x.frame) (config_of g) → items_of g ≡ m.items
    → Stepped p x (at_poll m.channels m.jobs g)
scope_body_ended p base x m g scope answer e h at top did who t config items =
    by_answer answer (as_frame (λ (z : SeenOnBoth). DoneAnswer base (EndsAndReceives base scope.row) (EndsBody base scope.row 0)
    (both_of x) z (Ok answer)) m.channels m.jobs m.who m.items g (who ∙ sym t) items did) config
  where
    s : InScope
    s = record { head = scope.head; row = scope.row; around = top.0 }

    say : (a : Answer) (y : Config) → (d : TellsBoth base (EndsAndReceives base scope.row a) (both_of x) (seen_at m.channels m.jobs g))
        → AtScopeEnd x.frame.tag (config_of x.frame) s a y → config_of g ≡ y
        → ((w : WaitId) → wait_of y.stage ≡ Some w → HasStood x.channels m.channels w)
        → Stepped p x (at_poll m.channels m.jobs g)
    say a y d after k stood =
        let ends = subst (λ b. EndsBody b scope.row 0 d.goes.end) e d.goes.ends in
        let call = done_call p base scope.row a d.goes.group e d.goes.received in
        quiet_step p x.channels m.channels x.jobs m.jobs x.frame g d.told y
        (Move.ends_scope (config_of x.frame) y s d.goes.end d.goes.group d.told a at top.1 ends call after
        d.goes.all) d.noted (tells_at p base _ e d)
        (all_as is_quiet d.told _ d.goes.all (all_then is_quiet d.goes.end d.goes.group
        (end_all is_quiet quiet_allows quiet_ends (base_of p) scope.row 0 d.goes.end ends)
        (plain_all is_quiet quiet_allows _ d.goes.group a (λ q. refl) call))) t k stood

    by_answer : (answer : Joined) → DoneAnswer base (EndsAndReceives base scope.row) (EndsBody base scope.row 0) (both_of x)
        (seen_at m.channels m.jobs g) (Ok answer) → AfterDone x.frame.tag answer (config_of x.frame) (config_of g)
        → Stepped p x (at_poll m.channels m.jobs g)
    by_answer (joined.Closed v) d k = say (Closed v) _ d (AtScopeEnd.closed v) k (λ w n. no_more_wait w n)
    by_answer (joined.Waits w) d k = say (Waits w) _ d.0 (AtScopeEnd.waits w) k
        (λ u n. left_stood w u (channels_at x.channels x.frame) (channels_at m.channels g) d.1 n)
    by_answer joined.Cancelled d k = absurd d
    by_answer joined.Spent d k = say NoPlace _ d AtScopeEnd.no_place (k s (ap scope_in top.1)) (λ w n. no_more_wait w n)

-- it breaks off
pub scope_body_broken : (p : Program) (base : ℕ) (x : SeenAtPoll) (m : SeenOnBoth) (g : Frame) (scope : OpenScope) (failure : Option ℕ)
    (answer : Joined) → base ≡ base_of p → Legal m.jobs.shape m.jobs.seen → StandsAt p x → x.frame.stage ≡ Unwinding failure
    → IsInScope (config_of x.frame) scope
    → DoneAnswer base (BreaksAndReceives base x.frame.tag scope.row failure)
    (BeginsToBreakOff base x.frame.tag scope.row failure (replay m.jobs.seen)) (both_of x) m (Ok answer) → m.who ≡ x.frame.tag
    → g.tag ≡ x.frame.tag → AfterDone x.frame.tag answer (config_of x.frame) (config_of g) → items_of g ≡ m.items
    → Stepped p x (at_poll m.channels m.jobs g)
scope_body_broken p base x m g scope failure answer e l h unwinds inside did who t config items =
    by_answer answer (as_frame (λ (z : SeenOnBoth). DoneAnswer base (BreaksAndReceives base x.frame.tag scope.row failure)
    (BeginsToBreakOff base x.frame.tag scope.row failure (replay m.jobs.seen)) (both_of x) z (Ok answer)) m.channels m.jobs m.who m.items g
    (who
    ∙ sym t) items did) config
  where
    s : InScope
    s = record { head = scope.head; row = scope.row; around = inside.0 }

    say : (a : Answer) (y : Config)
        → (d : TellsBoth base (BreaksAndReceives base x.frame.tag scope.row failure a) (both_of x) (seen_at m.channels m.jobs g))
        → AtScopeEnd x.frame.tag (config_of x.frame) s a y → config_of g ≡ y
        → ((w : WaitId) → wait_of y.stage ≡ Some w → HasStood x.channels m.channels w)
        → Stepped p x (at_poll m.channels m.jobs g)
    say a y d after k stood =
        let breaks = subst (λ b. BreaksOff b x.frame.tag scope.row failure d.goes.cancels) e d.goes.breaks in
        let call = done_call p base scope.row a d.goes.group e d.goes.received in
        let known : AllKnown (parents_in m.jobs.seen) d.told =
        known_of x.channels m.channels x.jobs m.jobs x.frame g [] d.told l h.on.channel_acts h.on.job_acts d.noted in
        let first : AllKnown (parents_in m.jobs.seen) d.goes.cancels =
        known_left (parents_in m.jobs.seen) d.goes.cancels d.goes.group (subst (AllKnown (parents_in m.jobs.seen)) d.goes.all known) in
        quiet_step p x.channels m.channels x.jobs m.jobs x.frame g d.told y
        (Move.breaks_scope (config_of x.frame) y s failure d.goes.cancels d.goes.group d.told a unwinds
        inside.1 breaks call after d.goes.all) d.noted (tells_at p base _ e d)
        (all_as is_quiet d.told _ d.goes.all (all_then is_quiet d.goes.cancels d.goes.group
        (break_all is_quiet quiet_allows quiet_ends (parents_in m.jobs.seen) (base_of p) x.frame.tag scope.row failure d.goes.cancels first
        breaks) (plain_all is_quiet quiet_allows _ d.goes.group a (λ q. refl) call))) t k stood

    by_answer : (answer : Joined) → DoneAnswer base (BreaksAndReceives base x.frame.tag scope.row failure)
        (BeginsToBreakOff base x.frame.tag scope.row failure (replay m.jobs.seen)) (both_of x) (seen_at m.channels m.jobs g) (Ok answer)
        → AfterDone x.frame.tag answer (config_of x.frame) (config_of g) → Stepped p x (at_poll m.channels m.jobs g)
    by_answer (joined.Closed v) d k = say (Closed v) _ d (AtScopeEnd.closed v) k (λ w n. no_more_wait w n)
    by_answer (joined.Waits w) d k = say (Waits w) _ d.0 (AtScopeEnd.waits w) k
        (λ u n. left_stood w u (channels_at x.channels x.frame) (channels_at m.channels g) d.1 n)
    by_answer joined.Cancelled d k = absurd d
    by_answer joined.Spent d k = say NoPlace _ d AtScopeEnd.no_place (k s inside.1) (λ w n. no_more_wait w n)

-- ---- the innermost Job

-- the body of its innermost Job may end
pub innermost_ends_here : (p : Program) (c : ChannelFloor) (j : Floor) (f : Frame) (row : ℕ) → Legal j.shape j.seen → Stands p c j f
    → f.stage ≡ Running → row ≡ innermost f.tag (config_of f) → MayEndBody f.tag (replay j.seen row)
innermost_ends_here p c j f row l h e is =
    subst (λ r. MayEndBody f.tag (replay j.seen r)) (sym is)
    (innermost_ends p f.tag (seen_by c j) (items_of f) (config_of f) (stands_knows p c j f l h) (ap is_fresh e) (ap is_leaving e)
    (ap is_over e))

-- the innermost scope is the innermost Job
pub scope_is_innermost : (k : ℕ) (x : Config) (s : OpenScope) → IsInScope x s → s.row ≡ innermost k x
scope_is_innermost k x s h = sym (ap (row_or k) h.1)

pub scope_owned : (p : Program) (c : ChannelFloor) (j : Floor) (f : Frame) (s : OpenScope) (failure : Option ℕ) → Legal j.shape j.seen
    → Stands p c j f → f.stage ≡ Unwinding failure → IsInScope (config_of f) s → OwnsBody f.tag (replay j.seen s.row)
scope_owned p c j f s failure l h e inside =
    subst (λ r. OwnsBody f.tag (replay j.seen r)) (sym (scope_is_innermost f.tag (config_of f) s inside))
    (innermost_owned p f.tag (seen_by c j) (items_of f) (config_of f) (stands_knows p c j f l h) (ap is_fresh e) (ap is_leaving e)
    (ap is_over e))

pub scope_reason : (p : Program) (c : ChannelFloor) (j : Floor) (f : Frame) (s : OpenScope) (failure : Option ℕ) → Legal j.shape j.seen
    → Stands p c j f → f.stage ≡ Unwinding failure → IsInScope (config_of f) s
    → Holds j.shape (replay j.seen) f.tag s.row (reason_for failure)
scope_reason p c j f s failure l h e inside =
    subst (λ r. Holds j.shape (replay j.seen) f.tag r (reason_for failure)) (sym (scope_is_innermost f.tag (config_of f) s inside))
    (subst (λ sh. Holds sh (replay j.seen) f.tag (innermost f.tag (config_of f)) (reason_for failure)) (sym h.on.jobs)
    (innermost_reason p f.tag (seen_by c j) (items_of f) (config_of f) failure (stands_knows p c j f l h) e))

-- ---- a scope is entered

-- the note of a refusal, where no row is left
pub enter_refused : (p : Program) (c d : ChannelFloor) (j j' : Floor) (f g : Frame) (supervisor : Bool) (w : ℕ) (mid : List Item)
    → IsToldOfJobs f.tag c d j'
    → Legal j'.shape j'.seen → IsAt p f.tag (config_of f) (line.Scope supervisor)
    → NoneLeft j' × ToldOnJobs [] (jobs_at j f) (record { who = w; floor = j'; items = mid }) (knew known.NoRow ∷ []) → g.tag ≡ f.tag
    → config_of g ≡ at_stage (Unwinding (Some f.tag)) (config_of f) → items_of g ≡ mid → Stepped p (at_poll c j f) (at_poll d j' g)
unfolding items_in rows_in
enter_refused p c d j j' f g supervisor w mid e l at none t config items =
    let noted : ToldOnJobs [] (jobs_at j f) (jobs_at j' g) (knew known.NoRow ∷ []) = told_at g none.1 t items in
    record {
      tag = t;
      told = knew known.NoRow ∷ [];
      move = subst (Move p f.tag (config_of f) (knew known.NoRow ∷ [])) (sym config)
          (Move.enter_refused (config_of f) supervisor _ at NotAttached.no_row);
      noted = jobs_noted [] c d j j' f g _ e refl noted;
      refused = record {
        no_row = λ k r low high. none.0 r (record { behind = low; within = high });
        used =
            λ k. absurd (let u : ⊥ = cc in u);
        none_ended = refl;
      };
      dones = unclosed_kept f.tag (base_of p) [] [] [] (seen_at c j f) (seen_at d j' g) _ l (spans.added_looked f.tag c d e.looked)
          refl noted.added (tt, tt);
      stood = λ w k. no_wait g _ w config refl k;
    }

pub has_entered : (p : Program) {a : SeenAtPoll} {d : ChannelFloor} {m : SeenOnJobs} {g : Frame} {parent : ℕ} {supervisor : Bool}
    {scope : Attached} {head : ℕ} → IsToldOfJobs a.frame.tag a.channels d m.floor → Legal m.floor.shape m.floor.seen
    → IsAt p a.frame.tag (config_of a.frame) (line.Scope supervisor) → parent ≡ innermost a.frame.tag (config_of a.frame)
    → head ≡ a.frame.line → HasEntered parent supervisor (jobs_at a.jobs a.frame) m scope → g.tag ≡ a.frame.tag
    → config_of g ≡ into (in_scope head scope.row) (config_of a.frame) → items_of g ≡ m.items → Stepped p a (at_poll d m.floor g)
unfolding items_in rows_in
has_entered p {a} {d} {m} {g} {parent} {supervisor} {scope} {head} e l at under is entered t config items =
    let f : Frame = a.frame in
    let old : SeenOnJobs = jobs_at a.jobs f in
    let new : SeenOnJobs = jobs_at m.floor g in
    let row : ℕ = innermost f.tag (config_of f) in
    let noted : ToldOnJobs (scope.row ∷ []) old new (did_attach row) =
    subst (λ r. ToldOnJobs (scope.row ∷ []) old new (did_attach r)) under (told_at g entered.noted t items) in
    mild_step p a.channels d a.jobs m.floor f g (did_attach row) (into (in_scope f.line scope.row) (config_of f)) l
    (Move.enters (config_of f) supervisor scope.row scope.cancelled at)
    (jobs_noted (scope.row ∷ []) a.channels d a.jobs m.floor f g (did_attach row) e refl noted)
    (attach_mild (base_of p) row scope.row (scope_kind supervisor) f.tag scope.cancelled) t (config
    ∙ ap (λ n. into (in_scope n scope.row) (config_of f)) is)
    (λ w k. no_wait g _ w config refl k)
  where
    did_attach : ℕ → List Told
    did_attach r = did (Attach r scope.row (scope_kind supervisor) a.frame.tag scope.cancelled) ∷ []

-- its innermost Job has not ended, so that is not told
pub parent_never_ended : {A : Type 0} (p : Program) (c : ChannelFloor) (j j' : Floor) (f : Frame) (parent w : ℕ) (mid : List Item)
    → Legal j.shape j.seen → Legal j'.shape j'.seen → Stands p c j f → f.stage ≡ Running → parent ≡ innermost f.tag (config_of f)
    → EnteredNone parent (jobs_at j f) (record { who = w; floor = j'; items = mid }) → A
parent_never_ended p c j j' f parent w mid l l' h e under did =
    let body : HasBody f.tag (innermost f.tag (config_of f)) j = stands_body p c j f l h (ap is_fresh e) (ap is_leaving e) (ap is_over e) in
    absurd (never_told_over w f.tag parent (did.row ∷ []) c j j' (items_of f) mid _ l'
    (subst (λ r. HasBodyAt f.tag r j) (sym under) body.at) h.on.channel_acts h.on.job_acts did.noted)

-- ---- an end is seen

sound_cause : (x : Option Job) (cause : Cause) → IsSoundRow x → end_at x ≡ Some (ended.Cancelled cause) → is_cause cause ≡ true
sound_cause None cause s e = cc
sound_cause (Some j) cause s e = by_state j.state refl e
  where
    by_state : (t : JobState) → j.state ≡ t → end_by t j ≡ Some (ended.Cancelled cause) → is_cause cause ≡ true
    by_state states.New k m = cc
    by_state states.Active k m = cc
    by_state states.Completing k m = cc
    by_state states.Cancelling k m = cc
    by_state states.Cancelled k m = let same : j.cause ≡ cause = cc in ap is_cause (sym same) ∙ s.caused ∙ ap is_cancelled k
    by_state states.Completed k m = cc

-- a Job that was seen cancelled has a cause
saw_cause : (p : Program) (c : ChannelFloor) (j j' : Floor) (f : Frame) (row : ℕ) (cause : Cause) (w : ℕ) (i' : List Item)
    → Legal j'.shape j'.seen → Stands p c j f → ToldOnJobs [] (jobs_at j f) (record { who = w; floor = j'; items = i' })
    (saw_end row (ended.Cancelled cause) ∷ []) → is_cause cause ≡ true
unfolding IsTrue
saw_cause p c j j' f row cause w i' l h told =
    let so = told.was_so (items_of f) c.shape c.seen h.on.channel_acts h.on.job_acts in
    let before : IsPrefix so.0.jobs j'.seen = so.1.not_after.jobs in
    sound_cause (replay so.0.jobs row) cause ((replay_families j'.shape so.0.jobs
    (Legal-prefix j'.shape so.0.jobs before.0 (rw before.1 l))).rows row) so.1.holds

saw_kept : (p : Program) (c d : ChannelFloor) (j j' : Floor) (f g : Frame) (row : ℕ) (end : End) → IsToldOfJobs f.tag c d j'
    → Legal j'.shape j'.seen
    → ToldOnJobs [] (jobs_at j f) (jobs_at j' g) (saw_end row end ∷ [])
    → KeepsDones (base_of p) (seen_at c j f) (seen_at d j' g) (items_in (saw_end row end ∷ []))
unfolding items_in
saw_kept p c d j j' f g row end e l noted = unclosed_kept f.tag (base_of p) [] [] [] (seen_at c j f) (seen_at d j' g) _ l
    (spans.added_looked f.tag c d e.looked) refl noted.added (tt, tt)

-- what seeing an end tells leaves a coroutine here
saw_step : (p : Program) (c d : ChannelFloor) (j j' : Floor) (f g : Frame) (row : ℕ) (end : End) (y : Config) → IsToldOfJobs f.tag c d j'
    → Legal j'.shape j'.seen → Move p f.tag (config_of f) (saw_end row end ∷ []) y
    → ToldOnJobs [] (jobs_at j f) (jobs_at j' g) (saw_end row end ∷ []) → wait_of y.stage ≡ None → is_over y.stage ≡ false → g.tag ≡ f.tag
    → config_of g ≡ y
    → HasSeen p (at_poll c j f) (at_poll d j' g)
unfolding quiet_step
saw_step p c d j j' f g row end y e l move noted none over t config = record {
  step = quiet_step p c d j j' f g (saw_end row end ∷ []) y move (both_jobs (spans.added_looked f.tag c d e.looked) e.told noted)
      (saw_kept p c d j j' f g row end e l noted) (saw_end_all is_quiet quiet_allows row end) t config
      (λ w k. no_more_wait w (sym none ∙ k));
  row = row;
  end = end;
  told_is = refl;
  runs = λ k. let u : true ≡ false = sym (ap is_over k) ∙ ap (λ (x : Config). is_over x.stage) config ∙ over in let no_way : ⊥ = cc
      in no_way;
}

pub saw_job : (p : Program) (a : SeenAtPoll) (d : ChannelFloor) (m : SeenOnJobs) (g : Frame) (row : ℕ) (end : End)
    → IsToldOfJobs a.frame.tag a.channels d m.floor
    → Legal m.floor.shape m.floor.seen → StandsAt p a → a.frame.stage ≡ SeesJob → HasToSee p a.frame.tag (config_of a.frame) row
    → ToldOnJobs [] (jobs_at a.jobs a.frame) m (saw_end row end ∷ []) → g.tag ≡ a.frame.tag
    → config_of g ≡ after_job end (config_of a.frame) → items_of g ≡ m.items → HasSeen p a (at_poll d m.floor g)
saw_job p a d m g row end e l h at (HasToSee.scope s k n) noted t config items =
    absurd (let u : SeesJob ≡ SeesScope = sym at ∙ k in let no_way : ⊥ = cc in no_way)
saw_job p a d m g row end e l h at (HasToSee.job job _ k line_is names) noted t config items =
    by_end end config (told_at g noted t items)
  where
    say : (end : End) (y : Config) → AfterAwait (config_of a.frame) end y → wait_of y.stage ≡ None → is_over y.stage ≡ false
        → config_of g ≡ y
        → ToldOnJobs [] (jobs_at a.jobs a.frame) (jobs_at m.floor g) (saw_end row end ∷ []) → HasSeen p a (at_poll d m.floor g)
    say end y after none over is told = saw_step p a.channels d a.jobs m.floor a.frame g row end y e l
        (Move.sees_job (config_of a.frame) y job row end at line_is names after) told none over t is

    by_end : (end : End) → config_of g ≡ after_job end (config_of a.frame)
        → ToldOnJobs [] (jobs_at a.jobs a.frame) (jobs_at m.floor g) (saw_end row end ∷ [])
        → HasSeen p a (at_poll d m.floor g)
    by_end (ended.Completed v) is told = say (ended.Completed v) _ (AfterAwait.completed v) refl refl is told
    by_end (ended.Cancelled because.None) is told = absurd
        (let u : false ≡ true = saw_cause p a.channels a.jobs m.floor a.frame row because.None g.tag (items_of g) l h told
        in let no_way : ⊥ = cc in no_way)
    by_end (ended.Cancelled because.Request) is told = say (ended.Cancelled because.Request) _ AfterAwait.cancelled refl refl is told
    by_end (ended.Cancelled (because.Failure q)) is told =
        say (ended.Cancelled (because.Failure q)) _ (AfterAwait.failed q) refl refl is told

pub saw_scope : (p : Program) (a : SeenAtPoll) (d : ChannelFloor) (m : SeenOnJobs) (g : Frame) (scope : OpenScope) (end : End)
    → IsToldOfJobs a.frame.tag a.channels d m.floor → Legal m.floor.shape m.floor.seen → StandsAt p a → a.frame.stage ≡ SeesScope
    → IsInScope (config_of a.frame) scope → ToldOnJobs [] (jobs_at a.jobs a.frame) m (saw_end scope.row end ∷ [])
    → g.tag ≡ a.frame.tag → LeavesEnded p a.frame.tag scope.head end (config_of a.frame) (config_of g) → items_of g ≡ m.items
    → HasSeen p a (at_poll d m.floor g)
saw_scope p a d m g scope end e l h at inside noted t leaves items = by_end end (leaves s inside.1) (told_at g noted t items)
  where
    s : InScope
    s = record { head = scope.head; row = scope.row; around = inside.0 }

    say : (end : End) (y : Config) → AfterScope p a.frame.tag (config_of a.frame) s end y → wait_of y.stage ≡ None → is_over y.stage ≡ false
        → config_of g ≡ y → ToldOnJobs [] (jobs_at a.jobs a.frame) (jobs_at m.floor g) (saw_end scope.row end ∷ [])
        → HasSeen p a (at_poll d m.floor g)
    say end y after none over is told = saw_step p a.channels d a.jobs m.floor a.frame g scope.row end y e l
        (Move.sees_scope (config_of a.frame) y s end at inside.1 after) told none over t is

    by_end : (end : End) → GoesOutside p a.frame.tag scope.head end (outside s (config_of a.frame)) (config_of g)
        → ToldOnJobs [] (jobs_at a.jobs a.frame) (jobs_at m.floor g) (saw_end scope.row end ∷ []) → HasSeen p a (at_poll d m.floor g)
    by_end (ended.Completed v) is told = say (ended.Completed v) _ (AfterScope.completed v is.0 is.1) refl refl is.2 told
    by_end (ended.Cancelled because.None) is told = absurd
        (let u : false ≡ true = saw_cause p a.channels a.jobs m.floor a.frame scope.row because.None g.tag (items_of g) l h told
        in let no_way : ⊥ = cc in no_way)
    by_end (ended.Cancelled because.Request) is told = say (ended.Cancelled because.Request) _ AfterScope.cancelled refl refl is told
    by_end (ended.Cancelled (because.Failure q)) is told =
        say (ended.Cancelled (because.Failure q)) _ (AfterScope.failed q) refl refl is told

alive_open : (x : Option Job) → IsAlive x → end_at x ≡ None
alive_open None h = absurd h
alive_open (Some j) h = by_state j.state h
  where
    by_state : (t : JobState) → is_ended t ≡ false → end_by t j ≡ None
    by_state states.New k = refl
    by_state states.Active k = refl
    by_state states.Completing k = refl
    by_state states.Cancelling k = refl
    by_state states.Cancelled k = cc
    by_state states.Completed k = cc

-- that Job had not ended
pub not_yet_seen : {p : Program} {a b : SeenAtPoll} {w row : ℕ} → b.channels ≡ a.channels
    → HasToSee p a.frame.tag (config_of a.frame) row
    → ToldOnJobs [] (jobs_at a.jobs a.frame) (record (jobs_at b.jobs b.frame) { who = w }) []
    → AtStep a.jobs b.jobs (λ tree. IsAlive (tree row)) → b.frame.tag ≡ a.frame.tag → config_of b.frame ≡ config_of a.frame
    → NotYetSeen p a b
unfolding items_in
not_yet_seen {p} {a} {b} {w} {row} e has told at t config = record {
  tag = t;
  unmoved = record { config = config; items = told.appended ∙ nothing_more (items_of a.frame) };
  channels = e;
  looked = told.added;
  again = record {
    row = row;
    has_to_see = has;
    not_ended =
        record { moment = at.moment; after = at.after; before = at.before; holds = alive_open (replay at.moment row) at.holds };
  };
}

-- no row was left for a scope; the other refusal never comes
pub enter_refused_by : (p : Program) (a : SeenAtPoll) (d : ChannelFloor) (m : SeenOnJobs) (g : Frame) (parent : ℕ) (supervisor : Bool)
    (error : LaunchError) → (error ≡ launch.NoRow) ⊎ (error ≡ launch.ParentEnded)
    → IsToldOfJobs a.frame.tag a.channels d m.floor → Legal a.jobs.shape a.jobs.seen
    → Legal m.floor.shape m.floor.seen → StandsAt p a → IsAt p a.frame.tag (config_of a.frame) (line.Scope supervisor)
    → parent ≡ innermost a.frame.tag (config_of a.frame) → EnterAnswer parent supervisor (jobs_at a.jobs a.frame) m (Err error)
    → g.tag ≡ a.frame.tag → config_of g ≡ at_stage (Unwinding (Some a.frame.tag)) (config_of a.frame) → items_of g ≡ m.items
    → Stepped p a (at_poll d m.floor g)
enter_refused_by p a d m g parent supervisor error which e l l' h at under answer t config items =
    let old : SeenOnJobs = jobs_at a.jobs a.frame in
    ⊎_elim
    (λ k. enter_refused p a.channels d a.jobs m.floor a.frame g supervisor m.who m.items e l' at
    (subst (λ x. EnterAnswer parent supervisor old m (Err x)) k answer) t config items)
    (λ k. parent_never_ended p a.channels a.jobs m.floor a.frame parent m.who m.items l l' h at.stage under
    (subst (λ x. EnterAnswer parent supervisor old m (Err x)) k answer))
    which

-- ---- a frame that was made room in

pub stands_same : (p : Program) (c : ChannelFloor) (j : Floor) (f m : Frame) → m.tag ≡ f.tag → config_of m ≡ config_of f
    → items_of m ≡ items_of f → Stands p c j f → Stands p c j m
stands_same p c j f m t config items h = record {
  on =
      subst (λ k. StandsOn p c j (record { tag = k; config = config_of m; book = items_of m })) (sym t)
      (subst (λ x. StandsOn p c j (record { tag = f.tag; config = x; book = items_of m })) (sym config)
      (subst (λ l. StandsOn p c j (record { tag = f.tag; config = config_of f; book = l })) (sym items) h.on));
}

pub at_same : (p : Program) (f m : Frame) (i : Instruction) → m.tag ≡ f.tag → config_of m ≡ config_of f → IsAt p f.tag (config_of f) i
    → IsAt p m.tag (config_of m) i
at_same p f m i t config at = subst (λ k. IsAt p k (config_of m) i) (sym t) (subst (λ x. IsAt p f.tag x i) (sym config) at)

pub stepped_from : (p : Program) (c c' : ChannelFloor) (j j' : Floor) (f m g : Frame) → m.tag ≡ f.tag → config_of m ≡ config_of f
    → items_of m ≡ items_of f → Stepped p (at_poll c j m) (at_poll c' j' g) → Stepped p (at_poll c j f) (at_poll c' j' g)
stepped_from p c c' j j' f m g t config items s = record {
  tag = s.tag ∙ t;
  told = s.told;
  move = subst (λ k. Move p k (config_of f) s.told (config_of g)) t (subst (λ x. Move p m.tag x s.told (config_of g)) config s.move);
  noted = as_frame (λ (a : SeenOnBoth). ToldOnBoth (rows_in (job_acts_in (items_in s.told))) a (seen_at c' j' g) s.told) c j m.tag
      (items_of m) f t (sym items) s.noted;
  refused = subst (λ x. RefusedByClaims x (items_in s.told) j') config s.refused;
  dones = record { only = s.dones.only; at_once = s.dones.at_once };
  stood = s.stood;
}

pub top_is_innermost : (k : ℕ) (x : Config) (s : OpenScope) → IsScopeTop x s → s.row ≡ innermost k x
top_is_innermost k x s h = sym (ap (λ l. row_or k (scope_in l)) h.1)
