-- A coroutine that a poll left where it was, and that was not ready, cannot go on, where nobody made an entry meanwhile.
use Rattle.std.specs.Prelude.{◌≡◌, ◌≢◌, ℕ, ◌==◌, Bool, true, false, ◌||◌, List, [], ◌∷◌, Option, Some, None, refl, if◌then◌else◌}
use Rattle.std.specs.List.{list_any}
use Rattle.std.proofs.Common.{ap, sym, ◌∙◌, subst, ⊎_elim}
use Rattle.std.proofs.lemmas.Bool.{or_left, or_right, or_cases, cond_both}
use Rattle.co_base.specs.declared.names.WaitId.{WaitId}
use Rattle.channel_model.specs.declared.acts.Settled.{Settled}
use Rattle.channel_model.specs.declared.standing.Resolution.{Resolution}
use Rattle.channel_model.specs.declared.floor.WaitState.TheVariants as state
use Rattle.channel_model.specs.Channels.{State, Wait}
use Rattle.channel_model.specs.Needs.{IsOpenOf}
use Rattle.channel_model.specs.Answers.{state_of_wait, state_of_parts, IsUnsettledOf}
use Rattle.channel_model.specs.Histories.{replay, Legal}
use Rattle.channel_model.specs.Floors.{Floor as ChannelFloor, AtStep as AtChannelStep}
use Rattle.job_model.specs.declared.acts.End.{End}
use Rattle.job_model.specs.declared.acts.JobAct.{JobAct}
use Rattle.job_model.specs.declared.acts.JobEntry.{JobEntry}
use Rattle.job_model.specs.declared.acts.JobState.{JobState}
use Rattle.job_model.specs.declared.acts.JobState.TheVariants.{New, Active, Cancelling}
use Rattle.job_model.specs.Trees.{Shape, Job, Tree, state_of}
use Rattle.job_model.specs.Acts.{ends_body}
use Rattle.job_model.specs.Laws.{GoesTo, stays, goes_on as then_goes, is_step, RowGoesTo}
use Rattle.job_model.specs.Histories.{replay as replay_jobs, replay_from, acts_of as job_acts_of, Legal as LegalJobs}
use Rattle.job_model.specs.Floors.{Floor, AtStep}
use Rattle.job_model.proofs.States.{states_go_on}
use Rattle.call_meaning.specs.Telling.{Told, items_in}
use Rattle.call_meaning.specs.Facts.{IsRunning}
use Rattle.call_meaning.specs.Calls.{seen_by}
use Rattle.script_grammar.specs.Programs.{Program}
use Rattle.script_grammar.specs.declared.instructions.Instruction.{Instruction}
use Rattle.call_meaning.specs.ChannelCalls.{Answer}
use Rattle.script_meaning.specs.declared.stage.Stage.TheVariants.{Fresh, Ended}
use Rattle.script_meaning.specs.declared.turn.Turn.{Turn}
use Rattle.script_meaning.specs.declared.turn.Turn.TheVariants as turn
use Rattle.script_meaning.specs.Shapes.{floor_shape, job_shape}
use Rattle.script_meaning.specs.Configs.{Config, InScope, innermost}
use Rattle.script_meaning.specs.Books.{Begins, Reaches}
use Rattle.script_meaning.specs.Idle.{WaitsAlone, IsNotStarted, IsLeft}
use Rattle.script_meaning.specs.Laws.{wait_of, HasJustTheWait}
use Rattle.script_meaning.specs.Polls.{Frame, StandsOn, HasStood, WaitsFor, TurnAnswer}
use Rattle.script_meaning.proofs.OneWait.{just_the_wait}
use Rattle.script_meaning.specs.Bodies.{is_over, is_fresh}
use Rattle.script_meaning.specs.Lines.{After, AfterAwait, AtScopeEnd, AfterScope}
use Rattle.script_meaning.specs.Moves.{Move}
use Rattle.script_meaning.proofs.BodiesOpen.{runs_ends}
use Rattle.script_meaning.proofs.StagesAfter.{after_stage}
use Rattle.run_laws.proofs.Prefixes.{between_same}

-- ---- moments of a call in which nobody made an entry

-- what was so at a moment is so at the end
job_now : (j j' : Floor) (P : Tree → Type 0) → j'.seen ≡ j.seen → AtStep j j' P → P (replay_jobs j'.seen)
job_now j j' P same step = subst (λ es. P (replay_jobs es)) (between_same j.seen step.moment j'.seen step.after step.before same
    ∙ sym same) step.holds

channel_now : (c c' : ChannelFloor) (P : State → Type 0) → c'.seen ≡ c.seen → AtChannelStep c c' P → P (replay c'.seen)
channel_now c c' P same step = subst (λ es. P (replay es)) (between_same c.seen step.moment c'.seen step.after step.before same
    ∙ sym same) step.holds

-- ---- a coroutine that has not begun

after_begun : (p : Program) (k : ℕ) (x : Config) (i : Instruction) (a : Answer) (y : Config) → is_fresh x.stage ≡ false → After p k x i a y
    → is_fresh y.stage ≡ false
after_begun = after_stage is_fresh (λ w. refl) (λ failure. refl) refl refl

await_begun : (x : Config) (end : End) (y : Config) → AfterAwait x end y → is_fresh y.stage ≡ false
await_begun x _ _ (AfterAwait.completed v) = refl
await_begun x _ _ other = refl

end_begun : (k : ℕ) (x : Config) (s : InScope) (a : Answer) (y : Config) → AtScopeEnd k x s a y → is_fresh y.stage ≡ false
end_begun k x s _ _ (AtScopeEnd.waits w) = refl
end_begun k x s _ _ other = refl

scope_begun : (p : Program) (k : ℕ) (x : Config) (s : InScope) (end : End) (y : Config) → AfterScope p k x s end y
    → is_fresh y.stage ≡ false
scope_begun p k x s _ _ (AfterScope.completed v e is) = refl
scope_begun p k x s _ _ other = refl

-- no move leads to where it has not begun
move_begun : (p : Program) (k : ℕ) (x : Config) (group : List Told) (y : Config) → Move p k x group y → is_fresh y.stage ≡ false
move_begun p k _ _ _ (Move.calls x y i group a at c f) = after_begun p k x i a y (ap is_fresh at.stage) f
move_begun p k _ _ _ (Move.resumes x y w i outcome a s at m f) = after_begun p k x i a y (ap is_fresh s) f
move_begun p k _ _ _ (Move.sees_job x y job row end s at n f) = await_begun x end y f
move_begun p k _ _ _ (Move.ends_scope x y s end group all a at e b c f is) = end_begun k x s a y f
move_begun p k _ _ _ (Move.sees_scope x y s end t e f) = scope_begun p k x s end y f
move_begun p k _ _ _ (Move.breaks_scope x y s failure break group all a t e b c f is) = end_begun k x s a y f
move_begun p k _ _ _ other = refl

begins_empty : (p : Program) (k : ℕ) (told : List Told) (x : Config) → k ≢ 0 → Begins p k told x → items_in told ≡ []
unfolding items_in
begins_empty p _ _ _ n (Begins.root group x s) = absurd (n refl)
begins_empty p _ _ _ n (Begins.child k m) = refl

-- it noted nothing, but for the root
fresh_empty : (p : Program) (k : ℕ) (told : List Told) (x : Config) → k ≢ 0 → x.stage ≡ Fresh → Reaches p k told x → items_in told ≡ []
fresh_empty p k _ _ n e (Reaches.begins group x b) = begins_empty p k group x n b
fresh_empty p k _ _ n e (Reaches.goes_on before group all x y r m q) =
    absurd (let no_way : ⊥ = let both_ways : true ≡ false = sym (ap is_fresh e) ∙ move_begun p k x group y m in cc in no_way)

-- the root may always run
not_back : (s : JobState) → GoesTo Active s → s ≢ New
not_back s stays e = cc
not_back s (then_goes t _ g step) e = before t s step e
  where
    before : (t u : JobState) → is_step t u ≡ true → u ≡ New → ⊥
    before t u step e = by_state t (subst (λ v. is_step t v ≡ true) e step)
      where
        by_state : (t : JobState) → is_step t New ≡ true → ⊥
        by_state New h = cc
        by_state other h = cc

root_started : (shape : Shape) (history : List JobEntry) → LegalJobs shape history → IsNotStarted (replay_jobs history 0) → ⊥
unfolding replay_from
root_started shape history legal h = by_row (replay_jobs history 0) (states_go_on shape [] history 0 legal) h
  where
    by_row : (o : Option Job) → RowGoesTo (replay_jobs [] 0) o → IsNotStarted o → ⊥
    by_row None g h = absurd g
    by_row (Some j) g h = not_back j.state g h

-- ---- how one is left that waits

standing_open : (k : ℕ) (x : Option Wait) → IsUnsettledOf k x → state_of_wait x ≡ Some state.Standing → IsOpenOf k x
standing_open k None u e = u
standing_open k (Some x) u e = (u.0, by_parts x.resolved x.settled e)
  where
    by_parts : (how : Option Resolution) (ending : Option Settled) → Some (state_of_parts how ending) ≡ Some state.Standing → how ≡ None
    by_parts how (Some outcome) e = cc
    by_parts None None e = refl
    by_parts (Some how) None e = cc

-- a coroutine is left on these floors
abbrev pub IsLeftOn : ChannelFloor → Floor → Frame → Type 0
IsLeftOn c j f = IsLeft f.tag f.config f.book (replay c.seen) j.seen f.config.stage

-- the waits of one that stands
stands_waits : (p : Program) (c : ChannelFloor) (j : Floor) (f : Frame) → Legal (floor_shape p) c.seen → StandsOn p c j f
    → HasJustTheWait f.tag f.config.stage (replay c.seen)
stands_waits p c j f legal h = just_the_wait p f.tag (seen_by c j) f.book f.config legal h.channel_acts h.runs

waits_alone : (p : Program) (c c' : ChannelFloor) (j : Floor) (f : Frame) (w : WaitId) → Legal (floor_shape p) c'.seen → StandsOn p c' j f
    → wait_of f.config.stage ≡ Some w → c'.seen ≡ c.seen → HasStood c c' w → WaitsAlone f.tag w (replay c'.seen)
waits_alone p c c' j f w legal h e same stood =
    let just = stands_waits p c' j f legal h in
    record {
      open_now = standing_open f.tag ((replay c'.seen).waits w) ((just w).1 e)
          (channel_now c c' (λ s. state_of_wait (s.waits w) ≡ Some state.Standing) same stood);
      only = λ v u. same_of v (sym ((just v).0 u) ∙ e);
    }
  where
    same_of : (v : WaitId) → Some v ≡ Some w → v ≡ w
    same_of v q = cc

not_cancelling : (o : Option Job) → IsRunning o → state_of o ≢ Some Cancelling
not_cancelling None h e = cc
not_cancelling (Some j) h e = let both_ways : Active ≡ Cancelling = cc in cc

-- ---- one that is not ready

left_by : (p : Program) (c c' : ChannelFloor) (j j' : Floor) (f : Frame) → Legal (floor_shape p) c'.seen → LegalJobs (job_shape p) j'.seen
    → StandsOn p c' j' f → c'.seen ≡ c.seen → j'.seen ≡ j.seen → WaitsFor c c' j j' f.tag f.config → IsLeftOn c' j' f
left_by p c c' j j' f legal legal_jobs h same same_jobs (WaitsFor.waits w e stood ran) =
    subst (IsLeft f.tag f.config f.book (replay c'.seen) j'.seen) (sym e) (
      waits_alone p c c' j' f w legal h (ap wait_of e) same stood,
      not_cancelling (replay_jobs j'.seen (innermost f.tag f.config))
          (job_now j j' (λ tree. IsRunning (tree (innermost f.tag f.config))) same_jobs ran),
    )
left_by p c c' j j' f legal legal_jobs h same same_jobs (WaitsFor.leaves w e stood) =
    subst (IsLeft f.tag f.config f.book (replay c'.seen) j'.seen) (sym e) (waits_alone p c c' j' f w legal h (ap wait_of e) same stood)
left_by p c c' j j' f legal legal_jobs h same same_jobs (WaitsFor.not_started e step) =
    let now : IsNotStarted (replay_jobs j'.seen f.tag) = job_now j j' (λ tree. IsNotStarted (tree f.tag)) same_jobs step in
    let child : f.tag ≢ 0 = λ z. root_started (job_shape p) j'.seen legal_jobs (subst (λ n. IsNotStarted (replay_jobs j'.seen n)) z now) in
    subst (IsLeft f.tag f.config f.book (replay c'.seen) j'.seen) (sym e) (
      now,
      sym h.runs.written
          ∙ fresh_empty p f.tag h.runs.told f.config child e h.runs.reaches,
    )

-- what one did was done
did_it : (test : JobAct → Bool) (k : ℕ) (history : List JobEntry) → list_any test (job_acts_of k history) ≡ true
    → list_any (λ (e : JobEntry). test e.act) history ≡ true
unfolding job_acts_of
did_it test k [] h = h
did_it test k (e ∷ es) h =
    cond_both (e.who == k) (e.act ∷ job_acts_of k es) (job_acts_of k es)
    (λ acts. list_any test acts ≡ true → list_any (λ (x : JobEntry). test x.act) (e ∷ es) ≡ true)
    (λ own q. ⊎_elim (λ t. or_left _ _ t) (λ t. or_right (test e.act) _ (did_it test k es t)) (or_cases (test e.act) _ q))
    (λ other q. or_right (test e.act) _ (did_it test k es q)) h

ended_left : (p : Program) (c : ChannelFloor) (j : Floor) (f : Frame) → Legal (floor_shape p) c.seen → LegalJobs (job_shape p) j.seen
    → StandsOn p c j f → f.config.stage ≡ Ended → IsLeftOn c j f
ended_left p c j f legal legal_jobs h e =
    let did : list_any (ends_body f.tag) (job_acts_of f.tag j.seen) ≡ true =
    runs_ends p f.tag (seen_by c j) f.book f.config (record { legal = legal_jobs; acts = h.job_acts; runs = h.runs; low = h.in_run })
    ∙ ap is_over e in
    let just = stands_waits p c j f legal h in
    subst (IsLeft f.tag f.config f.book (replay c.seen) j.seen) (sym e)
    (did_it (ends_body f.tag) f.tag j.seen did, λ v u. none v (sym (ap wait_of e) ∙ (just v).0 u))
  where
    none : (v : WaitId) → None ≡ Some v → ⊥
    none v q = cc

pub cannot_go_on : (p : Program) (c c' : ChannelFloor) (j j' : Floor) (f g : Frame) (told : List Told) (answer : Turn)
    → Legal (floor_shape p) c'.seen → LegalJobs (job_shape p) j'.seen → StandsOn p c' j' g → c'.seen ≡ c.seen → j'.seen ≡ j.seen
    → TurnAnswer p c c' j j' f g told answer → answer ≢ turn.Ready → IsLeftOn c' j' g
cannot_go_on p c c' j j' f g told turn.Ended legal legal_jobs h same same_jobs a n = ended_left p c' j' g legal legal_jobs h a
cannot_go_on p c c' j j' f g told turn.Waits legal legal_jobs h same same_jobs a n =
    left_by p c c' j j' g legal legal_jobs h same same_jobs a
cannot_go_on p c c' j j' f g told turn.Ready legal legal_jobs h same same_jobs a n = absurd (n refl)
