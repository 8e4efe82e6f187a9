-- How the wait of a coroutine ends.
use Rattle.std.specs.Prelude.{◌≡◌, ℕ, Bool, true, false, List, [], ◌∷◌, ◌++◌, Option, Some, None, is_some, refl, Ok}
use Rattle.std.proofs.Common.{sym, ap, ◌∙◌, subst, append_assoc}
use Rattle.co_base.specs.declared.names.WaitId.{WaitId}
use Rattle.channel_model.specs.declared.acts.Act.TheVariants.{Settle}
use Rattle.channel_model.specs.declared.acts.Settled.{Settled}
use Rattle.channel_model.specs.declared.acts.Settled.TheVariants as settled
use Rattle.channel_model.specs.declared.standing.Resolution.{Resolution}
use Rattle.channel_model.specs.declared.floor.WaitState.TheVariants as state
use Rattle.channel_model.specs.Channels.{State, Wait}
use Rattle.channel_model.specs.Histories.{replay, Legal as LegalChannels}
use Rattle.channel_model.specs.Floors.{Floor as ChannelFloor, Added as AddedToChannels, Looked as LookedAtChannels, AtStep as AtChannelStep, MayCall}
use Rattle.channel_model.specs.Answers.{LookAnswer, IsOwn, IsOwnWait, IsReady, IsReadyWait, IsResolvedWait, IsUnsettledOf, state_of_wait, state_of_parts, outcome_at}
use Rattle.channel_model.proofs.Histories.{Legal-prefix}
use Rattle.channel_model.proofs.Others.{others_keep, between, ready_stays, unsettled_stays}
use Rattle.channel_model.proofs.Spans as spans
use Rattle.job_model.specs.declared.acts.JobNote.TheVariants as known
use Rattle.job_model.specs.Histories.{Legal}
use Rattle.job_model.specs.Floors.{Floor, Added, Looked}
use Rattle.job_model.proofs.Spans.{added_looked, looked_moment}
use Rattle.note_book.specs.declared.book.Item.{Item}
use Rattle.note_book.specs.declared.book.Item.TheVariants as item
use Rattle.note_book.specs.Items.{channel_acts_in, job_acts_in}
use Rattle.call_meaning.specs.Telling.{Told, on_jobs, on_channels, IsResolved, MayRun, TakenBack, items_in, made, saw}
use Rattle.call_meaning.specs.ChannelCalls.{Answer, GivesUp}
use Rattle.call_meaning.specs.Seen.{SeenOnChannels, SeenOnBoth, state_in}
use Rattle.call_meaning.specs.Calls.{ToldOnChannels, ToldOnBoth, rows_in}
use Rattle.call_meaning.proofs.JobTellings.{told_fact, told_knew, both_jobs, both_channels, both_then}
use Rattle.call_meaning.proofs.HeardCalls.{both_nothing}
use Rattle.channel_calls.specs.Calls.{DispatchedAnswer, IsUntouched, ToldPart, Tells, TakesBack, TakesBackSomehow, end_told}
use Rattle.channel_calls.proofs.AnswersGo.{takes_back_goes}
use Rattle.channel_calls.proofs.Untold.{told_seen, part_none, part_of}
use Rattle.script_grammar.specs.Blocks.{opens_lines}
use Rattle.script_grammar.specs.Nesting.{closing_of}
use Rattle.script_grammar.specs.Tags.{code_of}
use Rattle.script_grammar.specs.WellFormed.{IsProgram}
use Rattle.script_meaning.specs.Bodies.{is_over}
use Rattle.script_meaning.specs.Laws.{wait_of}
use Rattle.script_meaning.specs.WaitEnds.{after_wait, WaitEnds}
use Rattle.script_meaning.specs.Polls.{HasStood}
use Rattle.script_meaning.proofs.StagesAfter.{after_stage}
use Rattle.script_meaning.proofs.LinesPlaced.{opened_closed}
use Rattle.script_meaning.proofs.WaitsEnd.{wait_ends, after_wait_none}
use Rattle.script_meaning.proofs.WaitsGivenUp.{given_up_end, dispatched}
use Rattle.script_grammar.specs.declared.instructions.Instruction.{Instruction}
use Rattle.script_grammar.specs.Programs.{Program}
use Rattle.script_meaning.specs.declared.stage.Stage.TheVariants.{Waiting, Unwinding}
use Rattle.script_meaning.specs.Shapes.{base_of}
use Rattle.script_meaning.specs.Configs.{Config, LineIs, at_stage, innermost}
use Rattle.script_meaning.specs.Lines.{Resumed}
use Rattle.script_meaning.specs.Moves.{Move}
use Rattle.poll_states.specs.declared.jobs.OwnState.TheVariants as own
use Rattle.poll_states.specs.Frames.{Frame, config_of, items_of, Stands, seen_at, channels_at, SeenAtPoll, at_poll, both_of}
use Rattle.poll_states.specs.Steps.{SeenBoth, EndedWait, GaveUp, Stepped, CutShort}
use Rattle.poll_states.specs.Heard.{HasHeardOf}
use Rattle.poll_states.proofs.BothSeen.{channels_since, state_since}
use Rattle.poll_states.proofs.Mild.{gives_up_mild, saw_mild, resumed_mild, taken_back_mild}
use Rattle.poll_states.proofs.Stepping.{told_on_channels_at, mild_step, no_wait}

-- ---- the look at a wait

some_resolved : (r : Option Resolution) → state_of_parts r None ≡ state.Resolved → is_some r ≡ true
some_resolved None e = cc
some_resolved (Some r) e = refl

ready_of : (who : ℕ) (x : Option Wait) → IsUnsettledOf who x → state_of_wait x ≡ Some state.Resolved → IsReadyWait who x
ready_of who None h e = absurd h
ready_of who (Some x) h e =
    let k : state_of_parts x.resolved x.settled ≡ state.Resolved = cc in
    (h.0, some_resolved x.resolved (ap (state_of_parts x.resolved) (sym h.1) ∙ k), h.1)

own_of : (who : ℕ) (x : Option Wait) → IsUnsettledOf who x → IsOwnWait who x
own_of who None h = h
own_of who (Some x) h = h.0

pub own_wait : (who : ℕ) (w : WaitId) (a : ChannelFloor) → IsUnsettledOf who ((replay a.seen).waits w) → IsOwn who w a
own_wait who w a h = own_of who ((replay a.seen).waits w) h

-- at a moment of the look the wait is still unsettled
held_at : (who : ℕ) (w : WaitId) (a b : ChannelFloor) (P : State → Type 0) → LegalChannels b.shape b.seen
    → IsUnsettledOf who ((replay a.seen).waits w) → LookedAtChannels who a b → (m : AtChannelStep a b P)
    → IsUnsettledOf who ((replay m.moment).waits w)
held_at who w a b P l h look m =
    let t = between who a.seen m.moment b.seen m.after m.before look.mine in
    let l' : LegalChannels b.shape m.moment = Legal-prefix b.shape m.moment m.before.0 (rw m.before.1 l) in
    others_keep b.shape who (IsUnsettledOf who) (unsettled_stays who) w a.seen m.moment l' m.after t.0 h

-- a wait that was seen resolved may be settled
pub settle_ready : (who : ℕ) (w : WaitId) (a b : ChannelFloor) → LegalChannels b.shape b.seen → IsUnsettledOf who ((replay a.seen).waits w)
    → LookAnswer who w a b state.Resolved → IsReady who w b
settle_ready who w a b l h look =
    let m = look.1 in
    let t = between who a.seen m.moment b.seen m.after m.before look.0.mine in
    others_keep b.shape who (IsReadyWait who) (ready_stays who) w m.moment b.seen l m.before t.1
    (ready_of who _ (held_at who w a b _ l h look.0 m) m.holds)

not_settled : (who : ℕ) (x : Option Wait) → IsUnsettledOf who x → state_of_wait x ≡ Some state.Settled → ⊥
not_settled who None h e = h
not_settled who (Some x) h e = (let k : Some (state_of_parts x.resolved x.settled) ≡ Some state.Settled = e
    in open_parts x.resolved (ap (state_of_parts x.resolved) (sym h.1) ∙ cc))
  where
    open_parts : (r : Option Resolution) → state_of_parts r None ≡ state.Settled → ⊥
    open_parts None q = cc
    open_parts (Some how) q = cc

-- a wait that is not settled is not seen settled
pub never_settled : (who : ℕ) (w : WaitId) (a b : ChannelFloor) → LegalChannels b.shape b.seen → IsUnsettledOf who ((replay a.seen).waits w)
    → LookAnswer who w a b state.Settled → ⊥
never_settled who w a b l h look = not_settled who _ (held_at who w a b _ l h look.0 look.1) look.1.holds

-- the wait is held after the look
pub holds_looked : (who : ℕ) (w : WaitId) (c d : ChannelFloor) → LegalChannels d.shape d.seen → LookedAtChannels who c d
    → IsUnsettledOf who ((replay c.seen).waits w) → IsUnsettledOf who ((replay d.seen).waits w)
holds_looked who w c d l look h = others_keep d.shape who (IsUnsettledOf who) (unsettled_stays who) w c.seen d.seen l look.longer look.mine
    h

pub call_looked : (who n : ℕ) (c d : ChannelFloor) → LookedAtChannels who c d → MayCall who n c → MayCall who n d
call_looked who n c d look h = record {
  caller = ap (λ (t : ℕ → Bool). t who) look.same.callers
      ∙ h.caller;
  channel = rw look.same.shape h.channel;
}

-- ---- ends for a Job that was cancelled

pub gave_resolved : {w : WaitId} {row : ℕ} {a : SeenOnChannels} {c' : ChannelFloor} {n k : ℕ} {mid i' : List Item} (outcome : Settled)
    → mid ≡ a.items ++ item.Job (known.Saw row) ∷ [] → k ≡ a.who
    → ToldOnChannels (record a { items = mid }) (record { who = n; floor = c'; items = i' }) (end_told w true outcome)
    × (outcome_at true ((state_in a).waits w) ≡ Some outcome) → GaveUp w row a (record { who = k; floor = c'; items = i' })
gave_resolved {w} {row} {a} {c'} {n} {k} {mid} {i'} outcome e t did = record {
  told = end_told w true outcome;
  goes = dispatched w outcome (given_up_end ((state_in a).waits w) outcome did.1);
  noted = subst (λ (l : List Item). ToldOnChannels (record a { items = l }) (record { who = k; floor = c'; items = i' })
      (end_told w true outcome)) e (told_on_channels_at k i' did.0 t refl);
}

pub gave_cancelled : {w : WaitId} {row : ℕ} {a : SeenOnChannels} {c' : ChannelFloor} {n k : ℕ} {mid i' : List Item} (outcome : Settled)
    → mid ≡ a.items ++ item.Job (known.Saw row) ∷ [] → k ≡ a.who
    → Tells (TakesBack w outcome) (record a { items = mid }) (record { who = n; floor = c'; items = i' })
    → GaveUp w row a (record { who = k; floor = c'; items = i' })
gave_cancelled {w} {row} {a} {c'} {n} {k} {mid} {i'} outcome e t did = record {
  told = did.told;
  goes = takes_back_goes w outcome did.told did.goes;
  noted = subst (λ (l : List Item). ToldOnChannels (record a { items = l }) (record { who = k; floor = c'; items = i' }) did.told) e
      (told_on_channels_at k i' did.left t refl);
}

-- there was no memory to give it up
pub part_after : (P : List Told → Type 0) {a : SeenOnChannels} {c' : ChannelFloor} {n k : ℕ} {mid i' : List Item} → mid ≡ a.items
    → k ≡ a.who → ToldPart P (record a { items = mid }) (record { who = n; floor = c'; items = i' })
    → ToldPart P a (record { who = k; floor = c'; items = i' })
part_after P {a} {c'} {n} {k} {mid} {i'} e t h = record {
  told = h.told;
  goes = h.goes;
  left = subst (λ (l : List Item). ToldOnChannels (record a { items = l }) (record { who = k; floor = c'; items = i' }) h.told) e
      (told_on_channels_at k i' h.left t refl);
}

pub given_none : (w : WaitId) {a b : SeenOnChannels} → IsUntouched a b → ToldPart (GivesUp w) a b
given_none w h = part_none (GivesUp w) (made (Settle w settled.Cancelled) ∷ []) GivesUp.dispatched h

pub given_part : (w : WaitId) {a b : SeenOnChannels} → ToldPart (TakesBackSomehow w) a b → ToldPart (GivesUp w) a b
given_part w h = part_of (TakesBackSomehow w) (GivesUp w) (λ told goes. takes_back_goes w goes.0 told goes.1) h

-- ---- the move

ready_resolved : (who : ℕ) (x : Option Wait) → IsReadyWait who x → IsResolvedWait x
ready_resolved who None h = h
ready_resolved who (Some x) h = h.1

-- what was told of it on both floors: the look at the wait, the look at the Job, and the rest
ended_noted : (c d' c' : ChannelFloor) (a b b' : Floor) (f m g : Frame) (w : WaitId) (row : ℕ) (told : List Told)
    → SeenBoth f.tag w row c d' a b true own.MayRun → m.tag ≡ f.tag → items_of m ≡ items_of f
    → ToldOnChannels (channels_at d' m) (channels_at c' g) told → HasHeardOf m.tag c' b b'
    → ToldOnBoth [] (seen_at c a f) (seen_at c' b' g) (on_channels (IsResolved w) ∷ on_jobs (MayRun row) ∷ told)
ended_noted c d' c' a b b' f m g w row told s t e h last =
    let d : ChannelFloor = s.channels in
    let a' : Floor = s.jobs in
    let was : AtChannelStep c d (λ s. IsResolvedWait (s.waits w)) = record {
      moment = d.seen;
      after = s.wait.looked.longer;
      before = spans.prefix_self d.seen;
      holds = ready_resolved f.tag ((replay d.seen).waits w) s.wait.so;
    } in
    let first : ToldOnBoth [] (seen_at c a f) (seen_at d a' f) (on_channels (IsResolved w) ∷ []) =
    both_channels (added_looked f.tag [] a a' s.heard.looked) s.heard.heard (told_seen (IsResolved w) s.wait.looked was refl refl) in
    let second : ToldOnBoth [] (seen_at d a' f) (seen_at d' b m) (on_jobs (MayRun row) ∷ []) =
    both_jobs (spans.added_looked f.tag d d' s.told.looked) s.told.told (told_fact (MayRun row) t e
    (added_looked f.tag [] a' b s.job.looked) (looked_moment f.tag [] a' b _ s.job.looked s.job.was)) in
    let third : ToldOnBoth [] (seen_at d' b m) (seen_at c' b' g) told =
    both_channels (added_looked m.tag [] b b' last.looked) last.heard h in
    both_then first (both_then second third)

taken_noted : (c d' c' : ChannelFloor) (a b b' : Floor) (f m g : Frame) (told : List Told) → LookedAtChannels f.tag c d'
    → Added f.tag [] [] a b → m.tag ≡ f.tag → items_of m ≡ items_of f → ToldOnChannels (channels_at d' m) (channels_at c' g) told
    → HasHeardOf m.tag c' b b' → ToldOnBoth [] (seen_at c a f) (seen_at c' b' g) told
taken_noted c d' c' a b b' f m g told look s t e h last =
    let first : ToldOnBoth [] (seen_at c a f) (seen_at d' b m) [] = both_nothing (spans.added_looked f.tag c d' look) s t e in
    let second : ToldOnBoth [] (seen_at d' b m) (seen_at c' b' g) told =
    both_channels (added_looked m.tag [] b b' last.looked) last.heard h in
    both_then first second

-- an answer is told by the end of the wait alone
answer_told : (w : WaitId) (outcome : Settled) (a : Answer) → Resumed outcome a → end_told w false outcome ≡ made (Settle w outcome) ∷ []
answer_told w _ _ (Resumed.value n v) = refl
answer_told w _ _ (Resumed.sent n) = refl
answer_told w _ _ (Resumed.closed n v) = refl

-- a line does not end the body
ends_open : (p : Program) (k : ℕ) (x : Config) (i : Instruction) (outcome : Settled) → is_over x.stage ≡ false → WaitEnds p k x i outcome
    → is_over (after_wait p k x i outcome).stage ≡ false
ends_open p k x i _ o (WaitEnds.answered outcome a r after) =
    after_stage is_over (λ w. refl) (λ failure. refl) refl refl p k x i a _ o after
ends_open p k x i _ o WaitEnds.taken_back = refl

-- a wait that was dispatched, and whose coroutine then goes on, has ended
pub wait_done : (p : Program) (w : WaitId) (c c' : ChannelFloor) (f m g : Frame) (k : ℕ) (i' : List Item) (line : Instruction)
    (outcome : Settled) → m.tag ≡ f.tag → config_of m ≡ config_of f → items_of m ≡ items_of f
    → DispatchedAnswer w false (channels_at c m) (record { who = k; floor = c'; items = i' }) (Ok outcome)
    → LineIs p f.tag (config_of f) line → g.tag ≡ m.tag → config_of g ≡ after_wait p m.tag (config_of m) line outcome → items_of g ≡ i'
    → EndedWait p w (channels_at c f) (channels_at c' g) f g
wait_done p w c c' f m g k i' line outcome tag kept same did at t config items = record {
  outcome = outcome;
  ends = did.1;
  line = line;
  line_is = at;
  config = config ∙ ap (λ n. after_wait p n (config_of m) line outcome) tag ∙ ap (λ x. after_wait p f.tag x line outcome) kept;
  noted = told_on_channels_at g.tag (items_of g) from (t ∙ tag) items;
}
  where
    after : SeenOnChannels
    after = record { who = k; floor = c'; items = i' }

    from : ToldOnChannels (channels_at c f) after (end_told w false outcome)
    from = subst (λ (n : ℕ). ToldOnChannels (record { who = n; floor = c; items = items_of f }) after (end_told w false outcome)) tag
        (subst (λ (l : List Item). ToldOnChannels (record { who = m.tag; floor = c; items = l }) after (end_told w false outcome)) same
        did.0)

-- the wait ended as its line says, and the body did not end by it
pub wait_ended : (p : Program) {c d' c' : ChannelFloor} {a b b' : Floor} {f m g : Frame} {w : WaitId} → IsProgram p
    → LegalChannels d'.shape d'.seen → Legal b'.shape b'.seen → Stands p c a f → f.stage ≡ Waiting w
    → SeenBoth f.tag w (innermost f.tag (config_of f)) c d' a b true own.MayRun → m.tag ≡ f.tag → config_of m ≡ config_of f
    → items_of m ≡ items_of f → EndedWait p w (channels_at d' m) (channels_at c' g) m g
    → g.tag ≡ m.tag → HasHeardOf m.tag c' b b' → Stepped p (at_poll c a f) (at_poll c' b' g) × (is_over g.stage ≡ false)
unfolding items_in rows_in
wait_ended p {c} {d'} {c'} {a} {b} {b'} {f} {m} {g} {w} ok l lj h e s tag config items end t last =
    (by_end ends refl, ap (λ (x : Config). is_over x.stage) goes ∙ ends_open p f.tag x end.line end.outcome (ap is_over e) ends)
  where
    x : Config
    x = config_of f

    row : ℕ
    row = innermost f.tag (config_of f)

    looks : LookedAtChannels f.tag c d'
    looks = channels_since s

    at : LineIs p f.tag x end.line
    at = subst (λ k. LineIs p k x end.line) tag (subst (λ y. LineIs p m.tag y end.line) config end.line_is)

    ends : WaitEnds p f.tag x end.line end.outcome
    ends =
        wait_ends p f.tag h.on.runs.told x w end.line d'.seen end.outcome h.on.runs.reaches e at (λ opens. closed opens)
        (subst (λ sh. LegalChannels sh d'.seen) (looks.same.shape ∙ h.on.channels) l) (looks.mine ∙ h.on.channel_acts
        ∙ ap channel_acts_in (sym h.on.runs.written)) end.ends
      where
        closed : opens_lines end.line ≡ true → is_some (closing_of (code_of p f.tag) x.line) ≡ true
        closed opens = ap is_some (opened_closed p f.tag x.line end.line ok at opens).1

    goes : config_of g ≡ after_wait p f.tag x end.line end.outcome
    goes = subst (λ k. config_of g ≡ after_wait p k x end.line end.outcome) tag
        (subst (λ y. config_of g ≡ after_wait p m.tag y end.line end.outcome) config end.config)

    noted : (outcome : Settled) → end.outcome ≡ outcome → ToldOnChannels (channels_at d' m) (channels_at c' g) (end_told w false outcome)
    noted outcome k = subst (λ o. ToldOnChannels (channels_at d' m) (channels_at c' g) (end_told w false o)) k end.noted

    none : (v : WaitId) → wait_of g.stage ≡ Some v → HasStood c c' v
    none v q = no_wait g _ v goes (after_wait_none p f.tag x end.line end.outcome ends) q

    by_end : {outcome : Settled} → WaitEnds p f.tag x end.line outcome → end.outcome ≡ outcome
        → Stepped p (at_poll c a f) (at_poll c' b' g)
    by_end (WaitEnds.answered outcome answer r after) k =
        mild_step p c c' a b' f g (on_channels (IsResolved w) ∷ on_jobs (MayRun row) ∷ made (Settle w outcome) ∷ [])
        (after_wait p f.tag x end.line outcome) lj
        (Move.resumes x _ w end.line outcome answer e at r after)
        (ended_noted c d' c' a b b' f m g w row _ s tag items
        (subst (ToldOnChannels (channels_at d' m) (channels_at c' g)) (answer_told w outcome answer r) (noted outcome k)) last)
        (resumed_mild (base_of p) w outcome (IsResolved w) (MayRun row)) (t ∙ tag) (goes ∙ ap (after_wait p f.tag x end.line) k) none
    by_end WaitEnds.taken_back k =
        mild_step p c c' a b' f g (on_channels (TakenBack w) ∷ made (Settle w settled.Cancelled) ∷ []) (at_stage (Unwinding None) x) lj
        (Move.cancelled x w e)
        (taken_noted c d' c' a b b' f m g _ looks (added_looked f.tag [] a b (state_since s).looked) tag items (noted settled.Cancelled k)
        last)
        (taken_back_mild (base_of p) w settled.Cancelled) (t ∙ tag)
        (goes ∙ ap (after_wait p f.tag x end.line) k) none

-- the wait was given up
pub gave_up : {resolved : Bool} (p : Program) (x y : SeenAtPoll) (d' : ChannelFloor) (b : Floor) (m : Frame) (w : WaitId) (row : ℕ)
    → Legal y.jobs.shape y.jobs.seen
    → x.frame.stage ≡ Waiting w → row ≡ innermost x.frame.tag (config_of x.frame)
    → SeenBoth x.frame.tag w row x.channels d' x.jobs b resolved own.Cancelling → m.tag ≡ x.frame.tag → config_of m ≡ config_of x.frame
    → items_of m ≡ items_of x.frame → GaveUp w row (channels_at d' m) (channels_at y.channels y.frame) → y.frame.tag ≡ m.tag
    → config_of y.frame ≡ at_stage (Unwinding None) (config_of m) → HasHeardOf m.tag y.channels b y.jobs → Stepped p x y
unfolding items_in rows_in
gave_up p x y d' b m w row lj e is s tag config items up t goes last =
    let f : Frame = x.frame in
    let g : Frame = y.frame in
    let mid : List Item = items_of f ++ item.Job (known.Saw row) ∷ [] in
    let same : items_of m ++ item.Job (known.Saw row) ∷ [] ≡ mid = ap (λ l. l ++ item.Job (known.Saw row) ∷ []) items in
    let noted : ToldOnChannels (record { who = m.tag; floor = d'; items = mid }) (channels_at y.channels g) up.told =
    subst (λ (l : List Item). ToldOnChannels (record { who = m.tag; floor = d'; items = l }) (channels_at y.channels g) up.told) same
    up.noted in
    let seen : SeenOnBoth = record { who = m.tag; channels = d'; jobs = b; items = mid } in
    let before : ToldOnBoth [] (both_of x) (seen_at s.channels s.jobs f) [] =
    both_nothing (spans.added_looked f.tag x.channels s.channels s.wait.looked)
    (added_looked f.tag [] x.jobs s.jobs s.heard.looked) refl refl in
    let first : ToldOnBoth [] (seen_at s.channels s.jobs f) seen (saw row ∷ []) =
    both_jobs (spans.added_looked f.tag s.channels d' s.told.looked) s.told.told
    (told_knew (known.Saw row) refl tag refl (added_looked f.tag [] s.jobs b s.job.looked)
    (looked_moment f.tag [] s.jobs b _ s.job.looked s.job.was)) in
    let second : ToldOnBoth [] seen (both_of y) up.told =
    both_channels (added_looked m.tag [] b y.jobs last.looked) last.heard noted in
    let both : ToldOnBoth [] (both_of x) (both_of y) (saw row ∷ up.told) = both_then before (both_then first second) in
    let config' : config_of g ≡ at_stage (Unwinding None) (config_of f) = goes ∙ ap (at_stage (Unwinding None)) config in
    mild_step p x.channels y.channels x.jobs y.jobs f g (saw row ∷ up.told) (at_stage (Unwinding None) (config_of f)) lj
    (subst (λ r. Move p f.tag (config_of f) (saw r ∷ up.told) (at_stage (Unwinding None) (config_of f))) (sym is)
    (Move.gives_up (config_of f) w up.told e up.goes))
    (subst (λ (l : List ℕ). ToldOnBoth l (both_of x) (both_of y) (saw row ∷ up.told)) (sym (saw_rows up.told noted.no_jobs)) both)
    (saw_mild (base_of p) row up.told (gives_up_mild (base_of p) w up.told up.goes)) (t ∙ tag) config' (λ v q. no_wait g _ v config' refl q)
  where
    saw_rows : (told : List Told) → job_acts_in (items_in told) ≡ [] → rows_in (job_acts_in (items_in (saw row ∷ told))) ≡ []
    saw_rows told k = ap rows_in k

-- ---- want of memory

-- items were noted before, by the frame of this tag
pub cut_end : {a b : SeenOnBoth} (d : ChannelFloor) (n w : ℕ) (mid : List Item) → LookedAtChannels a.who a.channels d
    → Looked a.who [] a.jobs b.jobs → mid ≡ a.items → IsUntouched (record { who = n; floor = d; items = mid })
    (record { who = w; floor = b.channels; items = b.items }) → b.who ≡ a.who → CutShort a b
cut_end {a} {b} d n w mid look s items h t = record {
  who = t;
  group = [];
  rows = [];
  appended = h.book ∙ items ∙ sym (spans.nothing_more a.items);
  channels = subst (AddedToChannels a.who [] a.channels) (sym h.floor) (spans.added_looked a.who a.channels d look);
  jobs = added_looked a.who [] a.jobs b.jobs s;
}

pub cut_given : {P : List Told → Type 0} {a b : SeenOnBoth} (d : ChannelFloor) (n w : ℕ) (row : ℕ) (mid : List Item)
    → LookedAtChannels a.who a.channels d
    → Looked a.who [] a.jobs b.jobs → n ≡ a.who → mid ≡ a.items
    → Tells P (record { who = n; floor = d; items = mid ++ item.Job (known.Saw row) ∷ [] })
    (record { who = w; floor = b.channels; items = b.items }) → b.who ≡ a.who → CutShort a b
cut_given {P} {a} {b} d n w row mid look s e items h t = record {
  who = t;
  group = item.Job (known.Saw row) ∷ items_in h.told;
  rows = [];
  appended = h.left.appended ∙ ap (λ l. (l ++ item.Job (known.Saw row) ∷ []) ++ items_in h.told) items
      ∙ append_assoc a.items (item.Job (known.Saw row) ∷ []) (items_in h.told);
  channels = spans.added_then a.who [] (channel_acts_in (items_in h.told)) a.channels d b.channels
      (spans.added_looked a.who a.channels d look) (subst (λ k. AddedToChannels k (channel_acts_in (items_in h.told)) d b.channels) e
      h.left.added);
  jobs = subst (λ acts. Added a.who acts [] a.jobs b.jobs) (sym h.left.no_jobs) (added_looked a.who [] a.jobs b.jobs s);
}
