-- The select of a line: its clauses may be selected from, and what it comes to.
use Rattle.std.specs.Prelude.{◌≡◌, ℕ, zero, suc, Bool, true, false, if◌then◌else◌, OnOk, Result, Err, ◌+◌, ◌-◌, ◌<◌, ◌≤◌, ◌++◌, List, [], ◌∷◌, length, map, take, drop, Option, Some, None, slice_get, refl, Ok}
use Rattle.std.proofs.Common.{sym, ap, ◌∙◌, subst, arith}
use Rattle.std.proofs.lemmas.Option.{slice_get_within}
use Rattle.std.proofs.lemmas.List.{take_rest}
use Rattle.co_base.specs.declared.names.Memory.{Memory}
use Rattle.co_base.specs.declared.names.WaitId.{WaitId}
use Rattle.channel_model.specs.Floors.{Floor as ChannelFloor}
use Rattle.job_model.specs.Histories.{Legal}
use Rattle.job_model.specs.Floors.{Floor}
use Rattle.call_meaning.specs.Telling.{Told}
use Rattle.call_meaning.specs.ChannelCalls.{Call, sends, receives, Answer, Done, Got, Closed, Waits, LooksAgain, NoPlace, Refused, blocked, SelectCall, channel_of}
use Rattle.call_meaning.specs.Seen.{SeenOnChannels}
use Rattle.call_meaning.specs.Calls.{ToldOnChannels}
use Rattle.poll_states.proofs.Stepping.{as_frame_on_channels}
use Rattle.select_calls.specs.declared.clause.Outcome.{Outcome}
use Rattle.select_calls.specs.declared.clause.Outcome.TheVariants as outcome
use Rattle.select_calls.specs.declared.clause.SelectAnswer.{SelectAnswer}
use Rattle.select_calls.specs.declared.clause.SelectAnswer.TheVariants as came_to
use Rattle.select_calls.specs.Clauses.{MaySelect}
use Rattle.select_calls.specs.Selects.{Meets, Chooses, SelectedAnswer}
use Rattle.script_grammar.specs.declared.instructions.Instruction.{Instruction}
use Rattle.script_grammar.specs.declared.instructions.Instruction.TheVariants as line
use Rattle.script_grammar.specs.Programs.{Program, shape_of}
use Rattle.script_grammar.specs.Blocks.{is_end}
use Rattle.script_grammar.specs.Nesting.{closing_of, closing_from, end_from, one_less, depth_after}
use Rattle.script_grammar.specs.Tags.{code_of}
use Rattle.script_grammar.specs.WellFormed.{IsProgram}
use Rattle.script_grammar.proofs.Declarations.{length-shape_of}
use Rattle.script_reader.specs.declared.script.Script.{Script}
use Rattle.script_reader.specs.Scripts.{program_of}
use Rattle.script_meaning.specs.declared.stage.Stage.TheVariants.{Running, Waiting, Unwinding}
use Rattle.script_meaning.specs.Shapes.{base_of}
use Rattle.script_meaning.specs.Configs.{Config, IsAt, at_stage}
use Rattle.script_meaning.specs.Lines.{LineCalls, After, clauses_in, clauses_at}
use Rattle.script_meaning.specs.Laws.{wait_of}
use Rattle.script_meaning.specs.declared.turn.Turn.{Turn}
use Rattle.script_meaning.specs.Polls.{HasStood, is_seeing}
use Rattle.script_meaning.proofs.ClausesOfSelects.{ClausesFit, select_fits}
use Rattle.script_meaning.proofs.GroupNotes.{select_all}
use Rattle.script_meaning.proofs.GentleNotes.{is_mild, mild_allows, below_dones}
use Rattle.script_meaning.proofs.ClausesSpent.{clauses_spent}
use Rattle.poll_states.specs.Frames.{Frame, config_of, items_of, SeenAtPoll, at_poll, Stands, channels_at}
use Rattle.poll_states.specs.Steps.{Stepped, MovesOn}
use Rattle.poll_states.specs.SeenEnds.{WentOn, WentOnAnswer}
use Rattle.poll_states.specs.Selecting.{AfterChosen, AfterSelect, waits_with}
use Rattle.poll_states.specs.Heard.{HasHeardOf}
use Rattle.poll_states.proofs.FloorsOfScripts.{no_signal}
use Rattle.poll_states.proofs.LineNeeds.{stands_call}
use Rattle.poll_states.proofs.Mild.{AllMild}
use Rattle.poll_states.proofs.ChannelLines.{called, same_wait_stood, no_more_wait}

-- ---- what may be selected from

pub may_select : (p : Program) (c : ChannelFloor) (j : Floor) (f : Frame) (calls : List Call) → IsProgram p → Stands p c j f
    → IsAt p f.tag (config_of f) line.Select → calls ≡ clauses_at p f.tag (config_of f) → MaySelect calls (channels_at c f)
may_select p c j f calls ok h at is = subst (λ l. MaySelect l (channels_at c f)) (sym is) (record {
  some = fit.some refl;
  few = let h = fit.few in omega (arith, h);
  may_call = λ i call e. stands_call p c j f (channel_of call) h (declared i call e);
  no_signal = λ i n v e. no_signal p n c.shape ok h.on.channels (declared i (sends n v) e);
  apart = λ i j a b e k s. fit.apart i j a b e k s;
})
  where
    fit : ClausesFit (length p.channels) [] (clauses_at p f.tag (config_of f))
    fit = select_fits p f.tag (config_of f) ok at.line_is

    declared : (i : ℕ) (call : Call) → slice_get (clauses_at p f.tag (config_of f)) i ≡ Some call → channel_of call < length (shape_of p)
    declared i call e = subst (λ n. channel_of call < n) (sym (length-shape_of p)) (fit.low i call e)

pub few_clauses : (p : Program) (f : Frame) → IsProgram p → IsAt p f.tag (config_of f) line.Select
    → length (clauses_at p f.tag (config_of f)) ≤ 7
few_clauses p f ok at = let h = (select_fits p f.tag (config_of f) ok at.line_is).few in omega (arith, h)

-- what a select tells is mild
select_mild : (p : Program) (f : Frame) (told : List Told) (a : Answer) → IsProgram p → SelectCall (clauses_at p f.tag (config_of f)) told a
    → AllMild (base_of p) told
select_mild p f told a ok call =
    select_all (is_mild (base_of p)) (mild_allows (base_of p)) (clauses_at p f.tag (config_of f)) told a
    (clauses_spent (is_mild (base_of p)) p f.tag (config_of f) ok (λ c lt. below_dones (base_of p) c lt)) call

-- ---- what a select comes to

-- the chosen clause that comes to this is answered so
data Comes : Answer → Outcome → Type 0 where
  sent : Comes Done outcome.Sent
  got : (v : ℕ) → Comes (Got v) (outcome.Value v)
  send_closed : (v : ℕ) → Comes Done (outcome.Closed v)
  closed : (v : ℕ) → Comes (Closed v) (outcome.Closed v)

chosen_call : (calls : List Call) (n : ℕ) (o : Outcome) (told : List Told) → Chooses calls n o told → (a : Answer) × SelectCall calls told a
    × Comes a o
chosen_call calls n o told h = by_meets h.call o h.group h.clauses h.all h.meets
  where
    by_meets : (call : Call) (o : Outcome) (group : List Told) → calls ≡ h.passed ++ call ∷ h.later → told ≡ map blocked h.passed ++ group
        → Meets call o group → (a : Answer) × SelectCall calls told a × Comes a o
    by_meets _ _ _ is all (Meets.sent c v group once) = (
      Done,
      SelectCall.chooses h.passed h.later (sends c v) group told Done is once all,
      Comes.sent,
    )
    by_meets _ _ _ is all (Meets.received c v group once) =
        (Got v, SelectCall.chooses h.passed h.later (receives c) group told (Got v) is once all, Comes.got v)
    by_meets _ _ _ is all (Meets.send_closed c v u) = (
      Done,
      SelectCall.meets_close h.passed h.later (sends c v) _ told Done is (Refused.send c v u) all,
      Comes.send_closed u,
    )
    by_meets _ _ _ is all (Meets.receive_closed c u) = (
      Closed u,
      SelectCall.meets_close h.passed h.later (receives c) _ told (Closed u) is (Refused.receive c u) all,
      Comes.closed u,
    )

after_chosen : (p : Program) (k : ℕ) (x y : Config) (a : Answer) (o : Outcome) → Comes a o → AfterChosen p k o x y
    → After p k x line.Select a y
after_chosen p k x y _ _ (Comes.got v) h = subst (After p k x line.Select (Got v)) (sym h.2) (After.chose_got h.0 v h.1)
after_chosen p k x y _ _ (Comes.closed u) h = subst (After p k x line.Select (Closed u)) (sym h.2) (After.chose_closed h.0 u h.1)
after_chosen p k x y _ _ other h = subst (After p k x line.Select Done) (sym h.2) (After.chose_send h.0 h.1)

chosen_runs : (p : Program) (k : ℕ) (x y : Config) (o : Outcome) → AfterChosen p k o x y → wait_of y.stage ≡ None
chosen_runs p k x y outcome.Sent h = ap (λ (z : Config). wait_of z.stage) h.2
chosen_runs p k x y (outcome.Value v) h = ap (λ (z : Config). wait_of z.stage) h.2
chosen_runs p k x y (outcome.Closed v) h = ap (λ (z : Config). wait_of z.stage) h.2

pub has_selected : (p : Program) (old : SeenAtPoll) (j : Floor) (new : SeenOnChannels) (g : Frame) (calls : List Call)
    (held : Option WaitId)
    (answer : SelectAnswer) → HasHeardOf old.frame.tag new.floor old.jobs j → IsProgram p → Legal j.shape j.seen
    → IsAt p old.frame.tag (config_of old.frame) line.Select
    → calls ≡ clauses_at p old.frame.tag (config_of old.frame)
    → SelectedAnswer calls (channels_at old.channels old.frame) new held (Ok answer) → new.who ≡ old.frame.tag → g.tag ≡ old.frame.tag
    → AfterSelect p old.frame.tag answer held (config_of old.frame) (config_of g) → items_of g ≡ new.items
    → Stepped p old (at_poll new.floor j g)
has_selected p old j new g calls held answer hear ok l at is came who t config items =
    by_answer answer (subst (λ cs. SelectedAnswer cs (channels_at old.channels old.frame) (channels_at new.floor g) held (Ok answer)) is
    (as_frame_on_channels (λ (z : SeenOnChannels). SelectedAnswer calls (channels_at old.channels old.frame) z held (Ok answer)) new.floor
    new.who new.items g (who
    ∙ sym t) items came)) config
  where
    say : (a : Answer) (told : List Told) → SelectCall (clauses_at p old.frame.tag (config_of old.frame)) told a
        → After p old.frame.tag (config_of old.frame) line.Select a (config_of g)
        → ToldOnChannels (channels_at old.channels old.frame) (channels_at new.floor g) told
        → ((w : WaitId) → wait_of (config_of g).stage ≡ Some w → HasStood old.channels new.floor w)
        → Stepped p old (at_poll new.floor j g)
    say a told call after noted stood =
        called p old.channels new.floor old.jobs j old.frame g line.Select told a (config_of g) hear l at (LineCalls.select told a call)
        after
        noted
        (select_mild p old.frame told a ok call) t refl stood

    by_answer : (answer : SelectAnswer) → SelectedAnswer (clauses_at p old.frame.tag (config_of old.frame))
        (channels_at old.channels old.frame) (channels_at new.floor g) held
        (Ok answer) → AfterSelect p old.frame.tag answer held (config_of old.frame) (config_of g)
        → Stepped p old (at_poll new.floor j g)
    by_answer (came_to.Chosen n o) m e =
        let call = chosen_call (clauses_at p old.frame.tag (config_of old.frame)) n o m.1.told m.1.goes in
        say call.0 m.1.told call.1 (after_chosen p old.frame.tag (config_of old.frame) (config_of g) call.0 o call.2 e) m.1.left
        (λ w k. no_more_wait w (sym (chosen_runs p old.frame.tag (config_of old.frame) (config_of g) o e) ∙ k))
    by_answer came_to.Waiting m e =
        let now : config_of g ≡ at_stage (Waiting m.0) (config_of old.frame) = e ∙ ap (λ o. waits_with o (config_of old.frame)) m.1 in
        say (Waits m.0) m.3.told m.3.goes (subst (After p old.frame.tag (config_of old.frame) line.Select (Waits m.0)) (sym now)
        (After.waits line.Select m.0)) m.3.left
        (λ w k. same_wait_stood old.channels new.floor m.0 w
        (record { moment = m.2.moment; after = m.2.after; before = m.2.before; holds = m.2.holds })
        (sym (ap (λ (z : Config). wait_of z.stage) now) ∙ k))
    by_answer came_to.Again m e =
        say LooksAgain m.2.told m.2.goes (subst (After p old.frame.tag (config_of old.frame) line.Select LooksAgain) (sym e)
        After.looks_again) m.2.left
        (λ w k. no_more_wait w (sym (ap wait_of at.stage) ∙ sym (ap (λ (z : Config). wait_of z.stage) e) ∙ k))
    by_answer came_to.Spent m e =
        say NoPlace m.1.told m.1.goes (subst (After p old.frame.tag (config_of old.frame) line.Select NoPlace) (sym e)
        (After.no_place line.Select))
        m.1.left
        (λ w k. no_more_wait w (sym (ap (λ (z : Config). wait_of z.stage) e) ∙ k))

-- ---- the lines behind a select

pub behind_select : (p : Program) (f : Frame) (code : List Instruction) → code ≡ code_of p f.tag
    → clauses_in (config_of f) (take (length code - (f.line + 1)) (drop (f.line + 1) code)) ≡ clauses_at p f.tag (config_of f)
behind_select p f code e = ap (clauses_in (config_of f)) (take_rest code (f.line + 1))
    ∙ ap (λ (ls : List Instruction). clauses_in (config_of f) (drop (f.line + 1) ls)) e

-- ---- on from a select

-- what closes a line stands behind it
closes_behind : (depth place : ℕ) (code : List Instruction) (e : ℕ) → closing_from depth place code ≡ Some e → place ≤ e
closes_behind depth place [] e h = cc
closes_behind depth place (x ∷ code) e h = by_end (is_end x) h (closes_behind (one_less depth) (place + 1) code e)
    (closes_behind (depth_after x depth) (place + 1) code e)
  where
    Later : ℕ → Type 0
    Later d = closing_from d (place + 1) code ≡ Some e → place + 1 ≤ e

    ended : (d : ℕ) (o : Option ℕ) → (o ≡ Some e → place + 1 ≤ e) → end_from d place o ≡ Some e → place ≤ e
    ended zero o later k = let same : place ≡ e = cc in omega (arith, same)
    ended (suc d) o later k = let behind = later k in omega (arith, behind)

    by_end : (b : Bool)
        → (if b then end_from depth place (closing_from (one_less depth) (place + 1) code) else closing_from (depth_after x depth)
        (place + 1) code) ≡ Some e → Later (one_less depth) → Later (depth_after x depth) → place ≤ e
    by_end true k later after = ended depth (closing_from (one_less depth) (place + 1) code) later k
    by_end false k later after = let behind = after k in omega (arith, behind)

past_apart : (p : Program) (k : ℕ) (x : Config) (e : ℕ) → closing_of (code_of p k) x.line ≡ Some e → e + 1 ≡ x.line → ⊥
past_apart p k x e h same = let behind = closes_behind 0 (x.line + 1) (drop (x.line + 1) (code_of p k)) e h in omega (arith, behind, same)

chosen_apart : (p : Program) (k : ℕ) (x y : Config) (o : Outcome) → AfterChosen p k o x y → y ≡ x → ⊥
chosen_apart p k x y outcome.Sent h e = past_apart p k x h.0 h.1 (ap (λ (z : Config). z.line) (sym h.2 ∙ e))
chosen_apart p k x y (outcome.Value v) h e = past_apart p k x h.0 h.1 (ap (λ (z : Config). z.line) (sym h.2 ∙ e))
chosen_apart p k x y (outcome.Closed v) h e = past_apart p k x h.0 h.1 (ap (λ (z : Config). z.line) (sym h.2 ∙ e))

chosen_sees_none : (p : Program) (k : ℕ) (x y : Config) (o : Outcome) → AfterChosen p k o x y → is_seeing y.stage ≡ false
chosen_sees_none p k x y outcome.Sent h = ap (λ (z : Config). is_seeing z.stage) h.2
chosen_sees_none p k x y (outcome.Value v) h = ap (λ (z : Config). is_seeing z.stage) h.2
chosen_sees_none p k x y (outcome.Closed v) h = ap (λ (z : Config). is_seeing z.stage) h.2

pub moves_on : (p : Program) (f g : Frame) (old new : SeenOnChannels) (calls : List Call) (held : Option WaitId) (answer : SelectAnswer)
    → SelectedAnswer calls old new held (Ok answer) → AfterSelect p f.tag answer held (config_of f) (config_of g)
    → MovesOn p old.floor f g
moves_on p f g old new calls held (came_to.Chosen q o) m e at =
    (chosen_sees_none p f.tag (config_of f) (config_of g) o e, λ alone same. chosen_apart p f.tag (config_of f) (config_of g) o e same)
moves_on p f g old new calls held came_to.Waiting m e at =
    let now : config_of g ≡ at_stage (Waiting m.0) (config_of f) = e ∙ ap (λ o. waits_with o (config_of f)) m.1 in (
      ap (λ (z : Config). is_seeing z.stage) now,
      λ alone same. let both_ways : Waiting m.0 ≡ Running =
          sym (ap (λ (z : Config). z.stage) now) ∙ ap (λ (z : Config). z.stage) same ∙ at.stage in cc,
    )
moves_on p f g old new calls held came_to.Again m e at =
    (ap (λ (z : Config). is_seeing z.stage) e ∙ ap is_seeing at.stage, λ alone same. m.1 alone)
moves_on p f g old new calls held came_to.Spent m e at = (
  ap (λ (z : Config). is_seeing z.stage) e,
  λ alone same. let both_ways : Unwinding (Some f.tag) ≡ Running =
      sym (ap (λ (z : Config). z.stage) e) ∙ ap (λ (z : Config). z.stage) same ∙ at.stage in cc,
)

pub run_moves : (p : Program) (c : ChannelFloor) (f g : Frame) (l : Instruction) (r : Result (Unit {0}) Memory)
    → IsAt p f.tag (config_of f) l → (l ≡ line.Select → OnOk r (MovesOn p c f g)) → OnOk r (MovesOn p c f g)
run_moves p c f g l (Ok done) is h = λ at. let same : l ≡ line.Select = some_same (sym is.line_is ∙ at.line_is) in h same at
  where
    some_same : {A : Type 0} {a b : A} → Some a ≡ Some b → a ≡ b
    some_same e = cc
run_moves p c f g l (Err x) is h = tt

-- where no line is left it is at no select
pub end_moves : (p : Program) (c : ChannelFloor) (f g : Frame) (code : List Instruction) (r : Result (Unit {0}) Memory)
    → code ≡ code_of p f.tag → length code ≤ f.line → OnOk r (MovesOn p c f g)
end_moves p c f g code (Ok done) e le = λ at.
    let lt = slice_get_within (code_of p f.tag) f.line line.Select at.line_is in
    absurd (let no_way : ⊥ = omega (arith, lt, le, ap length e) in no_way)
end_moves p c f g code (Err x) e le = tt

-- and behind the line
pub still_moves_on : (s : Script) (c : ChannelFloor) (f : Frame) (m b : SeenAtPoll) (r : Result Turn Memory) → WentOnAnswer s m b r
    → MovesOn (program_of s) c f m.frame → OnOk r (MovesOn (program_of s) c f b.frame)
still_moves_on s c f m b (Ok t) (WentOn.seen sees ready what) h = λ at. let both_ways : true ≡ false = sym sees ∙ (h at).0
    in absurd (let no_way : ⊥ = cc in no_way)
still_moves_on s c f m b (Ok t) (WentOn.answered same kept a) h = subst (MovesOn (program_of s) c f) (sym same) h
still_moves_on s c f m b (Err x) w h = tt
