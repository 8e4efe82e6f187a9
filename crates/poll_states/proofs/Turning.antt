-- What a poll comes to.
use Rattle.std.specs.Prelude.{◌≡◌, ℕ, true, false, List, [], ◌++◌, Option, Some, None, is_some, refl}
use mathlib.Core.List.{IsPrefix}
use Rattle.std.proofs.Common.{sym, ap, ◌∙◌, subst, inl, ⊎_elim}
use Rattle.co_base.specs.declared.names.WaitId.{WaitId}
use Rattle.channel_model.specs.Floors.{Floor as ChannelFloor, Added as AddedToChannels}
use Rattle.channel_model.proofs.Spans as spans
use Rattle.job_model.specs.Histories.{Legal}
use Rattle.job_model.specs.Trees.{Shape}
use Rattle.job_model.specs.Floors.{Floor, Added, AtStep}
use Rattle.job_model.proofs.Spans.{added_looked, added_then, prefix_then, nothing_more}
use Rattle.note_book.specs.declared.book.Item.{Item}
use Rattle.note_book.specs.Items.{channel_acts_in, job_acts_in}
use Rattle.call_meaning.specs.Telling.{Told, items_in}
use Rattle.call_meaning.specs.Facts.{IsRunning}
use Rattle.call_meaning.specs.Seen.{SeenOnBoth}
use Rattle.call_meaning.specs.Calls.{ToldOnBoth, rows_in}
use Rattle.call_meaning.proofs.JobTellings.{both_then}
use Rattle.call_meaning.proofs.HeardCalls.{both_nothing}
use Rattle.scope_builders.specs.Dones.{KeepsDones}
use Rattle.scope_builders.proofs.DonesKept.{kept_then}
use Rattle.script_grammar.specs.Programs.{Program}
use Rattle.script_grammar.specs.WellFormed.{IsProgram}
use Rattle.script_meaning.specs.declared.stage.Stage.{Stage}
use Rattle.script_meaning.specs.declared.stage.Stage.TheVariants.{Fresh, Running, Waiting, SeesJob, Unwinding, Leaving, SeesScope, Ended}
use Rattle.script_meaning.specs.declared.turn.Turn.{Turn}
use Rattle.script_meaning.specs.declared.turn.Turn.TheVariants as turn
use Rattle.script_meaning.specs.Shapes.{base_of}
use Rattle.script_meaning.specs.Configs.{Config, innermost, at_stage}
use Rattle.script_meaning.specs.Idle.{IsNotStarted}
use Rattle.script_meaning.specs.Polls.{Turned, MovesOnce, RefusedByClaims, WaitsFor, HasStood}
use Rattle.poll_states.specs.declared.jobs.OwnState.TheVariants as own
use Rattle.script_meaning.specs.Laws.{wait_of}
use Rattle.script_meaning.specs.Bodies.{is_over}
use Rattle.poll_states.specs.Frames.{Frame, config_of, items_of, SeenAtPoll, at_poll, both_of, Stands, StandsAt, IsUnmoved, seen_at}
use Rattle.poll_states.specs.Steps.{Stepped, CutShort, OwnStateSeen, SeenBoth, PolledTo, HasPolled, IsAnswerAt}
use Rattle.call_meaning.specs.Orders.{IsToldOfJobs}
use Rattle.poll_states.proofs.BothSeen.{channels_since, state_since}
use Rattle.poll_states.proofs.Standing.{stands_fits}
use Rattle.poll_states.proofs.Changing.{never_unmoved}
use Rattle.poll_states.proofs.DonesLeft.{unclosed_kept}
use Rattle.poll_states.proofs.Moving.{Tells, AnswersTurn, tells_step, step_stands, polled_to}
use Rattle.poll_states.proofs.Stepping.{self_jobs, self_channels}
use Rattle.poll_states.proofs.JobLines.{has_begun}

-- ---- looks

-- nothing was told, while who made no entry
pub nothing_noted : (c d : ChannelFloor) (a b : Floor) (f g : Frame) → AddedToChannels f.tag [] c d → Added f.tag [] [] a b → g.tag ≡ f.tag
    → items_of g ≡ items_of f → ToldOnBoth [] (seen_at c a f) (seen_at d b g) []
nothing_noted c d a b f g h m t e = both_nothing h m t e

-- what was claimed stays claimed
pub claims_later : (x : Config) (notes : List Item) (who : ℕ) (a b : Floor) → Added who [] [] a b → RefusedByClaims x notes a
    → RefusedByClaims x notes b
claims_later x notes who a b h m = record {
  no_row = λ e r lo hi. still r (m.no_row e r (rw (sym (ap (λ (s : Shape). s.coroutines) h.same.shape)) lo)
      (rw (sym (ap (λ (s : Shape). s.rows) h.same.shape)) hi));
  used = λ e. still x.free (m.used e);
  none_ended = m.none_ended;
}
  where
    still : (r : ℕ) → is_some (a.claims r) ≡ true → is_some (b.claims r) ≡ true
    still r e = by_claim (a.claims r) refl e
      where
        by_claim : (o : Option ℕ) → a.claims r ≡ o → is_some o ≡ true → is_some (b.claims r) ≡ true
        by_claim None k q = absurd (let u : ⊥ = cc in u)
        by_claim (Some t) k q = ap is_some (h.claims.kept r t k)

-- a look at the Jobs after what was told
pub tells_later : (p : Program) (a m : SeenAtPoll) (l : Floor) (told : List Told) → Legal l.shape l.seen → Tells p a m told
    → Added a.frame.tag [] [] m.jobs l → Tells p a (record m { jobs = l }) told
tells_later p a m l told legal s look =
    let b : SeenAtPoll = record m { jobs = l } in
    let g : Frame = m.frame in
    let own : Added g.tag [] [] m.jobs l = subst (λ n. Added n [] [] m.jobs l) (sym s.tag) look in
    record {
      tag = s.tag;
      turned = s.turned;
      noted =
          let rows : List ℕ = rows_in (job_acts_in (items_in told)) in
          subst (λ (r : List ℕ). ToldOnBoth r (both_of a) (both_of b) told) (nothing_more rows)
          (subst (λ (t : List Told). ToldOnBoth (rows ++ []) (both_of a) (both_of b) t) (nothing_more told)
          (both_then s.noted (nothing_noted m.channels m.channels m.jobs l g g (self_channels g.tag m.channels) own refl refl)));
      refused = claims_later (config_of a.frame) (items_in told) a.frame.tag m.jobs l look s.refused;
      dones = subst (λ (n : List Item). KeepsDones (base_of p) (both_of a) (both_of b) n) (nothing_more (items_in told))
          (kept_then s.noted.channels.same.alone s.noted.jobs.same.alone s.dones
          (unclosed_kept g.tag (base_of p) [] [] [] (both_of m) (both_of b) [] legal (self_channels g.tag m.channels) refl own tt));
    }

-- ---- what is answered

pub not_end : (stage which : Stage) → is_over which ≡ false → stage ≡ which → stage ≡ Ended → ⊥
not_end stage which o e u = let v : is_over Ended ≡ false = ap is_over (sym u ∙ e) ∙ o in let w : true ≡ false = v in cc

-- what is answered after a line that made a move, and after a look at the Jobs since then
pub answer_at : (p : Program) (a b : SeenAtPoll) (k : Floor) (told : List Told) (stage : Stage) (answer : Turn) → b.frame.stage ≡ stage
    → MovesOnce p a.frame.tag (config_of a.frame) told (config_of b.frame)
    → ((w : WaitId) → wait_of b.frame.stage ≡ Some w → HasStood a.channels b.channels w) → IsPrefix a.jobs.seen k.seen
    → IsAnswerAt (innermost b.frame.tag (config_of b.frame)) stage k b.jobs answer → AnswersTurn p a b told answer
answer_at p a b k told Fresh answer e m stood longer so =
    subst (AnswersTurn p a b told) (sym so) (not_end b.frame.stage Fresh refl e, inl m)
answer_at p a b k told Running answer e m stood longer so =
    subst (AnswersTurn p a b told) (sym so) (not_end b.frame.stage Running refl e, inl m)
answer_at p a b k told (Waiting w) answer e m stood longer so =
    ⊎_elim
    (λ q. subst (AnswersTurn p a b told) (sym q.0) (not_end b.frame.stage (Waiting w) refl e, inl m))
    (λ q. subst (AnswersTurn p a b told) (sym q.0)
    (WaitsFor.waits w e (stood w (ap wait_of e)) (record {
      moment = q.1.moment;
      after =
          prefix_then a.jobs.seen k.seen q.1.moment longer q.1.after;
      before = q.1.before;
      holds = q.1.holds;
    })))
    so
answer_at p a b k told SeesJob answer e m stood longer so =
    subst (AnswersTurn p a b told) (sym so) (not_end b.frame.stage SeesJob refl e, inl m)
answer_at p a b k told (Unwinding failure) answer e m stood longer so =
    subst (AnswersTurn p a b told) (sym so) (not_end b.frame.stage (Unwinding failure) refl e, inl m)
answer_at p a b k told (Leaving w) answer e m stood longer so =
    subst (AnswersTurn p a b told) (sym so) (WaitsFor.leaves w e (stood w (ap wait_of e)))
answer_at p a b k told SeesScope answer e m stood longer so =
    subst (AnswersTurn p a b told) (sym so) (not_end b.frame.stage SeesScope refl e, inl m)
answer_at p a b k told Ended answer e m stood longer so = subst (AnswersTurn p a b told) (sym so) e

once : {p : Program} {a b : SeenAtPoll} → (s : Stepped p a b) → MovesOnce p a.frame.tag (config_of a.frame) s.told (config_of b.frame)
once {p} {a} {b} s = MovesOnce.once (config_of a.frame) (config_of b.frame) s.told s.move

-- ---- polls of one move

-- a move after which it is polled again
pub polled_ready : {p : Program} {a b : SeenAtPoll} {stage : Stage} → StandsAt p a → Stepped p a b → b.frame.stage ≡ stage
    → is_over stage ≡ false → HasPolled p a b turn.Ready
polled_ready {p} {a} {b} {stage} h s e o =
    polled_to p a b s.told turn.Ready h (tells_step s) (not_end b.frame.stage stage o e, inl (once s))

-- ---- a poll without a move

pub polled_still : (p : Program) (a b : SeenAtPoll) (answer : Turn) → Legal b.jobs.shape b.jobs.seen → StandsAt p a
    → b.frame.tag ≡ a.frame.tag → config_of b.frame ≡ config_of a.frame → items_of b.frame ≡ items_of a.frame
    → AddedToChannels a.frame.tag [] a.channels b.channels → Added a.frame.tag [] [] a.jobs b.jobs → AnswersTurn p a b [] answer
    → HasPolled p a b answer
unfolding items_in rows_in
polled_still p a b answer l h t config items channels jobs so =
    polled_to p a b [] answer h (record {
      tag = t;
      turned = subst (Turned p a.frame.tag (config_of a.frame) []) (sym config) (Turned.still (config_of a.frame));
      noted = nothing_noted a.channels b.channels a.jobs b.jobs a.frame b.frame channels jobs t items;
      refused = record { no_row = λ e. absurd (let u : ⊥ = cc in u); used = λ e. absurd (let u : ⊥ = cc in u); none_ended = refl };
      dones = unclosed_kept a.frame.tag (base_of p) [] [] [] (both_of a) (both_of b) [] l channels refl jobs tt;
    })
    so

-- the body has ended
pub polled_ended : (p : Program) (c : ChannelFloor) (j : Floor) (f : Frame) → Legal j.shape j.seen → Stands p c j f → f.stage ≡ Ended
    → PolledTo p c c j j f f turn.Ended
polled_ended p c j f l h e = polled_still p (at_poll c j f) (at_poll c j f) turn.Ended l h refl refl refl (self_channels f.tag c)
    (self_jobs f.tag j) e

-- the wait stands, and the Job runs
pub polled_waits : {p : Program} {c d' : ChannelFloor} {a b : Floor} {f g : Frame} {w : WaitId} → Legal b.shape b.seen → Stands p c a f
    → f.stage ≡ Waiting w → SeenBoth f.tag w (innermost f.tag (config_of f)) c d' a b false own.MayRun → g.tag ≡ f.tag
    → config_of g ≡ config_of f → items_of g ≡ items_of f → PolledTo p c d' a b f g turn.Waits
polled_waits {p} {c} {d'} {a} {b} {f} {g} {w} l h e s t config items =
    polled_still p (at_poll c a f) (at_poll d' b g) turn.Waits l h t config items
    (spans.added_looked f.tag c d' (channels_since s)) (added_looked f.tag [] a b (state_since s).looked)
    (WaitsFor.waits w (ap (λ (x : Config). x.stage) config ∙ e)
    (spans.moment_within c c s.channels d' _ (spans.prefix_self c.seen) s.wait.so s.told.looked.longer)
    (subst (λ k. AtStep a b (λ tree. IsRunning (tree (innermost k (config_of g))))) (sym t)
    (subst (λ x. AtStep a b (λ tree. IsRunning (tree (innermost f.tag x)))) (sym config) (state_since s).was)))

-- the own Job was not attached, or New
pub polled_idle : (p : Program) (c : ChannelFloor) (a b : Floor) (f g : Frame) → Legal b.shape b.seen → Stands p c a f → f.stage ≡ Fresh
    → OwnStateSeen f.tag f.tag a b own.NotStarted → g.tag ≡ f.tag → config_of g ≡ config_of f → items_of g ≡ items_of f
    → PolledTo p c c a b f g turn.Waits
polled_idle p c a b f g l h e s t config items =
    polled_still p (at_poll c a f) (at_poll c b g) turn.Waits l h t config items (self_channels f.tag c)
    (added_looked f.tag [] a b s.looked)
    (WaitsFor.not_started (ap (λ (x : Config). x.stage) config ∙ e) (subst (λ k. AtStep a b (λ tree. IsNotStarted (tree k))) (sym t) s.was))

-- ---- the first line

-- the coroutine began
pub first_stands : (p : Program) (c d : ChannelFloor) (a b : Floor) (f m : Frame) → IsToldOfJobs f.tag c d b → Legal b.shape b.seen
    → Stands p c a f → f.stage ≡ Fresh
    → OwnStateSeen f.tag f.tag a b own.MayRun → m.tag ≡ f.tag → config_of m ≡ at_stage Running (config_of f) → items_of m ≡ items_of f
    → Stands p d b m
first_stands p c d a b f m told l h fresh s t config items = step_stands {a = at_poll c a f} {b = at_poll d b m} h
    (has_begun p c d a b f m told l fresh s t config items)

-- there was no memory for the first line
pub cut_first : {a m b : SeenOnBoth} → OwnStateSeen a.who a.who a.jobs m.jobs own.MayRun → IsToldOfJobs a.who a.channels m.channels m.jobs
    → m.who ≡ a.who → m.items ≡ a.items → CutShort m b → CutShort a b
cut_first {a} {m} {b} s told t items cut = record {
  who = cut.who ∙ t;
  group = cut.group;
  rows = cut.rows;
  appended = cut.appended ∙ ap (λ l. l ++ cut.group) items;
  channels = spans.added_then a.who [] (channel_acts_in cut.group) a.channels m.channels b.channels
      (spans.added_looked a.who a.channels m.channels told.looked)
      (subst (λ k. AddedToChannels k (channel_acts_in cut.group) m.channels b.channels) t cut.channels);
  jobs = added_then a.who [] (job_acts_in cut.group) [] cut.rows a.jobs m.jobs b.jobs (added_looked a.who [] a.jobs m.jobs s.looked)
      (subst (λ k. Added k (job_acts_in cut.group) cut.rows m.jobs b.jobs) t cut.jobs);
}

-- ---- after a move nothing is left unmoved

pub step_quiet : {A : Type 0} {p : Program} {a b : SeenAtPoll} → IsProgram p → StandsAt p a → Stepped p a b
    → IsUnmoved a.frame b.frame → A
step_quiet {A} {p} {a} {b} ok h s u = never_unmoved p a.frame.tag a.frame b.frame s.told ok (stands_fits p a.channels a.jobs a.frame h)
    (once s) s.noted.appended u
