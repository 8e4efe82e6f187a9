-- What a poll comes to that makes a move and then looks for an end, or at its coroutine.
use Rattle.std.specs.Prelude.{◌≡◌, ℕ, ◌⊎◌, Bool, true, false, ◌||◌, List, [], ◌∷◌, ◌++◌, Result, Ok, Err, OnOk, refl}
use Rattle.std.specs.List.{list_any}
use mathlib.Core.List.{IsPrefix}
use Rattle.std.proofs.Common.{sym, ap, ◌∙◌, subst, inl, inr, ⊎_elim, append_assoc}
use Rattle.std.proofs.lemmas.List.Folds.{list_any-append}
use Rattle.co_base.specs.declared.names.WaitId.{WaitId}
use Rattle.co_base.specs.declared.names.Memory.{Memory}
use Rattle.channel_model.specs.Floors.{Floor as ChannelFloor, Added as AddedToChannels}
use Rattle.channel_model.proofs.Spans as spans
use Rattle.job_model.specs.declared.acts.JobNote.TheVariants as known
use Rattle.job_model.specs.declared.acts.End.{End}
use Rattle.job_model.specs.Histories.{Legal}
use Rattle.job_model.specs.Floors.{Floor, Added}
use Rattle.job_model.proofs.Spans.{added_then, prefix_then}
use Rattle.note_book.specs.declared.book.Item.{Item}
use Rattle.note_book.specs.declared.book.Item.TheVariants as item
use Rattle.note_book.specs.Items.{channel_acts_in, job_acts_in}
use Rattle.note_book.proofs.Appended.{channel_acts_in-append, job_acts_in-append}
use Rattle.call_meaning.specs.Telling.{Told, items_in, saw_end}
use Rattle.call_meaning.specs.Seen.{SeenOnBoth}
use Rattle.call_meaning.specs.Calls.{ToldOnBoth, rows_in}
use Rattle.call_meaning.proofs.JobTellings.{items_in-append, both_then}
use Rattle.scope_builders.specs.Dones.{KeepsDones}
use Rattle.script_grammar.specs.Programs.{Program}
use Rattle.script_grammar.specs.WellFormed.{IsProgram}
use Rattle.script_reader.specs.declared.script.Script.{Script}
use Rattle.script_reader.specs.Scripts.{program_of}
use Rattle.script_meaning.specs.declared.stage.Stage.{Stage}
use Rattle.script_meaning.specs.declared.stage.Stage.TheVariants.{Fresh, Running, SeesJob, Leaving, SeesScope, Ended}
use Rattle.script_meaning.specs.declared.turn.Turn.{Turn}
use Rattle.script_meaning.specs.declared.turn.Turn.TheVariants as turn
use Rattle.script_meaning.specs.Shapes.{base_of}
use Rattle.script_meaning.specs.Configs.{Config, at_stage}
use Rattle.script_meaning.specs.Moves.{Move}
use Rattle.script_meaning.specs.Polls.{Turned, MovesOnce, RefusedByClaims, WaitsFor, HasStood, AsksAgain, is_seeing, is_no_row, is_used, is_parent_ended}
use Rattle.script_meaning.proofs.GentleNotes.{leaves_dones}
use Rattle.poll_states.specs.declared.jobs.OwnState.TheVariants as own
use Rattle.poll_states.specs.Frames.{Frame, config_of, items_of, SeenAtPoll, at_poll, both_of, Stands, StandsAt, IsStanding, IsUnmoved, seen_at, channels_at}
use Rattle.poll_states.specs.Steps.{Stepped, CutShort, OwnStateSeen, PolledTo, HasPolled, PollAnswer, AnsweredAfter}
use Rattle.poll_states.specs.SeenEnds.{HasSeen, NotYetSeen, Seen, WentOn, WentOnAnswer}
use Rattle.poll_states.proofs.Standing.{stands_fits}
use Rattle.poll_states.proofs.Moving.{Tells, AnswersTurn, tells_step, polled_to, rows_in-append}
use Rattle.poll_states.proofs.Turning.{claims_later, tells_later, answer_at, polled_still}
use Rattle.poll_states.proofs.Changing.{never_unmoved}
use Rattle.std.specs.List.{list_all}
use Rattle.channel_model.specs.declared.acts.Act.TheVariants.{Settle}
use Rattle.channel_model.specs.declared.acts.Settled.TheVariants as settled
use Rattle.channel_model.specs.Histories.{acts_of as channel_acts_of, Legal as LegalChannels}
use Rattle.channel_model.specs.Floors.{Looked as LookedAtChannels}
use Rattle.job_model.proofs.Spans.{added_looked, nothing_more}
use Rattle.call_meaning.specs.Telling.{on_jobs, MayRun, made}
use Rattle.call_meaning.specs.Calls.{ToldOnChannels}
use Rattle.call_meaning.specs.Endings.{ClosesAtOnce}
use Rattle.call_meaning.proofs.JobTellings.{both_channels}
use Rattle.channel_calls.specs.Calls.{IsUntouched, end_told}
use Rattle.scope_builders.proofs.DonesKept.{kept_then}
use Rattle.script_meaning.specs.Shapes.{floor_shape}
use Rattle.script_meaning.proofs.WaitsEnd.{scope_wait_ends}
use Rattle.script_meaning.proofs.GroupNotes.{settle_all, all_none}
use Rattle.poll_states.specs.Steps.{SeenWait}
use Rattle.call_meaning.specs.Orders.{IsToldOfJobs}
use Rattle.poll_states.specs.Heard.{HasHeardOf}
use Rattle.poll_states.specs.SeenEnds.{EndedScopeWait}
use Rattle.poll_states.proofs.DonesLeft.{unclosed_kept}
use Rattle.poll_states.proofs.QuietNotes.{is_quiet, quiet_allows}
use Rattle.poll_states.proofs.WaitsForEnds.{quiet_step}
use Rattle.poll_states.proofs.JobLines.{may_run_noted}
use Rattle.poll_states.proofs.Stepping.{both_at, dones_at, self_jobs, self_channels}
use Rattle.poll_states.proofs.Turning.{nothing_noted, cut_first}

-- ---- what a poll tells, and how it moved

pub record Turns (p : Program) (a b : SeenAtPoll) : Type 0 where
  pub told : List Told
  pub tells : Tells p a b told
  pub moves : MovesOnce p a.frame.tag (config_of a.frame) told (config_of b.frame)

pub step_turns : {p : Program} {a b : SeenAtPoll} → Stepped p a b → Turns p a b
step_turns {p} {a} {b} s = record {
  told = s.told;
  tells = tells_step s;
  moves =
      MovesOnce.once (config_of a.frame) (config_of b.frame) s.told s.move;
}

-- ---- one behind the other

rows_then : (xs ys : List Told) → rows_in (job_acts_in (items_in (xs ++ ys))) ≡ rows_in (job_acts_in (items_in xs))
    ++ rows_in (job_acts_in (items_in ys))
rows_then xs ys = ap (λ l. rows_in (job_acts_in l)) (items_in-append xs ys) ∙ ap rows_in (job_acts_in-append (items_in xs) (items_in ys))
    ∙ rows_in-append (job_acts_in (items_in xs)) (job_acts_in (items_in ys))

-- both parts are noted, and done channels are kept
noted_then : {p : Program} {a m b : SeenAtPoll} {xs ys : List Told} → Tells p a m xs → Tells p m b ys
    → ToldOnBoth (rows_in (job_acts_in (items_in (xs ++ ys)))) (both_of a) (both_of b) (xs ++ ys)
noted_then {p} {a} {m} {b} {xs} {ys} h n =
    subst (λ (r : List ℕ). ToldOnBoth r (both_of a) (both_of b) (xs ++ ys)) (sym (rows_then xs ys)) (both_then h.noted n.noted)

dones_then : {p : Program} {a m b : SeenAtPoll} {xs ys : List Told} → Tells p a m xs → Tells p m b ys
    → KeepsDones (base_of p) (both_of a) (both_of b) (items_in (xs ++ ys))
dones_then {p} {a} {m} {b} {xs} {ys} h n =
    subst (KeepsDones (base_of p) (both_of a) (both_of b)) (sym (items_in-append xs ys))
    (kept_then h.noted.channels.same.alone h.noted.jobs.same.alone h.dones n.dones)

-- ---- an end that is seen

or_false : (b : Bool) → (b || false) ≡ b
or_false true = refl
or_false false = refl

no_more_refused : (x : Config) (notes : List Item) (row : ℕ) (end : End) (j : Floor) → RefusedByClaims x notes j
    → RefusedByClaims x (notes ++ item.Job (known.SawEnd row end) ∷ []) j
no_more_refused x notes row end j h = record {
  no_row = λ e. h.no_row (sym (named is_no_row refl) ∙ e);
  used = λ e. h.used (sym (named is_used refl) ∙ e);
  none_ended = named is_parent_ended refl ∙ h.none_ended;
}
  where
    named : (test : Item → Bool) → test (item.Job (known.SawEnd row end)) ≡ false
        → list_any test (notes ++ item.Job (known.SawEnd row end) ∷ []) ≡ list_any test notes
    named test e = list_any-append test notes (item.Job (known.SawEnd row end) ∷ []) ∙ ap (λ b. list_any test notes || (b || false)) e
        ∙ or_false (list_any test notes)

items_seen : (xs : List Told) (row : ℕ) (end : End) → items_in (xs ++ saw_end row end ∷ []) ≡ items_in xs
    ++ item.Job (known.SawEnd row end) ∷ []
unfolding items_in
items_seen xs row end = items_in-append xs (saw_end row end ∷ [])

seen_adds : (who row : ℕ) (end : End) (j j' : Floor) → Added who (job_acts_in (items_in (saw_end row end ∷ [])))
    (rows_in (job_acts_in (items_in (saw_end row end ∷ [])))) j j' → Added who [] [] j j'
unfolding items_in rows_in
seen_adds who row end j j' h = h

pub seen_turns : {p : Program} {a m b : SeenAtPoll} → Stepped p a m → is_seeing m.frame.stage ≡ true → HasSeen p m b → Turns p a b
seen_turns {p} {a} {m} {b} first seeing seen =
    let k : ℕ = a.frame.tag in
    let x : Config = config_of a.frame in
    let y : Config = config_of m.frame in
    let z : Config = config_of b.frame in
    let last : List Told = saw_end seen.row seen.end ∷ [] in
    let saw : Stepped p m b = seen.step in
    let one : Tells p a m first.told = tells_step first in
    let two : Tells p m b last = subst (Tells p m b) seen.told_is (tells_step saw) in
    let told : List Told = first.told ++ last in
    let move : Move p k y last z = subst (λ t. Move p t y last z) first.tag
    (subst (λ t. Move p m.frame.tag y t z) seen.told_is saw.move) in
    let moves : MovesOnce p k x told z = MovesOnce.then_sees x y z first.told last told first.move seeing move refl in
    let looked : Added k [] [] m.jobs b.jobs = seen_adds k seen.row seen.end m.jobs b.jobs
    (subst (λ t. Added t (job_acts_in (items_in last)) (rows_in (job_acts_in (items_in last))) m.jobs b.jobs) first.tag two.noted.jobs) in
    record {
      told = told;
      tells = record {
        tag = saw.tag ∙ first.tag;
        turned = Turned.moved x z told moves;
        noted = noted_then one two;
        refused = subst (λ n. RefusedByClaims x n b.jobs) (sym (items_seen first.told seen.row seen.end))
            (no_more_refused x (items_in first.told) seen.row seen.end b.jobs
            (claims_later x (items_in first.told) k m.jobs b.jobs looked first.refused));
        dones = dones_then one two;
      };
      moves = moves;
    }

-- ---- a look behind

-- the frame was looked at, and is the same
pub turns_later : {p : Program} {a m : SeenAtPoll} (b : SeenAtPoll) → Legal b.jobs.shape b.jobs.seen → (t : Turns p a m)
    → Added m.frame.tag [] [] m.jobs b.jobs → b.channels ≡ m.channels → b.frame.tag ≡ m.frame.tag
    → config_of b.frame ≡ config_of m.frame → items_of b.frame ≡ items_of m.frame → Turns p a b
turns_later {p} {a} {m} b legal t look channels tag config items =
    let later : Tells p a (record m { jobs = b.jobs }) t.told = tells_later p a m b.jobs t.told legal t.tells
    (subst (λ n. Added n [] [] m.jobs b.jobs) t.tells.tag look) in
    let moves : MovesOnce p a.frame.tag (config_of a.frame) t.told (config_of b.frame) =
    subst (MovesOnce p a.frame.tag (config_of a.frame) t.told) (sym config) t.moves in
    let same : Tells p a (record b { channels = m.channels }) t.told = record {
      tag = tag ∙ later.tag;
      turned = Turned.moved (config_of a.frame) (config_of b.frame) t.told moves;
      noted = both_at b.frame later.noted (tag ∙ later.tag) items;
      refused = later.refused;
      dones = dones_at b.frame later.dones;
    } in
    record {
      told = t.told;
      tells = subst (λ d. Tells p a (record b { channels = d }) t.told) (sym channels) same;
      moves = moves;
    }

-- ---- a move, and what was done behind it

-- what a poll told that went on so, and its answer
pub record Answers (p : Program) (a b : SeenAtPoll) (answer : Turn) : Type 0 where
  pub turns : Turns p a b
  pub so : AnswersTurn p a b turns.told answer

never_over : (stage : Stage) → is_seeing stage ≡ true → stage ≡ Ended → ⊥
never_over stage e k = let u : false ≡ true = sym (ap is_seeing k) ∙ e in let no_way : ⊥ = cc in no_way

went_answers : {p : Program} {a m : SeenAtPoll} (l : Floor) (answer : Turn) → Legal l.shape l.seen → (s : Stepped p a m)
    → AnsweredAfter m.frame m.jobs l answer → Answers p a (record m { jobs = l }) answer
unfolding turns_later step_turns
went_answers {p} {a} {m} l answer legal s after = record {
  turns = turns_later (record m { jobs = l }) legal (step_turns s) after.looked refl refl refl refl;
  so = answer_at p a (record m { jobs = l }) m.jobs s.told m.frame.stage answer refl
      (MovesOnce.once (config_of a.frame) (config_of m.frame) s.told s.move) s.stood s.noted.jobs.longer after.so;
}

not_yet_answers : {p : Program} {a m b : SeenAtPoll} → Legal b.jobs.shape b.jobs.seen → Stepped p a m → is_seeing m.frame.stage ≡ true
    → NotYetSeen p m b → Answers p a b turn.Ready
not_yet_answers {p} {a} {m} {b} legal s seeing yet =
    let turns : Turns p a b = turns_later b legal (step_turns s) yet.looked yet.channels yet.tag yet.unmoved.config yet.unmoved.items in
    record {
      turns = turns;
      so = (
        never_over b.frame.stage (ap (λ (x : Config). is_seeing x.stage) yet.unmoved.config ∙ seeing),
        inl turns.moves,
      );
    }

pub went_on : {p : Program} {a m b : SeenAtPoll} (answer : Turn) → Legal b.jobs.shape b.jobs.seen → Stepped p a m → WentOn p m b answer
    → Answers p a b answer
went_on {p} {a} {m} {b} answer legal s (WentOn.answered same channels after) =
    subst (λ z. Answers p a (record b { frame = z }) answer) (sym same)
    (subst (λ z. Answers p a (record b { channels = z; frame = m.frame }) answer) (sym channels) (went_answers b.jobs answer legal s after))
went_on {p} {a} {m} {b} answer legal s (WentOn.seen seeing is what) =
    subst (Answers p a b) (sym is)
    (⊎_elim
    (λ (seen : HasSeen p m b). let turns : Turns p a b = seen_turns s seeing seen
    in let answered : Answers p a b turn.Ready = record { turns = turns; so = (seen.runs, inl turns.moves) } in answered)
    (λ (yet : NotYetSeen p m b). not_yet_answers legal s seeing yet)
    what)

pub polled_on : {p : Program} {a m b : SeenAtPoll} (answer : Turn) → Legal b.jobs.shape b.jobs.seen → StandsAt p a → Stepped p a m
    → WentOn p m b answer → HasPolled p a b answer
polled_on {p} {a} {m} {b} answer legal h s went = let all = went_on answer legal s went
    in polled_to p a b all.turns.told answer h all.turns.tells all.so

turns_quiet : {A : Type 0} {p : Program} {a b : SeenAtPoll} → IsProgram p → StandsAt p a → Turns p a b → IsUnmoved a.frame b.frame → A
turns_quiet {A} {p} {a} {b} ok h t u = never_unmoved p a.frame.tag a.frame b.frame t.told ok
    (stands_fits p a.channels a.jobs a.frame h) t.moves t.tells.noted.appended u

pub on_quiet : {A : Type 0} {p : Program} {a m b : SeenAtPoll} (answer : Turn) → IsProgram p → Legal b.jobs.shape b.jobs.seen → StandsAt p a
    → Stepped p a m → WentOn p m b answer → IsUnmoved a.frame b.frame → A
on_quiet answer ok legal h s went u = turns_quiet ok h (went_on answer legal s went).turns u

-- there was no memory to go on
pub cut_behind : {p : Program} {x y : SeenAtPoll} {b : SeenOnBoth} → Stepped p x y → CutShort (both_of y) b → CutShort (both_of x) b
cut_behind {p} {x} {y} {b} s n =
    let a : SeenOnBoth = both_of x in
    let m : SeenOnBoth = both_of y in
    record {
      who = n.who ∙ s.noted.who;
      group = items_in s.told ++ n.group;
      rows = rows_in (job_acts_in (items_in s.told)) ++ n.rows;
      appended = n.appended ∙ ap (λ l. l ++ n.group) s.noted.appended ∙ append_assoc a.items (items_in s.told) n.group;
      channels = subst (λ acts. AddedToChannels a.who acts a.channels b.channels) (sym (channel_acts_in-append (items_in s.told) n.group))
          (spans.added_then a.who (channel_acts_in (items_in s.told)) (channel_acts_in n.group) a.channels m.channels b.channels
          s.noted.channels (subst (λ t. AddedToChannels t (channel_acts_in n.group) m.channels b.channels) s.noted.who n.channels));
      jobs = subst (λ acts. Added a.who acts (rows_in (job_acts_in (items_in s.told)) ++ n.rows) a.jobs b.jobs)
          (sym (job_acts_in-append (items_in s.told) n.group))
          (added_then a.who (job_acts_in (items_in s.told)) (job_acts_in n.group) (rows_in (job_acts_in (items_in s.told))) n.rows a.jobs
          m.jobs b.jobs s.noted.jobs (subst (λ t. Added t (job_acts_in n.group) n.rows m.jobs b.jobs) s.noted.who n.jobs));
    }

-- ---- the first line

stood_earlier : (c m c' : ChannelFloor) (w : WaitId) → IsPrefix c.seen m.seen → HasStood m c' w → HasStood c c' w
stood_earlier c m c' w longer stood = record {
  moment = stood.moment;
  after = spans.prefix_then c.seen m.seen stood.moment longer stood.after;
  before = stood.before;
  holds = stood.holds;
}

earlier : (c m c' : ChannelFloor) (a b j' : Floor) (k : ℕ) (x : Config) → IsPrefix c.seen m.seen → IsPrefix a.seen b.seen
    → WaitsFor m c' b j' k x → WaitsFor c c' a j' k x
earlier c m c' a b j' k x long longer (WaitsFor.waits w e stood runs) =
    WaitsFor.waits w e (stood_earlier c m c' w long stood) (record {
      moment = runs.moment;
      after = prefix_then a.seen b.seen runs.moment longer runs.after;
      before = runs.before;
      holds = runs.holds;
    })
earlier c m c' a b j' k x long longer (WaitsFor.leaves w e stood) = WaitsFor.leaves w e (stood_earlier c m c' w long stood)
earlier c m c' a b j' k x long longer (WaitsFor.not_started e none) =
    WaitsFor.not_started e (record {
      moment = none.moment;
      after = prefix_then a.seen b.seen none.moment longer none.after;
      before = none.before;
      holds = none.holds;
    })

answer_earlier : (p : Program) (a m b : SeenAtPoll) (all told : List Told) (answer : Turn) → IsPrefix a.channels.seen m.channels.seen
    → IsPrefix a.jobs.seen m.jobs.seen
    → MovesOnce p a.frame.tag (config_of a.frame) all (config_of b.frame) → AnswersTurn p m b told answer
    → AnswersTurn p a b all answer
answer_earlier p a m b all told turn.Ended long longer moves so = so
answer_earlier p a m b all told turn.Waits long longer moves so = earlier a.channels m.channels b.channels a.jobs m.jobs b.jobs b.frame.tag
    (config_of b.frame) long longer so
answer_earlier p a m b all told turn.Ready long longer moves so = (so.0, inl moves)

-- the coroutine of a saw its Job running, and m is at its first line
pub record Begins (a m : SeenAtPoll) : Type 0 where
  pub heard : IsToldOfJobs a.frame.tag a.channels m.channels m.jobs
  pub legal : Legal m.jobs.shape m.jobs.seen
  pub fresh : a.frame.stage ≡ Fresh
  pub runs : OwnStateSeen a.frame.tag a.frame.tag a.jobs m.jobs own.MayRun
  pub tag : m.frame.tag ≡ a.frame.tag
  pub config : config_of m.frame ≡ at_stage Running (config_of a.frame)
  pub items : items_of m.frame ≡ items_of a.frame

-- its Job was seen running
begun_tells : (p : Program) (a m : SeenAtPoll) → Begins a m → Tells p a m (on_jobs (MayRun a.frame.tag) ∷ [])
unfolding items_in rows_in
begun_tells p a m h =
    let k : ℕ = a.frame.tag in
    let x : Config = config_of a.frame in
    let first : List Told = on_jobs (MayRun k) ∷ [] in
    record {
      tag = h.tag;
      turned = Turned.moved x (config_of m.frame) _ (MovesOnce.once x (config_of m.frame) _
          (subst (Move p k x first) (sym h.config) (Move.runs x h.fresh)));
      noted = may_run_noted a.channels m.channels a.jobs m.jobs a.frame m.frame k h.heard h.runs h.tag h.items;
      refused = record { no_row = λ e. absurd (let u : ⊥ = cc in u); used = λ e. absurd (let u : ⊥ = cc in u); none_ended = refl };
      dones = unclosed_kept k (base_of p) [] [] [] (both_of a) (both_of m) [] h.legal
          (spans.added_looked k a.channels m.channels h.heard.looked) refl (added_looked k [] a.jobs m.jobs h.runs.looked) tt;
    }

no_items : (k : ℕ) (told : List Told) → items_in (on_jobs (MayRun k) ∷ told) ≡ items_in told
unfolding items_in
no_items k told = refl

pub first_turns : {p : Program} {a m b : SeenAtPoll} → Begins a m → (t : Turns p m b) → Turns p a b
first_turns {p} {a} {m} {b} h t =
    let k : ℕ = a.frame.tag in
    let x : Config = config_of a.frame in
    let first : List Told = on_jobs (MayRun k) ∷ [] in
    let begun : Tells p a m first = begun_tells p a m h in
    let told : List Told = on_jobs (MayRun k) ∷ t.told in
    let move : Move p k x first (config_of m.frame) = subst (Move p k x first) (sym h.config) (Move.runs x h.fresh) in
    let moves : MovesOnce p k x told (config_of b.frame) =
    MovesOnce.first x (config_of m.frame) (config_of b.frame) first t.told told h.fresh move (ap (λ (y : Config). y.stage) h.config)
    (subst (λ n. MovesOnce p n (config_of m.frame) t.told (config_of b.frame)) h.tag t.moves) refl in
    record {
      told = told;
      tells = record {
        tag = t.tells.tag ∙ h.tag;
        turned = Turned.moved x (config_of b.frame) told moves;
        noted = noted_then begun t.tells;
        refused = subst (λ n. RefusedByClaims x n b.jobs) (sym (no_items k t.told))
            (same_free x (subst (λ y. RefusedByClaims y (items_in t.told) b.jobs) h.config t.tells.refused));
        dones = dones_then begun t.tells;
      };
      moves = moves;
    }
  where
    same_free : (x : Config) → RefusedByClaims (at_stage Running x) (items_in t.told) b.jobs → RefusedByClaims x (items_in t.told) b.jobs
    same_free x h = record { no_row = h.no_row; used = h.used; none_ended = h.none_ended }

-- and what was done behind the first line
first_answers : {p : Program} {a m n b : SeenAtPoll} (answer : Turn) → Legal b.jobs.shape b.jobs.seen → Begins a m → Stepped p m n
    → WentOn p n b answer → Answers p a b answer
unfolding first_turns
first_answers {p} {a} {m} {n} {b} answer legal h line went =
    let behind : Answers p m b answer = went_on answer legal line went in
    let all : Turns p a b = first_turns h behind.turns in
    record {
      turns = all;
      so = answer_earlier p a m b all.told behind.turns.told answer h.heard.looked.longer h.runs.looked.longer all.moves behind.so;
    }

-- there was no memory to go on behind the first line
pub cut_first_behind : {p : Program} {a m n : SeenAtPoll} (b : SeenAtPoll) → Begins a m → Stepped p m n → CutShort (both_of n) (both_of b)
    → CutShort (both_of a) (both_of b)
cut_first_behind b h line cut = cut_first h.runs h.heard h.tag h.items (cut_behind line cut)

-- ---- a turn that looks for an end, or at a wait at the end of a scope

pub see_polled : {p : Program} {a b : SeenAtPoll} → Legal b.jobs.shape b.jobs.seen → StandsAt p a → is_seeing a.frame.stage ≡ true
    → Seen p a b → HasPolled p a b turn.Ready
see_polled {p} {a} {b} legal h seeing what =
    ⊎_elim
    (λ (seen : HasSeen p a b). let t = step_turns seen.step in polled_to p a b t.told turn.Ready h t.tells (seen.runs, inl t.moves))
    (λ (yet : NotYetSeen p a b).
    polled_still p a b turn.Ready legal h yet.tag yet.unmoved.config yet.unmoved.items
    (subst (AddedToChannels a.frame.tag [] a.channels) (sym yet.channels) (self_channels a.frame.tag a.channels)) yet.looked (
      never_over b.frame.stage (ap (λ (x : Config). is_seeing x.stage) yet.unmoved.config ∙ seeing),
      inr (subst (AsksAgain p a.jobs b.jobs a.frame.tag) (sym yet.unmoved.config) yet.again),
    ))
    what

-- the wait at the end of a scope stands
pub leave_waits : (p : Program) (c d : ChannelFloor) (j : Floor) (f g : Frame) (w : WaitId) → Legal j.shape j.seen → Stands p c j f
    → f.stage ≡ Leaving w → SeenWait f.tag w c d false → g.tag ≡ f.tag → config_of g ≡ config_of f → items_of g ≡ items_of f
    → PolledTo p c d j j f g turn.Waits
leave_waits p c d j f g w l h e seen t config items =
    polled_still p (at_poll c j f) (at_poll d j g) turn.Waits l h t config items (spans.added_looked f.tag c d seen.looked)
    (self_jobs f.tag j)
    (WaitsFor.leaves w (ap (λ (x : Config). x.stage) config ∙ e) seen.so)

no_closes : (base : ℕ) (w : WaitId) (v : ℕ) → list_all (leaves_dones base)
    (channel_acts_in (items_in (made (Settle w (settled.Closed 0 v)) ∷ []))) ≡ true
unfolding items_in
no_closes base w v = refl

no_finish : (base : ℕ) (w : WaitId) (v : ℕ) → ClosesAtOnce base (items_in (made (Settle w (settled.Closed 0 v)) ∷ []))
unfolding items_in
no_finish base w v = (tt, tt)

-- it ended
pub scope_waited : (p : Program) (c d c' : ChannelFloor) (j j' : Floor) (f g : Frame) (w : WaitId) → LegalChannels d.shape d.seen
    → Legal j'.shape j'.seen → Stands p c j f → f.stage ≡ Leaving w → LookedAtChannels f.tag c d
    → EndedScopeWait w (channels_at d f) (channels_at c' g) f g → g.tag ≡ f.tag → HasHeardOf f.tag c' j j'
    → Stepped p (at_poll c j f) (at_poll c' j' g)
scope_waited p c d c' j j' f g w l lj h e look end t hear =
    let legal : LegalChannels (floor_shape p) d.seen = subst (λ s. LegalChannels s d.seen) (look.same.shape ∙ h.on.channels) l in
    let acts : channel_acts_of f.tag d.seen ≡ channel_acts_in (items_in h.on.runs.told) = look.mine ∙ h.on.channel_acts
    ∙ ap channel_acts_in (sym h.on.runs.written) in
    let closed = scope_wait_ends p f.tag h.on.runs.told (config_of f) w d.seen end.outcome h.on.runs.reaches e legal acts end.ends in
    let told : List Told = made (Settle w (settled.Closed 0 closed.0)) ∷ [] in
    let noted : ToldOnChannels (channels_at d f) (channels_at c' g) told =
    subst (λ o. ToldOnChannels (channels_at d f) (channels_at c' g) (end_told w false o)) closed.1 end.noted in
    quiet_step p c c' j j' f g told (at_stage SeesScope (config_of f)) (Move.scope_ended (config_of f) w 0 closed.0 e)
    (looked_noted told noted)
    (unclosed_kept f.tag (base_of p) _ [] [] (seen_at c j f) (seen_at c' j' g) _ lj (looked_added c d c' f g told look noted)
    (no_closes (base_of p) w closed.0) (added_looked f.tag [] j j' hear.looked) (no_finish (base_of p) w closed.0))
    (settle_all is_quiet quiet_allows w (settled.Closed 0 closed.0) [] (all_none is_quiet)) t end.config
    (λ u k. absurd (let n : ⊥ = cc in n))
  where
    looked_noted : (told : List Told) → ToldOnChannels (channels_at d f) (channels_at c' g) told
        → ToldOnBoth [] (seen_at c j f) (seen_at c' j' g) told
    looked_noted told noted =
        let first : ToldOnBoth [] (seen_at c j f) (seen_at d j f) [] =
        nothing_noted c d j j f f (spans.added_looked f.tag c d look) (self_jobs f.tag j) refl refl in
        let second : ToldOnBoth [] (seen_at d j f) (seen_at c' j' g) told =
        both_channels (added_looked f.tag [] j j' hear.looked) hear.heard noted in
        both_then first second

    looked_added : (c d c' : ChannelFloor) (f g : Frame) (told : List Told) → LookedAtChannels f.tag c d
        → ToldOnChannels (channels_at d f) (channels_at c' g) told → AddedToChannels f.tag (channel_acts_in (items_in told)) c c'
    looked_added c d c' f g told look noted = spans.added_then f.tag [] (channel_acts_in (items_in told)) c d c'
        (spans.added_looked f.tag c d look) noted.added

-- there was no memory to end it
pub cut_scope_wait : {a b : SeenOnBoth} (d : ChannelFloor) (n w : ℕ) → LookedAtChannels a.who a.channels d → b.jobs ≡ a.jobs
    → IsUntouched (record { who = n; floor = d; items = a.items }) (record { who = w; floor = b.channels; items = b.items }) → b.who ≡ a.who
    → CutShort a b
cut_scope_wait {a} {b} d n w look same h t = record {
  who = t;
  group = [];
  rows = [];
  appended = h.book ∙ sym (nothing_more a.items);
  channels = subst (AddedToChannels a.who [] a.channels) (sym h.floor) (spans.added_looked a.who a.channels d look);
  jobs = subst (Added a.who [] [] a.jobs) (sym same) (self_jobs a.who a.jobs);
}

-- ---- whatever comes

pub poll_on : (s : Script) {a m : SeenAtPoll} (b : SeenAtPoll) (r : Result Turn Memory) → Legal b.jobs.shape b.jobs.seen → IsStanding s a
    → Stepped (program_of s) a m → WentOnAnswer s m b r → PollAnswer s a b r
poll_on s b (Ok answer) legal h step went = polled_on answer legal h step went
poll_on s b (Err memory) legal h step cut = cut_behind step cut

pub quiet_on : (A : Type 0) (s : Script) {a m : SeenAtPoll} (b : SeenAtPoll) (r : Result Turn Memory) → Legal b.jobs.shape b.jobs.seen
    → IsStanding s a
    → Stepped (program_of s) a m → WentOnAnswer s m b r → OnOk r (IsUnmoved a.frame b.frame → A)
quiet_on A s b (Ok answer) legal h step went = λ u. on_quiet answer s.well_formed legal h step went u
quiet_on A s b (Err memory) legal h step cut = tt

pub poll_first_on : (s : Script) {a m n : SeenAtPoll} (b : SeenAtPoll) (r : Result Turn Memory) → Legal b.jobs.shape b.jobs.seen
    → IsStanding s a
    → Stepped (program_of s) m n → WentOnAnswer s n b r → Begins a m → PollAnswer s a b r
poll_first_on s {a} b (Ok answer) legal h line went begins =
    let all : Answers (program_of s) a b answer = first_answers answer legal begins line went
    in polled_to (program_of s) a b all.turns.told answer h all.turns.tells all.so
poll_first_on s b (Err memory) legal h line cut begins = cut_first_behind b begins line cut

pub quiet_first_on : (A : Type 0) (s : Script) {a m n : SeenAtPoll} (b : SeenAtPoll) (r : Result Turn Memory)
    → Legal b.jobs.shape b.jobs.seen
    → IsStanding s a → Stepped (program_of s) m n → WentOnAnswer s n b r → Begins a m → OnOk r (IsUnmoved a.frame b.frame → A)
quiet_first_on A s b (Ok answer) legal h line went begins =
    λ u. turns_quiet s.well_formed h (first_answers answer legal begins line went).turns u
quiet_first_on A s b (Err memory) legal h line cut begins = tt

-- ---- stages at which an end is still to be seen

pub sees_end : (stage : Stage) → (stage ≡ SeesJob) ⊎ (stage ≡ SeesScope) → is_seeing stage ≡ true
sees_end stage which = ⊎_elim (λ e. ap is_seeing e) (λ e. ap is_seeing e) which
