-- A coroutine that stands goes on to stand after what it told.
use Rattle.std.specs.Prelude.{◌≡◌, ℕ, ◌<◌, ◌==◌, Bool, true, ◌||◌, List, [], ◌∷◌, ◌++◌, refl, if◌then◌else◌}
use Rattle.std.proofs.Common.{sym, ap, ◌∙◌, subst, append_assoc}
use Rattle.co_base.specs.Orders.{Side}
use Rattle.channel_model.specs.Histories.{acts_of}
use Rattle.job_model.specs.declared.acts.JobAct.{JobAct}
use Rattle.job_model.specs.Trees.{is_among}
use Rattle.job_model.specs.Histories.{acts_of as job_acts_of}
use Rattle.job_model.specs.Floors.{is_claimed_by}
use Rattle.job_model.proofs.Spans.{among-append}
use Rattle.note_book.specs.declared.book.Item.{Item}
use Rattle.note_book.specs.Items.{channel_acts_in, job_acts_in}
use Rattle.note_book.proofs.Appended.{channel_acts_in-append, job_acts_in-append}
use Rattle.call_meaning.specs.Telling.{Told, items_in}
use Rattle.call_meaning.specs.Stories.{IsTrue, story_of}
use Rattle.call_meaning.specs.Orders.{IsAt as At, WasSoAlong}
use Rattle.call_meaning.specs.Calls.{ToldOnBoth, seen_by, rows_in, row_in}
use Rattle.scope_builders.specs.Dones.{KeepsDones}
use Rattle.script_grammar.specs.Programs.{Program}
use Rattle.script_grammar.specs.Tags.{coroutine_count}
use Rattle.script_meaning.specs.declared.turn.Turn.{Turn}
use Rattle.script_meaning.specs.Shapes.{base_of, floor_shape}
use Rattle.script_meaning.specs.Books.{Runs, story}
use Rattle.script_meaning.specs.Polls.{Turned, MovesOnce, RefusedByClaims, own_rows, TurnAnswer}
use Rattle.script_meaning.proofs.BooksGoOn.{runs_then}
use Rattle.poll_states.specs.Frames.{Frame, config_of, items_of, frame_of, SeenAtPoll, both_of, StandsAt}
use Rattle.poll_states.specs.Steps.{Stepped, HasPolled}

-- ---- rows

pub rows_in-append : (xs ys : List JobAct) → rows_in (xs ++ ys) ≡ rows_in xs ++ rows_in ys
unfolding rows_in
rows_in-append [] ys = refl
rows_in-append (x ∷ xs) ys = ap (λ l. row_in x ++ l) (rows_in-append xs ys) ∙ sym (append_assoc (row_in x) (rows_in xs) (rows_in ys))

pub own_rows-append : (k : ℕ) (book notes : List Item) → own_rows k (book ++ notes) ≡ own_rows k book ++ rows_in (job_acts_in notes)
own_rows-append k book notes =
    let first : List ℕ = if k == 0 then 0 ∷ [] else [] in
    ap (λ l. first ++ rows_in l) (job_acts_in-append book notes)
    ∙ ap (λ l. first ++ l) (rows_in-append (job_acts_in book) (job_acts_in notes))
    ∙ sym (append_assoc first (rows_in (job_acts_in book)) (rows_in (job_acts_in notes)))

-- ---- what was told, by at most one line

-- the coroutine of a told this, and is that of b
pub record Tells (p : Program) (a b : SeenAtPoll) (told : List Told) : Type 0 where
  pub tag : b.frame.tag ≡ a.frame.tag
  pub turned : Turned p a.frame.tag (config_of a.frame) told (config_of b.frame)
  pub noted : ToldOnBoth (rows_in (job_acts_in (items_in told))) (both_of a) (both_of b) told
  pub refused : RefusedByClaims (config_of a.frame) (items_in told) b.jobs
  pub dones : KeepsDones (base_of p) (both_of a) (both_of b) (items_in told)

pub tells_step : {p : Program} {a b : SeenAtPoll} → (s : Stepped p a b) → Tells p a b s.told
tells_step {p} {a} {b} s = record {
  tag = s.tag;
  turned = Turned.moved (config_of a.frame) (config_of b.frame) s.told
      (MovesOnce.once (config_of a.frame) (config_of b.frame) s.told s.move);
  noted = s.noted;
  refused = s.refused;
  dones = s.dones;
}

-- it was so
tells_true : (p : Program) (a b : SeenAtPoll) (told : List Told) → StandsAt p a → Tells p a b told
    → IsTrue (story p a.frame.tag (seen_by b.channels b.jobs)) (items_of a.frame) (seen_by a.channels a.jobs) told
tells_true p a b told h s =
    subst (λ sh. IsTrue (story_of sh a.frame.tag (seen_by b.channels b.jobs)) (items_of a.frame) (seen_by a.channels a.jobs) told)
    h.on.channels (s.noted.was_so (items_of a.frame) h.on.channel_acts h.on.job_acts)

-- and along the order of both histories
tells_along : (p : Program) (a b : SeenAtPoll) (told : List Told) → StandsAt p a → Tells p a b told → a.jobs.joint ≡ true
    → (point : List Side) → At a.frame.tag a.channels a.jobs (items_of a.frame) point
    → WasSoAlong (floor_shape p) a.frame.tag (items_of a.frame) b.channels b.jobs told point
tells_along p a b told h s joint point at =
    subst (λ sh. WasSoAlong sh a.frame.tag (items_of a.frame) b.channels b.jobs told point) h.on.channels
    (s.noted.along joint (items_of a.frame) h.on.channel_acts h.on.job_acts point at)

pub tells_stand : (p : Program) (a b : SeenAtPoll) (told : List Told) → StandsAt p a → Tells p a b told → StandsAt p b
tells_stand p a b told h s =
    let f : Frame = a.frame in
    let g : Frame = b.frame in
    record {
      on = record {
        channels = s.noted.channels.same.shape ∙ h.on.channels;
        jobs = s.noted.jobs.same.shape ∙ h.on.jobs;
        of_channels = ap b.channels.callers s.tag ∙ ap (λ (k : ℕ → Bool). k f.tag) s.noted.channels.same.callers ∙ h.on.of_channels;
        of_jobs = ap b.jobs.callers s.tag ∙ ap (λ (k : ℕ → Bool). k f.tag) s.noted.jobs.same.callers ∙ h.on.of_jobs;
        in_run = subst (λ k. k < coroutine_count p) (sym s.tag) h.on.in_run;
        channel_acts = ap (λ k. acts_of k b.channels.seen) s.tag ∙ s.noted.channels.mine
            ∙ ap (λ l. l ++ channel_acts_in (items_in told)) h.on.channel_acts ∙ sym (channel_acts_in-append (items_of f) (items_in told))
            ∙ ap channel_acts_in (sym s.noted.appended);
        job_acts = ap (λ k. job_acts_of k b.jobs.seen) s.tag ∙ s.noted.jobs.mine
            ∙ ap (λ l. l ++ job_acts_in (items_in told)) h.on.job_acts
            ∙ sym (job_acts_in-append (items_of f) (items_in told)) ∙ ap job_acts_in (sym s.noted.appended);
        runs = subst (λ k. Runs p k (seen_by b.channels b.jobs) (items_of g) (config_of g)) (sym s.tag)
            (subst (λ l. Runs p f.tag (seen_by b.channels b.jobs) l (config_of g)) (sym s.noted.appended)
            (runs_then p f.tag (seen_by a.channels a.jobs) (seen_by b.channels b.jobs) (items_of f) (config_of f) (config_of g) told
            (record { channels = s.noted.channels.longer; jobs = s.noted.jobs.longer }) h.on.runs s.turned
            (tells_true p a b told h s)));
        claims = λ r.
            ap (λ k. is_claimed_by k (b.jobs.claims r)) s.tag ∙ s.noted.jobs.claims.mine r
            ∙ ap (λ q. q || is_among r (rows_in (job_acts_in (items_in told)))) (h.on.claims r)
            ∙ sym (among-append r (own_rows f.tag (items_of f)) (rows_in (job_acts_in (items_in told))))
            ∙ ap (is_among r) (sym (own_rows-append f.tag (items_of f) (items_in told)))
            ∙ ap (λ l. is_among r (own_rows f.tag l)) (sym s.noted.appended)
            ∙ ap (λ k. is_among r (own_rows k (items_of g))) (sym s.tag);
      };
    }

pub step_stands : {p : Program} {a b : SeenAtPoll} → StandsAt p a → Stepped p a b → StandsAt p b
step_stands {p} {a} {b} h s = tells_stand p a b s.told h (tells_step s)

-- ---- a poll

-- what is answered
abbrev pub AnswersTurn : Program → SeenAtPoll → SeenAtPoll → List Told → Turn → Type 0
AnswersTurn p a b told answer = TurnAnswer p a.channels b.channels a.jobs b.jobs (frame_of a.frame) (frame_of b.frame) told answer

pub polled_to : (p : Program) (a b : SeenAtPoll) (told : List Told) (answer : Turn) → StandsAt p a → Tells p a b told
    → AnswersTurn p a b told answer → HasPolled p a b answer
polled_to p a b told answer h s so = record {
  polled = record {
    tag = s.tag;
    told = told;
    turned = s.turned;
    appended = s.noted.appended;
    is_true = tells_true p a b told h s;
    channels = s.noted.channels;
    jobs = s.noted.jobs;
    refused = s.refused;
    along = tells_along p a b told h s;
  };
  turn = so;
  stands = tells_stand p a b told h s;
  dones = s.dones;
}
