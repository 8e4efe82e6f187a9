-- Who alone makes entries begins, and is polled, along one order of both histories.
use Rattle.std.specs.Prelude.{◌≡◌, ◌≢◌, ◌≤◌, ℕ, true, List, [], ◌++◌, length, refl}
use Rattle.std.proofs.Common.{ap, sym, ◌∙◌, subst, arith, length-append}
use Rattle.std.proofs.lemmas.List.{append-nil, length-map}
use Rattle.channel_model.specs.declared.acts.Act.{Act}
use Rattle.channel_model.specs.declared.acts.Entry.{Entry}
use Rattle.channel_model.specs.Histories.{acts_of}
use Rattle.channel_model.specs.Floors.{Floor as ChannelFloor, entries_by}
use Rattle.job_model.specs.declared.acts.JobAct.{JobAct}
use Rattle.job_model.specs.declared.acts.JobEntry.{JobEntry}
use Rattle.job_model.specs.Histories.{acts_of as job_acts_of}
use Rattle.job_model.specs.Floors.{Floor, entries_by as job_entries_by}
use Rattle.note_book.specs.Items.{channel_acts_in, job_acts_in}
use Rattle.call_meaning.specs.Telling.{items_in}
use Rattle.call_meaning.specs.Stories.{Moment, IsBy, IsTrue, story_of}
use Rattle.call_meaning.specs.Calls.{seen_by}
use Rattle.script_grammar.specs.Programs.{Program}
use Rattle.script_meaning.specs.Shapes.{floor_shape}
use Rattle.script_meaning.specs.Configs.{fresh}
use Rattle.script_meaning.specs.Books.{Begins, Reaches}
use Rattle.script_meaning.specs.Polls.{Frame, StandsOn, Begun, Polled}
use Rattle.script_meaning.proofs.BooksGoOn.{items_in-append, reaches_turned}
use Rattle.co_base.specs.Orders.{Side, channel_entries_in, job_entries_in}
use Rattle.call_meaning.specs.Orders.{IsOrderOf, IsTrueAlong}
use Rattle.run_laws.specs.Orders.{RunsAlong}
use Rattle.call_meaning.proofs.OrderCounts.{channel_entries_in-append, job_entries_in-append, sides_of, order_after, channel_entries_in-sides_of, job_entries_in-sides_of}
use Rattle.run_laws.proofs.ToldAlong.{told_along}
use Rattle.call_meaning.proofs.Along.{along_later, along_then}

-- ---- before the first poll

-- one that is fresh told nothing
pub fresh_along : (p : Program) (k : ℕ) (now : Moment) (order : List Side) → k ≢ 0 → RunsAlong p k now order [] (fresh k)
unfolding items_in IsTrueAlong
fresh_along p k now order n = record {
  told = [];
  written = refl;
  reaches = Reaches.begins [] (fresh k) (Begins.child k n);
  is_true = tt;
}

none_by : (k : ℕ) (es : List Entry) → es ≡ [] → acts_of k es ≡ []
unfolding acts_of
none_by k es e = ap (acts_of k) e

no_jobs_by : (k : ℕ) (es : List JobEntry) → es ≡ [] → job_acts_of k es ≡ []
unfolding job_acts_of
no_jobs_by k es e = ap (job_acts_of k) e

module _ (p : Program) (c : ChannelFloor) (j j' : Floor) (f g : Frame) (none : c.seen ≡ []) (no_jobs : j.seen ≡ [])
    (alone : j.alone ≡ true) (on : StandsOn p c j' g) (h : Begun p j j' f g) where
  -- no call of a channel is in what it told
  no_calls : length (channel_acts_in (items_in h.told)) ≡ 0
  no_calls = sym (ap length (on.channel_acts ∙ ap channel_acts_in h.written)) ∙ ap length (none_by g.tag c.seen none)

  pub begun_order : IsOrderOf (seen_by c j') (order_after [] h.told)
  begun_order =
      let calls = channel_entries_in-sides_of (items_in h.told) in
      let seen : length c.seen ≡ 0 = ap length none in
      let none_told = no_calls in
      let jobs = job_entries_in-sides_of (items_in h.told) in
      let seen_jobs : length j'.seen ≡ length (j.seen ++ job_entries_by f.tag (job_acts_in (items_in h.told)))
      = ap length (h.jobs.alone alone) in
      let parts = length-append j.seen (job_entries_by f.tag (job_acts_in (items_in h.told))) in
      let as_many : length (job_entries_by f.tag (job_acts_in (items_in h.told))) ≡ length (job_acts_in (items_in h.told))
      = length-map (job_acts_in (items_in h.told)) (λ (act : JobAct). record { who = f.tag; act = act }) in
      let before : length j.seen ≡ 0 = ap length no_jobs in
      record {
        channels = omega (arith, calls, seen, none_told);
        jobs = omega (arith, jobs, seen_jobs, parts, as_many, before);
      }

  pub begun_along : RunsAlong p f.tag (seen_by c j') (order_after [] h.told) g.book g.config
  begun_along = record {
    told = h.told;
    written = sym h.written;
    reaches = Reaches.begins h.told g.config h.begins;
    is_true = told_along (floor_shape p) f.tag (seen_by c j) (seen_by c j') [] [] [] (job_acts_in (items_in h.told)) nothing
        (sym (append-nil c.seen)) (h.jobs.alone alone) (none_by f.tag c.seen none) (no_jobs_by f.tag j.seen no_jobs) [] h.told (seen_by c j)
        []
        (record { channels = ([], append-nil c.seen); jobs = ([], append-nil j.seen) }) ([], refl)
        (subst (λ es. IsTrue (story_of (floor_shape p) f.tag (record { channels = es; jobs = j'.seen })) []
        (record { channels = es; jobs = j.seen }) h.told) (sym none) h.is_true);
  }
    where
      nothing : IsOrderOf (seen_by c j) []
      nothing = record { channels = sym (ap length none); jobs = sym (ap length no_jobs) }

-- ---- a poll

pub polled_order : (p : Program) (c c' : ChannelFloor) (j j' : Floor) (f g : Frame) (order : List Side) → c.alone ≡ true → j.alone ≡ true
    → IsOrderOf (seen_by c j) order → (h : Polled p c c' j j' f g) → IsOrderOf (seen_by c' j') (order_after order h.told)
polled_order p c c' j j' f g order a b whole h =
    let notes = items_in h.told in
    let calls = channel_entries_in-append order (sides_of notes) in
    let more_calls = channel_entries_in-sides_of notes in
    let old_calls = whole.channels in
    let seen : length c'.seen ≡ length (c.seen ++ entries_by f.tag (channel_acts_in notes)) = ap length (h.channels.alone a) in
    let parts = length-append c.seen (entries_by f.tag (channel_acts_in notes)) in
    let as_many : length (entries_by f.tag (channel_acts_in notes)) ≡ length (channel_acts_in notes)
    = length-map (channel_acts_in notes) (λ (act : Act). record { who = f.tag; act = act }) in
    let jobs = job_entries_in-append order (sides_of notes) in
    let more_jobs = job_entries_in-sides_of notes in
    let old_jobs = whole.jobs in
    let seen_jobs : length j'.seen ≡ length (j.seen ++ job_entries_by f.tag (job_acts_in notes)) = ap length (h.jobs.alone b) in
    let job_parts = length-append j.seen (job_entries_by f.tag (job_acts_in notes)) in
    let as_many_jobs : length (job_entries_by f.tag (job_acts_in notes)) ≡ length (job_acts_in notes)
    = length-map (job_acts_in notes) (λ (act : JobAct). record { who = f.tag; act = act }) in
    record {
      channels = omega (arith, calls, more_calls, old_calls, seen, parts, as_many);
      jobs = omega (arith, jobs, more_jobs, old_jobs, seen_jobs, job_parts, as_many_jobs);
    }

pub polled_along : (p : Program) (c c' : ChannelFloor) (j j' : Floor) (f g : Frame) (order : List Side) → c.alone ≡ true → j.alone ≡ true
    → StandsOn p c j f → IsOrderOf (seen_by c j) order → RunsAlong p f.tag (seen_by c j) order f.book f.config
    → (h : Polled p c c' j j' f g) → RunsAlong p f.tag (seen_by c' j') (order_after order h.told) g.book g.config
polled_along p c c' j j' f g order a b on whole r h = record {
  told = r.told ++ h.told;
  written = items_in-append r.told h.told ∙ ap (λ l. l ++ items_in h.told) r.written ∙ sym h.appended;
  reaches = reaches_turned p f.tag r.told f.config g.config h.told r.reaches h.turned;
  is_true = along_then (story_of (floor_shape p) f.tag (seen_by c' j')) (order_after order h.told) order [] []
      r.told h.told (order, refl) (sides_of (items_in h.told), refl) old new;
}
  where
    by : IsBy (seen_by c j) (seen_by c' j')
    by = record { channels = h.channels.longer; jobs = h.jobs.longer }

    old : IsTrueAlong (story_of (floor_shape p) f.tag (seen_by c' j')) order [] [] r.told
    old =
        let calls = whole.channels in
        let jobs = whole.jobs in
        let few : channel_entries_in order ≤ length c.seen = omega (arith, calls) in
        let few_jobs : job_entries_in order ≤ length j.seen = omega (arith, jobs) in
        along_later (floor_shape p) f.tag (seen_by c j) (seen_by c' j') order order [] [] r.told few few_jobs by ([], append-nil order)
        r.is_true

    new : IsTrueAlong (story_of (floor_shape p) f.tag (seen_by c' j')) (order_after order h.told) (items_in r.told) order h.told
    new = subst (λ l. IsTrueAlong (story_of (floor_shape p) f.tag (seen_by c' j')) (order_after order h.told) l order h.told)
        (append-nil f.book ∙ sym r.written)
        (told_along (floor_shape p) f.tag (seen_by c j) (seen_by c' j') order f.book (channel_acts_in (items_in h.told))
        (job_acts_in (items_in h.told)) whole (h.channels.alone a) (h.jobs.alone b) on.channel_acts on.job_acts [] h.told
        (seen_by c j) order (record { channels = ([], append-nil c.seen); jobs = ([], append-nil j.seen) })
        ([], refl)
        (subst (λ l. IsTrue (story_of (floor_shape p) f.tag (seen_by c' j')) l (seen_by c j) h.told) (sym (append-nil f.book))
        h.is_true))
