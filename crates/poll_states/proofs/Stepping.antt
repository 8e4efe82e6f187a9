-- What a line tells is noted, and what was done before memory was wanting.
use Rattle.std.specs.Prelude.{◌≡◌, ℕ, List, [], ◌∷◌, ◌++◌, Some, None, refl}
use Rattle.co_base.proofs.Orders.{order_same}
use Rattle.std.proofs.Common.{sym, ap, ◌∙◌, subst}
use Rattle.co_base.specs.declared.names.WaitId.{WaitId}
use Rattle.channel_model.specs.Histories.{acts_of}
use Rattle.channel_model.specs.Floors.{Floor as ChannelFloor, Added as AddedToChannels}
use Rattle.channel_model.proofs.Spans as spans
use Rattle.job_model.specs.declared.acts.JobNote.TheVariants as known
use Rattle.job_model.specs.Histories.{acts_of as job_acts_of, Legal}
use Rattle.job_model.specs.Floors.{Floor, Added}
use Rattle.job_model.proofs.Spans.{added_looked, nothing_more, prefix_self}
use Rattle.note_book.specs.declared.book.Item.{Item}
use Rattle.note_book.specs.declared.book.Item.TheVariants as item
use Rattle.note_book.specs.Items.{channel_acts_in, job_acts_in}
use Rattle.note_book.proofs.Appended.{channel_acts_in-append, job_acts_in-append}
use Rattle.call_meaning.specs.Telling.{Told, items_in, did, knew}
use Rattle.call_meaning.specs.Stories.{IsTrue}
use Rattle.call_meaning.specs.Orders.{IsAt, IsTrueAlong}
use Rattle.call_meaning.specs.Seen.{SeenOnChannels, SeenOnJobs, SeenOnBoth, jobs_of, channels_of}
use Rattle.call_meaning.specs.Calls.{ToldOnChannels, ToldOnJobs, ToldOnBoth, seen_by, rows_in}
use Rattle.call_meaning.proofs.JobTellings.{nobody_called, both_jobs, both_channels}
use Rattle.call_meaning.proofs.Along.{at_later}
use Rattle.channel_calls.specs.Calls.{Tells}
use Rattle.scope_builders.specs.Dones.{KeepsDones}
use Rattle.scope_builders.specs.Calls.{TellsBoth}
use Rattle.script_grammar.specs.Programs.{Program}
use Rattle.script_meaning.specs.Shapes.{base_of}
use Rattle.script_meaning.specs.Configs.{Config}
use Rattle.script_meaning.specs.Moves.{Move}
use Rattle.script_meaning.specs.Polls.{HasStood}
use Rattle.script_meaning.proofs.JobDebts.{AllKnown, parents_in, all_known}
use Rattle.script_meaning.proofs.JobStories.{true_so}
use Rattle.poll_states.specs.Frames.{Frame, config_of, items_of, seen_at, jobs_at, channels_at, at_poll}
use Rattle.poll_states.specs.Steps.{Stepped, CutShort}
use Rattle.call_meaning.specs.Orders.{IsToldOfJobs}
use Rattle.poll_states.specs.Heard.{HasHeardOf}
use Rattle.script_meaning.specs.Laws.{wait_of}
use Rattle.poll_states.proofs.DonesLeft.{unclosed_kept}
use Rattle.script_meaning.proofs.GentleNotes.{mild_unrefused}
use Rattle.poll_states.proofs.Mild.{AllMild, mild_no_close, mild_closes, unrefused_claims}

-- ---- floors that were not called

pub self_jobs : (who : ℕ) (j : Floor) → Added who [] [] j j
self_jobs who j = nobody_called who j

pub self_channels : (who : ℕ) (c : ChannelFloor) → AddedToChannels who [] c c
self_channels who c = spans.added_none who c c (record { shape = refl; alone = refl; callers = refl; order = order_same _ }) refl

pub uncalled : (who : ℕ) (c d : ChannelFloor) → d ≡ c → AddedToChannels who [] c d
uncalled who c d e = subst (AddedToChannels who [] c) (sym e) (self_channels who c)

-- ---- nothing was called

-- the notes of one's own failure are of no act
no_acts : (v : ℕ) (book : List Item) → (channel_acts_in (book ++ item.Job (known.Fail v) ∷ []) ≡ channel_acts_in book)
    × (job_acts_in (book ++ item.Job (known.Fail v) ∷ []) ≡ job_acts_in book)
no_acts v book = (
  channel_acts_in-append book (item.Job (known.Fail v) ∷ []) ∙ spans.nothing_more (channel_acts_in book),
  job_acts_in-append book (item.Job (known.Fail v) ∷ []) ∙ nothing_more (job_acts_in book),
)

-- one's own failure is told, which is so at any moment
pub both_failed : (v : ℕ) {a b : SeenOnBoth} → b.who ≡ a.who → b.items ≡ a.items ++ item.Job (known.Fail v) ∷ []
    → AddedToChannels a.who [] a.channels b.channels → Added a.who [] [] a.jobs b.jobs → ToldOnBoth [] a b (knew (known.Fail v) ∷ [])
unfolding IsTrue IsTrueAlong items_in
both_failed v {a} {b} t e c j = record {
  who = t;
  appended = e;
  channels = c;
  jobs = j;
  was_so = λ book k l. (
    seen_by a.channels a.jobs,
    record {
      not_before = record { channels = spans.prefix_self a.channels.seen; jobs = prefix_self a.jobs.seen };
      not_after = record { channels = c.longer; jobs = j.longer };
      channel_acts = k;
      job_acts = l;
      holds = tt;
    },
    tt,
  );
  along = λ joint book k l point at.
      let on : IsAt a.who b.channels b.jobs book point =
      at_later a.who a.channels b.channels a.jobs b.jobs book point c.same.order c.longer j.same.order j.longer at in
      record {
        to = point;
        not_before = order_same point;
        at = record {
          channels = on.channels;
          jobs = on.jobs;
          few_channels = on.few_channels;
          few_jobs = on.few_jobs;
          channel_acts = on.channel_acts ∙ sym (no_acts v book).0;
          job_acts = on.job_acts ∙ sym (no_acts v book).1;
        };
        is_true = (
          point,
          record {
            not_before = order_same point;
            not_after = order_same point;
            channel_acts = on.channel_acts;
            job_acts = on.job_acts;
            holds = tt;
          },
          tt,
        );
      };
}

-- ---- what is seen by who went on as a frame

pub as_frame : (P : SeenOnBoth → Type 0) (c : ChannelFloor) (j : Floor) (w : ℕ) (mid : List Item) (g : Frame) → w ≡ g.tag → items_of g ≡ mid
    → P (record { who = w; channels = c; jobs = j; items = mid }) → P (seen_at c j g)
as_frame P c j w mid g t e h = subst (λ (n : ℕ). P (record { who = n; channels = c; jobs = j; items = items_of g })) t
    (subst (λ (i : List Item). P (record { who = w; channels = c; jobs = j; items = i })) (sym e) h)

pub as_frame_on_channels : (P : SeenOnChannels → Type 0) (c : ChannelFloor) (w : ℕ) (mid : List Item) (g : Frame) → w ≡ g.tag
    → items_of g ≡ mid → P (record { who = w; floor = c; items = mid }) → P (channels_at c g)
as_frame_on_channels P c w mid g t e h = subst (λ (n : ℕ). P (record { who = n; floor = c; items = items_of g })) t
    (subst (λ (i : List Item). P (record { who = w; floor = c; items = i })) (sym e) h)

-- what was told, and kept, is so of the frame
pub both_at : {rows : List ℕ} {a b : SeenOnBoth} {told : List Told} (g : Frame) → ToldOnBoth rows a b told → g.tag ≡ a.who
    → items_of g ≡ b.items → ToldOnBoth rows a (seen_at b.channels b.jobs g) told
both_at g h t e = record { who = t; appended = e ∙ h.appended; channels = h.channels; jobs = h.jobs; was_so = h.was_so; along = h.along }

pub told_at : {rows : List ℕ} {a b : SeenOnJobs} {told : List Told} (g : Frame) → ToldOnJobs rows a b told → g.tag ≡ a.who
    → items_of g ≡ b.items → ToldOnJobs rows a (jobs_at b.floor g) told
told_at g h t e = record {
  who = t;
  appended = e ∙ h.appended;
  added = h.added;
  no_channels = h.no_channels;
  of_jobs = h.of_jobs;
  was_so =
      h.was_so;
}

pub told_on_channels_at : {a b : SeenOnChannels} {told : List Told} (w : ℕ) (i : List Item) → ToldOnChannels a b told → w ≡ a.who
    → i ≡ b.items → ToldOnChannels a (record { who = w; floor = b.floor; items = i }) told
told_on_channels_at w i h t e = record {
  who = t;
  appended = e
      ∙ h.appended;
  added = h.added;
  no_jobs = h.no_jobs;
  of_channels = h.of_channels;
  was_so = h.was_so;
}

pub dones_at : {base : ℕ} {a b : SeenOnBoth} {group : List Item} (g : Frame) → KeepsDones base a b group
    → KeepsDones base a (seen_at b.channels b.jobs g) group
dones_at g h = record { only = h.only; at_once = h.at_once }

-- ---- moves

-- where a coroutine that is here has no wait
pub no_wait : {A : Type 0} (g : Frame) (y : Config) (w : WaitId) → config_of g ≡ y → wait_of y.stage ≡ None → wait_of g.stage ≡ Some w → A
no_wait g y w e n at = absurd (let both_ways : None ≡ Some w = sym n ∙ sym (ap (λ (x : Config). wait_of x.stage) e) ∙ at
    in let no_way : ⊥ = cc in no_way)

-- mild notes of a move
pub mild_step : (p : Program) (c c' : ChannelFloor) (j j' : Floor) (f g : Frame) (told : List Told) (y : Config) → Legal j'.shape j'.seen
    → Move p f.tag (config_of f) told y → ToldOnBoth (rows_in (job_acts_in (items_in told))) (seen_at c j f) (seen_at c' j' g) told
    → AllMild (base_of p) told
    → g.tag ≡ f.tag → config_of g ≡ y → ((w : WaitId) → wait_of g.stage ≡ Some w → HasStood c c' w)
    → Stepped p (at_poll c j f) (at_poll c' j' g)
mild_step p c c' j j' f g told y l move noted mild t config stood = record {
  tag = t;
  told = told;
  move = subst (Move p f.tag (config_of f) told) (sym config) move;
  noted = noted;
  refused = unrefused_claims (base_of p) (config_of f) told j' (mild_unrefused (base_of p) told mild);
  dones = unclosed_kept f.tag (base_of p) (channel_acts_in (items_in told)) (job_acts_in (items_in told))
      (rows_in (job_acts_in (items_in told))) (seen_at c j f) (seen_at c' j' g) (items_in told) l noted.channels
      (mild_no_close (base_of p) (items_in told) mild) noted.jobs (mild_closes (base_of p) (items_in told) mild);
  stood = stood;
}

no_rows : (told : List Told) → job_acts_in (items_in told) ≡ [] → rows_in (job_acts_in (items_in told)) ≡ []
unfolding rows_in
no_rows told e = ap rows_in e

-- a call on channels alone, which the Jobs then heard of
pub channels_noted : (c c' : ChannelFloor) (j j' : Floor) (f g : Frame) (told : List Told) → HasHeardOf f.tag c' j j'
    → ToldOnChannels (channels_at c f) (channels_at c' g) told
    → ToldOnBoth (rows_in (job_acts_in (items_in told))) (seen_at c j f) (seen_at c' j' g) told
channels_noted c c' j j' f g told e h =
    subst (λ (l : List ℕ). ToldOnBoth l (seen_at c j f) (seen_at c' j' g) told) (sym (no_rows told h.no_jobs))
    (both_channels (added_looked f.tag [] j j' e.looked) e.heard h)

-- a call on Jobs alone, of which the channels were then told
pub jobs_noted : (rows : List ℕ) (c d : ChannelFloor) (j j' : Floor) (f g : Frame) (told : List Told) → IsToldOfJobs f.tag c d j'
    → rows ≡ rows_in (job_acts_in (items_in told)) → ToldOnJobs rows (jobs_at j f) (jobs_at j' g) told
    → ToldOnBoth (rows_in (job_acts_in (items_in told))) (seen_at c j f) (seen_at d j' g) told
jobs_noted rows c d j j' f g told e k h = subst (λ (l : List ℕ). ToldOnBoth l (seen_at c j f) (seen_at d j' g) told) k
    (both_jobs (spans.added_looked f.tag c d e.looked) e.told h)

-- what a call told is known
pub known_of : (c c' : ChannelFloor) (j j' : Floor) (f g : Frame) (rows : List ℕ) (told : List Told) → Legal j'.shape j'.seen
    → acts_of f.tag c.seen ≡ channel_acts_in (items_of f) → job_acts_of f.tag j.seen ≡ job_acts_in (items_of f)
    → ToldOnBoth rows (seen_at c j f) (seen_at c' j' g) told → AllKnown (parents_in j'.seen) told
known_of c c' j j' f g rows told l e k h = all_known j'.shape f.tag j'.seen (job_acts_in (items_of f)) told l
    (true_so _ (items_of f) (seen_by c j) told (h.was_so (items_of f) e k))

-- ---- want of memory

pub cut_nothing : {a b : SeenOnBoth} → b.channels ≡ a.channels → b.jobs ≡ a.jobs → b.who ≡ a.who → b.items ≡ a.items → CutShort a b
cut_nothing {a} {b} e h t is = record {
  who = t;
  group = [];
  rows = [];
  appended = is ∙ sym (spans.nothing_more a.items);
  channels = uncalled a.who a.channels b.channels e;
  jobs = subst (Added a.who [] [] a.jobs) (sym h) (self_jobs a.who a.jobs);
}

pub some_jobs : {a b : SeenOnBoth} → b.channels ≡ a.channels → ToldOnJobs [] (jobs_of a) (jobs_of b) [] → CutShort a b
unfolding items_in
some_jobs {a} {b} e h = record {
  who = h.who;
  group = [];
  rows = [];
  appended = h.appended;
  channels =
      uncalled a.who a.channels b.channels e;
  jobs = h.added;
}

-- of who went on with this tag
pub cut_as : (w : ℕ) {a b : SeenOnBoth} → b.who ≡ a.who → CutShort a (record b { who = w }) → CutShort a b
cut_as w t h = record { who = t; group = h.group; rows = h.rows; appended = h.appended; channels = h.channels; jobs = h.jobs }

pub cut_jobs : (w : ℕ) {a b : SeenOnBoth} → b.channels ≡ a.channels → b.who ≡ a.who
    → ToldOnJobs [] (jobs_of a) (record { who = w; floor = b.jobs; items = b.items }) [] → CutShort a b
unfolding items_in
cut_jobs w {a} {b} e t h = record {
  who = t;
  group = [];
  rows = [];
  appended = h.appended;
  channels =
      uncalled a.who a.channels b.channels e;
  jobs = h.added;
}

pub cut_some : (base w : ℕ) (P : List Told → Type 0) {a b : SeenOnBoth} → b.who ≡ a.who → TellsBoth base P a (record b { who = w })
    → CutShort a b
cut_some base w P t h = record {
  who = t;
  group = items_in h.told;
  rows = [];
  appended = h.noted.appended;
  channels = h.noted.channels;
  jobs = h.noted.jobs;
}

pub cut_told : (w : ℕ) {P : List Told → Type 0} {a b : SeenOnBoth} → b.jobs ≡ a.jobs → b.who ≡ a.who
    → Tells P (channels_of a) (record { who = w; floor = b.channels; items = b.items }) → CutShort a b
cut_told w {P} {a} {b} h t did = record {
  who = t;
  group = items_in did.told;
  rows = [];
  appended = did.left.appended;
  channels = did.left.added;
  jobs = subst (Added a.who (job_acts_in (items_in did.told)) [] a.jobs) (sym h)
      (subst (λ acts. Added a.who acts [] a.jobs a.jobs) (sym did.left.no_jobs) (self_jobs a.who a.jobs));
}

-- from who had this tag and these notes
pub cut_from : (w : ℕ) (i : List Item) {a b : SeenOnBoth} → w ≡ a.who → i ≡ a.items → CutShort (record a { who = w; items = i }) b
    → CutShort a b
cut_from w i {a} {b} t e h = subst (λ (n : ℕ). CutShort (record a { who = n }) b) t
    (subst (λ (l : List Item). CutShort (record a { who = w; items = l }) b) e h)
