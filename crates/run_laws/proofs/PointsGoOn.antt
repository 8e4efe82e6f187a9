-- Who stands at a point of one order of both histories, up to which it told its story along the order, goes on to later points.
use Rattle.std.specs.Prelude.{◌≡◌, ◌≢◌, ℕ, true, false, List, [], ◌∷◌, ◌++◌, refl}
use Rattle.std.proofs.Common.{ap, sym, ◌∙◌, subst, arith}
use Rattle.std.proofs.lemmas.List.{append-nil}
use mathlib.Core.List.{IsPrefix}
use Rattle.co_base.specs.Orders.{Side}
use Rattle.co_base.proofs.Orders.{order_same, order_then}
use Rattle.channel_model.specs.declared.acts.Entry.{Entry}
use Rattle.channel_model.specs.Channels.{Shape}
use Rattle.channel_model.specs.Histories.{replay, acts_of}
use Rattle.channel_model.specs.Floors.{Floor as ChannelFloor, Looked as LookedAtChannels}
use Rattle.channel_model.proofs.Spans as spans
use Rattle.job_model.specs.declared.acts.JobEntry.{JobEntry}
use Rattle.job_model.specs.Histories.{replay as replay_jobs, acts_of as job_acts_of}
use Rattle.job_model.specs.Floors.{Floor}
use Rattle.note_book.specs.declared.book.Item.{Item}
use Rattle.note_book.specs.declared.book.Item.TheVariants as item
use Rattle.note_book.specs.Items.{channel_acts_in, job_acts_in}
use Rattle.note_book.proofs.Appended.{channel_acts_in-append}
use Rattle.call_meaning.specs.Telling.{Told, note, on_channels, on_jobs, items_in}
use Rattle.call_meaning.specs.JobCalls.{NotAttached}
use Rattle.call_meaning.specs.Stories.{Moment, IsBy, IsTrue, with_told, story_of}
use Rattle.call_meaning.specs.Orders.{IsAt, HasTold, IsTrueAlong, WasSoAlong}
use Rattle.call_meaning.specs.Calls.{AreAll, IsOfJobs, seen_by, rows_in}
use Rattle.call_meaning.proofs.Along.{along_later, along_then, at_later, jobs_along}
use Rattle.script_grammar.specs.Programs.{Program}
use Rattle.script_meaning.specs.Shapes.{floor_shape}
use Rattle.script_meaning.specs.Configs.{Config, fresh}
use Rattle.script_meaning.specs.Books.{Begins, Spawns, Reaches}
use Rattle.script_meaning.specs.Polls.{Frame, StandsOn, Begun, Polled}
use Rattle.script_meaning.proofs.BooksGoOn.{items_in-append, reaches_turned}
use Rattle.run_laws.specs.Orders.{RunsAlong, StandsAlong}
use Rattle.run_laws.proofs.AlongLater.{runs_along_after}
use Rattle.run_laws.proofs.PolledAlong.{fresh_along}
use Rattle.call_meaning.proofs.PointsOfMoments.{whatever_channels}

-- ---- before the first poll

-- before any entry, who noted nothing is at the beginning
begins_at : (who : ℕ) (c : ChannelFloor) (j : Floor) → IsAt who c j [] []
unfolding acts_of job_acts_of
begins_at who c j = record {
  channels = (c.order, refl);
  jobs = (j.order, refl);
  few_channels = omega (arith);
  few_jobs = omega (arith);
  channel_acts = refl;
  job_acts = refl;
}

-- one that is fresh
pub fresh_stands_along : (p : Program) (c : ChannelFloor) (j : Floor) (f : Frame) → f.tag ≢ 0 → f.config ≡ fresh f.tag → f.book ≡ []
    → StandsAlong p c j f
fresh_stands_along p c j f n config book = record {
  point = [];
  at = subst (λ b. IsAt f.tag c j b []) (sym book) (begins_at f.tag c j);
  runs = subst (λ b. RunsAlong p f.tag (seen_by c j) [] b f.config) (sym book)
      (subst (RunsAlong p f.tag (seen_by c j) [] []) (sym config) (fresh_along p f.tag (seen_by c j) [] n));
}

not_attached_of_jobs : (parent : ℕ) (told : List Told) → NotAttached parent false told → AreAll IsOfJobs told
not_attached_of_jobs parent _ NotAttached.used = (tt, tt)
not_attached_of_jobs parent _ (NotAttached.parent_ended _) = (tt, (tt, tt))

spawns_of_jobs : (p : Program) (blocks : List ℕ) (x y : Config) (told : List Told) → Spawns p blocks x told y → AreAll IsOfJobs told
spawns_of_jobs p _ _ _ _ (Spawns.done x) = tt
spawns_of_jobs p _ _ _ _ (Spawns.attaches block blocks x y now more h) = (tt, spawns_of_jobs p blocks _ y more h)
spawns_of_jobs p _ _ _ _ (Spawns.refused block blocks x group h) = not_attached_of_jobs 0 group h

begins_of_jobs : (p : Program) (k : ℕ) (told : List Told) (x : Config) → Begins p k told x → AreAll IsOfJobs told
begins_of_jobs p _ _ _ (Begins.root group x h) = spawns_of_jobs p _ _ x group h
begins_of_jobs p _ _ _ (Begins.child k n) = tt

-- and adds no act on channels
no_call_more : (items : List Item) (x : Told) → IsOfJobs x → channel_acts_in (with_told x items) ≡ channel_acts_in items
no_call_more items (note (item.Channel n)) of = absurd of
no_call_more items (note (item.Job n)) of = channel_acts_in-append items (item.Job n ∷ []) ∙ append-nil (channel_acts_in items)
no_call_more items other of = refl

-- so it was so beside any channels on which who did just what it noted
of_jobs_beside : (shape : Shape) (who : ℕ) (es : List Entry) (jobs : List JobEntry) (items : List Item) (earlier : Moment)
    (told : List Told)
    → AreAll IsOfJobs told → acts_of who es ≡ channel_acts_in items
    → IsTrue (story_of shape who (record { channels = []; jobs = jobs })) items earlier told
    → IsTrue (story_of shape who (record { channels = es; jobs = jobs })) items (record { channels = es; jobs = earlier.jobs }) told
unfolding IsTrue
of_jobs_beside shape who es jobs items earlier [] all mine t = tt
of_jobs_beside shape who es jobs items earlier (x ∷ told) (of, all) mine (at, so, rest) = (
  record { channels = es; jobs = at.jobs },
  record {
    not_before = record { channels = ([], append-nil es); jobs = so.not_before.jobs };
    not_after = record { channels = ([], append-nil es); jobs = so.not_after.jobs };
    channel_acts = mine;
    job_acts = so.job_acts;
    holds = whatever_channels shape x (replay at.channels) (replay es) (replay_jobs at.jobs) of so.holds;
  },
  of_jobs_beside shape who es jobs (with_told x items) at told all (mine ∙ sym (no_call_more items x of)) rest,
)

-- the root, once its channels were told what was seen of the Jobs
pub begun_stands_along : (p : Program) (c d : ChannelFloor) (j j' : Floor) (f g : Frame) → acts_of f.tag c.seen ≡ []
    → c.shape ≡ floor_shape p
    → job_acts_of f.tag j.seen ≡ [] → LookedAtChannels f.tag c d → HasTold d j' → StandsOn p c j' g → Begun p j j' f g
    → StandsAlong p d j' g
begun_stands_along p c d j j' f g mine shape no_jobs look told on h =
    let calls : channel_acts_in (items_in h.told) ≡ [] =
    ap channel_acts_in (sym h.written) ∙ sym on.channel_acts ∙ ap (λ k. acts_of k c.seen) h.tag ∙ mine in
    let so : IsTrue (story_of (floor_shape p) f.tag (record { channels = c.seen; jobs = j'.seen })) [] (seen_by c j) h.told =
    of_jobs_beside (floor_shape p) f.tag c.seen j'.seen [] (record { channels = []; jobs = j.seen }) h.told
    (begins_of_jobs p f.tag h.told g.config h.begins) mine h.is_true in
    let w : WasSoAlong c.shape f.tag [] d j' h.told [] =
    jobs_along f.tag c d j j' (rows_in (job_acts_in (items_in h.told))) [] h.told [] (spans.added_looked f.tag c d look) h.jobs told calls
    (begins_of_jobs p f.tag h.told g.config h.begins) mine no_jobs (begins_at f.tag c j)
    (subst (λ sh. IsTrue (story_of sh f.tag (record { channels = c.seen; jobs = j'.seen })) [] (seen_by c j) h.told) (sym shape) so) in
    record {
      point = w.to;
      at = subst (λ k. IsAt k d j' g.book w.to) (sym h.tag) (subst (λ (l : List Item). IsAt f.tag d j' l w.to) (sym h.written) w.at);
      runs = subst (λ k. RunsAlong p k (seen_by d j') w.to g.book g.config) (sym h.tag) (record {
        told = h.told;
        written = sym h.written;
        reaches = Reaches.begins h.told g.config h.begins;
        is_true = subst (λ sh. IsTrueAlong (story_of sh f.tag (seen_by d j')) w.to [] [] h.told) shape w.is_true;
      });
    }

-- ---- a poll

pub polled_stands_along : (p : Program) (c c' : ChannelFloor) (j j' : Floor) (f g : Frame) → j.joint ≡ true → StandsAlong p c j f
    → Polled p c c' j j' f g → StandsAlong p c' j' g
polled_stands_along p c c' j j' f g joint s h =
    let w : WasSoAlong (floor_shape p) f.tag f.book c' j' h.told s.point = h.along joint s.point s.at in
    let now : Moment = seen_by c' j' in
    let told : List Told = s.runs.told in
    let before : IsTrueAlong (story_of (floor_shape p) f.tag now) s.point [] [] told =
    along_later (floor_shape p) f.tag (seen_by c j) now s.point s.point [] [] told s.at.few_channels s.at.few_jobs
    (record { channels = h.channels.longer; jobs = h.jobs.longer }) (order_same s.point) s.runs.is_true in
    let since : IsTrueAlong (story_of (floor_shape p) f.tag now) w.to (items_in told) s.point h.told =
    subst (λ (l : List Item). IsTrueAlong (story_of (floor_shape p) f.tag now) w.to l s.point h.told) (sym s.runs.written) w.is_true in
    record {
      point = w.to;
      at = subst (λ k. IsAt k c' j' g.book w.to) (sym h.tag) (subst (λ (l : List Item). IsAt f.tag c' j' l w.to) (sym h.appended) w.at);
      runs = subst (λ k. RunsAlong p k now w.to g.book g.config) (sym h.tag) (record {
        told = told ++ h.told;
        written = items_in-append told h.told ∙ ap (λ l. l ++ items_in h.told) s.runs.written ∙ sym h.appended;
        reaches = reaches_turned p f.tag told f.config g.config h.told s.runs.reaches h.turned;
        is_true = along_then (story_of (floor_shape p) f.tag now) w.to s.point [] [] told h.told (s.point, refl) w.not_before before since;
      });
    }

-- ---- while others make entries

-- its floors have seen more, and it did nothing
pub stands_along_later : (p : Program) (c c' : ChannelFloor) (j j' : Floor) (f : Frame) → IsPrefix c.order c'.order
    → IsPrefix j.order j'.order → IsBy (seen_by c j) (seen_by c' j') → StandsAlong p c j f → StandsAlong p c' j' f
stands_along_later p c c' j j' f orders job_orders by s = record {
  point = s.point;
  at = at_later f.tag c c' j j' f.book s.point orders by.channels job_orders by.jobs s.at;
  runs = runs_along_after p f.tag (seen_by c j) (seen_by c' j') s.point s.point f.book f.config s.at.few_channels s.at.few_jobs by
      (order_same s.point) s.runs;
}

-- ---- at the end

-- along an order of both whole histories that begins with what its floors know of it
pub stands_in_order : (p : Program) (c : ChannelFloor) (j : Floor) (f : Frame) (now : Moment) (order : List Side)
    → IsPrefix c.order order → IsBy (seen_by c j) now → StandsAlong p c j f → RunsAlong p f.tag now order f.book f.config
stands_in_order p c j f now order known by s =
    runs_along_after p f.tag (seen_by c j) now s.point order f.book f.config s.at.few_channels s.at.few_jobs by
    (order_then s.point c.order order s.at.channels known) s.runs
