-- From what a floor of Jobs answers to what is told of it, whatever the channels beside it; and one call behind another.
use Rattle.std.specs.Prelude.{◌≡◌, ℕ, ◌==◌, Bool, true, false, List, [], ◌∷◌, ◌++◌, map, if◌then◌else◌, refl}
use Rattle.co_base.proofs.Orders.{order_same}
use mathlib.Core.List.{IsPrefix}
use Rattle.std.proofs.Common.{sym, ap, ◌∙◌, subst, append_assoc}
use Rattle.channel_model.specs.declared.acts.Act.{Act}
use Rattle.channel_model.specs.declared.acts.Entry.{Entry}
use Rattle.channel_model.specs.Channels.{Shape}
use Rattle.channel_model.specs.Histories.{replay, acts_of}
use Rattle.channel_model.specs.Floors.{Added as AddedToChannels}
use Rattle.channel_model.proofs.Spans as spans
use Rattle.job_model.specs.declared.acts.JobAct.{JobAct}
use Rattle.job_model.specs.declared.acts.JobEntry.{JobEntry}
use Rattle.job_model.specs.declared.acts.JobNote.{JobNote}
use Rattle.job_model.specs.declared.acts.JobNote.TheVariants as of_job
use Rattle.job_model.specs.Trees.{Tree}
use Rattle.job_model.specs.Histories.{replay as replay_jobs, acts_of as job_acts_of}
use Rattle.job_model.specs.Floors.{Floor, Made, Added, AtMoment}
use Rattle.job_model.proofs.Histories.{acts_of-append}
use Rattle.job_model.proofs.Own.{acts_between}
use Rattle.job_model.proofs.Spans.{nothing_more, prefix_self, prefix_then, added_none, added_made, added_then, added_after}
use Rattle.note_book.specs.declared.book.Item.{Item}
use Rattle.note_book.specs.declared.book.Item.TheVariants as item
use Rattle.note_book.specs.Items.{channel_acts_in, job_act, job_acts_in}
use Rattle.note_book.proofs.Appended.{channel_acts_in-append, job_acts_in-append}
use Rattle.call_meaning.specs.Telling.{Told, note, on_channels, on_jobs, JobFact, items_in, did, knew}
use Rattle.call_meaning.specs.Facts.{ToldHolds, JobFactHolds, JobNoteHolds}
use Rattle.call_meaning.specs.Stories.{Moment, IsBy, IsSo, IsTrue, story_of}
use Rattle.call_meaning.specs.Seen.{SeenOnJobs, SeenOnBoth, channels_of, jobs_of, tree_in}
use Rattle.call_meaning.specs.Orders.{HasHeard, HasTold, WasSoAlong}
use Rattle.call_meaning.specs.Calls.{ToldOnChannels, ToldOnJobs, ToldOnBoth, seen_by, IsOfJobs}
use Rattle.call_meaning.proofs.PointsOfMoments.{all_then, all_did}
use Rattle.call_meaning.proofs.Along.{jobs_along, channels_along, along_after}
use Rattle.call_meaning.proofs.Tellings.{true_later, true_sooner, true_then}

-- ---- what is told, one after the other

pub items_in-append : (xs ys : List Told) → items_in (xs ++ ys) ≡ items_in xs ++ items_in ys
unfolding items_in
items_in-append [] ys = refl
items_in-append (note i ∷ xs) ys = ap (λ l. i ∷ l) (items_in-append xs ys)
items_in-append (on_channels fact ∷ xs) ys = items_in-append xs ys
items_in-append (on_jobs fact ∷ xs) ys = items_in-append xs ys

-- the notes of acts
pub items_did : (acts : List JobAct) → items_in (map did acts) ≡ map (λ act. item.Job (of_job.Made act)) acts
unfolding items_in
items_did [] = refl
items_did (x ∷ xs) = ap (λ (l : List Item). item.Job (of_job.Made x) ∷ l) (items_did xs)

made_acts : (acts : List JobAct) → job_acts_in (map (λ act. item.Job (of_job.Made act)) acts) ≡ acts
made_acts [] = refl
made_acts (x ∷ xs) = ap (λ (l : List JobAct). x ∷ l) (made_acts xs)

no_channel_acts : (acts : List JobAct) → channel_acts_in (map (λ act. item.Job (of_job.Made act)) acts) ≡ []
no_channel_acts [] = refl
no_channel_acts (x ∷ xs) = no_channel_acts xs

pub acts_did : (acts : List JobAct) → job_acts_in (items_in (map did acts)) ≡ acts
acts_did acts = ap job_acts_in (items_did acts) ∙ made_acts acts

-- ---- moments of the Jobs alone

abbrev pub moment_of : List Entry → List JobEntry → Moment
moment_of channels jobs = record { channels = channels; jobs = jobs }

jobs_by : (channels : List Entry) (early late : List JobEntry) → IsPrefix early late
    → IsBy (moment_of channels early) (moment_of channels late)
jobs_by channels early late p = record { channels = spans.prefix_self channels; jobs = p }

-- this was so at a moment of a call at which the caller had made nothing of its own
so_at : (shape : Shape) (who : ℕ) (items : List Item) (old new : Floor) (channels : List Entry) (told : Told) (P : Tree → Type 0)
    → (m : AtMoment who [] old new P) → ToldHolds shape told (replay channels) (replay_jobs m.moment)
    → acts_of who channels ≡ channel_acts_in items → job_acts_of who old.seen ≡ job_acts_in items
    → IsSo (story_of shape who (moment_of channels new.seen)) items (moment_of channels old.seen) told (moment_of channels m.moment)
so_at shape who items old new channels told P m h e f = record {
  not_before = jobs_by channels old.seen m.moment m.after;
  not_after = jobs_by channels m.moment new.seen m.before;
  channel_acts = e;
  job_acts = m.mine ∙ nothing_more (job_acts_of who old.seen) ∙ f;
  holds = h;
}

-- ---- one thing told

-- nothing
pub told_nothing : {rows : List ℕ} {a b : SeenOnJobs} → b.who ≡ a.who → b.items ≡ a.items → Added a.who [] rows a.floor b.floor
    → ToldOnJobs rows a b []
unfolding IsTrue items_in
told_nothing {rows} {a} w e h = record {
  who = w;
  appended = e ∙ sym (nothing_more a.items);
  added = h;
  no_channels = refl;
  of_jobs = tt;
  was_so = λ book shape channels c d. tt;
}

-- a fact
pub told_fact : (fact : JobFact) {rows : List ℕ} {a b : SeenOnJobs} → b.who ≡ a.who → b.items ≡ a.items
    → Added a.who [] rows a.floor b.floor
    → AtMoment a.who [] a.floor b.floor (JobFactHolds fact) → ToldOnJobs rows a b (on_jobs fact ∷ [])
unfolding IsTrue items_in
told_fact fact {rows} {a} {b} w e h m = record {
  who = w;
  appended = e ∙ sym (nothing_more a.items);
  added = h;
  no_channels = refl;
  of_jobs = (tt, tt);
  was_so = λ book shape channels c d.
      (moment_of channels m.moment, so_at shape a.who book a.floor b.floor channels (on_jobs fact) _ m m.holds c d, tt);
}

-- an answer that made no entry
pub told_knew : (n : JobNote) {rows : List ℕ} {a b : SeenOnJobs} → job_act n ≡ [] → b.who ≡ a.who → b.items ≡ a.items ++ item.Job n ∷ []
    → Added a.who [] rows a.floor b.floor → AtMoment a.who [] a.floor b.floor (JobNoteHolds n) → ToldOnJobs rows a b (knew n ∷ [])
unfolding IsTrue items_in
told_knew n {rows} {a} {b} none w e h m = record {
  who = w;
  appended = e;
  added = subst (λ (l : List JobAct). Added a.who l rows a.floor b.floor) (sym (ap (λ (l : List JobAct). l ++ []) none)) h;
  no_channels = refl;
  of_jobs = (tt, tt);
  was_so = λ book shape channels c d.
      (moment_of channels m.moment, so_at shape a.who book a.floor b.floor channels (knew n) _ m m.holds c d, tt);
}

-- ---- acts

own_first : (who : ℕ) (e : JobEntry) (es : List JobEntry) (P : Type 0)
    → (job_acts_of who (e ∷ []) ≡ e.act ∷ [] → job_acts_of who (e ∷ es) ≡ e.act ∷ job_acts_of who es → P)
    → (job_acts_of who (e ∷ []) ≡ [] → job_acts_of who (e ∷ es) ≡ job_acts_of who es → P) → P
unfolding job_acts_of
own_first who e es P own other = by_test (e.who == who) refl
  where
    by_test : (b : Bool) → (e.who == who) ≡ b → P
    by_test true k = own (ap (λ c. if c then e.act ∷ [] else []) k)
        (ap (λ c. if c then e.act ∷ job_acts_of who es else job_acts_of who es) k)
    by_test false k = other (ap (λ c. if c then e.act ∷ [] else []) k)
        (ap (λ c. if c then e.act ∷ job_acts_of who es else job_acts_of who es) k)

-- the acts that a caller made in a history that goes on were made one after the other
did_true : (shape : Shape) (who : ℕ) (items : List Item) (channels : List Entry) (xs rest now : List JobEntry) → IsPrefix (xs ++ rest) now
    → acts_of who channels ≡ channel_acts_in items → job_acts_of who xs ≡ job_acts_in items
    → IsTrue (story_of shape who (moment_of channels now)) items (moment_of channels xs) (map did (job_acts_of who rest))
unfolding IsTrue job_acts_of
did_true shape who items channels xs [] now p c d = tt
did_true shape who items channels xs (e ∷ es) now p c d =
    let further : IsPrefix ((xs ++ e ∷ []) ++ es) now = subst (λ (l : List JobEntry). IsPrefix l now) (sym (append_assoc xs (e ∷ []) es)) p
    in
    let here : IsPrefix xs now = prefix_then xs (xs ++ e ∷ es) now (e ∷ es, refl) p in
    own_first who e es _
    (λ one all.
    let i : Item = item.Job (of_job.Made e.act) in
    let c' : acts_of who channels ≡ channel_acts_in (items ++ i ∷ []) = c
    ∙ sym (channel_acts_in-append items (i ∷ []) ∙ nothing_more (channel_acts_in items)) in
    let d' : job_acts_of who (xs ++ e ∷ []) ≡ job_acts_in (items ++ i ∷ []) = acts_of-append who xs (e ∷ [])
    ∙ ap (λ (l : List JobAct). job_acts_of who xs ++ l) one ∙ ap (λ (l : List JobAct). l ++ e.act ∷ []) d
    ∙ sym (job_acts_in-append items (i ∷ [])) in
    let later = did_true shape who (items ++ i ∷ []) channels (xs ++ e ∷ []) es now further c' d' in
    subst (λ (l : List JobAct). IsTrue (story_of shape who (moment_of channels now)) items (moment_of channels xs) (map did l)) (sym all) (
      moment_of channels xs,
      record {
        not_before = jobs_by channels xs xs (prefix_self xs);
        not_after = jobs_by channels xs now here;
        channel_acts = c;
        job_acts =
            d;
        holds = tt;
      },
      true_sooner _ (items ++ i ∷ []) (moment_of channels xs) (moment_of channels (xs ++ e ∷ [])) (map did (job_acts_of who es))
          (jobs_by channels xs (xs ++ e ∷ []) (e ∷ [], refl)) later,
    ))
    (λ none all.
    let d' : job_acts_of who (xs ++ e ∷ []) ≡ job_acts_in items = acts_of-append who xs (e ∷ [])
    ∙ ap (λ (l : List JobAct). job_acts_of who xs ++ l) none ∙ nothing_more (job_acts_of who xs) ∙ d in
    let later = did_true shape who items channels (xs ++ e ∷ []) es now further c d' in
    subst (λ (l : List JobAct). IsTrue (story_of shape who (moment_of channels now)) items (moment_of channels xs) (map did l)) (sym all)
    (true_sooner _ items (moment_of channels xs) (moment_of channels (xs ++ e ∷ [])) (map did (job_acts_of who es))
    (jobs_by channels xs (xs ++ e ∷ []) (e ∷ [], refl)) later))

-- acts
pub told_dids : (acts : List JobAct) {rows : List ℕ} {a b : SeenOnJobs} → b.who ≡ a.who
    → b.items ≡ a.items ++ map (λ act. item.Job (of_job.Made act)) acts → Added a.who acts rows a.floor b.floor
    → ToldOnJobs rows a b (map did acts)
told_dids acts {rows} {a} {b} w e h =
    let who : ℕ = a.who in
    let xs : List JobEntry = a.floor.seen in
    let own : job_acts_of who h.longer.0 ≡ acts = acts_between who xs h.longer.0 acts (ap (job_acts_of who) h.longer.1 ∙ h.mine) in
    let here : IsPrefix (xs ++ h.longer.0) b.floor.seen =
    subst (λ (l : List JobEntry). IsPrefix l b.floor.seen) (sym h.longer.1) (prefix_self b.floor.seen) in
    record {
      who = w;
      appended = e ∙ ap (λ (l : List Item). a.items ++ l) (sym (items_did acts));
      added = subst (λ (l : List JobAct). Added who l rows a.floor b.floor) (sym (acts_did acts)) h;
      no_channels = ap channel_acts_in (items_did acts) ∙ no_channel_acts acts;
      of_jobs = all_did acts;
      was_so = λ book shape channels c d.
          subst (λ (l : List JobAct). IsTrue (story_of shape who (moment_of channels b.floor.seen)) book (moment_of channels xs)
          (map did l)) own
          (did_true shape who book channels xs h.longer.0 b.floor.seen here c d);
    }

pub told_did : (act : JobAct) {rows : List ℕ} {a b : SeenOnJobs} → b.who ≡ a.who → b.items ≡ a.items ++ item.Job (of_job.Made act) ∷ []
    → Made a.who act rows a.floor b.floor → ToldOnJobs rows a b (did act ∷ [])
told_did act {rows} {a} {b} w e h = told_dids (act ∷ []) w e (added_made a.who act rows a.floor b.floor h)

-- ---- one call behind another

-- the same caller by another name
pub by_who : (who : ℕ) {rows : List ℕ} {a b : SeenOnJobs} {told : List Told} → a.who ≡ who → ToldOnJobs rows a b told
    → ToldOnJobs rows (record a { who = who }) b told
by_who who {rows} {a} {b} {told} e h = subst (λ n. ToldOnJobs rows (record a { who = n }) b told) e h

pub told_then : {rows more : List ℕ} {a b c : SeenOnJobs} {xs ys : List Told} → ToldOnJobs rows a b xs → ToldOnJobs more b c ys
    → ToldOnJobs (rows ++ more) a c (xs ++ ys)
told_then {rows} {more} {a} {b} {c} {xs} {ys} h n =
    let who : ℕ = a.who in
    let m : ToldOnJobs more (record b { who = who }) c ys = by_who who h.who n in
    record {
      who = m.who;
      appended = m.appended ∙ ap (λ (l : List Item). l ++ items_in ys) h.appended ∙ append_assoc a.items (items_in xs) (items_in ys)
          ∙ ap (λ (l : List Item). a.items ++ l) (sym (items_in-append xs ys));
      added = subst (λ (l : List JobAct). Added who l (rows ++ more) a.floor c.floor)
          (sym (ap job_acts_in (items_in-append xs ys) ∙ job_acts_in-append (items_in xs) (items_in ys)))
          (added_then who (job_acts_in (items_in xs)) (job_acts_in (items_in ys)) rows more a.floor b.floor c.floor h.added m.added);
      no_channels = ap channel_acts_in (items_in-append xs ys) ∙ channel_acts_in-append (items_in xs) (items_in ys)
          ∙ ap (λ (l : List Act). l ++ channel_acts_in (items_in ys)) h.no_channels ∙ m.no_channels;
      of_jobs = all_then IsOfJobs xs ys h.of_jobs m.of_jobs;
      was_so = λ book shape channels e f.
          let e' : acts_of who channels ≡ channel_acts_in (book ++ items_in xs) =
          e ∙ sym (channel_acts_in-append book (items_in xs) ∙ ap (λ (l : List Act). channel_acts_in book ++ l) h.no_channels
          ∙ nothing_more (channel_acts_in book)) in
          let f' : job_acts_of who b.floor.seen ≡ job_acts_in (book ++ items_in xs) =
          h.added.mine ∙ ap (λ (l : List JobAct). l ++ job_acts_in (items_in xs)) f ∙ sym (job_acts_in-append book (items_in xs)) in
          let at : Floor → Moment = λ floor. moment_of channels floor.seen in
          true_then shape who (at b.floor) (at c.floor) book (at a.floor) xs ys
          (jobs_by channels a.floor.seen b.floor.seen h.added.longer) (jobs_by channels b.floor.seen c.floor.seen m.added.longer)
          (h.was_so book shape channels e f) (m.was_so (book ++ items_in xs) shape channels e' f');
    }

-- after calls that told nothing
pub told_after : {rows : List ℕ} {a b c : SeenOnJobs} {told : List Told} → b.who ≡ a.who → b.items ≡ a.items
    → Added a.who [] [] a.floor b.floor → ToldOnJobs rows b c told → ToldOnJobs rows a c told
told_after w e h m = told_then (told_nothing w e h) m

-- and before such
pub told_before : {rows : List ℕ} {a b c : SeenOnJobs} {told : List Told} → ToldOnJobs rows a b told → c.who ≡ b.who → c.items ≡ b.items
    → Added b.who [] [] b.floor c.floor → ToldOnJobs rows a c told
told_before {rows} {a} {b} {c} {told} h w e m =
    subst (λ (l : List ℕ). ToldOnJobs l a c told) (nothing_more rows)
    (subst (ToldOnJobs (rows ++ []) a c) (nothing_more told) (told_then h (told_nothing w e m)))

pub nobody_called : (who : ℕ) (a : Floor) → Added who [] [] a a
nobody_called who a = added_none who a a (record { shape = refl; alone = refl; callers = refl; order = order_same _; joint = refl }) refl
    (λ r. refl)

-- and then this was so
pub told_so : (fact : JobFact) {rows : List ℕ} {a b : SeenOnJobs} {told : List Told} → ToldOnJobs rows a b told
    → JobFactHolds fact (tree_in b) → ToldOnJobs rows a b (told ++ on_jobs fact ∷ [])
told_so fact {rows} {a} {b} {told} h f =
    let none = nobody_called b.who b.floor in
    let so : ToldOnJobs [] b b (on_jobs fact ∷ []) =
    told_fact fact refl refl none (added_after b.who [] [] b.floor b.floor (JobFactHolds fact) none f) in
    subst (λ (l : List ℕ). ToldOnJobs l a b (told ++ on_jobs fact ∷ [])) (nothing_more rows) (told_then h so)

-- ---- on both floors

both_by_who : (who : ℕ) {rows : List ℕ} {a b : SeenOnBoth} {told : List Told} → a.who ≡ who → ToldOnBoth rows a b told
    → ToldOnBoth rows (record a { who = who }) b told
both_by_who who {rows} {a} {b} {told} e h = subst (λ n. ToldOnBoth rows (record a { who = n }) b told) e h

pub both_then : {rows more : List ℕ} {a b c : SeenOnBoth} {xs ys : List Told} → ToldOnBoth rows a b xs → ToldOnBoth more b c ys
    → ToldOnBoth (rows ++ more) a c (xs ++ ys)
both_then {rows} {more} {a} {b} {c} {xs} {ys} h n =
    let who : ℕ = a.who in
    let m : ToldOnBoth more (record b { who = who }) c ys = both_by_who who h.who n in
    record {
      who = m.who;
      appended = m.appended ∙ ap (λ (l : List Item). l ++ items_in ys) h.appended ∙ append_assoc a.items (items_in xs) (items_in ys)
          ∙ ap (λ (l : List Item). a.items ++ l) (sym (items_in-append xs ys));
      channels = subst (λ (l : List Act). AddedToChannels who l a.channels c.channels)
          (sym (ap channel_acts_in (items_in-append xs ys) ∙ channel_acts_in-append (items_in xs) (items_in ys)))
          (spans.added_then who (channel_acts_in (items_in xs)) (channel_acts_in (items_in ys)) a.channels b.channels c.channels h.channels
          m.channels);
      jobs = subst (λ (l : List JobAct). Added who l (rows ++ more) a.jobs c.jobs)
          (sym (ap job_acts_in (items_in-append xs ys) ∙ job_acts_in-append (items_in xs) (items_in ys)))
          (added_then who (job_acts_in (items_in xs)) (job_acts_in (items_in ys)) rows more a.jobs b.jobs c.jobs h.jobs m.jobs);
      was_so = λ book e f.
          let e' : acts_of who b.channels.seen ≡ channel_acts_in (book ++ items_in xs) =
          h.channels.mine ∙ ap (λ (l : List Act). l ++ channel_acts_in (items_in xs)) e ∙ sym (channel_acts_in-append book (items_in xs)) in
          let f' : job_acts_of who b.jobs.seen ≡ job_acts_in (book ++ items_in xs) =
          h.jobs.mine ∙ ap (λ (l : List JobAct). l ++ job_acts_in (items_in xs)) f ∙ sym (job_acts_in-append book (items_in xs)) in
          let at : SeenOnBoth → Moment = λ s. seen_by s.channels s.jobs in
          let IsTold : Shape → Type 0 = λ s. IsTrue (story_of s who (at c)) (book ++ items_in xs) (at b) ys in
          let later : IsTold a.channels.shape = subst IsTold h.channels.same.shape (m.was_so (book ++ items_in xs) e' f') in
          true_then a.channels.shape who (at b) (at c) book (at a) xs ys (record { channels = h.channels.longer; jobs = h.jobs.longer })
          (record { channels = m.channels.longer; jobs = m.jobs.longer }) (h.was_so book e f) later;
      along = λ joint book e f point at.
          let e' : acts_of who b.channels.seen ≡ channel_acts_in (book ++ items_in xs) =
          h.channels.mine ∙ ap (λ (l : List Act). l ++ channel_acts_in (items_in xs)) e ∙ sym (channel_acts_in-append book (items_in xs)) in
          let f' : job_acts_of who b.jobs.seen ≡ job_acts_in (book ++ items_in xs) =
          h.jobs.mine ∙ ap (λ (l : List JobAct). l ++ job_acts_in (items_in xs)) f ∙ sym (job_acts_in-append book (items_in xs)) in
          let first : WasSoAlong a.channels.shape who book b.channels b.jobs xs point = h.along joint book e f point at in
          let second : WasSoAlong a.channels.shape who (book ++ items_in xs) c.channels c.jobs ys first.to =
          subst (λ (s : Shape). WasSoAlong s who (book ++ items_in xs) c.channels c.jobs ys first.to) h.channels.same.shape
          (m.along (h.jobs.same.joint ∙ joint) (book ++ items_in xs) e' f' first.to first.at) in
          along_after a.channels.shape who b.channels c.channels b.jobs c.jobs book xs ys point (items_in-append xs ys)
          m.channels.longer m.jobs.longer first second;
    }

-- a call on Jobs alone, of which the floor of channels was told, where both have one order; that made no act of the caller
pub both_jobs : {rows : List ℕ} {a b : SeenOnBoth} {told : List Told} → AddedToChannels a.who [] a.channels b.channels
    → (b.jobs.joint ≡ true → HasTold b.channels b.jobs)
    → ToldOnJobs rows (jobs_of a) (jobs_of b) told → ToldOnBoth rows a b told
both_jobs {rows} {a} {b} {told} c heard h = record {
  who = h.who;
  appended = h.appended;
  channels = subst (λ (l : List Act). AddedToChannels a.who l a.channels b.channels) (sym h.no_channels) c;
  jobs = h.added;
  was_so = λ book e f.
      true_later a.channels.shape a.who (moment_of a.channels.seen b.jobs.seen) (seen_by b.channels b.jobs) book (seen_by a.channels a.jobs)
      told
      (record { channels = c.longer; jobs = prefix_self b.jobs.seen }) (h.was_so book a.channels.shape a.channels.seen e f);
  along = λ joint book e f point at.
      jobs_along a.who a.channels b.channels a.jobs b.jobs rows book told point c h.added (heard (h.added.same.joint ∙ joint))
      h.no_channels h.of_jobs e f at (h.was_so book a.channels.shape a.channels.seen e f);
}

-- a call on channels alone, which the floor of Jobs heard of, where both have one order
pub both_channels : {a b : SeenOnBoth} {told : List Told} → Added a.who [] [] a.jobs b.jobs
    → (b.jobs.joint ≡ true → HasHeard b.channels b.jobs)
    → ToldOnChannels (channels_of a) (channels_of b) told → ToldOnBoth [] a b told
both_channels {a} {b} {told} j heard h = record {
  who = h.who;
  appended = h.appended;
  channels = h.added;
  jobs = subst (λ (l : List JobAct). Added a.who l [] a.jobs b.jobs) (sym h.no_jobs) j;
  was_so = λ book e f.
      true_later a.channels.shape a.who (moment_of b.channels.seen a.jobs.seen) (seen_by b.channels b.jobs) book (seen_by a.channels a.jobs)
      told
      (record { channels = spans.prefix_self b.channels.seen; jobs = j.longer }) (h.was_so book a.jobs.seen e f);
  along = λ joint book e f point at.
      channels_along a.who a.channels b.channels a.jobs b.jobs [] book told point h.added j (heard (j.same.joint ∙ joint))
      h.no_jobs h.of_channels e f at (h.was_so book a.jobs.seen e f);
}
