-- What was told at moments of one history is told at points of an order of both: each at the shortest that has so many entries of that
-- history, and is not before the point before.
use Rattle.std.specs.Prelude.{◌≡◌, ℕ, zero, suc, ◌+◌, ◌-◌, ◌≤◌, List, [], ◌∷◌, ◌++◌, length, take, map, refl}
use Rattle.std.proofs.Common.{ap, sym, ◌∙◌, subst, append_assoc, arith, length-append}
use Rattle.std.proofs.Math.Seq.{take-append_seam}
use Rattle.std.proofs.lemmas.List.{append-nil}
use mathlib.Core.List.{IsPrefix}
use Rattle.channel_model.specs.declared.acts.Act.{Act}
use Rattle.channel_model.specs.declared.acts.Entry.{Entry}
use Rattle.channel_model.specs.Channels.{Shape, State}
use Rattle.channel_model.specs.Histories.{replay, acts_of}
use Rattle.job_model.specs.declared.acts.JobAct.{JobAct}
use Rattle.job_model.specs.declared.acts.JobEntry.{JobEntry}
use Rattle.job_model.specs.Trees.{Tree}
use Rattle.job_model.specs.Histories.{replay as replay_jobs, acts_of as job_acts_of}
use Rattle.note_book.specs.declared.book.Item.{Item}
use Rattle.note_book.specs.declared.book.Item.TheVariants as item
use Rattle.note_book.specs.Items.{channel_acts_in, job_acts_in}
use Rattle.note_book.proofs.Appended.{channel_acts_in-append, job_acts_in-append}
use Rattle.call_meaning.specs.Telling.{Told, note, on_channels, on_jobs, made, did}
use Rattle.call_meaning.specs.Facts.{ToldHolds}
use Rattle.call_meaning.specs.Stories.{Moment, IsTrue, with_told, story_of}
use Rattle.co_base.specs.Orders.{Side, OfChannels, OfJobs, channel_entries_in, job_entries_in}
use Rattle.co_base.proofs.Orders.{order_then}
use Rattle.call_meaning.specs.Orders.{IsTrueAlong}
use Rattle.call_meaning.specs.Calls.{IsOfChannels, IsOfJobs, AreAll}
use Rattle.call_meaning.proofs.OrderCounts.{channel_entries_in-append, job_entries_in-append}

-- ---- what is told of one history alone

whatever_jobs : (shape : Shape) (x : Told) (s : State) (t t' : Tree) → IsOfChannels x → ToldHolds shape x s t → ToldHolds shape x s t'
whatever_jobs shape (note (item.Channel n)) s t t' is h = h
whatever_jobs shape (note (item.Job n)) s t t' is h = absurd is
whatever_jobs shape (on_channels fact) s t t' is h = h
whatever_jobs shape (on_jobs fact) s t t' is h = absurd is

pub whatever_channels : (shape : Shape) (x : Told) (s s' : State) (t : Tree) → IsOfJobs x → ToldHolds shape x s t → ToldHolds shape x s' t
whatever_channels shape (note (item.Channel n)) s s' t is h = absurd is
whatever_channels shape (note (item.Job n)) s s' t is h = h
whatever_channels shape (on_channels fact) s s' t is h = absurd is
whatever_channels shape (on_jobs fact) s s' t is h = h

same_jobs : (x : Told) (items : List Item) → IsOfChannels x → job_acts_in (with_told x items) ≡ job_acts_in items
same_jobs (note (item.Channel n)) items is = job_acts_in-append items (item.Channel n ∷ []) ∙ append-nil (job_acts_in items)
same_jobs (note (item.Job n)) items is = absurd is
same_jobs (on_channels fact) items is = refl
same_jobs (on_jobs fact) items is = absurd is

same_channels : (x : Told) (items : List Item) → IsOfJobs x → channel_acts_in (with_told x items) ≡ channel_acts_in items
same_channels (note (item.Channel n)) items is = absurd is
same_channels (note (item.Job n)) items is = channel_acts_in-append items (item.Job n ∷ []) ∙ append-nil (channel_acts_in items)
same_channels (on_channels fact) items is = absurd is
same_channels (on_jobs fact) items is = refl

-- ---- an order up to its n-th entry of one history

abbrev until_channels : ℕ → List Side → List Side
until_channels zero rest = []
until_channels (suc n) [] = []
until_channels (suc n) (OfChannels ∷ rest) = OfChannels ∷ until_channels n rest
until_channels (suc n) (OfJobs ∷ rest) = OfJobs ∷ until_channels (suc n) rest

channels_begin : (n : ℕ) (rest : List Side) → IsPrefix (until_channels n rest) rest
channels_begin zero rest = (rest, refl)
channels_begin (suc n) [] = ([], refl)
channels_begin (suc n) (OfChannels ∷ rest) = let h = channels_begin n rest in (h.0, ap (λ l. OfChannels ∷ l) h.1)
channels_begin (suc n) (OfJobs ∷ rest) = let h = channels_begin (suc n) rest in (h.0, ap (λ l. OfJobs ∷ l) h.1)

channels_counted : (n : ℕ) (rest : List Side) → n ≤ channel_entries_in rest → channel_entries_in (until_channels n rest) ≡ n
channels_counted zero rest le = refl
channels_counted (suc n) [] le = omega (arith, le)
channels_counted (suc n) (OfChannels ∷ rest) le =
    let less : n ≤ channel_entries_in rest = omega (arith, le) in
    let k = channels_counted n rest less in omega (arith, k)
channels_counted (suc n) (OfJobs ∷ rest) le = channels_counted (suc n) rest le

abbrev until_jobs : ℕ → List Side → List Side
until_jobs zero rest = []
until_jobs (suc n) [] = []
until_jobs (suc n) (OfJobs ∷ rest) = OfJobs ∷ until_jobs n rest
until_jobs (suc n) (OfChannels ∷ rest) = OfChannels ∷ until_jobs (suc n) rest

jobs_begin : (n : ℕ) (rest : List Side) → IsPrefix (until_jobs n rest) rest
jobs_begin zero rest = (rest, refl)
jobs_begin (suc n) [] = ([], refl)
jobs_begin (suc n) (OfJobs ∷ rest) = let h = jobs_begin n rest in (h.0, ap (λ l. OfJobs ∷ l) h.1)
jobs_begin (suc n) (OfChannels ∷ rest) = let h = jobs_begin (suc n) rest in (h.0, ap (λ l. OfChannels ∷ l) h.1)

jobs_counted : (n : ℕ) (rest : List Side) → n ≤ job_entries_in rest → job_entries_in (until_jobs n rest) ≡ n
jobs_counted zero rest le = refl
jobs_counted (suc n) [] le = omega (arith, le)
jobs_counted (suc n) (OfJobs ∷ rest) le =
    let less : n ≤ job_entries_in rest = omega (arith, le) in
    let k = jobs_counted n rest less in omega (arith, k)
jobs_counted (suc n) (OfChannels ∷ rest) le = jobs_counted (suc n) rest le

behind : {A : Type 0} (before more rest order : List A) → IsPrefix more rest → before ++ rest ≡ order → IsPrefix (before ++ more) order
behind before more rest order (u, e) is = (u, append_assoc before more u ∙ ap (λ l. before ++ l) e ∙ is)

pub longer_list : {A : Type 0} (xs ys : List A) → IsPrefix xs ys → length xs ≤ length ys
longer_list xs ys (a, e) =
    let parts = length-append xs a in
    let whole : length (xs ++ a) ≡ length ys = ap length e in
    omega (arith, parts, whole)

pub front_of : {A : Type 0} (xs ys : List A) → IsPrefix xs ys → take (length xs) ys ≡ xs
front_of xs ys (a, e) = ap (λ l. take (length xs) l) (sym e) ∙ take-append_seam xs a

-- ---- points

module _ (shape : Shape) (k : ℕ) (c : List Entry) (j : List JobEntry) (order : List Side) where
  abbrev now : Moment
  now = record { channels = c; jobs = j }

  -- what was told of channels, by who made no act on a Job between the point before and the end of the order
  pub points_of_channels : (jobs : List JobEntry) (items : List Item) (told : List Told) (earlier : Moment) (before : List Side)
      → channel_entries_in order ≡ length c → IsPrefix before order → channel_entries_in before ≤ length earlier.channels
      → ((point : List Side) → IsPrefix before point → IsPrefix point order
      → job_acts_of k (take (job_entries_in point) j) ≡ job_acts_in items) → AreAll IsOfChannels told
      → IsTrue (story_of shape k (record { channels = c; jobs = jobs })) items earlier told
      → IsTrueAlong (story_of shape k now) order items before told
  unfolding IsTrue IsTrueAlong
  points_of_channels jobs items [] earlier before all pre few own of t = tt
  points_of_channels jobs items (x ∷ told) earlier before all (rest, is) few own (one, of) (at, so, more) =
      let some = longer_list earlier.channels at.channels so.not_before.channels in
      let most = longer_list at.channels c so.not_after.channels in
      let n : ℕ = length at.channels - channel_entries_in before in
      let parts = channel_entries_in-append before rest in
      let whole : channel_entries_in (before ++ rest) ≡ channel_entries_in order = ap channel_entries_in is in
      let room : n ≤ channel_entries_in rest = omega (arith, some, most, few, parts, whole, all) in
      let point : List Side = before ++ until_channels n rest in
      let sum = channel_entries_in-append before (until_channels n rest) in
      let count = channels_counted n rest room in
      let number : channel_entries_in point ≡ length at.channels = omega (arith, sum, count, some, few) in
      let there : take (channel_entries_in point) c ≡ at.channels
      = ap (λ m. take m c) number ∙ front_of at.channels c so.not_after.channels in
      let from : IsPrefix before point = (until_channels n rest, refl) in
      let to : IsPrefix point order = behind before (until_channels n rest) rest order (channels_begin n rest) is in
      let less : channel_entries_in point ≤ length at.channels = omega (arith, number) in (
        point,
        record {
          not_before = from;
          not_after = to;
          channel_acts = ap (acts_of k) there ∙ so.channel_acts;
          job_acts = own point from to;
          holds = whatever_jobs shape x (replay (take (channel_entries_in point) c)) (replay_jobs at.jobs)
              (replay_jobs (take (job_entries_in point) j)) one
              (subst (λ l. ToldHolds shape x (replay l) (replay_jobs at.jobs)) (sym there) so.holds);
        },
        points_of_channels jobs (with_told x items) told at point all to less
            (λ q a b. own q (order_then before point q from a) b ∙ sym (same_jobs x items one)) of more,
      )

  -- what was told of Jobs, by who made no act on a channel meanwhile
  pub points_of_jobs : (channels : List Entry) (items : List Item) (told : List Told) (earlier : Moment) (before : List Side)
      → job_entries_in order ≡ length j → IsPrefix before order → job_entries_in before ≤ length earlier.jobs
      → ((point : List Side) → IsPrefix before point → IsPrefix point order
      → acts_of k (take (channel_entries_in point) c) ≡ channel_acts_in items) → AreAll IsOfJobs told
      → IsTrue (story_of shape k (record { channels = channels; jobs = j })) items earlier told
      → IsTrueAlong (story_of shape k now) order items before told
  unfolding IsTrue IsTrueAlong
  points_of_jobs channels items [] earlier before all pre few own of t = tt
  points_of_jobs channels items (x ∷ told) earlier before all (rest, is) few own (one, of) (at, so, more) =
      let some = longer_list earlier.jobs at.jobs so.not_before.jobs in
      let most = longer_list at.jobs j so.not_after.jobs in
      let n : ℕ = length at.jobs - job_entries_in before in
      let parts = job_entries_in-append before rest in
      let whole : job_entries_in (before ++ rest) ≡ job_entries_in order = ap job_entries_in is in
      let room : n ≤ job_entries_in rest = omega (arith, some, most, few, parts, whole, all) in
      let point : List Side = before ++ until_jobs n rest in
      let sum = job_entries_in-append before (until_jobs n rest) in
      let count = jobs_counted n rest room in
      let number : job_entries_in point ≡ length at.jobs = omega (arith, sum, count, some, few) in
      let there : take (job_entries_in point) j ≡ at.jobs
      = ap (λ m. take m j) number ∙ front_of at.jobs j so.not_after.jobs in
      let from : IsPrefix before point = (until_jobs n rest, refl) in
      let to : IsPrefix point order = behind before (until_jobs n rest) rest order (jobs_begin n rest) is in
      let less : job_entries_in point ≤ length at.jobs = omega (arith, number) in (
        point,
        record {
          not_before = from;
          not_after = to;
          channel_acts = own point from to;
          job_acts = ap (job_acts_of k) there ∙ so.job_acts;
          holds = whatever_channels shape x (replay at.channels) (replay (take (channel_entries_in point) c))
              (replay_jobs (take (job_entries_in point) j)) one
              (subst (λ l. ToldHolds shape x (replay at.channels) (replay_jobs l)) (sym there) so.holds);
        },
        points_of_jobs channels (with_told x items) told at point all to less
            (λ q a b. own q (order_then before point q from a) b ∙ sym (same_channels x items one)) of more,
      )

-- ---- each of a list

pub all_then : (holds : Told → Type 0) (xs ys : List Told) → AreAll holds xs → AreAll holds ys → AreAll holds (xs ++ ys)
all_then holds [] ys h k = k
all_then holds (x ∷ xs) ys h k = (h.0, all_then holds xs ys h.1 k)

pub all_did : (acts : List JobAct) → AreAll IsOfJobs (map did acts)
all_did [] = tt
all_did (act ∷ acts) = (tt, all_did acts)

pub all_made : {A : Type 0} (act : A → Act) (xs : List A) → AreAll IsOfChannels (map (λ x. made (act x)) xs)
all_made act [] = tt
all_made act (x ∷ xs) = (tt, all_made act xs)
