-- A receive on a done channel behind what was told of Jobs: how a join and an await are told.
use Rattle.std.specs.Prelude.{◌≡◌, ℕ, Bool, true, false, List, [], ◌∷◌, ◌++◌, Some, Result, Ok, Err, refl}
use Rattle.std.proofs.Common.{sym, ap, ◌∙◌, subst}
use Rattle.std.proofs.lemmas.List.{append-nil}
use Rattle.co_base.specs.declared.names.Memory.{Memory}
use Rattle.co_base.specs.declared.names.WaitId.{WaitId}
use Rattle.channel_model.specs.declared.acts.Act.{Act}
use Rattle.channel_model.specs.declared.floor.WaitState.TheVariants as state
use Rattle.channel_model.specs.Channels.{State}
use Rattle.channel_model.specs.Answers.{state_of_wait}
use Rattle.channel_model.specs.Floors.{Floor as ChannelFloor, Looked, AtMoment}
use Rattle.channel_model.proofs.Spans as spans
use Rattle.job_model.specs.declared.acts.JobNote.TheVariants.{Saw}
use Rattle.job_model.specs.Histories.{Legal}
use Rattle.job_model.specs.Floors.{Floor}
use Rattle.job_model.proofs.Spans.{added_looked, looked_moment}
use Rattle.note_book.specs.declared.book.Item.TheVariants as item
use Rattle.note_book.specs.Items.{channel_acts_in}
use Rattle.note_book.proofs.Appended.{channel_acts_in-append}
use Rattle.call_meaning.specs.Telling.{Told, on_jobs, MayRun, items_in, saw}
use Rattle.call_meaning.specs.Facts.{JobFactHolds, JobNoteHolds}
use Rattle.call_meaning.specs.ChannelCalls.{Answer, Closed, Waits, NoPlace}
use Rattle.call_meaning.specs.JobCalls.{Starts}
use Rattle.call_meaning.specs.Seen.{SeenOnChannels, SeenOnBoth, channels_of, jobs_of}
use Rattle.call_meaning.specs.Calls.{ToldOnJobs, ToldOnBoth}
use Rattle.call_meaning.specs.Orders.{IsToldOfJobs}
use Rattle.call_meaning.proofs.JobTellings.{items_in-append, told_fact, told_knew, both_then, both_jobs}
use Rattle.call_meaning.proofs.Prefixes.{prefix_behind}
use Rattle.channel_calls.specs.Calls.{IsLeftWaiting}
use Rattle.scope_builders.specs.declared.builder.Joined.{Joined}
use Rattle.scope_builders.specs.declared.builder.Joined.TheVariants as joined
use Rattle.call_meaning.specs.Endings.{ClosesAtOnce}
use Rattle.scope_builders.specs.Dones.{KeepsDones}
use Rattle.scope_builders.specs.Calls.{TellsBoth, ReceivesDone, AwaitsEnd, JoinsJob, IsNothing, JoinStarts, DoneAnswer, JoinAnswer, StartedAnswer, start_told}
use Rattle.scope_builders.specs.Parts.{OwnAnswer}
use Rattle.scope_builders.proofs.DonesKept.{quiet_kept, kept_then}

-- ---- what was told of Jobs, and then a receive

-- a wait is left so too from a moment before, after which the caller made nothing of its own first
left_from : {w : WaitId} {acts : List Act} {a b c : SeenOnChannels} → b.who ≡ a.who → Looked a.who a.floor b.floor
    → IsLeftWaiting w acts b c → IsLeftWaiting w acts a c
left_from {w} {acts} {a} {b} {c} e f h =
    let Stands : State → Type 0 = λ s. state_of_wait (s.waits w) ≡ Some state.Standing in
    let stood : AtMoment a.who acts b.floor c.floor Stands = subst (λ n. AtMoment n acts b.floor c.floor Stands) e h.stood in
    record {
      stood = record {
        moment = stood.moment;
        after = spans.prefix_then a.floor.seen b.floor.seen stood.moment f.longer stood.after;
        before = stood.before;
        mine = stood.mine ∙ ap (λ (l : List Act). l ++ acts) f.mine;
        holds = stood.holds;
      };
      holds = h.holds;
    }

module _ (base : ℕ) (first : List Told) (a b c : SeenOnBoth) (quiet : ClosesAtOnce base (items_in first))
    (l : Legal b.jobs.shape b.jobs.seen)
    (same : IsToldOfJobs a.who a.channels b.channels b.jobs) (h : ToldOnJobs [] (jobs_of a) (jobs_of b) first) where
  both_noted : (told : List Told) → ToldOnBoth [] b c told → ToldOnBoth [] a c (first ++ told)
  both_noted told n = both_then (both_jobs (spans.added_looked a.who a.channels b.channels same.looked) same.told h) n

  both_kept : (told : List Told) → KeepsDones base b c (items_in told) → KeepsDones base a c (items_in (first ++ told))
  both_kept told d =
      let none = spans.added_looked a.who a.channels b.channels same.looked in
      let kept : KeepsDones base a b (items_in first) = quiet_kept base (items_in first) l h.added none quiet in
      let alone = same.looked.same.alone in
      subst (KeepsDones base a c) (sym (items_in-append first told)) (kept_then alone h.added.same.alone kept d)

  tells_then : (P Q : List Told → Type 0) → ((told : List Told) → P told → Q (first ++ told)) → TellsBoth base P b c → TellsBoth base Q a c
  tells_then P Q f t = record {
    told = first ++ t.told;
    goes = f t.told t.goes;
    noted = both_noted t.told t.noted;
    dones =
        both_kept t.told t.dones;
  }

  same_acts : (told : List Told) → channel_acts_in (items_in (first ++ told)) ≡ channel_acts_in (items_in told)
  same_acts told =
      ap channel_acts_in (items_in-append first told) ∙ channel_acts_in-append (items_in first) (items_in told)
      ∙ ap (λ (acts : List Act). acts ++ channel_acts_in (items_in told)) h.no_channels

  pub done_then : (P Q : Answer → List Told → Type 0) (S T : List Told → Type 0)
      → ((answer : Answer) (told : List Told) → P answer told → Q answer (first ++ told))
      → ((told : List Told) → S told → T (first ++ told))
      → (r : Result Joined Memory) → DoneAnswer base P S b c r → DoneAnswer base Q T a c r
  done_then P Q S T f g (Ok (joined.Closed v)) t = tells_then (P (Closed v)) (Q (Closed v)) (f (Closed v)) t
  done_then P Q S T f g (Ok (joined.Waits w)) t = (
    record {
      told = first ++ t.0.told;
      goes = f (Waits w) t.0.told t.0.goes;
      noted = both_noted t.0.told t.0.noted;
      dones = both_kept t.0.told t.0.dones;
    },
    left_from h.who same.looked (subst (λ (acts : List Act). IsLeftWaiting w acts (channels_of b) (channels_of c))
        (sym (same_acts t.0.told)) t.1),
  )
  done_then P Q S T f g (Ok joined.Cancelled) t = t
  done_then P Q S T f g (Ok joined.Spent) t = tells_then (P NoPlace) (Q NoPlace) (f NoPlace) t
  done_then P Q S T f g (Err m) t = record {
    told = first ++ t.told;
    goes = prefix_behind S T first g t.told t.goes;
    noted = both_noted t.told t.noted;
    dones = both_kept t.told t.dones;
  }

-- ---- an await

start_quiet : (base row : ℕ) (now : Bool) → ClosesAtOnce base (items_in (start_told now row))
unfolding items_in
start_quiet base row true = (tt, tt)
start_quiet base row false = tt

starts_so : (row : ℕ) (now : Bool) → Starts row (start_told now row)
starts_so row true = Starts.now
starts_so row false = Starts.before

starts_only : (row : ℕ) (now : Bool) (told : List Told) → IsNothing told → Starts row (start_told now row ++ told)
starts_only row now told e = subst (λ l. Starts row (start_told now row ++ l)) (sym e)
    (subst (Starts row) (sym (append-nil (start_told now row))) (starts_so row now))

pub awaits_told : (base row : ℕ) (now : Bool) (a b c : SeenOnBoth) (r : Result Joined Memory) → Legal b.jobs.shape b.jobs.seen
    → IsToldOfJobs a.who a.channels b.channels b.jobs → StartedAnswer row (jobs_of a) (jobs_of b) (Ok now)
    → DoneAnswer base (ReceivesDone base row) IsNothing b c r
    → DoneAnswer base (AwaitsEnd base row) (Starts row) a c r
awaits_told base row now a b c r l same h k =
    done_then base (start_told now row) a b c (start_quiet base row now) l same h (ReceivesDone base row) (AwaitsEnd base row) IsNothing
    (Starts row)
    (λ answer told goes. record { starts = start_told now row; group = told; is_started = starts_so row now; received = goes; all = refl })
    (starts_only row now) r k

-- from channels by another name
pub told_from : {who : ℕ} {a b c : ChannelFloor} {j : Floor} → b ≡ a → IsToldOfJobs who b c j → IsToldOfJobs who a c j
told_from {who} {c = c} {j = j} e h = subst (λ (x : ChannelFloor). IsToldOfJobs who x c j) e h

-- the same from the caller that the start left
pub awaits_of : {base base' : ℕ} (row : ℕ) (now : Bool) (a b c : SeenOnBoth) (r : Result Joined Memory) → base' ≡ base
    → Legal b.jobs.shape b.jobs.seen
    → IsToldOfJobs a.who a.channels b.channels b.jobs → StartedAnswer row (jobs_of a) (jobs_of b) (Ok now)
    → DoneAnswer base' (ReceivesDone base' row) IsNothing b c r
    → DoneAnswer base (AwaitsEnd base row) (Starts row) a c r
awaits_of {base} row now a b c r e l same h k =
    awaits_told base row now a b c r l same h (subst (λ n. DoneAnswer n (ReceivesDone n row) IsNothing b c r) e k)

-- ---- a join

pub own_as : (who own : ℕ) (a : Floor) (goes : Bool) {b c : Floor} → c ≡ b → OwnAnswer who own a b goes → OwnAnswer who own a c goes
own_as who own a goes e h = subst (λ (x : Floor). OwnAnswer who own a x goes) (sym e) h

own_quiet : (base own : ℕ) → ClosesAtOnce base (items_in (on_jobs (MayRun own) ∷ []))
unfolding items_in
own_quiet base own = tt

join_of : (base own row : ℕ) (a b : SeenOnBoth) (r : Result Joined Memory)
    → DoneAnswer base (JoinsJob base own row) (JoinStarts own row) a b r
    → JoinAnswer base own row a b r
join_of base own row a b (Ok (joined.Closed v)) h = h
join_of base own row a b (Ok (joined.Waits w)) h = h
join_of base own row a b (Ok joined.Cancelled) h = absurd h
join_of base own row a b (Ok joined.Spent) h = h
join_of base own row a b (Err m) h = h

-- the own Job may run, and then an await
pub joins_told : (base own row : ℕ) (a b c : SeenOnBoth) (r : Result Joined Memory) → Legal b.jobs.shape b.jobs.seen
    → IsToldOfJobs a.who a.channels b.channels b.jobs
    → b.who ≡ a.who → b.items ≡ a.items → OwnAnswer a.who own a.jobs b.jobs true → DoneAnswer base (AwaitsEnd base row) (Starts row) b c r
    → JoinAnswer base own row a c r
joins_told base own row a b c r l same w e look k =
    let added = added_looked a.who [] a.jobs b.jobs look.0 in
    let runs = looked_moment a.who [] a.jobs b.jobs (JobFactHolds (MayRun own)) look.0 look.1 in
    let told : ToldOnJobs [] (jobs_of a) (jobs_of b) (on_jobs (MayRun own) ∷ []) = told_fact (MayRun own) w e added runs in
    join_of base own row a c r
    (done_then base (on_jobs (MayRun own) ∷ []) a b c (own_quiet base own) l same told (AwaitsEnd base row) (JoinsJob base own row)
    (Starts row) (JoinStarts own row)
    (λ answer told goes. record { group = told; awaits = goes; all = refl }) (λ told s. (told, s, refl)) r k)

-- the own Job was seen Cancelling
pub join_stops : (row : ℕ) {base own : ℕ} {a b : SeenOnBoth} → Legal b.jobs.shape b.jobs.seen
    → IsToldOfJobs a.who a.channels b.channels b.jobs → b.who ≡ a.who
    → b.items ≡ a.items ++ item.Job (Saw own) ∷ [] → OwnAnswer a.who own a.jobs b.jobs false
    → JoinAnswer base own row a b (Ok joined.Cancelled)
unfolding items_in
join_stops row {base} {own} {a} {b} l same w e look =
    let added = added_looked a.who [] a.jobs b.jobs look.0 in
    let saw_it = looked_moment a.who [] a.jobs b.jobs (JobNoteHolds (Saw own)) look.0 look.1 in
    let told : ToldOnJobs [] (jobs_of a) (jobs_of b) (saw own ∷ []) = told_knew (Saw own) refl w e added saw_it in
    let none = spans.added_looked a.who a.channels b.channels same.looked in
    record {
      told = saw own ∷ [];
      goes = refl;
      noted = both_jobs none same.told told;
      dones = quiet_kept base (items_in (saw own ∷ [])) l added none (tt, tt);
    }
