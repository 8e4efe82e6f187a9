-- The ends of bodies.
use Rattle.std.specs.Prelude.{◌≡◌, ℕ, true, false, List, [], ◌∷◌, ◌++◌, Option, Some, None, Result, Ok, Err, is_some, option_map, refl}
use Rattle.std.specs.List.{list_all}
use Rattle.std.proofs.Common.{sym, ap, ◌∙◌, subst, inr}
use mathlib.Core.List.{append_assoc}
use Rattle.co_base.specs.declared.names.Memory.{Memory}
use Rattle.channel_model.proofs.Spans as spans
use Rattle.job_model.specs.declared.acts.JobAct.{JobAct}
use Rattle.job_model.specs.declared.acts.JobAct.TheVariants.{Attach, Start, EndBody, Cancel, Finish, Gone}
use Rattle.job_model.specs.declared.acts.JobNote.{JobNote}
use Rattle.job_model.specs.declared.acts.JobNote.TheVariants as of_job
use Rattle.job_model.specs.declared.acts.JobEntry.{JobEntry}
use Rattle.job_model.specs.declared.floor.Ended.{Ended}
use Rattle.job_model.specs.Trees.{Job, Tree, is_childless}
use Rattle.job_model.specs.Effects.{without_body}
use Rattle.job_model.specs.Needs.{MayEndBody}
use Rattle.job_model.specs.Histories.{replay, Legal}
use Rattle.job_model.specs.Answers.{is_owed, IsNotDone, EndBodyAnswer}
use Rattle.job_model.specs.Floors.{Floor, HasRoom, Added, AtEntry}
use Rattle.job_model.proofs.Histories.{replay_push, Legal-last}
use Rattle.job_model.proofs.Families.{changed_here}
use Rattle.job_model.proofs.Spans.{nothing_more, added_made, entry_made, entry_before, entry_after, added_room}
use Rattle.note_book.specs.declared.book.Item.{Item}
use Rattle.note_book.specs.declared.book.Item.TheVariants as item
use Rattle.note_book.specs.Items.{job_act, job_acts_in}
use Rattle.call_meaning.specs.Telling.{Told, on_jobs, MayRun, NotNew, IsCancelling, OwesNoEnd, items_in, did}
use Rattle.call_meaning.specs.JobCalls.{Starts, Chain, EndsBody}
use Rattle.call_meaning.specs.Prefixes.{PrefixOf}
use Rattle.call_meaning.specs.Seen.{SeenOnJobs, SeenOnBoth, jobs_of}
use Rattle.call_meaning.specs.Calls.{ToldOnJobs, ToldOnBoth}
use Rattle.call_meaning.proofs.JobTellings.{items_in-append, told_did, told_so, both_then, both_jobs}
use Rattle.call_meaning.specs.Orders.{IsToldOfJobs}
use Rattle.call_meaning.proofs.HeardCalls.{both_none}
use Rattle.call_meaning.proofs.Prefixes.{prefix_behind}
use Rattle.job_tree.specs.Notes.{made_note}
use Rattle.job_tree.specs.Passes.{is_cancel}
use Rattle.call_meaning.specs.Endings.{ClosesAtOnce}
use Rattle.scope_builders.specs.Dones.{KeepsDones}
use Rattle.scope_builders.specs.Calls.{TellsBoth, EndedJob, EndedAnswer, BeginsToBreakOff, BrokeJob, BrokenAnswer, JoinStarts}
use Rattle.scope_builders.specs.Parts.{IsCancelledFirst, HasBegunToBreak, FinishedUp}
use Rattle.scope_builders.proofs.ChannelsTold as channels
use Rattle.scope_builders.proofs.DonesKept.{quiet_kept, kept_then}
use Rattle.scope_builders.proofs.Rooms.{IsRoomed, told_roomed, added_roomed}

-- ---- the end of a body

-- the EndBody was told, and whether a child lived then
pub record EndedBody (row value : ℕ) (a b : SeenOnJobs) (answer : Ended) : Type 0 where
  pub noted : ToldOnJobs [] a b (did (EndBody row value) ∷ [])
  pub owes : AtEntry a.who [] (EndBody row value) a.floor b.floor (λ tree. is_childless (tree row) ≡ is_owed answer)

pub ended_body : {row value n : ℕ} {a b c : SeenOnJobs} {answer : Ended} → IsRoomed n a b
    → EndBodyAnswer a.who row value b.floor c.floor answer
    → c.who ≡ a.who → c.items ≡ b.items ++ made_note (EndBody row value) ∷ [] → EndedBody row value a c answer
ended_body {row} {value} {n} {a} {b} {c} {answer} h m w f =
    let who : ℕ = a.who in
    let act : JobAct = EndBody row value in
    let told : ToldOnJobs [] (record b { who = who }) c (did act ∷ []) = told_did act w f m.made in
    let Owes : Tree → Type 0 = λ tree. is_childless (tree row) ≡ is_owed answer in
    let made = entry_made who act [] b.floor c.floor Owes m.made (sym m.owes) in
    record {
      noted = told_roomed (record { who = refl; items = h.items; room = h.room }) told;
      owes = entry_after who [] [] act [] a.floor b.floor c.floor Owes (added_room who n a.floor b.floor h.room) made;
    }

-- a Job whose body may be ended is attached
pub own_attached : (who : ℕ) (x : Option Job) → MayEndBody who x → is_some x ≡ true
own_attached who None m = absurd m
own_attached who (Some j) m = refl

pub body_added : {who row value n : ℕ} {a b c : Floor} {answer : Ended} → HasRoom n a b → EndBodyAnswer who row value b c answer
    → Added who (EndBody row value ∷ []) [] a c
body_added {who} {row} {value} {n} {a} {b} {c} h m =
    added_roomed who n (EndBody row value ∷ []) [] a b c h (added_made who (EndBody row value) [] b c m.made)

-- ---- what the Jobs were, by another name

pub body_as : (who row value : ℕ) (a : Floor) (answer : Ended) {b c : Floor} → c ≡ b → EndBodyAnswer who row value a b answer
    → EndBodyAnswer who row value a c answer
body_as who row value a answer e h = subst (λ (x : Floor). EndBodyAnswer who row value a x answer) (sym e) h

pub begun_as : {row who : ℕ} {failure : Option ℕ} {a : SeenOnJobs} {b c : Floor} {items : List Item} → c ≡ b
    → HasBegunToBreak row failure a (record { who = who; floor = b; items = items })
    → HasBegunToBreak row failure a (record { who = who; floor = c; items = items })
begun_as {row} {who} {failure} {a} {items = items} e h =
    subst (λ (x : Floor). HasBegunToBreak row failure a (record { who = who; floor = x; items = items })) (sym e) h

pub first_as : {row who : ℕ} {failure : Option ℕ} {a : SeenOnJobs} {b c : Floor} {items : List Item} → c ≡ b
    → IsCancelledFirst row failure a (record { who = who; floor = b; items = items })
    → IsCancelledFirst row failure a (record { who = who; floor = c; items = items })
first_as {row} {who} {failure} {a} {items = items} e h =
    subst (λ (x : Floor). IsCancelledFirst row failure a (record { who = who; floor = x; items = items })) (sym e) h

-- ---- end_job

still_lives : (who v : ℕ) (x : Option Job) → MayEndBody who x → is_childless x ≡ false → IsNotDone (option_map (without_body v) x)
still_lives who v None m e = absurd m
still_lives who v (Some j) m e = e

-- a child lived as the body ended: the Job owes no end
body_not_done : (who row value : ℕ) (a b : Floor) (answer : Ended) → Legal b.shape b.seen → is_owed answer ≡ false
    → EndBodyAnswer who row value a b answer → IsNotDone (replay b.seen row)
body_not_done who row value a b answer l n m =
    let entry : JobEntry = record { who = who; act = EndBody row value } in
    let need = (Legal-last b.shape m.made.before entry (subst (Legal b.shape) m.made.last l)).1 in
    subst IsNotDone (sym (ap (λ t. t row) (ap replay m.made.last ∙ replay_push m.made.before entry)
    ∙ changed_here row (without_body value) (replay m.made.before)))
    (still_lives who value (replay m.made.before row) need (sym m.owes ∙ n))

pub ended_alone : {base row value n : ℕ} {a d : SeenOnBoth} {b : SeenOnJobs} {answer : Ended} → IsRoomed n (jobs_of a) b
    → Legal d.jobs.shape d.jobs.seen → is_owed answer ≡ false → IsToldOfJobs a.who a.channels d.channels d.jobs
    → EndBodyAnswer a.who row value b.floor d.jobs answer
    → d.who ≡ a.who → d.items ≡ b.items ++ made_note (EndBody row value) ∷ [] → EndedJob base row value a d answer
unfolding items_in
ended_alone {base} {row} {value} {n} {a} {d} {b} {answer} r l o same m w f =
    let who : ℕ = a.who in
    let h : EndedBody row value (jobs_of a) (jobs_of d) answer = ended_body r m w f in
    let added = body_added r.room m in
    let none = spans.added_looked who a.channels d.channels same.looked in
    record {
      told = did (EndBody row value) ∷ on_jobs (OwesNoEnd row) ∷ [];
      group = EndsBody.ends_body (on_jobs (OwesNoEnd row) ∷ []) (Chain.stops row);
      noted = both_jobs none same.told (told_so (OwesNoEnd row) h.noted (inr (body_not_done who row value b.floor d.jobs answer l o m)));
      owes = h.owes;
      dones = quiet_kept base (made_note (EndBody row value) ∷ []) l added none (tt, tt);
    }

body_kept : (base row value : ℕ) {a b : SeenOnBoth} → Legal b.jobs.shape b.jobs.seen → Added a.who (EndBody row value ∷ []) [] a.jobs b.jobs
    → IsToldOfJobs a.who a.channels b.channels b.jobs → KeepsDones base a b (items_in (did (EndBody row value) ∷ []))
unfolding items_in
body_kept base row value {a} {b} l h same =
    quiet_kept base (made_note (EndBody row value) ∷ []) l h (spans.added_looked a.who a.channels b.channels same.looked) (tt, tt)

first_item : (row value : ℕ) (told : List Told) → items_in (did (EndBody row value) ∷ [])
    ++ items_in told ≡ items_in (did (EndBody row value) ∷ told)
unfolding items_in
first_item row value told = refl

-- the body of a Job was ended, on the floor of Jobs alone, of which the channels were told then
pub record HasEndedBody (row value : ℕ) (a b : SeenOnBoth) (answer : Ended) : Type 0 where
  pub legal : Legal b.jobs.shape b.jobs.seen
  pub same : IsToldOfJobs a.who a.channels b.channels b.jobs
  pub added : Added a.who (EndBody row value ∷ []) [] a.jobs b.jobs
  pub body : EndedBody row value (jobs_of a) (jobs_of b) answer

-- the first part was told, on the floor of Jobs alone
first_noted : {a b : SeenOnBoth} {told : List Told} → IsToldOfJobs a.who a.channels b.channels b.jobs
    → ToldOnJobs [] (jobs_of a) (jobs_of b) told → ToldOnBoth [] a b told
first_noted {a} {b} same h = both_jobs (spans.added_looked a.who a.channels b.channels same.looked) same.told h

up_noted : {base row value : ℕ} {a b c : SeenOnBoth} {answer : Ended} {r : Result (Unit {0}) Memory} → HasEndedBody row value a b answer
    → (k : FinishedUp base row b c r) → ToldOnBoth [] a c (did (EndBody row value) ∷ k.told)
up_noted {a = a} {b = b} h k = both_then (first_noted h.same h.body.noted) k.noted

up_kept : {base row value : ℕ} {a b c : SeenOnBoth} {answer : Ended} {r : Result (Unit {0}) Memory} → HasEndedBody row value a b answer
    → (k : FinishedUp base row b c r) → KeepsDones base a c (items_in (did (EndBody row value) ∷ k.told))
up_kept {base} {row} {value} {a} {b} {c} h k =
    let alone = h.same.looked.same.alone in
    subst (KeepsDones base a c) (first_item row value k.told)
    (kept_then alone h.added.same.alone (body_kept base row value h.legal h.added h.same) k.dones)

-- no child lived: the chain of ends
pub ended_up : {base row value : ℕ} {a b c : SeenOnBoth} {answer : Ended} → HasEndedBody row value a b answer
    → FinishedUp base row b c (Ok tt)
    → EndedJob base row value a c answer
ended_up {row = row} {value = value} {a = a} {b = b} {c = c} {answer = answer} h k = record {
  told = did (EndBody row value) ∷ k.told;
  group = EndsBody.ends_body k.told k.chain;
  noted = up_noted h k;
  owes = entry_before a.who [] (EndBody row value) a.jobs b.jobs c.jobs (λ tree. is_childless (tree row) ≡ is_owed answer) h.body.owes
      k.noted.jobs.longer;
  dones = up_kept h k;
}

pub ended_some : {base row value : ℕ} {a b c : SeenOnBoth} {answer : Ended} {m : Memory} → HasEndedBody row value a b answer
    → FinishedUp base row b c (Err m) → TellsBoth base (PrefixOf (EndsBody base row value)) a c
ended_some {base} {row} {value} h k = record {
  told = did (EndBody row value) ∷ k.told;
  goes = prefix_behind (Chain base row) (EndsBody base row value) (did (EndBody row value) ∷ []) (λ all chain. EndsBody.ends_body all chain)
      k.told k.chain;
  noted = up_noted h k;
  dones = up_kept h k;
}

-- no memory: nothing was done
pub did_none : {base : ℕ} {P : List Told → Type 0} {a b : SeenOnBoth} → P [] → Legal b.jobs.shape b.jobs.seen → b.channels ≡ a.channels
    → ToldOnJobs [] (jobs_of a) (jobs_of b) [] → TellsBoth base P a b
unfolding items_in
did_none {base} {P} {a} {b} goes l same h =
    let none = channels.same_called a.who a.channels b.channels same in
    record { told = []; goes = goes; noted = both_none none h; dones = quiet_kept base [] l h.added none tt }

-- what a body that ends tells begins with nothing; so does an await, and a join
pub ends_nothing : (base row value : ℕ) → PrefixOf (EndsBody base row value) []
ends_nothing base row value = record {
  rest = did (EndBody row value) ∷ on_jobs (OwesNoEnd row) ∷ [];
  all =
      EndsBody.ends_body (on_jobs (OwesNoEnd row) ∷ []) (Chain.stops row);
}

pub starts_nothing : (row : ℕ) → PrefixOf (Starts row) []
starts_nothing row = record { rest = on_jobs (NotNew row) ∷ []; all = Starts.before }

pub joins_nothing : (own row : ℕ) → PrefixOf (JoinStarts own row) []
joins_nothing own row = record {
  rest = on_jobs (MayRun own) ∷ on_jobs (NotNew row) ∷ [];
  all =
      (on_jobs (NotNew row) ∷ [], Starts.before, refl);
}

-- ---- break_job

note_quiet : (base : ℕ) (n : JobNote) (more : List Item) → list_all is_cancel (job_act n ++ job_acts_in more) ≡ true
    → (list_all is_cancel (job_acts_in more) ≡ true → ClosesAtOnce base more) → ClosesAtOnce base (item.Job n ∷ more)
note_quiet base (of_job.Made (Attach p r kind tag cancelled)) more e h = cc
note_quiet base (of_job.Made (Start r)) more e h = cc
note_quiet base (of_job.Made (EndBody r v)) more e h = cc
note_quiet base (of_job.Made (Cancel r reason)) more e h = (tt, h e)
note_quiet base (of_job.Made (Finish r end)) more e h = cc
note_quiet base (of_job.Made (Gone r)) more e h = cc
note_quiet base (of_job.Saw row) more e h = (tt, h e)
note_quiet base other more e h = (tt, h e)

-- Cancels end no Job
cancels_quiet : (base : ℕ) (items : List Item) → list_all is_cancel (job_acts_in items) ≡ true → ClosesAtOnce base items
cancels_quiet base [] e = tt
cancels_quiet base (item.Channel n ∷ items) e = (tt, cancels_quiet base items e)
cancels_quiet base (item.Job n ∷ items) e = note_quiet base n items e (cancels_quiet base items)

break_items : (cancels end : List Told) (row : ℕ) → items_in (cancels ++ on_jobs (IsCancelling row) ∷ []) ≡ items_in cancels
unfolding items_in
break_items cancels end row = items_in-append cancels (on_jobs (IsCancelling row) ∷ []) ∙ nothing_more (items_in cancels)

-- floors that nobody else calls, while the Job is cancelled
first_kept : {base : ℕ} {a b : SeenOnBoth} (told : List Told) → Legal b.jobs.shape b.jobs.seen
    → IsToldOfJobs a.who a.channels b.channels b.jobs → Added a.who (job_acts_in (items_in told)) [] a.jobs b.jobs
    → ClosesAtOnce base (items_in told) → KeepsDones base a b (items_in told)
first_kept {base} {a} {b} told l same h quiet =
    quiet_kept base (items_in told) l h (spans.added_looked a.who a.channels b.channels same.looked) quiet

-- no memory: the cancellations were begun alone
pub did_cancels : (m : Memory) {base row : ℕ} {failure : Option ℕ} {a b : SeenOnBoth} → Legal b.jobs.shape b.jobs.seen
    → IsToldOfJobs a.who a.channels b.channels b.jobs
    → HasBegunToBreak row failure (jobs_of a) (jobs_of b) → BrokenAnswer base row failure a b (Err m)
did_cancels m {base} l same h = record {
  told = h.told;
  goes = BeginsToBreakOff.cancels h.told h.begun;
  noted = first_noted same h.noted;
  dones = first_kept h.told l same h.noted.added (cancels_quiet base (items_in h.told) h.cancels);
}

behind : (told more : List Told) (row : ℕ) → (told ++ on_jobs (IsCancelling row) ∷ []) ++ more ≡ told ++ on_jobs (IsCancelling row) ∷ more
behind told more row = append_assoc told (on_jobs (IsCancelling row) ∷ []) more

-- what came first, and what the end of the body told
module _ {row : ℕ} {failure : Option ℕ} {a b c : SeenOnBoth} (l : Legal b.jobs.shape b.jobs.seen)
    (same : IsToldOfJobs a.who a.channels b.channels b.jobs) (h : IsCancelledFirst row failure (jobs_of a) (jobs_of b)) where
  broke_noted : (told : List Told) → ToldOnBoth [] b c told → ToldOnBoth [] a c (h.told ++ on_jobs (IsCancelling row) ∷ told)
  broke_noted told k =
      let all : ToldOnBoth [] a c ((h.told ++ on_jobs (IsCancelling row) ∷ []) ++ told) = both_then (first_noted same h.noted) k in
      subst (ToldOnBoth [] a c) (behind h.told told row) all

  broke_kept : {base : ℕ} (told : List Told) → KeepsDones base b c (items_in told)
      → KeepsDones base a c (items_in (h.told ++ on_jobs (IsCancelling row) ∷ told))
  broke_kept {base} told k =
      let first : List Told = h.told ++ on_jobs (IsCancelling row) ∷ [] in
      let few = ap (λ (x : List Item). list_all is_cancel (job_acts_in x)) (break_items h.told told row) ∙ h.cancels in
      let quiet : ClosesAtOnce base (items_in first) = cancels_quiet base (items_in first) few in
      let kept : KeepsDones base a b (items_in first) = first_kept first l same h.noted.added quiet in
      let alone = same.looked.same.alone in
      subst (KeepsDones base a c) (sym (items_in-append first told) ∙ ap items_in (behind h.told told row))
      (kept_then alone h.noted.added.same.alone kept k)

-- the body broke off
broke_job : {base row : ℕ} {failure : Option ℕ} {a b c : SeenOnBoth} {answer : Ended} → Legal b.jobs.shape b.jobs.seen
    → IsToldOfJobs a.who a.channels b.channels b.jobs
    → IsCancelledFirst row failure (jobs_of a) (jobs_of b) → EndedJob base row 0 b c answer → BrokeJob base row failure a c answer
broke_job {base} {row} {failure} {a} {b} {c} {answer} l same h k =
    let who : ℕ = a.who in
    let acts : List JobAct = job_acts_in (items_in h.told) in
    let Owes : Tree → Type 0 = λ tree. is_childless (tree row) ≡ is_owed answer in
    let added : Added who acts [] a.jobs b.jobs =
    subst (λ (x : List Item). Added who (job_acts_in x) [] a.jobs b.jobs) (break_items h.told k.told row) h.noted.added in
    let owes : AtEntry who [] (EndBody row 0) b.jobs c.jobs Owes =
    subst (λ n. AtEntry n [] (EndBody row 0) b.jobs c.jobs Owes) h.noted.who k.owes in
    record {
      told = h.told ++ on_jobs (IsCancelling row) ∷ k.told;
      group = record { cancels = h.told; end = k.told; breaks = h.breaks; ends = k.group; all = refl };
      noted = broke_noted l same h k.told k.noted;
      owes = subst (λ (xs : List JobAct). AtEntry who xs (EndBody row 0) a.jobs c.jobs Owes) (nothing_more acts)
          (entry_after who acts [] (EndBody row 0) [] a.jobs b.jobs c.jobs Owes added owes);
      dones = broke_kept l same h k.told k.dones;
    }

pub broken : (base : ℕ) {row : ℕ} {failure : Option ℕ} (a b c : SeenOnBoth) (r : Result Ended Memory) → Legal b.jobs.shape b.jobs.seen
    → IsToldOfJobs a.who a.channels b.channels b.jobs → IsCancelledFirst row failure (jobs_of a) (jobs_of b) → EndedAnswer base row 0 b c r
    → BrokenAnswer base row failure a c r
broken base a b c (Ok answer) l same h k = broke_job l same h k
broken base {row} a b c (Err memory) l same h k = record {
  told = h.told ++ on_jobs (IsCancelling row) ∷ k.told;
  goes = BeginsToBreakOff.ends h.told k.told h.breaks k.goes;
  noted = broke_noted l same h k.told k.noted;
  dones = broke_kept l same h k.told k.dones;
}
