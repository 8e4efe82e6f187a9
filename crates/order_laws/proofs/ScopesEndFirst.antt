-- The child ended after its send was refused, and before main saw the end of the scope; main closed the channel later: so it was open.
use Rattle.std.specs.Prelude.{◌≡◌, ℕ, suc, ◌<◌, ◌≤◌, false, List, [], ◌∷◌, Some, take}
use Rattle.std.proofs.Common.{arith, ⊎_elim}
use mathlib.Core.List.{IsPrefix}
use Rattle.channel_model.specs.declared.acts.Act.TheVariants.{Await, Settle}
use Rattle.channel_model.specs.declared.acts.ChannelNote.TheVariants as heard
use Rattle.channel_model.specs.declared.acts.Settled.TheVariants.{Closed}
use Rattle.channel_model.specs.Histories.{replay, replay_from, acts_of}
use Rattle.job_model.specs.declared.acts.End.TheVariants.{Completed}
use Rattle.job_model.specs.declared.acts.JobAct.TheVariants.{Attach, EndBody}
use Rattle.job_model.specs.declared.acts.JobNote.TheVariants as known
use Rattle.job_model.specs.Trees.{plain}
use Rattle.job_model.specs.Histories.{replay as replay_jobs, replay_from as replay_jobs_from, acts_of as job_acts_of}
use Rattle.note_book.specs.declared.book.Item.TheVariants as item
use Rattle.call_meaning.specs.Facts.{IsClosedWith, end_at}
use Rattle.call_meaning.specs.Stories.{Moment}
use Rattle.script_grammar.specs.Tags.{coroutine_count, layouts_from}
use Rattle.script_meaning.specs.Books.{BooksOf, story}
use Rattle.co_base.specs.Orders.{Side, channel_entries_in, job_entries_in}
use Rattle.run_laws.specs.Orders.{InOneOrder}
use Rattle.call_meaning.proofs.OrderCounts.{fewer_channel_entries, fewer_job_entries}
use Rattle.order_laws.specs.StaleAnswers.{noted, job_noted}
use Rattle.order_laws.specs.BrokenScopes.{program, channels, jobs, books, wait, scoped}
use Rattle.order_laws.proofs.PointsNoted.{noted_at}
use Rattle.run_laws.proofs.OneOrder.{one_goes_on}

abbrev now : Moment
now = record { channels = channels; jobs = jobs }

-- ---- where the child's send is refused

-- main has closed the channel
close_came : (n : ℕ) → IsClosedWith 0 0 (replay (take n channels)) → 6 ≤ n
unfolding replay_from
close_came (suc (suc (suc (suc (suc (suc n)))))) h = omega arith
close_came fewer h = cc

-- the child's body has not ended
child_goes_on : (n : ℕ) → job_acts_of 1 (take n jobs) ≡ [] → n ≤ 4
unfolding job_acts_of
child_goes_on (suc (suc (suc (suc (suc n))))) e = cc
child_goes_on fewer e = omega arith

-- ---- where main sees the end of the scope

-- it has not closed the channel
not_closed : (n : ℕ) → acts_of 0 (take n channels) ≡ Await 4 0 wait 0 ∷ Settle wait (Closed 0 0) ∷ [] → n ≤ 5
unfolding acts_of
not_closed (suc (suc (suc (suc (suc (suc n)))))) e = cc
not_closed fewer e = omega arith

-- the scope's Job has ended, and so has the child's
scope_ended : (n : ℕ) → end_at (replay_jobs (take n jobs) 3) ≡ Some (Completed 0) → 11 ≤ n
unfolding replay_jobs_from
scope_ended (suc (suc (suc (suc (suc (suc (suc (suc (suc (suc (suc n))))))))))) e = omega arith
scope_ended fewer e = cc

-- ---- no order

crossed : (order refusal sight : List Side) → IsPrefix refusal order → IsPrefix sight order → 6 ≤ channel_entries_in refusal
    → job_entries_in refusal ≤ 4 → channel_entries_in sight ≤ 5 → 11 ≤ job_entries_in sight → ⊥
crossed order refusal sight a b closed alive not_yet ended =
    ⊎_elim
    (λ (p : IsPrefix refusal sight).
    let few = fewer_channel_entries refusal sight p in
    let no_way : ⊥ = omega (arith, few, closed, not_yet) in
    no_way)
    (λ (p : IsPrefix sight refusal).
    let few = fewer_job_entries sight refusal p in
    let no_way : ⊥ = omega (arith, few, alive, ended) in
    no_way)
    (one_goes_on refusal sight order a b)

some : (0 < coroutine_count program) × (1 < coroutine_count program)
unfolding layouts_from
some = (omega arith, omega arith)

pub scope_without_order : (of : BooksOf program books channels jobs) → InOneOrder program books channels jobs of → ⊥
scope_without_order of h =
    let main = h.runs 0 some.0 in
    let child = h.runs 1 some.1 in
    let refusal = noted_at (story program 1 now) h.order [] [] child.told [] (item.Channel (heard.SendClosed 0 1 0)) _ child.written
    child.is_true in
    let sight = noted_at (story program 0 now) h.order [] [] main.told (job_noted (Attach 0 3 scoped 0 false)
    ∷ job_noted (Attach 3 1 plain 1 false)
    ∷ job_noted (Attach 3 2 plain 2 false)
    ∷ job_noted (EndBody 3 0)
    ∷ noted (Await 4 0 wait 0)
    ∷ noted (Settle wait (Closed 0 0)) ∷ []) (item.Job (known.SawEnd 3 (Completed 0))) _ main.written main.is_true in
    crossed h.order refusal.0 sight.0 refusal.1.not_after sight.1.not_after
    (close_came (channel_entries_in refusal.0) refusal.1.holds)
    (child_goes_on (job_entries_in refusal.0) refusal.1.job_acts)
    (not_closed (channel_entries_in sight.0) sight.1.channel_acts)
    (scope_ended (job_entries_in sight.0) sight.1.holds)
