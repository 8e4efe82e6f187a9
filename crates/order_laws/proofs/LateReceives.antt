-- The wait was resolved by a hand that came behind the cancel, and the receiver's Job might run at a later point: so it was not cancelled.
use Rattle.std.specs.Prelude.{◌≡◌, ℕ, zero, suc, ◌<◌, ◌≤◌, false, List, [], ◌∷◌, take}
use Rattle.std.proofs.Common.{subst, arith, ⊎_elim}
use mathlib.Core.List.{IsPrefix}
use Rattle.channel_model.specs.declared.acts.Act.TheVariants.{Hand, Settle}
use Rattle.channel_model.specs.declared.acts.Settled.TheVariants.{Value}
use Rattle.channel_model.specs.Answers.{IsResolvedWait}
use Rattle.channel_model.specs.Histories.{replay, replay_from, acts_of}
use Rattle.job_model.specs.declared.acts.JobAct.TheVariants.{Attach, Cancel}
use Rattle.job_model.specs.declared.acts.Reason.TheVariants as reasons
use Rattle.job_model.specs.Trees.{plain}
use Rattle.job_model.specs.Histories.{replay as replay_jobs, replay_from as replay_jobs_from, acts_of as job_acts_of}
use Rattle.note_book.specs.declared.book.Item.{Item}
use Rattle.call_meaning.specs.Telling.{Told, on_channels, on_jobs, IsResolved, MayRun, made}
use Rattle.call_meaning.specs.Facts.{IsRunning}
use Rattle.call_meaning.specs.Stories.{Moment}
use Rattle.script_grammar.specs.Tags.{coroutine_count, layouts_from}
use Rattle.script_meaning.specs.Books.{BooksOf, story}
use Rattle.co_base.specs.Orders.{Side, channel_entries_in, job_entries_in}
use Rattle.call_meaning.specs.Orders.{IsTrueAlong}
use Rattle.run_laws.specs.Orders.{InOneOrder}
use Rattle.call_meaning.proofs.OrderCounts.{fewer_channel_entries, fewer_job_entries}
use Rattle.order_laws.specs.StaleAnswers.{noted, job_noted}
use Rattle.order_laws.specs.LateReceives.{program, channels, jobs, books, wait}
use Rattle.order_laws.proofs.PointsNoted.{along_rest, noted_at}
use Rattle.order_laws.proofs.ReceiverMoves.{told_behind}
use Rattle.run_laws.proofs.OneOrder.{one_goes_on}

abbrev now : Moment
now = record { channels = channels; jobs = jobs }

-- ---- how far the histories are

-- main has handed the element
handed : (n : ℕ) → IsResolvedWait ((replay (take n channels)).waits wait) → 2 ≤ n
unfolding replay_from
handed zero h = absurd h
handed (suc zero) h = cc
handed (suc (suc n)) h = omega arith

-- main has not cancelled the receiver
not_cancelled : (n : ℕ) → IsRunning (replay_jobs (take n jobs) 1) → n ≤ 1
unfolding replay_jobs_from
not_cancelled zero h = omega arith
not_cancelled (suc zero) h = omega arith
not_cancelled (suc (suc (suc (suc (suc (suc (suc (suc n)))))))) h = cc
not_cancelled fewer h = cc

-- where main notes that it handed the element it has not, and has cancelled
not_handed : (n : ℕ) → acts_of 0 (take n channels) ≡ [] → n ≤ 1
unfolding acts_of
not_handed zero e = omega arith
not_handed (suc zero) e = omega arith
not_handed (suc (suc n)) e = cc

cancelled : (n : ℕ) → job_acts_of 0 (take n jobs) ≡ Attach 0 1 plain 1 false ∷ Cancel 1 reasons.Request ∷ [] → 2 ≤ n
unfolding job_acts_of
cancelled zero e = cc
cancelled (suc zero) e = cc
cancelled (suc (suc n)) e = omega arith

-- ---- no order

crossed : (order hand resolved : List Side) → IsPrefix hand order → IsPrefix resolved order → channel_entries_in hand ≤ 1
    → 2 ≤ job_entries_in hand → 2 ≤ channel_entries_in resolved → job_entries_in resolved ≤ 1 → ⊥
crossed order hand resolved a b early done came running =
    ⊎_elim
    (λ (p : IsPrefix hand resolved).
    let few = fewer_job_entries hand resolved p in
    let no_way : ⊥ = omega (arith, few, done, running) in
    no_way)
    (λ (p : IsPrefix resolved hand).
    let few = fewer_channel_entries resolved hand p in
    let no_way : ⊥ = omega (arith, few, came, early) in
    no_way)
    (one_goes_on hand resolved order a b)

received_late : (order hand : List Side) (items : List Item) (earlier : List Side) (more : List Told) → IsPrefix hand order
    → channel_entries_in hand ≤ 1 → 2 ≤ job_entries_in hand
    → IsTrueAlong (story program 1 now) order items earlier (on_channels (IsResolved wait) ∷ on_jobs (MayRun 1) ∷ more) → ⊥
unfolding IsTrueAlong
received_late order hand items earlier more a early done (resolved, so, (running, then_so, rest)) =
    let few = fewer_job_entries resolved running then_so.not_before in
    let alive = not_cancelled (job_entries_in running) then_so.holds in
    crossed order hand resolved a so.not_after early done (handed (channel_entries_in resolved) so.holds) (omega (arith, few, alive))

some : (0 < coroutine_count program) × (1 < coroutine_count program)
unfolding layouts_from
some = (omega arith, omega arith)

pub late_without_order : (of : BooksOf program books channels jobs) → InOneOrder program books channels jobs of → ⊥
late_without_order of h =
    let main = h.runs 0 some.0 in
    let receiver = h.runs 1 some.1 in
    let hand = noted_at (story program 0 now) h.order [] [] main.told
    (job_noted (Attach 0 1 plain 1 false) ∷ job_noted (Cancel 1 reasons.Request) ∷ []) (noted (Hand 0 0 5)) _ main.written main.is_true in
    let told = told_behind receiver.told (of.ends_at 1) receiver.reaches receiver.written in
    let rest = along_rest (story program 1 now) h.order [] [] told.before
    (on_channels (IsResolved wait) ∷ on_jobs (MayRun 1) ∷ made (Settle wait (Value 0 5)) ∷ told.after)
    (subst (IsTrueAlong (story program 1 now) h.order [] []) told.told_is receiver.is_true) in
    received_late h.order hand.0 _ rest.0 (made (Settle wait (Value 0 5)) ∷ told.after) hand.1.not_after
    (not_handed (channel_entries_in hand.0) hand.1.channel_acts) (cancelled (job_entries_in hand.0) hand.1.job_acts) rest.1
