-- The coroutine whose result is 0 was launched behind the send.
use Rattle.std.specs.Prelude.{◌≡◌, ℕ, zero, suc, ◌<◌, ◌≤◌, [], ◌∷◌, take, refl}
use Rattle.std.proofs.Common.{arith}
use Rattle.channel_model.specs.declared.acts.Act.TheVariants.{Put}
use Rattle.channel_model.specs.Answers.{IsEmptyToTry}
use Rattle.channel_model.specs.Histories.{replay, replay_from, acts_of}
use Rattle.job_model.specs.Histories.{replay as replay_jobs, replay_from as replay_jobs_from, acts_of as job_acts_of}
use Rattle.call_meaning.specs.Facts.{IsRunning}
use Rattle.call_meaning.specs.Stories.{Moment}
use Rattle.script_grammar.specs.Tags.{coroutine_count, layouts_from}
use Rattle.script_meaning.specs.Books.{BooksOf}
use Rattle.run_laws.specs.Orders.{InOneOrder}
use Rattle.order_laws.specs.WrongResults.{program, channels, jobs, books}
use Rattle.order_laws.proofs.LaunchedBehind.{launched_behind}

abbrev now : Moment
now = record { channels = channels; jobs = jobs }

put_came : (n : ℕ) → acts_of 0 (take n channels) ≡ Put 0 0 1 ∷ [] → 1 ≤ n
unfolding acts_of
put_came zero e = cc
put_came (suc n) e = omega arith

not_launched : (n : ℕ) → job_acts_of 0 (take n jobs) ≡ [] → n ≡ 0
unfolding job_acts_of
not_launched zero e = refl
not_launched (suc n) e = cc

none_came : (n : ℕ) → acts_of 1 (take n channels) ≡ [] → IsEmptyToTry 0 (replay (take n channels)) → n ≡ 0
unfolding acts_of replay_from
none_came zero e h = refl
none_came (suc zero) e h = let none = h.nothing in cc
none_came (suc (suc zero)) e h = let none = h.nothing in cc
none_came (suc (suc (suc n))) e h = cc

launched_running : (n : ℕ) → IsRunning (replay_jobs (take n jobs) 1) → 1 ≤ n
unfolding replay_jobs_from
launched_running zero h = absurd h
launched_running (suc n) h = omega arith

some : (0 < coroutine_count program) × (1 < coroutine_count program)
unfolding layouts_from
some = (omega arith, omega arith)

pub wrong_without_order : (of : BooksOf program books channels jobs) → InOneOrder program books channels jobs of → ⊥
wrong_without_order of h =
    launched_behind program now h.order
    (record { sent = put_came; not_launched = not_launched; running = launched_running; nothing_came = none_came }) _ _ (of.ends_at 0)
    (of.ends_at 1) (h.runs 0 some.0) (h.runs 1 some.1)
