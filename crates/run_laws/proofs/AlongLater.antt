-- A book that a coroutine may write along an order is one along an order that goes on, and at moments of the two histories.
use Rattle.std.specs.Prelude.{ℕ, ◌≤◌, List, [], ◌∷◌, length}
use Rattle.std.proofs.Common.{arith}
use mathlib.Core.List.{IsPrefix}
use Rattle.co_base.specs.Orders.{Side, channel_entries_in, job_entries_in}
use Rattle.channel_model.specs.Channels.{Shape}
use Rattle.note_book.specs.declared.book.Item.{Item}
use Rattle.call_meaning.specs.Telling.{Told}
use Rattle.call_meaning.specs.Stories.{Moment, IsBy, IsTrue, with_told, story_of}
use Rattle.call_meaning.specs.Orders.{IsOrderOf, moment_at, IsTrueAlong}
use Rattle.call_meaning.proofs.OrderCounts.{fewer_channel_entries, fewer_job_entries}
use Rattle.call_meaning.proofs.Along.{along_later, take_front, take_prefix}
use Rattle.script_grammar.specs.Programs.{Program}
use Rattle.script_meaning.specs.Shapes.{floor_shape}
use Rattle.script_meaning.specs.Configs.{Config}
use Rattle.script_meaning.specs.Books.{Runs}
use Rattle.run_laws.specs.Orders.{RunsAlong}

-- ---- later

-- a book of a coroutine that told no more, along an order up to which both histories were seen
pub runs_along_after : (p : Program) (k : ℕ) (now later : Moment) (order longer : List Side) (book : List Item) (x : Config)
    → channel_entries_in order ≤ length now.channels → job_entries_in order ≤ length now.jobs → IsBy now later → IsPrefix order longer
    → RunsAlong p k now order book x → RunsAlong p k later longer book x
runs_along_after p k now later order longer book x few few_jobs b pre r = record {
  told = r.told;
  written = r.written;
  reaches = r.reaches;
  is_true = along_later (floor_shape p) k now later order longer [] [] r.told few few_jobs b pre r.is_true;
}

-- the same, of one that the order of both whole histories is
pub runs_along_later : (p : Program) (k : ℕ) (now later : Moment) (order longer : List Side) (book : List Item) (x : Config)
    → IsOrderOf now order → IsBy now later → IsPrefix order longer → RunsAlong p k now order book x → RunsAlong p k later longer book x
runs_along_later p k now later order longer book x w b pre r =
    let calls = w.channels in
    let jobs = w.jobs in
    let few : channel_entries_in order ≤ length now.channels = omega (arith, calls) in
    let few_jobs : job_entries_in order ≤ length now.jobs = omega (arith, jobs) in
    runs_along_after p k now later order longer book x few few_jobs b pre r

-- ---- at moments

-- the moments of two points
points_go_on : (now : Moment) (a b : List Side) → IsPrefix a b → IsBy (moment_at now a) (moment_at now b)
points_go_on now a b p = record {
  channels = take_front (channel_entries_in a) (channel_entries_in b) now.channels (fewer_channel_entries a b p);
  jobs = take_front (job_entries_in a) (job_entries_in b) now.jobs (fewer_job_entries a b p);
}

pub along_is_true : (shape : Shape) (k : ℕ) (now : Moment) (order : List Side) (items : List Item) (before : List Side) (told : List Told)
    → IsTrueAlong (story_of shape k now) order items before told → IsTrue (story_of shape k now) items (moment_at now before) told
unfolding IsTrue IsTrueAlong
along_is_true shape k now order items before [] t = tt
along_is_true shape k now order items before (x ∷ told) (at, so, rest) = (
  moment_at now at,
  record {
    not_before = points_go_on now before at so.not_before;
    not_after = record { channels = take_prefix (channel_entries_in at) now.channels; jobs = take_prefix (job_entries_in at) now.jobs };
    channel_acts = so.channel_acts;
    job_acts = so.job_acts;
    holds = so.holds;
  },
  along_is_true shape k now order (with_told x items) at told rest,
)

-- a book that its coroutine may write along an order is one that it may write
pub along_runs : (p : Program) (k : ℕ) (now : Moment) (order : List Side) (book : List Item) (x : Config)
    → RunsAlong p k now order book x → Runs p k now book x
along_runs p k now order book x r = record {
  told = r.told;
  written = r.written;
  reaches = r.reaches;
  is_true = along_is_true (floor_shape p) k now order [] [] r.told r.is_true;
}
