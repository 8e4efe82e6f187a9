-- What a run that came to rest amounts to.
use Rattle.std.specs.Prelude.{◌≡◌, ◌↔◌, ℕ, ◌≤◌, true, List, ◌∷◌, ◌++◌, Option, Some}
use Rattle.co_base.specs.declared.names.WaitId.{WaitId}
use Rattle.channel_model.specs.declared.acts.Entry.{Entry}
use Rattle.channel_model.specs.declared.acts.Fate.TheVariants as fate
use Rattle.channel_model.specs.Answers.{IsResolvedWait, IsSettledWait}
use Rattle.channel_model.specs.Fates.{element_at, fate_at}
use Rattle.channel_model.specs.Laws.{resolutions_of, settlements_of}
use Rattle.channel_model.specs.Histories.{replay, acts_in}
use Rattle.channel_fates.specs.OneFate.{IsAtMostOneFate, deliveries_of, stands_in}
use Rattle.job_model.specs.declared.acts.End.{End}
use Rattle.job_model.specs.declared.acts.JobAct.TheVariants.{Finish}
use Rattle.job_model.specs.declared.acts.JobEntry.{JobEntry}
use Rattle.job_model.specs.Acts.{finishes}
use Rattle.job_model.specs.Trees.{parent_of}
use Rattle.job_model.specs.Laws.{has}
use Rattle.job_model.specs.Histories.{replay as replay_jobs}
use Rattle.note_book.specs.declared.book.Item.{Item}
use Rattle.script_grammar.specs.Programs.{Program}
use Rattle.script_meaning.specs.Books.{BooksOf}
use Rattle.script_meaning.specs.Idle.{IsIdle}
use Rattle.run_laws.specs.Orders.{InOneOrder}
use Rattle.run_report.specs.Elements.{channel_acts_noted, element_of}
use Rattle.run_report.specs.Jobs.{job_acts_noted}
use Rattle.tally_laws.specs.JobsTold.{AreToldOf}

-- ---- a run

-- a Job's Finish in this history comes after that of each child that it ever has
abbrev pub ChildrenEndFirst : List JobEntry → Type 0
ChildrenEndFirst jobs = (xs ys : List JobEntry) (who row c : ℕ) (end : End)
    → jobs ≡ xs ++ record { who = who; act = Finish row end } ∷ ys → parent_of (replay_jobs jobs c) ≡ Some row
    → has finishes c xs ≡ true

-- what becomes of waits and elements in a history
pub record AreServed (channels : List Entry) : Type 0 where
  -- each wait is resolved at most once, and settled at most once, which follows from legality
  -- (`a_wait_is_resolved_and_settled_at_most_once`); one that was resolved is settled
  pub once : (w : WaitId) → (resolutions_of w channels ≤ 1) × (settlements_of w channels ≤ 1)
  pub none_lost : (w : WaitId) → IsResolvedWait ((replay channels).waits w) → IsSettledWait ((replay channels).waits w)
  -- no element is given to a receiver twice, which follows from legality (`an_element_is_delivered_at_most_once`)
  pub delivered_once : (c place : ℕ) → deliveries_of c place (acts_in channels) ≤ 1
  -- of received, undelivered, dropped, spurned and withdrawn at most one applies to an element (which follows from legality too:
  -- `an_element_has_at_most_one_fate`), and none exactly where it is held: where it stands in the queue of its channel
  pub one_fate : (c place : ℕ) → IsAtMostOneFate c place (acts_in channels)
  pub held : (c place value : ℕ) → element_at c place (acts_in channels) ≡ Some value
      → (fate_at c place (acts_in channels) ≡ fate.Held) ↔ (stands_in place value ((replay channels).channels c).queue ≡ true)

-- a run of the program came to rest, and left the books of its coroutines: the parts of one legal history of channels and of
-- one of Jobs, whose entries have one order; the root has ended so, if it has
pub record RunsTo (root : Option End) (program : Program) : Type 0 where
  pub books : List (List Item)
  pub channels : List Entry
  pub jobs : List JobEntry
  pub parts : BooksOf program books channels jobs
  -- along one order of all entries each coroutine told its story: a moment is a beginning of this order. That each book is one that its
  -- coroutine may write, where a moment is a beginning of each history (`runs` of `parts`), follows from it: the law
  -- `a_story_along_an_order_is_true` of `run_laws`
  pub one_order : InOneOrder program books channels jobs parts
  pub idle : IsIdle program books channels jobs parts root
  -- what follows is implied by `parts` and `idle`
  pub served : AreServed channels
  -- no Job ends before its children, which follows from legality (`children_finish_before_their_parent`)
  pub children_first : ChildrenEndFirst jobs
  -- the books say of each place which element came there in the history, and its fate
  pub told : (c place : ℕ) → element_of (channel_acts_noted books) c place ≡ element_of (acts_in channels) c place
  -- and of each Job how far it is, or how it ended, in the tree after the history
  pub jobs_told : AreToldOf (job_acts_noted books) (replay_jobs jobs)

-- ---- which run

-- the run left these books and histories
pub record IsRunOf (program : Program) (books : List (List Item)) (channels : List Entry) (jobs : List JobEntry) (root : Option End)
    (run : RunsTo root program) : Type 0 where
  pub books_are : run.books ≡ books
  pub channels_are : run.channels ≡ channels
  pub jobs_are : run.jobs ≡ jobs
