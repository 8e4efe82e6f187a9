-- A run that came to rest meets all that is claimed of a run.
use Rattle.std.specs.Prelude.{◌≡◌, List, Option, Some, refl}
use Rattle.std.proofs.Common.{subst}
use Rattle.channel_model.specs.declared.acts.Entry.{Entry}
use Rattle.channel_model.proofs.OneEntry.{resolutions_of_bound, settlements_of_bound}
use Rattle.channel_fates.proofs.AtMostOne.{replay_one_fate}
use Rattle.channel_fates.proofs.Delivered.{replay_delivered_once}
use Rattle.job_model.specs.declared.acts.End.{End}
use Rattle.job_model.specs.declared.acts.JobEntry.{JobEntry}
use Rattle.job_model.specs.Trees.{parent_of}
use Rattle.job_model.specs.Histories.{replay, Legal}
use Rattle.job_model.proofs.Ends.{children_first as finished_before}
use Rattle.note_book.specs.declared.book.Item.{Item}
use Rattle.script_grammar.specs.Programs.{Program}
use Rattle.script_meaning.specs.Shapes.{floor_shape, job_shape}
use Rattle.script_meaning.specs.Books.{BooksOf}
use Rattle.script_meaning.specs.Idle.{IsIdle}
use Rattle.run_laws.specs.Ends.{IsRunInOneOrder}
use Rattle.tally_laws.proofs.WaitsSettled.{none_lost}
use Rattle.tally_laws.proofs.Printed.{printed, printed_jobs}
use Rattle.run_claims.specs.Runs.{RunsTo, IsRunOf, AreServed, ChildrenEndFirst}
use Rattle.run_claims.proofs.ElementsHeld.{held_stands}

pub children_first : (p : Program) (jobs : List JobEntry) → Legal (job_shape p) jobs → ChildrenEndFirst jobs
children_first p jobs legal xs ys who row c end e parent =
    finished_before (job_shape p) xs ys who row c end (subst (Legal (job_shape p)) e legal)
    (subst (λ h. parent_of (replay h c) ≡ Some row) e parent)

pub served : (p : Program) (books : List (List Item)) (channels : List Entry) (jobs : List JobEntry) (root : Option End)
    (of : BooksOf p books channels jobs) → IsIdle p books channels jobs of root → AreServed channels
served p books channels jobs root of idle = record {
  once = λ w. (
    resolutions_of_bound (floor_shape p) channels w of.legal_channels,
    settlements_of_bound (floor_shape p) channels w of.legal_channels,
  );
  none_lost = none_lost p books channels jobs of root idle;
  delivered_once = λ c place. replay_delivered_once (floor_shape p) channels c place of.legal_channels;
  one_fate = λ c place. replay_one_fate (floor_shape p) channels c place of.legal_channels;
  held = λ c place value e. held_stands (floor_shape p) channels c place value of.legal_channels
      (none_lost p books channels jobs of root idle) e;
}

abbrev pub ran : (p : Program) (books : List (List Item)) (channels : List Entry) (jobs : List JobEntry) (root : Option End)
    → IsRunInOneOrder p books channels jobs root → RunsTo root p
ran p books channels jobs root run = record {
  books = books;
  channels = channels;
  jobs = jobs;
  parts = run.0.0;
  one_order = run.1;
  idle = run.0.1;
  served = served p books channels jobs root run.0.0 run.0.1;
  children_first = children_first p jobs run.0.0.legal_jobs;
  told = printed p books channels jobs run.0.0;
  jobs_told = printed_jobs p books channels jobs run.0.0;
}

pub is_run_of : (p : Program) (books : List (List Item)) (channels : List Entry) (jobs : List JobEntry) (root : Option End)
    → (run : IsRunInOneOrder p books channels jobs root) → IsRunOf p books channels jobs root (ran p books channels jobs root run)
is_run_of p books channels jobs root run = record {
  books_are = refl;
  channels_are = refl;
  jobs_are = refl;
}
