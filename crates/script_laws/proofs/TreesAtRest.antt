-- The tree of Jobs rests at the end of each run.
use Rattle.std.specs.Prelude.{List}
use Rattle.channel_model.specs.declared.acts.Entry.{Entry}
use Rattle.job_model.specs.declared.acts.JobEntry.{JobEntry}
use Rattle.job_model.specs.Histories.{replay}
use Rattle.note_book.specs.declared.book.Item.{Item}
use Rattle.script_grammar.specs.Programs.{Program}
use Rattle.script_meaning.specs.Books.{BooksOf}
use Rattle.script_meaning.specs.Rest.{AtRest}
use Rattle.script_laws.proofs.DoneJobsEnded as ended
use Rattle.script_laws.proofs.EndedJobsTold as gone
use Rattle.script_laws.proofs.BelowCancelled as cancelled
use Rattle.script_laws.proofs.FailuresBorne as upward

pub at_rest : (p : Program) (books : List (List Item)) (channels : List Entry) (jobs : List JobEntry) → BooksOf p books channels jobs
    → AtRest (replay jobs)
at_rest p books channels jobs of = record {
  finished = λ r h. ended.finished p books channels jobs of r h;
  told = λ r n h. gone.told p books channels jobs of r n h;
  below = λ r h. cancelled.below p books channels jobs of r h;
  failed = λ r parent h. upward.failed p books channels jobs of r parent h;
}
