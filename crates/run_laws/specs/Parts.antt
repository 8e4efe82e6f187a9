-- That books are the parts of two histories, and each is one that its coroutine may write: what every run keeps, where it rests or not.
use Rattle.std.specs.Prelude.{◌≡◌, ℕ, ◌<◌, List, length}
use Rattle.channel_model.specs.declared.acts.Entry.{Entry}
use Rattle.channel_model.specs.Histories.{acts_of, Legal}
use Rattle.job_model.specs.declared.acts.JobEntry.{JobEntry}
use Rattle.job_model.specs.Histories.{acts_of as job_acts_of, Legal as LegalJobs}
use Rattle.note_book.specs.declared.book.Item.{Item}
use Rattle.note_book.specs.Items.{channel_acts_in, job_acts_in}
use Rattle.script_grammar.specs.Programs.{Program}
use Rattle.script_grammar.specs.Tags.{coroutine_count}
use Rattle.script_meaning.specs.Shapes.{floor_shape, job_shape}
use Rattle.script_meaning.specs.Configs.{Config}
use Rattle.script_meaning.specs.Books.{book_at, Runs}

-- `BooksOf`, except for what follows from it (`closes`) and for refusals
pub record AreParts (p : Program) (books : List (List Item)) (channels : List Entry) (jobs : List JobEntry) : Type 0 where
  pub count : length books ≡ coroutine_count p
  pub legal_channels : Legal (floor_shape p) channels
  pub legal_jobs : LegalJobs (job_shape p) jobs
  pub channel_parts : (k : ℕ) → acts_of k channels ≡ channel_acts_in (book_at k books)
  pub job_parts : (k : ℕ) → job_acts_of k jobs ≡ job_acts_in (book_at k books)
  pub ends_at : ℕ → Config
  pub runs : (k : ℕ) → k < coroutine_count p
      → Runs p k (record { channels = channels; jobs = jobs }) (book_at k books) (ends_at k)
