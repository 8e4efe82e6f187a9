-- The tallies of a run.
use Rattle.std.specs.Prelude.{ℕ, zero, suc, List, refl, replicate}
use Rattle.channel_model.specs.declared.acts.Entry.{Entry}
use Rattle.channel_model.specs.declared.acts.Kind.TheVariants.{Signal}
use Rattle.channel_model.specs.Histories.{replay, acts_in}
use Rattle.job_model.specs.declared.acts.JobEntry.{JobEntry}
use Rattle.note_book.specs.declared.book.Item.{Item}
use Rattle.script_grammar.specs.Programs.{Program, shape_of}
use Rattle.script_grammar.specs.Tags.{job_count}
use Rattle.script_meaning.specs.Books.{BooksOf}
use Rattle.tally_laws.specs.Elements.{AreSignals, AreFatesOf}
use Rattle.tally_laws.specs.Settlings.{ResolvedAreSettled}
use Rattle.tally_laws.specs.Tallies.{tallied}
use Rattle.tally_laws.proofs.Declared.{declared_books}
use Rattle.tally_laws.proofs.OneAtATime.{books_of_run}

done_signals : (n : ℕ) → AreSignals (replicate n (Signal, 1))
done_signals zero = refl
done_signals (suc n) = done_signals n

pub run_tallied : (p : Program) (books : List (List Item)) (channels : List Entry) (jobs : List JobEntry) → BooksOf p books channels jobs
    → ResolvedAreSettled (replay channels) → AreFatesOf (shape_of p) (acts_in channels) (tallied books)
run_tallied p books channels jobs of rest = declared_books (shape_of p) (replicate (job_count p) (Signal, 1)) channels books
    (done_signals (job_count p)) of.legal_channels rest (books_of_run p books channels jobs of)
