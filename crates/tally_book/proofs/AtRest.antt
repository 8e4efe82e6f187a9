-- A text that is the line of the books is the summary of a run of them that came to rest.
use Rattle.std.specs.Prelude.{◌≡◌, ℕ, List, Option, Result, Ok, Err, IfOk}
use Rattle.std.proofs.Common.{sym, ◌∙◌}
use Rattle.channel_model.specs.declared.acts.Entry.{Entry}
use Rattle.job_model.specs.declared.acts.End.{End}
use Rattle.job_model.specs.declared.acts.JobEntry.{JobEntry}
use Rattle.note_book.specs.declared.book.Item.{Item}
use Rattle.script_grammar.specs.Programs.{Program}
use Rattle.script_grammar.specs.WellFormed.{IsProgram}
use Rattle.run_laws.specs.Ends.{IsRunAtRest}
use Rattle.run_laws.proofs.Lists.{some_coroutine}
use Rattle.run_report.specs.Summaries.{summary_text}
use Rattle.tally_laws.specs.LinesTold.{line_of_books}
use Rattle.tally_laws.proofs.Summarised.{summary_told}

pub summed_up : {T E : Type 0} (r : Result T E) (bytes : T → List ℕ) (p : Program) (books : List (List Item)) (root : Option End)
    → IsProgram p → IfOk r (λ t. bytes t ≡ line_of_books p.version books root)
    → IfOk r (λ t. (channels : List Entry) (jobs : List JobEntry) → IsRunAtRest p books channels jobs root → bytes t ≡ summary_text p books)
summed_up (Ok t) bytes p books root ok e = λ channels jobs rests. e
    ∙ sym (summary_told p books channels jobs root (some_coroutine p ok) rests)
summed_up (Err e) bytes p books root ok h = tt
