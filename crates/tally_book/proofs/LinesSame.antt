-- The line of the added numbers is that of the books.
use Rattle.std.specs.Prelude.{◌≡◌, ℕ, List, ◌++◌, Option}
use Rattle.std.proofs.Common.{ap, ◌∙◌}
use lib.Chars.{codes}
use Rattle.job_model.specs.declared.acts.End.{End}
use Rattle.note_book.specs.declared.book.Item.{Item}
use Rattle.run_report.specs.Summaries.{result_text}
use Rattle.tally_laws.specs.TallyTexts.{numbers_text, line_of_tallies}
use Rattle.tally_laws.specs.LinesTold.{job_tally_text, line_of_books}
use Rattle.tally_laws.specs.Counts.{Counts}
use Rattle.tally_laws.specs.JobTallies.{jobs_tallied}
use Rattle.tally_laws.specs.Tallies.{tallied}
use Rattle.tally_book.specs.declared.counted.Fates.{Fates}
use Rattle.tally_book.specs.declared.totals.JobTotals.{JobTotals}
use Rattle.tally_book.specs.Totals.{job_counts_in, AreFatesIn, line_of}

pub line_same : (version : ℕ) (jobs : JobTotals) (f : Fates) (root : Option End) (books : List (List Item)) (n : Counts) → n ≡ tallied books
    → AreFatesIn n f → job_counts_in jobs ≡ jobs_tallied books → line_of version jobs f root ≡ line_of_books version books root
line_same version jobs f root books n e h k =
    (λ i. job_tally_text (k i) ++ numbers_text version (h.0 i) (h.1 i) (h.2 i) (h.3 i) (h.4 i) (h.5 i) ++ codes "result "
    ++ result_text root ++ codes "\n")
    ∙ ap (λ m. line_of_tallies version (job_tally_text (jobs_tallied books)) m root) e
