-- The summary of a run, by the tallies of its books.
use Rattle.std.specs.Prelude.{ℕ, ◌+◌, List, [], ◌∷◌, Option}
use Rattle.std.specs.List.{concat}
use Rattle.std.specs.Fmt.{decimal}
use lib.Chars.{codes}
use Rattle.job_model.specs.declared.acts.End.{End}
use Rattle.note_book.specs.declared.book.Item.{Item}
use Rattle.tally_laws.specs.TallyTexts.{line_of_tallies}
use Rattle.tally_laws.specs.Tallies.{tallied}
use Rattle.tally_laws.specs.JobTallies.{JobTally, jobs_tallied}

-- so many Jobs were attached, have completed and were cancelled
abbrev pub job_numbers_text : ℕ → ℕ → ℕ → List ℕ
job_numbers_text attached completed cancelled =
    concat (codes "jobs " ∷ decimal attached
    ∷ codes " completed " ∷ decimal completed
    ∷ codes " cancelled " ∷ decimal cancelled ∷ codes " " ∷ [])

-- the root is one that no act attaches
abbrev pub job_tally_text : JobTally → List ℕ
job_tally_text n = job_numbers_text (1 + n.attached) n.completed n.cancelled

-- the line of a run of a script of this version with these books, whose root has ended so, if it has
abbrev pub line_of_books : ℕ → List (List Item) → Option End → List ℕ
line_of_books version books root = line_of_tallies version (job_tally_text (jobs_tallied books)) (tallied books) root
