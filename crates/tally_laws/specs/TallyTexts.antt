-- What the summary says of elements, by the counts of acts.
use Rattle.std.specs.Prelude.{ℕ, ◌==◌, List, [], ◌∷◌, ◌++◌, Option, if◌then◌else◌}
use Rattle.std.specs.List.{concat}
use Rattle.std.specs.Fmt.{decimal}
use lib.Chars.{codes}
use Rattle.job_model.specs.declared.acts.End.{End}
use Rattle.run_report.specs.Summaries.{result_text}
use Rattle.tally_laws.specs.Counts.{Counts, received, undelivered, dropped, spurned, withdrawn, held}

-- so many elements were received, undelivered, dropped, withdrawn and are held; no kind of the first version spurns one
abbrev pub first_numbers_text : ℕ → ℕ → ℕ → ℕ → ℕ → List ℕ
first_numbers_text received undelivered dropped withdrawn held =
    concat (codes "received " ∷ decimal received
    ∷ codes " undelivered " ∷ decimal undelivered
    ∷ codes " dropped " ∷ decimal dropped
    ∷ codes " withdrawn " ∷ decimal withdrawn
    ∷ codes " held " ∷ decimal held ∷ codes " " ∷ [])

-- the same, and so many were spurned
abbrev pub second_numbers_text : ℕ → ℕ → ℕ → ℕ → ℕ → ℕ → List ℕ
second_numbers_text received undelivered dropped spurned withdrawn held =
    concat (codes "received " ∷ decimal received
    ∷ codes " undelivered " ∷ decimal undelivered
    ∷ codes " dropped " ∷ decimal dropped
    ∷ codes " spurned " ∷ decimal spurned
    ∷ codes " withdrawn " ∷ decimal withdrawn
    ∷ codes " held " ∷ decimal held ∷ codes " " ∷ [])

-- in a run of a script of this version
abbrev pub numbers_text : ℕ → ℕ → ℕ → ℕ → ℕ → ℕ → ℕ → List ℕ
numbers_text version received undelivered dropped spurned withdrawn held =
    if version == 2
    then second_numbers_text received undelivered dropped spurned withdrawn held
    else first_numbers_text received undelivered dropped withdrawn held

abbrev pub tally_text : ℕ → Counts → List ℕ
tally_text version n = numbers_text version (received n) (undelivered n) (dropped n) (spurned n) (withdrawn n) (held n)

-- the line, behind what it says of Jobs, and how the root has ended, if it has
abbrev pub line_of_tallies : ℕ → List ℕ → Counts → Option End → List ℕ
line_of_tallies version jobs n root = jobs ++ tally_text version n ++ codes "result " ++ result_text root ++ codes "\n"
