-- What the summary says: how many Jobs there were and how they ended, what became of how many elements, and the root's result.
-- Of elements that were spurned it tells where the script is of version 2.
use Rattle.std.specs.Prelude.{ℕ, ◌+◌, ◌≤◌, List, [], ◌∷◌, ◌++◌, Option, Some, None, ◌==◌, if◌then◌else◌}
use Rattle.std.specs.List.{concat, fold, range_with_len}
use Rattle.std.specs.Fmt.{decimal}
use lib.Chars.{codes}
use Rattle.channel_model.specs.declared.acts.Fate.{Fate}
use Rattle.channel_model.specs.declared.acts.Fate.TheVariants as fate
use Rattle.job_model.specs.declared.acts.End.{End}
use Rattle.job_model.specs.declared.acts.End.TheVariants as ends
use Rattle.job_model.specs.declared.acts.JobAct.{JobAct}
use Rattle.note_book.specs.declared.book.Item.{Item}
use Rattle.script_grammar.specs.Programs.{Declared, Program}
use Rattle.script_grammar.specs.Tags.{job_count}
use Rattle.run_report.specs.declared.counts.ElementCounts.{ElementCounts}
use Rattle.run_report.specs.declared.counts.JobCounts.{JobCounts}
use Rattle.run_report.specs.Elements.{channel_acts_noted, element_of}
use Rattle.run_report.specs.Jobs.{end_noted, is_attached, job_acts_noted}

-- ---- the Jobs

abbrev pub no_jobs : JobCounts
no_jobs = record { attached = 0; completed = 0; cancelled = 0 }

-- with one more Job, which has ended so, if it has; one that failed has ended as cancelled
abbrev pub with_job : JobCounts → Option End → JobCounts
with_job n None = record n { attached = n.attached + 1 }
with_job n (Some (ends.Completed v)) = record n { attached = n.attached + 1; completed = n.completed + 1 }
with_job n (Some (ends.Cancelled cause)) = record n { attached = n.attached + 1; cancelled = n.cancelled + 1 }

-- with the Job of a row, if it is attached
abbrev pub with_row : List JobAct → JobCounts → ℕ → JobCounts
with_row acts n r = if is_attached r acts then with_job n (end_noted r acts) else n

-- the Jobs of the rows below this one
abbrev pub jobs_counted : List JobAct → ℕ → JobCounts
jobs_counted acts rows = fold (with_row acts) no_jobs (range_with_len 0 rows)

-- ---- the elements

abbrev pub no_elements : ElementCounts
no_elements = record { received = 0; undelivered = 0; dropped = 0; spurned = 0; withdrawn = 0; held = 0 }

-- with one more element, of this fate
abbrev pub with_element : ElementCounts → Fate → ElementCounts
with_element n fate.Received = record n { received = n.received + 1 }
with_element n fate.Undelivered = record n { undelivered = n.undelivered + 1 }
with_element n fate.Dropped = record n { dropped = n.dropped + 1 }
with_element n fate.Spurned = record n { spurned = n.spurned + 1 }
with_element n fate.Withdrawn = record n { withdrawn = n.withdrawn + 1 }
with_element n fate.Held = record n { held = n.held + 1 }

-- with the element of a place, if it has one
abbrev pub with_place : ElementCounts → Option (ℕ × Fate) → ElementCounts
with_place n None = n
with_place n (Some x) = with_element n x.1

-- with the elements of the places of a channel below this one
abbrev pub with_places : (ℕ → ℕ → Option (ℕ × Fate)) → ℕ → ElementCounts → ℕ → ElementCounts
with_places elements c n places = fold (λ m p. with_place m (elements c p)) n (range_with_len 0 places)

-- with the elements of all channels from this one on
abbrev pub with_channels : (ℕ → ℕ → Option (ℕ × Fate)) → ℕ → ElementCounts → List Declared → ElementCounts
with_channels elements c n [] = n
with_channels elements c n (channel ∷ channels) = with_channels elements (c + 1) (with_places elements c n channel.places) channels

-- ---- the line

-- the result of the root, if it has completed
abbrev pub result_text : Option End → List ℕ
result_text None = codes "none"
result_text (Some (ends.Completed v)) = decimal v
result_text (Some (ends.Cancelled cause)) = codes "none"

abbrev pub job_counts_text : JobCounts → List ℕ
job_counts_text n =
    concat (codes "jobs " ∷ decimal n.attached
    ∷ codes " completed " ∷ decimal n.completed
    ∷ codes " cancelled " ∷ decimal n.cancelled ∷ codes " " ∷ [])

-- of a script of version 1
abbrev pub first_counts_text : ElementCounts → List ℕ
first_counts_text n =
    concat (codes "received " ∷ decimal n.received
    ∷ codes " undelivered " ∷ decimal n.undelivered
    ∷ codes " dropped " ∷ decimal n.dropped
    ∷ codes " withdrawn " ∷ decimal n.withdrawn
    ∷ codes " held " ∷ decimal n.held ∷ codes " " ∷ [])

-- of a script of version 2
abbrev pub second_counts_text : ElementCounts → List ℕ
second_counts_text n =
    concat (codes "received " ∷ decimal n.received
    ∷ codes " undelivered " ∷ decimal n.undelivered
    ∷ codes " dropped " ∷ decimal n.dropped
    ∷ codes " spurned " ∷ decimal n.spurned
    ∷ codes " withdrawn " ∷ decimal n.withdrawn
    ∷ codes " held " ∷ decimal n.held ∷ codes " " ∷ [])

abbrev pub element_counts_text : ℕ → ElementCounts → List ℕ
element_counts_text version n = if version == 2 then second_counts_text n else first_counts_text n

-- the counts, and how the root has ended, if it has, of a script of this version
abbrev pub summary_line : ℕ → JobCounts → ElementCounts → Option End → List ℕ
summary_line version jobs elements root =
    job_counts_text jobs ++ element_counts_text version elements ++ codes "result " ++ result_text root ++ codes "\n"

-- the summary of a run of a script of this version with so many Jobs, over these channels, that left these books
abbrev pub summary_of : ℕ → List Declared → ℕ → List (List Item) → List ℕ
summary_of version channels jobs books =
    summary_line version (jobs_counted (job_acts_noted books) jobs)
    (with_channels (element_of (channel_acts_noted books)) 0 no_elements channels)
    (end_noted 0 (job_acts_noted books))

-- the summary of a run of this program with these books
abbrev pub summary_text : Program → List (List Item) → List ℕ
summary_text program books = summary_of program.version program.channels (job_count program) books

-- ---- counts that fit

abbrev pub HasJobsUpTo : ℕ → JobCounts → Type 0
HasJobsUpTo most n = (n.attached ≤ most) × (n.completed ≤ most) × (n.cancelled ≤ most)

abbrev pub HasElementsUpTo : ℕ → ElementCounts → Type 0
HasElementsUpTo most n =
    (n.received ≤ most) × (n.undelivered ≤ most) × (n.dropped ≤ most) × (n.spurned ≤ most) × (n.withdrawn ≤ most) × (n.held ≤ most)
