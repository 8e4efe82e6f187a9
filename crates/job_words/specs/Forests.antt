-- A forest and a pass.
use Rattle.std.specs.Prelude.{◌≡◌, ℕ, true, List, []}
use Rattle.worded.specs.Views.{IsIdleSeatOf, HasGiven, has_tag}
use Rattle.joined_words.specs.Seen.{view_of}
use Rattle.job_words.specs.declared.forest.Forest.{Forest}
use Rattle.job_words.specs.declared.pass.JobPass.{JobPass}
use Rattle.job_words.specs.Passes.{Seen, tags_given}
use Rattle.job_words.specs.JobParts.{jobs_in}

-- what the pass knows of the Jobs
abbrev pub seen_by : JobPass → Seen
seen_by pass = jobs_in pass.seat.me.0

-- the pass is one of the forest, and was told nothing that it has not seen
abbrev pub IsOf : Forest → JobPass → Type 0
IsOf forest pass =
    IsIdleSeatOf forest.table.value.shared.table_id forest.table.value.shared.key pass.seat
    × ((seen_by pass).key ≡ forest.size)
    × ((seen_by pass).heard_tags ≡ [])

-- and who is one of its callers
abbrev pub IsOwn : Forest → JobPass → ℕ → Type 0
IsOwn forest pass who = IsOf forest pass × (has_tag who (seen_by pass).tags ≡ true)

-- the pass gives out tags, and has given out these
abbrev pub GivesTags : List ℕ → JobPass → Type 0
GivesTags given pass = HasGiven given (view_of (seen_by pass))

-- it gives out tags as before
abbrev pub SameGiving : JobPass → JobPass → Type 0
SameGiving old new = tags_given (seen_by new) ≡ tags_given (seen_by old)
