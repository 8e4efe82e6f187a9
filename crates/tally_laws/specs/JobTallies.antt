-- How many Jobs were attached, and how many of them have ended how, by how many acts there are of each kind.
use Rattle.std.specs.Prelude.{ℕ, ◌+◌, Bool, true, false, List, [], ◌∷◌}
use Rattle.channel_model.specs.Laws.{how_many}
use Rattle.job_model.specs.declared.acts.End.{End}
use Rattle.job_model.specs.declared.acts.End.TheVariants as ends
use Rattle.job_model.specs.declared.acts.JobAct.{JobAct}
use Rattle.job_model.specs.declared.acts.JobAct.TheVariants.{Attach, Finish}
use Rattle.note_book.specs.declared.book.Item.{Item}
use Rattle.note_book.specs.Items.{job_acts_in}

pub record JobTally : Type 0 where
  -- how many Jobs were attached; the root is attached without an act
  pub attached : ℕ
  pub completed : ℕ
  -- one that failed is one of these
  pub cancelled : ℕ

abbrev pub no_acts : JobTally
no_acts = record { attached = 0; completed = 0; cancelled = 0 }

-- both together
abbrev pub both_added : JobTally → JobTally → JobTally
both_added x y = record {
  attached = x.attached + y.attached;
  completed = x.completed + y.completed;
  cancelled = x.cancelled + y.cancelled;
}

-- ---- one act

abbrev pub attaches_one : JobAct → Bool
attaches_one (Attach p q kind tag cancelled) = true
attaches_one other = false

abbrev pub is_completed : End → Bool
is_completed (ends.Completed v) = true
is_completed (ends.Cancelled cause) = false

abbrev pub is_cancelled : End → Bool
is_cancelled (ends.Completed v) = false
is_cancelled (ends.Cancelled cause) = true

-- the act ends a Job as completed
abbrev pub completes_one : JobAct → Bool
completes_one (Finish q end) = is_completed end
completes_one other = false

-- the act ends a Job as cancelled
abbrev pub cancels_one : JobAct → Bool
cancels_one (Finish q end) = is_cancelled end
cancels_one other = false

-- ---- all acts

-- the tally of a caller that made these acts
abbrev pub job_tally_of : List JobAct → JobTally
job_tally_of acts = record {
  attached = how_many attaches_one acts;
  completed = how_many completes_one acts;
  cancelled = how_many cancels_one acts;
}

-- the tallies of all books, added
abbrev pub jobs_tallied : List (List Item) → JobTally
jobs_tallied [] = no_acts
jobs_tallied (book ∷ books) = both_added (job_tally_of (job_acts_in book)) (jobs_tallied books)
