-- One order of the entries of two histories, of channels and of Jobs.
use Rattle.std.specs.Prelude.{ℕ, suc, List, [], ◌∷◌}

-- the history that an entry is of
pub data Side : Type 0 where
  OfChannels : Side
  OfJobs : Side

-- how many entries of an order are of the channels
abbrev pub channel_entries_in : List Side → ℕ
channel_entries_in [] = 0
channel_entries_in (OfChannels ∷ sides) = suc (channel_entries_in sides)
channel_entries_in (OfJobs ∷ sides) = channel_entries_in sides

-- how many are of the Jobs
abbrev pub job_entries_in : List Side → ℕ
job_entries_in [] = 0
job_entries_in (OfChannels ∷ sides) = job_entries_in sides
job_entries_in (OfJobs ∷ sides) = suc (job_entries_in sides)
