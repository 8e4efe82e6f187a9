-- Calls on a floor of Jobs, and passes of many tags.
use Rattle.std.specs.Prelude.{◌≡◌, ℕ, ◌<◌, ◌≤◌, true, false}
use Rattle.job_model.specs.Floors.{Floor, MayCall}
use Rattle.worded.specs.Views.{has_tag}
use Rattle.job_words.specs.declared.forest.Forest.{Forest}
use Rattle.job_words.specs.declared.pass.JobPass.{JobPass}
use Rattle.job_words.specs.Forests.{seen_by, IsOf}
use Rattle.floor_tests.specs.declared.forest_shares.calls.Call.{Call}
use Rattle.floor_tests.specs.declared.forest_shares.calls.Call.TheVariants as calls
use Rattle.floor_tests.specs.declared.forest_shares.shares.Share.{Share}

-- who may call on the row, and there is room to end its Job and to tell the parent
pub record IsReady (who row : ℕ) (floor : Floor) : Type 0 where
  pub can : MayCall who row floor
  pub room : 2 ≤ floor.spare

-- the row that a call asks to be attached
abbrev pub row_of : Call → ℕ
row_of (calls.Attach parent kind tag) = parent
row_of (calls.Start row) = row
row_of (calls.EndBody row value) = row
row_of (calls.CancelOne row) = row
row_of (calls.CancelPass row) = row
row_of (calls.Finish row) = row
row_of (calls.FinishAndTell row) = row
row_of (calls.Look row) = 0
row_of (calls.Link row) = row

-- the pass is one of the forest, and each of these tags is one of its callers
abbrev pub OwnsAll : Forest → JobPass → ℕ → ℕ → Type 0
OwnsAll forest pass from to =
    IsOf forest pass × ((t : ℕ) → from ≤ t → t < to → has_tag t (seen_by pass).tags ≡ true)

-- the pass is one of the forest, and gives out tags, of which it has given out none from here on
abbrev pub GivesFrom : Forest → JobPass → ℕ → Type 0
GivesFrom forest pass from =
    IsOf forest pass
    × ((seen_by pass).chief ≡ true)
    × ((t : ℕ) → from ≤ t → has_tag t (seen_by pass).given ≡ false)

-- the share has tags, and its pass owns them
abbrev pub IsShare : Forest → Share → Type 0
IsShare forest share = (share.from < share.to) × OwnsAll forest share.pass share.from share.to
