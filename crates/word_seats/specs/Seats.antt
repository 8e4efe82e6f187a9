-- What is seen of seats, and of which tags they know that nobody acts under them.
use Rattle.std.specs.Prelude.{◌≡◌, ◌≢◌, ℕ, ◌+◌, ◌==◌, ◌≤◌, Bool, true, false, List, [], if◌then◌else◌}
use Rattle.channel_model.specs.Histories.{acts_of}
use Rattle.channel_model.specs.Floors.{Floor as ChannelFloor}
use Rattle.job_model.specs.Histories.{acts_of as job_acts_of}
use Rattle.job_model.specs.Floors.{Floor, is_claimed_by}
use Rattle.worded.specs.Views.{has_tag}
use Rattle.joined_words.specs.Parts.{tags_in}
use Rattle.cell_words.specs.declared.hub.Hub.{Hub}
use Rattle.cell_words.specs.declared.pass.Pass.{Pass}
use Rattle.cell_words.specs.Hubs.{seen_by as channels_seen_by}
use Rattle.job_words.specs.declared.forest.Forest.{Forest}
use Rattle.job_words.specs.declared.pass.JobPass.{JobPass}
use Rattle.job_words.specs.Forests.{seen_by}
use Rattle.word_seats.specs.declared.hub_seat.HubSeatAnchor.{HubSeatAnchor}
use Rattle.word_seats.specs.declared.forest_seat.ForestSeatAnchor.{ForestSeatAnchor}

-- ---- what calls do not change

abbrev pub hub_anchor : Hub → Pass → HubSeatAnchor
hub_anchor hub pass =
    record {
      hub = hub;
      chief = (channels_seen_by pass).chief;
      given = (channels_seen_by pass).given;
      given_all = (channels_seen_by pass).given_all;
    }

abbrev pub forest_anchor : Forest → JobPass → ForestSeatAnchor
forest_anchor forest pass = record { forest = forest; chief = (seen_by pass).chief; given = (seen_by pass).given }

-- ---- who may act

-- a pass that gives out tags knows that nobody has one that it has not given out; another knows it of none
abbrev pub may_act : Bool → List ℕ → ℕ → Bool
may_act chief given tag = if chief then has_tag tag given else true

abbrev pub hub_may_act : HubSeatAnchor → ℕ → Bool
hub_may_act anchor = may_act anchor.chief anchor.given

-- the same of calls on Jobs, by the tags that it has given out of the table's second part
abbrev pub may_act_beside : HubSeatAnchor → ℕ → Bool
may_act_beside anchor = may_act anchor.chief (tags_in 1 anchor.given_all)

abbrev pub forest_may_act : ForestSeatAnchor → ℕ → Bool
forest_may_act anchor = may_act anchor.chief anchor.given

-- nobody acts under this tag, or one above it
abbrev pub NobodyFrom : ℕ → (ℕ → Bool) → Type 0
NobodyFrom from may = (tag : ℕ) → from ≤ tag → may tag ≡ false

-- ---- new seats

-- the floor of this tag alone, under which nobody acted; it has seen what was seen on `main`
pub record IsNewFloor (tag : ℕ) (main new : ChannelFloor) : Type 0 where
  pub shape : new.shape ≡ main.shape
  pub seen : new.seen ≡ main.seen
  pub callers : (k : ℕ) → new.callers k ≡ (k == tag)
  pub none : acts_of tag new.seen ≡ []

-- the same of Jobs, with the rows that were seen claimed
pub record IsNewJobFloor (tag : ℕ) (main new : Floor) : Type 0 where
  pub shape : new.shape ≡ main.shape
  pub seen : new.seen ≡ main.seen
  pub claims : (r : ℕ) → new.claims r ≡ main.claims r
  pub callers : (k : ℕ) → new.callers k ≡ (k == tag)
  pub none : job_acts_of tag new.seen ≡ []
  pub unclaimed : (r : ℕ) → r ≢ 0 → is_claimed_by tag (new.claims r) ≡ false

-- the floor of Jobs of this tag alone, under which nobody acted
pub record IsNewBeside (tag : ℕ) (new : Floor) : Type 0 where
  pub callers : (k : ℕ) → new.callers k ≡ (k == tag)
  pub none : job_acts_of tag new.seen ≡ []
  pub unclaimed : (r : ℕ) → r ≢ 0 → is_claimed_by tag (new.claims r) ≡ false
