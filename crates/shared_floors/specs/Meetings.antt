-- What one floor tells another, of the same channels or of the same Jobs.
use Rattle.std.specs.Prelude.{◌≡◌, ◌≢◌, ℕ, Bool, true, false, ◌||◌, [], Some}
use mathlib.Core.List.{IsPrefix}
use Rattle.channel_model.specs.Histories.{acts_of}
use Rattle.channel_model.specs.Floors.{Floor as ChannelFloor, SameSetting as SameChannels}
use Rattle.job_model.specs.Histories.{acts_of as job_acts_of}
use Rattle.job_model.specs.Floors.{Floor, SameSetting, is_claimed_by}

-- ---- channels

-- a met b, and became a': it goes on, and has seen all that b had seen; its own callers did nothing, and b is as it was
pub record MetOnChannels (a a' b b' : ChannelFloor) : Type 0 where
  pub same : SameChannels a a'
  pub other : b' ≡ b
  pub longer : IsPrefix a.seen a'.seen
  pub heard : IsPrefix b.seen a'.seen
  pub heard_order : IsPrefix b.order a'.order
  pub mine : (k : ℕ) → a.callers k ≡ true → acts_of k a'.seen ≡ acts_of k a.seen

-- b ended into a, which became a': it goes on, has seen all that b had seen, and may call for the callers of both, who did nothing
pub record EndedOnChannels (a a' b : ChannelFloor) : Type 0 where
  pub shape : a'.shape ≡ a.shape
  pub callers : (k : ℕ) → a'.callers k ≡ (a.callers k || b.callers k)
  pub longer : IsPrefix a.seen a'.seen
  pub heard : IsPrefix b.seen a'.seen
  pub order : IsPrefix a.order a'.order
  pub heard_order : IsPrefix b.order a'.order
  pub mine : (k : ℕ) → a.callers k ≡ true → acts_of k a'.seen ≡ acts_of k a.seen
  pub theirs : (k : ℕ) → b.callers k ≡ true → acts_of k a'.seen ≡ acts_of k b.seen

-- nobody made an entry under a tag that may not act
abbrev pub NoCallsOfOthers : (ℕ → Bool) → ChannelFloor → Type 0
NoCallsOfOthers may_act floor = (k : ℕ) → may_act k ≡ false → acts_of k floor.seen ≡ []

-- ---- Jobs

-- the same of Jobs; the rows that either had seen claimed are claimed, and the callers of a claimed none
pub record MetOnJobs (a a' b b' : Floor) : Type 0 where
  pub same : SameSetting a a'
  pub other : b' ≡ b
  pub longer : IsPrefix a.seen a'.seen
  pub heard : IsPrefix b.seen a'.seen
  pub heard_order : IsPrefix b.order a'.order
  pub mine : (k : ℕ) → a.callers k ≡ true → job_acts_of k a'.seen ≡ job_acts_of k a.seen
  pub kept : (r t : ℕ) → a.claims r ≡ Some t → a'.claims r ≡ Some t
  pub heard_claims : (r t : ℕ) → b.claims r ≡ Some t → a'.claims r ≡ Some t
  pub my_claims : (k : ℕ) → a.callers k ≡ true → (r : ℕ) → is_claimed_by k (a'.claims r) ≡ is_claimed_by k (a.claims r)

-- the same of Jobs; the rows that either had seen claimed are claimed, and the callers of both claimed none
pub record EndedOnJobs (a a' b : Floor) : Type 0 where
  pub shape : a'.shape ≡ a.shape
  pub callers : (k : ℕ) → a'.callers k ≡ (a.callers k || b.callers k)
  pub longer : IsPrefix a.seen a'.seen
  pub heard : IsPrefix b.seen a'.seen
  pub order : IsPrefix a.order a'.order
  pub heard_order : IsPrefix b.order a'.order
  pub joint : a'.joint ≡ a.joint
  pub mine : (k : ℕ) → a.callers k ≡ true → job_acts_of k a'.seen ≡ job_acts_of k a.seen
  pub theirs : (k : ℕ) → b.callers k ≡ true → job_acts_of k a'.seen ≡ job_acts_of k b.seen
  pub kept : (r t : ℕ) → a.claims r ≡ Some t → a'.claims r ≡ Some t
  pub heard_claims : (r t : ℕ) → b.claims r ≡ Some t → a'.claims r ≡ Some t
  pub my_claims : (k : ℕ) → a.callers k ≡ true → (r : ℕ) → is_claimed_by k (a'.claims r) ≡ is_claimed_by k (a.claims r)
  pub their_claims : (k : ℕ) → b.callers k ≡ true → (r : ℕ) → is_claimed_by k (a'.claims r) ≡ is_claimed_by k (b.claims r)

-- nobody made an entry under a tag that may not act
abbrev pub NoJobsOfOthers : (ℕ → Bool) → Floor → Type 0
NoJobsOfOthers may_act floor = (k : ℕ) → may_act k ≡ false → job_acts_of k floor.seen ≡ []

-- and nobody claimed a row but the root under one
abbrev pub NoRowsOfOthers : (ℕ → Bool) → Floor → Type 0
NoRowsOfOthers may_act floor = (r k : ℕ) → may_act k ≡ false → r ≢ 0 → is_claimed_by k (floor.claims r) ≡ false
