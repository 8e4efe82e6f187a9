-- What passes have seen of one another.
use Rattle.std.specs.Prelude.{◌≡◌, ◌≢◌, ℕ, true, false, ◌||◌, [], Some}
use mathlib.Core.List.{IsPrefix}
use Rattle.job_model.specs.Histories.{acts_of}
use Rattle.job_model.specs.Floors.{Floor, SameSetting, is_claimed_by}
use Rattle.worded.specs.declared.view.View.{View}
use Rattle.worded.specs.Views.{EachUngiven}
use Rattle.joined_words.specs.Seen.{view_of}
use Rattle.word_rules.specs.declared.size.ForestSize.{ForestSize}
use Rattle.word_rules.specs.declared.deed.Deed.{Deed}
use Rattle.job_words.specs.Passes.{Seen, floor_of}

-- all that was seen on `told` was seen on `new`
pub record HasSeen (told new : Floor) : Type 0 where
  pub longer : IsPrefix told.seen new.seen
  pub claims : (r t : ℕ) → told.claims r ≡ Some t → new.claims r ≡ Some t
  pub order : IsPrefix told.order new.order

-- the acts of who are the same, and the rows that it claimed
pub record SameOf (who : ℕ) (old new : Floor) : Type 0 where
  pub acts : acts_of who new.seen ≡ acts_of who old.seen
  pub rows : (r : ℕ) → is_claimed_by who (new.claims r) ≡ is_claimed_by who (old.claims r)

-- who has made no act, and claimed no row but the root
pub record NothingOf (who : ℕ) (floor : Floor) : Type 0 where
  pub acts : acts_of who floor.seen ≡ []
  pub rows : (r : ℕ) → r ≢ 0 → is_claimed_by who (floor.claims r) ≡ false

-- as the pass has seen it
abbrev pub NothingSeenOf : ℕ → View Deed ForestSize → Type 0
NothingSeenOf t v = NothingOf t (floor_of v.key v.tags v.seen [])

-- where a pass gives out tags, nobody did anything under one that it has not given out
abbrev pub NothingUngiven : Seen → Type 0
NothingUngiven v = EachUngiven NothingSeenOf (view_of v)

-- a pass that had seen `old` met one that had seen `other`
pub record MeetAnswer (old other new : Floor) : Type 0 where
  pub same : SameSetting old new
  pub goes_on : HasSeen old new
  pub told : HasSeen other new
  pub own : (t : ℕ) → old.callers t ≡ true → SameOf t old new

-- a pass that had seen `old` took in one that had seen `other`, with its callers
pub record EndAnswer (old other new : Floor) : Type 0 where
  pub shape : new.shape ≡ old.shape
  pub joint : new.joint ≡ old.joint
  pub callers : (t : ℕ) → new.callers t ≡ (old.callers t || other.callers t)
  pub goes_on : HasSeen old new
  pub told : HasSeen other new
  pub own : (t : ℕ) → old.callers t ≡ true → SameOf t old new
  pub taken : (t : ℕ) → other.callers t ≡ true → SameOf t other new
