-- The tasks that a worker has at hand.
use Rattle.std.specs.Prelude.{◌≡◌, ℕ, ◌<◌, ◌⊎◌, true, List, Option, Some, None}
use Rattle.task_berths.specs.Views.{has_tag}

-- it is this tag
abbrev pub IsAt : ℕ → Option ℕ → Type 0
IsAt t None = ⊥
IsAt t (Some u) = u ≡ t

-- the tags of a seat's tasks are these two, of which each may be none, and no other
pub record AreHeld (count : ℕ) (held : List ℕ) (one other : Option ℕ) : Type 0 where
  pub first : (t : ℕ) → IsAt t one → (has_tag t held ≡ true) × (t < count)
  pub second : (t : ℕ) → IsAt t other → (has_tag t held ≡ true) × (t < count)
  pub apart : (t : ℕ) → IsAt t one → IsAt t other → ⊥
  pub only : (t : ℕ) → has_tag t held ≡ true → IsAt t one ⊎ IsAt t other

module _ {T : Type 0} (tag_of : T → ℕ) where
  -- the tag of a task, if there is one
  abbrev pub tag_at : Option T → Option ℕ
  tag_at None = None
  tag_at (Some task) = Some (tag_of task)
