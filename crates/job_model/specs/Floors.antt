-- What callers see of a floor of Jobs, and what a call adds to it.
use Rattle.std.specs.Prelude.{◌≡◌, ℕ, ◌+◌, ◌==◌, ◌≤◌, Bool, true, false, ◌||◌, List, [], ◌∷◌, ◌++◌, Option, Some, None, map, is_some, if◌then◌else◌}
use mathlib.Core.List.{IsPrefix}
use Rattle.co_base.specs.Orders.{Side}
use Rattle.job_model.specs.declared.acts.JobAct.{JobAct}
use Rattle.job_model.specs.declared.acts.JobEntry.{JobEntry}
use Rattle.job_model.specs.Trees.{Shape, Tree, is_among}
use Rattle.job_model.specs.Acts.{attaches}
use Rattle.job_model.specs.Histories.{replay, acts_of}

pub record Floor : Type 0 where
  -- the numbers of coroutines and of rows
  pub shape : Shape
  -- the history seen so far
  pub seen : List JobEntry
  -- room for so many entries
  pub spare : ℕ
  -- nobody but the caller makes entries
  pub alone : Bool
  -- the tags that may call
  pub callers : ℕ → Bool
  -- the order of the entries of both histories, as far as it is known here
  pub order : List Side
  -- the order is that of the entries here and on the floor of channels that the same callers call
  pub joint : Bool
  -- the rows that were seen claimed, each with the tag that claimed it
  pub claims : ℕ → Option ℕ

-- what no call changes, and the order, which goes on
pub record SameSetting (old new : Floor) : Type 0 where
  pub shape : new.shape ≡ old.shape
  pub alone : new.alone ≡ old.alone
  pub callers : new.callers ≡ old.callers
  pub order : IsPrefix old.order new.order
  pub joint : new.joint ≡ old.joint

-- room was made, and nothing else changed
pub record HasRoom (n : ℕ) (old new : Floor) : Type 0 where
  pub same : SameSetting old new
  pub seen : new.seen ≡ old.seen
  pub claims : (r : ℕ) → new.claims r ≡ old.claims r
  pub room : n ≤ new.spare
  -- and none that there was is gone
  pub kept : old.spare ≤ new.spare

-- the tag is one of the caller's, and the row was seen attached
pub record MayCall (who row : ℕ) (floor : Floor) : Type 0 where
  pub caller : floor.callers who ≡ true
  pub attached : is_some (replay floor.seen row) ≡ true

-- ---- claims

abbrev pub is_claimed_by : ℕ → Option ℕ → Bool
is_claimed_by who None = false
is_claimed_by who (Some t) = who == t

-- who made the Attach of this row
abbrev pub attacher : ℕ → List JobEntry → Option ℕ
attacher r [] = None
attacher r (e ∷ es) = if attaches r e.act then Some e.who else attacher r es

-- the root is claimed by tag 0, each row that was seen attached by who attached it, and no row past the last
pub record HasClaims (floor : Floor) : Type 0 where
  pub root : floor.claims 0 ≡ Some 0
  pub attached : (r t : ℕ) → attacher r floor.seen ≡ Some t → floor.claims r ≡ Some t
  pub within : (r : ℕ) → floor.shape.rows ≤ r → floor.claims r ≡ None

-- a floor as it is made
pub record IsFreshFloor (size : Shape) (floor : Floor) : Type 0 where
  pub shape : floor.shape ≡ size
  pub seen : floor.seen ≡ []
  pub claims : (r : ℕ) → floor.claims r ≡ (if r == 0 then Some 0 else None)

-- who claimed these rows, which nobody had claimed; others may have claimed theirs
pub record Claimed (who : ℕ) (rows : List ℕ) (old new : Floor) : Type 0 where
  pub kept : (r t : ℕ) → old.claims r ≡ Some t → new.claims r ≡ Some t
  pub fresh : (r : ℕ) → is_among r rows ≡ true → old.claims r ≡ None
  pub mine : (r : ℕ) → is_claimed_by who (new.claims r) ≡ (is_claimed_by who (old.claims r) || is_among r rows)
  pub alone : old.alone ≡ true → (r : ℕ) → new.claims r ≡ (if is_among r rows then Some who else old.claims r)

-- ---- calls

-- a call of who that claimed these rows and made no entry; others may have made theirs
pub record Looked (who : ℕ) (rows : List ℕ) (old new : Floor) : Type 0 where
  pub same : SameSetting old new
  pub longer : IsPrefix old.seen new.seen
  pub mine : acts_of who new.seen ≡ acts_of who old.seen
  pub alone : old.alone ≡ true → new.seen ≡ old.seen
  pub spare : old.spare ≤ new.spare
  pub claims : Claimed who rows old new

-- a call of who that claimed these rows and made this act, after what others may have made
pub record Made (who : ℕ) (act : JobAct) (rows : List ℕ) (old new : Floor) : Type 0 where
  pub same : SameSetting old new
  pub before : List JobEntry
  pub longer : IsPrefix old.seen before
  pub mine : acts_of who before ≡ acts_of who old.seen
  pub last : new.seen ≡ before ++ record { who = who; act = act } ∷ []
  pub alone : old.alone ≡ true → before ≡ old.seen
  pub spare : old.spare ≤ new.spare + 1
  pub claims : Claimed who rows old new

-- this was so at a moment of the call
pub record AtStep (old new : Floor) (P : Tree → Type 0) : Type 0 where
  pub moment : List JobEntry
  pub after : IsPrefix old.seen moment
  pub before : IsPrefix moment new.seen
  pub holds : P (replay moment)

-- this was so at a moment of a call at which the caller had made just these acts of its own
pub record AtMoment (who : ℕ) (acts : List JobAct) (old new : Floor) (P : Tree → Type 0) : Type 0 where
  pub moment : List JobEntry
  pub after : IsPrefix old.seen moment
  pub before : IsPrefix moment new.seen
  pub mine : acts_of who moment ≡ acts_of who old.seen ++ acts
  pub holds : P (replay moment)

-- this was so right before the caller made this act, at which it had made just these acts of its own
pub record AtEntry (who : ℕ) (acts : List JobAct) (act : JobAct) (old new : Floor) (P : Tree → Type 0) : Type 0 where
  pub before : List JobEntry
  pub after : IsPrefix old.seen before
  pub entry : IsPrefix (before ++ record { who = who; act = act } ∷ []) new.seen
  pub mine : acts_of who before ≡ acts_of who old.seen ++ acts
  pub holds : P (replay before)

abbrev pub entries_by : ℕ → List JobAct → List JobEntry
entries_by who acts = map (λ act. record { who = who; act = act }) acts

-- several calls of who made these acts, in this order, and claimed these rows; others may have made and claimed theirs
pub record Added (who : ℕ) (acts : List JobAct) (rows : List ℕ) (old new : Floor) : Type 0 where
  pub same : SameSetting old new
  pub longer : IsPrefix old.seen new.seen
  pub mine : acts_of who new.seen ≡ acts_of who old.seen ++ acts
  pub alone : old.alone ≡ true → new.seen ≡ old.seen ++ entries_by who acts
  pub claims : Claimed who rows old new
