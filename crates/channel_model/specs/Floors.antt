-- What callers see of a floor of channels, and what a call adds to it.
use Rattle.std.specs.Prelude.{◌≡◌, ℕ, ◌+◌, ◌<◌, ◌≤◌, Bool, true, List, [], ◌∷◌, ◌++◌, length, map}
use mathlib.Core.List.{IsPrefix}
use Rattle.co_base.specs.Orders.{Side}
use Rattle.channel_model.specs.declared.acts.Act.{Act}
use Rattle.channel_model.specs.declared.acts.Entry.{Entry}
use Rattle.channel_model.specs.Channels.{Shape, State}
use Rattle.channel_model.specs.Histories.{replay, acts_of}

pub record Floor : Type 0 where
  -- the kind and the places of each channel
  pub shape : Shape
  -- the history seen so far
  pub seen : List Entry
  -- room for so many entries
  pub spare : ℕ
  -- nobody but the caller makes entries
  pub alone : Bool
  -- the tags that may call
  pub callers : ℕ → Bool
  -- the order of the entries of both histories, as far as it is known here
  pub order : List Side

-- what no call changes, and the order, which goes on
pub record SameSetting (old new : Floor) : Type 0 where
  pub shape : new.shape ≡ old.shape
  pub alone : new.alone ≡ old.alone
  pub callers : new.callers ≡ old.callers
  pub order : IsPrefix old.order new.order

-- room was made, and nothing else changed
pub record HasRoom (n : ℕ) (old new : Floor) : Type 0 where
  pub same : SameSetting old new
  pub seen : new.seen ≡ old.seen
  pub room : n ≤ new.spare
  pub kept : old.spare ≤ new.spare

-- the tag is one of the caller's, and the channel one of the floor
pub record MayCall (who c : ℕ) (floor : Floor) : Type 0 where
  pub caller : floor.callers who ≡ true
  pub channel : c < length floor.shape

-- a call of who that made no entry; others may have made theirs
pub record Looked (who : ℕ) (old new : Floor) : Type 0 where
  pub same : SameSetting old new
  pub longer : IsPrefix old.seen new.seen
  pub mine : acts_of who new.seen ≡ acts_of who old.seen
  pub alone : old.alone ≡ true → new.seen ≡ old.seen
  pub spare : old.spare ≤ new.spare

-- a call of who that made this act, after what others may have made
pub record Made (who : ℕ) (act : Act) (old new : Floor) : Type 0 where
  pub same : SameSetting old new
  pub before : List Entry
  pub longer : IsPrefix old.seen before
  pub mine : acts_of who before ≡ acts_of who old.seen
  pub last : new.seen ≡ before ++ record { who = who; act = act } ∷ []
  pub alone : old.alone ≡ true → before ≡ old.seen
  pub spare : old.spare ≤ new.spare + 1

-- this was so at a moment of the call
pub record AtStep (old new : Floor) (P : State → Type 0) : Type 0 where
  pub moment : List Entry
  pub after : IsPrefix old.seen moment
  pub before : IsPrefix moment new.seen
  pub holds : P (replay moment)

-- this was so at a moment of the call at which who had made just these of its acts
pub record AtMoment (who : ℕ) (acts : List Act) (old new : Floor) (P : State → Type 0) : Type 0 where
  pub moment : List Entry
  pub after : IsPrefix old.seen moment
  pub before : IsPrefix moment new.seen
  pub mine : acts_of who moment ≡ acts_of who old.seen ++ acts
  pub holds : P (replay moment)

abbrev pub entries_by : ℕ → List Act → List Entry
entries_by who acts = map (λ act. record { who = who; act = act }) acts

-- several calls of who made these acts, in this order; others may have made theirs
pub record Added (who : ℕ) (acts : List Act) (old new : Floor) : Type 0 where
  pub same : SameSetting old new
  pub longer : IsPrefix old.seen new.seen
  pub mine : acts_of who new.seen ≡ acts_of who old.seen ++ acts
  pub alone : old.alone ≡ true → new.seen ≡ old.seen ++ entries_by who acts
