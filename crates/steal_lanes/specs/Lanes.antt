-- What a put and a take of a lane answer.
use Rattle.std.specs.Prelude.{◌≡◌, ◌⊎◌, ℕ, ◌+◌, ◌≤◌, List, [], ◌∷◌, ◌++◌, map, take, drop, length, Option, Some, None, Result, Ok, Err, slice_get}
use Rattle.std.specs.declared.alloc.Global.{Global}
use Rattle.atomic_blocks.specs.Lent.{RowsId}
use Rattle.crossbeam_deque.specs.Handles.{worker_deque, worker_view, stealer_deque, view}
use Rattle.steal_lanes.specs.declared.lane_view.LaneView.{LaneView}
use Rattle.steal_lanes.specs.declared.other_lane.OtherLane.{OtherLane}
use Rattle.steal_lanes.specs.declared.lane.Lane.{Lane}
use Rattle.steal_lanes.specs.Queues.{owner, guest, puts, takes, tickets_put, Adds}

-- ---- another's lane

-- which lane it is
abbrev pub other_deque : OtherLane → RowsId × Global
other_deque o = stealer_deque o.stealer

-- what is known of it
abbrev pub other_view : OtherLane → LaneView
other_view o = view o.pass

-- this ticket was taken, the first of that lane
pub record Took (t : ℕ) (old new : OtherLane) : Type 0 where
  pub deque : other_deque new ≡ other_deque old
  pub adds : Adds (other_view old) (takes (t ∷ [])) (other_view new)

-- no ticket was taken; why is not told, since a step that takes nothing changes nothing that is known of the lane
pub record TookNothing (old new : OtherLane) : Type 0 where
  pub deque : other_deque new ≡ other_deque old
  pub view : other_view new ≡ other_view old

-- what a take of another's lane answers
abbrev pub TakeAnswer : OtherLane → OtherLane → Option ℕ → Type 0
TakeAnswer old new None = TookNothing old new
TakeAnswer old new (Some t) = Took t old new

-- ---- several of them

-- no ticket was taken from any
abbrev pub NothingFrom : List OtherLane → List OtherLane → Type 0
NothingFrom [] [] = Unit {0}
NothingFrom [] (y ∷ ys) = ⊥
NothingFrom (x ∷ xs) [] = ⊥
NothingFrom (x ∷ xs) (y ∷ ys) = TookNothing x y × NothingFrom xs ys

-- one of them gave this ticket, and no other gave one; those behind it were left alone
abbrev pub TookFrom : ℕ → List OtherLane → List OtherLane → Type 0
TookFrom t [] ys = ⊥
TookFrom t (x ∷ xs) [] = ⊥
TookFrom t (x ∷ xs) (y ∷ ys) = (Took t x y × (ys ≡ xs)) ⊎ (TookNothing x y × TookFrom t xs ys)

-- this ticket was taken from one of them, and from no other one; or none from any
abbrev pub OthersAnswer : List OtherLane → List OtherLane → Option ℕ → Type 0
OthersAnswer old new None = NothingFrom old new
OthersAnswer old new (Some t) = TookFrom t old new

-- ---- a lane

-- which lane is the own
abbrev pub own_deque : Lane → RowsId × Global
own_deque l = worker_deque l.own

-- what is known of the own lane
abbrev pub own_view : Lane → LaneView
own_view l = worker_view l.own

-- so many puts succeed in any case
abbrev pub room_of : Lane → ℕ
room_of l = l.room

-- the other lanes, from the next worker's on
abbrev pub others_of : Lane → List OtherLane
others_of l = l.others.items

-- it is still the same lane, beside the same others
pub record SameLane (old new : Lane) : Type 0 where
  pub own : own_deque new ≡ own_deque old
  pub room : room_of new ≡ room_of old
  pub others : map other_deque (others_of new) ≡ map other_deque (others_of old)

-- the ticket was put last; or it comes back, which it never does in the first puts for which there was room
abbrev pub PutAnswer : ℕ → Lane → Lane → Result (Unit {0}) ℕ → Type 0
PutAnswer t old new (Ok u) =
    Adds (own_view old) (puts (t ∷ [])) (own_view new) × (others_of new ≡ others_of old)
PutAnswer t old new (Err back) =
    (back ≡ t)
    × (own_view new ≡ own_view old)
    × (others_of new ≡ others_of old)
    × (room_of old ≤ length (tickets_put (own_view old).seen))

-- this ticket was taken, the first of the own lane; or none
abbrev pub OwnAnswer : Lane → Lane → Option ℕ → Type 0
OwnAnswer old new None = (own_view new ≡ own_view old) × (others_of new ≡ others_of old)
OwnAnswer old new (Some t) = Adds (own_view old) (takes (t ∷ [])) (own_view new) × (others_of new ≡ others_of old)

-- this ticket was taken, of the own lane or of one other, and no other ticket; or none from any lane
abbrev pub NextAnswer : Lane → Lane → Option ℕ → Type 0
NextAnswer old new None = (own_view new ≡ own_view old) × NothingFrom (others_of old) (others_of new)
NextAnswer old new (Some t) =
    OwnAnswer old new (Some t)
    ⊎ ((own_view new ≡ own_view old) × TookFrom t (others_of old) (others_of new))

-- ---- the lanes of several workers

-- all but the i-th, from the next on
abbrev pub the_others : {A : Type 0} → ℕ → List A → List A
the_others i xs = drop (i + 1) xs ++ take i xs

-- nothing is known of any of these yet
abbrev pub AllNew : List OtherLane → Type 0
AllNew [] = Unit {0}
AllNew (o ∷ os) = (other_view o ≡ guest) × AllNew os

-- a lane into which nothing was put, with room for so many puts
pub record IsNewLane (least : ℕ) (l : Lane) : Type 0 where
  pub room : room_of l ≡ least
  pub view : own_view l ≡ owner
  pub others : AllNew (others_of l)

-- each of these is such a lane
abbrev pub AllNewLanes : ℕ → List Lane → Type 0
AllNewLanes least [] = Unit {0}
AllNewLanes least (l ∷ ls) = IsNewLane least l × AllNewLanes least ls

-- so many new lanes, each beside all others
pub record AreLanes (workers least : ℕ) (lanes : List Lane) : Type 0 where
  pub count : length lanes ≡ workers
  pub new : AllNewLanes least lanes
  pub others : (i : ℕ) (l : Lane)
      → slice_get lanes i ≡ Some l → map other_deque (others_of l) ≡ the_others i (map own_deque lanes)

-- ways into these lanes were added
pub record AddsWays (old new : List OtherLane) (lanes : List Lane) : Type 0 where
  pub deques : map other_deque new ≡ map other_deque old ++ map own_deque lanes
  pub new_ways : AllNew old → AllNew new

-- the ways from the i-th lane into the others
pub record AreWays (i : ℕ) (others : List OtherLane) (lanes : List Lane) : Type 0 where
  pub deques : map other_deque others ≡ the_others i (map own_deque lanes)
  pub new : AllNew others

-- the lane now has these ways into others
pub record IsConnected (others : List OtherLane) (old new : Lane) : Type 0 where
  pub own : own_deque new ≡ own_deque old
  pub room : room_of new ≡ room_of old
  pub view : own_view new ≡ own_view old
  pub ways : others_of new ≡ others
