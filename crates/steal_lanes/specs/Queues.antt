-- Puts and takes that replay as a queue, first in, first out.
use Rattle.std.specs.Prelude.{◌≡◌, ℕ, Bool, true, false, List, [], ◌∷◌, ◌++◌, map, if◌then◌else◌}
use mathlib.Core.Option.{some}
use lib.ListN.{get_elem?}
use Rattle.steal_lanes.specs.declared.lane_view.LaneOp.{LaneOp}
use Rattle.steal_lanes.specs.declared.lane_view.LaneView.{LaneView}

-- ---- one lane

-- a put or a take of this ticket
abbrev pub op : Bool → ℕ → LaneOp
op is_put t = record { is_put = is_put; ticket = t }

-- puts of these tickets
abbrev pub puts : List ℕ → List LaneOp
puts tickets = map (op true) tickets

-- takes of these tickets
abbrev pub takes : List ℕ → List LaneOp
takes tickets = map (op false) tickets

-- all but the first
abbrev pub rest : List ℕ → List ℕ
rest [] = []
rest (t ∷ ts) = ts

-- the queue afterwards: a put appends, a take removes the first
abbrev pub queue_after : List ℕ → Bool → ℕ → List ℕ
queue_after queue true t = queue ++ t ∷ []
queue_after queue false t = rest queue

-- a take finds its ticket first in the queue
abbrev pub MayCome : List ℕ → Bool → ℕ → Type 0
MayCome queue true t = Unit {0}
MayCome queue false t = (more : List ℕ) × (queue ≡ t ∷ more)

-- the puts and takes lead from one queue to the other
abbrev pub Replays : List ℕ → List LaneOp → List ℕ → Type 0
Replays queue [] left = queue ≡ left
Replays queue (e ∷ es) left =
    MayCome queue e.is_put e.ticket × Replays (queue_after queue e.is_put e.ticket) es left

-- the tickets that were put
abbrev pub tickets_put : List LaneOp → List ℕ
tickets_put [] = []
tickets_put (e ∷ es) = if e.is_put then e.ticket ∷ tickets_put es else tickets_put es

-- the tickets that were taken
abbrev pub tickets_taken : List LaneOp → List ℕ
tickets_taken [] = []
tickets_taken (e ∷ es) = if e.is_put then tickets_taken es else e.ticket ∷ tickets_taken es

-- ---- what is known of it

-- the owner of a lane that is made
abbrev pub owner : LaneView
owner = record { owns = true; seen = [] }

-- somebody who may take from it, and has not looked yet
abbrev pub guest : LaneView
guest = record { owns = false; seen = [] }

-- v has seen a beginning of the list; the owner, who has the number 0, all puts
pub record Knows (log : List LaneOp) (port : ℕ) (v : LaneView) : Type 0 where
  pub more : List LaneOp
  pub begins : v.seen ++ more ≡ log
  pub first : v.owns ≡ true → port ≡ 0
  pub puts_seen : v.owns ≡ true → tickets_put more ≡ []

-- between any two steps: one list of puts and takes replays to what the lane holds
pub record IsLane (items : List ℕ) (views : List LaneView) : Type 0 where
  pub log : List LaneOp
  pub replays : Replays [] log items
  pub known : (port : ℕ) (v : LaneView) → get_elem? views port ≡ some v → Knows log port v

-- these were made after what was seen and what others made, and all of it replays; nobody else put into an own lane
pub record Adds (v : LaneView) (ops : List LaneOp) (w : LaneView) : Type 0 where
  pub others : List LaneOp
  pub seen : w.seen ≡ (v.seen ++ others) ++ ops
  pub owns : w.owns ≡ v.owns
  pub puts_seen : v.owns ≡ true → tickets_put others ≡ []
  pub left : List ℕ
  pub replays : Replays [] w.seen left
