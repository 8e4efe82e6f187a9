-- The tickets that were put into a lane are those that were taken, and then those that it holds.
use Rattle.std.proofs.Common.{◌≡◌, ℕ, Bool, true, false, List, [], ◌∷◌, ◌++◌, if◌then◌else◌, sym, ap, ◌∙◌, append_assoc, append-nil}
use mathlib.Core.Option.{some}
use lib.ListN.{get_elem?}
use Rattle.steal_lanes.specs.declared.lane_view.LaneOp.{LaneOp}
use Rattle.steal_lanes.specs.declared.lane_view.LaneView.{LaneView}
use Rattle.steal_lanes.specs.Queues.{queue_after, MayCome, Replays, tickets_put, tickets_taken, IsLane}
use Rattle.steal_lanes.proofs.LaneMoves.{tickets_put-append}

-- what lay there at first counts as put before
from_queue : (queue : List ℕ) (log : List LaneOp) (left : List ℕ) → Replays queue log left
    → queue ++ tickets_put log ≡ tickets_taken log ++ left
from_queue queue [] left h = append-nil queue ∙ h
from_queue queue (e ∷ es) left h = by_put e.is_put h.0 (from_queue (queue_after queue e.is_put e.ticket) es left h.1)
  where
    by_put : (b : Bool) → MayCome queue b e.ticket → queue_after queue b e.ticket ++ tickets_put es ≡ tickets_taken es ++ left
        → queue ++ (if b then e.ticket ∷ tickets_put es else tickets_put es) ≡
        (if b then tickets_taken es else e.ticket ∷ tickets_taken es) ++ left
    by_put true may rest = sym (append_assoc queue (e.ticket ∷ []) (tickets_put es)) ∙ rest
    by_put false may rest = first queue may.0 may.1 rest
      where
        first : (q more : List ℕ) → q ≡ e.ticket ∷ more → queue_after q false e.ticket ++ tickets_put es ≡ tickets_taken es ++ left
            → q ++ tickets_put es ≡ e.ticket ∷ (tickets_taken es ++ left)
        first q more is after =
            ap (λ l. l ++ tickets_put es) is
            ∙ ap (λ l. e.ticket ∷ l) (sym (ap (λ l. queue_after l false e.ticket ++ tickets_put es) is) ∙ after)

pub once_in_order : (items : List ℕ) (views : List LaneView) (lane : IsLane items views)
    → tickets_put lane.log ≡ tickets_taken lane.log ++ items
once_in_order items views lane = from_queue [] lane.log items lane.replays

pub owner_knows : (items : List ℕ) (views : List LaneView) (lane : IsLane items views) (port : ℕ) (v : LaneView)
    → get_elem? views port ≡ some v → v.owns ≡ true → tickets_put v.seen ≡ tickets_put lane.log
owner_knows items views lane port v at owns = let k = lane.known port v at in
    sym (ap tickets_put (sym k.begins) ∙ tickets_put-append v.seen k.more ∙ ap (λ l. tickets_put v.seen ++ l) (k.puts_seen owns)
    ∙ append-nil (tickets_put v.seen))
