use Rattle.std.proofs.Common.{◌≡◌, ◌+◌, []}
use Rattle.std.specs.Prelude.{All, vec_len}
use Rattle.task_berths.specs.Seats.{view_of, IsSeatOf, IsMain}
use Rattle.task_crew.proofs.crew.seat_all.Given as goal

abbrev pub invariant-loop-own : goal.invariant-loop-own
invariant-loop-own g l = record {
  main : IsMain l.berths l.main × ((view_of l.main).held ≡ []);
  counts : (vec_len l.hands + vec_len l.tickets ≡ vec_len l.initial.tickets)
      × ((view_of l.main).splits ≡ (view_of l.initial.main).splits + vec_len l.hands)
      × ((view_of l.main).ends ≡ (view_of l.initial.main).ends);
  seats : All (λ hand. IsSeatOf l.berths hand.seat) l.hands.items;
}

abbrev pub decreases-loop-own : goal.decreases-loop-own
decreases-loop-own g l = vec_len l.tickets
