use Rattle.std.proofs.Common.{◌≡◌, ◌+◌, []}
use Rattle.std.specs.Prelude.{All, IfSome, vec_len}
use Rattle.task_berths.specs.Seats.{view_of, IsSeatOf, IsMain}
use Rattle.task_crew.proofs.crew.end_all.Given as goal

abbrev pub invariant-loop-hand : goal.invariant-loop-hand
invariant-loop-hand g l = record {
  main : IsMain l.berths l.main × ((view_of l.main).held ≡ []);
  counts : (vec_len l.back + vec_len l.hands ≡ vec_len l.initial.hands)
      × ((view_of l.main).ends + vec_len l.hands ≡ (view_of l.initial.main).ends + vec_len l.initial.hands)
      × ((view_of l.main).splits ≡ (view_of l.initial.main).splits);
  seats : All (λ hand. IfSome hand (λ h. IsSeatOf l.berths h.seat)) l.hands.items;
}

abbrev pub decreases-loop-hand : goal.decreases-loop-hand
decreases-loop-hand g l = vec_len l.hands
