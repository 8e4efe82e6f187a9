-- What was collected is what was received.
use Rattle.std.specs.Prelude.{ℕ, false, List, [], Result, Ok, Err, IfOk}
use Rattle.std.proofs.Common.{sym, subst}
use Rattle.std.specs.Global.{Vec}
use Rattle.cell_words.specs.declared.hub.Hub.{Hub}
use Rattle.cell_words.specs.declared.pass.Pass.{Pass}
use Rattle.cell_words.specs.Hubs.{IsOwn}
use Rattle.cell_calls.specs.HubFloors.{hub_floor}
use Rattle.future_bridge.specs.declared.receiving.Spent.{Spent}
use Rattle.future_bridge.specs.declared.drives.DriveError.{DriveError}
use Rattle.future_bridge.specs.Gains.{Gained}
use Rattle.future_bridge.specs.Streams.{CollectsSo, elements_of}

pub collected_own : (hub : Hub) (pass : Pass) (who c : ℕ) (r : Result (Pass × Vec (Result ℕ Spent)) DriveError)
    → IfOk r (λ x. CollectsSo hub pass who c false [] x.0 x.1.items) → IfOk r (λ x. IsOwn hub x.0 who)
collected_own hub pass who c (Ok x) h = h.own
collected_own hub pass who c (Err e) h = tt

pub collected_gained : (hub : Hub) (pass : Pass) (who c : ℕ) (r : Result (Pass × Vec (Result ℕ Spent)) DriveError)
    → IfOk r (λ x. CollectsSo hub pass who c false [] x.0 x.1.items)
    → IfOk r (λ x. Gained who c (elements_of x.1.items) (hub_floor hub pass) (hub_floor hub x.0))
collected_gained hub pass who c (Ok x) h = subst (λ (l : List (Result ℕ Spent)). Gained who c (elements_of l) (hub_floor hub pass)
    (hub_floor hub x.0)) (sym h.whole) h.gained
collected_gained hub pass who c (Err e) h = tt
