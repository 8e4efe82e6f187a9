-- The limit that the values of four options make.
use Rattle.std.proofs.Common.{◌≡◌, ℕ, List, Option, ap₂, ◌∙◌}
use Rattle.run_explore.specs.Words.{find_of, limit_with, states_of, tell_of, workers_of}

pub same_limit : (find find' tell tell' states states' workers workers' : Option (List ℕ)) → find ≡ find' → tell ≡ tell'
    → states ≡ states' → workers ≡ workers'
    → limit_with (find_of find) (tell_of tell) (states_of states) (workers_of workers)
    ≡ limit_with (find_of find') (tell_of tell') (states_of states') (workers_of workers')
same_limit find find' tell tell' states states' workers workers' e f g h =
    ap₂ (λ a b. limit_with (find_of a) (tell_of b) (states_of states) (workers_of workers)) e f
    ∙ ap₂ (λ a b. limit_with (find_of find') (tell_of tell') (states_of a) (workers_of b)) g h
