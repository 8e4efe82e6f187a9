-- What a close shows.
use Rattle.std.specs.Prelude.{◌≡◌, ℕ, Result, Ok, Err, is_some}
use Rattle.std.proofs.Common.{ap}
use Rattle.channel_model.specs.declared.floor.AlreadyClosed.{AlreadyClosed}
use Rattle.channel_model.specs.Floors.{Floor}
use Rattle.channel_model.specs.Answers.{CloseAnswer, IsSeenClosed}
use Rattle.channel_model.proofs.Lasts.{close_made}

pub closed_seen : (who c v : ℕ) (a b : Floor) (r : Result (Unit {0}) AlreadyClosed) → CloseAnswer who c v a b r → IsSeenClosed c b
closed_seen who c v a b (Ok done) h = close_made who c v a b h
closed_seen who c v a b (Err first) h = ap is_some h.is_closed

-- whose calls the pass makes stays the same
pub close_callers : (who c v : ℕ) (a b : Floor) (r : Result (Unit {0}) AlreadyClosed) → CloseAnswer who c v a b r → b.callers ≡ a.callers
close_callers who c v a b (Ok done) h = h.same.callers
close_callers who c v a b (Err first) h = h.looked.same.callers
