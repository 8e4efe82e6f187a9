-- Channels that no call changed.
use Rattle.std.specs.Prelude.{◌≡◌, ℕ, [], refl}
use Rattle.co_base.proofs.Orders.{order_same}
use Rattle.std.proofs.Common.{sym, subst}
use Rattle.channel_model.specs.Floors.{Floor, Added}
use Rattle.channel_model.proofs.Spans.{added_none}

pub nobody_called : (who : ℕ) (a : Floor) → Added who [] a a
nobody_called who a = added_none who a a (record { shape = refl; alone = refl; callers = refl; order = order_same _ }) refl

-- the channels are as they were
pub same_called : (who : ℕ) (a b : Floor) → b ≡ a → Added who [] a b
same_called who a b e = subst (λ (x : Floor). Added who [] a x) (sym e) (nobody_called who a)
