-- What the calls on a channel that does not keep its latest leave of those whose calls a pass makes, and that what was put is the own.
use Rattle.std.proofs.Common.{◌≡◌, ℕ, Option, Some, None, subst}
use Rattle.channel_model.specs.Floors.{Floor}
use Rattle.channel_model.specs.declared.floor.Offered.{Offered}
use Rattle.channel_model.specs.declared.floor.Offered.TheVariants as offered
use Rattle.channel_model.specs.declared.floor.TriedGot.{TriedGot}
use Rattle.channel_model.specs.declared.floor.TriedGot.TheVariants as got
use Rattle.channel_model.specs.Answers.{OfferAnswer, TriedGotAnswer, SpurnAnswer, HasPut}
use Rattle.channel_model.proofs.Puts.{put_owned}

pub got_callers : (who c : ℕ) (a b : Floor) (r : TriedGot) → TriedGotAnswer who c a b r → b.callers ≡ a.callers
got_callers who c a b (got.Taken p v t) h = h.made.same.callers
got_callers who c a b got.Empty h = h.0.same.callers
got_callers who c a b (got.Closed x) h = h.0.looked.same.callers

pub spurn_callers : (who c mine : ℕ) (a b : Floor) (r : Option ℕ) → SpurnAnswer who c mine a b r → b.callers ≡ a.callers
spurn_callers who c mine a b (Some v) h = h.same.callers
spurn_callers who c mine a b None h = h.0.same.callers

pub offer_puts : (who c v : ℕ) (a b : Floor) (r : Offered) → OfferAnswer who c v a b r → (p : ℕ) → r ≡ offered.Put p → HasPut who c p b
offer_puts who c v a b (offered.Put q) h p e = let same : q ≡ p = cc in subst (λ (z : ℕ). HasPut who c z b) same (put_owned who c q v a b h)
offer_puts who c v a b (offered.Handed q t) h p e = cc
offer_puts who c v a b other h p e = cc
