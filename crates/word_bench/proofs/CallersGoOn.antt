-- Calls that never wait, and admissions, do not change whose calls a pass makes.
use Rattle.std.specs.Prelude.{◌≡◌, ℕ, Option, Some, None}
use Rattle.channel_model.specs.Floors.{Floor}
use Rattle.channel_model.specs.declared.floor.TriedOffer.{TriedOffer}
use Rattle.channel_model.specs.declared.floor.TriedOffer.TheVariants as offered
use Rattle.channel_model.specs.declared.floor.TriedGot.{TriedGot}
use Rattle.channel_model.specs.declared.floor.TriedGot.TheVariants as got
use Rattle.channel_model.specs.Answers.{TriedOfferAnswer, TriedGotAnswer, AdmitAnswer}

pub try_offer_callers : (who c v : ℕ) (a b : Floor) (r : TriedOffer) → TriedOfferAnswer who c v a b r → b.callers ≡ a.callers
try_offer_callers who c v a b (offered.Handed p t) h = h.made.same.callers
try_offer_callers who c v a b (offered.Put p) h = h.same.callers
try_offer_callers who c v a b (offered.Closed x) h = h.looked.same.callers
try_offer_callers who c v a b other h = h.0.same.callers

pub try_got_callers : (who c : ℕ) (a b : Floor) (r : TriedGot) → TriedGotAnswer who c a b r → b.callers ≡ a.callers
try_got_callers who c a b (got.Taken p v t) h = h.made.same.callers
try_got_callers who c a b got.Empty h = h.0.same.callers
try_got_callers who c a b (got.Closed x) h = h.0.looked.same.callers

pub admit_callers : (who c mark : ℕ) (a b : Floor) (r : Option (ℕ × ℕ)) → AdmitAnswer who c mark a b r → b.callers ≡ a.callers
admit_callers who c mark a b (Some x) h = h.made.same.callers
admit_callers who c mark a b None h = h.0.same.callers
