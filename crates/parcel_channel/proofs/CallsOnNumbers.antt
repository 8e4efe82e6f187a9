-- What a call on a desk tells of its pass.
use Rattle.std.specs.Prelude.{◌≡◌, ℕ, Bool, true, false, Option, Some, None, Result, Ok, Err}
use Rattle.std.proofs.Common.{ap, subst}
use Rattle.channel_model.specs.declared.floor.AlreadyClosed.{AlreadyClosed}
use Rattle.channel_model.specs.declared.floor.TriedOffer.{TriedOffer}
use Rattle.channel_model.specs.declared.floor.TriedOffer.TheVariants as tried_offer
use Rattle.channel_model.specs.declared.floor.TriedGot.{TriedGot}
use Rattle.channel_model.specs.declared.floor.TriedGot.TheVariants as tried_got
use Rattle.channel_model.specs.Floors.{Floor}
use Rattle.channel_model.specs.Answers.{TriedOfferAnswer, TriedGotAnswer, CloseAnswer, WakeAnswer, VoidAnswer, DrainAnswer}
use Rattle.cell_words.specs.declared.hub.Hub.{Hub}
use Rattle.cell_words.specs.Hubs.{SameGiving}
use Rattle.cell_calls.specs.declared.desk.Desk.{Desk}
use Rattle.cell_calls.specs.declared.desk.DeskAnchor.{DeskAnchor}
use Rattle.cell_calls.specs.Desks.{desk_floor, desk_anchor}
use Rattle.cell_calls.specs.HubFloors.{hub_floor}

-- an answer of the desk is one of its pass
pub answer_on : (a b : Desk) → desk_anchor b ≡ desk_anchor a → (P : Floor → Type 0) → P (desk_floor b) → P (hub_floor a.hub.now b.pass.now)
answer_on a b same P h = subst (λ (k : Hub). P (hub_floor k b.pass.now)) (ap (λ (x : DeskAnchor). x.hub) same) h

-- the pass of the desk gives out tags as before
pub giving_on : (a b : Desk) → desk_anchor b ≡ desk_anchor a → SameGiving a.pass.now b.pass.now
giving_on a b same = ap (λ (x : DeskAnchor). (x.chief, x.given, x.given_all)) same

pub close_callers : (who c v : ℕ) (a b : Floor) (r : Result (Unit {0}) AlreadyClosed) → CloseAnswer who c v a b r → b.callers ≡ a.callers
close_callers who c v a b (Ok x) h = h.same.callers
close_callers who c v a b (Err x) h = h.looked.same.callers

pub tried_offer_callers : (who c v : ℕ) (a b : Floor) (r : TriedOffer) → TriedOfferAnswer who c v a b r → b.callers ≡ a.callers
tried_offer_callers who c v a b (tried_offer.Handed p t) h = h.made.same.callers
tried_offer_callers who c v a b (tried_offer.Put p) h = h.same.callers
tried_offer_callers who c v a b (tried_offer.Closed x) h = h.looked.same.callers
tried_offer_callers who c v a b other h = h.0.same.callers

pub tried_callers : (who c : ℕ) (a b : Floor) (r : TriedGot) → TriedGotAnswer who c a b r → b.callers ≡ a.callers
tried_callers who c a b (tried_got.Taken p v t) h = h.made.same.callers
tried_callers who c a b tried_got.Empty h = h.0.same.callers
tried_callers who c a b (tried_got.Closed x) h = h.0.looked.same.callers

pub wake_callers : (who c : ℕ) (a b : Floor) (r : Option (ℕ × ℕ)) → WakeAnswer who c a b r → b.callers ≡ a.callers
wake_callers who c a b (Some x) h = h.made.same.callers
wake_callers who c a b None h = h.0.same.callers

pub void_callers : (who c : ℕ) (a b : Floor) (r : Bool) → VoidAnswer who c a b r → b.callers ≡ a.callers
void_callers who c a b true h = h.same.callers
void_callers who c a b false h = h.0.same.callers

pub drain_callers : (who c : ℕ) (a b : Floor) (r : Option (ℕ × ℕ × Option ℕ)) → DrainAnswer who c a b r → b.callers ≡ a.callers
drain_callers who c a b (Some x) h = h.made.same.callers
drain_callers who c a b None h = h.0.same.callers
