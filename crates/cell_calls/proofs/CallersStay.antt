-- No call changes whose calls a pass makes.
use Rattle.std.specs.Prelude.{◌≡◌, ℕ, Bool, true, Option}
use Rattle.std.proofs.Common.{ap, ◌∙◌, subst}
use Rattle.channel_model.specs.Floors.{Floor}
use Rattle.channel_model.specs.declared.floor.Offered.{Offered}
use Rattle.channel_model.specs.declared.floor.Offered.TheVariants as offered
use Rattle.channel_model.specs.declared.floor.Got.{Got}
use Rattle.channel_model.specs.declared.floor.Got.TheVariants as got
use Rattle.channel_model.specs.declared.floor.Registered.{Registered}
use Rattle.channel_model.specs.declared.floor.Registered.TheVariants as registered
use Rattle.channel_model.specs.declared.floor.Withdrawn.{Withdrawn}
use Rattle.channel_model.specs.declared.floor.Withdrawn.TheVariants as withdrawn
use Rattle.channel_model.specs.declared.acts.Why.{Why}
use Rattle.co_base.specs.declared.names.WaitId.{WaitId}
use Rattle.channel_model.specs.Answers.{OfferAnswer, GotAnswer, WithdrawAnswer}
use Rattle.channel_model.specs.Registers.{RegisterOfferAnswer, RegisterReceiveAnswer}
use Rattle.cell_words.specs.declared.hub.Hub.{Hub}
use Rattle.cell_words.specs.Hubs.{IsOf, IsOwn}
use Rattle.cell_calls.specs.declared.desk.Desk.{Desk}
use Rattle.cell_calls.specs.declared.desk.DeskAnchor.{DeskAnchor}
use Rattle.cell_calls.specs.Desks.{desk_floor, desk_anchor}

pub offer_callers : (who c v : ℕ) (a b : Floor) (r : Offered) → OfferAnswer who c v a b r → b.callers ≡ a.callers
offer_callers who c v a b (offered.Handed p t) h = h.made.same.callers
offer_callers who c v a b (offered.Put p) h = h.same.callers
offer_callers who c v a b (offered.Closed x) h = h.looked.same.callers
offer_callers who c v a b other h = h.0.same.callers

pub got_callers : (who c : ℕ) (a b : Floor) (r : Got) → GotAnswer who c a b r → b.callers ≡ a.callers
got_callers who c a b (got.Taken p v t) h = h.made.same.callers
got_callers who c a b (got.Waiting p) h = h.same.callers
got_callers who c a b (got.Closed x) h = h.0.looked.same.callers
got_callers who c a b got.Spent h = h.0.same.callers

pub withdraw_callers : (who : ℕ) (w : WaitId) (why : Why) (a b : Floor) (r : Withdrawn) → WithdrawAnswer who w why a b r
    → b.callers ≡ a.callers
withdraw_callers who w why a b (withdrawn.Done t) h = h.0.same.callers
withdraw_callers who w why a b withdrawn.Late h = h.0.same.callers

pub register_offer_callers : (who k c v : ℕ) (main : Option WaitId) (a b : Floor) (r : Registered)
    → RegisterOfferAnswer who main k c v a b r → b.callers ≡ a.callers
register_offer_callers who k c v main a b (registered.Stands p) h = h.same.callers
register_offer_callers who k c v main a b (registered.Closed x) h = h.looked.same.callers
register_offer_callers who k c v main a b other h = h.0.same.callers

pub register_receive_callers : (who k c : ℕ) (main : Option WaitId) (a b : Floor) (r : Registered)
    → RegisterReceiveAnswer who main k c a b r → b.callers ≡ a.callers
register_receive_callers who k c main a b (registered.Stands p) h = h.same.callers
register_receive_callers who k c main a b (registered.Closed x) h = h.0.looked.same.callers
register_receive_callers who k c main a b other h = h.0.same.callers

-- a pass after a call on its desk
pub stays_own : (a b : Desk) (who : ℕ) → desk_anchor b ≡ desk_anchor a → (desk_floor b).callers ≡ (desk_floor a).callers
    → (desk_floor a).callers who ≡ true → IsOwn a.hub.now b.pass.now who
stays_own a b who e s c = (
  subst (λ (h : Hub). IsOf h b.pass.now) (ap (λ (x : DeskAnchor). x.hub) e) b.of,
  ap (λ (f : ℕ → Bool). f who) s
      ∙ c,
)
