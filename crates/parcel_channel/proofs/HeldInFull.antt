-- An offer that waits was placed in a full channel.
use Rattle.std.specs.Prelude.{◌≡◌, ◌⊎◌, ℕ, ◌<◌, ◌≤◌, Bool, false, List, Option, Some, None}
use mathlib.Core.List.{IsPrefix}
use Rattle.std.proofs.Common.{inl, inr, sym, ap, ◌∙◌, subst, arith, ⊎_elim}
use Rattle.co_base.specs.declared.names.WaitId.{WaitId}
use Rattle.channel_model.specs.declared.acts.Act.TheVariants.{Offer}
use Rattle.channel_model.specs.declared.acts.Entry.{Entry}
use Rattle.channel_model.specs.declared.acts.Settled.{Settled}
use Rattle.channel_model.specs.declared.standing.Resolution.{Resolution}
use Rattle.channel_model.specs.declared.standing.Resolution.TheVariants as resolved
use Rattle.channel_model.specs.declared.floor.WaitState.TheVariants as state
use Rattle.channel_model.specs.Channels.{Shape, Wait}
use Rattle.channel_model.specs.Histories.{replay, Legal}
use Rattle.channel_model.specs.Floors.{Floor, Made}
use Rattle.channel_model.specs.Answers.{IsAdmittedBelow, state_of_wait, state_of_parts}
use Rattle.channel_model.specs.Laws.{IsResolvedAs}
use Rattle.channel_model.specs.PlainOffers.{IsPlainOffer, OffersPlainly}
use Rattle.channel_model.proofs.Histories.{Legal-prefix}
use Rattle.channel_model.proofs.Marks.{next_grows}
use Rattle.channel_model.proofs.Placed.{replay_placed}
use Rattle.channel_model.proofs.PlacedFull.{placed_full_before}
use Rattle.channel_model.proofs.Spans.{prefix_then}
use Rattle.parcel_channel.specs.Numbers.{WaitsStill, AdmitsAll, HeldThen, WaitsInFull}
use Rattle.parcel_channel.proofs.OwnWaits.{offer_plain}

stands_or_voided : (who : ℕ) (y : Option Wait) → WaitsStill who y → (state_of_wait y ≡ Some state.Standing) ⊎ IsResolvedAs resolved.Voided y
stands_or_voided who None h = absurd h
stands_or_voided who (Some x) h = ⊎_elim (λ (n : x.resolved ≡ None). inl
    (ap (λ (p : Option Resolution × Option Settled). Some (state_of_parts p.0 p.1)) (λ i. (n i, h.1 i)))) (λ v. inr v) h.2

none_plain : (who c : ℕ) (b : Bool) (x : Option Wait) → x ≡ None → IsPlainOffer who c b x → ⊥
none_plain who c b None e h = h
none_plain who c b (Some x) e h = cc

-- an offer stands below the place that its channel gives out next
place_given : (shape : Shape) (who p : ℕ) (es : List Entry) → Legal shape es
    → OffersPlainly who (record { channel = 0; place = p }) (replay es) → p < ((replay es).channels 0).next
place_given shape who p es l h = ⊎_elim (λ lt. lt) (λ le. absurd
    (none_plain who 0 _ _ (replay_placed shape es l (record { channel = 0; place = p }) le) h.wait)) (apart p ((replay es).channels 0).next)
  where
    apart : (m n : ℕ) → (m < n) ⊎ (n ≤ m)
    apart m n = grind arith

before_legal : (shape : Shape) (xs ys : List Entry) → IsPrefix xs ys → Legal shape ys → Legal shape xs
before_legal shape xs ys p l = Legal-prefix shape xs p.0 (subst (Legal shape) (sym p.1) l)

pub held_full : (who k place set : ℕ) (old new : Floor) → Legal new.shape new.seen → HeldThen who k place set false old new
    → WaitsInFull who k place old new
held_full who k place set old new l h =
    let w : WaitId = record { channel = 0; place = place } in
    let m : Made who (Offer 0 place k w 0) old h.held = h.offered.0 in
    let a : AdmitsAll who set h.held h.admitted = h.admits in
    let look = h.own.0 in
    let mark = a.next.1 in
    let none = a.below.none.1 in
    let below_shape : a.below.before.shape ≡ old.shape = a.below.admits.added.same.shape ∙ a.next.0.same.shape ∙ m.same.shape in
    let shape : new.shape ≡ old.shape = look.same.shape ∙ a.below.none.0.same.shape ∙ below_shape in
    let legal : Legal old.shape new.seen = subst (λ (s : Shape). Legal s new.seen) shape l in
    let mark_none : IsPrefix mark.moment none.moment = prefix_then mark.moment a.marked.seen none.moment mark.before
    (prefix_then a.marked.seen a.below.before.seen none.moment a.below.admits.added.longer none.after) in
    let none_new : IsPrefix none.moment new.seen = prefix_then none.moment h.admitted.seen new.seen none.before look.longer in
    let held_none : IsPrefix h.held.seen none.moment = prefix_then h.held.seen mark.moment none.moment mark.after mark_none in
    let held_new : IsPrefix h.held.seen new.seen = prefix_then h.held.seen none.moment new.seen held_none none_new in
    let legal_held : Legal old.shape h.held.seen = before_legal old.shape h.held.seen new.seen held_new legal in
    let legal_mark : Legal old.shape mark.moment = before_legal old.shape mark.moment new.seen
    (prefix_then mark.moment none.moment new.seen mark_none none_new) legal in
    let plain : OffersPlainly who w (replay h.held.seen) =
    offer_plain who 0 place k old h.held (subst (λ (s : Shape). Legal s h.held.seen) (sym m.same.shape) legal_held) m in
    let given : place < ((replay h.held.seen).channels 0).next = place_given old.shape who place h.held.seen legal_held plain in
    let grows : ((replay h.held.seen).channels 0).next ≤ ((replay mark.moment).channels 0).next =
    next_grows old.shape h.held.seen mark.moment 0 legal_mark mark.after in
    let is_mark : ((replay mark.moment).channels 0).next ≡ a.mark = mark.holds in
    let lt : place < a.mark = omega (arith, given, grows, is_mark) in
    let none_below : IsAdmittedBelow old.shape 0 a.mark (replay none.moment) =
    subst (λ (s : Shape). IsAdmittedBelow s 0 a.mark (replay none.moment)) below_shape none.holds in
    ⊎_elim
    (λ stood. inl (record {
      before = m.before;
      begins = m.longer;
      placed = subst (λ es. IsPrefix es new.seen) m.last held_new;
      full = placed_full_before old.shape m.before none.moment new.seen who 0 place k a.mark legal
          (subst (λ es. IsPrefix es none.moment) m.last held_none) none_new lt none_below stood;
    }))
    (λ voided. inr voided)
    (stands_or_voided who ((replay new.seen).waits w) h.own.1)
