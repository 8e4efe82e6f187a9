-- What one send comes to, by the answers of the hub.
use Rattle.std.specs.Prelude.{◌≡◌, ℕ, ◌<◌, List, [], ◌∷◌, ◌++◌, map, Option, Some, None, is_some, true, false, refl}
use Rattle.co_base.proofs.Orders.{order_same}
use Rattle.std.specs.List.{list_all}
use Rattle.std.proofs.Common.{sym, ap, ◌∙◌, subst, true≢false}
use Rattle.channel_model.specs.declared.acts.Act.{Act}
use Rattle.channel_model.specs.declared.acts.Act.TheVariants.{Hand, Put, Offer, Admit, Drop, Spurn, Settle}
use Rattle.channel_model.specs.declared.acts.Settled.{Settled}
use Rattle.channel_model.specs.declared.acts.Settled.TheVariants as settled
use Rattle.channel_model.specs.declared.floor.Offered.TheVariants as offered
use Rattle.channel_model.specs.declared.floor.WaitState.TheVariants as state
use Rattle.channel_model.specs.Channels.{Shape}
use Rattle.channel_model.specs.Histories.{Legal}
use Rattle.channel_model.specs.Floors.{Floor, Made, Added, AtStep}
use Rattle.channel_model.specs.Answers.{OfferAnswer, HandedTo, LookAnswer, SettleAnswer, TrimAnswer, SpurnAnswer, HasPut, IsTrimmed, IsReady, IsOwn}
use Rattle.channel_model.proofs.Left.{left_of, left_lower}
use Rattle.channel_model.proofs.PlainOffers.{is_quiet, plain_lasts}
use Rattle.channel_model.proofs.Puts.{put_lasts}
use Rattle.channel_model.proofs.Spans.{prefix_self, nothing_more, added_none, added_looked, added_made, added_then, moment_within}
use Rattle.channel_calls.proofs.Begun.{offer_plain}
use Rattle.channel_calls.proofs.OwnOffers as own
use Rattle.future_bridge.specs.declared.send_steps.SendStep.{SendStep}
use Rattle.future_bridge.specs.declared.send_steps.SendStep.TheVariants as step
use Rattle.future_bridge.specs.Gains.{wait_at, AdmitsAll}
use Rattle.future_bridge.specs.Sends.{offer_acts, spurn_acts, put_acts, SendsOne, Acted, OffersAt, OfferWaits, Follows, OfferedSo, LookedSo, HeldSo, TrimsAll, SpurnsOwn, RemovesTooMany}
use Rattle.future_bridge.specs.Sinks.{SentOrWaits}
use Rattle.future_bridge.proofs.StopsGo.{same_room}

-- ---- drops

pub record Trimmed (who c : ℕ) (old new : Floor) : Type 0 where
  pub dropped : List (ℕ × ℕ)
  pub added : Added who (map (λ d. Drop c d.0 d.1) dropped) old new

pub trimmed_none : (who c : ℕ) (a : Floor) → Trimmed who c a a
trimmed_none who c a = record { dropped = []; added = added_none who a a (record { shape = refl; alone = refl; callers = refl; order = order_same _ }) refl }

map_push : (c : ℕ) (x : ℕ × ℕ) (ds : List (ℕ × ℕ)) → map (λ (d : ℕ × ℕ). Drop c d.0 d.1) ds
    ++ Drop c x.0 x.1 ∷ [] ≡ map (λ (d : ℕ × ℕ). Drop c d.0 d.1) (ds ++ x ∷ [])
map_push c x [] = refl
map_push c x (d ∷ ds) = ap (λ l. Drop c d.0 d.1 ∷ l) (map_push c x ds)

pub trimmed_more : (who c mine : ℕ) (x : ℕ × ℕ) (a b d : Floor) → Trimmed who c a b → TrimAnswer who c mine b d (Some x) → Trimmed who c a d
trimmed_more who c mine x a b d h m = record {
  dropped = h.dropped ++ x ∷ [];
  added = subst (λ l. Added who l a d) (map_push c x h.dropped)
      (added_then who (map (λ (d : ℕ × ℕ). Drop c d.0 d.1) h.dropped) (Drop c x.0 x.1 ∷ []) a b d h.added
      (added_made who (Drop c x.0 x.1) b d m.0));
}

pub trims_all : (who c mine : ℕ) (a b d : Floor) → Trimmed who c a b → TrimAnswer who c mine b d None → TrimsAll who c mine a d
trims_all who c mine a b d h m = record {
  dropped = h.dropped;
  added = subst (λ l. Added who l a d) (nothing_more (map (λ (d : ℕ × ℕ). Drop c d.0 d.1) h.dropped))
      (added_then who (map (λ (d : ℕ × ℕ). Drop c d.0 d.1) h.dropped) [] a b d h.added (added_looked who b d m.0));
  fits = moment_within a b d d (IsTrimmed a.shape c mine) h.added.longer
      (subst (λ (s : Shape). AtStep b d (IsTrimmed s c mine)) h.added.same.shape m.1) (prefix_self d.seen);
}

pub put_still : (who c mine : ℕ) (a b : Floor) → Trimmed who c a b → HasPut who c mine a → HasPut who c mine b
put_still who c mine a b h p = put_lasts who c mine (map (λ (d : ℕ × ℕ). Drop c d.0 d.1) h.dropped) a b h.added p

pub fewer : (who c mine : ℕ) (x : ℕ × ℕ) (shape : Shape) (b d : Floor) → shape ≡ d.shape → Legal d.shape d.seen
    → TrimAnswer who c mine b d (Some x) → left_of shape c d.seen < left_of shape c b.seen
fewer who c mine x shape b d is l m = left_lower who c (Drop c x.0 x.1) shape b d is l m.0 refl

-- ---- the own element

pub put_after : (who c mine : ℕ) (a b : Floor) → TrimsAll who c mine a b → HasPut who c mine a → HasPut who c mine b
put_after who c mine a b h p = put_lasts who c mine (map (λ (d : ℕ × ℕ). Drop c d.0 d.1) h.dropped) a b h.added p

pub spurned_own : (who c mine v : ℕ) (a b : Floor) → SpurnAnswer who c mine a b (Some v) → SpurnsOwn who c mine a b
spurned_own who c mine v a b m = record {
  spurned = Some v;
  added = added_made who (Spurn c mine v) a b m;
  fits =
      λ e. absurd (true≢false (ap is_some e));
}

pub stays_own : (who c mine : ℕ) (a b : Floor) → SpurnAnswer who c mine a b None → SpurnsOwn who c mine a b
stays_own who c mine a b m = record { spurned = None; added = added_looked who a b m.0; fits = λ e. m.1 }

pub too_many_gone : (who c mine : ℕ) (a b d : Floor) → TrimsAll who c mine a b → SpurnsOwn who c mine b d → RemovesTooMany who c mine a d
too_many_gone who c mine a b d t s = record { trimmed = b; trims = t; spurns = s }

-- ---- a look at the own offer

pub own_of : (who c p : ℕ) (a : Floor) → OffersAt who c p a → IsOwn who (wait_at c p) a
own_of who c p a h = own.own_offer who 0 (wait_at c p) a a (same_room a) h

pub never_settled : (who c p : ℕ) (a d : Floor) → Legal d.shape d.seen → OffersAt who c p a → LookAnswer who (wait_at c p) a d state.Settled
    → ⊥
never_settled who c p a d l h m = own.never_settled who 0 (wait_at c p) a a d l (same_room a) h m

pub ready_now : (who c p : ℕ) (a d : Floor) → Legal d.shape d.seen → OffersAt who c p a → LookAnswer who (wait_at c p) a d state.Resolved
    → IsReady who (wait_at c p) d
ready_now who c p a d l h m = own.ready_now who 0 (wait_at c p) a a d l (same_room a) h m

pub never_value : (who c p k v : ℕ) (a d e : Floor) → Legal d.shape d.seen → OffersAt who c p a
    → LookAnswer who (wait_at c p) a d state.Resolved → SettleAnswer who (wait_at c p) false d e (settled.Value k v) → ⊥
never_value who c p k v a d e l h m s = own.never_value l (same_room a) h m s

pub never_closed : (who c p k v : ℕ) (a d e : Floor) → Legal d.shape d.seen → OffersAt who c p a
    → LookAnswer who (wait_at c p) a d state.Resolved → SettleAnswer who (wait_at c p) false d e (settled.Closed k v) → ⊥
never_closed who c p k v a d e l h m s = own.never_closed l (same_room a) h m s

pub never_undelivered : (who c p v : ℕ) (a d e : Floor) → Legal d.shape d.seen → OffersAt who c p a
    → LookAnswer who (wait_at c p) a d state.Resolved → SettleAnswer who (wait_at c p) false d e (settled.Undelivered v) → ⊥
never_undelivered who c p v a d e l h m s = own.never_undelivered l (same_room a) h m s

pub stands : (who c p : ℕ) (a d : Floor) → Legal d.shape d.seen → OffersAt who c p a → LookAnswer who (wait_at c p) a d state.Standing
    → LookedSo who c p a d (step.Waits p)
stands who c p a d l h m = (
  refl,
  record { acts = []; added = added_looked who a d m.0; are = refl },
  record {
    plain = plain_lasts d.shape who (wait_at c p) [] a.seen d.seen l m.0.longer (m.0.mine ∙ sym (nothing_more _)) refl h;
    stood =
        m.1;
  },
)

ended : (who c p : ℕ) (outcome : Settled) (a d e : Floor) (how : _) → LookAnswer who (wait_at c p) a d how
    → SettleAnswer who (wait_at c p) false d e outcome → Added who (Settle (wait_at c p) outcome ∷ []) a e
ended who c p outcome a d e how m s = added_then who [] (Settle (wait_at c p) outcome ∷ []) a d e (added_looked who a d m.0)
    (added_made who (Settle (wait_at c p) outcome) d e s.0)

pub was_sent : (who c p k : ℕ) (a d e : Floor) → LookAnswer who (wait_at c p) a d state.Resolved
    → SettleAnswer who (wait_at c p) false d e (settled.Sent k) → LookedSo who c p a e step.Sent
was_sent who c p k a d e m s = record {
  acts = Settle (wait_at c p) (settled.Sent k) ∷ [];
  added =
      ended who c p (settled.Sent k) a d e state.Resolved m s;
  are = (k, refl);
}

pub was_voided : (who c p : ℕ) (a d e : Floor) → LookAnswer who (wait_at c p) a d state.Resolved
    → SettleAnswer who (wait_at c p) false d e settled.Cancelled → LookedSo who c p a e step.Cancelled
was_voided who c p a d e m s = record {
  acts = Settle (wait_at c p) settled.Cancelled ∷ [];
  added =
      ended who c p settled.Cancelled a d e state.Resolved m s;
  are = refl;
}

-- ---- admits, and a look

admits_quiet : (c : ℕ) (places : List ℕ) → list_all is_quiet (map (λ q. Admit c q) places) ≡ true
admits_quiet c [] = refl
admits_quiet c (q ∷ qs) = admits_quiet c qs

pub plain_admits : (who c p : ℕ) (a b : Floor) → Legal b.shape b.seen → AdmitsAll who c a b → OffersAt who c p a → OffersAt who c p b
plain_admits who c p a b l m h = plain_lasts b.shape who (wait_at c p) (map (λ q. Admit c q) m.below.places) a.seen b.seen l
    m.below.added.longer m.below.added.mine (admits_quiet c m.below.places) h

pub held_so : (who c p : ℕ) (a b d : Floor) (r : SendStep) → AdmitsAll who c a b → LookedSo who c p b d r → HeldSo who c p a d r
held_so who c p a b d step.Sent m h = (
  record {
    acts = map (λ q. Admit c q) m.below.places ++ h.acts;
    added = added_then who (map (λ q. Admit c q) m.below.places) h.acts a b d m.below.added h.added;
    are = (m.below.places, h.are.0, ap (λ l. map (λ q. Admit c q) m.below.places ++ l) h.are.1);
  },
  record { admitted = b; admits = m; longer = h.added.longer },
)
held_so who c p a b d (step.Waits q) m h = (
  h.0,
  record {
    acts = map (λ x. Admit c x) m.below.places ++ h.1.acts;
    added = added_then who (map (λ x. Admit c x) m.below.places) h.1.acts a b d m.below.added h.1.added;
    are = (m.below.places, ap (λ l. map (λ x. Admit c x) m.below.places ++ l) h.1.are ∙ nothing_more _);
  },
  record { plain = h.2.plain; stood = moment_within a b d d _ m.below.added.longer h.2.stood (prefix_self d.seen) },
  record { admitted = b; admits = m; longer = h.1.added.longer },
)
held_so who c p a b d step.Cancelled m h = (
  record {
    acts = map (λ q. Admit c q) m.below.places ++ h.acts;
    added = added_then who (map (λ q. Admit c q) m.below.places) h.acts a b d m.below.added h.added;
    are = (m.below.places, ap (λ l. map (λ q. Admit c q) m.below.places ++ l) h.are);
  },
  record { admitted = b; admits = m; longer = h.added.longer },
)
held_so who c p a b d other m h = h

-- ---- an offer

pub handed : (who c v p t : ℕ) (a d : Floor) → HandedTo who c v p t a d → OfferedSo who c v a d step.Sent
handed who c v p t a d m =
    let added = added_made who (Hand c p v) a d m.made in
    (record { acts = Hand c p v ∷ []; added = added; are = SendsOne.hands p }, Follows.hands p added)

pub put : (who c v p : ℕ) (a b d : Floor) → Made who (Put c p v) a b → RemovesTooMany who c p b d → OfferedSo who c v a d step.Sent
put who c v p a b d m t =
    let added = added_made who (Put c p v) a b m in
    let drops : List Act = map (λ (x : ℕ × ℕ). Drop c x.0 x.1) t.trims.dropped in
    let spurns : List Act = spurn_acts c p t.spurns.spurned in (
      record {
        acts = put_acts c v p t.trims.dropped t.spurns.spurned;
        added = added_then who (Put c p v ∷ []) (drops ++ spurns) a b d added
            (added_then who drops spurns b t.trimmed d t.trims.added t.spurns.added);
        are = SendsOne.puts p t.trims.dropped t.spurns.spurned;
      },
      Follows.puts p b added t,
    )

pub plain_now : (who c v p : ℕ) (a b : Floor) → Legal b.shape b.seen → Made who (Offer c p v (wait_at c p) 0) a b → OffersAt who c p b
plain_now who c v p a b l m = offer_plain who c p v a b l m

pub held : (who c v p : ℕ) (a b d : Floor) (r : SendStep) → Made who (Offer c p v (wait_at c p) 0) a b → HeldSo who c p b d r
    → OfferedSo who c v a d r
held who c v p a b d step.Sent m h =
    let added = added_made who (Offer c p v (wait_at c p) 0) a b m in (
      record {
        acts = Offer c p v (wait_at c p) 0 ∷ h.0.acts;
        added = added_then who (Offer c p v (wait_at c p) 0 ∷ []) h.0.acts a b d added h.0.added;
        are = SendsOne.offers p h.0.are.1 h.0.are.0 _ (ap (λ l. Offer c p v (wait_at c p) 0 ∷ l) h.0.are.2);
      },
      Follows.offers p b added h.1,
    )
held who c v p a b d (step.Waits q) m h =
    let added = added_made who (Offer c p v (wait_at c p) 0) a b m in (
      record {
        acts = Offer c p v (wait_at c p) 0 ∷ h.1.acts;
        added = added_then who (Offer c p v (wait_at c p) 0 ∷ []) h.1.acts a b d added h.1.added;
        are = (h.1.are.0, ap (λ l. Offer c p v (wait_at c p) 0 ∷ l) h.1.are.1 ∙ ap (λ z. offer_acts c v z h.1.are.0) (sym h.0));
      },
      subst (λ z. OfferWaits who c z a d) (sym h.0) (record
          { plain = h.2.plain; stood = moment_within a b d d _ added.longer h.2.stood (prefix_self d.seen) }),
      Follows.offers p b added h.3,
    )
held who c v p a b d step.Cancelled m h =
    let added = added_made who (Offer c p v (wait_at c p) 0) a b m in (
      record {
        acts = Offer c p v (wait_at c p) 0 ∷ h.0.acts;
        added = added_then who (Offer c p v (wait_at c p) 0 ∷ []) h.0.acts a b d added h.0.added;
        are = record { place = p; admits = h.0.are.0; is = ap (λ l. Offer c p v (wait_at c p) 0 ∷ l) h.0.are.1 };
      },
      Follows.offers p b added h.1,
    )
held who c v p a b d other m h = absurd h

pub closed : (who c v x : ℕ) (a d : Floor) → OfferAnswer who c v a d (offered.Closed x) → OfferedSo who c v a d (step.Closed x)
closed who c v x a d m = (record { acts = []; added = added_looked who a d m.looked; are = refl }, m.is_closed)

pub spent : (who c v : ℕ) (a d : Floor) → OfferAnswer who c v a d offered.Spent → OfferedSo who c v a d step.Spent
spent who c v a d m = (record { acts = []; added = added_looked who a d m.0; are = refl }, m.1)

-- ---- a start, by the sink's wait behind it

pub started_sent : (who c v : ℕ) (wait : Option (ℕ × ℕ)) (a d : Floor) → wait ≡ None → OfferedSo who c v a d step.Sent
    → Acted who (SentOrWaits c v wait) a d × Follows who c v a d
started_sent who c v wait a d e h = (subst (λ (w : Option (ℕ × ℕ)). Acted who (SentOrWaits c v w) a d) (sym e) h.0, h.1)

pub started_waits : (who c v q : ℕ) (a d : Floor) → OfferedSo who c v a d (step.Waits q) → Acted who (SentOrWaits c v (Some (q, v))) a d
    × Follows who c v a d
started_waits who c v q a d h = (record { acts = h.0.acts; added = h.0.added; are = (refl, h.0.are) }, h.2)
