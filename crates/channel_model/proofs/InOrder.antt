-- The places of those who stand ascend and were given out, and offers and receivers never stand together.
use Rattle.std.specs.Prelude.{◌≡◌, ℕ, ◌+◌, ◌≤◌, ◌==◌, Bool, true, false, not, cond, List, [], ◌∷◌, ◌++◌, filter, None, refl, if◌then◌else◌}
use Rattle.std.proofs.Common.{ap, ◌∙◌, subst, arith, inl, inr, ⊎_elim}
use Rattle.channel_model.specs.declared.acts.Entry.{Entry}
use Rattle.channel_model.specs.declared.standing.Standing.{Standing}
use Rattle.channel_model.specs.declared.standing.Receiver.{Receiver}
use Rattle.channel_model.specs.Channels.{Shape, Channel, same_wait, start}
use Rattle.channel_model.specs.Effects.{is_held_by, admitted, place_offer, place_receiver, is_elsewhere}
use Rattle.channel_model.specs.Needs.{HasPlace}
use Rattle.channel_model.specs.Histories.{replay, Legal}
use Rattle.channel_model.specs.Laws.{Ascends, StandsInOrder}
use Rattle.channel_model.proofs.EveryAct.{ChannelKeeps, after_keeps}
use Rattle.channel_model.proofs.Sound.{lasts_from, sound_start}

-- ---- ascending numbers

module _ {X : Type 0} (number : X → ℕ) where
  pub ascends_lower : (p q n : ℕ) (xs : List X) → q ≤ p → Ascends number p n xs → Ascends number q n xs
  ascends_lower p q n [] h b = omega arith
  ascends_lower p q n (x ∷ xs) h b = (let k = b.0 in omega arith, b.1)

  pub ascends_more : (p n m : ℕ) (xs : List X) → n ≤ m → Ascends number p n xs → Ascends number p m xs
  ascends_more p n m [] h b = omega arith
  ascends_more p n m (x ∷ xs) h b = (b.0, ascends_more (number x + 1) n m xs h b.1)

  pub ascends_filter : (keep : X → Bool) (p n : ℕ) (xs : List X) → Ascends number p n xs → Ascends number p n (filter keep xs)
  ascends_filter keep p n [] b = b
  ascends_filter keep p n (x ∷ xs) b = by_test (keep x) (ascends_filter keep (number x + 1) n xs b.1)
    where
      by_test : (t : Bool) → Ascends number (number x + 1) n (filter keep xs)
          → Ascends number p n (cond t (x ∷ filter keep xs) (filter keep xs))
      by_test true r = (b.0, r)
      by_test false r = ascends_lower (number x + 1) p n (filter keep xs) (let k = b.0 in omega arith) r

  pub ascends_push : (p n : ℕ) (xs : List X) (x : X) → number x ≡ n → Ascends number p n xs → Ascends number p (n + 1) (xs ++ x ∷ [])
  ascends_push p n [] x e b = (omega arith, omega arith)
  ascends_push p n (y ∷ ys) x e b = (b.0, ascends_push (number y + 1) n ys x e b.1)

abbrev place_of : Standing → ℕ
place_of o = o.place

-- the places of offers ascend from p on, and lie below n
abbrev pub OffersAscend : ℕ → ℕ → List Standing → Type 0
OffersAscend p n os = Ascends (λ (o : Standing). o.place) p n os

abbrev receiver_place : Receiver → ℕ
receiver_place r = r.place

ascends_admitted : (at p n : ℕ) (os : List Standing) → Ascends place_of p n os → Ascends place_of p n (admitted at os)
ascends_admitted at p n [] b = b
ascends_admitted at p n (o ∷ os) b = by_test (o.place == at) (ascends_admitted at (o.place + 1) n os b.1)
  where
    by_test : (t : Bool) → Ascends place_of (o.place + 1) n (admitted at os)
        → Ascends place_of p n (if t then record o { holder = None } ∷ os else o ∷ admitted at os)
    by_test true r = b
    by_test false r = (b.0, r)

-- ---- one channel

filter_none : {X : Type 0} (keep : X → Bool) (xs : List X) → xs ≡ [] → filter keep xs ≡ []
filter_none keep xs e = ap (filter keep) e

admitted_none : (at : ℕ) (os : List Standing) → os ≡ [] → admitted at os ≡ []
admitted_none at os e = ap (admitted at) e

rest_none : (o : Standing) (os : List Standing) (q : List Standing) → q ≡ o ∷ os → q ≡ [] → os ≡ []
rest_none o os q e f = cc

offer_in_order : (p places : ℕ) (b : Bool) (o : Standing) (ch : Channel) → HasPlace places p ch → ch.receivers ≡ [] → o.place ≡ p
    → StandsInOrder ch → StandsInOrder (place_offer b o ch)
offer_in_order p places true o ch h n e x = record {
  offers = ascends_push place_of 0 ch.next ch.queue o (e ∙ h.first) x.offers;
  receivers = ascends_more receiver_place 0 ch.next (ch.next + 1) ch.receivers (omega arith) x.receivers;
  one_side = inr n;
}
offer_in_order p places false o ch h n e x = record {
  offers = ascends_more place_of 0 ch.next (ch.next + 1) ch.queue (omega arith) x.offers;
  receivers = ascends_more receiver_place 0 ch.next (ch.next + 1) ch.receivers (omega arith) x.receivers;
  one_side = inr n;
}

receiver_in_order : (p places : ℕ) (b : Bool) (r : Receiver) (ch : Channel) → HasPlace places p ch → ch.queue ≡ [] → r.place ≡ p
    → StandsInOrder ch → StandsInOrder (place_receiver b r ch)
receiver_in_order p places true r ch h n e x = record {
  offers = ascends_more place_of 0 ch.next (ch.next + 1) ch.queue (omega arith) x.offers;
  receivers = ascends_push receiver_place 0 ch.next ch.receivers r (e ∙ h.first) x.receivers;
  one_side = inl n;
}
receiver_in_order p places false r ch h n e x = record {
  offers = ascends_more place_of 0 ch.next (ch.next + 1) ch.queue (omega arith) x.offers;
  receivers = ascends_more receiver_place 0 ch.next (ch.next + 1) ch.receivers (omega arith) x.receivers;
  one_side = inl n;
}

pub order_keeps : (shape : Shape) → ChannelKeeps shape (λ d ch. StandsInOrder ch)
order_keeps shape = record {
  without = λ w d ch h. record {
    offers = ascends_filter place_of (λ (o : Standing). not (is_held_by w o.holder)) 0 ch.next ch.queue h.offers;
    receivers = ascends_filter receiver_place (λ (r : Receiver). not (same_wait w r.party.wait)) 0 ch.next ch.receivers h.receivers;
    one_side = ⊎_elim (λ e. inl (filter_none (λ (o : Standing). not (is_held_by w o.holder)) ch.queue e))
        (λ e. inr (filter_none (λ (r : Receiver). not (same_wait w r.party.wait)) ch.receivers e)) h.one_side;
  };
  rest = λ d o os ch e h. record {
    offers = let b : Ascends place_of 0 ch.next (o ∷ os) = subst (Ascends place_of 0 ch.next) e h.offers
        in ascends_lower place_of (o.place + 1) 0 ch.next os (omega arith) b.1;
    receivers = h.receivers;
    one_side = ⊎_elim (λ f. inl (rest_none o os ch.queue e f)) (λ f. inr f) h.one_side;
  };
  admit = λ d p ch h. record {
    offers = ascends_admitted p 0 ch.next ch.queue h.offers;
    receivers = h.receivers;
    one_side = ⊎_elim (λ e. inl (admitted_none p ch.queue e)) (λ e. inr e) h.one_side;
  };
  spurn = λ d p ch h. record {
    offers = ascends_filter place_of (is_elsewhere p) 0 ch.next ch.queue h.offers;
    receivers = h.receivers;
    one_side = ⊎_elim (λ e. inl (filter_none (is_elsewhere p) ch.queue e)) (λ e. inr e) h.one_side;
  };
  put = λ d p v ch h n x. offer_in_order p _ true (record { place = p; value = v; holder = None }) ch h n refl x;
  offer = λ d p b o ch h n s e x. offer_in_order p _ b o ch h n e x;
  await = λ d p b r ch h n e x. receiver_in_order p _ b r ch h n e x;
  close = λ d v ch e h. record { offers = h.offers; receivers = h.receivers; one_side = h.one_side };
  void = λ d ch e h. record { offers = h.offers; receivers = h.receivers; one_side = h.one_side };
}

-- ---- every history

pub replay_in_order : (shape : Shape) (history : List Entry) (c : ℕ) → Legal shape history → StandsInOrder ((replay history).channels c)
replay_in_order shape history c l =
    lasts_from shape (λ s. StandsInOrder (s.channels c)) (record
    { step = λ s who act h n p. after_keeps shape (λ d ch. StandsInOrder ch) (order_keeps shape) s who act c n p })
    start history l (sound_start shape) (record { offers = omega arith; receivers = omega arith; one_side = inl refl })
