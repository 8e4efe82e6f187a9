-- Who is gone from a channel never stands there again.
use Rattle.std.specs.Prelude.{◌≡◌, ℕ, ◌==◌, nat_le, Bool, true, false, not, List, [], ◌∷◌, ◌++◌, None, refl, if◌then◌else◌}
use Rattle.std.specs.List.{list_all}
use Rattle.std.proofs.Common.{ap, subst, arith, ne_eqb}
use Rattle.std.proofs.lemmas.Bool.{le-leb}
use Rattle.channel_model.specs.declared.standing.Standing.{Standing}
use Rattle.channel_model.specs.declared.standing.Receiver.{Receiver}
use Rattle.channel_model.specs.Channels.{Shape, Channel, same_wait, places_at}
use Rattle.channel_model.specs.Effects.{is_held_by, is_elsewhere, admitted, place_offer, place_receiver}
use Rattle.channel_model.specs.Needs.{HasPlace}
use Rattle.channel_model.specs.declared.acts.Entry.{Entry}
use Rattle.channel_model.specs.Histories.{replay, Legal}
use Rattle.channel_model.specs.Laws.{NoneBelow, NoOffer}
use Rattle.channel_model.proofs.Elements.{all_filter, all_rest, all_first, all_more, all_push}
use Rattle.channel_model.proofs.EveryAct.{ChannelKeeps}
use Rattle.channel_model.proofs.Sound.{channel_lasts}

-- an admission moves no offer
admitted_all : (f : ℕ → Bool) (p : ℕ) (os : List Standing) → list_all (λ (o : Standing). f o.place) os ≡ true
    → list_all (λ (o : Standing). f o.place) (admitted p os) ≡ true
admitted_all f p [] h = refl
admitted_all f p (o ∷ os) h = by_test (admitted_all f p os (all_rest (λ (o : Standing). f o.place) o os h)) (o.place == p)
  where
    by_test : list_all (λ (o : Standing). f o.place) (admitted p os) ≡ true → (b : Bool)
        → list_all (λ (o : Standing). f o.place) (if b then record o { holder = None } ∷ os else o ∷ admitted p os) ≡ true
    by_test rest true = h
    by_test rest false = all_more (λ (o : Standing). f o.place) o (admitted p os) (all_first (λ (o : Standing). f o.place) o os h) rest

-- ---- below a place

offer_below : (n m p places : ℕ) (b : Bool) (o : Standing) (ch : Channel) → HasPlace places p ch → o.place ≡ p → NoneBelow n m ch
    → NoneBelow n m (place_offer b o ch)
offer_below n m p places false o ch h e x = record {
  given = let g = x.given in omega arith;
  given_offers = let g = x.given_offers
      in omega arith;
  receivers = x.receivers;
  offers = x.offers;
}
offer_below n m p places true o ch h e x = record {
  given = let g = x.given in omega arith;
  given_offers = let g = x.given_offers in omega arith;
  receivers = x.receivers;
  offers = all_push (λ (o : Standing). nat_le m o.place) ch.queue o x.offers
      (le-leb m o.place (let g = x.given_offers in let f = h.first in omega arith));
}

receiver_below : (n m p places : ℕ) (b : Bool) (r : Receiver) (ch : Channel) → HasPlace places p ch → r.place ≡ p → NoneBelow n m ch
    → NoneBelow n m (place_receiver b r ch)
receiver_below n m p places false r ch h e x = record {
  given = let g = x.given in omega arith;
  given_offers = let g = x.given_offers
      in omega arith;
  receivers = x.receivers;
  offers = x.offers;
}
receiver_below n m p places true r ch h e x = record {
  given = let g = x.given in omega arith;
  given_offers = let g = x.given_offers in omega arith;
  receivers = all_push (λ (r : Receiver). nat_le n r.place) ch.receivers r x.receivers
      (le-leb n r.place (let g = x.given in let f = h.first in omega arith));
  offers = x.offers;
}

pub below_keeps : (shape : Shape) (n m : ℕ) → ChannelKeeps shape (λ d ch. NoneBelow n m ch)
below_keeps shape n m = record {
  without = λ w d ch h. record {
    given = h.given;
    given_offers = h.given_offers;
    receivers = all_filter (λ (r : Receiver). nat_le n r.place) (λ (r : Receiver). not (same_wait w r.party.wait)) ch.receivers h.receivers;
    offers = all_filter (λ (o : Standing). nat_le m o.place) (λ (o : Standing). not (is_held_by w o.holder)) ch.queue h.offers;
  };
  rest = λ d o os ch e h. record {
    given = h.given;
    given_offers = h.given_offers;
    receivers = h.receivers;
    offers = all_rest (λ (o : Standing). nat_le m o.place) o os
        (subst (λ (l : List Standing). list_all (λ (o : Standing). nat_le m o.place) l ≡ true) e h.offers);
  };
  admit = λ d p ch h. record {
    given = h.given;
    given_offers = h.given_offers;
    receivers = h.receivers;
    offers =
        admitted_all (nat_le m) p ch.queue h.offers;
  };
  spurn = λ d p ch h. record {
    given = h.given;
    given_offers = h.given_offers;
    receivers = h.receivers;
    offers =
        all_filter (λ (o : Standing). nat_le m o.place) (is_elsewhere p) ch.queue h.offers;
  };
  put = λ d p v ch h k x. offer_below n m p (places_at shape d) true (record { place = p; value = v; holder = None }) ch h refl x;
  offer = λ d p b o ch h k s e x. offer_below n m p (places_at shape d) b o ch h e x;
  await = λ d p b r ch h k e x. receiver_below n m p (places_at shape d) b r ch h e x;
  close = λ d v ch e h. record { given = h.given; given_offers = h.given_offers; receivers = h.receivers; offers = h.offers };
  void = λ d ch e h. record { given = h.given; given_offers = h.given_offers; receivers = h.receivers; offers = h.offers };
}

-- ---- at a place

pub elsewhere : (o : Standing) (p : ℕ) → (o.place ≡ p → ⊥) → is_elsewhere p o ≡ true
elsewhere o p ne = ap not (ne_eqb o.place p ne)

offer_elsewhere : (m p places : ℕ) (b : Bool) (o : Standing) (ch : Channel) → HasPlace places p ch → o.place ≡ p → NoOffer m ch
    → NoOffer m (place_offer b o ch)
offer_elsewhere m p places false o ch h e x = record { given = let g = x.given in omega arith; none = x.none }
offer_elsewhere m p places true o ch h e x = record {
  given = let g = x.given
      in omega arith;
  none = all_push (is_elsewhere m) ch.queue o x.none
      (elsewhere o m (λ is. let g = x.given in let f = h.first in omega arith));
}

receiver_elsewhere : (m : ℕ) (b : Bool) (r : Receiver) (ch : Channel) → NoOffer m ch → NoOffer m (place_receiver b r ch)
receiver_elsewhere m true r ch x = record { given = let g = x.given in omega arith; none = x.none }
receiver_elsewhere m false r ch x = record { given = let g = x.given in omega arith; none = x.none }

pub none_keeps : (shape : Shape) (m : ℕ) → ChannelKeeps shape (λ d ch. NoOffer m ch)
none_keeps shape m = record {
  without = λ w d ch h. record {
    given = h.given;
    none =
        all_filter (is_elsewhere m) (λ (o : Standing). not (is_held_by w o.holder)) ch.queue h.none;
  };
  rest = λ d o os ch e h. record {
    given = h.given;
    none =
        all_rest (is_elsewhere m) o os (subst (λ (l : List Standing). list_all (is_elsewhere m) l ≡ true) e h.none);
  };
  admit = λ d p ch h. record { given = h.given; none = admitted_all (λ n. not (n == m)) p ch.queue h.none };
  spurn = λ d p ch h. record { given = h.given; none = all_filter (is_elsewhere m) (is_elsewhere p) ch.queue h.none };
  put = λ d p v ch h k x. offer_elsewhere m p (places_at shape d) true (record { place = p; value = v; holder = None }) ch h refl x;
  offer = λ d p b o ch h k s e x. offer_elsewhere m p (places_at shape d) b o ch h e x;
  await = λ d p b r ch h k e x. receiver_elsewhere m b r ch x;
  close = λ d v ch e h. record { given = h.given; none = h.none };
  void = λ d ch e h. record { given = h.given; none = h.none };
}

-- ---- histories that go on

pub below_lasts : (shape : Shape) (xs ys : List Entry) (c n m : ℕ) → Legal shape (xs ++ ys) → NoneBelow n m ((replay xs).channels c)
    → NoneBelow n m ((replay (xs ++ ys)).channels c)
below_lasts shape xs ys c n m l h = channel_lasts shape (λ d ch. NoneBelow n m ch) (below_keeps shape n m) c xs (xs ++ ys) (ys, refl) l h

pub none_lasts : (shape : Shape) (xs ys : List Entry) (c p : ℕ) → Legal shape (xs ++ ys) → NoOffer p ((replay xs).channels c)
    → NoOffer p ((replay (xs ++ ys)).channels c)
none_lasts shape xs ys c p l h = channel_lasts shape (λ d ch. NoOffer p ch) (none_keeps shape p) c xs (xs ++ ys) (ys, refl) l h
