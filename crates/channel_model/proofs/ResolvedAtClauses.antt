-- A wait is resolved at a clause that its owner gave it, on the side of that clause.
use Rattle.std.specs.Prelude.{◌≡◌, ℕ, ◌==◌, ◌≤◌, Bool, true, false, List, [], ◌∷◌, ◌++◌, filter, Option, Some, None, MatchBool, refl, if◌then◌else◌}
use Rattle.std.proofs.Common.{sym, ap, ◌∙◌, subst, arith, inl, inr, eqb-true}
use Rattle.co_base.specs.declared.names.WaitId.{WaitId}
use Rattle.channel_model.specs.declared.acts.Act.{Act}
use Rattle.channel_model.specs.declared.acts.Act.TheVariants.{Hand, Put, Offer, Await, Take, Admit, Drop, Spurn, Close, Void, Drain, WakeClosed, Withdraw, Settle}
use Rattle.channel_model.specs.declared.acts.Entry.{Entry}
use Rattle.channel_model.specs.declared.acts.Settled.{Settled}
use Rattle.channel_model.specs.declared.standing.Party.{Party}
use Rattle.channel_model.specs.declared.standing.Standing.{Standing}
use Rattle.channel_model.specs.declared.standing.Receiver.{Receiver}
use Rattle.channel_model.specs.declared.standing.Resolution.{Resolution}
use Rattle.channel_model.specs.declared.standing.Resolution.TheVariants.{Handed, Taken, Admitted, Closed, Withdrawn, Voided}
use Rattle.channel_model.specs.Channels.{Shape, State, Channel, Wait, same_wait, start}
use Rattle.channel_model.specs.Effects.{after, put_channel, put_wait, resolved_wait, resolve, resolve_holder, resolve_first, with_queue, remove_first, resolve_offer, name_clause, is_open, place_offer, place_receiver, admitted, holder_at, settled_wait, is_elsewhere}
use Rattle.channel_model.specs.Needs.{Needs, MayName, JoinsWait, IsOpenOf, HasPlace}
use Rattle.channel_model.specs.Outcomes.{outcome_of}
use Rattle.channel_model.specs.Answers.{outcome_at, outcome_of_some}
use Rattle.channel_model.specs.Histories.{replay, replay_from, Legal, LegalFrom, acts_of}
use Rattle.channel_model.specs.Laws.{AllStandOpen, OffersStand, ReceiversStand, HolderStands, IsStandingAt}
use Rattle.channel_model.specs.ClauseSides.{BeginsAt, Allows, AllAllowed, IsAtClause, IsOpenOrAtClause, ResolvedAtClause, EndsAtClause}
use Rattle.channel_model.proofs.Histories.{LegalFrom-parts, replay_from-append}
use Rattle.channel_model.proofs.Waits.{same_wait-eq, at_wait}
use Rattle.channel_model.proofs.Placed.{Placed, placed_after, same_number}
use Rattle.channel_model.proofs.Sound.{Sound, sound}

module _ (shape : Shape) (IsClause : Bool → ℕ → ℕ → Type 0) (MayGo : Type 0) (who : ℕ) (w : WaitId) where
  -- ---- what the state says of the wait

  abbrev HolderAt : ℕ → Option Party → Type 0
  HolderAt c None = Unit {0}
  HolderAt c (Some p) = same_wait p.wait w ≡ true → IsClause true p.clause c

  unfoldable OffersAt : ℕ → List Standing → Type 0
  OffersAt c [] = Unit {0}
  OffersAt c (o ∷ os) = HolderAt c o.holder × OffersAt c os

  unfoldable ReceiversAt : ℕ → List Receiver → Type 0
  ReceiversAt c [] = Unit {0}
  ReceiversAt c (r ∷ rs) = (same_wait r.party.wait w ≡ true → IsClause false r.party.clause c) × ReceiversAt c rs

  abbrev IsOwnAt : Option Wait → Type 0
  IsOwnAt None = ⊥
  IsOwnAt (Some x) = (x.owner ≡ who) × IsOpenOrAtClause shape IsClause MayGo x.resolved

  record StandsAt (c : ℕ) (ch : Channel) : Type 0 where
    offers : OffersAt c ch.queue
    receivers : ReceiversAt c ch.receivers

  -- who owns the wait, and it stands and was resolved at its clauses alone
  record AtClauses (s : State) : Type 0 where
    own : IsOwnAt (s.waits w)
    stands : (c : ℕ) → StandsAt c (s.channels c)

  -- ---- lists

  offers_kept : (c : ℕ) (keep : Standing → Bool) (os : List Standing) → OffersAt c os → OffersAt c (filter keep os)
  unfolding OffersAt
  offers_kept c keep [] h = tt
  offers_kept c keep (o ∷ os) h = by_test (keep o) (offers_kept c keep os h.1)
    where
      by_test : (b : Bool) → OffersAt c (filter keep os) → OffersAt c (if b then o ∷ filter keep os else filter keep os)
      by_test true rest = (h.0, rest)
      by_test false rest = rest

  receivers_kept : (c : ℕ) (keep : Receiver → Bool) (rs : List Receiver) → ReceiversAt c rs → ReceiversAt c (filter keep rs)
  unfolding ReceiversAt
  receivers_kept c keep [] h = tt
  receivers_kept c keep (r ∷ rs) h = by_test (keep r) (receivers_kept c keep rs h.1)
    where
      by_test : (b : Bool) → ReceiversAt c (filter keep rs) → ReceiversAt c (if b then r ∷ filter keep rs else filter keep rs)
      by_test true rest = (h.0, rest)
      by_test false rest = rest

  offers_push : (c : ℕ) (os : List Standing) (o : Standing) → OffersAt c os → HolderAt c o.holder → OffersAt c (os ++ o ∷ [])
  unfolding OffersAt
  offers_push c [] o h k = (k, tt)
  offers_push c (x ∷ os) o h k = (h.0, offers_push c os o h.1 k)

  receivers_push : (c : ℕ) (rs : List Receiver) (r : Receiver) → ReceiversAt c rs
      → (same_wait r.party.wait w ≡ true → IsClause false r.party.clause c) → ReceiversAt c (rs ++ r ∷ [])
  unfolding ReceiversAt
  receivers_push c [] r h k = (k, tt)
  receivers_push c (x ∷ rs) r h k = (h.0, receivers_push c rs r h.1 k)

  offers_admitted : (c p : ℕ) (os : List Standing) → OffersAt c os → OffersAt c (admitted p os)
  unfolding OffersAt
  offers_admitted c p [] h = tt
  offers_admitted c p (o ∷ os) h =
      elim (o.place == p) as (λ b. OffersAt c (if b then record o { holder = None } ∷ os else o ∷ admitted p os))
      [ true ↦ (tt, h.1) | false ↦ (h.0, offers_admitted c p os h.1) ]

  holder_there : (c p : ℕ) (os : List Standing) → OffersAt c os → HolderAt c (holder_at p os)
  unfolding OffersAt
  holder_there c p [] h = tt
  holder_there c p (o ∷ os) h = elim (o.place == p) as (λ b. HolderAt c (if b then o.holder else holder_at p os))
      [ true ↦ h.0 | false ↦ holder_there c p os h.1 ]

  -- ---- parts of the effects

  put_at : (c : ℕ) (ch : Channel) (s : State) → StandsAt c ch → ((d : ℕ) → StandsAt d (s.channels d)) → (d : ℕ)
      → StandsAt d (put_channel c ch s.channels d)
  put_at c ch s k h d = by_test (c == d) refl
    where
      by_test : (b : Bool) → (c == d) ≡ b → StandsAt d (if b then ch else s.channels d)
      by_test true e = subst (λ n. StandsAt n ch) (eqb-true c d e) k
      by_test false e = h d

  queue_at : (c : ℕ) (queue : List Standing) (s : State) → OffersAt c queue → AtClauses s → AtClauses (with_queue c queue s)
  queue_at c queue s k h = record {
    own = h.own;
    stands =
        put_at c _ s (record { offers = k; receivers = (h.stands c).receivers }) h.stands;
  }

  resolved_own : (how : Resolution) (x : Option Wait) → IsAtClause shape IsClause MayGo how → IsOwnAt x → IsOwnAt (resolved_wait how x)
  resolved_own how None k h = h
  resolved_own how (Some x) k h = (h.0, k)

  -- another wait is resolved, or this one at a clause of it
  resolve_at : (v : WaitId) (how : Resolution) (s : State) → (same_wait v w ≡ true → IsAtClause shape IsClause MayGo how) → AtClauses s
      → AtClauses (resolve v how s)
  resolve_at v how s k h = record {
    own = by_test (same_wait v w) refl;
    stands = λ c. record {
      offers = offers_kept c _ (s.channels c).queue (h.stands c).offers;
      receivers =
          receivers_kept c _ (s.channels c).receivers (h.stands c).receivers;
    };
  }
    where
      by_test : (t : Bool) → same_wait v w ≡ t → IsOwnAt (if t then resolved_wait how (s.waits v) else s.waits w)
      by_test true e = resolved_own how (s.waits v) (k e) (subst (λ (u : WaitId). IsOwnAt (s.waits u)) (sym (same_wait-eq v w e)) h.own)
      by_test false e = h.own

  first_at : (c : ℕ) (rs : List Receiver) (how : ℕ → Resolution) (s : State) → ReceiversAt c rs
      → ((n : ℕ) → IsClause false n c → IsAtClause shape IsClause MayGo (how n)) → AtClauses s → AtClauses (resolve_first rs how s)
  unfolding ReceiversAt
  first_at c [] how s r k h = h
  first_at c (x ∷ rs) how s r k h = resolve_at x.party.wait (how x.party.clause) s (λ e. k x.party.clause (r.0 e)) h

  resolve_holder_at : (c : ℕ) (p : Option Party) (how : ℕ → Resolution) (s : State) → HolderAt c p
      → ((n : ℕ) → IsClause true n c → IsAtClause shape IsClause MayGo (how n)) → AtClauses s → AtClauses (resolve_holder p how s)
  resolve_holder_at c None how s p k h = h
  resolve_holder_at c (Some x) how s p k h = resolve_at x.wait (how x.clause) s (λ e. k x.clause (p e)) h

  offer_at : (c : ℕ) (queue : List Standing) (how : ℕ → Resolution) (s : State) → OffersAt c queue
      → ((n : ℕ) → IsClause true n c → IsAtClause shape IsClause MayGo (how n)) → AtClauses s → AtClauses (resolve_offer c queue how s)
  unfolding OffersAt
  offer_at c [] how s q k h = h
  offer_at c (o ∷ os) how s q k h = resolve_holder_at c o.holder how (with_queue c os s) q.0 k (queue_at c os s q.1 h)

  removed_at : (c : ℕ) (queue : List Standing) (s : State) → OffersAt c queue → AtClauses s → AtClauses (remove_first c queue s)
  unfolding OffersAt
  removed_at c [] s q h = h
  removed_at c (o ∷ os) s q h = queue_at c os s q.1 h

  -- ---- clauses that are named

  joins_own : (n k c : ℕ) (x : Option Wait) → IsOwnAt x → JoinsWait n k c x → n ≡ who
  joins_own n k c None h j = absurd h
  joins_own n k c (Some x) h j = sym j.own ∙ h.0

  -- only the owner gives it a clause
  by_owner : (n k c p places : ℕ) (u : WaitId) (s : State) → Placed s → IsOwnAt (s.waits w) → HasPlace places p (s.channels c)
      → MayName n k c p u s → same_wait u w ≡ true → n ≡ who
  by_owner n k c p places u s placed h place m e = by_test (same_wait w (record { channel = c; place = p })) refl
      (subst (λ (v : WaitId). MayName n k c p v s) (same_wait-eq u w e) m)
    where
      by_test : (t : Bool) → same_wait w (record { channel = c; place = p }) ≡ t → MatchBool t (k ≤ 7) (JoinsWait n k c (s.waits w))
          → n ≡ who
      by_test true f q =
          let none : s.waits w ≡ None = placed w (subst (λ (v : WaitId). (s.channels v.channel).next ≤ v.place) (sym (same_wait-eq w _ f))
          (let i = place.first in omega arith)) in
          absurd (subst IsOwnAt none h)
      by_test false f q = joins_own n k c (s.waits w) h q

  named_own : (n k c : ℕ) (u : WaitId) (s : State) → IsOwnAt (s.waits w) → IsOwnAt (put_wait u (name_clause n k c (s.waits u)) s.waits w)
  named_own n k c u s h = by_test (same_wait u w) refl
    where
      more : (x : Option Wait) → IsOwnAt x → IsOwnAt (name_clause n k c x)
      more None h = absurd h
      more (Some x) h = h

      by_test : (t : Bool) → same_wait u w ≡ t → IsOwnAt (if t then name_clause n k c (s.waits u) else s.waits w)
      by_test true e = more (s.waits u) (subst (λ (v : WaitId). IsOwnAt (s.waits v)) (sym (same_wait-eq u w e)) h)
      by_test false e = h

  settled_own : (outcome : Settled) (u : WaitId) (s : State) → IsOwnAt (s.waits w)
      → IsOwnAt (put_wait u (settled_wait outcome (s.waits u)) s.waits w)
  settled_own outcome u s h = by_test (same_wait u w) refl
    where
      ended : (x : Option Wait) → IsOwnAt x → IsOwnAt (settled_wait outcome x)
      ended None h = h
      ended (Some x) h = h

      by_test : (t : Bool) → same_wait u w ≡ t → IsOwnAt (if t then settled_wait outcome (s.waits u) else s.waits w)
      by_test true e = ended (s.waits u) (subst (λ (v : WaitId). IsOwnAt (s.waits v)) (sym (same_wait-eq u w e)) h)
      by_test false e = h

  offer_placed : (c : ℕ) (t : Bool) (o : Standing) (ch : Channel) → HolderAt c o.holder → StandsAt c ch → StandsAt c (place_offer t o ch)
  offer_placed c true o ch k h = record { offers = offers_push c ch.queue o h.offers k; receivers = h.receivers }
  offer_placed c false o ch k h = record { offers = h.offers; receivers = h.receivers }

  receiver_placed : (c : ℕ) (t : Bool) (r : Receiver) (ch : Channel) → (same_wait r.party.wait w ≡ true → IsClause false r.party.clause c)
      → StandsAt c ch → StandsAt c (place_receiver t r ch)
  receiver_placed c true r ch k h = record { offers = h.offers; receivers = receivers_push c ch.receivers r h.receivers k }
  receiver_placed c false r ch k h = record { offers = h.offers; receivers = h.receivers }

  -- ---- each act

  withdrawn_by : (n : ℕ) (u : WaitId) (s : State) → IsOwnAt (s.waits w) → IsOpenOf n (s.waits u) → same_wait u w ≡ true → n ≡ who
  withdrawn_by n u s h o e = both (s.waits w) h (subst (λ (v : WaitId). IsOpenOf n (s.waits v)) (same_wait-eq u w e) o)
    where
      both : (x : Option Wait) → IsOwnAt x → IsOpenOf n x → n ≡ who
      both None h o = absurd h
      both (Some x) h o = sym o.0 ∙ h.0

  at_step : (s : State) (n : ℕ) (act : Act) → Placed s → Needs shape s n act → (n ≡ who → Allows IsClause MayGo w act) → AtClauses s
      → AtClauses (after s n act)
  at_step s n (Hand c p v) placed needs k h = first_at c (s.channels c).receivers _ s (h.stands c).receivers (λ j f. (c, f, needs.1)) h
  at_step s n (Put c p v) placed needs k h = record {
    own = h.own;
    stands =
        put_at c _ s (offer_placed c true _ (s.channels c) tt (h.stands c)) h.stands;
  }
  at_step s n (Offer c p v u j) placed needs k h = record {
    own = named_own n j c u s h.own;
    stands = put_at c _ s (offer_placed c (is_open (s.waits u)) _ (s.channels c)
        (λ e. k (by_owner n j c p _ u s placed h.own needs.1 needs.4 e) e) (h.stands c)) h.stands;
  }
  at_step s n (Await c p u j) placed needs k h = record {
    own = named_own n j c u s h.own;
    stands = put_at c _ s (receiver_placed c (is_open (s.waits u)) _ (s.channels c)
        (λ e. k (by_owner n j c p _ u s placed h.own needs.1 needs.3 e) e) (h.stands c)) h.stands;
  }
  at_step s n (Take c p v) placed needs k h = offer_at c (s.channels c).queue _ s (h.stands c).offers (λ j f. (c, f)) h
  at_step s n (Admit c p) placed needs k h =
      resolve_holder_at c (holder_at p (s.channels c).queue) _ _ (holder_there c p (s.channels c).queue (h.stands c).offers) (λ j f. (c, f))
      (queue_at c _ s (offers_admitted c p (s.channels c).queue (h.stands c).offers) h)
  at_step s n (Drop c p v) placed needs k h = removed_at c (s.channels c).queue s (h.stands c).offers h
  at_step s n (Spurn c p v) placed needs k h = queue_at c _ s (offers_kept c (is_elsewhere p) (s.channels c).queue (h.stands c).offers) h
  at_step s n (Close c v) placed needs k h = record {
    own = h.own;
    stands =
        put_at c _ s (record { offers = (h.stands c).offers; receivers = (h.stands c).receivers }) h.stands;
  }
  at_step s n (Void c) placed needs k h = record {
    own = h.own;
    stands =
        put_at c _ s (record { offers = (h.stands c).offers; receivers = (h.stands c).receivers }) h.stands;
  }
  at_step s n (Drain c p v) placed needs k h = offer_at c (s.channels c).queue _ s (h.stands c).offers (λ j f. (j, c, f)) h
  at_step s n (WakeClosed c p) placed needs k h = first_at c (s.channels c).receivers _ s (h.stands c).receivers (λ j f. (c, f)) h
  at_step s n (Withdraw u why) placed needs k h = resolve_at u (Withdrawn why) s (λ e. k (withdrawn_by n u s h.own needs e) e) h
  at_step s n (Settle u outcome) placed needs k h = record { own = settled_own outcome u s h.own; stands = h.stands }

  -- ---- a history that goes on

  own_first : (e : Entry) (acts : List Act) (b : Bool) → (e.who == who) ≡ b → AllAllowed IsClause MayGo w (if b then e.act ∷ acts else acts)
      → (e.who ≡ who → Allows IsClause MayGo w e.act) × AllAllowed IsClause MayGo w acts
  unfolding AllAllowed
  own_first e acts true q h = (λ m. h.0, h.1)
  own_first e acts false q h = (
    λ m. absurd (let u : (who == who) ≡ false = ap (λ n. n == who) (sym m) ∙ q in let v : ⊥ = never who u in v),
    h,
  )
    where
      never : (n : ℕ) → (n == n) ≡ false → ⊥
      never n e = let u = same_number n in cc

  from_clauses : (s : State) (es : List Entry) → LegalFrom shape s es → Placed s → AllAllowed IsClause MayGo w (acts_of who es)
      → AtClauses s → AtClauses (replay_from s es)
  unfolding LegalFrom replay_from acts_of
  from_clauses s [] l placed k h = h
  from_clauses s (e ∷ es) l placed k h =
      let two = own_first e (acts_of who es) (e.who == who) refl k in
      from_clauses (after s e.who e.act) es l.1 (placed_after shape s e.who e.act l.0 placed) two.1
      (at_step s e.who e.act placed l.0 two.0 h)

  -- ---- as it begins

  fresh_receivers : (waits : WaitId → Option Wait) (c : ℕ) (rs : List Receiver) → waits w ≡ None → ReceiversStand waits c rs
      → ReceiversAt c rs
  unfolding ReceiversStand ReceiversAt
  fresh_receivers waits c [] none h = tt
  fresh_receivers waits c (r ∷ rs) none h = (
    λ e. absurd (subst (IsStandingAt c) (ap waits (same_wait-eq r.party.wait w e) ∙ none) h.0),
    fresh_receivers waits c rs none h.1,
  )

  fresh_holder : (waits : WaitId → Option Wait) (c : ℕ) (p : Option Party) → waits w ≡ None → HolderStands waits c p → HolderAt c p
  fresh_holder waits c None none h = tt
  fresh_holder waits c (Some p) none h = λ e. absurd (subst (IsStandingAt c) (ap waits (same_wait-eq p.wait w e) ∙ none) h)

  fresh_offers : (waits : WaitId → Option Wait) (c : ℕ) (os : List Standing) → waits w ≡ None → OffersStand waits c os → OffersAt c os
  unfolding OffersStand OffersAt
  fresh_offers waits c [] none h = tt
  fresh_offers waits c (o ∷ os) none h = (fresh_holder waits c o.holder none h.0, fresh_offers waits c os none h.1)

  fresh_stands : (s : State) → s.waits w ≡ None → AllStandOpen s → (c : ℕ) → StandsAt c (s.channels c)
  fresh_stands s none h c = record {
    offers = fresh_offers s.waits c (s.channels c).queue none (h c).offers;
    receivers =
        fresh_receivers s.waits c (s.channels c).receivers none (h c).receivers;
  }

  begun_own : (n k c : ℕ) (u : WaitId) (s : State) → u ≡ w → n ≡ who → s.waits w ≡ None
      → IsOwnAt (put_wait u (name_clause n k c (s.waits u)) s.waits w)
  begun_own n k c u s e m none =
      subst (λ (v : WaitId). IsOwnAt (put_wait v (name_clause n k c (s.waits v)) s.waits w)) (sym e)
      (subst IsOwnAt (sym (at_wait w (name_clause n k c (s.waits w)) s.waits ∙ ap (name_clause n k c) none)) (m, tt))

  new_wait : (c p places : ℕ) (s : State) → Placed s → HasPlace places p (s.channels c) → w ≡ record { channel = c; place = p }
      → s.waits w ≡ None
  new_wait c p places s placed place e = placed w (subst (λ (v : WaitId). (s.channels v.channel).next ≤ v.place) (sym e)
      (let i = place.first in omega arith))

  at_begin : (s : State) (n : ℕ) (act : Act) → Sound shape s → Needs shape s n act → n ≡ who → BeginsAt w act → Allows IsClause MayGo w act
      → AtClauses (after s n act)
  at_begin s n (Offer c p v u j) h needs m b k =
      let none : s.waits w ≡ None = new_wait c p _ s h.placed needs.1 b.1 in
      let stands = fresh_stands s none h.stand in
      record {
        own = begun_own n j c u s b.0 m none;
        stands =
            put_at c _ s (offer_placed c (is_open (s.waits u)) _ (s.channels c) k (stands c)) stands;
      }
  at_begin s n (Await c p u j) h needs m b k =
      let none : s.waits w ≡ None = new_wait c p _ s h.placed needs.1 b.1 in
      let stands = fresh_stands s none h.stand in
      record {
        own = begun_own n j c u s b.0 m none;
        stands =
            put_at c _ s (receiver_placed c (is_open (s.waits u)) _ (s.channels c) k (stands c)) stands;
      }
  at_begin s n (Hand c p v) h needs m b k = absurd b
  at_begin s n other h needs m b k = absurd b

  own_resolved : (x : Option Wait) → IsOwnAt x → ResolvedAtClause shape IsClause MayGo x
  own_resolved None h = h
  own_resolved (Some x) h = h.1

  -- behind the entry that began it
  begun_there : (before : List Entry) (e : Entry) (rest : List Entry) → Legal shape (before ++ e ∷ rest) → e.who ≡ who → BeginsAt w e.act
      → Allows IsClause MayGo w e.act → AllAllowed IsClause MayGo w (acts_of who rest)
      → ResolvedAtClause shape IsClause MayGo ((replay (before ++ e ∷ rest)).waits w)
  unfolding LegalFrom replay_from
  begun_there before e rest l m b k ks =
      let parts = LegalFrom-parts shape start before (e ∷ rest) l in
      let s : State = replay before in
      let h = sound shape before parts.0 in
      let there = from_clauses (after s e.who e.act) rest parts.1.1 (placed_after shape s e.who e.act parts.1.0 h.placed) ks
      (at_begin s e.who e.act h parts.1.0 m b k) in
      subst (λ (t : State). ResolvedAtClause shape IsClause MayGo (t.waits w)) (sym (replay_from-append start before (e ∷ rest)))
      (own_resolved ((replay_from (after s e.who e.act) rest).waits w) there.own)

-- ---- by the acts of the owner

-- an entry of who, and what who did behind it
record OwnEntry (who : ℕ) (act : Act) (acts : List Act) (es : List Entry) : Type 0 where
  before : List Entry
  entry : Entry
  rest : List Entry
  parts : es ≡ before ++ entry ∷ rest
  mine : entry.who ≡ who
  is : entry.act ≡ act
  behind : acts_of who rest ≡ acts

no_acts : {A : Type 0} (xs : List Act) (act : Act) (ys : List Act) → [] ≡ xs ++ act ∷ ys → A
no_acts [] act ys h = absurd (let u : ⊥ = cc in u)
no_acts (x ∷ xs) act ys h = absurd (let u : ⊥ = cc in u)

own_entry : (who : ℕ) (act : Act) (es : List Entry) (xs ys : List Act) → acts_of who es ≡ xs ++ act ∷ ys → OwnEntry who act ys es
unfolding acts_of
own_entry who act [] xs ys h = no_acts xs act ys h
own_entry who act (e ∷ es) xs ys h = by_test (e.who == who) refl h (own_entry who act es)
  where
    later : OwnEntry who act ys es → OwnEntry who act ys (e ∷ es)
    later f = record {
      before = e ∷ f.before;
      entry = f.entry;
      rest = f.rest;
      parts = ap (λ l. e ∷ l) f.parts;
      mine = f.mine;
      is = f.is;
      behind = f.behind;
    }

    own : (xs : List Act) → e.who ≡ who → e.act ∷ acts_of who es ≡ xs ++ act ∷ ys
        → ((xs ys : List Act) → acts_of who es ≡ xs ++ act ∷ ys → OwnEntry who act ys es) → OwnEntry who act ys (e ∷ es)
    own [] k h more = record {
      before = [];
      entry = e;
      rest = es;
      parts = refl;
      mine = k;
      is = let same : e.act ≡ act = cc
          in same;
      behind = let same : acts_of who es ≡ ys = cc in same;
    }
    own (x ∷ xs) k h more = later (more xs ys (let same : acts_of who es ≡ xs ++ act ∷ ys = cc in same))

    by_test : (b : Bool) → (e.who == who) ≡ b → (if b then e.act ∷ acts_of who es else acts_of who es) ≡ xs ++ act ∷ ys
        → ((xs ys : List Act) → acts_of who es ≡ xs ++ act ∷ ys → OwnEntry who act ys es) → OwnEntry who act ys (e ∷ es)
    by_test true k h more = own xs (eqb-true e.who who k) h more
    by_test false k h more = later (more xs ys h)

-- a wait that who began by this act, and gave these clauses alone
pub begun_at_clause : (shape : Shape) (IsClause : Bool → ℕ → ℕ
    → Type 0) (MayGo : Type 0) (who : ℕ) (w : WaitId) (history : List Entry) (us : List Act) (first : Act) (vs : List Act)
    → Legal shape history → acts_of who history ≡ us ++ first ∷ vs → BeginsAt w first → AllAllowed IsClause MayGo w (first ∷ vs)
    → ResolvedAtClause shape IsClause MayGo ((replay history).waits w)
unfolding AllAllowed
begun_at_clause shape IsClause MayGo who w history us first vs l e b k =
    let f = own_entry who first history us vs e in
    subst (λ es. ResolvedAtClause shape IsClause MayGo ((replay es).waits w)) (sym f.parts)
    (begun_there shape IsClause MayGo who w f.before f.entry f.rest (subst (Legal shape) f.parts l) f.mine (subst (BeginsAt w) (sym f.is) b)
    (subst (Allows IsClause MayGo w) (sym f.is) k.0) (subst (AllAllowed IsClause MayGo w) (sym f.behind) k.1))

-- ---- how it ends

ends_so : (shape : Shape) (IsClause : Bool → ℕ → ℕ → Type 0) (MayGo : Type 0) (how : Resolution) → IsAtClause shape IsClause MayGo how
    → EndsAtClause shape IsClause MayGo (outcome_of how false)
ends_so shape IsClause MayGo (Handed n v) h = h
ends_so shape IsClause MayGo (Taken n) h = h
ends_so shape IsClause MayGo (Admitted n) h = h
ends_so shape IsClause MayGo (Closed n v) h = h
ends_so shape IsClause MayGo (Withdrawn why) h = inl h
ends_so shape IsClause MayGo Voided h = inr h

ends_how : (shape : Shape) (IsClause : Bool → ℕ → ℕ → Type 0) (MayGo : Type 0) (how : Option Resolution) (outcome : Settled)
    → IsOpenOrAtClause shape IsClause MayGo how → outcome_of_some false how ≡ Some outcome → EndsAtClause shape IsClause MayGo outcome
ends_how shape IsClause MayGo None outcome h e = cc
ends_how shape IsClause MayGo (Some how) outcome h e = let same : outcome_of how false ≡ outcome = cc
    in subst (EndsAtClause shape IsClause MayGo) same (ends_so shape IsClause MayGo how h)

-- for a Job that was not cancelled
pub ends_at_clause : (shape : Shape) (IsClause : Bool → ℕ → ℕ → Type 0) (MayGo : Type 0) (x : Option Wait) (outcome : Settled)
    → ResolvedAtClause shape IsClause MayGo x → outcome_at false x ≡ Some outcome → EndsAtClause shape IsClause MayGo outcome
ends_at_clause shape IsClause MayGo None outcome h e = absurd h
ends_at_clause shape IsClause MayGo (Some x) outcome h e = ends_how shape IsClause MayGo x.resolved outcome h e
