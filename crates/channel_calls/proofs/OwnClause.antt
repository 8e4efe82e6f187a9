-- A wait whose offer was received or kept was resolved at a clause of its own.
use Rattle.std.specs.Prelude.{◌≡◌, ℕ, ◌==◌, Bool, true, false, not, ◌||◌, List, [], ◌∷◌, ◌++◌, filter, Option, Some, None, refl, if◌then◌else◌}
use Rattle.std.specs.List.{list_any}
use Rattle.std.proofs.Common.{sym, ◌∙◌, subst}
use Rattle.std.proofs.lemmas.Bool.{eqb-true, or_left, or_right}
use Rattle.std.proofs.lemmas.List.Folds.{list_any-append}
use Rattle.co_base.specs.declared.names.WaitId.{WaitId}
use Rattle.channel_model.specs.declared.acts.Act.{Act}
use Rattle.channel_model.specs.declared.acts.Act.TheVariants.{Hand, Put, Offer, Await, Take, Admit, Drop, Spurn, Close, Void, Drain, WakeClosed, Withdraw, Settle}
use Rattle.channel_model.specs.declared.acts.Entry.{Entry}
use Rattle.channel_model.specs.declared.acts.Settled.{Settled}
use Rattle.channel_model.specs.declared.acts.Settled.TheVariants as settled
use Rattle.channel_model.specs.declared.standing.Party.{Party}
use Rattle.channel_model.specs.declared.standing.Standing.{Standing}
use Rattle.channel_model.specs.declared.standing.Receiver.{Receiver}
use Rattle.channel_model.specs.declared.standing.Resolution.{Resolution}
use Rattle.channel_model.specs.declared.standing.Resolution.TheVariants as resolved
use Rattle.channel_model.specs.Channels.{Shape, State, Channel, Wait, same_wait, start}
use Rattle.channel_model.specs.Answers.{outcome_at, outcome_of_some}
use Rattle.channel_model.specs.Effects.{after, resolve, resolve_first, resolve_holder, resolve_offer, remove_first, with_queue, put_channel, put_wait, resolved_wait, name_clause, settled_wait, holder_at, admitted, is_open, is_held_by, place_offer, place_receiver, is_elsewhere}
use Rattle.channel_model.specs.Histories.{replay, Legal}
use Rattle.channel_model.specs.PlainOffers.{IsPlainOffer}
use Rattle.channel_model.proofs.Waits.{at_wait, one_change}
use Rattle.channel_model.proofs.Placed.{same_number}
use Rattle.channel_model.proofs.Sound.{lasts_from, sound_start}

-- the wait has a clause of this number
abbrev HasClause : ℕ → Option Wait → Type 0
HasClause k None = ⊥
HasClause k (Some x) = list_any (λ (y : ℕ × ℕ). y.0 == k) x.clauses ≡ true

-- the clause at which an offer stands is one of its wait
abbrev HolderFits : (WaitId → Option Wait) → Option Party → Type 0
HolderFits waits None = Unit {0}
HolderFits waits (Some p) = HasClause p.clause (waits p.wait)

abbrev OffersFit : (WaitId → Option Wait) → List Standing → Type 0
OffersFit waits [] = Unit {0}
OffersFit waits (o ∷ os) = HolderFits waits o.holder × OffersFit waits os

-- a wait that was received or admitted was so at a clause of its own
abbrev EndFits : Resolution → Option Wait → Type 0
EndFits (resolved.Taken k) x = HasClause k x
EndFits (resolved.Admitted k) x = HasClause k x
EndFits other x = Unit {0}

abbrev SomeEndFits : Option Resolution → Option Wait → Type 0
SomeEndFits None x = Unit {0}
SomeEndFits (Some how) x = EndFits how x

abbrev WaitFits : Option Wait → Type 0
WaitFits None = Unit {0}
WaitFits (Some x) = SomeEndFits x.resolved (Some x)

record Fits (s : State) : Type 0 where
  offers : (c : ℕ) → OffersFit s.waits (s.channels c).queue
  waits : (w : WaitId) → WaitFits (s.waits w)

-- ---- clauses are never taken away

resolved_has : (j : ℕ) (how : Resolution) (x : Option Wait) → HasClause j x → HasClause j (resolved_wait how x)
resolved_has j how None h = h
resolved_has j how (Some x) h = h

named_has : (j n k c : ℕ) (x : Option Wait) → HasClause j x → HasClause j (name_clause n k c x)
named_has j n k c None h = absurd h
named_has j n k c (Some x) h = list_any-append (λ (y : ℕ × ℕ). y.0 == j) x.clauses ((k, c) ∷ []) ∙ or_left _ _ h

settled_has : (j : ℕ) (outcome : Settled) (x : Option Wait) → HasClause j x → HasClause j (settled_wait outcome x)
settled_has j outcome None h = h
settled_has j outcome (Some x) h = h

-- the clause that is named
named_one : (n k c : ℕ) (x : Option Wait) → HasClause k (name_clause n k c x)
named_one n k c None = or_left _ _ (same_number k)
named_one n k c (Some x) = list_any-append (λ (y : ℕ × ℕ). y.0 == k) x.clauses ((k, c) ∷ []) ∙ or_right _ _ (or_left _ _ (same_number k))

-- ---- offers

abbrev Grows : (WaitId → Option Wait) → (WaitId → Option Wait) → Type 0
Grows waits waits' = (j : ℕ) (v : WaitId) → HasClause j (waits v) → HasClause j (waits' v)

holder_more : (waits waits' : WaitId → Option Wait) (p : Option Party) → Grows waits waits' → HolderFits waits p → HolderFits waits' p
holder_more waits waits' None g h = h
holder_more waits waits' (Some p) g h = g p.clause p.wait h

offers_more : (waits waits' : WaitId → Option Wait) (os : List Standing) → Grows waits waits' → OffersFit waits os → OffersFit waits' os
offers_more waits waits' [] g h = h
offers_more waits waits' (o ∷ os) g h = (holder_more waits waits' o.holder g h.0, offers_more waits waits' os g h.1)

offers_filter : (waits : WaitId → Option Wait) (keep : Standing → Bool) (os : List Standing) → OffersFit waits os
    → OffersFit waits (filter keep os)
offers_filter waits keep [] h = h
offers_filter waits keep (o ∷ os) h = by_test (keep o) (offers_filter waits keep os h.1)
  where
    by_test : (b : Bool) → OffersFit waits (filter keep os) → OffersFit waits (if b then o ∷ filter keep os else filter keep os)
    by_test true r = (h.0, r)
    by_test false r = r

offers_push : (waits : WaitId → Option Wait) (os : List Standing) (o : Standing) → OffersFit waits os → HolderFits waits o.holder
    → OffersFit waits (os ++ o ∷ [])
offers_push waits [] o h k = (k, tt)
offers_push waits (x ∷ xs) o h k = (h.0, offers_push waits xs o h.1 k)

offers_admitted : (waits : WaitId → Option Wait) (p : ℕ) (os : List Standing) → OffersFit waits os → OffersFit waits (admitted p os)
offers_admitted waits p [] h = h
offers_admitted waits p (o ∷ os) h = by_test (o.place == p) (offers_admitted waits p os h.1)
  where
    by_test : (b : Bool) → OffersFit waits (admitted p os)
        → OffersFit waits (if b then record o { holder = None } ∷ os else o ∷ admitted p os)
    by_test true r = (tt, h.1)
    by_test false r = (h.0, r)

holder_at_fits : (waits : WaitId → Option Wait) (p : ℕ) (os : List Standing) → OffersFit waits os → HolderFits waits (holder_at p os)
holder_at_fits waits p [] h = tt
holder_at_fits waits p (o ∷ os) h = by_test (o.place == p) (holder_at_fits waits p os h.1)
  where
    by_test : (b : Bool) → HolderFits waits (holder_at p os) → HolderFits waits (if b then o.holder else holder_at p os)
    by_test true r = h.0
    by_test false r = r

-- ---- changes of a state

resolved_end : (how : Resolution) (x : Option Wait) → EndFits how x → WaitFits (resolved_wait how x)
resolved_end how None e = tt
resolved_end (resolved.Taken k) (Some x) e = e
resolved_end (resolved.Admitted k) (Some x) e = e
resolved_end other (Some x) e = tt

resolve_fits : (v : WaitId) (how : Resolution) (s : State) → EndFits how (s.waits v) → Fits s → Fits (resolve v how s)
resolve_fits v how s e h = record {
  offers = λ c. offers_filter _ (λ o. not (is_held_by v o.holder)) (s.channels c).queue
      (offers_more s.waits _ (s.channels c).queue (λ j u k. one_change (HasClause j) s.waits v u (resolved_wait how)
      (resolved_has j how (s.waits u)) k) (h.offers c));
  waits = λ w. by_test w (same_wait v w);
}
  where
    by_test : (w : WaitId) (b : Bool) → WaitFits (if b then resolved_wait how (s.waits v) else s.waits w)
    by_test w true = resolved_end how (s.waits v) e
    by_test w false = h.waits w

put_fits : (c : ℕ) (ch : Channel) (s : State) → OffersFit s.waits ch.queue → Fits s
    → Fits (record s { channels = put_channel c ch s.channels })
put_fits c ch s k h = record { offers = λ d. by_test d (c == d); waits = h.waits }
  where
    by_test : (d : ℕ) (b : Bool) → OffersFit s.waits (if b then ch else s.channels d).queue
    by_test d true = k
    by_test d false = h.offers d

stood_fits : (stood : ℕ → ℕ → ℕ) (s : State) → Fits s → Fits (record s { stood = stood })
stood_fits stood s h = record { offers = h.offers; waits = h.waits }

first_fits : (rs : List Receiver) (how : ℕ → Resolution) (s : State) → ((k : ℕ) (x : Option Wait) → EndFits (how k) x) → Fits s
    → Fits (resolve_first rs how s)
first_fits [] how s f h = h
first_fits (r ∷ rs) how s f h = resolve_fits r.party.wait (how r.party.clause) s (f r.party.clause _) h

holder_fits : (p : Option Party) (how : ℕ → Resolution) (s : State) → ((k : ℕ) (x : Option Wait) → HasClause k x → EndFits (how k) x)
    → HolderFits s.waits p → Fits s → Fits (resolve_holder p how s)
holder_fits None how s f e h = h
holder_fits (Some p) how s f e h = resolve_fits p.wait (how p.clause) s (f p.clause _ e) h

offer_fits : (c : ℕ) (q : List Standing) (how : ℕ → Resolution) (s : State)
    → ((k : ℕ) (x : Option Wait) → HasClause k x → EndFits (how k) x) → OffersFit s.waits q → Fits s → Fits (resolve_offer c q how s)
offer_fits c [] how s f e h = h
offer_fits c (o ∷ os) how s f e h = holder_fits o.holder how (with_queue c os s) f e.0 (put_fits c _ s e.1 h)

removed_fits : (c : ℕ) (q : List Standing) (s : State) → OffersFit s.waits q → Fits s → Fits (remove_first c q s)
removed_fits c [] s e h = h
removed_fits c (o ∷ os) s e h = put_fits c _ s e.1 h

named_end : (n k c : ℕ) (x : Option Wait) → WaitFits x → WaitFits (name_clause n k c x)
named_end n k c None h = tt
named_end n k c (Some x) h = by_end x.resolved h
  where
    by_end : (how : Option Resolution) → SomeEndFits how (Some x) → SomeEndFits how (Some (record x { clauses = x.clauses ++ (k, c) ∷ [] }))
    by_end None e = tt
    by_end (Some (resolved.Handed j v)) e = tt
    by_end (Some (resolved.Taken j)) e = named_has j n k c (Some x) e
    by_end (Some (resolved.Admitted j)) e = named_has j n k c (Some x) e
    by_end (Some (resolved.Closed j v)) e = tt
    by_end (Some (resolved.Withdrawn why)) e = tt
    by_end (Some resolved.Voided) e = tt

named_grows : (n k c : ℕ) (v : WaitId) (s : State) → Grows s.waits (put_wait v (name_clause n k c (s.waits v)) s.waits)
named_grows n k c v s j u e = one_change (HasClause j) s.waits v u (name_clause n k c) (named_has j n k c (s.waits u)) e

named_fits : (n k c : ℕ) (v : WaitId) (ch : Channel) (s : State) → OffersFit (put_wait v (name_clause n k c (s.waits v)) s.waits) ch.queue
    → Fits s → Fits (record s { channels = put_channel c ch s.channels; waits = put_wait v (name_clause n k c (s.waits v)) s.waits })
named_fits n k c v ch s e h = record {
  offers = λ d. by_test d (c == d);
  waits = λ w. one_change WaitFits s.waits v w (name_clause n k c) (named_end n k c (s.waits w)) (h.waits w);
}
  where
    by_test : (d : ℕ) (b : Bool) → OffersFit (put_wait v (name_clause n k c (s.waits v)) s.waits) (if b then ch else s.channels d).queue
    by_test d true = e
    by_test d false = offers_more s.waits _ (s.channels d).queue (named_grows n k c v s) (h.offers d)

settled_end : (outcome : Settled) (x : Option Wait) → WaitFits x → WaitFits (settled_wait outcome x)
settled_end outcome None h = h
settled_end outcome (Some x) h = by_end x.resolved h
  where
    by_end : (how : Option Resolution) → SomeEndFits how (Some x) → SomeEndFits how (Some (record x { settled = Some outcome }))
    by_end None e = tt
    by_end (Some (resolved.Handed j v)) e = tt
    by_end (Some (resolved.Taken j)) e = e
    by_end (Some (resolved.Admitted j)) e = e
    by_end (Some (resolved.Closed j v)) e = tt
    by_end (Some (resolved.Withdrawn why)) e = tt
    by_end (Some resolved.Voided) e = tt

settled_fits : (outcome : Settled) (v : WaitId) (s : State) → Fits s
    → Fits (record s { waits = put_wait v (settled_wait outcome (s.waits v)) s.waits })
settled_fits outcome v s h = record {
  offers = λ c. offers_more s.waits _ (s.channels c).queue
      (λ j u e. one_change (HasClause j) s.waits v u (settled_wait outcome) (settled_has j outcome (s.waits u)) e) (h.offers c);
  waits = λ w. one_change WaitFits s.waits v w (settled_wait outcome) (settled_end outcome (s.waits w)) (h.waits w);
}

placed_offers : (waits : WaitId → Option Wait) (b : Bool) (o : Standing) (ch : Channel) → OffersFit waits ch.queue
    → HolderFits waits o.holder → OffersFit waits (place_offer b o ch).queue
placed_offers waits true o ch h k = offers_push waits ch.queue o h k
placed_offers waits false o ch h k = h

placed_receivers : (waits : WaitId → Option Wait) (b : Bool) (r : Receiver) (ch : Channel) → OffersFit waits ch.queue
    → OffersFit waits (place_receiver b r ch).queue
placed_receivers waits true r ch h = h
placed_receivers waits false r ch h = h

-- ---- the acts

after_fits : (s : State) (who : ℕ) (act : Act) → Fits s → Fits (after s who act)
after_fits s who (Hand c p v) h = first_fits (s.channels c).receivers _ s (λ k x. tt) h
after_fits s who (Put c p v) h = stood_fits _ _ (put_fits c _ s (offers_push s.waits (s.channels c).queue _ (h.offers c) tt) h)
after_fits s who (Offer c p v w k) h =
    stood_fits _ _ (named_fits who k c w _ s
    (placed_offers _ (is_open (s.waits w)) (record { place = p; value = v; holder = Some (record { wait = w; clause = k }) }) (s.channels c)
    (offers_more s.waits _ (s.channels c).queue (named_grows who k c w s) (h.offers c))
    (subst (HasClause k) (sym (at_wait w _ s.waits)) (named_one who k c (s.waits w))))
    h)
after_fits s who (Await c p w k) h =
    named_fits who k c w _ s (placed_receivers _ (is_open (s.waits w)) (record { place = p; party = record { wait = w; clause = k } })
    (s.channels c) (offers_more s.waits _ (s.channels c).queue (named_grows who k c w s) (h.offers c))) h
after_fits s who (Take c p v) h = offer_fits c (s.channels c).queue resolved.Taken s (λ k x e. e) (h.offers c) h
after_fits s who (Admit c p) h =
    holder_fits (holder_at p (s.channels c).queue) resolved.Admitted (with_queue c (admitted p (s.channels c).queue) s) (λ k x e. e)
    (holder_at_fits s.waits p (s.channels c).queue (h.offers c))
    (put_fits c _ s (offers_admitted s.waits p (s.channels c).queue (h.offers c)) h)
after_fits s who (Drop c p v) h = removed_fits c (s.channels c).queue s (h.offers c) h
after_fits s who (Spurn c p v) h = put_fits c _ s (offers_filter s.waits (is_elsewhere p) (s.channels c).queue (h.offers c)) h
after_fits s who (Close c v) h = put_fits c _ s (h.offers c) h
after_fits s who (Void c) h = put_fits c _ s (h.offers c) h
after_fits s who (Drain c p v) h = offer_fits c (s.channels c).queue (λ k. resolved.Voided) s (λ k x e. tt) (h.offers c) h
after_fits s who (WakeClosed c p) h = first_fits (s.channels c).receivers _ s (λ k x. tt) h
after_fits s who (Withdraw w why) h = resolve_fits w (resolved.Withdrawn why) s tt h
after_fits s who (Settle w outcome) h = settled_fits outcome w s h

replay_fits : (shape : Shape) (es : List Entry) → Legal shape es → Fits (replay es)
replay_fits shape es l = lasts_from shape Fits (record { step = λ s who act h n p. after_fits s who act p }) start es l (sound_start shape)
    (record { offers = λ c. tt; waits = λ w. tt })

-- ---- the wait of a plain offer

-- that it was sent says so of its only clause
sent_zero : (who c k : ℕ) (b : Bool) (x : Option Wait) → IsPlainOffer who c b x → WaitFits x → outcome_at false x ≡ Some (settled.Sent k)
    → k ≡ 0
sent_zero who c k b None h f e = absurd h
sent_zero who c k b (Some x) h f e = by_end x.resolved f e
  where
    only : (j : ℕ) → HasClause j (Some x) → j ≡ k → k ≡ 0
    only j t q =
        let first : ((0 == j) || false) ≡ true = subst (λ ys. list_any (λ (y : ℕ × ℕ). y.0 == j) ys ≡ true) h.2 t in
        sym q ∙ sym (eqb-true 0 j (drop_false (0 == j) first))
      where
        drop_false : (a : Bool) → (a || false) ≡ true → a ≡ true
        drop_false true t = refl
        drop_false false t = t

    by_end : (how : Option Resolution) → SomeEndFits how (Some x) → outcome_of_some false how ≡ Some (settled.Sent k) → k ≡ 0
    by_end None t q = cc
    by_end (Some (resolved.Handed j v)) t q = cc
    by_end (Some (resolved.Taken j)) t q = only j t (let z : Some (settled.Sent j) ≡ Some (settled.Sent k) = q in cc)
    by_end (Some (resolved.Admitted j)) t q = only j t (let z : Some (settled.Sent j) ≡ Some (settled.Sent k) = q in cc)
    by_end (Some (resolved.Closed j v)) t q = cc
    by_end (Some (resolved.Withdrawn why)) t q = cc
    by_end (Some resolved.Voided) t q = cc

pub plain_sent : (shape : Shape) (es : List Entry) (who c k : ℕ) (b : Bool) (w : WaitId) → Legal shape es
    → IsPlainOffer who c b ((replay es).waits w) → outcome_at false ((replay es).waits w) ≡ Some (settled.Sent k) → k ≡ 0
plain_sent shape es who c k b w l h e = sent_zero who c k b ((replay es).waits w) h ((replay_fits shape es l).waits w) e
