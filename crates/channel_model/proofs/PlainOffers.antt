-- A wait that began with a plain offer: it stands as that offer alone, so it is received, admitted, withdrawn or voided.
use Rattle.std.specs.Prelude.{◌≡◌, ◌≢◌, ℕ, ◌+◌, ◌≤◌, ◌==◌, Bool, true, false, not, cond, ◌&&◌, ◌||◌, List, [], ◌∷◌, ◌++◌, Option, Some, None, refl, if◌then◌else◌, MatchBool}
use Rattle.std.specs.List.{list_all, list_any}
use mathlib.Core.List.{IsPrefix}
use Rattle.std.proofs.Common.{sym, ap, ◌∙◌, subst, arith}
use Rattle.std.proofs.lemmas.Bool.{eqb-true}
use Rattle.std.proofs.lemmas.Bool.Decides.{nat_tests}
use Rattle.co_base.specs.declared.names.WaitId.{WaitId}
use Rattle.channel_model.specs.declared.acts.Act.{Act}
use Rattle.channel_model.specs.declared.acts.Act.TheVariants.{Hand, Put, Offer, Await, Take, Admit, Drop, Spurn, Close, Void, Drain, WakeClosed, Withdraw, Settle}
use Rattle.channel_model.specs.declared.acts.Entry.{Entry}
use Rattle.channel_model.specs.declared.standing.Party.{Party}
use Rattle.channel_model.specs.declared.standing.Standing.{Standing}
use Rattle.channel_model.specs.declared.standing.Receiver.{Receiver}
use Rattle.channel_model.specs.declared.standing.Resolution.{Resolution}
use Rattle.channel_model.specs.declared.standing.Resolution.TheVariants as resolved
use Rattle.channel_model.specs.Channels.{Shape, State, Channel, Wait, same_wait, start, places_at}
use Rattle.channel_model.specs.declared.acts.Settled.{Settled}
use Rattle.channel_model.specs.declared.acts.Settled.TheVariants as settled
use Rattle.channel_model.specs.Answers.{outcome_at, outcome_of_some}
use Rattle.channel_model.specs.Effects.{after, resolve, resolve_first, resolve_holder, resolve_offer, remove_first, with_queue, put_channel, put_wait, resolved_wait, name_clause, settled_wait, holder_at, admitted, spurned, is_open, place_offer, place_receiver}
use Rattle.channel_model.specs.Needs.{Needs, HasPlace, MayName, JoinsWait, MaySettle, IsOpenOf, began_by_select}
use Rattle.channel_model.specs.Histories.{replay, replay_from, Legal, LegalFrom, acts_of}
use Rattle.channel_model.specs.Laws.{how_many, IsStandingAt, HolderStands, OffersStand, AllStandOpen}
use Rattle.channel_model.specs.PlainOffers.{EndsPlainly, IsPlainOffer, receivers_of, OffersPlainly}
use Rattle.channel_model.proofs.Histories.{replay_from-append, LegalFrom-parts, acts_of-append}
use Rattle.channel_model.proofs.Waits.{same_wait-eq, same_wait-refl, at_wait}
use Rattle.channel_model.proofs.Placed.{Placed, placed_after, replay_placed}
use Rattle.channel_model.proofs.OpenWaits.{after_open, replay_open}
use Rattle.channel_model.proofs.Apart.{filtered_less, how_many_push, no_receivers}

ends_more : (b b' : Bool) (how : Option Resolution) → (b ≡ true → b' ≡ true) → EndsPlainly b how → EndsPlainly b' how
ends_more b b' None f h = h
ends_more b b' (Some (resolved.Handed k v)) f h = h
ends_more b b' (Some (resolved.Taken k)) f h = h
ends_more b b' (Some (resolved.Admitted k)) f h = h
ends_more b b' (Some (resolved.Closed k v)) f h = h
ends_more b b' (Some (resolved.Withdrawn why)) f h = h
ends_more b b' (Some resolved.Voided) f h = f h

more : (who c : ℕ) (b b' : Bool) (x : Option Wait) → (b ≡ true → b' ≡ true) → IsPlainOffer who c b x → IsPlainOffer who c b' x
more who c b b' None f h = h
more who c b b' (Some x) f h = (h.0, h.1, h.2, ends_more b b' x.resolved f h.3)

-- another channel state
put_plain : (who : ℕ) (w : WaitId) (c : ℕ) (ch : Channel) (s : State) → receivers_of w ch ≡ 0
    → ((s.channels c).voided ≡ true → ch.voided ≡ true) → OffersPlainly who w s
    → OffersPlainly who w (record s { channels = put_channel c ch s.channels })
put_plain who w c ch s none f h = record {
  wait = more who w.channel (s.channels w.channel).voided (put_channel c ch s.channels w.channel).voided (s.waits w)
      (by_voided (c == w.channel) refl) h.wait;
  no_receiver = λ d. by_test d (c == d);
}
  where
    by_voided : (b : Bool) → (c == w.channel) ≡ b → (s.channels w.channel).voided ≡ true
        → (if b then ch else s.channels w.channel).voided ≡ true
    by_voided true t e = f (subst (λ n. (s.channels n).voided ≡ true) (sym (eqb-true c w.channel t)) e)
    by_voided false t e = e

    by_test : (d : ℕ) (b : Bool) → receivers_of w (if b then ch else s.channels d) ≡ 0
    by_test d true = none
    by_test d false = h.no_receiver d

-- how many stood as offers were placed is nothing to it
stood_plain : (who : ℕ) (w : WaitId) (stood : ℕ → ℕ → ℕ) (s : State) → OffersPlainly who w s
    → OffersPlainly who w (record s { stood = stood })
stood_plain who w stood s h = record { wait = h.wait; no_receiver = h.no_receiver }

queue_plain : (who : ℕ) (w : WaitId) (c : ℕ) (q : List Standing) (s : State) → OffersPlainly who w s
    → OffersPlainly who w (with_queue c q s)
queue_plain who w c q s h = put_plain who w c _ s (h.no_receiver c) (λ e. e) h

resolved_plain : (who c : ℕ) (b : Bool) (how : Resolution) (x : Option Wait) → EndsPlainly b (Some how) → IsPlainOffer who c b x
    → IsPlainOffer who c b (resolved_wait how x)
resolved_plain who c b how None e h = h
resolved_plain who c b how (Some x) e h = (h.0, h.1, h.2, e)

resolve_plain : (who : ℕ) (w v : WaitId) (how : Resolution) (s : State) → (v ≡ w → EndsPlainly (s.channels w.channel).voided (Some how))
    → OffersPlainly who w s → OffersPlainly who w (resolve v how s)
resolve_plain who w v how s f h = record {
  wait = by_test (same_wait v w) refl;
  no_receiver = λ c. none _ _ (h.no_receiver c) (filtered_less (λ (r : Receiver). same_wait w r.party.wait)
      (λ (r : Receiver). not (same_wait v r.party.wait)) (s.channels c).receivers);
}
  where
    none : (n m : ℕ) → n ≡ 0 → m ≤ n → m ≡ 0
    none n m e le = omega arith

    by_test : (b : Bool) → same_wait v w ≡ b → IsPlainOffer who w.channel (s.channels w.channel).voided
        (if b then resolved_wait how (s.waits v) else s.waits w)
    by_test true t = let e : v ≡ w = same_wait-eq v w t in
        resolved_plain who w.channel (s.channels w.channel).voided how (s.waits v) (f e)
        (subst (λ u. IsPlainOffer who w.channel (s.channels w.channel).voided (s.waits u)) (sym e) h.wait)
    by_test false t = h.wait

-- the receiver that stands first is another
first_other : (w : WaitId) (r : Receiver) (rs : List Receiver) → how_many (λ (x : Receiver). same_wait w x.party.wait) (r ∷ rs) ≡ 0
    → r.party.wait ≡ w → ⊥
first_other w r rs h e = by_test (same_wait w r.party.wait) (ap (same_wait w) e ∙ same_wait-refl w) h
  where
    by_test : (b : Bool) → b ≡ true → cond b 1 0 + how_many (λ (x : Receiver). same_wait w x.party.wait) rs ≡ 0 → ⊥
    by_test true k h = omega arith
    by_test false k h = cc

first_plain : (who : ℕ) (w : WaitId) (c : ℕ) (rs : List Receiver) (how : ℕ → Resolution) (s : State) → (s.channels c).receivers ≡ rs
    → OffersPlainly who w s → OffersPlainly who w (resolve_first rs how s)
first_plain who w c [] how s e h = h
first_plain who w c (r ∷ rs) how s e h = resolve_plain who w r.party.wait (how r.party.clause) s
    (λ q. absurd (first_other w r rs (subst (λ xs. how_many (λ (x : Receiver). same_wait w x.party.wait) xs ≡ 0) e (h.no_receiver c)) q)) h

holder_plain : (who : ℕ) (w : WaitId) (p : Option Party) (how : ℕ → Resolution) (s : State)
    → ((q : Party) → p ≡ Some q → q.wait ≡ w → EndsPlainly (s.channels w.channel).voided (Some (how q.clause))) → OffersPlainly who w s
    → OffersPlainly who w (resolve_holder p how s)
holder_plain who w None how s f h = h
holder_plain who w (Some p) how s f h = resolve_plain who w p.wait (how p.clause) s (f p refl) h

-- an offer that is held by the wait stands at its channel
one_name : (c d who : ℕ) (b : Bool) (x : Option Wait) → IsPlainOffer who c b x → IsStandingAt d x → c ≡ d
one_name c d who b None h k = absurd h
one_name c d who b (Some x) h k = here (c == d) refl (ap (list_any (λ (y : ℕ × ℕ). y.1 == d)) (sym h.2) ∙ k.1)
  where
    here : (t : Bool) → (c == d) ≡ t → (t || false) ≡ true → c ≡ d
    here true e k = eqb-true c d e
    here false e k = cc

voided_here : (who : ℕ) (w : WaitId) (c : ℕ) (p : Party) (s : State) → OffersPlainly who w s → (s.channels c).voided ≡ true
    → IsStandingAt c (s.waits p.wait) → p.wait ≡ w → (s.channels w.channel).voided ≡ true
voided_here who w c p s h v k e = subst (λ n. (s.channels n).voided ≡ true)
    (sym (one_name w.channel c who _ (s.waits w) h.wait (subst (λ u. IsStandingAt c (s.waits u)) e k))) v

offer_plain : (who : ℕ) (w : WaitId) (c : ℕ) (q : List Standing) (how : ℕ → Resolution) (s : State) → (s.channels c).queue ≡ q
    → ((k : ℕ) (p : Party) → IsStandingAt c (s.waits p.wait) → p.wait ≡ w → EndsPlainly (s.channels w.channel).voided (Some (how k)))
    → OffersStand s.waits c q → OffersPlainly who w s → OffersPlainly who w (resolve_offer c q how s)
unfolding OffersStand
offer_plain who w c [] how s e f k h = h
offer_plain who w c (o ∷ os) how s e f k h =
    let t = queue_plain who w c os s h in
    holder_plain who w o.holder how (with_queue c os s) (λ p is q. same_void p (f p.clause p (stands o.holder p is k.0) q)) t
  where
    stands : (x : Option Party) (p : Party) → x ≡ Some p → HolderStands s.waits c x → IsStandingAt c (s.waits p.wait)
    stands None p is k = cc
    stands (Some y) p is k = let z : y ≡ p = cc in subst (λ u. IsStandingAt c (s.waits u.wait)) z k

    same_void : (p : Party) → EndsPlainly (s.channels w.channel).voided (Some (how p.clause))
        → EndsPlainly ((with_queue c os s).channels w.channel).voided (Some (how p.clause))
    same_void p g = ends_more _ _ (Some (how p.clause)) (by_test (c == w.channel) refl) g
      where
        by_test : (b : Bool) → (c == w.channel) ≡ b → (s.channels w.channel).voided ≡ true
            → (if b then record (s.channels c) { queue = os } else s.channels w.channel).voided ≡ true
        by_test true t e = subst (λ n. (s.channels n).voided ≡ true) (sym (eqb-true c w.channel t)) e
        by_test false t e = e

-- nobody names the wait again
named_apart : (who n k c p places : ℕ) (v w : WaitId) (s : State) → Placed s → HasPlace places p (s.channels c) → MayName n k c p v s
    → OffersPlainly who w s → v ≡ w → ⊥
named_apart who n k c p places v w s place has may h e = by_test (same_wait v (record { channel = c; place = p })) refl may
  where
    gone : (x : Option Wait) → x ≡ None → IsPlainOffer who w.channel (s.channels w.channel).voided x → ⊥
    gone None q g = g
    gone (Some x) q g = cc

    joins : (x : Option Wait) → JoinsWait n k c x → IsPlainOffer who w.channel (s.channels w.channel).voided x → ⊥
    joins None j g = g
    joins (Some x) j g = (let q : began_by_select ((0, w.channel) ∷ []) ≡ true = ap began_by_select (sym g.2) ∙ j.select in cc)

    by_test : (b : Bool) → same_wait v (record { channel = c; place = p }) ≡ b → MatchBool b (k ≤ 7) (JoinsWait n k c (s.waits v)) → ⊥
    by_test true t m =
        let is : v ≡ record { channel = c; place = p } = same_wait-eq v _ t in
        gone (s.waits w) (place w (subst (λ (u : WaitId). (s.channels u.channel).next ≤ u.place) (sym is ∙ e) (omega (arith, has.first))))
        h.wait
    by_test false t m = joins (s.waits w) (subst (λ u. JoinsWait n k c (s.waits u)) e m) h.wait

-- ---- the acts

-- the act neither withdraws nor settles
abbrev pub is_quiet : Act → Bool
is_quiet (Withdraw w why) = false
is_quiet (Settle w outcome) = false
is_quiet other = true

-- a wait is named, and a channel gives a place out
named_plain : (who n k c p places : ℕ) (v w : WaitId) (ch : Channel) (s : State) → Placed s → HasPlace places p (s.channels c)
    → MayName n k c p v s → (receivers_of w (s.channels c) ≡ 0 → (v ≡ w → ⊥) → receivers_of w ch ≡ 0)
    → ((s.channels c).voided ≡ true → ch.voided ≡ true) → OffersPlainly who w s
    → OffersPlainly who w (record s { channels = put_channel c ch s.channels; waits = put_wait v (name_clause n k c (s.waits v)) s.waits })
named_plain who n k c p places v w ch s place has may none f h =
    let apart : v ≡ w → ⊥ = named_apart who n k c p places v w s place has may h in
    let t = put_plain who w c ch s (none (h.no_receiver c) apart) f h in
    record { wait = by_test apart (same_wait v w) refl t.wait; no_receiver = t.no_receiver }
  where
    by_test : (v ≡ w → ⊥) → (b : Bool) → same_wait v w ≡ b
        → IsPlainOffer who w.channel (put_channel c ch s.channels w.channel).voided (s.waits w)
        → IsPlainOffer who w.channel (put_channel c ch s.channels w.channel).voided (if b then name_clause n k c (s.waits v) else s.waits w)
    by_test apart true e g = absurd (apart (same_wait-eq v w e))
    by_test apart false e g = g

offer_receivers : (b : Bool) (w : WaitId) (o : Standing) (ch : Channel) → receivers_of w ch ≡ 0 → receivers_of w (place_offer b o ch) ≡ 0
offer_receivers true w o ch h = h
offer_receivers false w o ch h = h

offer_voided : (b : Bool) (o : Standing) (ch : Channel) → ch.voided ≡ true → (place_offer b o ch).voided ≡ true
offer_voided true o ch h = h
offer_voided false o ch h = h

receiver_receivers : (b : Bool) (w : WaitId) (r : Receiver) (ch : Channel) → (r.party.wait ≡ w → ⊥) → receivers_of w ch ≡ 0
    → receivers_of w (place_receiver b r ch) ≡ 0
receiver_receivers true w r ch apart h = by_test (same_wait w r.party.wait) refl
    (how_many_push (λ (x : Receiver). same_wait w x.party.wait) ch.receivers r)
  where
    by_test : (b : Bool) → same_wait w r.party.wait ≡ b → receivers_of w (place_receiver true r ch) ≡ receivers_of w ch + cond b 1 0
        → receivers_of w (place_receiver true r ch) ≡ 0
    by_test true e k = absurd (apart (sym (same_wait-eq w r.party.wait e)))
    by_test false e k = omega arith
receiver_receivers false w r ch apart h = h

receiver_voided : (b : Bool) (r : Receiver) (ch : Channel) → ch.voided ≡ true → (place_receiver b r ch).voided ≡ true
receiver_voided true r ch h = h
receiver_voided false r ch h = h

-- not the owner
not_owner : (who n c : ℕ) (b : Bool) (x : Option Wait) → n ≢ who → IsOpenOf n x → IsPlainOffer who c b x → ⊥
not_owner who n c b None apart m h = h
not_owner who n c b (Some x) apart m h = apart (sym m.0 ∙ h.0)

not_settler : (who n c : ℕ) (b : Bool) (outcome : Settled) (x : Option Wait) → n ≢ who → MaySettle n outcome x → IsPlainOffer who c b x → ⊥
not_settler who n c b outcome None apart m h = h
not_settler who n c b outcome (Some x) apart m h = apart (sym m.0 ∙ h.0)

settled_plain : (who n : ℕ) (outcome : Settled) (v w : WaitId) (s : State) → n ≢ who → MaySettle n outcome (s.waits v)
    → OffersPlainly who w s → OffersPlainly who w (record s { waits = put_wait v (settled_wait outcome (s.waits v)) s.waits })
settled_plain who n outcome v w s apart m h = record { wait = by_test (same_wait v w) refl; no_receiver = h.no_receiver }
  where
    by_test : (b : Bool) → same_wait v w ≡ b → IsPlainOffer who w.channel (s.channels w.channel).voided
        (if b then settled_wait outcome (s.waits v) else s.waits w)
    by_test true e = absurd (not_settler who n w.channel _ outcome (s.waits w) apart
        (subst (λ u. MaySettle n outcome (s.waits u)) (same_wait-eq v w e) m) h.wait)
    by_test false e = h.wait

-- others, and the owner's own acts that neither withdraw nor settle, leave it
after_plain : (shape : Shape) (who n : ℕ) (w : WaitId) (s : State) (act : Act) → Needs shape s n act → (is_quiet act ≡ false → n ≢ who)
    → AllStandOpen s → Placed s → OffersPlainly who w s → OffersPlainly who w (after s n act)
after_plain shape who n w s (Hand c p v) m f o l h = first_plain who w c (s.channels c).receivers _ s refl h
after_plain shape who n w s (Put c p v) m f o l h = stood_plain who w _ _
    (put_plain who w c _ s (offer_receivers true w (record { place = p; value = v; holder = None }) (s.channels c) (h.no_receiver c))
    (λ e. e) h)
after_plain shape who n w s (Offer c p x v k) m f o l h =
    stood_plain who w _ _ (named_plain who n k c p (places_at shape c) v w _ s l m.1 m.4
    (λ e apart. offer_receivers (is_open (s.waits v)) w (record { place = p; value = x; holder = Some (record { wait = v; clause = k }) })
    (s.channels c) e) (offer_voided (is_open (s.waits v)) (record { place = p; value = x; holder = Some (record { wait = v; clause = k }) })
    (s.channels c)) h)
after_plain shape who n w s (Await c p v k) m f o l h =
    named_plain who n k c p (places_at shape c) v w _ s l m.1 m.3
    (λ e apart. receiver_receivers (is_open (s.waits v)) w (record { place = p; party = record { wait = v; clause = k } }) (s.channels c)
    apart e) (receiver_voided (is_open (s.waits v)) (record { place = p; party = record { wait = v; clause = k } }) (s.channels c)) h
after_plain shape who n w s (Take c p v) m f o l h = offer_plain who w c (s.channels c).queue resolved.Taken s refl (λ k q i e. tt)
    (o c).offers h
after_plain shape who n w s (Admit c p) m f o l h = holder_plain who w (holder_at p (s.channels c).queue) resolved.Admitted
    (with_queue c (admitted p (s.channels c).queue) s) (λ q i e. tt) (queue_plain who w c (admitted p (s.channels c).queue) s h)
after_plain shape who n w s (Drop c p v) m f o l h = dropped (s.channels c).queue
  where
    dropped : (q : List Standing) → OffersPlainly who w (remove_first c q s)
    dropped [] = h
    dropped (x ∷ xs) = queue_plain who w c xs s h
after_plain shape who n w s (Spurn c p v) m f o l h = queue_plain who w c (spurned p (s.channels c).queue) s h
after_plain shape who n w s (Close c v) m f o l h = put_plain who w c _ s (h.no_receiver c) (λ e. e) h
after_plain shape who n w s (Void c) m f o l h = put_plain who w c _ s (h.no_receiver c) (λ e. refl) h
after_plain shape who n w s (Drain c p v) m f o l h = offer_plain who w c (s.channels c).queue (λ k. resolved.Voided) s refl
    (λ k q i e. voided_here who w c q s h m.1 i e) (o c).offers h
after_plain shape who n w s (WakeClosed c p) m f o l h = first_plain who w c (s.channels c).receivers _ s refl h
after_plain shape who n w s (Withdraw v why) m f o l h =
    resolve_plain who w v (resolved.Withdrawn why) s (λ e. absurd
    (not_owner who n w.channel _ (s.waits w) (f refl) (subst (λ u. IsOpenOf n (s.waits u)) e m) h.wait)) h
after_plain shape who n w s (Settle v outcome) m f o l h = settled_plain who n outcome v w s (f refl) m h

-- the first of the caller's acts is quiet, and so are those that follow
quiet_first : (who : ℕ) (e : Entry) (es : List Entry) (b : Bool) → (e.who == who) ≡ b
    → list_all is_quiet (if b then e.act ∷ acts_of who es else acts_of who es) ≡ true → (is_quiet e.act ≡ false → e.who ≢ who)
    × (list_all is_quiet (acts_of who es) ≡ true)
quiet_first who e es true t h = both (is_quiet e.act) refl h
  where
    both : (b : Bool) → is_quiet e.act ≡ b → (b && list_all is_quiet (acts_of who es)) ≡ true → (is_quiet e.act ≡ false → e.who ≢ who)
        × (list_all is_quiet (acts_of who es) ≡ true)
    both true q h = (λ f. absurd (let u : true ≡ false = sym q ∙ f in cc), h)
    both false q h = cc
quiet_first who e es false t h = (λ f q. grind (arith, nat_tests), h)

from_plain : (shape : Shape) (who : ℕ) (w : WaitId) (s : State) (es : List Entry) → LegalFrom shape s es
    → list_all is_quiet (acts_of who es) ≡ true → AllStandOpen s → Placed s → OffersPlainly who w s → OffersPlainly who w (replay_from s es)
unfolding LegalFrom replay_from acts_of
from_plain shape who w s [] l q o p h = h
from_plain shape who w s (e ∷ es) l q o p h =
    let r = quiet_first who e es (e.who == who) refl q in
    from_plain shape who w (after s e.who e.act) es l.1 r.1 (after_open s e.who e.act o) (placed_after shape s e.who e.act l.0 p)
    (after_plain shape who e.who w s e.act l.0 r.0 o p h)

appended_same : {A : Type 0} (xs ys zs : List A) → xs ++ ys ≡ xs ++ zs → ys ≡ zs
appended_same [] ys zs e = e
appended_same (x ∷ xs) ys zs e = appended_same xs ys zs (let k : xs ++ ys ≡ xs ++ zs = cc in k)

-- between two moments at which the owner made only quiet acts
pub plain_lasts : (shape : Shape) (who : ℕ) (w : WaitId) (acts : List Act) (xs ys : List Entry) → Legal shape ys → IsPrefix xs ys
    → acts_of who ys ≡ acts_of who xs ++ acts → list_all is_quiet acts ≡ true → OffersPlainly who w (replay xs)
    → OffersPlainly who w (replay ys)
plain_lasts shape who w acts xs ys l p mine q h =
    let l' : Legal shape (xs ++ p.0) = rw p.1 l in
    let parts = LegalFrom-parts shape start xs p.0 l' in
    let same : acts_of who p.0 ≡ acts = appended_same (acts_of who xs) (acts_of who p.0) acts (sym (acts_of-append who xs p.0)
    ∙ ap (acts_of who) p.1 ∙ mine) in
    let r = from_plain shape who w (replay xs) p.0 parts.1 (ap (list_all is_quiet) same
    ∙ q) (replay_open xs) (replay_placed shape xs parts.0) h in
    subst (λ es. OffersPlainly who w (replay es)) p.1 (subst (OffersPlainly who w) (sym (replay_from-append start xs p.0)) r)

-- the offer that was just made
pub offered_plain : (shape : Shape) (who c p v : ℕ) (es : List Entry) → Legal shape es
    → Needs shape (replay es) who (Offer c p v (record { channel = c; place = p }) 0)
    → OffersPlainly who (record { channel = c; place = p }) (after (replay es) who (Offer c p v (record { channel = c; place = p }) 0))
offered_plain shape who c p v es l m =
    let s = replay es in
    let w : WaitId = record { channel = c; place = p } in
    let none : s.waits w ≡ None = replay_placed shape es l w (omega (arith, m.1.first)) in
    let old : (d : ℕ) → receivers_of w (s.channels d) ≡ 0 =
    λ d. no_receivers s.waits w d (s.channels d).receivers (λ k. absent (s.waits w) d none k) (replay_open es d).receivers in
    let at : put_wait w (name_clause who 0 c (s.waits w)) s.waits w ≡ name_clause who 0 c None = at_wait w _ s.waits
    ∙ ap (name_clause who 0 c) none in
    record {
      wait = subst (IsPlainOffer who c _) (sym at) (refl, refl, refl, tt);
      no_receiver = λ d. by_test _ d (c == d) (old d) (offer_receivers (is_open (s.waits w)) w
          (record { place = p; value = v; holder = Some (record { wait = w; clause = 0 }) }) (s.channels c) (old c));
    }
  where
    absent : (x : Option Wait) (d : ℕ) → x ≡ None → IsStandingAt d x → ⊥
    absent None d e k = k
    absent (Some x) d e k = cc

    by_test : (ch : Channel) (d : ℕ) (b : Bool) → receivers_of (record { channel = c; place = p }) ((replay es).channels d) ≡ 0
        → receivers_of (record { channel = c; place = p }) ch ≡ 0
        → receivers_of (record { channel = c; place = p }) (if b then ch else (replay es).channels d) ≡ 0
    by_test ch d true h k = k
    by_test ch d false h k = h

-- how it may end for a Job that was not cancelled: as sent, or voided on a voided channel
pub ends_sent : (who c k v : ℕ) (b : Bool) (x : Option Wait) → IsPlainOffer who c b x → outcome_at false x ≡ Some (settled.Value k v) → ⊥
ends_sent who c k v b None h e = h
ends_sent who c k v b (Some x) h e = by_how x.resolved h.3 e
  where
    by_how : (how : Option Resolution) → EndsPlainly b how → outcome_of_some false how ≡ Some (settled.Value k v) → ⊥
    by_how None h e = cc
    by_how (Some (resolved.Handed j u)) h e = h
    by_how (Some (resolved.Taken j)) h e = cc
    by_how (Some (resolved.Admitted j)) h e = cc
    by_how (Some (resolved.Closed j u)) h e = h
    by_how (Some (resolved.Withdrawn why)) h e = h
    by_how (Some resolved.Voided) h e = cc

pub ends_unclosed : (who c k v : ℕ) (b : Bool) (x : Option Wait) → IsPlainOffer who c b x → outcome_at false x ≡ Some (settled.Closed k v)
    → ⊥
ends_unclosed who c k v b None h e = h
ends_unclosed who c k v b (Some x) h e = by_how x.resolved h.3 e
  where
    by_how : (how : Option Resolution) → EndsPlainly b how → outcome_of_some false how ≡ Some (settled.Closed k v) → ⊥
    by_how None h e = cc
    by_how (Some (resolved.Handed j u)) h e = h
    by_how (Some (resolved.Taken j)) h e = cc
    by_how (Some (resolved.Admitted j)) h e = cc
    by_how (Some (resolved.Closed j u)) h e = h
    by_how (Some (resolved.Withdrawn why)) h e = h
    by_how (Some resolved.Voided) h e = cc

pub ends_delivered : (who c v : ℕ) (b : Bool) (x : Option Wait) → IsPlainOffer who c b x → outcome_at false x ≡ Some (settled.Undelivered v)
    → ⊥
ends_delivered who c v b None h e = h
ends_delivered who c v b (Some x) h e = by_how x.resolved h.3 e
  where
    by_how : (how : Option Resolution) → EndsPlainly b how → outcome_of_some false how ≡ Some (settled.Undelivered v) → ⊥
    by_how None h e = cc
    by_how (Some (resolved.Handed j u)) h e = h
    by_how (Some (resolved.Taken j)) h e = cc
    by_how (Some (resolved.Admitted j)) h e = cc
    by_how (Some (resolved.Closed j u)) h e = h
    by_how (Some (resolved.Withdrawn why)) h e = h
    by_how (Some resolved.Voided) h e = cc

pub ends_voided : (who c : ℕ) (b : Bool) (x : Option Wait) → IsPlainOffer who c b x → outcome_at false x ≡ Some settled.Cancelled → b ≡ true
ends_voided who c b None h e = absurd h
ends_voided who c b (Some x) h e = by_how x.resolved h.3 e
  where
    by_how : (how : Option Resolution) → EndsPlainly b how → outcome_of_some false how ≡ Some settled.Cancelled → b ≡ true
    by_how None h e = cc
    by_how (Some (resolved.Handed j u)) h e = absurd h
    by_how (Some (resolved.Taken j)) h e = cc
    by_how (Some (resolved.Admitted j)) h e = cc
    by_how (Some (resolved.Closed j u)) h e = absurd h
    by_how (Some (resolved.Withdrawn why)) h e = absurd h
    by_how (Some resolved.Voided) h e = h
