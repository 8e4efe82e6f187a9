-- A step is taken exactly where what the entry needs holds.
use Rattle.std.specs.Prelude.{◌≡◌, ℕ, ◌+◌, ◌==◌, nat_le, nat_lt, ◌<◌, ◌≤◌, Bool, true, false, not, ◌&&◌, List, [], ◌∷◌, length, Option, Some, None, is_none, is_some, if◌then◌else◌, refl, MatchBool, ◌↔◌, ◌⊎◌}
use Rattle.std.specs.Bool.{Decides}
use Rattle.std.specs.List.{list_any}
use Rattle.std.proofs.Common.{sym, ap, ◌∙◌, subst, arith, inl, inr, ⊎_elim}
use Rattle.std.proofs.lemmas.Bool.Decides.{Decides-and, Decides-like, Decides-ltb, Decides-eqb, Decides-or, nat_tests}
use Rattle.std.proofs.lemmas.Bool.{eq-eqb}
use Rattle.co_base.specs.declared.names.WaitId.{WaitId}
use Rattle.channel_model.specs.declared.acts.Act.{Act}
use Rattle.channel_model.specs.declared.acts.Act.TheVariants.{Hand, Put, Offer, Await, Take, Admit, Drop, Spurn, Close, Void, Drain, WakeClosed, Withdraw, Settle}
use Rattle.channel_model.specs.declared.acts.Entry.{Entry}
use Rattle.channel_model.specs.declared.acts.Kind.{Kind}
use Rattle.channel_model.specs.declared.acts.Settled.{Settled}
use Rattle.channel_model.specs.declared.acts.Settled.TheVariants as settled
use Rattle.channel_model.specs.declared.standing.Receiver.{Receiver}
use Rattle.channel_model.specs.declared.standing.Resolution.{Resolution}
use Rattle.channel_model.specs.declared.standing.Resolution.TheVariants as resolved
use Rattle.channel_model.specs.declared.standing.Standing.{Standing}
use Rattle.channel_model.specs.Channels.{Shape, State, Channel, Wait, same_wait, kind_at, places_at, is_full, is_signal, suspends, drops, spurns}
use Rattle.channel_model.specs.Effects.{after}
use Rattle.channel_model.specs.Histories.{replay_from, LegalFrom}
use Rattle.channel_model.specs.Needs.{Needs, IsFirstReceiver, IsFirstOffer, IsOfferAt, HasPlace, MayBeAdmitted, JoinsWait, MayName, IsOpenOf, MaySettle, began_by_select}
use Rattle.channel_model.specs.Outcomes.{outcome_of, IsOutcome}
use Rattle.channel_model.specs.Steps.{stands_none, is_first_receiver, is_first_offer, is_offer_at, gives_place, is_admissible, may_join, may_name, is_open_of, same_settled, is_outcome, may_settle, may_come, step, or_nothing, steps}
use Rattle.channel_model.proofs.Firsts.{outcome_is}

-- ---- the parts

true_decides : (b : Bool) → Decides b (b ≡ true)
true_decides b = (λ e. e, λ e. e)

false_decides : (b : Bool) → Decides (not b) (b ≡ false)
false_decides true = (λ e. sym e, λ e. sym e)
false_decides false = (λ e. refl, λ e. refl)

none_decides : {A : Type 0} (x : Option A) → Decides (is_none x) (x ≡ None)
none_decides None = (λ e. refl, λ e. refl)
none_decides (Some v) = (λ e. cc, λ e. cc)

empty_decides : {A : Type 0} (xs : List A) → Decides (stands_none xs) (xs ≡ [])
empty_decides [] = (λ e. refl, λ e. refl)
empty_decides (x ∷ xs) = (λ e. cc, λ e. cc)

never_decides : {P : Type 0} → (P → ⊥) → Decides false P
never_decides never = (λ e. cc, λ h. absurd (never h))

if_decides : (b x y : Bool) {P Q : Type 0} → Decides x P → Decides y Q → Decides (if b then x else y) (MatchBool b P Q)
if_decides true x y p q = p
if_decides false x y p q = q

lt_decides : (m n : ℕ) → Decides (nat_lt m n) (m < n)
lt_decides m n = Decides-ltb m n

le_decides : (m n : ℕ) → Decides (nat_le m n) (m ≤ n)
le_decides m n = (λ e. grind (arith, nat_tests), λ h. grind (arith, nat_tests))

receiver_decides : (p : ℕ) (rs : List Receiver) → Decides (is_first_receiver p rs) (IsFirstReceiver p rs)
receiver_decides p [] = never_decides (λ h. h)
receiver_decides p (r ∷ rs) = Decides-eqb r.place p

offer_decides : (p v : ℕ) (os : List Standing) → Decides (is_first_offer p v os) (IsFirstOffer p v os)
offer_decides p v [] = never_decides (λ h. h)
offer_decides p v (o ∷ os) = Decides-and (o.place == p) (o.value == v) (Decides-eqb o.place p) (Decides-eqb o.value v)

at_decides : (p v : ℕ) (os : List Standing) → Decides (is_offer_at p v os) (IsOfferAt p v os)
at_decides p v [] = never_decides (λ h. h)
at_decides p v (o ∷ os) = if_decides (o.place == p) _ _ (Decides-eqb o.value v) (at_decides p v os)

place_decides : (places p : ℕ) (ch : Channel) → Decides (gives_place places p ch) (HasPlace places p ch)
place_decides places p ch =
    Decides-like (gives_place places p ch) (λ h. record { open_now = h.0; left = h.1.0; first = h.1.1 })
    (λ h. (h.open_now, (h.left, h.first)))
    (Decides-and _ _ (none_decides ch.closed) (Decides-and _ _ (lt_decides ch.next places) (Decides-eqb p ch.next)))

admissible_decides : (kind : Kind) (p n : ℕ) (os : List Standing) → Decides (is_admissible kind p n os) (MayBeAdmitted kind p n os)
admissible_decides kind p n [] = never_decides (λ h. h)
admissible_decides kind p n (o ∷ os) =
    if_decides (o.place == p) _ _ (Decides-and _ _ (true_decides (is_some o.holder)) (false_decides (is_full kind n)))
    (admissible_decides kind p (n + 1) os)

join_decides : (who k c : ℕ) (x : Option Wait) → Decides (may_join who k c x) (JoinsWait who k c x)
join_decides who k c None = never_decides (λ h. h)
join_decides who k c (Some x) =
    Decides-like (may_join who k c (Some x))
    (λ h. record {
      own = h.0;
      select = h.1.0;
      unsettled = h.1.1.0;
      other_channel = h.1.1.1.0;
      other_clause = h.1.1.1.1.0;
      low =
          h.1.1.1.1.1.0;
      high = h.1.1.1.1.1.1;
    })
    (λ h. (h.own, (h.select, (h.unsettled, (h.other_channel, (h.other_clause, (h.low, h.high)))))))
    (Decides-and _ _ (Decides-eqb x.owner who)
    (Decides-and _ _ (true_decides (began_by_select x.clauses))
    (Decides-and _ _ (none_decides x.settled)
    (Decides-and _ _ (false_decides (list_any (λ (y : ℕ × ℕ). y.1 == c) x.clauses))
    (Decides-and _ _ (false_decides (list_any (λ (y : ℕ × ℕ). y.0 == k) x.clauses))
    (Decides-and _ _ (le_decides 1 k) (le_decides k 7)))))))

name_decides : (who k c p : ℕ) (w : WaitId) (s : State) → Decides (may_name who k c p w s) (MayName who k c p w s)
name_decides who k c p w s = if_decides (same_wait w (record { channel = c; place = p })) _ _ (le_decides k 7)
    (join_decides who k c (s.waits w))

open_decides : (who : ℕ) (x : Option Wait) → Decides (is_open_of who x) (IsOpenOf who x)
open_decides who None = never_decides (λ h. h)
open_decides who (Some x) = Decides-and _ _ (Decides-eqb x.owner who) (none_decides x.resolved)

-- ---- how a wait may end

two_numbers : (f : ℕ → ℕ → Settled) (k v j u : ℕ) → ((k == j) && (v == u)) ≡ true → f k v ≡ f j u
two_numbers f k v j u e =
    let h = (Decides-and (k == j) (v == u) (Decides-eqb k j) (Decides-eqb v u)).0 e in
    ap (λ x. f x v) h.0 ∙ ap (λ x. f j x) h.1

settled_same : (x y : Settled) → same_settled x y ≡ true → x ≡ y
settled_same (settled.Value k v) (settled.Value j u) e = two_numbers settled.Value k v j u e
settled_same (settled.Value k v) (settled.Sent j) e = cc
settled_same (settled.Value k v) (settled.Closed j u) e = cc
settled_same (settled.Value k v) settled.Cancelled e = cc
settled_same (settled.Value k v) (settled.Undelivered u) e = cc
settled_same (settled.Sent k) (settled.Sent j) e = ap settled.Sent ((Decides-eqb k j).0 e)
settled_same (settled.Sent k) other e = cc
settled_same (settled.Closed k v) (settled.Closed j u) e = two_numbers settled.Closed k v j u e
settled_same (settled.Closed k v) other e = cc
settled_same settled.Cancelled (settled.Value j u) e = cc
settled_same settled.Cancelled (settled.Sent j) e = cc
settled_same settled.Cancelled (settled.Closed j u) e = cc
settled_same settled.Cancelled settled.Cancelled e = refl
settled_same settled.Cancelled (settled.Undelivered u) e = cc
settled_same (settled.Undelivered v) (settled.Value j u) e = cc
settled_same (settled.Undelivered v) (settled.Sent j) e = cc
settled_same (settled.Undelivered v) (settled.Closed j u) e = cc
settled_same (settled.Undelivered v) settled.Cancelled e = cc
settled_same (settled.Undelivered v) (settled.Undelivered u) e = ap settled.Undelivered ((Decides-eqb v u).0 e)

own_numbers : (k v : ℕ) → ((k == k) && (v == v)) ≡ true
own_numbers k v = (Decides-and (k == k) (v == v) (true_decides (k == k)) (true_decides (v == v))).1 (eq-eqb k k refl, eq-eqb v v refl)

same_itself : (x : Settled) → same_settled x x ≡ true
same_itself (settled.Value k v) = own_numbers k v
same_itself (settled.Sent k) = eq-eqb k k refl
same_itself (settled.Closed k v) = own_numbers k v
same_itself settled.Cancelled = refl
same_itself (settled.Undelivered v) = eq-eqb v v refl

settled_decides : (x y : Settled) → Decides (same_settled x y) (x ≡ y)
settled_decides x y = (settled_same x y, λ e. subst (λ z. same_settled x z ≡ true) e (same_itself x))

no_value : (how : Resolution) → IsOutcome settled.Cancelled (Some how) → settled.Cancelled ≡ outcome_of how true
no_value (resolved.Handed k v) e = cc
no_value (resolved.Taken k) e = refl
no_value other e = refl

some_value : (v : ℕ) (how : Resolution) → IsOutcome (settled.Undelivered v) (Some how) → settled.Undelivered v ≡ outcome_of how true
some_value v (resolved.Handed k u) e = let f : u ≡ v = cc in ap settled.Undelivered (sym f)
some_value v (resolved.Taken k) e = cc
some_value v other e = cc

was_sent : (k : ℕ) (how : Resolution) → IsOutcome (settled.Sent k) (Some how) → settled.Sent k ≡ outcome_of how false
was_sent k (resolved.Taken j) e = let f : j ≡ k = cc in ap settled.Sent (sym f)
was_sent k (resolved.Admitted j) e = let f : j ≡ k = cc in ap settled.Sent (sym f)
was_sent k other e = cc

ends_as : (outcome : Settled) (how : Resolution) → IsOutcome outcome (Some how) → (outcome ≡ outcome_of how false)
    ⊎ (outcome ≡ outcome_of how true)
ends_as (settled.Sent k) how e = inl (was_sent k how e)
ends_as settled.Cancelled how e = inr (no_value how e)
ends_as (settled.Undelivered v) how e = inr (some_value v how e)
ends_as other how e = inl (ap (λ x. outcome_of x false) (sym e))

outcome_decides : (outcome : Settled) (how : Option Resolution) → Decides (is_outcome outcome how) (IsOutcome outcome how)
outcome_decides outcome None = never_decides (λ h. h)
outcome_decides outcome (Some how) =
    Decides-like (is_outcome outcome (Some how))
    (λ h. ⊎_elim (λ e. subst (λ x. IsOutcome x (Some how)) (sym e) (outcome_is how false))
    (λ e. subst (λ x. IsOutcome x (Some how)) (sym e) (outcome_is how true)) h)
    (ends_as outcome how)
    (Decides-or _ _ (settled_decides outcome (outcome_of how false)) (settled_decides outcome (outcome_of how true)))

settle_decides : (who : ℕ) (outcome : Settled) (x : Option Wait) → Decides (may_settle who outcome x) (MaySettle who outcome x)
settle_decides who outcome None = never_decides (λ h. h)
settle_decides who outcome (Some x) =
    Decides-like (may_settle who outcome (Some x)) (λ h. (h.0, h.1.0, h.1.1)) (λ h. (h.0, (h.1, h.2)))
    (Decides-and _ _ (Decides-eqb x.owner who) (Decides-and _ _ (none_decides x.settled) (outcome_decides outcome x.resolved)))

-- ---- the acts

needs_decides : (shape : Shape) (s : State) (who : ℕ) (act : Act) → Decides (may_come shape s who act) (Needs shape s who act)
needs_decides shape s who (Hand c p v) =
    Decides-like (may_come shape s who (Hand c p v)) (λ h. (h.0, h.1.0, h.1.1)) (λ h. (h.0, (h.1, h.2)))
    (Decides-and _ _ (lt_decides c (length shape)) (Decides-and _ _ (false_decides (is_signal (kind_at shape c)))
    (receiver_decides p (s.channels c).receivers)))
needs_decides shape s who (Put c p v) =
    Decides-like (may_come shape s who (Put c p v)) (λ h. (h.0, h.1.0, h.1.1.0, h.1.1.1)) (λ h. (h.0, (h.1, (h.2, h.3))))
    (Decides-and _ _ (lt_decides c (length shape))
    (Decides-and _ _ (place_decides (places_at shape c) p (s.channels c))
    (Decides-and _ _ (empty_decides (s.channels c).receivers) (false_decides (is_full (kind_at shape c) (length (s.channels c).queue))))))
needs_decides shape s who (Offer c p v w k) =
    Decides-like (may_come shape s who (Offer c p v w k)) (λ h. (h.0, h.1.0, h.1.1.0, h.1.1.1.0, h.1.1.1.1))
    (λ h. (h.0, (h.1, (h.2, (h.3, h.4)))))
    (Decides-and _ _ (lt_decides c (length shape))
    (Decides-and _ _ (place_decides (places_at shape c) p (s.channels c))
    (Decides-and _ _ (empty_decides (s.channels c).receivers)
    (Decides-and _ _ (true_decides (suspends (kind_at shape c))) (name_decides who k c p w s)))))
needs_decides shape s who (Await c p w k) =
    Decides-like (may_come shape s who (Await c p w k)) (λ h. (h.0, h.1.0, h.1.1.0, h.1.1.1)) (λ h. (h.0, (h.1, (h.2, h.3))))
    (Decides-and _ _ (lt_decides c (length shape))
    (Decides-and _ _ (place_decides (places_at shape c) p (s.channels c))
    (Decides-and _ _ (empty_decides (s.channels c).queue) (name_decides who k c p w s))))
needs_decides shape s who (Take c p v) = Decides-and _ _ (lt_decides c (length shape)) (offer_decides p v (s.channels c).queue)
needs_decides shape s who (Admit c p) = Decides-and _ _ (lt_decides c (length shape))
    (admissible_decides (kind_at shape c) p 0 (s.channels c).queue)
needs_decides shape s who (Drop c p v) =
    Decides-like (may_come shape s who (Drop c p v)) (λ h. (h.0, h.1.0, h.1.1)) (λ h. (h.0, (h.1, h.2)))
    (Decides-and _ _ (lt_decides c (length shape)) (Decides-and _ _ (true_decides (drops (kind_at shape c) (length (s.channels c).queue)))
    (offer_decides p v (s.channels c).queue)))
needs_decides shape s who (Spurn c p v) =
    Decides-like (may_come shape s who (Spurn c p v)) (λ h. (h.0, h.1.0, h.1.1)) (λ h. (h.0, (h.1, h.2)))
    (Decides-and _ _ (lt_decides c (length shape)) (Decides-and _ _ (true_decides (spurns (kind_at shape c) (s.stood c p)))
    (at_decides p v (s.channels c).queue)))
needs_decides shape s who (Close c v) = Decides-and _ _ (lt_decides c (length shape)) (none_decides (s.channels c).closed)
needs_decides shape s who (Void c) =
    Decides-like (may_come shape s who (Void c)) (λ h. (h.0, h.1.0, h.1.1)) (λ h. (h.0, (h.1, h.2)))
    (Decides-and _ _ (lt_decides c (length shape)) (Decides-and _ _ (true_decides (is_some (s.channels c).closed))
    (false_decides (s.channels c).voided)))
needs_decides shape s who (Drain c p v) =
    Decides-like (may_come shape s who (Drain c p v)) (λ h. (h.0, h.1.0, h.1.1)) (λ h. (h.0, (h.1, h.2)))
    (Decides-and _ _ (lt_decides c (length shape)) (Decides-and _ _ (true_decides (s.channels c).voided)
    (offer_decides p v (s.channels c).queue)))
needs_decides shape s who (WakeClosed c p) =
    Decides-like (may_come shape s who (WakeClosed c p)) (λ h. (h.0, h.1.0, h.1.1)) (λ h. (h.0, (h.1, h.2)))
    (Decides-and _ _ (lt_decides c (length shape)) (Decides-and _ _ (true_decides (is_some (s.channels c).closed))
    (receiver_decides p (s.channels c).receivers)))
needs_decides shape s who (Withdraw w why) = open_decides who (s.waits w)
needs_decides shape s who (Settle w outcome) = settle_decides who outcome (s.waits w)

-- ---- the step

chosen : (b : Bool) (s t : State) {P : Type 0} → Decides b P → ((if b then Some s else None) ≡ Some t) ↔ (P × (s ≡ t))
chosen true s t d = (λ e. let k : s ≡ t = cc in (d.0 refl, k), λ h. ap (λ x. Some x) h.1)
chosen false s t d = (λ e. cc, λ h. let k = d.1 h.0 in cc)

pub step_taken : (shape : Shape) (s t : State) (e : Entry)
    → (step shape s e ≡ Some t) ↔ (Needs shape s e.who e.act × (after s e.who e.act ≡ t))
step_taken shape s t e = chosen (may_come shape s e.who e.act) (after s e.who e.act) t (needs_decides shape s e.who e.act)

next_step : (o : Option State) (f : State → Option State) (t : State) → or_nothing o f ≡ Some t → (u : State) × (o ≡ Some u)
    × (f u ≡ Some t)
next_step None f t e = cc
next_step (Some u) f t e = (u, refl, e)

first_unfolds : (shape : Shape) (s : State) (e : Entry) (es : List Entry)
    → steps shape s (e ∷ es) ≡ or_nothing (step shape s e) (λ t. steps shape t es)
unfolding steps
first_unfolds shape s e es = refl

none_unfolds : (shape : Shape) (s : State) → steps shape s [] ≡ Some s
unfolding steps
none_unfolds shape s = refl

taken_legal : (shape : Shape) (s t : State) (es : List Entry) → steps shape s es ≡ Some t → LegalFrom shape s es × (replay_from s es ≡ t)
unfolding LegalFrom replay_from
taken_legal shape s t [] k = let same : s ≡ t = (let h = none_unfolds shape s in cc) in (tt, same)
taken_legal shape s t (e ∷ es) k =
    let n = next_step (step shape s e) (λ u. steps shape u es) t (sym (first_unfolds shape s e es) ∙ k) in
    let m = (step_taken shape s n.0 e).0 n.1 in
    let r = taken_legal shape (after s e.who e.act) t es (subst (λ u. steps shape u es ≡ Some t) (sym m.1) n.2) in
    ((m.0, r.0), r.1)

legal_taken : (shape : Shape) (s t : State) (es : List Entry) → LegalFrom shape s es → replay_from s es ≡ t → steps shape s es ≡ Some t
unfolding LegalFrom replay_from
legal_taken shape s t [] l k = none_unfolds shape s ∙ ap (λ x. Some x) k
legal_taken shape s t (e ∷ es) l k =
    first_unfolds shape s e es
    ∙ ap (λ o. or_nothing o (λ u. steps shape u es)) ((step_taken shape s (after s e.who e.act) e).1 (l.0, refl))
    ∙ legal_taken shape (after s e.who e.act) t es l.1 k

pub steps_taken : (shape : Shape) (s t : State) (es : List Entry)
    → (steps shape s es ≡ Some t) ↔ (LegalFrom shape s es × (replay_from s es ≡ t))
steps_taken shape s t es = (taken_legal shape s t es, λ h. legal_taken shape s t es h.0 h.1)
