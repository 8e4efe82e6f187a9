-- Acts that were told, on the lists.
use Rattle.std.specs.Prelude.{◌≡◌, ℕ, ◌+◌, ◌<◌, Bool, true, false, List, [], ◌∷◌, ◌++◌, length, Option, Some, None, is_some, refl, MatchBool}
use Rattle.std.proofs.Common.{sym, ap, ◌∙◌, subst, arith}
use Rattle.co_base.specs.declared.names.WaitId.{WaitId}
use Rattle.channel_model.specs.declared.acts.Act.{Act}
use Rattle.channel_model.specs.declared.acts.Act.TheVariants.{Put, Take, Offer, Await, Withdraw, Settle}
use Rattle.channel_model.specs.declared.acts.Entry.{Entry}
use Rattle.channel_model.specs.declared.acts.Settled.{Settled}
use Rattle.channel_model.specs.declared.acts.Why.{Why}
use Rattle.channel_model.specs.declared.floor.Withdrawn.{Withdrawn}
use Rattle.channel_model.specs.declared.floor.Withdrawn.TheVariants as withdrawn
use Rattle.channel_model.specs.declared.standing.Resolution.{Resolution}
use Rattle.channel_model.specs.declared.standing.Standing.{Standing}
use Rattle.channel_model.specs.Answers.{IsReadyWait, IsOwnWait, IsResolvedWait, WithdrawAnswer}
use Rattle.channel_model.specs.Channels.{Shape, State, Wait}
use Rattle.channel_model.specs.Effects.{after, is_open, put_channel, put_wait, put_stood, place_offer, place_receiver}
use Rattle.channel_model.specs.Floors.{Floor, Made}
use Rattle.channel_model.specs.Histories.{replay, Legal}
use Rattle.channel_model.specs.Needs.{Needs, IsFirstOffer, IsOpenOf, JoinsWait, MaySettle}
use Rattle.channel_model.specs.Outcomes.{IsOutcome}
use Rattle.channel_model.proofs.Histories.{Legal-last}
use Rattle.one_thread_floor.specs.declared.list_channel.ListChannel.{ListChannel}
use Rattle.one_thread_floor.specs.ListStands.{channel_in, wait_in, clauses_in, clause_at, IsAt, JoinsClause, PlacesKept, held_offer, held_receiver}
use Rattle.one_thread_floor.specs.ListSteps.{place_nobody}
use Rattle.one_thread_floor.proofs.KeptPlaces.{added, extended, extended_at}
use Rattle.one_thread_floor.proofs.ListEntries.{at_new, at_state, same_state, named_more}

-- an act that was made on a floor that nobody else calls might come
pub made_needs : (who : ℕ) (act : Act) (old new : Floor) → old.alone ≡ true → Legal new.shape new.seen → Made who act old new
    → Needs old.shape (replay old.seen) who act
made_needs who act old new alone l made =
    let e : Entry = record { who = who; act = act } in
    let is : new.seen ≡ old.seen ++ e ∷ [] = made.last ∙ ap (λ xs. xs ++ e ∷ []) (made.alone alone) in
    let here : Legal old.shape new.seen = subst (λ shape. Legal shape new.seen) made.same.shape l in
    (Legal-last old.shape old.seen e (subst (Legal old.shape) is here)).1

-- the place that was given out, or the offer that was taken, is that which was told
pub same_put : (who c p q v : ℕ) (old new : Floor) → p ≡ q → Made who (Put c p v) old new → Made who (Put c q v) old new
same_put who c p q v old new e made = subst (λ x. Made who (Put c x v) old new) e made

pub same_take : (who c p q v u : ℕ) (old new : Floor) → (p ≡ q) × (v ≡ u) → Made who (Take c p v) old new → Made who (Take c q u) old new
same_take who c p q v u old new e made =
    subst (λ y. Made who (Take c q y) old new) e.1 (subst (λ x. Made who (Take c x v) old new) e.0 made)

pub same_offer : (who c p q v k : ℕ) (w u : WaitId) (old new : Floor) → p ≡ q → w ≡ u → Made who (Offer c p v w k) old new
    → Made who (Offer c q v u k) old new
same_offer who c p q v k w u old new e f made =
    subst (λ y. Made who (Offer c q v y k) old new) f (subst (λ x. Made who (Offer c x v w k) old new) e made)

pub same_await : (who c p q k : ℕ) (w u : WaitId) (old new : Floor) → p ≡ q → w ≡ u → Made who (Await c p w k) old new
    → Made who (Await c q u k) old new
same_await who c p q k w u old new e f made =
    subst (λ y. Made who (Await c q y k) old new) f (subst (λ x. Made who (Await c x w k) old new) e made)

pub same_settle : (who : ℕ) (w : WaitId) (o q : Settled) (old new : Floor) → o ≡ q → Made who (Settle w o) old new
    → Made who (Settle w q) old new
same_settle who w o q old new e made = subst (λ x. Made who (Settle w x) old new) e made

pub same_first_offer : (p v q u : ℕ) (os : List Standing) → IsFirstOffer p v os → IsFirstOffer q u os → (p ≡ q) × (v ≡ u)
same_first_offer p v q u [] h k = absurd h
same_first_offer p v q u (o ∷ os) h k = (sym h.0 ∙ k.0, sym h.1 ∙ k.1)

-- one stands first
pub some_first_offer : (p v : ℕ) (os : List Standing) → IsFirstOffer p v os → 0 < length os
some_first_offer p v [] h = absurd h
some_first_offer p v (o ∷ os) h = omega arith

some_outcome : (outcome : Settled) (how : Option Resolution) → IsOutcome outcome how → is_some how ≡ true
some_outcome outcome None h = absurd h
some_outcome outcome (Some r) h = refl

pub settle_ready : (who : ℕ) (outcome : Settled) (x : Option Wait) → MaySettle who outcome x → IsReadyWait who x
settle_ready who outcome None h = absurd h
settle_ready who outcome (Some x) h = (h.0, some_outcome outcome x.resolved h.2, h.1)

-- a wait that is open is taken back
pub own_open : (who : ℕ) (x : Option Wait) → IsOpenOf who x → IsOwnWait who x
own_open who None h = absurd h
own_open who (Some x) h = h.0

pub withdrawn_now : (who : ℕ) (w : WaitId) (why : Why) (old new : Floor) (r : Withdrawn) → old.alone ≡ true
    → IsOpenOf who ((replay old.seen).waits w) → WithdrawAnswer who w why old new r → Made who (Withdraw w why) old new
withdrawn_now who w why old new (withdrawn.Done t) alone stands h = h.0
withdrawn_now who w why old new withdrawn.Late alone stands h =
    absurd (never _ stands (subst (λ es. IsResolvedWait ((replay es).waits w)) (h.0.alone alone) h.1))
  where
    never : (x : Option Wait) → IsOpenOf who x → IsResolvedWait x → ⊥
    never None o r = o
    never (Some x) o r = let k : false ≡ true = sym (ap is_some o.1) ∙ r in cc

-- ---- one more clause of a wait that was resolved

pub joined_late_offer_at : (shape : Shape) (xs ys : List ListChannel) (es : List Entry) (who k c p v : ℕ) (w : WaitId)
    → IsAt shape xs (replay es) → is_open (wait_in xs w) ≡ false → JoinsWait who k c (wait_in xs w)
    → JoinsClause w k c p (place_nobody (channel_in xs c)) xs ys
    → IsAt shape ys (after (replay es) who (Offer c p v w k))
joined_late_offer_at shape xs ys es who k c p v w at waits may joins =
    at_new shape xs ys (replay es) _ (put_stood c p (length (channel_in xs c).queue) (replay es).stood) at joins.shape
    (ap (λ (s : State). after s who (Offer c p v w k)) (at_state shape xs (replay es) at)
    ∙ same_state _ _
    (λ d. ap (λ b. put_channel c (place_offer b (held_offer w k p v) (channel_in xs c)) (channel_in xs) d) waits ∙ sym (joins.channels d))
    (λ u. ap (λ (x : Option Wait). put_wait w x (wait_in xs) u) (named_more who k c (wait_in xs w) may) ∙ sym (joins.waits u)) refl)

pub joined_late_await_at : (shape : Shape) (xs ys : List ListChannel) (es : List Entry) (who k c p : ℕ) (w : WaitId)
    → IsAt shape xs (replay es) → is_open (wait_in xs w) ≡ false → JoinsWait who k c (wait_in xs w)
    → JoinsClause w k c p (place_nobody (channel_in xs c)) xs ys
    → IsAt shape ys (after (replay es) who (Await c p w k))
joined_late_await_at shape xs ys es who k c p w at waits may joins =
    at_new shape xs ys (replay es) _ (replay es).stood at joins.shape
    (ap (λ (s : State). after s who (Await c p w k)) (at_state shape xs (replay es) at)
    ∙ same_state _ _
    (λ d. ap (λ b. put_channel c (place_receiver b (held_receiver w k p) (channel_in xs c)) (channel_in xs) d) waits
    ∙ sym (joins.channels d))
    (λ u. ap (λ (x : Option Wait). put_wait w x (wait_in xs) u) (named_more who k c (wait_in xs w) may) ∙ sym (joins.waits u)) refl)

pub joined_late_kept : (k c p : ℕ) (w : WaitId) (xs ys : List ListChannel)
    → JoinsClause w k c p (place_nobody (channel_in xs c)) xs ys → PlacesKept xs → PlacesKept ys
joined_late_kept k c p w xs ys j h =
    let more = added w (clause_at k c p) (clauses_in xs) (clauses_in ys) j.clauses in
    let here = extended (clauses_in xs) (clauses_in ys) c (channel_in xs c) more (h c) in
    extended_at c _ xs ys j.channels more h (record { offers = here.offers; receivers = here.receivers })

-- ---- of two needs that which a test chooses

pub when_true : (b : Bool) (P Q : Type 0) → b ≡ true → MatchBool b P Q → P
when_true true P Q e h = h
when_true false P Q e h = cc

pub when_false : (b : Bool) (P Q : Type 0) → b ≡ false → MatchBool b P Q → Q
when_false true P Q e h = cc
when_false false P Q e h = h
