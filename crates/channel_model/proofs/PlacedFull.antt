-- An offer that still waits, and that may not be admitted, had as many offers before it as the channel keeps when it was placed.
use Rattle.std.specs.Prelude.{◌≡◌, ℕ, zero, suc, ◌+◌, ◌≤◌, ◌<◌, ◌==◌, nat_lt, Bool, true, false, not, ◌&&◌, ◌||◌, List, [], ◌∷◌, ◌++◌, length, filter, Option, Some, None, is_some, is_none, refl, if◌then◌else◌, ◌⊎◌}
use Rattle.std.specs.List.{list_all}
use mathlib.Core.List.{IsPrefix}
use Rattle.std.proofs.Common.{sym, ap, ◌∙◌, subst, arith, append_assoc, inl, inr, ⊎_elim}
use Rattle.std.proofs.lemmas.Bool.{eqb-true, true≢false, or_parts, or_left, or_right, or_cases, and_parts}
use Rattle.std.proofs.lemmas.Bool.Decides.{nat_tests}
use Rattle.co_base.specs.declared.names.WaitId.{WaitId}
use Rattle.channel_model.specs.declared.acts.Act.{Act}
use Rattle.channel_model.specs.declared.acts.Act.TheVariants.{Hand, Put, Offer, Await, Take, Admit, Drop, Spurn, Close, Void, Drain, WakeClosed, Withdraw, Settle}
use Rattle.channel_model.specs.declared.acts.Entry.{Entry}
use Rattle.channel_model.specs.declared.acts.Kind.{Kind}
use Rattle.channel_model.specs.declared.acts.Kind.TheVariants.{Rendezvous, Buffered, Conflated, DropOldest, DropLatest, Signal}
use Rattle.channel_model.specs.declared.acts.Settled.{Settled}
use Rattle.channel_model.specs.declared.floor.WaitState.TheVariants as wait_state
use Rattle.channel_model.specs.declared.standing.Party.{Party}
use Rattle.channel_model.specs.declared.standing.Standing.{Standing}
use Rattle.channel_model.specs.declared.standing.Receiver.{Receiver}
use Rattle.channel_model.specs.declared.standing.Resolution.{Resolution}
use Rattle.channel_model.specs.Channels.{Shape, State, Channel, Wait, same_wait, start, kind_at, drops, suspends, is_full, spurns}
use Rattle.channel_model.specs.Effects.{after, resolve_first, resolve_holder, resolve_offer, remove_first, with_queue, without, is_held_by, put_channel, admitted, holder_at, is_open, place_offer, place_receiver, spurned}
use Rattle.channel_model.specs.Needs.{Needs}
use Rattle.channel_model.specs.Histories.{replay, replay_from, Legal, LegalFrom}
use Rattle.channel_model.specs.Laws.{resolves, wait_of_party, first_waiting, first_holding}
use Rattle.channel_model.specs.Owing.{owes_admission_below}
use Rattle.channel_model.specs.PlainOffers.{plain_offer}
use Rattle.channel_model.specs.Answers.{IsResolvedWait, IsFullAt, IsAdmittedBelow, state_of_wait, state_of_parts}
use Rattle.channel_model.proofs.Waits.{same_wait-eq, same_wait-refl}
use Rattle.channel_model.proofs.Placed.{same_number}
use Rattle.channel_model.proofs.Histories.{LegalFrom-parts, Legal-prefix, replay_from-append}
use Rattle.channel_model.proofs.Resolutions.{resolved_stays, resolves_turns, always_keeps}
use Rattle.channel_model.proofs.Sound.{Sound, sound_step, sound, Lasts, lasts_from, lasts}
use Rattle.channel_model.proofs.Left.{put_here}

-- ---- tests

-- ---- at most n offers stand before one that passes the test

abbrev pub within : (Standing → Bool) → ℕ → List Standing → Bool
within t n [] = false
within t zero (o ∷ os) = t o
within t (suc n) (o ∷ os) = t o || within t n os

more : (t : Standing → Bool) (n : ℕ) (q : List Standing) → within t n q ≡ true → within t (suc n) q ≡ true
more t n [] e = cc
more t zero (o ∷ os) e = or_left (t o) (within t zero os) e
more t (suc n) (o ∷ os) e = ⊎_elim (λ a. or_left (t o) (within t (suc n) os) a) (λ b. or_right (t o) (within t (suc n) os) (more t n os b))
    (or_cases (t o) (within t n os) e)

rest_or : (t : Standing → Bool) (n : ℕ) (o : Standing) (os : List Standing) → within t n (o ∷ os) ≡ true → (t o ≡ true)
    ⊎ (within t n os ≡ true)
rest_or t zero o os e = inl e
rest_or t (suc n) o os e = ⊎_elim (λ a. inl a) (λ b. inr (more t n os b)) (or_cases (t o) (within t n os) e)

pushed : (t : Standing → Bool) (n : ℕ) (q : List Standing) (x : Standing) → within t n q ≡ true → within t n (q ++ x ∷ []) ≡ true
pushed t n [] x e = cc
pushed t zero (o ∷ os) x e = e
pushed t (suc n) (o ∷ os) x e = ⊎_elim (λ a. or_left (t o) (within t n (os ++ x ∷ [])) a)
    (λ b. or_right (t o) (within t n (os ++ x ∷ [])) (pushed t n os x b)) (or_cases (t o) (within t n os) e)

placed_last : (t : Standing → Bool) (q : List Standing) (x : Standing) → t x ≡ true → within t (length q) (q ++ x ∷ []) ≡ true
placed_last t [] x e = e
placed_last t (o ∷ os) x e = or_right (t o) (within t (length os) (os ++ x ∷ [])) (placed_last t os x e)

filtered : (t g : Standing → Bool) → ((o : Standing) → t o ≡ true → g o ≡ true) → (n : ℕ) (q : List Standing) → within t n q ≡ true
    → within t n (filter g q) ≡ true
filtered t g k n [] e = e
filtered t g k zero (o ∷ os) e = at (g o) (k o e)
  where
    at : (b : Bool) → b ≡ true → within t zero (if b then o ∷ filter g os else filter g os) ≡ true
    at true h = e
    at false h = cc
filtered t g k (suc n) (o ∷ os) e = at (g o) refl (λ b. filtered t g k n os b)
  where
    at : (b : Bool) → g o ≡ b → (within t n os ≡ true → within t n (filter g os) ≡ true)
        → within t (suc n) (if b then o ∷ filter g os else filter g os) ≡ true
    at true h rec = ⊎_elim (λ a. or_left (t o) (within t n (filter g os)) a) (λ b. or_right (t o) (within t n (filter g os)) (rec b))
        (or_cases (t o) (within t n os) e)
    at false h rec = ⊎_elim (λ a. absurd (true≢false (sym (k o a) ∙ h))) (λ b. more t n (filter g os) (rec b))
        (or_cases (t o) (within t n os) e)

-- ---- the offer of a wait at its place

-- an offer at this place with which the wait stands
abbrev is_held : ℕ → WaitId → Standing → Bool
is_held p w o = (o.place == p) && is_held_by w o.holder

held_party : (w : WaitId) (h : Option Party) → is_held_by w h ≡ true → wait_of_party h ≡ Some w
held_party w None e = cc
held_party w (Some x) e = ap (λ u. Some u) (sym (same_wait-eq w x.wait e))

party_of : (p : ℕ) (w : WaitId) (o : Standing) → is_held p w o ≡ true → wait_of_party o.holder ≡ Some w
party_of p w o e = held_party w o.holder (and_parts (o.place == p) (is_held_by w o.holder) e).1

held_some : (w : WaitId) (h : Option Party) → is_held_by w h ≡ true → is_some h ≡ true
held_some w None e = cc
held_some w (Some x) e = refl

-- the wait stands with an offer at this place, behind at most n others
abbrev In : ℕ → ℕ → WaitId → Channel → Type 0
In n p w ch = within (is_held p w) n ch.queue ≡ true

-- it stands still, or this resolves the wait
abbrev InOr : ℕ → ℕ → WaitId → Option WaitId → Channel → Type 0
InOr n p w o ch = In n p w ch ⊎ (o ≡ Some w)

held_stays : (w v : WaitId) (h : Option Party) → same_wait v w ≡ false → is_held_by w h ≡ true → not (is_held_by v h) ≡ true
held_stays w v None k e = refl
held_stays w v (Some x) k e = let m = same_wait-eq w x.wait e in subst (λ u. not (same_wait v u) ≡ true) m (ap not k)

without_in : (n p : ℕ) (w v : WaitId) (ch : Channel) → In n p w ch → InOr n p w (Some v) (without v ch)
without_in n p w v ch h = by_test (same_wait v w) refl
  where
    by_test : (b : Bool) → same_wait v w ≡ b → InOr n p w (Some v) (without v ch)
    by_test true e = inr (ap (λ u. Some u) (same_wait-eq v w e))
    by_test false e = inl (filtered (is_held p w) (λ (o : Standing). not (is_held_by v o.holder))
        (λ o m. held_stays w v o.holder e (and_parts (o.place == p) (is_held_by w o.holder) m).1) n ch.queue h)

first_in : (n p c : ℕ) (w : WaitId) (rs : List Receiver) (how : ℕ → Resolution) (s : State) → In n p w (s.channels c)
    → InOr n p w (first_waiting rs) ((resolve_first rs how s).channels c)
first_in n p c w [] how s h = inl h
first_in n p c w (r ∷ rs) how s h = without_in n p w r.party.wait (s.channels c) h

holder_in : (n p c : ℕ) (w : WaitId) (x : Option Party) (how : ℕ → Resolution) (s : State) → InOr n p w (wait_of_party x) (s.channels c)
    → InOr n p w (wait_of_party x) ((resolve_holder x how s).channels c)
holder_in n p c w None how s h = h
holder_in n p c w (Some x) how s h = ⊎_elim (λ k. without_in n p w x.wait (s.channels c) k) (λ e. inr e) h

put_in : (n p d c : ℕ) (w : WaitId) (o : Option WaitId) (x : Channel) (s : State) → (In n p w (s.channels d) → InOr n p w o x)
    → In n p w (s.channels c) → InOr n p w o (put_channel d x s.channels c)
put_in n p d c w o x s k h = by_test (d == c) refl
  where
    by_test : (b : Bool) → (d == c) ≡ b → InOr n p w o (if b then x else s.channels c)
    by_test true e = k (subst (λ m. In n p w (s.channels m)) (sym (eqb-true d c e)) h)
    by_test false e = inl h

popped : (n p d c : ℕ) (w : WaitId) (o : Standing) (os : List Standing) (s : State) → (s.channels d).queue ≡ o ∷ os
    → In n p w (s.channels c) → InOr n p w (wait_of_party o.holder) ((with_queue d os s).channels c)
popped n p d c w o os s e h = put_in n p d c w (wait_of_party o.holder) (record (s.channels d) { queue = os }) s
    (λ k. ⊎_elim (λ a. inr (party_of p w o a)) (λ b. inl b)
    (rest_or (is_held p w) n o os (subst (λ q. within (is_held p w) n q ≡ true) e k))) h

offer_in : (n p d c : ℕ) (w : WaitId) (os : List Standing) (how : ℕ → Resolution) (s : State) → (s.channels d).queue ≡ os
    → In n p w (s.channels c) → InOr n p w (first_holding os) ((resolve_offer d os how s).channels c)
offer_in n p d c w [] how s e h = inl h
offer_in n p d c w (o ∷ os) how s e h = holder_in n p c w o.holder how (with_queue d os s) (popped n p d c w o os s e h)

-- an offer that is dropped was held by nobody
pub drops_not : (k : Kind) (n : ℕ) → drops k n ≡ true → suspends k ≡ false
drops_not Conflated n e = refl
drops_not (DropOldest k) n e = refl
drops_not other n e = cc

none_waits : (w : WaitId) (h : Option Party) → is_none h ≡ true → wait_of_party h ≡ Some w → ⊥
none_waits w None e f = cc
none_waits w (Some x) e f = cc

drop_in : (n p d c : ℕ) (w : WaitId) (os : List Standing) (s : State) → list_all (λ (o : Standing). is_none o.holder) os ≡ true
    → (s.channels d).queue ≡ os → In n p w (s.channels c) → In n p w ((remove_first d os s).channels c)
drop_in n p d c w [] s f e h = h
drop_in n p d c w (o ∷ os) s f e h = ⊎_elim (λ x. x) (λ x. absurd
    (none_waits w o.holder (and_parts (is_none o.holder) (list_all (λ (o : Standing). is_none o.holder) os) f).0 x))
    (popped n p d c w o os s e h)

-- so was one that is spurned
pub spurns_not : (k : Kind) (n : ℕ) → spurns k n ≡ true → suspends k ≡ false
spurns_not (DropLatest k) n e = refl
spurns_not other n e = cc

none_within : (p : ℕ) (w : WaitId) (n : ℕ) (os : List Standing) → list_all (λ (o : Standing). is_none o.holder) os ≡ true
    → within (is_held p w) n os ≡ true → ⊥
none_within p w n [] f h = cc
none_within p w zero (o ∷ os) f h = none_waits w o.holder
    (and_parts (is_none o.holder) (list_all (λ (o : Standing). is_none o.holder) os) f).0
    (party_of p w o h)
none_within p w (suc n) (o ∷ os) f h =
    let k = and_parts (is_none o.holder) (list_all (λ (o : Standing). is_none o.holder) os) f in
    ⊎_elim (λ a. none_waits w o.holder k.0 (party_of p w o a)) (λ b. none_within p w n os k.1 b)
    (or_cases (is_held p w o) (within (is_held p w) n os) h)

spurn_in : (n p d c q : ℕ) (w : WaitId) (s : State) → list_all (λ (o : Standing). is_none o.holder) (s.channels d).queue ≡ true
    → In n p w (s.channels c) → In n p w ((with_queue d (spurned q (s.channels d).queue) s).channels c)
spurn_in n p d c q w s f h = ⊎_elim (λ x. x) (λ e. cc) (put_in n p d c w None
    (record (s.channels d) { queue = spurned q (s.channels d).queue }) s (λ x. absurd (none_within p w n (s.channels d).queue f x)) h)

admitted_in : (p q : ℕ) (w : WaitId) (n : ℕ) (os : List Standing) → within (is_held p w) n os ≡ true
    → (within (is_held p w) n (admitted q os) ≡ true) ⊎ (wait_of_party (holder_at q os) ≡ Some w)
admitted_in p q w n [] e = inl e
admitted_in p q w zero (o ∷ os) e = at (o.place == q)
  where
    at : (b : Bool) → (within (is_held p w) zero (if b then record o { holder = None } ∷ os else o ∷ admitted q os) ≡ true)
        ⊎ (wait_of_party (if b then o.holder else holder_at q os) ≡ Some w)
    at true = inr (party_of p w o e)
    at false = inl e
admitted_in p q w (suc n) (o ∷ os) e = at (o.place == q) (λ b. admitted_in p q w n os b)
  where
    at : (b : Bool) → (within (is_held p w) n os ≡ true → (within (is_held p w) n (admitted q os) ≡ true)
        ⊎ (wait_of_party (holder_at q os) ≡ Some w))
        → (within (is_held p w) (suc n) (if b then record o { holder = None } ∷ os else o ∷ admitted q os) ≡ true)
        ⊎ (wait_of_party (if b then o.holder else holder_at q os) ≡ Some w)
    at true rec = ⊎_elim (λ a. inr (party_of p w o a)) (λ b. inl
        (or_right (is_held p w (record o { holder = None })) (within (is_held p w) n os) b))
        (or_cases (is_held p w o) (within (is_held p w) n os) e)
    at false rec = ⊎_elim (λ a. inl (or_left (is_held p w o) (within (is_held p w) n (admitted q os)) a))
        (λ b. ⊎_elim (λ c. inl (or_right (is_held p w o) (within (is_held p w) n (admitted q os)) c)) (λ d. inr d) (rec b))
        (or_cases (is_held p w o) (within (is_held p w) n os) e)

offer_comes : (n p : ℕ) (w : WaitId) (b : Bool) (o : Standing) (ch : Channel) → In n p w ch → In n p w (place_offer b o ch)
offer_comes n p w false o ch h = h
offer_comes n p w true o ch h = pushed (is_held p w) n ch.queue o h

receiver_comes : (n p : ℕ) (w : WaitId) (b : Bool) (r : Receiver) (ch : Channel) → In n p w ch → In n p w (place_receiver b r ch)
receiver_comes n p w false r ch h = h
receiver_comes n p w true r ch h = h

act_in : (shape : Shape) (s : State) (who : ℕ) (act : Act) → Needs shape s who act → Sound shape s → (n c p : ℕ) (w : WaitId)
    → In n p w (s.channels c) → InOr n p w (resolves s act) ((after s who act).channels c)
act_in shape s who (Hand d q v) f t n c p w h = first_in n p c w (s.channels d).receivers _ s h
act_in shape s who (Put d q v) f t n c p w h = put_in n p d c w None _ s
    (λ x. inl (offer_comes n p w true (record { place = q; value = v; holder = None }) (s.channels d) x)) h
act_in shape s who (Offer d q v u j) f t n c p w h =
    put_in n p d c w None _ s (λ x. inl (offer_comes n p w (is_open (s.waits u))
    (record { place = q; value = v; holder = Some (record { wait = u; clause = j }) }) (s.channels d) x)) h
act_in shape s who (Await d q u j) f t n c p w h =
    put_in n p d c w None _ s (λ x. inl (receiver_comes n p w (is_open (s.waits u))
    (record { place = q; party = record { wait = u; clause = j } }) (s.channels d) x)) h
act_in shape s who (Take d q v) f t n c p w h = offer_in n p d c w (s.channels d).queue _ s refl h
act_in shape s who (Admit d q) f t n c p w h =
    holder_in n p c w (holder_at q (s.channels d).queue) _ (with_queue d (admitted q (s.channels d).queue) s)
    (put_in n p d c w (wait_of_party (holder_at q (s.channels d).queue)) (record (s.channels d) { queue = admitted q (s.channels d).queue })
    s (λ x. admitted_in p q w n (s.channels d).queue x) h)
act_in shape s who (Drop d q v) f t n c p w h = inl (drop_in n p d c w (s.channels d).queue s
    ((t.channels d).kept (drops_not (kind_at shape d) _ f.1)) refl h)
act_in shape s who (Spurn d q v) f t n c p w h = inl (spurn_in n p d c q w s ((t.channels d).kept (spurns_not (kind_at shape d) _ f.1)) h)
act_in shape s who (Close d v) f t n c p w h = put_in n p d c w None _ s (λ x. inl x) h
act_in shape s who (Void d) f t n c p w h = put_in n p d c w None _ s (λ x. inl x) h
act_in shape s who (Drain d q v) f t n c p w h = offer_in n p d c w (s.channels d).queue _ s refl h
act_in shape s who (WakeClosed d q) f t n c p w h = first_in n p c w (s.channels d).receivers _ s h
act_in shape s who (Withdraw u why) f t n c p w h = without_in n p w u (s.channels c) h
act_in shape s who (Settle u outcome) f t n c p w h = inl h

-- ---- however a history goes on

-- the wait is resolved, or stands still
abbrev Stays : ℕ → ℕ → ℕ → WaitId → State → Type 0
Stays n c p w s = IsResolvedWait (s.waits w) ⊎ In n p w (s.channels c)

stays_lasts : (shape : Shape) (n c p : ℕ) (w : WaitId) → Lasts shape (Stays n c p w)
stays_lasts shape n c p w = record {
  step = λ s who act t f h.
      ⊎_elim
      (λ r. inl (always_keeps shape IsResolvedWait resolved_stays who w s act f r))
      (λ x. ⊎_elim (λ y. inr y) (λ e. inl (resolves_turns shape s who act t.stand f w e).now) (act_in shape s who act f t n c p w x))
      h;
}

-- ---- what has no room

pub full_more : (kind : Kind) (m n : ℕ) → m ≤ n → is_full kind m ≡ true → is_full kind n ≡ true
full_more Rendezvous m n h e = refl
full_more (Buffered k) m n h e = grind (arith, nat_tests)
full_more Signal m n h e = refl
full_more other m n h e = cc

not_owed : (a b f : Bool) → a ≡ true → b ≡ true → (a && (b && not f)) ≡ false → f ≡ true
not_owed true true true d e g = refl
not_owed true true false d e g = cc
not_owed true false f d e g = cc
not_owed false b f d e g = cc

has_none : (kind : Kind) (mark k n : ℕ) (t : Standing → Bool) (q : List Standing)
    → ((o : Standing) → t o ≡ true → (is_some o.holder ≡ true) × (nat_lt o.place mark ≡ true))
    → within t n q ≡ true → owes_admission_below kind mark k q ≡ false → is_full kind (k + n) ≡ true
has_none kind mark k n t [] f e d = cc
has_none kind mark k zero t (o ∷ os) f e d =
    let at = or_parts (is_some o.holder && (nat_lt o.place mark && not (is_full kind k))) (owes_admission_below kind mark (k + 1) os) d in
    let here = f o e in
    full_more kind k (k + 0) (omega arith) (not_owed (is_some o.holder) (nat_lt o.place mark) (is_full kind k) here.0 here.1 at.0)
has_none kind mark k (suc n) t (o ∷ os) f e d =
    let at = or_parts (is_some o.holder && (nat_lt o.place mark && not (is_full kind k))) (owes_admission_below kind mark (k + 1) os) d in
    ⊎_elim
    (λ a. let here = f o a in full_more kind k (k + suc n) (omega arith)
    (not_owed (is_some o.holder) (nat_lt o.place mark) (is_full kind k) here.0 here.1 at.0))
    (λ b. full_more kind ((k + 1) + n) (k + suc n) (omega arith) (has_none kind mark (k + 1) n t os f b at.1))
    (or_cases (t o) (within t n os) e)

-- ---- the offer

open_parts : (r : Option Resolution) (x : Option Settled) → state_of_parts r x ≡ wait_state.Standing → is_some r ≡ true → ⊥
open_parts None x e f = cc
open_parts (Some r) None e f = cc
open_parts (Some r) (Some x) e f = cc

not_resolved : (x : Option Wait) → state_of_wait x ≡ Some wait_state.Standing → IsResolvedWait x → ⊥
not_resolved None e h = h
not_resolved (Some x) e h = (let k : state_of_parts x.resolved x.settled ≡ wait_state.Standing = cc in open_parts x.resolved x.settled k h)

held_itself : (p : ℕ) (w : WaitId) → ((p == p) && same_wait w w) ≡ true
held_itself p w = ap (λ b. b && same_wait w w) (same_number p) ∙ same_wait-refl w

offered : (shape : Shape) (s : State) (who c p v : ℕ) → Needs shape s who (Offer c p v (record { channel = c; place = p }) 0)
    → Sound shape s
    → In (length (s.channels c).queue) p (record { channel = c; place = p })
    ((after s who (Offer c p v (record { channel = c; place = p }) 0)).channels c)
offered shape s who c p v f t =
    let w : WaitId = record { channel = c; place = p } in
    let o : Standing = record { place = p; value = v; holder = Some (record { wait = w; clause = 0 }) } in
    let none : s.waits w ≡ None = t.placed w (let e = f.1.first in omega arith) in
    let new : ((after s who (Offer c p v w 0)).channels c) ≡ place_offer true o (s.channels c) =
    put_here c (place_offer (is_open (s.waits w)) o (s.channels c)) s.channels
    ∙ ap (λ x. place_offer (is_open x) o (s.channels c)) none in
    subst (In (length (s.channels c).queue) p w) (sym new) (placed_last (is_held p w) (s.channels c).queue o (held_itself p w))

module _ (shape : Shape) (xs ys : List Entry) (who c p v mark : ℕ) where
  abbrev w : WaitId
  w = record { channel = c; place = p }

  abbrev e : Entry
  e = plain_offer who c p v

  placed_unresolved : Legal shape (xs ++ e ∷ ys) → p < mark → IsAdmittedBelow shape c mark (replay (xs ++ e ∷ ys))
      → (IsResolvedWait ((replay (xs ++ e ∷ ys)).waits w) → ⊥) → IsFullAt shape c (replay xs)
  unfolding LegalFrom replay_from
  placed_unresolved l lt owed unresolved =
      let parts = LegalFrom-parts shape start xs (e ∷ ys) l in
      let t : Sound shape (replay xs) = sound shape xs parts.0 in
      let n : ℕ = length ((replay xs).channels c).queue in
      let s : State = after (replay xs) who (Offer c p v w 0) in
      let there : replay (xs ++ e ∷ ys) ≡ replay_from s ys = replay_from-append start xs (e ∷ ys) in
      let kept = lasts_from shape (Stays n c p w) (stays_lasts shape n c p w) s ys parts.1.1
      (sound_step shape (replay xs) who (Offer c p v w 0) parts.1.0 t) (inr (offered shape (replay xs) who c p v parts.1.0 t)) in
      let last : Stays n c p w (replay (xs ++ e ∷ ys)) = subst (Stays n c p w) (sym there) kept in
      ⊎_elim
      (λ r. absurd (unresolved r))
      (λ h. full_more (kind_at shape c) (0 + n) n (omega arith)
      (has_none (kind_at shape c) mark 0 n (is_held p w) ((replay (xs ++ e ∷ ys)).channels c).queue
      (λ o k. (
        held_some w o.holder (and_parts (o.place == p) (is_held_by w o.holder) k).1,
        let same =
            eqb-true o.place p (and_parts (o.place == p) (is_held_by w o.holder) k).0 in grind (arith, nat_tests),
      ))
      h owed))
      last

  pub placed_full : Legal shape (xs ++ e ∷ ys) → p < mark → IsAdmittedBelow shape c mark (replay (xs ++ e ∷ ys))
      → state_of_wait ((replay (xs ++ e ∷ ys)).waits w) ≡ Some wait_state.Standing → IsFullAt shape c (replay xs)
  placed_full l lt owed stood = placed_unresolved l lt owed (not_resolved ((replay (xs ++ e ∷ ys)).waits w) stood)

-- the wait stood at a moment behind the one at which nobody was to be admitted
resolved_later : (shape : Shape) (w : WaitId) (xs ys : List Entry) → Legal shape ys → IsPrefix xs ys → IsResolvedWait ((replay xs).waits w)
    → IsResolvedWait ((replay ys).waits w)
resolved_later shape w xs ys l p h = lasts shape (λ s. IsResolvedWait (s.waits w))
    (record { step = λ s who act t f r. always_keeps shape IsResolvedWait resolved_stays who w s act f r }) xs ys p l h

pub placed_full_before : (shape : Shape) (xs ys zs : List Entry) (who c p v mark : ℕ) → Legal shape zs
    → IsPrefix (xs ++ plain_offer who c p v ∷ []) ys → IsPrefix ys zs → p < mark → IsAdmittedBelow shape c mark (replay ys)
    → state_of_wait ((replay zs).waits (record { channel = c; place = p })) ≡ Some wait_state.Standing → IsFullAt shape c (replay xs)
placed_full_before shape xs ys zs who c p v mark l begins goes lt owed stood =
    let w : WaitId = record { channel = c; place = p } in
    let is : ys ≡ xs ++ plain_offer who c p v ∷ begins.0 = sym begins.1 ∙ append_assoc xs (plain_offer who c p v ∷ []) begins.0 in
    let legal : Legal shape ys = Legal-prefix shape ys goes.0 (subst (Legal shape) (sym goes.1) l) in
    let unresolved : IsResolvedWait ((replay ys).waits w)
    → ⊥ = λ r. not_resolved ((replay zs).waits w) stood (resolved_later shape w ys zs l goes r) in
    placed_unresolved shape xs begins.0 who c p v mark (subst (Legal shape) is legal) lt
    (subst (λ es. IsAdmittedBelow shape c mark (replay es)) is owed)
    (subst (λ es. IsResolvedWait ((replay es).waits w) → ⊥) is unresolved)
