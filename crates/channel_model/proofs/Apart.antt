-- A wait stands at most once at a channel.
use Rattle.std.specs.Prelude.{◌≡◌, ℕ, zero, suc, ◌+◌, ◌≤◌, ◌==◌, Bool, true, false, not, cond, List, [], ◌∷◌, ◌++◌, filter, Option, Some, None, slice_get, slice_set, refl, if◌then◌else◌, MatchBool}
use Rattle.std.proofs.Common.{sym, ap, ◌∙◌, subst, arith}
use Rattle.co_base.specs.declared.names.WaitId.{WaitId}
use Rattle.channel_model.specs.declared.acts.Act.{Act}
use Rattle.channel_model.specs.declared.acts.Act.TheVariants.{Put, Offer, Await, Take, Admit, Drop, Spurn, Close, Void, Drain, Withdraw, Settle}
use Rattle.channel_model.specs.declared.acts.Entry.{Entry}
use Rattle.channel_model.specs.declared.standing.Party.{Party}
use Rattle.channel_model.specs.declared.standing.Standing.{Standing}
use Rattle.channel_model.specs.declared.standing.Receiver.{Receiver}
use Rattle.channel_model.specs.declared.standing.Resolution.{Resolution}
use Rattle.channel_model.specs.declared.standing.Resolution.TheVariants as resolved
use Rattle.channel_model.specs.Channels.{Shape, State, Channel, Wait, same_wait, start, places_at}
use Rattle.channel_model.specs.Effects.{after, resolve, resolve_first, resolve_holder, resolve_offer, remove_first, with_queue, without, is_held_by, put_channel, admitted, holder_at, is_open, place_offer, place_receiver, is_elsewhere, spurned}
use Rattle.channel_model.specs.Needs.{Needs, HasPlace, MayName, JoinsWait}
use Rattle.channel_model.specs.Histories.{replay, replay_from, Legal, LegalFrom}
use Rattle.channel_model.specs.Laws.{IsStandingAt, HolderStands, OffersStand, ReceiversStand, AllStandOpen, how_many, standing_of, StandsOnce, AllStandOnce}
use Rattle.channel_model.proofs.Waits.{same_wait-eq, same_wait-refl}
use Rattle.channel_model.proofs.OpenWaits.{after_open, start_open}
use Rattle.channel_model.proofs.Placed.{Placed, placed_after, start_placed}

-- ---- counting what passes

pub kept_less : {X : Type 0} (p : X → Bool) (x : X) (xs ys : List X) (b : Bool) → how_many p xs ≤ how_many p ys
    → how_many p (cond b (x ∷ xs) xs) ≤ cond (p x) 1 0 + how_many p ys
kept_less p x xs ys true h = omega arith
kept_less p x xs ys false h = omega arith

pub filtered_less : {X : Type 0} (p q : X → Bool) (xs : List X) → how_many p (filter q xs) ≤ how_many p xs
filtered_less p q [] = omega arith
filtered_less p q (x ∷ xs) = kept_less p x (filter q xs) xs (q x) (filtered_less p q xs)

one_more : (b : Bool) (n : ℕ) → cond b 1 0 + n ≡ 0 → (b ≡ false) × (n ≡ 0)
one_more true n e = absurd (omega arith)
one_more false n e = (refl, omega arith)

-- where none passes, none goes
none_filtered : {X : Type 0} (p : X → Bool) (xs : List X) → how_many p xs ≡ 0 → filter (λ x. not (p x)) xs ≡ xs
none_filtered p [] e = refl
none_filtered p (x ∷ xs) e =
    let k = one_more (p x) (how_many p xs) e in
    ap (λ b. cond (not b) (x ∷ filter (λ y. not (p y)) xs) (filter (λ y. not (p y)) xs)) k.0 ∙ ap (λ ys. x ∷ ys) (none_filtered p xs k.1)

pub same_parts : (ch : Channel) (os os' : List Standing) (rs rs' : List Receiver) → os ≡ os' → rs ≡ rs'
    → record ch { queue = os; receivers = rs } ≡ record ch { queue = os'; receivers = rs' }
same_parts ch os os' rs rs' p q = ap (λ (xs : List Standing). record ch { queue = xs; receivers = rs }) p
    ∙ ap (λ (xs : List Receiver). record ch { queue = os'; receivers = xs }) q

-- a wait that does not stand at a channel has nothing to leave there
pub without_none : (w : WaitId) (ch : Channel) → standing_of w ch ≡ 0 → without w ch ≡ ch
without_none w ch e =
    same_parts ch _ _ _ _
    (none_filtered (λ (o : Standing). is_held_by w o.holder) ch.queue (omega arith))
    (none_filtered (λ (r : Receiver). same_wait w r.party.wait) ch.receivers (omega arith))

-- ---- fewer stand

record Fewer (ch ch' : Channel) : Type 0 where
  fewer : (w : WaitId) → standing_of w ch' ≤ standing_of w ch

once_fewer : (ch ch' : Channel) → Fewer ch ch' → StandsOnce ch → StandsOnce ch'
once_fewer ch ch' f h = record { once = λ w. omega (arith, f.fewer w, h.once w) }

resolve_once : (w : WaitId) (how : Resolution) (s : State) → AllStandOnce s → AllStandOnce (resolve w how s)
resolve_once w how s h c = once_fewer (s.channels c) (without w (s.channels c)) (record {
  fewer = λ v. omega (
    arith,
    filtered_less (λ (o : Standing). is_held_by v o.holder) (λ (o : Standing). not (is_held_by w o.holder)) (s.channels c).queue,
    filtered_less (λ (r : Receiver). same_wait v r.party.wait) (λ (r : Receiver). not (same_wait w r.party.wait)) (s.channels c).receivers,
  );
}) (h c)

first_once : (rs : List Receiver) (how : ℕ → Resolution) (s : State) → AllStandOnce s → AllStandOnce (resolve_first rs how s)
first_once [] how s h = h
first_once (r ∷ rs) how s h = resolve_once r.party.wait (how r.party.clause) s h

holder_once : (p : Option Party) (how : ℕ → Resolution) (s : State) → AllStandOnce s → AllStandOnce (resolve_holder p how s)
holder_once None how s h = h
holder_once (Some p) how s h = resolve_once p.wait (how p.clause) s h

put_once : (c : ℕ) (ch : Channel) (s : State) → AllStandOnce s → StandsOnce ch
    → AllStandOnce (record s { channels = put_channel c ch s.channels })
put_once c ch s h k d = elim (c == d) as (λ b. StandsOnce (if b then ch else s.channels d)) [ true ↦ k | false ↦ h d ]

popped_less : (n m k r : ℕ) → n ≡ k + m → n + r ≤ 1 → m + r ≤ 1
popped_less n m k r e h = omega arith

popped_once : (c : ℕ) (o : Standing) (os : List Standing) (s : State) → (s.channels c).queue ≡ o ∷ os → AllStandOnce s
    → AllStandOnce (with_queue c os s)
popped_once c o os s e h = put_once c _ s h (record {
  once = λ w. popped_less _ _ _ _ (ap (how_many (λ (x : Standing). is_held_by w x.holder)) e) ((h c).once w);
})

remove_first_once : (c : ℕ) (os : List Standing) (s : State) → (s.channels c).queue ≡ os → AllStandOnce s
    → AllStandOnce (remove_first c os s)
remove_first_once c [] s e h = h
remove_first_once c (o ∷ os) s e h = popped_once c o os s e h

resolve_offer_once : (c : ℕ) (os : List Standing) (how : ℕ → Resolution) (s : State) → (s.channels c).queue ≡ os → AllStandOnce s
    → AllStandOnce (resolve_offer c os how s)
resolve_offer_once c [] how s e h = h
resolve_offer_once c (o ∷ os) how s e h = holder_once o.holder how (with_queue c os s) (popped_once c o os s e h)

freed_less : (w : WaitId) (o : Standing) (os rest : List Standing) (b : Bool)
    → how_many (λ (x : Standing). is_held_by w x.holder) rest ≤ how_many (λ (x : Standing). is_held_by w x.holder) os
    → how_many (λ (x : Standing). is_held_by w x.holder) (if b then record o { holder = None } ∷ os else o ∷ rest) ≤ cond
    (is_held_by w o.holder) 1 0 + how_many (λ (x : Standing). is_held_by w x.holder) os
freed_less w o os rest true h = omega arith
freed_less w o os rest false h = omega arith

pub admitted_less : (w : WaitId) (p : ℕ) (os : List Standing)
    → how_many (λ (o : Standing). is_held_by w o.holder) (admitted p os) ≤ how_many (λ (o : Standing). is_held_by w o.holder) os
admitted_less w p [] = omega arith
admitted_less w p (o ∷ os) = freed_less w o os (admitted p os) (o.place == p) (admitted_less w p os)

admit_once : (c p : ℕ) (s : State) → AllStandOnce s → AllStandOnce (with_queue c (admitted p (s.channels c).queue) s)
admit_once c p s h = put_once c _ s h (record { once = λ w. omega (arith, (h c).once w, admitted_less w p (s.channels c).queue) })

spurned_once : (c p : ℕ) (s : State) → AllStandOnce s → AllStandOnce (with_queue c (spurned p (s.channels c).queue) s)
spurned_once c p s h = put_once c _ s h (record {
  once =
      λ w. omega (arith, (h c).once w, filtered_less (λ (o : Standing). is_held_by w o.holder) (is_elsewhere p) (s.channels c).queue);
})

-- ---- one more stands, that did not

not_same : (waits : WaitId → Option Wait) (w v : WaitId) (c : ℕ) (b : Bool) → same_wait w v ≡ b → (IsStandingAt c (waits w) → ⊥)
    → IsStandingAt c (waits v) → b ≡ false
not_same waits w v c true e h k = absurd (h (subst (λ u. IsStandingAt c (waits u)) (sym (same_wait-eq w v e)) k))
not_same waits w v c false e h k = refl

not_held : (waits : WaitId → Option Wait) (w : WaitId) (c : ℕ) (p : Option Party) → (IsStandingAt c (waits w) → ⊥) → HolderStands waits c p
    → is_held_by w p ≡ false
not_held waits w c None h k = refl
not_held waits w c (Some p) h k = not_same waits w p.wait c _ refl h k

no_more : (b : Bool) (n : ℕ) → b ≡ false → n ≡ 0 → cond b 1 0 + n ≡ 0
no_more true n e f = cc
no_more false n e f = omega arith

no_offers : (waits : WaitId → Option Wait) (w : WaitId) (c : ℕ) (os : List Standing) → (IsStandingAt c (waits w) → ⊥)
    → OffersStand waits c os → how_many (λ (o : Standing). is_held_by w o.holder) os ≡ 0
unfolding OffersStand
no_offers waits w c [] h k = refl
no_offers waits w c (o ∷ os) h k = no_more _ _ (not_held waits w c o.holder h k.0) (no_offers waits w c os h k.1)

pub no_receivers : (waits : WaitId → Option Wait) (w : WaitId) (c : ℕ) (rs : List Receiver) → (IsStandingAt c (waits w) → ⊥)
    → ReceiversStand waits c rs → how_many (λ (r : Receiver). same_wait w r.party.wait) rs ≡ 0
unfolding ReceiversStand
no_receivers waits w c [] h k = refl
no_receivers waits w c (r ∷ rs) h k = no_more _ _ (not_same waits w r.party.wait c _ refl h k.0) (no_receivers waits w c rs h k.1)

none_standing : (w : WaitId) (c : ℕ) (s : State) → AllStandOpen s → (IsStandingAt c (s.waits w) → ⊥) → standing_of w (s.channels c) ≡ 0
none_standing w c s h k = omega (
  arith,
  no_offers s.waits w c (s.channels c).queue k (h c).offers,
  no_receivers s.waits w c (s.channels c).receivers k (h c).receivers,
)

-- a wait with no clause at a channel has nothing to leave there
pub without_same : (w : WaitId) (c : ℕ) (s : State) → AllStandOpen s → (IsStandingAt c (s.waits w) → ⊥)
    → without w (s.channels c) ≡ s.channels c
without_same w c s h k = without_none w (s.channels c) (none_standing w c s h k)

absent_stands : (c : ℕ) (x : Option Wait) → x ≡ None → IsStandingAt c x → ⊥
absent_stands c None e h = h
absent_stands c (Some x) e h = cc

joining_stands : (who k c : ℕ) (x : Option Wait) → JoinsWait who k c x → IsStandingAt c x → ⊥
joining_stands who k c None m h = m
joining_stands who k c (Some x) m h = let e = m.other_channel in let f = h.1 in cc

-- a wait that gets a clause at a channel does not stand there yet
new_here : (who k c p places : ℕ) (w : WaitId) (s : State) → Placed s → HasPlace places p (s.channels c) → MayName who k c p w s
    → IsStandingAt c (s.waits w) → ⊥
new_here who k c p places w s h place may = by_test (same_wait w (record { channel = c; place = p })) refl may
  where
    by_test : (b : Bool) → same_wait w (record { channel = c; place = p }) ≡ b → MatchBool b (k ≤ 7) (JoinsWait who k c (s.waits w))
        → IsStandingAt c (s.waits w) → ⊥
    by_test true e m =
        let at : (s.channels w.channel).next ≤ w.place = subst (λ (u : WaitId). (s.channels u.channel).next ≤ u.place)
        (sym (same_wait-eq w _ e)) (let f = place.first in omega arith) in
        absent_stands c (s.waits w) (h w at)
    by_test false e m = joining_stands who k c (s.waits w) m

pub how_many_push : {X : Type 0} (p : X → Bool) (xs : List X) (y : X) → how_many p (xs ++ y ∷ []) ≡ how_many p xs + cond (p y) 1 0
how_many_push p [] y = omega arith
how_many_push p (x ∷ xs) y = let k = how_many_push p xs y in omega arith

at_most_one : (n m : ℕ) (b : Bool) → n ≤ 1 → m ≡ n + cond b 1 0 → (b ≡ true → n ≡ 0) → m ≤ 1
at_most_one n m true h e k = omega (arith, k refl)
at_most_one n m false h e k = omega arith

offer_placed_once : (b : Bool) (o : Standing) (ch : Channel) → StandsOnce ch
    → ((v : WaitId) → is_held_by v o.holder ≡ true → standing_of v ch ≡ 0) → StandsOnce (place_offer b o ch)
offer_placed_once false o ch h k = record { once = h.once }
offer_placed_once true o ch h k = record {
  once = λ v. at_most_one (standing_of v ch) _ (is_held_by v o.holder) (h.once v)
      (let e = how_many_push (λ (x : Standing). is_held_by v x.holder) ch.queue o in omega arith) (k v);
}

receiver_placed_once : (b : Bool) (r : Receiver) (ch : Channel) → StandsOnce ch
    → ((v : WaitId) → same_wait v r.party.wait ≡ true → standing_of v ch ≡ 0) → StandsOnce (place_receiver b r ch)
receiver_placed_once false r ch h k = record { once = h.once }
receiver_placed_once true r ch h k = record {
  once = λ v. at_most_one (standing_of v ch) _ (same_wait v r.party.wait) (h.once v)
      (let e = how_many_push (λ (x : Receiver). same_wait v x.party.wait) ch.receivers r in omega arith) (k v);
}

-- ---- every act keeps it

named_alone : (who k c p places : ℕ) (w : WaitId) (s : State) → AllStandOpen s → Placed s → HasPlace places p (s.channels c)
    → MayName who k c p w s → (v : WaitId) → same_wait v w ≡ true → standing_of v (s.channels c) ≡ 0
named_alone who k c p places w s o h place may v e =
    subst (λ u. standing_of u (s.channels c) ≡ 0) (sym (same_wait-eq v w e))
    (none_standing w c s o (new_here who k c p places w s h place may))

after_once : (shape : Shape) (s : State) (who : ℕ) (act : Act) → Needs shape s who act → AllStandOpen s → Placed s → AllStandOnce s
    → AllStandOnce (after s who act)
after_once shape s who (Put c p v) n o g h = put_once c _ s h
    (offer_placed_once true (record { place = p; value = v; holder = None }) (s.channels c) (h c) (λ u e. cc))
after_once shape s who (Offer c p v w k) n o g h =
    put_once c _ s h (offer_placed_once (is_open (s.waits w))
    (record { place = p; value = v; holder = Some (record { wait = w; clause = k }) }) (s.channels c) (h c)
    (named_alone who k c p (places_at shape c) w s o g n.1 n.4))
after_once shape s who (Await c p w k) n o g h =
    put_once c _ s h (receiver_placed_once (is_open (s.waits w)) (record { place = p; party = record { wait = w; clause = k } })
    (s.channels c) (h c) (named_alone who k c p (places_at shape c) w s o g n.1 n.3))
after_once shape s who (Take c p v) n o g h = resolve_offer_once c _ _ s refl h
after_once shape s who (Admit c p) n o g h = holder_once (holder_at p (s.channels c).queue) _
    (with_queue c (admitted p (s.channels c).queue) s) (admit_once c p s h)
after_once shape s who (Drop c p v) n o g h = remove_first_once c _ s refl h
after_once shape s who (Spurn c p v) n o g h = spurned_once c p s h
after_once shape s who (Close c v) n o g h = put_once c _ s h (record { once = (h c).once })
after_once shape s who (Void c) n o g h = put_once c _ s h (record { once = (h c).once })
after_once shape s who (Drain c p v) n o g h = resolve_offer_once c _ _ s refl h
after_once shape s who (Withdraw w why) n o g h = resolve_once w (resolved.Withdrawn why) s h
after_once shape s who (Settle w outcome) n o g h = h
after_once shape s who other n o g h = first_once _ _ s h

from_once : (shape : Shape) (s : State) (es : List Entry) → LegalFrom shape s es → AllStandOpen s → Placed s → AllStandOnce s
    → AllStandOnce (replay_from s es)
unfolding LegalFrom replay_from
from_once shape s [] l o g h = h
from_once shape s (e ∷ es) l o g h =
    from_once shape (after s e.who e.act) es l.1 (after_open s e.who e.act o) (placed_after shape s e.who e.act l.0 g)
    (after_once shape s e.who e.act l.0 o g h)

pub replay_once : (shape : Shape) (es : List Entry) → Legal shape es → AllStandOnce (replay es)
replay_once shape es l = from_once shape start es l start_open start_placed (λ c. record { once = λ w. omega arith })

-- ---- what is left at a channel whose first goes

spent_by_first : (n m k : ℕ) (b : Bool) → n + m ≤ 1 → m ≡ cond b 1 0 + k → b ≡ true → (n ≡ 0) × (k ≡ 0)
spent_by_first n m k true h e f = (omega arith, omega arith)
spent_by_first n m k false h e f = cc

-- the wait of the first receiver stands nowhere else at its channel
pub without_first_receiver : (ch : Channel) (r : Receiver) (rs : List Receiver) → StandsOnce ch → ch.receivers ≡ r ∷ rs
    → without r.party.wait ch ≡ record ch { receivers = rs }
without_first_receiver ch r rs h e =
    let w = r.party.wait in
    let mine : Receiver → Bool = λ x. same_wait w x.party.wait in
    let held : Standing → Bool = λ o. is_held_by w o.holder in
    let k = spent_by_first (how_many held ch.queue) (how_many mine ch.receivers) (how_many mine rs) (same_wait w w) (h.once w)
    (ap (how_many mine) e) (same_wait-refl w) in
    same_parts ch _ _ _ _ (none_filtered held ch.queue k.0)
    (ap (filter (λ (x : Receiver). not (mine x))) e
    ∙ ap (λ b. cond (not b) (r ∷ filter (λ (x : Receiver). not (mine x)) rs) (filter (λ (x : Receiver). not (mine x)) rs))
    (same_wait-refl w) ∙ none_filtered mine rs k.1)

held_by_own : (p : Party) (h : Option Party) → h ≡ Some p → is_held_by p.wait h ≡ true
held_by_own p h e = ap (is_held_by p.wait) e ∙ same_wait-refl p.wait

spent_by_holder : (n m k : ℕ) (b : Bool) → m + n ≤ 1 → m ≡ cond b 1 0 + k → b ≡ true → k + n ≡ 0
spent_by_holder n m k true h e f = omega arith
spent_by_holder n m k false h e f = cc

-- nor does the holder of the first offer
pub without_first_holder : (ch : Channel) (o : Standing) (os : List Standing) (p : Party) → StandsOnce ch → ch.queue ≡ o ∷ os
    → o.holder ≡ Some p → without p.wait (record ch { queue = os }) ≡ record ch { queue = os }
without_first_holder ch o os p h e f =
    let held : Standing → Bool = λ x. is_held_by p.wait x.holder in
    without_none p.wait (record ch { queue = os })
    (spent_by_holder (how_many (λ (r : Receiver). same_wait p.wait r.party.wait) ch.receivers) (how_many held ch.queue) (how_many held os)
    (is_held_by p.wait o.holder) (h.once p.wait) (ap (how_many held) e) (held_by_own p o.holder f))

-- one held offer fewer, where an offer is freed of its holder
freed_one : (w : WaitId) (q : List Standing) (i : ℕ) (o : Standing) → slice_get q i ≡ Some o → is_held_by w o.holder ≡ true
    → how_many (λ (x : Standing). is_held_by w x.holder) (slice_set q i (record o { holder = None })) + 1 ≡
    how_many (λ (x : Standing). is_held_by w x.holder) q
freed_one w [] i o at e = cc
freed_one w (x ∷ xs) zero o at e = counted (is_held_by w x.holder) (let k : x ≡ o = cc in ap (λ (y : Standing). is_held_by w y.holder) k
    ∙ e)
  where
    counted : (b : Bool) → b ≡ true → 0 + how_many (λ (x : Standing). is_held_by w x.holder) xs + 1 ≡
        cond b 1 0 + how_many (λ (x : Standing). is_held_by w x.holder) xs
    counted true e = omega arith
    counted false e = cc
freed_one w (x ∷ xs) (suc i) o at e = omega (arith, freed_one w xs i o at e)

spent_by_freed : (n m k : ℕ) → m + n ≤ 1 → k + 1 ≡ m → k + n ≡ 0
spent_by_freed n m k h e = omega arith

-- nor does the holder of an offer that is freed of it
pub without_freed : (ch : Channel) (i : ℕ) (o : Standing) (p : Party) → StandsOnce ch → slice_get ch.queue i ≡ Some o → o.holder ≡ Some p
    → without p.wait (record ch { queue = slice_set ch.queue i (record o { holder = None }) }) ≡
    record ch { queue = slice_set ch.queue i (record o { holder = None }) }
without_freed ch i o p h at e =
    let held : Standing → Bool = λ x. is_held_by p.wait x.holder in
    let freed : List Standing = slice_set ch.queue i (record o { holder = None }) in
    without_none p.wait (record ch { queue = freed })
    (spent_by_freed (how_many (λ (r : Receiver). same_wait p.wait r.party.wait) ch.receivers) (how_many held ch.queue) (how_many held freed)
    (h.once p.wait) (freed_one p.wait ch.queue i o at (held_by_own p o.holder e)))
