-- What stands is known from the acts: the wait of its place, and how it came there.
use Rattle.std.specs.Prelude.{◌≡◌, ℕ, ◌+◌, ◌≤◌, ◌==◌, Bool, true, false, not, ◌&&◌, cond, List, [], ◌∷◌, ◌++◌, filter, Option, Some, None, refl, if◌then◌else◌, ◌⊎◌}
use Rattle.std.specs.List.{list_any, AllByRecursion}
use Rattle.std.proofs.Common.{sym, ap, ◌∙◌, subst, arith, inl, inr, ⊎_elim}
use Rattle.std.proofs.lemmas.Bool.{eqb-true, cond_both}
use Rattle.std.proofs.lemmas.Option.{cond_some}
use Rattle.std.proofs.ByRecursion.{All-push}
use Rattle.co_base.specs.declared.names.WaitId.{WaitId}
use Rattle.channel_model.specs.declared.acts.Act.{Act}
use Rattle.channel_model.specs.declared.acts.Act.TheVariants.{Hand, Put, Offer, Await, Take, Admit, Drop, Spurn, Close, Void, Drain, WakeClosed, Withdraw, Settle}
use Rattle.channel_model.specs.declared.standing.Party.{Party}
use Rattle.channel_model.specs.declared.standing.Standing.{Standing}
use Rattle.channel_model.specs.declared.standing.Receiver.{Receiver}
use Rattle.channel_model.specs.declared.standing.Resolution.{Resolution}
use Rattle.channel_model.specs.declared.standing.Resolution.TheVariants as resolved
use Rattle.channel_model.specs.Channels.{Shape, State, Channel, same_wait, start}
use Rattle.channel_model.specs.Effects.{after, resolve, resolve_first, resolve_holder, resolve_offer, remove_first, with_queue, is_held_by, put_channel, admitted, holder_at, is_open, place_offer, place_receiver, is_elsewhere}
use Rattle.channel_model.specs.Needs.{Needs}
use Rattle.channel_model.specs.Fates.{is_at, brings, hands, admits, element_at, wait_at, places_wait, offers_at, first_some}
use Rattle.channel_model.specs.Laws.{how_many}
use Rattle.channel_model.proofs.Placed.{same_number}
use Rattle.channel_fates.proofs.Appended.{any_kept, any_last, any_count, found, first_found, first_kept, first_last}
use Rattle.channel_fates.proofs.OncePlaced.{enters, awaits, answers, Counted}

-- ---- words

abbrev pub puts : ℕ → ℕ → Act → Bool
puts c p (Put d q v) = is_at c p d q
puts c p other = false

abbrev pub offers : ℕ → ℕ → Act → Bool
offers c p (Offer d q v w k) = is_at c p d q
offers c p other = false

-- an offer that nobody holds was put or admitted; a held one was offered, with its holder's wait as that of the place
abbrev pub HolderKnown : List Act → ℕ → ℕ → Option Party → Type 0
HolderKnown acts c p None = (list_any (puts c p) acts ≡ true) ⊎ (list_any (admits c p) acts ≡ true)
HolderKnown acts c p (Some x) = (list_any (offers c p) acts ≡ true) × (wait_at c p acts ≡ Some x.wait)

-- so it came there, and its value came to its place
abbrev pub OfferKnown : List Act → ℕ → Standing → Type 0
OfferKnown acts c o = HolderKnown acts c o.place o.holder × (element_at c o.place acts ≡ Some o.value)

abbrev pub ReceiverKnown : List Act → ℕ → Receiver → Type 0
ReceiverKnown acts c r = wait_at c r.place acts ≡ Some r.party.wait

pub record Known (acts : List Act) (c : ℕ) (ch : Channel) : Type 0 where
  pub offers : AllByRecursion (OfferKnown acts c) ch.queue
  pub receivers : AllByRecursion (ReceiverKnown acts c) ch.receivers

abbrev pub AllKnown : List Act → State → Type 0
AllKnown acts s = (c : ℕ) → Known acts c (s.channels c)

-- ---- offers

pub offer_here : (c p k : ℕ) (act : Act) → offers_at c p act ≡ Some k → offers c p act ≡ true
offer_here c p k (Offer d q v w j) e = (cond_some (is_at c p d q) j k e).0
offer_here c p k other e = cc

-- a place with a clause was offered
pub clause_offered : (c p k : ℕ) (acts : List Act) → first_some (offers_at c p) acts ≡ Some k → list_any (offers c p) acts ≡ true
clause_offered c p k acts e = let f = first_found (offers_at c p) acts k e in f.2 (offers c p) (offer_here c p k f.0 f.1)

-- ---- lists

all_of : {X : Type 0} (P Q : X → Type 0) → ((x : X) → P x → Q x) → (xs : List X) → AllByRecursion P xs → AllByRecursion Q xs
all_of P Q k [] h = tt
all_of P Q k (x ∷ xs) h = (k x h.0, all_of P Q k xs h.1)

pub all_filter : {X : Type 0} (P : X → Type 0) (f : X → Bool) (xs : List X) → AllByRecursion P xs → AllByRecursion P (filter f xs)
all_filter P f [] h = tt
all_filter P f (x ∷ xs) h =
    elim (f x) as (λ b. AllByRecursion P (cond b (x ∷ filter f xs) (filter f xs)))
    [ true ↦ (h.0, all_filter P f xs h.1) | false ↦ all_filter P f xs h.1 ]

-- ---- it stays known

holder_more : (acts : List Act) (act : Act) (c p : ℕ) (x : Option Party) → HolderKnown acts c p x → HolderKnown (acts ++ act ∷ []) c p x
holder_more acts act c p None h = ⊎_elim (λ e. inl (any_kept (puts c p) acts (act ∷ []) e))
    (λ e. inr (any_kept (admits c p) acts (act ∷ []) e)) h
holder_more acts act c p (Some x) h = (any_kept (offers c p) acts (act ∷ []) h.0, first_kept (places_wait c p) acts (act ∷ []) x.wait h.1)

known_more : (acts : List Act) (act : Act) (s : State) → AllKnown acts s → AllKnown (acts ++ act ∷ []) s
known_more acts act s h c = record {
  offers = all_of (OfferKnown acts c) (OfferKnown (acts ++ act ∷ []) c)
      (λ o k. (holder_more acts act c o.place o.holder k.0, first_kept (brings c o.place) acts (act ∷ []) o.value k.1)) (s.channels c).queue
      (h c).offers;
  receivers = all_of (ReceiverKnown acts c) (ReceiverKnown (acts ++ act ∷ []) c)
      (λ r k. first_kept (places_wait c r.place) acts (act ∷ []) r.party.wait k) (s.channels c).receivers (h c).receivers;
}

resolve_known : (acts : List Act) (w : WaitId) (how : Resolution) (s : State) → AllKnown acts s → AllKnown acts (resolve w how s)
resolve_known acts w how s h c = record {
  offers = all_filter (OfferKnown acts c) (λ o. not (is_held_by w o.holder)) (s.channels c).queue (h c).offers;
  receivers = all_filter (ReceiverKnown acts c) (λ r. not (same_wait w r.party.wait)) (s.channels c).receivers (h c).receivers;
}

first_known : (acts : List Act) (rs : List Receiver) (how : ℕ → Resolution) (s : State) → AllKnown acts s
    → AllKnown acts (resolve_first rs how s)
first_known acts [] how s h = h
first_known acts (r ∷ rs) how s h = resolve_known acts r.party.wait (how r.party.clause) s h

holder_known : (acts : List Act) (p : Option Party) (how : ℕ → Resolution) (s : State) → AllKnown acts s
    → AllKnown acts (resolve_holder p how s)
holder_known acts None how s h = h
holder_known acts (Some p) how s h = resolve_known acts p.wait (how p.clause) s h

put_known : (acts : List Act) (c : ℕ) (ch : Channel) (s : State) → AllKnown acts s → Known acts c ch
    → AllKnown acts (record s { channels = put_channel c ch s.channels })
put_known acts c ch s h k d = cond_both (c == d) ch (s.channels d) (Known acts d) (λ e. subst (λ n. Known acts n ch) (eqb-true c d e) k)
    (λ e. h d)

queue_known : (acts : List Act) (c : ℕ) (os : List Standing) (s : State) → AllKnown acts s → AllByRecursion (OfferKnown acts c) os
    → AllKnown acts (with_queue c os s)
queue_known acts c os s h k = put_known acts c _ s h (record { offers = k; receivers = (h c).receivers })

remove_known : (acts : List Act) (c : ℕ) (os : List Standing) (s : State) → AllKnown acts s → AllByRecursion (OfferKnown acts c) os
    → AllKnown acts (remove_first c os s)
remove_known acts c [] s h k = h
remove_known acts c (o ∷ os) s h k = queue_known acts c os s h k.1

offer_known : (acts : List Act) (c : ℕ) (os : List Standing) (how : ℕ → Resolution) (s : State) → AllKnown acts s
    → AllByRecursion (OfferKnown acts c) os → AllKnown acts (resolve_offer c os how s)
offer_known acts c [] how s h k = h
offer_known acts c (o ∷ os) how s h k = holder_known acts o.holder how _ (queue_known acts c os s h k.1)

admitted_known : (acts : List Act) (c p : ℕ) (os : List Standing) → list_any (admits c p) acts ≡ true
    → AllByRecursion (OfferKnown acts c) os → AllByRecursion (OfferKnown acts c) (admitted p os)
admitted_known acts c p [] a h = tt
admitted_known acts c p (o ∷ os) a h =
    cond_both (o.place == p) (record o { holder = None } ∷ os) (o ∷ admitted p os) (AllByRecursion (OfferKnown acts c))
    (λ e. ((inr (subst (λ n. list_any (admits c n) acts ≡ true) (sym (eqb-true o.place p e)) a), h.0.1), h.1))
    (λ e. (h.0, admitted_known acts c p os a h.1))

-- ---- where elements come from

put_or_offered : (c p : ℕ) (act : Act) → cond (puts c p act) 1 0 + cond (offers c p act) 1 0 ≡ cond (enters c p act) 1 0
put_or_offered c p (Put d q v) = omega arith
put_or_offered c p (Offer d q v w k) = omega arith
put_or_offered c p other = refl

pub enters_count : (c p : ℕ) (acts : List Act) → how_many (puts c p) acts + how_many (offers c p) acts ≡ how_many (enters c p) acts
enters_count c p [] = refl
enters_count c p (a ∷ acts) = let k = put_or_offered c p a in let m = enters_count c p acts in omega arith

pub hand_answers : (c p : ℕ) (act : Act) → hands c p act ≡ true → answers c p act ≡ true
hand_answers c p (Hand d q v) e = e
hand_answers c p other e = cc

pub handed_answered : (c p : ℕ) (acts : List Act) → list_any (hands c p) acts ≡ true → 1 ≤ how_many (answers c p) acts
handed_answered c p acts e = let f = found (hands c p) acts e in any_count (answers c p) acts (f.2 (answers c p) (hand_answers c p f.0 f.1))

pub came : (c p v : ℕ) (act : Act) → brings c p act ≡ Some v → (hands c p act ≡ true) ⊎ ((puts c p act ≡ true) ⊎ (offers c p act ≡ true))
came c p v (Hand d q x) e = inl (cond_some (is_at c p d q) x v e).0
came c p v (Put d q x) e = inr (inl (cond_some (is_at c p d q) x v e).0)
came c p v (Offer d q x w k) e = inr (inr (cond_some (is_at c p d q) x v e).0)
came c p v other e = cc

-- no element comes to a place before it is given out
no_element : (c p : ℕ) (acts : List Act) (ch : Channel) → Counted c p acts ch → how_many (enters c p) acts + how_many (awaits c p) acts ≡ 0
    → element_at c p acts ≡ None
no_element c p acts ch h z = by_element (element_at c p acts) refl
  where
    none_came : (act : Act) → ((g : Act → Bool) → g act ≡ true → list_any g acts ≡ true) → (hands c p act ≡ true)
        ⊎ ((puts c p act ≡ true) ⊎ (offers c p act ≡ true)) → ⊥
    none_came act has x =
        ⊎_elim
        (λ k. let n = handed_answered c p acts (has (hands c p) k) in omega (arith, h.receivers))
        (λ m. ⊎_elim
        (λ k. let n = any_count (puts c p) acts (has (puts c p) k) in omega (arith, enters_count c p acts))
        (λ k. let n = any_count (offers c p) acts (has (offers c p) k) in omega (arith, enters_count c p acts))
        m)
        x

    by_element : (o : Option ℕ) → element_at c p acts ≡ o → o ≡ None
    by_element None e = refl
    by_element (Some v) e = let f = first_found (brings c p) acts v e in absurd (none_came f.0 f.2 (came c p v f.0 f.1))

-- ---- what comes is known

pub here : (c p : ℕ) → is_at c p c p ≡ true
here c p = ap (λ b. b && (p == p)) (same_number c) ∙ same_number p

zero_parts : (a b : Bool) (m n : ℕ) → cond a 1 0 + m + (cond b 1 0 + n) ≡ 0 → (a ≡ false) × (b ≡ false) × (m + n ≡ 0)
zero_parts true b m n e = absurd (omega arith)
zero_parts false true m n e = absurd (omega arith)
zero_parts false false m n e = (refl, refl, omega arith)

pub places_none : (c p : ℕ) (act : Act) → enters c p act ≡ false → awaits c p act ≡ false → places_wait c p act ≡ None
places_none c p (Offer d q v w k) e f = ap (λ b. if b then Some w else None) e
places_none c p (Await d q w k) e f = ap (λ b. if b then Some w else None) f
places_none c p other e f = refl

pub no_wait : (c p : ℕ) (acts : List Act) → how_many (enters c p) acts + how_many (awaits c p) acts ≡ 0 → wait_at c p acts ≡ None
no_wait c p [] e = refl
no_wait c p (a ∷ acts) e =
    let z = zero_parts (enters c p a) (awaits c p a) _ _ e in
    let x = places_none c p a z.0 z.1 in
    let y = no_wait c p acts z.2 in cc

pub wait_placed : (c p : ℕ) (acts : List Act) (act : Act) (ch : Channel) (w : WaitId) → Counted c p acts ch → p ≡ ch.next
    → places_wait c p act ≡ Some w → wait_at c p (acts ++ act ∷ []) ≡ Some w
wait_placed c p acts act ch w h e f = first_last (places_wait c p) acts act (no_wait c p acts (h.fresh (omega arith))) ∙ f

element_placed : (c p : ℕ) (acts : List Act) (act : Act) (ch : Channel) (v : ℕ) → Counted c p acts ch → p ≡ ch.next
    → brings c p act ≡ Some v → element_at c p (acts ++ act ∷ []) ≡ Some v
element_placed c p acts act ch v h e f = first_last (brings c p) acts act (no_element c p acts ch h (h.fresh (omega arith))) ∙ f

offer_placed : (acts : List Act) (c : ℕ) (b : Bool) (o : Standing) (ch : Channel) → Known acts c ch → OfferKnown acts c o
    → Known acts c (place_offer b o ch)
offer_placed acts c false o ch h k = record { offers = h.offers; receivers = h.receivers }
offer_placed acts c true o ch h k = record { offers = All-push (OfferKnown acts c) ch.queue o h.offers k; receivers = h.receivers }

receiver_placed : (acts : List Act) (c : ℕ) (b : Bool) (r : Receiver) (ch : Channel) → Known acts c ch → ReceiverKnown acts c r
    → Known acts c (place_receiver b r ch)
receiver_placed acts c false r ch h k = record { offers = h.offers; receivers = h.receivers }
receiver_placed acts c true r ch h k = record {
  offers = h.offers;
  receivers =
      All-push (ReceiverKnown acts c) ch.receivers r h.receivers k;
}

known_by : (shape : Shape) (acts : List Act) (s : State) (who : ℕ) (act : Act) → Needs shape s who act
    → ((c p : ℕ) → Counted c p acts (s.channels c)) → AllKnown (acts ++ act ∷ []) s → AllKnown (acts ++ act ∷ []) (after s who act)
known_by shape acts s who (Hand c p v) n g h = first_known _ (s.channels c).receivers _ s h
known_by shape acts s who (Put c p v) n g h =
    put_known _ c _ s h (offer_placed _ c true (record { place = p; value = v; holder = None }) (s.channels c) (h c) (
      inl (any_last (puts c p) acts (Put c p v) (here c p)),
      element_placed c p acts (Put c p v) (s.channels c) v (g c p) n.1.first (ap (λ b. if b then Some v else None) (here c p)),
    ))
known_by shape acts s who (Offer c p v w k) n g h =
    put_known _ c _ s h (offer_placed _ c (is_open (s.waits w))
    (record { place = p; value = v; holder = Some (record { wait = w; clause = k }) }) (s.channels c) (h c) (
      (
        any_last (offers c p) acts (Offer c p v w k) (here c p),
        wait_placed c p acts (Offer c p v w k) (s.channels c) w (g c p) n.1.first (ap (λ b. if b then Some w else None) (here c p)),
      ),
      element_placed c p acts (Offer c p v w k) (s.channels c) v (g c p) n.1.first (ap (λ b. if b then Some v else None) (here c p)),
    ))
known_by shape acts s who (Await c p w k) n g h =
    put_known _ c _ s h (receiver_placed _ c (is_open (s.waits w)) (record { place = p; party = record { wait = w; clause = k } })
    (s.channels c) (h c)
    (wait_placed c p acts (Await c p w k) (s.channels c) w (g c p) n.1.first (ap (λ b. if b then Some w else None) (here c p))))
known_by shape acts s who (Take c p v) n g h = offer_known _ c (s.channels c).queue _ s h (h c).offers
known_by shape acts s who (Admit c p) n g h =
    holder_known _ (holder_at p (s.channels c).queue) _ _
    (queue_known _ c _ s h (admitted_known (acts ++ Admit c p ∷ []) c p (s.channels c).queue
    (any_last (admits c p) acts (Admit c p) (here c p)) (h c).offers))
known_by shape acts s who (Drop c p v) n g h = remove_known _ c (s.channels c).queue s h (h c).offers
known_by shape acts s who (Spurn c p v) n g h = queue_known _ c _ s h
    (all_filter (OfferKnown (acts ++ Spurn c p v ∷ []) c) (is_elsewhere p) (s.channels c).queue (h c).offers)
known_by shape acts s who (Close c v) n g h = put_known _ c _ s h (record { offers = (h c).offers; receivers = (h c).receivers })
known_by shape acts s who (Void c) n g h = put_known _ c _ s h (record { offers = (h c).offers; receivers = (h c).receivers })
known_by shape acts s who (Drain c p v) n g h = offer_known _ c (s.channels c).queue _ s h (h c).offers
known_by shape acts s who (WakeClosed c p) n g h = first_known _ (s.channels c).receivers _ s h
known_by shape acts s who (Withdraw w why) n g h = resolve_known _ w (resolved.Withdrawn why) s h
known_by shape acts s who (Settle w outcome) n g h = h

pub known_after : (shape : Shape) (acts : List Act) (s : State) (who : ℕ) (act : Act) → Needs shape s who act
    → ((c p : ℕ) → Counted c p acts (s.channels c)) → AllKnown acts s → AllKnown (acts ++ act ∷ []) (after s who act)
known_after shape acts s who act n g h = known_by shape acts s who act n g (known_more acts act s h)

pub start_known : AllKnown [] start
start_known c = record { offers = tt; receivers = tt }
