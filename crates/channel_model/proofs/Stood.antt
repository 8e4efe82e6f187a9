-- An offer has no more offers before it than stood as it was placed, and that number stays.
use Rattle.std.specs.Prelude.{◌≡◌, ℕ, suc, ◌+◌, ◌<◌, ◌≤◌, ◌==◌, Bool, true, false, ◌&&◌, ◌||◌, cond, List, [], ◌∷◌, ◌++◌, length, filter, Option, Some, None, refl, if◌then◌else◌}
use Rattle.std.proofs.Common.{sym, ap, ◌∙◌, subst, arith, inl, ne_eqb}
use Rattle.std.proofs.lemmas.Bool.{eqb-true}
use Rattle.std.proofs.lemmas.Bool.Decides.{nat_tests}
use Rattle.channel_model.specs.declared.acts.Kind.{Kind}
use Rattle.channel_model.specs.declared.acts.Kind.TheVariants.{DropLatest}
use Rattle.channel_model.specs.declared.acts.Act.{Act}
use Rattle.channel_model.specs.declared.acts.Act.TheVariants.{Hand, Put, Offer, Await, Take, Admit, Drop, Spurn, Close, Void, Drain, WakeClosed, Withdraw, Settle}
use Rattle.channel_model.specs.declared.acts.Entry.{Entry}
use Rattle.channel_model.specs.declared.standing.Party.{Party}
use Rattle.channel_model.specs.declared.standing.Receiver.{Receiver}
use Rattle.channel_model.specs.declared.standing.Resolution.{Resolution}
use Rattle.channel_model.specs.declared.standing.Standing.{Standing}
use Rattle.channel_model.specs.Channels.{Shape, State, Channel, start, kind_at, places_at, spurns}
use Rattle.channel_model.specs.Effects.{after, resolve_first, resolve_holder, resolve_offer, remove_first, with_queue, put_channel, put_stood, admitted, spurned, holder_at, is_open, place_offer, place_receiver}
use Rattle.channel_model.specs.Needs.{Needs, HasPlace}
use Rattle.channel_model.specs.Histories.{replay, Legal}
use Rattle.channel_model.specs.Laws.{StandsInOrder, StoodAll}
use Rattle.channel_model.specs.Owing.{owes_spurn_at}
use Rattle.channel_model.proofs.EveryAct.{after_keeps}
use Rattle.channel_model.proofs.InOrder.{OffersAscend, order_keeps}
use Rattle.channel_model.proofs.Placed.{same_number}
use Rattle.channel_model.proofs.Sound.{sound_start, Lasts, lasts_from, lasts, given_keeps}

-- ---- lists

stood_lower : (f : ℕ → ℕ) (m n : ℕ) (os : List Standing) → m ≤ n → StoodAll f n os → StoodAll f m os
unfolding StoodAll
stood_lower f m n [] le h = tt
stood_lower f m n (o ∷ os) le h = (let k = h.0 in omega arith, stood_lower f (m + 1) (n + 1) os (omega arith) h.1)

stood_filter : (f : ℕ → ℕ) (keep : Standing → Bool) (n : ℕ) (os : List Standing) → StoodAll f n os → StoodAll f n (filter keep os)
unfolding StoodAll
stood_filter f keep n [] h = tt
stood_filter f keep n (o ∷ os) h = by_test (keep o) (stood_filter f keep (n + 1) os h.1)
  where
    by_test : (b : Bool) → StoodAll f (n + 1) (filter keep os) → StoodAll f n (cond b (o ∷ filter keep os) (filter keep os))
    by_test true rest = (h.0, rest)
    by_test false rest = stood_lower f n (n + 1) (filter keep os) (omega arith) rest

stood_rest : (f : ℕ → ℕ) (n : ℕ) (o : Standing) (os : List Standing) → StoodAll f n (o ∷ os) → StoodAll f n os
unfolding StoodAll
stood_rest f n o os h = stood_lower f n (n + 1) os (omega arith) h.1

stood_admitted : (f : ℕ → ℕ) (p n : ℕ) (os : List Standing) → StoodAll f n os → StoodAll f n (admitted p os)
unfolding StoodAll
stood_admitted f p n [] h = tt
stood_admitted f p n (o ∷ os) h = by_test (o.place == p) (stood_admitted f p (n + 1) os h.1)
  where
    by_test : (b : Bool) → StoodAll f (n + 1) (admitted p os)
        → StoodAll f n (if b then record o { holder = None } ∷ os else o ∷ admitted p os)
    by_test true rest = h
    by_test false rest = (h.0, rest)

stood_push : (f : ℕ → ℕ) (n : ℕ) (os : List Standing) (o : Standing) → n + length os ≤ f o.place → StoodAll f n os
    → StoodAll f n (os ++ o ∷ [])
unfolding StoodAll
stood_push f n [] o le h = (omega (arith, le), tt)
stood_push f n (x ∷ os) o le h = (h.0, stood_push f (n + 1) os o (omega (arith, le)) h.1)

ascends_bound : (p n : ℕ) (os : List Standing) → OffersAscend p n os → p ≤ n
ascends_bound p n [] h = h
ascends_bound p n (o ∷ os) h = let k = h.0 in let rest = ascends_bound (o.place + 1) n os h.1 in omega arith

-- another number for a place above all that stand
stood_changed : (f g : ℕ → ℕ) (n p next : ℕ) (os : List Standing) → ((q : ℕ) → q < next → g q ≡ f q) → OffersAscend p next os
    → StoodAll f n os → StoodAll g n os
unfolding StoodAll
stood_changed f g n p next [] same a h = tt
stood_changed f g n p next (o ∷ os) same a h =
    let below : o.place < next = (let rest = ascends_bound (o.place + 1) next os a.1 in omega arith) in
    (subst (λ m. n ≤ m) (sym (same o.place below)) h.0, stood_changed f g (n + 1) (o.place + 1) next os same a.1 h.1)

-- ---- parts of the effects

-- what holds of one channel
abbrev StoodIn : ℕ → State → Type 0
StoodIn d s = StoodAll (s.stood d) 0 (s.channels d).queue

first_stood : (rs : List Receiver) (how : ℕ → Resolution) (s : State) (d : ℕ) → StoodIn d s → StoodIn d (resolve_first rs how s)
first_stood [] how s d h = h
first_stood (r ∷ rs) how s d h = stood_filter (s.stood d) _ 0 (s.channels d).queue h

holder_stood : (p : Option Party) (how : ℕ → Resolution) (s : State) (d : ℕ) → StoodIn d s → StoodIn d (resolve_holder p how s)
holder_stood None how s d h = h
holder_stood (Some p) how s d h = stood_filter (s.stood d) _ 0 (s.channels d).queue h

put_stands : (c : ℕ) (ch : Channel) (s : State) (d : ℕ) → (StoodIn c s → StoodAll (s.stood c) 0 ch.queue) → StoodIn d s
    → StoodIn d (record s { channels = put_channel c ch s.channels })
put_stands c ch s d k h = by_test (c == d) refl
  where
    by_test : (b : Bool) → (c == d) ≡ b → StoodAll (s.stood d) 0 (if b then ch else s.channels d).queue
    by_test true e = let is = eqb-true c d e in subst (λ n. StoodAll (s.stood n) 0 ch.queue) is (k (subst (λ n. StoodIn n s) (sym is) h))
    by_test false e = h

popped : (c : ℕ) (o : Standing) (os : List Standing) (s : State) (d : ℕ) → (s.channels c).queue ≡ o ∷ os → StoodIn d s
    → StoodIn d (with_queue c os s)
popped c o os s d e h = put_stands c (record (s.channels c) { queue = os }) s d
    (λ k. stood_rest (s.stood c) 0 o os (subst (StoodAll (s.stood c) 0) e k)) h

offer_stood : (c : ℕ) (q : List Standing) (how : ℕ → Resolution) (s : State) (d : ℕ) → (s.channels c).queue ≡ q → StoodIn d s
    → StoodIn d (resolve_offer c q how s)
offer_stood c [] how s d e h = h
offer_stood c (o ∷ os) how s d e h = holder_stood o.holder how (with_queue c os s) d (popped c o os s d e h)

removed_stood : (c : ℕ) (q : List Standing) (s : State) (d : ℕ) → (s.channels c).queue ≡ q → StoodIn d s → StoodIn d (remove_first c q s)
removed_stood c [] s d e h = h
removed_stood c (o ∷ os) s d e h = popped c o os s d e h

receiver_stood : (b : Bool) (r : Receiver) (ch : Channel) (f : ℕ → ℕ) → StoodAll f 0 ch.queue → StoodAll f 0 (place_receiver b r ch).queue
receiver_stood true r ch f h = h
receiver_stood false r ch f h = h

-- ---- an offer is placed

other_place : (p q n m : ℕ) → q < p → (if p == q then n else m) ≡ m
other_place p q n m lt = ap (λ b. if b then n else m) (ne_eqb p q (λ e. omega (arith, e, lt)))

own_place : (p n m : ℕ) → (if p == p then n else m) ≡ n
own_place p n m = ap (λ b. if b then n else m) (same_number p)

placed_here : (places p : ℕ) (b : Bool) (o : Standing) (f : ℕ → ℕ) (ch : Channel) → HasPlace places p ch → o.place ≡ p → StandsInOrder ch
    → StoodAll f 0 ch.queue
    → StoodAll (λ q. if p == q then length ch.queue else f q) 0 (place_offer b o ch).queue
placed_here places p b o f ch h is order stood = by_test b
  where
    old : StoodAll (λ q. if p == q then length ch.queue else f q) 0 ch.queue
    old = stood_changed f (λ q. if p == q then length ch.queue else f q) 0 0 ch.next ch.queue
        (λ q lt. other_place p q (length ch.queue) (f q) (omega (arith, h.first, lt))) order.offers stood

    by_test : (t : Bool) → StoodAll (λ q. if p == q then length ch.queue else f q) 0 (place_offer t o ch).queue
    by_test true = stood_push (λ q. if p == q then length ch.queue else f q) 0 ch.queue o
        (subst (λ q. 0 + length ch.queue ≤ (if p == q then length ch.queue else f q)) (sym is)
        (omega (arith, own_place p (length ch.queue) (f p)))) old
    by_test false = old

placed : (places p c d : ℕ) (b : Bool) (o : Standing) (s : State) → HasPlace places p (s.channels c) → o.place ≡ p
    → StandsInOrder (s.channels d) → StoodIn d s
    → StoodAll (put_stood c p (length (s.channels c).queue) s.stood d) 0 (put_channel c (place_offer b o (s.channels c)) s.channels d).queue
placed places p c d b o s h is order stood = by_test (c == d) refl
  where
    by_test : (t : Bool) → (c == d) ≡ t → StoodAll (λ q. if t
        && (p == q) then length (s.channels c).queue else s.stood d q) 0 (if t then place_offer b o (s.channels c) else s.channels d).queue
    by_test true e =
        let same = eqb-true c d e in
        subst (λ n. StoodAll (λ q. if p == q then length (s.channels c).queue else s.stood n q) 0 (place_offer b o (s.channels c)).queue)
        same
        (placed_here places p b o (s.stood c) (s.channels c) h is (subst (λ n. StandsInOrder (s.channels n)) (sym same) order)
        (subst (λ n. StoodIn n s) (sym same) stood))
    by_test false e = stood

-- ---- every act

stood_step : (shape : Shape) (s : State) (who : ℕ) (act : Act) (d : ℕ) → Needs shape s who act → StandsInOrder (s.channels d) → StoodIn d s
    → StoodIn d (after s who act)
stood_step shape s who (Hand c p v) d n order h = first_stood (s.channels c).receivers _ s d h
stood_step shape s who (Put c p v) d n order h = placed (places_at shape c) p c d true (record { place = p; value = v; holder = None }) s
    n.1 refl order h
stood_step shape s who (Offer c p v w k) d n order h = placed (places_at shape c) p c d (is_open (s.waits w))
    (record { place = p; value = v; holder = Some (record { wait = w; clause = k }) }) s n.1 refl order h
stood_step shape s who (Await c p w k) d n order h =
    let r : Receiver = record { place = p; party = record { wait = w; clause = k } } in
    put_stands c (place_receiver (is_open (s.waits w)) r (s.channels c)) s d
    (λ x. receiver_stood (is_open (s.waits w)) r (s.channels c) (s.stood c) x) h
stood_step shape s who (Take c p v) d n order h = offer_stood c (s.channels c).queue _ s d refl h
stood_step shape s who (Admit c p) d n order h =
    holder_stood (holder_at p (s.channels c).queue) _ (with_queue c (admitted p (s.channels c).queue) s) d
    (put_stands c (record (s.channels c) { queue = admitted p (s.channels c).queue }) s d
    (λ x. stood_admitted (s.stood c) p 0 (s.channels c).queue x) h)
stood_step shape s who (Drop c p v) d n order h = removed_stood c (s.channels c).queue s d refl h
stood_step shape s who (Spurn c p v) d n order h = put_stands c (record (s.channels c) { queue = spurned p (s.channels c).queue }) s d
    (λ x. stood_filter (s.stood c) _ 0 (s.channels c).queue x) h
stood_step shape s who (Close c v) d n order h = put_stands c (record (s.channels c) { closed = Some v }) s d (λ x. x) h
stood_step shape s who (Void c) d n order h = put_stands c (record (s.channels c) { voided = true }) s d (λ x. x) h
stood_step shape s who (Drain c p v) d n order h = offer_stood c (s.channels c).queue _ s d refl h
stood_step shape s who (WakeClosed c p) d n order h = first_stood (s.channels c).receivers _ s d h
stood_step shape s who (Withdraw w why) d n order h = stood_filter (s.stood d) _ 0 (s.channels d).queue h
stood_step shape s who (Settle w outcome) d n order h = h

pub replay_stood : (shape : Shape) (history : List Entry) (c : ℕ) → Legal shape history
    → StoodAll ((replay history).stood c) 0 ((replay history).channels c).queue
unfolding StoodAll
replay_stood shape history c l =
    (lasts_from shape (λ s. StandsInOrder (s.channels c) × StoodIn c s)
    (record {
      step = λ s who act h n p. (
        after_keeps shape (λ d ch. StandsInOrder ch) (order_keeps shape) s who act c n p.0,
        stood_step shape s who act c n p.0 p.1,
      );
    })
    start history l (sound_start shape) (record { offers = omega arith; receivers = omega arith; one_side = inl refl }, tt)).1

-- ---- an offer before which too many stand was one too many when it was placed

pub spurns_more : (kind : Kind) (m n : ℕ) → m ≤ n → spurns kind m ≡ true → spurns kind n ≡ true
spurns_more (DropLatest k) m n h e = grind (arith, nat_tests)
spurns_more other m n h e = cc

over_at : (kind : Kind) (f : ℕ → ℕ) (p n : ℕ) (os : List Standing) → StoodAll f n os → owes_spurn_at kind p n os ≡ true
    → spurns kind (f p) ≡ true
unfolding StoodAll
over_at kind f p n [] h e = cc
over_at kind f p n (o ∷ os) h e = by_test (o.place == p) (spurns kind n) refl refl e (λ k. over_at kind f p (n + 1) os h.1 k)
  where
    by_test : (a b : Bool) → (o.place == p) ≡ a → spurns kind n ≡ b → ((a && b) || owes_spurn_at kind p (n + 1) os) ≡ true
        → (owes_spurn_at kind p (n + 1) os ≡ true → spurns kind (f p) ≡ true) → spurns kind (f p) ≡ true
    by_test true true q t e rest = subst (λ m. spurns kind (f m) ≡ true) (eqb-true o.place p q) (spurns_more kind n (f o.place) h.0 t)
    by_test true false q t e rest = rest e
    by_test false b q t e rest = rest e

pub replay_over : (shape : Shape) (history : List Entry) (c p : ℕ) → Legal shape history
    → owes_spurn_at (kind_at shape c) p 0 ((replay history).channels c).queue ≡ true
    → spurns (kind_at shape c) ((replay history).stood c p) ≡ true
replay_over shape history c p l e = over_at (kind_at shape c) ((replay history).stood c) p 0 ((replay history).channels c).queue
    (replay_stood shape history c l) e

-- ---- a number stays once its place was given out

pub other_stays : (places c q m p d : ℕ) (s : State) → HasPlace places q (s.channels c) → p < (s.channels d).next
    → put_stood c q m s.stood d p ≡ s.stood d p
other_stays places c q m p d s h lt = by_test (c == d) refl
  where
    by_test : (t : Bool) → (c == d) ≡ t → (if t && (q == p) then m else s.stood d p) ≡ s.stood d p
    by_test true e = other_place q p m (s.stood d p) (subst (λ n. p < n) (ap (λ n. (s.channels n).next) (sym (eqb-true c d e))
        ∙ sym h.first) lt)
    by_test false e = refl

pub first_stays : (rs : List Receiver) (how : ℕ → Resolution) (s : State) (d p : ℕ) → (resolve_first rs how s).stood d p ≡ s.stood d p
first_stays [] how s d p = refl
first_stays (r ∷ rs) how s d p = refl

pub holder_stays : (x : Option Party) (how : ℕ → Resolution) (s : State) (d p : ℕ) → (resolve_holder x how s).stood d p ≡ s.stood d p
holder_stays None how s d p = refl
holder_stays (Some x) how s d p = refl

pub offer_stays : (c : ℕ) (q : List Standing) (how : ℕ → Resolution) (s : State) (d p : ℕ)
    → (resolve_offer c q how s).stood d p ≡ s.stood d p
offer_stays c [] how s d p = refl
offer_stays c (o ∷ os) how s d p = holder_stays o.holder how (with_queue c os s) d p

pub removed_stays : (c : ℕ) (q : List Standing) (s : State) (d p : ℕ) → (remove_first c q s).stood d p ≡ s.stood d p
removed_stays c [] s d p = refl
removed_stays c (o ∷ os) s d p = refl

stays_step : (shape : Shape) (s : State) (who : ℕ) (act : Act) (d p : ℕ) → Needs shape s who act → p < (s.channels d).next
    → (after s who act).stood d p ≡ s.stood d p
stays_step shape s who (Hand c q v) d p n lt = first_stays (s.channels c).receivers _ s d p
stays_step shape s who (Put c q v) d p n lt = other_stays (places_at shape c) c q (length (s.channels c).queue) p d s n.1 lt
stays_step shape s who (Offer c q v w k) d p n lt = other_stays (places_at shape c) c q (length (s.channels c).queue) p d s n.1 lt
stays_step shape s who (Take c q v) d p n lt = offer_stays c (s.channels c).queue _ s d p
stays_step shape s who (Admit c q) d p n lt = holder_stays (holder_at q (s.channels c).queue) _
    (with_queue c (admitted q (s.channels c).queue) s) d p
stays_step shape s who (Drop c q v) d p n lt = removed_stays c (s.channels c).queue s d p
stays_step shape s who (Drain c q v) d p n lt = offer_stays c (s.channels c).queue _ s d p
stays_step shape s who (WakeClosed c q) d p n lt = first_stays (s.channels c).receivers _ s d p
stays_step shape s who other d p n lt = refl

-- the place was given out, and so many stood
record StoodSo (c p n : ℕ) (s : State) : Type 0 where
  given : p < (s.channels c).next
  so : s.stood c p ≡ n

so_lasts : (shape : Shape) (c p n : ℕ) → Lasts shape (StoodSo c p n)
so_lasts shape c p n = record {
  step = λ s who act h needs k. record {
    given = after_keeps shape (λ d ch. suc p ≤ ch.next) (given_keeps shape (suc p)) s who act c needs k.given;
    so = stays_step shape s who act c p needs k.given ∙ k.so;
  };
}

pub stood_later : (shape : Shape) (xs ys : List Entry) (c p : ℕ) → Legal shape (xs ++ ys) → p < ((replay xs).channels c).next
    → (replay (xs ++ ys)).stood c p ≡ (replay xs).stood c p
stood_later shape xs ys c p l lt =
    (lasts shape (StoodSo c p ((replay xs).stood c p)) (so_lasts shape c p ((replay xs).stood c p)) xs (xs
    ++ ys) (ys, refl) l (record { given = lt; so = refl })).so
