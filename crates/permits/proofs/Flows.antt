-- What each act of those who use permits does to the permits that are free or on their way.
use Rattle.std.specs.Prelude.{◌≡◌, ℕ, ◌+◌, ◌<◌, ◌≤◌, ◌==◌, Bool, true, false, not, ◌&&◌, ◌||◌, cond, List, [], ◌∷◌, ◌++◌, filter, length, Option, Some, None, is_none, refl, if◌then◌else◌, MatchBool}
use Rattle.std.specs.List.{list_all, list_any}
use Rattle.std.proofs.Common.{sym, ap, ◌∙◌, subst, arith, ⊎_elim}
use Rattle.std.proofs.lemmas.Bool.{eqb-true, cases_lt, true≢false, not-true}
use Rattle.std.proofs.lemmas.Bool.Decides.{nat_tests}
use Rattle.co_base.specs.declared.names.WaitId.{WaitId}
use Rattle.channel_model.specs.declared.acts.Act.{Act}
use Rattle.channel_model.specs.declared.acts.Act.TheVariants.{Hand, Put, Offer, Await, Take, Admit, Drop, Spurn, Close, Void, Drain, WakeClosed, Withdraw, Settle}
use Rattle.channel_model.specs.declared.acts.Entry.{Entry}
use Rattle.channel_model.specs.declared.acts.Kind.TheVariants.{Unlimited}
use Rattle.channel_model.specs.declared.acts.Settled.{Settled}
use Rattle.channel_model.specs.declared.acts.Settled.TheVariants as settled
use Rattle.channel_model.specs.declared.standing.Party.{Party}
use Rattle.channel_model.specs.declared.standing.Standing.{Standing}
use Rattle.channel_model.specs.declared.standing.Receiver.{Receiver}
use Rattle.channel_model.specs.declared.standing.Resolution.{Resolution}
use Rattle.channel_model.specs.declared.standing.Resolution.TheVariants as resolved
use Rattle.channel_model.specs.Channels.{Shape, State, Channel, Wait, start, kind_at, places_at, suspends, same_wait}
use Rattle.channel_model.specs.Effects.{after, resolve, resolve_first, resolve_holder, resolve_offer, remove_first, with_queue, put_channel, put_wait, resolved_wait, name_clause, settled_wait, admitted, holder_at, is_open, is_held_by, place_offer, place_receiver, spurned}
use Rattle.channel_model.specs.Needs.{Needs, HasPlace, MayName, JoinsWait, MaySettle, IsOpenOf, IsFirstReceiver, IsFirstOffer, began_by_select}
use Rattle.channel_model.specs.Outcomes.{IsOutcome, value_given, sent_at}
use Rattle.channel_model.specs.Histories.{replay_from, LegalFrom, acts_in}
use Rattle.channel_model.specs.Laws.{how_many, IsStandingAt, HolderStands, OffersStand, ReceiversStand}
use Rattle.channel_model.proofs.Waits.{same_wait-eq, one_change}
use Rattle.channel_model.proofs.Placed.{Placed, same_number}
use Rattle.channel_model.proofs.Elements.{all_filter, all_first, all_rest, all_push}
use Rattle.channel_model.proofs.Sound.{Sound, sound_step, EndsResolved}
use Rattle.permits.specs.Parts.{gets_permit, gives_permit, is_permit_act, brings_element}
use Rattle.permits.specs.Sums.{sum_of, count_of}
use Rattle.permits.specs.Laws.{was_handed, is_under_way, under_way}
use Rattle.permits.proofs.Sums.{sum_same, sum_change, sum_next}
use Rattle.channel_model.proofs.Resolutions.{holder_at_stands}

abbrev wait_of : ℕ → ℕ → WaitId
wait_of c p = record { channel = c; place = p }

-- a wait of the channel has one plain clause, on that channel
abbrev pub IsPlainWait : ℕ → Option Wait → Type 0
IsPlainWait c None = Unit {0}
IsPlainWait c (Some x) = x.clauses ≡ (0, c) ∷ []

-- all receivers at the channel wait by waits of the channel
abbrev is_own_receiver : ℕ → Receiver → Bool
is_own_receiver c r = r.party.wait.channel == c

pub record Plain (c : ℕ) (s : State) : Type 0 where
  pub waits : (p : ℕ) → IsPlainWait c (s.waits (wait_of c p))
  pub receivers : list_all (is_own_receiver c) (s.channels c).receivers ≡ true

pub plain_start : (c : ℕ) → Plain c start
plain_start c = record { waits = λ p. tt; receivers = refl }

-- free permits and those on their way
abbrev weigh : ℕ → Channel → (WaitId → Option Wait) → ℕ
weigh c ch waits = length ch.queue + count_of ch.next (λ p. is_under_way (waits (wait_of c p)))

abbrev pub weight : ℕ → State → ℕ
weight c s = length (s.channels c).queue + under_way c s

-- ---- channels

put_other : (d c : ℕ) (ch : Channel) (channels : ℕ → Channel) → (d == c) ≡ false → put_channel d ch channels c ≡ channels c
put_other d c ch channels e = ap (λ b. if b then ch else channels c) e

put_same : (d c : ℕ) (ch : Channel) (channels : ℕ → Channel) → (d == c) ≡ true → put_channel d ch channels c ≡ ch
put_same d c ch channels e = ap (λ b. if b then ch else channels c) e

-- ---- waits

abbrev one : Bool → ℕ
one b = cond b 1 0

-- another channel's wait changes
wait_other : (c : ℕ) (w : WaitId) (x : Option Wait) (waits : WaitId → Option Wait) (p : ℕ) → (w.channel == c) ≡ false
    → put_wait w x waits (wait_of c p) ≡ waits (wait_of c p)
wait_other c w x waits p e = ap (λ b. if b && (w.place == p) then x else waits (wait_of c p)) e

count_other : (c m : ℕ) (w : WaitId) (x : Option Wait) (waits : WaitId → Option Wait) → (w.channel == c) ≡ false
    → count_of m (λ p. is_under_way (put_wait w x waits (wait_of c p))) ≡ count_of m (λ p. is_under_way (waits (wait_of c p)))
count_other c m w x waits e = sum_same m _ _ (λ p. ap (λ y. one (is_under_way y)) (wait_other c w x waits p e))

-- a wait of the channel changes
wait_here : (c : ℕ) (w : WaitId) → (w.channel == c) ≡ true → w ≡ wait_of c w.place
wait_here c w e = ap (λ n. let v : WaitId = record { channel = n; place = w.place } in v) (eqb-true w.channel c e)

count_here : (c m : ℕ) (w : WaitId) (x : Option Wait) (waits : WaitId → Option Wait) → (w.channel == c) ≡ true → w.place < m
    → count_of m (λ p. is_under_way (put_wait w x waits (wait_of c p))) + one (is_under_way (waits w)) ≡
    count_of m (λ p. is_under_way (waits (wait_of c p))) + one (is_under_way x)
count_here c m w x waits e lt =
    let k = sum_change m w.place (λ p. one (is_under_way (waits (wait_of c p))))
    (λ p. one (is_under_way (put_wait w x waits (wait_of c p)))) lt (λ p t. ap (λ y. one (is_under_way y)) (elsewhere p t)) in
    let a : one (is_under_way (waits w)) ≡ one (is_under_way (waits (wait_of c w.place))) =
    ap (λ v. one (is_under_way (waits v))) (wait_here c w e) in
    let b : one (is_under_way (put_wait w x waits (wait_of c w.place))) ≡ one (is_under_way x) = ap (λ y. one (is_under_way y)) at_w in
    omega arith
  where
    elsewhere : (p : ℕ) → (w.place == p) ≡ false → put_wait w x waits (wait_of c p) ≡ waits (wait_of c p)
    elsewhere p t = ap (λ b. if b && (w.place == p) then x else waits (wait_of c p)) e ∙ ap (λ b. if b then x else waits (wait_of c p)) t

    at_w : put_wait w x waits (wait_of c w.place) ≡ x
    at_w = ap (λ b. if b && (w.place == w.place) then x else waits (wait_of c w.place)) e
        ∙ ap (λ b. if b then x else waits (wait_of c w.place)) (same_number w.place)

-- a wait that began has a place that was given out
began_below : (s : State) (w : WaitId) (x : Wait) → Placed s → s.waits w ≡ Some x → w.place < (s.channels w.channel).next
began_below s w x h e = ⊎_elim (λ lt. lt) (λ le. let n : s.waits w ≡ None = h w le in cc) (cases_lt w.place (s.channels w.channel).next)

-- whoever stands at another channel does so by a wait of another
standing_apart : (c d : ℕ) (s : State) (w : WaitId) → Plain c s → (d == c) ≡ false → IsStandingAt d (s.waits w) → (w.channel == c) ≡ false
standing_apart c d s w h ne k = by_test (w.channel == c) refl
  where
    not_there : (x : Option Wait) → IsPlainWait c x → IsStandingAt d x → ⊥
    not_there None p q = q
    not_there (Some x) p q =
        let n : ((c == d) || false) ≡ true = ap (list_any (λ (y : ℕ × ℕ). y.1 == d)) (sym p) ∙ q.1 in
        let m : (c == d) ≡ false = grind (arith, nat_tests) in
        true≢false (sym n ∙ ap (λ b. b || false) m)

    by_test : (b : Bool) → (w.channel == c) ≡ b → b ≡ false
    by_test true e = absurd (not_there (s.waits (wait_of c w.place)) (h.waits w.place)
        (subst (λ v. IsStandingAt d (s.waits v)) (wait_here c w e) k))
    by_test false e = refl

-- ---- parts of the effects: what they leave, and what they weigh

record Flows (c gets gives : ℕ) (s t : State) : Type 0 where
  plain : Plain c t
  weighs : weight c t + gets ≡ weight c s + gives

-- none waits with an element
abbrev AllKept : ℕ → State → Type 0
AllKept c s = list_all (λ (o : Standing). is_none o.holder) (s.channels c).queue ≡ true

kept_filter : (w : WaitId) (os : List Standing) → list_all (λ (o : Standing). is_none o.holder) os ≡ true
    → filter (λ (o : Standing). not (is_held_by w o.holder)) os ≡ os
kept_filter w [] h = refl
kept_filter w (o ∷ os) h = by_holder o.holder (all_first (λ (x : Standing). is_none x.holder) o os h)
    (kept_filter w os (all_rest (λ (x : Standing). is_none x.holder) o os h))
  where
    by_holder : (p : Option Party) → is_none p ≡ true → filter (λ (x : Standing). not (is_held_by w x.holder)) os ≡ os
        → cond (not (is_held_by w p)) (o ∷ filter (λ (x : Standing). not (is_held_by w x.holder)) os)
        (filter (λ (x : Standing). not (is_held_by w x.holder)) os) ≡ o ∷ os
    by_holder None e k = ap (λ l. o ∷ l) k
    by_holder (Some p) e k = cc

resolved_plain : (c : ℕ) (how : Resolution) (x : Option Wait) → IsPlainWait c x → IsPlainWait c (resolved_wait how x)
resolved_plain c how None h = h
resolved_plain c how (Some x) h = h

resolve_plain : (c : ℕ) (w : WaitId) (how : Resolution) (s : State) → Plain c s → Plain c (resolve w how s)
resolve_plain c w how s h = record {
  waits = λ p. one_change (IsPlainWait c) s.waits w (wait_of c p) (resolved_wait how) (resolved_plain c how (s.waits (wait_of c p)))
      (h.waits p);
  receivers = all_filter (is_own_receiver c) (λ (r : Receiver). not (same_wait w r.party.wait)) (s.channels c).receivers h.receivers;
}

-- a wait of another channel is resolved
resolve_other : (c : ℕ) (w : WaitId) (how : Resolution) (s : State) → Plain c s → AllKept c s → (w.channel == c) ≡ false
    → Flows c 0 0 s (resolve w how s)
resolve_other c w how s h k e =
    let a = ap length (kept_filter w (s.channels c).queue k) in
    let b = count_other c (s.channels c).next w (resolved_wait how (s.waits w)) s.waits e in
    record { plain = resolve_plain c w how s h; weighs = omega arith }

-- a wait of this channel is resolved, and was open
resolve_here : (c : ℕ) (w : WaitId) (how : Resolution) (s : State) (x : Wait) → Plain c s → AllKept c s → Placed s → (w.channel == c) ≡ true
    → s.waits w ≡ Some x → x.resolved ≡ None → x.settled ≡ None
    → Flows c 0 (one (was_handed (Some how))) s (resolve w how s)
resolve_here c w how s x h k l e is not_resolved unsettled =
    let a = ap length (kept_filter w (s.channels c).queue k) in
    let lt : w.place < (s.channels c).next = subst (λ n. w.place < (s.channels n).next) (eqb-true w.channel c e) (began_below s w x l is) in
    let b = count_here c (s.channels c).next w (resolved_wait how (s.waits w)) s.waits e lt in
    let f : is_under_way (s.waits w) ≡ false = ap is_under_way is ∙ ap (λ r. was_handed r && is_none x.settled) not_resolved in
    let g : is_under_way (resolved_wait how (s.waits w)) ≡ was_handed (Some how) = ap (λ y. is_under_way (resolved_wait how y)) is
    ∙ ap (λ r. was_handed (Some how) && is_none r) unsettled ∙ and_true (was_handed (Some how)) in
    let i : one (is_under_way (s.waits w)) ≡ 0 = ap one f in
    let j : one (is_under_way (resolved_wait how (s.waits w))) ≡ one (was_handed (Some how)) = ap one g in
    record { plain = resolve_plain c w how s h; weighs = omega arith }
  where
    and_true : (b : Bool) → (b && true) ≡ b
    and_true true = refl
    and_true false = refl

-- another channel changes
put_flows : (c d : ℕ) (ch : Channel) (s : State) → Plain c s → (d == c) ≡ false
    → Flows c 0 0 s (record s { channels = put_channel d ch s.channels })
put_flows c d ch s h e =
    let is = put_other d c ch s.channels e in
    record {
      plain = record { waits = h.waits; receivers = ap (λ (x : Channel). list_all (is_own_receiver c) x.receivers) is ∙ h.receivers };
      weighs = (let a : weigh c (put_channel d ch s.channels c) s.waits ≡ weigh c (s.channels c) s.waits =
          ap (λ (x : Channel). weigh c x s.waits) is in omega arith);
    }

-- how many stood at the placings is nothing to it
stood_flows : (c gets gives : ℕ) (s : State) (channels : ℕ → Channel) (waits : WaitId → Option Wait) (stood stood' : ℕ → ℕ → ℕ)
    → Flows c gets gives s (record { channels = channels; waits = waits; stood = stood })
    → Flows c gets gives s (record { channels = channels; waits = waits; stood = stood' })
stood_flows c gets gives s channels waits stood stood' f =
    record { plain = record { waits = f.plain.waits; receivers = f.plain.receivers }; weighs = f.weighs }

-- the same with the channel that is put
kept_same : (c d : ℕ) (ch : Channel) (s : State) → (d == c) ≡ false → AllKept c s
    → AllKept c (record s { channels = put_channel d ch s.channels })
kept_same c d ch s e k = ap (λ (x : Channel). list_all (λ (o : Standing). is_none o.holder) x.queue) (put_other d c ch s.channels e) ∙ k

goes_on : (c : ℕ) (s t u : State) → Flows c 0 0 s t → Flows c 0 0 t u → Flows c 0 0 s u
goes_on c s t u f g = record { plain = g.plain; weighs = (let a = f.weighs in let b = g.weighs in omega arith) }

-- the first receiver at another channel
first_other : (c d : ℕ) (rs : List Receiver) (how : ℕ → Resolution) (s : State) → Plain c s → AllKept c s → (d == c) ≡ false
    → ReceiversStand s.waits d rs → Flows c 0 0 s (resolve_first rs how s)
unfolding ReceiversStand
first_other c d [] how s h k e st = record { plain = h; weighs = omega arith }
first_other c d (r ∷ rs) how s h k e st = resolve_other c r.party.wait (how r.party.clause) s h k
    (standing_apart c d s r.party.wait h e st.0)

-- at this one
first_here : (c p : ℕ) (rs : List Receiver) (how : ℕ → Resolution) (s : State) → (s.channels c).receivers ≡ rs → Plain c s → AllKept c s
    → Placed s → ((w : WaitId) → EndsResolved (s.waits w)) → ReceiversStand s.waits c rs → IsFirstReceiver p rs
    → ((k : ℕ) → was_handed (Some (how k)) ≡ true)
    → Flows c 0 1 s (resolve_first rs how s)
unfolding ReceiversStand
first_here c p [] how s is h k l ends st first handed = absurd first
first_here c p (r ∷ rs) how s is h k l ends st first handed = by_wait (s.waits r.party.wait) refl st.0 (ends r.party.wait)
  where
    own : (r.party.wait.channel == c) ≡ true
    own = all_first (is_own_receiver c) r rs (ap (list_all (is_own_receiver c)) (sym is) ∙ h.receivers)

    by_wait : (x : Option Wait) → s.waits r.party.wait ≡ x → IsStandingAt c x → EndsResolved x
        → Flows c 0 1 s (resolve r.party.wait (how r.party.clause) s)
    by_wait None e q z = absurd q
    by_wait (Some x) e q z =
        let f = resolve_here c r.party.wait (how r.party.clause) s x h k l own e q.0 (z q.0) in
        let g : one (was_handed (Some (how r.party.clause))) ≡ 1 = ap one (handed r.party.clause) in
        record { plain = f.plain; weighs = (let a = f.weighs in omega arith) }

-- the holder of an offer at another channel
holder_other : (c d : ℕ) (p : Option Party) (how : ℕ → Resolution) (s : State) → Plain c s → AllKept c s → (d == c) ≡ false
    → HolderStands s.waits d p → Flows c 0 0 s (resolve_holder p how s)
holder_other c d None how s h k e st = record { plain = h; weighs = omega arith }
holder_other c d (Some p) how s h k e st = resolve_other c p.wait (how p.clause) s h k (standing_apart c d s p.wait h e st)

offer_other : (c d : ℕ) (q : List Standing) (how : ℕ → Resolution) (s : State) → Plain c s → AllKept c s → (d == c) ≡ false
    → OffersStand s.waits d q → Flows c 0 0 s (resolve_offer d q how s)
unfolding OffersStand
offer_other c d [] how s h k e st = record { plain = h; weighs = omega arith }
offer_other c d (o ∷ os) how s h k e st =
    let f = put_flows c d (record (s.channels d) { queue = os }) s h e in
    goes_on c s (with_queue d os s) _ f (holder_other c d o.holder how (with_queue d os s) f.plain
    (kept_same c d (record (s.channels d) { queue = os }) s e k) e st.0)

-- the first element here is taken
take_here : (c : ℕ) (q : List Standing) (how : ℕ → Resolution) (s : State) (p v : ℕ) → (s.channels c).queue ≡ q → Plain c s → AllKept c s
    → IsFirstOffer p v q → Flows c 1 0 s (resolve_offer c q how s)
take_here c [] how s p v is h k first = absurd first
take_here c (o ∷ os) how s p v is h k first = by_holder o.holder
    (all_first (λ (x : Standing). is_none x.holder) o os (ap (list_all (λ (x : Standing). is_none x.holder)) (sym is) ∙ k))
  where
    at : put_channel c (record (s.channels c) { queue = os }) s.channels c ≡ record (s.channels c) { queue = os }
    at = put_same c c (record (s.channels c) { queue = os }) s.channels (same_number c)

    by_holder : (x : Option Party) → is_none x ≡ true → Flows c 1 0 s (resolve_holder x how (with_queue c os s))
    by_holder (Some x) e = cc
    by_holder None e = record {
      plain = record { waits = h.waits; receivers = ap (λ (x : Channel). list_all (is_own_receiver c) x.receivers) at ∙ h.receivers };
      weighs = (
          let a : weigh c (put_channel c (record (s.channels c) { queue = os }) s.channels c) s.waits ≡
          weigh c (record (s.channels c) { queue = os }) s.waits = ap (λ (x : Channel). weigh c x s.waits) at in
          let b : length (s.channels c).queue ≡ length (o ∷ os) = ap length is in
          omega arith
          );
    }

removed_other : (c d : ℕ) (q : List Standing) (s : State) → Plain c s → (d == c) ≡ false → Flows c 0 0 s (remove_first d q s)
removed_other c d [] s h e = record { plain = h; weighs = omega arith }
removed_other c d (o ∷ os) s h e = put_flows c d (record (s.channels d) { queue = os }) s h e

-- an element is put here
put_here : (c p v places : ℕ) (s : State) → Plain c s → Placed s → HasPlace places p (s.channels c)
    → Flows c 0 1 s (record s {
      channels = put_channel c (place_offer true (record { place = p; value = v; holder = None }) (s.channels c))
          s.channels;
    })
put_here c p v places s h l place =
    let ch : Channel = place_offer true (record { place = p; value = v; holder = None }) (s.channels c) in
    let at = put_same c c ch s.channels (same_number c) in
    record {
      plain = record { waits = h.waits; receivers = ap (λ (x : Channel). list_all (is_own_receiver c) x.receivers) at ∙ h.receivers };
      weighs = (
          let a : weigh c (put_channel c ch s.channels c) s.waits ≡ weigh c ch s.waits = ap (λ (x : Channel). weigh c x s.waits) at in
          let n : one (is_under_way (s.waits (wait_of c (s.channels c).next))) ≡ 0 =
          ap (λ y. one (is_under_way y)) (l (wait_of c (s.channels c).next) (omega arith)) in
          let b = one_more (s.channels c).next in
          let q = pushed (s.channels c).queue (record { place = p; value = v; holder = None }) in
          omega arith
          );
    }
  where
    one_more : (m : ℕ) → count_of (m + 1) (λ p. is_under_way (s.waits (wait_of c p))) ≡
        count_of m (λ p. is_under_way (s.waits (wait_of c p))) + one (is_under_way (s.waits (wait_of c m)))
    one_more m = sum_next m (λ p. one (is_under_way (s.waits (wait_of c p))))

    pushed : (os : List Standing) (o : Standing) → length (os ++ o ∷ []) ≡ length os + 1
    pushed [] o = refl
    pushed (x ∷ os) o = let k = pushed os o in omega arith

-- ---- a clause is named

-- nobody names a clause of another channel's select for a wait of this one
named_other : (who k c d p : ℕ) (w : WaitId) (s : State) → Plain c s → (d == c) ≡ false → MayName who k d p w s → (w.channel == c) ≡ false
named_other who k c d p w s h ne may = by_test (same_wait w (wait_of d p)) refl may
  where
    joins : (x : Option Wait) → IsPlainWait c x → JoinsWait who k d x → ⊥
    joins None q j = j
    joins (Some x) q j = let n : began_by_select ((0, c) ∷ []) ≡ true = ap began_by_select (sym q) ∙ j.select in cc

    not_here : (b : Bool) → (w.channel == c) ≡ b → JoinsWait who k d (s.waits w) → b ≡ false
    not_here true e j = absurd (joins (s.waits (wait_of c w.place)) (h.waits w.place)
        (subst (λ v. JoinsWait who k d (s.waits v)) (wait_here c w e) j))
    not_here false e j = refl

    by_test : (b : Bool) → same_wait w (wait_of d p) ≡ b → MatchBool b (k ≤ 7) (JoinsWait who k d (s.waits w)) → (w.channel == c) ≡ false
    by_test true e m = ap (λ (v : WaitId). v.channel == c) (same_wait-eq w (wait_of d p) e) ∙ ne
    by_test false e m = not_here (w.channel == c) refl m

name_other : (who k c d p : ℕ) (w : WaitId) (ch : Channel) (s : State) → Plain c s → (d == c) ≡ false → MayName who k d p w s
    → Flows c 0 0 s (record {
      channels = put_channel d ch s.channels;
      waits = put_wait w (name_clause who k d (s.waits w)) s.waits;
      stood =
          s.stood;
    })
name_other who k c d p w ch s h ne may =
    let e = named_other who k c d p w s h ne may in
    let is = put_other d c ch s.channels ne in
    record {
      plain = record {
        waits = λ q. subst (IsPlainWait c) (sym (wait_other c w (name_clause who k d (s.waits w)) s.waits q e)) (h.waits q);
        receivers = ap (λ (x : Channel). list_all (is_own_receiver c) x.receivers) is ∙ h.receivers;
      };
      weighs = (
          let waits' : WaitId → Option Wait = put_wait w (name_clause who k d (s.waits w)) s.waits in
          let a : weigh c (put_channel d ch s.channels c) waits' ≡ weigh c (s.channels c) waits' =
          ap (λ (x : Channel). weigh c x waits') is in
          let b = count_other c (s.channels c).next w (name_clause who k d (s.waits w)) s.waits e in
          omega arith
          );
    }

-- a plain receiver is placed here
await_here : (who c p places : ℕ) (w : WaitId) (s : State) → Plain c s → Placed s → HasPlace places p (s.channels c) → MayName who 0 c p w s
    → Flows c 0 0 s
    (record {
      channels = put_channel c (place_receiver (is_open (s.waits w))
          (record { place = p; party = record { wait = w; clause = 0 } }) (s.channels c)) s.channels;
      waits =
          put_wait w (name_clause who 0 c (s.waits w)) s.waits;
      stood = s.stood;
    })
await_here who c p places w s h l place may = by_test (same_wait w (wait_of c p)) refl may
  where
    joins : (x : Option Wait) → JoinsWait who 0 c x → ⊥
    joins None j = j
    joins (Some x) j = let n = j.low in omega arith

    pushed : (ch : Channel) (b : Bool) (r : Receiver) → is_own_receiver c r ≡ true → list_all (is_own_receiver c) ch.receivers ≡ true
        → list_all (is_own_receiver c) (place_receiver b r ch).receivers ≡ true
    pushed ch true r e k = all_push (is_own_receiver c) ch.receivers r k e
    pushed ch false r e k = k

    same_queue : (b : Bool) (r : Receiver) (ch : Channel) → length (place_receiver b r ch).queue ≡ length ch.queue
    same_queue true r ch = refl
    same_queue false r ch = refl

    next_is : (b : Bool) (r : Receiver) (ch : Channel) → (place_receiver b r ch).next ≡ ch.next + 1
    next_is true r ch = refl
    next_is false r ch = refl

    by_test : (b : Bool) → same_wait w (wait_of c p) ≡ b → MatchBool b (0 ≤ 7) (JoinsWait who 0 c (s.waits w))
        → Flows c 0 0 s
        (record {
          channels = put_channel c (place_receiver (is_open (s.waits w))
              (record { place = p; party = record { wait = w; clause = 0 } }) (s.channels c)) s.channels;
          waits =
              put_wait w (name_clause who 0 c (s.waits w)) s.waits;
          stood = s.stood;
        })
    by_test false e m = absurd (joins (s.waits w) m)
    by_test true e m =
        let is : w ≡ wait_of c p = same_wait-eq w (wait_of c p) e in
        let own : (w.channel == c) ≡ true = ap (λ (v : WaitId). v.channel == c) is ∙ same_number c in
        let at_p : w.place ≡ p = ap (λ (v : WaitId). v.place) is in
        let none : s.waits w ≡ None = ap s.waits is ∙ l (wait_of c p) (let f = place.first in omega arith) in
        let r : Receiver = record { place = p; party = record { wait = w; clause = 0 } } in
        let ch : Channel = place_receiver (is_open (s.waits w)) r (s.channels c) in
        let at = put_same c c ch s.channels (same_number c) in
        let begun : Option Wait = name_clause who 0 c (s.waits w) in
        let waits' : WaitId → Option Wait = put_wait w begun s.waits in
        let quiet : is_under_way begun ≡ false = ap (λ y. is_under_way (name_clause who 0 c y)) none in
        record {
          plain = record {
            waits = λ q. named q (same_wait w (wait_of c q)) refl none;
            receivers = ap (λ (x : Channel). list_all (is_own_receiver c) x.receivers) at
                ∙ pushed (s.channels c) (is_open (s.waits w)) r own h.receivers;
          };
          weighs = (
              let a : weigh c (put_channel c ch s.channels c) waits' ≡ weigh c ch waits' = ap (λ (x : Channel). weigh c x waits') at in
              let b : length ch.queue ≡ length (s.channels c).queue = same_queue (is_open (s.waits w)) r (s.channels c) in
              let f : count_of ch.next (λ q. is_under_way (waits' (wait_of c q))) ≡
              count_of ((s.channels c).next + 1) (λ q. is_under_way (waits' (wait_of c q))) =
              ap (λ m. count_of m (λ q. is_under_way (waits' (wait_of c q)))) (next_is (is_open (s.waits w)) r (s.channels c)) in
              let g = count_here c ((s.channels c).next + 1) w begun s.waits own (let k = place.first in omega arith) in
              let i = sum_next (s.channels c).next (λ q. one (is_under_way (s.waits (wait_of c q)))) in
              let z : one (is_under_way (s.waits w)) ≡ 0 = ap (λ y. one (is_under_way y)) none in
              let y : one (is_under_way begun) ≡ 0 = ap one quiet in
              let x : one (is_under_way (s.waits (wait_of c (s.channels c).next))) ≡ 0 =
              ap (λ y. one (is_under_way y)) (l (wait_of c (s.channels c).next) (omega arith)) in
              omega arith
              );
        }
      where
        named : (q : ℕ) (b : Bool) → same_wait w (wait_of c q) ≡ b → s.waits w ≡ None
            → IsPlainWait c (if b then name_clause who 0 c (s.waits w) else s.waits (wait_of c q))
        named q true t n = subst (λ y. IsPlainWait c (name_clause who 0 c y)) (sym n) refl
        named q false t n = h.waits q

-- ---- the end of a wait

settled_plain : (c : ℕ) (outcome : Settled) (x : Option Wait) → IsPlainWait c x → IsPlainWait c (settled_wait outcome x)
settled_plain c outcome None h = h
settled_plain c outcome (Some x) h = h

-- it had been handed an element exactly where it ends with one
ended_handed : (outcome : Settled) (how : Option Resolution) → IsOutcome outcome how → was_handed how ≡ brings_element outcome
ended_handed outcome None h = absurd h
ended_handed (settled.Value k v) (Some how) h = ap (λ x. was_handed (Some x)) h
ended_handed (settled.Sent k) (Some how) h = by_how how h
  where
    by_how : (how : Resolution) → sent_at how ≡ Some k → was_handed (Some how) ≡ false
    by_how (resolved.Handed j v) e = cc
    by_how (resolved.Taken j) e = refl
    by_how other e = refl
ended_handed (settled.Closed k v) (Some how) h = ap (λ x. was_handed (Some x)) h
ended_handed settled.Cancelled (Some how) h = by_how how h
  where
    by_how : (how : Resolution) → value_given how ≡ None → was_handed (Some how) ≡ false
    by_how (resolved.Handed j v) e = cc
    by_how (resolved.Taken j) e = refl
    by_how other e = refl
ended_handed (settled.Undelivered v) (Some how) h = by_how how h
  where
    by_how : (how : Resolution) → value_given how ≡ Some v → was_handed (Some how) ≡ true
    by_how (resolved.Handed j u) e = refl
    by_how (resolved.Taken j) e = cc
    by_how other e = cc

settle_flows : (c who : ℕ) (w : WaitId) (outcome : Settled) (s : State) → Plain c s → Placed s → MaySettle who outcome (s.waits w)
    → Flows c (one ((w.channel == c) && brings_element outcome)) 0 s
    (record s { waits = put_wait w (settled_wait outcome (s.waits w)) s.waits })
settle_flows c who w outcome s h l may = by_test (w.channel == c) refl
  where
    plain : Plain c (record s { waits = put_wait w (settled_wait outcome (s.waits w)) s.waits })
    plain = record {
      waits = λ p. one_change (IsPlainWait c) s.waits w (wait_of c p) (settled_wait outcome)
          (settled_plain c outcome (s.waits (wait_of c p))) (h.waits p);
      receivers = h.receivers;
    }

    by_wait : (x : Option Wait) → s.waits w ≡ x → MaySettle who outcome x → (w.channel == c) ≡ true
        → count_of (s.channels c).next (λ p. is_under_way (put_wait w (settled_wait outcome (s.waits w)) s.waits (wait_of c p))) + one
        (brings_element outcome) ≡ count_of (s.channels c).next (λ p. is_under_way (s.waits (wait_of c p)))
    by_wait None is m e = absurd m
    by_wait (Some x) is m e =
        let lt : w.place < (s.channels c).next = subst (λ n. w.place < (s.channels n).next) (eqb-true w.channel c e)
        (began_below s w x l is) in
        let k = count_here c (s.channels c).next w (settled_wait outcome (s.waits w)) s.waits e lt in
        let a : is_under_way (s.waits w) ≡ brings_element outcome = ap is_under_way is ∙ ap (λ r. was_handed x.resolved && is_none r) m.1
        ∙ and_true (was_handed x.resolved) ∙ ended_handed outcome x.resolved m.2 in
        let b : is_under_way (settled_wait outcome (s.waits w)) ≡ false = ap (λ y. is_under_way (settled_wait outcome y)) is
        ∙ and_false (was_handed x.resolved) in
        let f : one (is_under_way (s.waits w)) ≡ one (brings_element outcome) = ap one a in
        let g : one (is_under_way (settled_wait outcome (s.waits w))) ≡ 0 = ap one b in
        omega arith
      where
        and_true : (b : Bool) → (b && true) ≡ b
        and_true true = refl
        and_true false = refl

        and_false : (b : Bool) → (b && false) ≡ false
        and_false true = refl
        and_false false = refl

    by_test : (b : Bool) → (w.channel == c) ≡ b → Flows c (one (b && brings_element outcome)) 0 s
        (record s { waits = put_wait w (settled_wait outcome (s.waits w)) s.waits })
    by_test true e = record { plain = plain; weighs = (let k = by_wait (s.waits w) refl may e in omega arith) }
    by_test false e = record {
      plain = plain;
      weighs = (let k =
          count_other c (s.channels c).next w (settled_wait outcome (s.waits w)) s.waits e in omega arith);
    }

withdraw_flows : (c who : ℕ) (w : WaitId) (how : Resolution) (s : State) → was_handed (Some how) ≡ false → Plain c s → AllKept c s
    → Placed s → EndsResolved (s.waits w) → IsOpenOf who (s.waits w) → Flows c 0 0 s (resolve w how s)
withdraw_flows c who w how s not_handed h k l ends may = by_test (w.channel == c) refl
  where
    by_wait : (x : Option Wait) → s.waits w ≡ x → EndsResolved x → IsOpenOf who x → (w.channel == c) ≡ true
        → Flows c 0 0 s (resolve w how s)
    by_wait None is z m e = absurd m
    by_wait (Some x) is z m e =
        let f = resolve_here c w how s x h k l e is m.1 (z m.1) in
        let g : one (was_handed (Some how)) ≡ 0 = ap one not_handed in
        record { plain = f.plain; weighs = (let a = f.weighs in omega arith) }

    by_test : (b : Bool) → (w.channel == c) ≡ b → Flows c 0 0 s (resolve w how s)
    by_test true e = by_wait (s.waits w) refl ends may e
    by_test false e = resolve_other c w how s h k e

-- ---- the acts

abbrev Step : ℕ → State → ℕ → Act → Type 0
Step c s who act = Flows c (one (gets_permit c act)) (one (gives_permit c act)) s (after s who act)

step : (shape : Shape) (c : ℕ) (s : State) (who : ℕ) (act : Act) → kind_at shape c ≡ Unlimited → Sound shape s → Needs shape s who act
    → is_permit_act c act ≡ true → Plain c s → Step c s who act
step shape c s who act kind sound needs fits h = by_act act needs fits
  where
    kept : AllKept c s
    kept = (sound.channels c).kept (ap suspends kind)

    hand : (d p v : ℕ) (b : Bool) → (d == c) ≡ b → Needs shape s who (Hand d p v) → Flows c 0 (one b) s (after s who (Hand d p v))
    hand d p v true e n =
        let is : d ≡ c = eqb-true d c e in
        let f = first_here c p (s.channels c).receivers (λ k. resolved.Handed k v) s refl h kept sound.placed sound.ended
        (sound.stand c).receivers (subst (λ m. IsFirstReceiver p (s.channels m).receivers) is n.2) (λ k. refl) in
        subst (λ m. Flows c 0 1 s (resolve_first (s.channels m).receivers (λ k. resolved.Handed k v) s)) (sym is) f
    hand d p v false e n = first_other c d (s.channels d).receivers (λ k. resolved.Handed k v) s h kept e (sound.stand d).receivers

    put : (d p v : ℕ) (b : Bool) → (d == c) ≡ b → Needs shape s who (Put d p v) → Flows c 0 (one b) s (after s who (Put d p v))
    put d p v true e n =
        let is : d ≡ c = eqb-true d c e in
        let f = put_here c p v (places_at shape c) s h sound.placed (subst (λ m. HasPlace (places_at shape m) p (s.channels m)) is n.1) in
        subst (λ m. Flows c 0 1 s (after s who (Put m p v))) (sym is) (stood_flows c 0 1 s _ _ _ _ f)
    put d p v false e n = stood_flows c 0 0 s _ _ _ _ (put_flows c d _ s h e)

    take : (d p v : ℕ) (b : Bool) → (d == c) ≡ b → Needs shape s who (Take d p v) → Flows c (one b) 0 s (after s who (Take d p v))
    take d p v true e n =
        let is : d ≡ c = eqb-true d c e in
        let f = take_here c (s.channels c).queue resolved.Taken s p v refl h kept
        (subst (λ m. IsFirstOffer p v (s.channels m).queue) is n.1) in
        subst (λ m. Flows c 1 0 s (after s who (Take m p v))) (sym is) f
    take d p v false e n = offer_other c d (s.channels d).queue resolved.Taken s h kept e (sound.stand d).offers

    await : (d p k : ℕ) (w : WaitId) (b : Bool) → (d == c) ≡ b → (not b || (k == 0)) ≡ true → Needs shape s who (Await d p w k)
        → Flows c 0 0 s (after s who (Await d p w k))
    await d p k w true e z n =
        let is : d ≡ c = eqb-true d c e in
        let first : k ≡ 0 = eqb-true k 0 z in
        let m : Needs shape s who (Await c p w 0) = subst (λ x. Needs shape s who (Await x p w 0)) is
        (subst (λ j. Needs shape s who (Await d p w j)) first n) in
        let f : Flows c 0 0 s (after s who (Await c p w 0)) = await_here who c p (places_at shape c) w s h sound.placed m.1 m.3 in
        subst (λ j. Flows c 0 0 s (after s who (Await d p w j))) (sym first)
        (subst (λ x. Flows c 0 0 s (after s who (Await x p w 0))) (sym is) f)
    await d p k w false e z n = name_other who k c d p w _ s h e n.3

    by_act : (act : Act) → Needs shape s who act → is_permit_act c act ≡ true → Step c s who act
    by_act (Hand d p v) n f = hand d p v (d == c) refl n
    by_act (Put d p v) n f = put d p v (d == c) refl n
    by_act (Offer d p v w k) n f = stood_flows c 0 0 s _ _ _ _ (name_other who k c d p w _ s h (not-true (d == c) f) n.4)
    by_act (Await d p w k) n f = await d p k w (d == c) refl f n
    by_act (Take d p v) n f = take d p v (d == c) refl n
    by_act (Admit d p) n f =
        let e = not-true (d == c) f in
        let q = put_flows c d (record (s.channels d) { queue = admitted p (s.channels d).queue }) s h e in
        goes_on c s _ _ q (holder_other c d (holder_at p (s.channels d).queue) resolved.Admitted _ q.plain
        (kept_same c d (record (s.channels d) { queue = admitted p (s.channels d).queue }) s e kept) e
        (holder_at_stands s.waits d p (s.channels d).queue (sound.stand d).offers))
    by_act (Drop d p v) n f = removed_other c d (s.channels d).queue s h (not-true (d == c) f)
    by_act (Spurn d p v) n f = put_flows c d (record (s.channels d) { queue = spurned p (s.channels d).queue }) s h (not-true (d == c) f)
    by_act (Close d v) n f = put_flows c d _ s h (not-true (d == c) f)
    by_act (Void d) n f = put_flows c d _ s h (not-true (d == c) f)
    by_act (Drain d p v) n f = offer_other c d (s.channels d).queue (λ k. resolved.Voided) s h kept (not-true (d == c) f)
        (sound.stand d).offers
    by_act (WakeClosed d p) n f = first_other c d (s.channels d).receivers _ s h kept (not-true (d == c) f) (sound.stand d).receivers
    by_act (Withdraw w why) n f = withdraw_flows c who w (resolved.Withdrawn why) s refl h kept sound.placed (sound.ended w) n
    by_act (Settle w outcome) n f = settle_flows c who w outcome s h sound.placed n

-- what the acts of a history get and give is what the permits that are free or on their way lose and gain
pub flow : (shape : Shape) (c : ℕ) (s : State) (es : List Entry) → kind_at shape c ≡ Unlimited → LegalFrom shape s es
    → list_all (is_permit_act c) (acts_in es) ≡ true → Sound shape s → Plain c s
    → weight c (replay_from s es) + how_many (gets_permit c) (acts_in es) ≡ weight c s + how_many (gives_permit c) (acts_in es)
unfolding LegalFrom replay_from
flow shape c s [] kind l fits sound h = omega arith
flow shape c s (e ∷ es) kind l fits sound h =
    let f = step shape c s e.who e.act kind sound l.0 (all_first (is_permit_act c) e.act (acts_in es) fits) h in
    let k = flow shape c (after s e.who e.act) es kind l.1 (all_rest (is_permit_act c) e.act (acts_in es) fits)
    (sound_step shape s e.who e.act l.0 sound) f.plain in
    let a = f.weighs in
    omega arith

pub start_weighs : (c : ℕ) → weight c start ≡ 0
unfolding sum_of
start_weighs c = refl
