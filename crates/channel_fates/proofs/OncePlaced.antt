-- A place is given out once, and what came to it leaves once.
use Rattle.std.specs.Prelude.{◌≡◌, ℕ, ◌+◌, ◌≤◌, ◌==◌, Bool, true, false, not, ◌&&◌, cond, List, [], ◌∷◌, ◌++◌, filter, Option, Some, None, refl, if◌then◌else◌, MatchBool, is_some}
use Rattle.std.specs.List.{list_any}
use Rattle.std.proofs.Common.{ap, ◌∙◌, subst, arith, ⊎_elim}
use Rattle.std.proofs.lemmas.Bool.{eqb-true, and_parts, cases_lt}
use Rattle.co_base.specs.declared.names.WaitId.{WaitId}
use Rattle.channel_model.specs.declared.acts.Act.{Act}
use Rattle.channel_model.specs.declared.acts.Act.TheVariants.{Hand, Put, Offer, Await, Take, Admit, Drop, Spurn, Close, Void, Drain, WakeClosed, Withdraw, Settle}
use Rattle.channel_model.specs.declared.acts.Kind.{Kind}
use Rattle.channel_model.specs.declared.standing.Party.{Party}
use Rattle.channel_model.specs.declared.standing.Standing.{Standing}
use Rattle.channel_model.specs.declared.standing.Receiver.{Receiver}
use Rattle.channel_model.specs.declared.standing.Resolution.{Resolution}
use Rattle.channel_model.specs.Channels.{Shape, State, Channel, same_wait, start, kind_at, is_full}
use Rattle.channel_model.specs.Effects.{after, resolve_first, resolve_holder, resolve_offer, remove_first, with_queue, without, is_held_by, put_channel, admitted, holder_at, is_open, place_offer, place_receiver, is_elsewhere, spurned}
use Rattle.channel_model.specs.Needs.{Needs, IsFirstOffer, IsFirstReceiver, MayBeAdmitted, IsOfferAt}
use Rattle.channel_model.specs.Fates.{is_at, admits, removes}
use Rattle.channel_model.specs.Laws.{how_many}
use Rattle.channel_model.proofs.Waits.{same_wait-refl}
use Rattle.channel_fates.proofs.Appended.{any_cases}
use Rattle.channel_model.proofs.Apart.{how_many_push, filtered_less}

-- ---- words

-- the act leaves an element at this place
abbrev pub enters : ℕ → ℕ → Act → Bool
enters c p (Put d q v) = is_at c p d q
enters c p (Offer d q v w k) = is_at c p d q
enters c p other = false

-- the act answers the receiver of this place
abbrev pub answers : ℕ → ℕ → Act → Bool
answers c p (Hand d q v) = is_at c p d q
answers c p (WakeClosed d q) = is_at c p d q
answers c p other = false

abbrev pub awaits : ℕ → ℕ → Act → Bool
awaits c p (Await d q w k) = is_at c p d q
awaits c p other = false

-- how many offers of a queue have this place
abbrev pub offers_with : ℕ → List Standing → ℕ
offers_with p os = how_many (λ (o : Standing). o.place == p) os

abbrev pub receivers_with : ℕ → List Receiver → ℕ
receivers_with p rs = how_many (λ (r : Receiver). r.place == p) rs

-- what one act does to one place
record Balance (p : ℕ) (leaving entering answered awaiting : Bool) (ch ch' : Channel) : Type 0 where
  queue : cond leaving 1 0 + offers_with p ch'.queue ≤ offers_with p ch.queue + cond entering 1 0
  receivers : cond answered 1 0 + receivers_with p ch'.receivers ≤ receivers_with p ch.receivers + cond awaiting 1 0
  next : ch.next ≤ ch'.next
  one : cond entering 1 0 + cond awaiting 1 0 ≤ 1
  given : 1 ≤ cond entering 1 0 + cond awaiting 1 0 → (ch.next ≡ p) × (ch'.next ≡ p + 1)

-- nothing comes to the place
record Lessens (p : ℕ) (ch ch' : Channel) : Type 0 where
  queue : offers_with p ch'.queue ≤ offers_with p ch.queue
  receivers : receivers_with p ch'.receivers ≤ receivers_with p ch.receivers
  next : ch'.next ≡ ch.next

only_less : (p : ℕ) (ch ch' : Channel) → Lessens p ch ch' → Balance p false false false false ch ch'
only_less p ch ch' l = record {
  queue = omega (arith, l.queue);
  receivers = omega (arith, l.receivers);
  next = omega (arith, l.next);
  one =
      omega arith;
  given = λ h. absurd (omega arith);
}

unchanged : (p : ℕ) (ch : Channel) → Balance p false false false false ch ch
unchanged p ch = only_less p ch ch (record { queue = omega arith; receivers = omega arith; next = refl })

balance_then : (p : ℕ) (a b c d : Bool) (x y z : Channel) → Balance p a b c d x y → Lessens p y z → Balance p a b c d x z
balance_then p a b c d x y z h l = record {
  queue = omega (arith, h.queue, l.queue);
  receivers = omega (arith, h.receivers, l.receivers);
  next = omega (arith, h.next, l.next);
  one = h.one;
  given = λ k. ((h.given k).0, l.next ∙ (h.given k).1);
}

-- only the channel of the act changes
pub put_by : (R : Bool → Channel → Channel → Type 0) (d c : ℕ) (b : Bool) (x : Channel) (channels : ℕ → Channel) → R b (channels d) x
    → R false (channels c) (channels c) → R ((d == c) && b) (channels c) (put_channel d x channels c)
put_by R d c b x channels here away = by_test (d == c) refl
  where
    by_test : (t : Bool) → (d == c) ≡ t → R (t && b) (channels c) (if t then x else channels c)
    by_test true e = subst (λ n. R b (channels n) x) (eqb-true d c e) here
    by_test false e = away

-- ---- what each act does to a place

without_lessens : (p : ℕ) (w : WaitId) (ch : Channel) → Lessens p ch (without w ch)
without_lessens p w ch = record {
  queue = filtered_less (λ (o : Standing). o.place == p) (λ (o : Standing). not (is_held_by w o.holder)) ch.queue;
  receivers = filtered_less (λ (r : Receiver). r.place == p) (λ (r : Receiver). not (same_wait w r.party.wait)) ch.receivers;
  next = refl;
}

holder_lessens : (p c : ℕ) (h : Option Party) (how : ℕ → Resolution) (s : State)
    → Lessens p (s.channels c) ((resolve_holder h how s).channels c)
holder_lessens p c None how s = record { queue = omega arith; receivers = omega arith; next = refl }
holder_lessens p c (Some x) how s = without_lessens p x.wait (s.channels c)

same_place : (p q n : ℕ) → n ≡ q → ◌≡◌ {A = ℕ} (cond (n == p) 1 0) (cond (q == p) 1 0)
same_place p q n e = ap (λ x. cond (x == p) 1 0) e

first_goes : (p q : ℕ) (o : Standing) (os : List Standing) (ch : Channel) → ch.queue ≡ o ∷ os → o.place ≡ q
    → Balance p (q == p) false false false ch (record ch { queue = os })
first_goes p q o os ch e f =
    let at : offers_with p ch.queue ≡ cond (o.place == p) 1 0 + offers_with p os = ap (offers_with p) e in
    let same = same_place p q o.place f in
    record { queue = omega arith; receivers = omega arith; next = omega arith; one = omega arith; given = λ h. absurd (omega arith) }

queue_pops : (c p d q : ℕ) (o : Standing) (os : List Standing) (s : State) → (s.channels d).queue ≡ o ∷ os → o.place ≡ q
    → Balance p (is_at c p d q) false false false (s.channels c) ((with_queue d os s).channels c)
queue_pops c p d q o os s e f = put_by (λ b. Balance p b false false false) d c (q == p) (record (s.channels d) { queue = os }) s.channels
    (first_goes p q o os (s.channels d) e f) (unchanged p (s.channels c))

offer_goes : (c p d q v : ℕ) (os : List Standing) (how : ℕ → Resolution) (s : State) → (s.channels d).queue ≡ os → IsFirstOffer q v os
    → Balance p (is_at c p d q) false false false (s.channels c) ((resolve_offer d os how s).channels c)
offer_goes c p d q v [] how s e n = absurd n
offer_goes c p d q v (o ∷ os) how s e n =
    balance_then p _ _ _ _ (s.channels c) ((with_queue d os s).channels c) ((resolve_holder o.holder how (with_queue d os s)).channels c)
    (queue_pops c p d q o os s e n.0) (holder_lessens p c o.holder how (with_queue d os s))

offer_drops : (c p d q v : ℕ) (os : List Standing) (s : State) → (s.channels d).queue ≡ os → IsFirstOffer q v os
    → Balance p (is_at c p d q) false false false (s.channels c) ((remove_first d os s).channels c)
offer_drops c p d q v [] s e n = absurd n
offer_drops c p d q v (o ∷ os) s e n = queue_pops c p d q o os s e n.0

-- the offers without that at q
spurned_less : (p q v : ℕ) (os : List Standing) → IsOfferAt q v os → cond (q == p) 1 0 + offers_with p (spurned q os) ≤ offers_with p os
spurned_less p q v [] h = absurd h
spurned_less p q v (o ∷ os) h = by_test (o.place == q) refl h (λ k. spurned_less p q v os k)
  where
    by_test : (b : Bool) → (o.place == q) ≡ b → MatchBool b (o.value ≡ v) (IsOfferAt q v os)
        → (IsOfferAt q v os → cond (q == p) 1 0 + offers_with p (spurned q os) ≤ offers_with p os)
        → cond (q == p) 1 0 + offers_with p (cond (not b) (o ∷ spurned q os) (spurned q os)) ≤ offers_with p (o ∷ os)
    by_test true e h k =
        let same = same_place p q o.place (eqb-true o.place q e) in
        let fewer : offers_with p (spurned q os) ≤ offers_with p os = filtered_less (λ (x : Standing). x.place == p) (is_elsewhere q) os in
        omega arith
    by_test false e h k = let l = k h in omega arith

offer_spurned : (c p d q v : ℕ) (s : State) → IsOfferAt q v (s.channels d).queue
    → Balance p (is_at c p d q) false false false (s.channels c) ((with_queue d (spurned q (s.channels d).queue) s).channels c)
offer_spurned c p d q v s n =
    put_by (λ b. Balance p b false false false) d c (q == p) (record (s.channels d) { queue = spurned q (s.channels d).queue }) s.channels
    (let l = spurned_less p q v (s.channels d).queue n in
    record { queue = omega arith; receivers = omega arith; next = omega arith; one = omega arith; given = λ h. absurd (omega arith) })
    (unchanged p (s.channels c))

receiver_goes : (p q : ℕ) (r : Receiver) (rs : List Receiver) (ch : Channel) → ch.receivers ≡ r ∷ rs → r.place ≡ q
    → Balance p false false (q == p) false ch (without r.party.wait ch)
receiver_goes p q r rs ch e f =
    let w = r.party.wait in
    let other : Receiver → Bool = λ x. not (same_wait w x.party.wait) in
    let l = without_lessens p w ch in
    let at : receivers_with p ch.receivers ≡ cond (r.place == p) 1 0 + receivers_with p rs = ap (receivers_with p) e in
    let same = same_place p q r.place f in
    let gone : filter other ch.receivers ≡ filter other rs = ap (filter other) e
    ∙ ap (λ b. cond (not b) (r ∷ filter other rs) (filter other rs)) (same_wait-refl w) in
    let left : receivers_with p (filter other ch.receivers) ≡ receivers_with p (filter other rs) = ap (receivers_with p) gone in
    let fewer : receivers_with p (filter other rs) ≤ receivers_with p rs = filtered_less (λ (x : Receiver). x.place == p) other rs in
    record {
      queue = omega (arith, l.queue);
      receivers = omega arith;
      next = omega arith;
      one = omega arith;
      given =
          λ h. absurd (omega arith);
    }

receiver_answered : (c p d q : ℕ) (rs : List Receiver) (how : ℕ → Resolution) (s : State) → (s.channels d).receivers ≡ rs
    → IsFirstReceiver q rs → Balance p false false (is_at c p d q) false (s.channels c) ((resolve_first rs how s).channels c)
receiver_answered c p d q [] how s e n = absurd n
receiver_answered c p d q (r ∷ rs) how s e n = by_test (d == c) refl
  where
    by_test : (t : Bool) → (d == c) ≡ t → Balance p false false (t && (q == p)) false (s.channels c) (without r.party.wait (s.channels c))
    by_test true t = subst (λ x. Balance p false false (q == p) false (s.channels x) (without r.party.wait (s.channels x))) (eqb-true d c t)
        (receiver_goes p q r rs (s.channels d) e n)
    by_test false t = only_less p (s.channels c) _ (without_lessens p r.party.wait (s.channels c))

same_count : (t : Bool) (m n : ℕ) → m ≡ n → cond t 1 0 + m ≡ cond t 1 0 + n
same_count t m n e = omega arith

admitted_count : (p q : ℕ) (os : List Standing) → offers_with p (admitted q os) ≡ offers_with p os
admitted_count p q [] = refl
admitted_count p q (o ∷ os) =
    elim (o.place == q) as (λ b. offers_with p (if b then record o { holder = None } ∷ os else o ∷ admitted q os) ≡ offers_with p (o ∷ os))
    [ true ↦ refl | false ↦ same_count (o.place == p) _ _ (admitted_count p q os) ]

offer_admitted : (c p d q : ℕ) (s : State) → Balance p false false false false (s.channels c)
    ((with_queue d (admitted q (s.channels d).queue) s).channels c)
offer_admitted c p d q s =
    put_by (λ b. Balance p false false false false) d c false (record (s.channels d) { queue = admitted q (s.channels d).queue }) s.channels
    (let k = admitted_count p q (s.channels d).queue in only_less p (s.channels d) _
    (record { queue = omega arith; receivers = omega arith; next = refl }))
    (unchanged p (s.channels c))

given_at : (p q n m : ℕ) (b : Bool) → (q == p) ≡ b → q ≡ n → m ≡ n + 1 → 1 ≤ cond b 1 0 → (n ≡ p) × (m ≡ p + 1)
given_at p q n m true t e f h = let k = eqb-true q p t in (omega arith, omega arith)
given_at p q n m false t e f h = absurd (omega arith)

at_most : (b : Bool) → cond b 1 0 ≤ 1
at_most true = omega arith
at_most false = omega arith

offer_comes : (p q : ℕ) (b : Bool) (o : Standing) (ch : Channel) → o.place ≡ q → q ≡ ch.next
    → Balance p false (q == p) false false ch (place_offer b o ch)
offer_comes p q false o ch f e =
    record {
      queue = omega arith;
      receivers = omega arith;
      next = omega arith;
      one = omega (arith, at_most (q == p));
      given =
          λ h. given_at p q ch.next (ch.next + 1) (q == p) refl e refl (omega arith);
    }
offer_comes p q true o ch f e =
    let k = how_many_push (λ (x : Standing). x.place == p) ch.queue o in
    let same = same_place p q o.place f in
    record {
      queue = omega arith;
      receivers = omega arith;
      next = omega arith;
      one = omega (arith, at_most (q == p));
      given =
          λ h. given_at p q ch.next (ch.next + 1) (q == p) refl e refl (omega arith);
    }

receiver_comes : (p q : ℕ) (b : Bool) (r : Receiver) (ch : Channel) → r.place ≡ q → q ≡ ch.next
    → Balance p false false false (q == p) ch (place_receiver b r ch)
receiver_comes p q false r ch f e =
    record {
      queue = omega arith;
      receivers = omega arith;
      next = omega arith;
      one = omega (arith, at_most (q == p));
      given =
          λ h. given_at p q ch.next (ch.next + 1) (q == p) refl e refl (omega arith);
    }
receiver_comes p q true r ch f e =
    let k = how_many_push (λ (x : Receiver). x.place == p) ch.receivers r in
    let same = same_place p q r.place f in
    record {
      queue = omega arith;
      receivers = omega arith;
      next = omega arith;
      one = omega (arith, at_most (q == p));
      given =
          λ h. given_at p q ch.next (ch.next + 1) (q == p) refl e refl (omega arith);
    }

put_unchanged : (c p d : ℕ) (x : Channel) (s : State) → Balance p false false false false (s.channels d) x
    → Balance p false false false false (s.channels c) (put_channel d x s.channels c)
put_unchanged c p d x s h = put_by (λ b. Balance p false false false false) d c false x s.channels h (unchanged p (s.channels c))

act_balance : (c p : ℕ) (shape : Shape) (s : State) (who : ℕ) (act : Act) → Needs shape s who act
    → Balance p (removes c p act) (enters c p act) (answers c p act) (awaits c p act) (s.channels c) ((after s who act).channels c)
act_balance c p shape s who (Hand d q v) n = receiver_answered c p d q _ _ s refl n.2
act_balance c p shape s who (Put d q v) n =
    let o : Standing = record { place = q; value = v; holder = None } in
    put_by (λ b. Balance p false b false false) d c (q == p) (place_offer true o (s.channels d)) s.channels
    (offer_comes p q true o (s.channels d) refl n.1.first) (unchanged p (s.channels c))
act_balance c p shape s who (Offer d q v w k) n =
    let o : Standing = record { place = q; value = v; holder = Some (record { wait = w; clause = k }) } in
    let b = is_open (s.waits w) in
    put_by (λ b. Balance p false b false false) d c (q == p) (place_offer b o (s.channels d)) s.channels
    (offer_comes p q b o (s.channels d) refl n.1.first) (unchanged p (s.channels c))
act_balance c p shape s who (Await d q w k) n =
    let r : Receiver = record { place = q; party = record { wait = w; clause = k } } in
    let b = is_open (s.waits w) in
    put_by (λ b. Balance p false false false b) d c (q == p) (place_receiver b r (s.channels d)) s.channels
    (receiver_comes p q b r (s.channels d) refl n.1.first) (unchanged p (s.channels c))
act_balance c p shape s who (Take d q v) n = offer_goes c p d q v _ _ s refl n.1
act_balance c p shape s who (Admit d q) n =
    balance_then p _ _ _ _ (s.channels c) ((with_queue d (admitted q (s.channels d).queue) s).channels c) _ (offer_admitted c p d q s)
    (holder_lessens p c (holder_at q (s.channels d).queue) _ (with_queue d (admitted q (s.channels d).queue) s))
act_balance c p shape s who (Drop d q v) n = offer_drops c p d q v _ s refl n.2
act_balance c p shape s who (Spurn d q v) n = offer_spurned c p d q v s n.2
act_balance c p shape s who (Close d v) n = put_unchanged c p d _ s
    (only_less p (s.channels d) _ (record { queue = omega arith; receivers = omega arith; next = refl }))
act_balance c p shape s who (Void d) n = put_unchanged c p d _ s
    (only_less p (s.channels d) _ (record { queue = omega arith; receivers = omega arith; next = refl }))
act_balance c p shape s who (Drain d q v) n = offer_goes c p d q v _ _ s refl n.2
act_balance c p shape s who (WakeClosed d q) n = receiver_answered c p d q _ _ s refl n.2
act_balance c p shape s who (Withdraw w why) n = only_less p (s.channels c) _ (without_lessens p w (s.channels c))
act_balance c p shape s who (Settle w outcome) n = unchanged p (s.channels c)

-- ---- a place that is admitted stands

admitted_stands : (kind : Kind) (p n : ℕ) (os : List Standing) → MayBeAdmitted kind p n os → 1 ≤ offers_with p os
admitted_stands kind p n [] h = absurd h
admitted_stands kind p n (o ∷ os) h = by_test (o.place == p) h (admitted_stands kind p (n + 1) os)
  where
    by_test : (b : Bool) → MatchBool b ((is_some o.holder ≡ true) × (is_full kind n ≡ false)) (MayBeAdmitted kind p (n + 1) os)
        → (MayBeAdmitted kind p (n + 1) os → 1 ≤ offers_with p os) → 1 ≤ cond b 1 0 + offers_with p os
    by_test true h k = omega arith
    by_test false h k = omega (arith, k h)

-- both numbers are the same
pub at_both : (c p d q : ℕ) → is_at c p d q ≡ true → (d ≡ c) × (q ≡ p)
at_both c p d q e = let b = and_parts (d == c) (q == p) e in (eqb-true d c b.0, eqb-true q p b.1)

admits_stands : (c p : ℕ) (shape : Shape) (s : State) (who : ℕ) (act : Act) → Needs shape s who act → admits c p act ≡ true
    → 1 ≤ offers_with p (s.channels c).queue
admits_stands c p shape s who (Admit d q) n e =
    let k = at_both c p d q e in
    let h : 1 ≤ offers_with q (s.channels d).queue = admitted_stands (kind_at shape d) q 0 (s.channels d).queue n.1 in
    let l : 1 ≤ offers_with p (s.channels d).queue = subst (λ x. 1 ≤ offers_with x (s.channels d).queue) k.1 h in
    subst (λ x. 1 ≤ offers_with p (s.channels x).queue) k.0 l
admits_stands c p shape s who other n e = cc

-- ---- all acts

-- what came to a place, stands there or left it
pub record Counted (c p : ℕ) (acts : List Act) (ch : Channel) : Type 0 where
  pub queue : how_many (removes c p) acts + offers_with p ch.queue ≤ how_many (enters c p) acts
  pub receivers : how_many (answers c p) acts + receivers_with p ch.receivers ≤ how_many (awaits c p) acts
  pub given : how_many (enters c p) acts + how_many (awaits c p) acts ≤ 1
  pub fresh : ch.next ≤ p → how_many (enters c p) acts + how_many (awaits c p) acts ≡ 0
  pub admitted : list_any (admits c p) acts ≡ true → 1 ≤ how_many (enters c p) acts

fresh_or_given : (n m p x y b : ℕ) → n ≤ m → b ≤ 1 → (1 ≤ b → (n ≡ p) × (m ≡ p + 1)) → (n ≤ p → x ≡ 0) → y ≡ x + b → m ≤ p → y ≡ 0
fresh_or_given n m p x y b le one given fresh e h =
    ⊎_elim (λ lt. let g = given lt in absurd (omega arith)) (λ z. let k : x ≡ 0 = fresh (omega arith) in omega arith) (cases_lt 0 b)

given_once : (b x y : ℕ) → b ≤ 1 → x ≤ 1 → (1 ≤ b → x ≡ 0) → y ≡ x + b → y ≤ 1
given_once b x y one le k e = ⊎_elim (λ lt. let z = k lt in omega arith) (λ z. omega arith) (cases_lt 0 b)

counted_then : (c p : ℕ) (acts : List Act) (act : Act) (ch ch' : Channel)
    → Balance p (removes c p act) (enters c p act) (answers c p act) (awaits c p act) ch ch'
    → (admits c p act ≡ true → 1 ≤ offers_with p ch.queue) → Counted c p acts ch → Counted c p (acts ++ act ∷ []) ch'
counted_then c p acts act ch ch' b a h =
    let l = how_many_push (removes c p) acts act in
    let e = how_many_push (enters c p) acts act in
    let r = how_many_push (answers c p) acts act in
    let w = how_many_push (awaits c p) acts act in
    record {
      queue = omega (arith, h.queue, b.queue);
      receivers = omega (arith, h.receivers, b.receivers);
      given = given_once (cond (enters c p act) 1 0 + cond (awaits c p act) 1 0) (how_many (enters c p) acts + how_many (awaits c p) acts) _
          b.one h.given (λ k. h.fresh (let g = b.given k in omega arith)) (omega arith);
      fresh = fresh_or_given ch.next ch'.next p (how_many (enters c p) acts + how_many (awaits c p) acts) _
          (cond (enters c p act) 1 0 + cond (awaits c p act) 1 0) b.next b.one b.given h.fresh (omega arith);
      admitted = λ k. ⊎_elim (λ q. let g = h.admitted q in omega arith) (λ q. let g = a q
          in omega (arith, h.queue)) (any_cases (admits c p) acts act k);
    }

pub counted_after : (shape : Shape) (acts : List Act) (s : State) (who : ℕ) (act : Act) → Needs shape s who act
    → ((c p : ℕ) → Counted c p acts (s.channels c)) → (c p : ℕ) → Counted c p (acts ++ act ∷ []) ((after s who act).channels c)
counted_after shape acts s who act n h c p = counted_then c p acts act (s.channels c) ((after s who act).channels c)
    (act_balance c p shape s who act n) (admits_stands c p shape s who act n) (h c p)

pub start_counted : (c p : ℕ) → Counted c p [] (start.channels c)
start_counted c p = record { queue = omega arith; receivers = omega arith; given = omega arith; fresh = λ h. refl; admitted = λ e. cc }
