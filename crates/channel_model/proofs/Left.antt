-- How many acts may still remove something from a channel: no act raises it, and each that removes lowers it.
use Rattle.std.specs.Prelude.{◌≡◌, ℕ, ◌+◌, ◌-◌, ◌*◌, ◌<◌, ◌≤◌, ◌==◌, Bool, true, false, not, cond, List, [], ◌∷◌, filter, Option, Some, None, is_some, refl, if◌then◌else◌, MatchBool}
use mathlib.Core.List.{IsPrefix}
use Rattle.std.proofs.Common.{sym, ap, ◌∙◌, subst, arith}
use Rattle.co_base.specs.declared.names.WaitId.{WaitId}
use Rattle.channel_model.specs.declared.acts.Kind.{Kind}
use Rattle.channel_model.specs.declared.acts.Act.{Act}
use Rattle.channel_model.specs.declared.acts.Act.TheVariants.{Admit, Drop, Drain, WakeClosed}
use Rattle.channel_model.specs.declared.acts.Entry.{Entry}
use Rattle.channel_model.specs.declared.standing.Party.{Party}
use Rattle.channel_model.specs.declared.standing.Standing.{Standing}
use Rattle.channel_model.specs.declared.standing.Receiver.{Receiver}
use Rattle.channel_model.specs.declared.standing.Resolution.{Resolution}
use Rattle.channel_model.specs.declared.standing.Resolution.TheVariants as resolved
use Rattle.channel_model.specs.Channels.{Shape, State, Channel, same_wait, kind_at, places_at, is_full}
use Rattle.channel_model.specs.Effects.{after, resolve_first, resolve_holder, resolve_offer, remove_first, with_queue, without, is_held_by, put_channel, admitted, holder_at, place_offer, place_receiver, is_elsewhere}
use Rattle.channel_model.specs.Needs.{Needs, IsFirstOffer, IsFirstReceiver, MayBeAdmitted}
use Rattle.channel_model.specs.Histories.{replay, Legal}
use Rattle.channel_model.specs.Laws.{how_many}
use Rattle.channel_model.specs.Left.{is_any, is_waiting, left}
use Rattle.channel_model.specs.Floors.{Floor, Made}
use Rattle.channel_model.proofs.Histories.{replay_push, Legal-last}
use Rattle.channel_model.proofs.Waits.{same_wait-refl}
use Rattle.channel_model.proofs.Placed.{same_number}
use Rattle.channel_model.proofs.Apart.{filtered_less, how_many_push}
use Rattle.channel_model.proofs.EveryAct.{ChannelKeeps}
use Rattle.channel_model.proofs.Sound.{channel_lasts}

without_less : (w : WaitId) (ch : Channel) (places : ℕ) → left places (without w ch) ≤ left places ch
without_less w ch places = omega (
  arith,
  filtered_less is_any (λ (o : Standing). not (is_held_by w o.holder)) ch.queue,
  filtered_less is_waiting (λ (o : Standing). not (is_held_by w o.holder)) ch.queue,
  filtered_less is_any (λ (r : Receiver). not (same_wait w r.party.wait)) ch.receivers,
)

holder_less : (p : Option Party) (how : ℕ → Resolution) (s : State) (c places : ℕ)
    → left places ((resolve_holder p how s).channels c) ≤ left places (s.channels c)
holder_less None how s c places = omega arith
holder_less (Some p) how s c places = without_less p.wait (s.channels c) places

pub put_here : (c : ℕ) (ch : Channel) (channels : ℕ → Channel) → put_channel c ch channels c ≡ ch
put_here c ch channels = ap (λ b. if b then ch else channels c) (same_number c)

offer_less : (b : Bool) (places : ℕ) (o : Standing) (ch : Channel) → ch.next < places → left places (place_offer b o ch) ≤ left places ch
offer_less true places o ch h = placed (is_waiting o) (how_many is_any ch.queue) (how_many is_waiting ch.queue) _ _
    (how_many is_any ch.receivers) places ch.next h (how_many_push is_any ch.queue o) (how_many_push is_waiting ch.queue o)
  where
    placed : (b : Bool) (n m n' m' r places next : ℕ) → next < places → n' ≡ n + 1 → m' ≡ m + cond b 1 0
        → n' + (m' + (r + 2 * (places - (next + 1)))) ≤ n + (m + (r + 2 * (places - next)))
    placed true n m n' m' r places next h e f = omega arith
    placed false n m n' m' r places next h e f = omega arith
offer_less false places o ch h = omega arith

receiver_less : (b : Bool) (places : ℕ) (r : Receiver) (ch : Channel) → ch.next < places
    → left places (place_receiver b r ch) ≤ left places ch
receiver_less true places r ch h = omega (arith, how_many_push is_any ch.receivers r)
receiver_less false places r ch h = omega arith

-- ---- what each act removes

-- the first offer goes
popped_less : (places : ℕ) (o : Standing) (os : List Standing) (ch : Channel) → ch.queue ≡ o ∷ os
    → left places (record ch { queue = os }) < left places ch
popped_less places o os ch e = omega (arith, ap (how_many is_any) e, ap (how_many is_waiting) e)

admitted_any : (p : ℕ) (os : List Standing) → how_many is_any (admitted p os) ≡ how_many is_any os
admitted_any p [] = refl
admitted_any p (o ∷ os) = by_test (o.place == p) (admitted_any p os)
  where
    by_test : (b : Bool) → how_many is_any (admitted p os) ≡ how_many is_any os
        → how_many is_any (if b then record o { holder = None } ∷ os else o ∷ admitted p os) ≡ how_many is_any (o ∷ os)
    by_test true e = refl
    by_test false e = ap (λ n. 1 + n) e

admitted_no_more : (p : ℕ) (os : List Standing) → how_many is_waiting (admitted p os) ≤ how_many is_waiting os
admitted_no_more p [] = omega arith
admitted_no_more p (o ∷ os) = by_test (o.place == p) (is_waiting o) (admitted_no_more p os)
  where
    by_test : (b t : Bool) → how_many is_waiting (admitted p os) ≤ how_many is_waiting os
        → how_many is_waiting (if b then record o { holder = None } ∷ os else o ∷ admitted p os) ≤ how_many is_waiting (o ∷ os)
    by_test true t h = omega arith
    by_test false t h = omega arith

admitted_most : (places p : ℕ) (ch : Channel) → left places (record ch { queue = admitted p ch.queue }) ≤ left places ch
admitted_most places p ch = omega (arith, admitted_any p ch.queue, admitted_no_more p ch.queue)

counted : (b : Bool) (m : ℕ) → b ≡ true → 0 + m < cond b 1 0 + m
counted true m e = omega arith
counted false m e = cc

admitted_waits : (kind : Kind) (p n : ℕ) (os : List Standing) → MayBeAdmitted kind p n os
    → how_many is_waiting (admitted p os) < how_many is_waiting os
admitted_waits kind p n [] h = absurd h
admitted_waits kind p n (o ∷ os) h = by_test (o.place == p) h (admitted_waits kind p (n + 1) os)
  where
    by_test : (b : Bool) → MatchBool b ((is_some o.holder ≡ true) × (is_full kind n ≡ false)) (MayBeAdmitted kind p (n + 1) os)
        → (MayBeAdmitted kind p (n + 1) os → how_many is_waiting (admitted p os) < how_many is_waiting os)
        → how_many is_waiting (if b then record o { holder = None } ∷ os else o ∷ admitted p os) < how_many is_waiting (o ∷ os)
    by_test true h rest = counted (is_waiting o) (how_many is_waiting os) h.0
    by_test false h rest = omega (arith, rest h)

admitted_less : (kind : Kind) (places p : ℕ) (ch : Channel) → MayBeAdmitted kind p 0 ch.queue
    → left places (record ch { queue = admitted p ch.queue }) < left places ch
admitted_less kind places p ch h = omega (arith, admitted_any p ch.queue, admitted_waits kind p 0 ch.queue h)

-- no act raises it
pub left_keeps : (shape : Shape) (n : ℕ) → ChannelKeeps shape (λ d ch. left (places_at shape d) ch ≤ n)
left_keeps shape n = record {
  without = λ w d ch h. omega (arith, without_less w ch (places_at shape d));
  rest = λ d o os ch e h. omega (arith, popped_less (places_at shape d) o os ch e);
  admit = λ d p ch h. omega (arith, admitted_most (places_at shape d) p ch);
  spurn = λ d p ch h. omega (arith, filtered_less is_any (is_elsewhere p) ch.queue, filtered_less is_waiting (is_elsewhere p) ch.queue);
  put = λ d p v ch h k x. omega (arith, offer_less true (places_at shape d) (record { place = p; value = v; holder = None }) ch h.left);
  offer = λ d p b o ch h k t e x. omega (arith, offer_less b (places_at shape d) o ch h.left);
  await = λ d p b r ch h k e x. omega (arith, receiver_less b (places_at shape d) r ch h.left);
  close = λ d v ch e h. omega arith;
  void = λ d ch e h. omega arith;
}

-- ---- acts that remove

-- the channel from which the act removes something
abbrev pub removes_from : Act → Option ℕ
removes_from (Admit c p) = Some c
removes_from (Drop c p v) = Some c
removes_from (Drain c p v) = Some c
removes_from (WakeClosed c p) = Some c
removes_from other = None

queue_lower : (shape : Shape) (c : ℕ) (queue : List Standing) (s : State)
    → left (places_at shape c) (record (s.channels c) { queue = queue }) < left (places_at shape c) (s.channels c)
    → left (places_at shape c) ((with_queue c queue s).channels c) < left (places_at shape c) (s.channels c)
queue_lower shape c queue s h = subst (λ ch. left (places_at shape c) ch < left (places_at shape c) (s.channels c))
    (sym (put_here c _ s.channels)) h

remove_lower : (shape : Shape) (c p v : ℕ) (q : List Standing) (s : State) → (s.channels c).queue ≡ q → IsFirstOffer p v q
    → left (places_at shape c) ((remove_first c q s).channels c) < left (places_at shape c) (s.channels c)
remove_lower shape c p v [] s e h = absurd h
remove_lower shape c p v (o ∷ os) s e h = queue_lower shape c os s (popped_less (places_at shape c) o os (s.channels c) e)

pub take_lower : (shape : Shape) (c p v : ℕ) (q : List Standing) (how : ℕ → Resolution) (s : State) → (s.channels c).queue ≡ q
    → IsFirstOffer p v q → left (places_at shape c) ((resolve_offer c q how s).channels c) < left (places_at shape c) (s.channels c)
take_lower shape c p v [] how s e h = absurd h
take_lower shape c p v (o ∷ os) how s e h = omega (
  arith,
  queue_lower shape c os s (popped_less (places_at shape c) o os (s.channels c) e),
  holder_less o.holder how (with_queue c os s) c (places_at shape c),
)

-- the first receiver goes
without_first : (w : WaitId) (r : Receiver) (rs : List Receiver) → r.party.wait ≡ w
    → how_many is_any (filter (λ (x : Receiver). not (same_wait w x.party.wait)) (r ∷ rs)) < how_many is_any (r ∷ rs)
without_first w r rs e =
    by_test (same_wait w r.party.wait) (ap (same_wait w) e ∙ same_wait-refl w)
  where
    by_test : (b : Bool) → b ≡ true
        → how_many is_any (cond (not b) (r ∷ filter (λ (x : Receiver). not (same_wait w x.party.wait)) rs)
        (filter (λ (x : Receiver). not (same_wait w x.party.wait)) rs)) < how_many is_any (r ∷ rs)
    by_test true k = omega (arith, filtered_less is_any (λ (x : Receiver). not (same_wait w x.party.wait)) rs)
    by_test false k = cc

first_lower : (shape : Shape) (c p : ℕ) (rs : List Receiver) (how : ℕ → Resolution) (s : State) → (s.channels c).receivers ≡ rs
    → IsFirstReceiver p rs → left (places_at shape c) ((resolve_first rs how s).channels c) < left (places_at shape c) (s.channels c)
first_lower shape c p [] how s e h = absurd h
first_lower shape c p (r ∷ rs) how s e h = omega (
  arith,
  filtered_less is_any (λ (o : Standing). not (is_held_by r.party.wait o.holder)) (s.channels c).queue,
  filtered_less is_waiting (λ (o : Standing). not (is_held_by r.party.wait o.holder)) (s.channels c).queue,
  subst (λ xs. how_many is_any (filter (λ (x : Receiver). not (same_wait r.party.wait x.party.wait)) xs) < how_many is_any xs) (sym e)
      (without_first r.party.wait r rs refl),
)

after_lower : (shape : Shape) (s : State) (who c : ℕ) (act : Act) → Needs shape s who act → removes_from act ≡ Some c
    → left (places_at shape c) ((after s who act).channels c) < left (places_at shape c) (s.channels c)
after_lower shape s who c (Admit d p) n e =
    let is : d ≡ c = cc in
    subst (λ x. left (places_at shape x) ((after s who (Admit d p)).channels x) < left (places_at shape x) (s.channels x)) is
    (omega (
      arith,
      queue_lower shape d _ s (admitted_less (kind_at shape d) (places_at shape d) p (s.channels d) n.1),
      holder_less (holder_at p (s.channels d).queue) resolved.Admitted (with_queue d (admitted p (s.channels d).queue) s) d
          (places_at shape d),
    ))
after_lower shape s who c (Drop d p v) n e =
    let is : d ≡ c = cc in
    subst (λ x. left (places_at shape x) ((after s who (Drop d p v)).channels x) < left (places_at shape x) (s.channels x)) is
    (remove_lower shape d p v (s.channels d).queue s refl n.2)
after_lower shape s who c (Drain d p v) n e =
    let is : d ≡ c = cc in
    subst (λ x. left (places_at shape x) ((after s who (Drain d p v)).channels x) < left (places_at shape x) (s.channels x)) is
    (take_lower shape d p v (s.channels d).queue _ s refl n.2)
after_lower shape s who c (WakeClosed d p) n e =
    let is : d ≡ c = cc in
    subst (λ x. left (places_at shape x) ((after s who (WakeClosed d p)).channels x) < left (places_at shape x) (s.channels x)) is
    (first_lower shape d p (s.channels d).receivers _ s refl n.2)
after_lower shape s who c other n e = cc

-- ---- over histories

-- what is left of a channel after a history
abbrev pub left_of : Shape → ℕ → List Entry → ℕ
left_of shape c history = left (places_at shape c) ((replay history).channels c)

pub left_falls : (shape : Shape) (c : ℕ) (xs ys : List Entry) → Legal shape ys → IsPrefix xs ys → left_of shape c ys ≤ left_of shape c xs
left_falls shape c xs ys l p = channel_lasts shape (λ d ch. left (places_at shape d) ch ≤ left_of shape c xs)
    (left_keeps shape (left_of shape c xs)) c xs ys p l (omega arith)

-- an act that removes from the channel lowers it, whatever others did before
pub left_lower : (who c : ℕ) (act : Act) (shape : Shape) (a b : Floor) → shape ≡ b.shape → Legal b.shape b.seen → Made who act a b
    → removes_from act ≡ Some c → left_of shape c b.seen < left_of shape c a.seen
left_lower who c act shape a b is l m e =
    let last : Entry = record { who = who; act = act } in
    let r = Legal-last b.shape m.before last (subst (Legal b.shape) m.last l) in
    let low = after_lower b.shape (replay m.before) who c act r.1 e in
    let falls = left_falls b.shape c a.seen m.before r.0 m.longer in
    let here : left_of b.shape c b.seen < left_of b.shape c m.before =
    subst (λ es. left_of b.shape c es < left_of b.shape c m.before) (sym m.last)
    (subst (λ (s : State). left (places_at b.shape c) (s.channels c) < left_of b.shape c m.before) (sym (replay_push m.before last))
    low) in
    let all : left_of b.shape c b.seen < left_of b.shape c a.seen = omega arith in
    subst (λ x. left_of x c b.seen < left_of x c a.seen) (sym is) all
