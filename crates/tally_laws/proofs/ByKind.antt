-- How many acts of a kind there are, as a sum over the places to which they belong.
use Rattle.std.specs.Prelude.{◌≡◌, ℕ, ◌+◌, ◌≤◌, ◌==◌, Bool, true, false, not, ◌&&◌, ◌||◌, cond, List, [], ◌∷◌, length, Option, Some, None, refl, if◌then◌else◌}
use Rattle.std.specs.List.{list_any}
use Rattle.std.proofs.Common.{sym, ap, ◌∙◌, arith, ⊎_elim}
use Rattle.std.proofs.lemmas.Bool.{eqb-true, not-false, and_parts, false_from_ne_true, and_from, and_right, both_ways}
use Rattle.co_base.specs.declared.names.WaitId.{WaitId}
use Rattle.channel_model.specs.declared.acts.Act.{Act}
use Rattle.channel_model.specs.declared.acts.Act.TheVariants.{Hand, Put, Offer, Await, Take, Drop, Spurn, Drain, WakeClosed, Withdraw, Settle}
use Rattle.channel_model.specs.declared.acts.Settled.TheVariants as settled
use Rattle.channel_model.specs.Channels.{Shape, State, Wait, same_wait, places_at}
use Rattle.channel_model.specs.Answers.{IsResolvedWait}
use Rattle.channel_model.specs.Fates.{is_at, hands, takes, drops_at, spurns_at, drains, admits, withdraws, settles_value, settles_undelivered, is_value, is_undelivered, offers_at, first_some, wait_at, places_wait, of_wait, of_offer, or_else, is_taken_back, removes}
use Rattle.channel_model.specs.Laws.{how_many}
use Rattle.channel_model.proofs.Waits.{same_wait-eq, same_wait-refl}
use Rattle.channel_fates.proofs.Appended.{any_count, none_count, count_any, found, first_there}
use Rattle.channel_fates.proofs.OncePlaced.{enters, awaits, answers, Counted, at_both}
use Rattle.channel_fates.proofs.StandsByActs.{puts, offers, enters_count, clause_offered, here, hand_answers}
use Rattle.channel_fates.proofs.Chosen.{Chosen, resolver, resolver_is, resolver_given, wait_counted, put_alone}
use Rattle.channel_fates.proofs.ChosenOnce.{admitted_resolved}
use Rattle.channel_fates.proofs.OwnPlaces.{name_of, alone}
use Rattle.channel_fates.proofs.AtMostOne.{some_wait, leaves_count}
use Rattle.tally_laws.specs.Sums.{sum_places}
use Rattle.tally_laws.specs.Kinds.{is_hand, is_put, is_offer, is_take, is_drop, is_spurn, is_drain, is_wake, is_withdraw, is_settle, gives_value, gives_up, settles_wait, is_plain_offer, takes_back, offers_settled}
use Rattle.tally_laws.specs.Settlings.{ResolvedAreSettled}
use Rattle.tally_laws.proofs.Summed.{places_same}
use Rattle.tally_laws.proofs.Counting.{count_sum, count_less, any_one, spread, IsIn, AtOne, by_places, at_its_place, by_one_test}
use Rattle.tally_laws.proofs.Given.{IsPlace, WasHanded, HandPlace, HasBegun}
use Rattle.tally_laws.proofs.Kept.{Kept}
use Rattle.tally_laws.proofs.Shares.{is_handed_as, is_taken_offer, is_chosen_at, is_sent_at, is_open_at, counts_one, counts_none}
use Rattle.channel_fates.proofs.HeldFates.{offer_waits, await_waits}

-- ---- tests of one act

-- the act answers a receiver: an element, or that the channel is closed
abbrev pub is_answer : Act → Bool
is_answer (Hand c p v) = true
is_answer (WakeClosed c p) = true
is_answer other = false

hand_or_wake : (a : Act) → cond (is_hand a) 1 0 + cond (is_wake a) 1 0 ≡ cond (is_answer a) 1 0
hand_or_wake (Hand c p v) = omega arith
hand_or_wake other = omega arith

-- the act settles a wait that was withdrawn
abbrev pub settles_withdrawn : List Act → Act → Bool
settles_withdrawn acts (Settle w outcome) = list_any (withdraws w) acts
settles_withdrawn acts other = false

-- the act settles a wait that was resolved at one of its places
abbrev pub settles_chosen : List Act → Act → Bool
settles_chosen acts (Settle w outcome) = not (list_any (withdraws w) acts)
settles_chosen acts other = false

either_sum : (b : Bool) → cond (not b) 1 0 + cond b 1 0 ≡ 1
either_sum true = omega arith
either_sum false = omega arith

chosen_or_withdrawn : (acts : List Act) (a : Act) → cond (settles_chosen acts a) 1 0 + cond (settles_withdrawn acts a) 1 0 ≡
    cond (is_settle a) 1 0
chosen_or_withdrawn acts (Settle w outcome) = either_sum (list_any (withdraws w) acts)
chosen_or_withdrawn acts other = omega arith

-- the act offers with a wait that no act settles
abbrev pub offers_openly : List Act → Act → Bool
offers_openly acts (Offer c p v w k) = not (list_any (settles_wait w) acts)
offers_openly acts other = false

open_or_settled : (acts : List Act) (a : Act) → cond (offers_openly acts a) 1 0 + cond (offers_settled acts a) 1 0 ≡ cond (is_offer a) 1 0
open_or_settled acts (Offer c p v w k) = either_sum (list_any (settles_wait w) acts)
open_or_settled acts other = omega arith

-- an offer's wait is settled, or not
pub all_offers : (acts : List Act) → how_many (offers_openly acts) acts + how_many (offers_settled acts) acts ≡ how_many is_offer acts
all_offers acts = count_sum (offers_openly acts) (offers_settled acts) is_offer (open_or_settled acts) acts

-- the act offers here, with a wait that passes
abbrev pub offers_here : (WaitId → Bool) → ℕ → ℕ → Act → Bool
offers_here f c p (Offer d q v w k) = is_at c p d q && f w
offers_here f c p other = false

value_settles : (w : WaitId) (a : Act) → settles_value w a ≡ true → settles_wait w a ≡ true
value_settles w (Settle v outcome) e = (and_parts (same_wait w v) (is_value outcome) e).0
value_settles w other e = cc

undelivered_settles : (w : WaitId) (a : Act) → settles_undelivered w a ≡ true → settles_wait w a ≡ true
undelivered_settles w (Settle v outcome) e = (and_parts (same_wait w v) (is_undelivered outcome) e).0
undelivered_settles w other e = cc

value_gives : (w : WaitId) (a : Act) → settles_value w a ≡ true → gives_value a ≡ true
value_gives w (Settle v outcome) e = (and_parts (same_wait w v) (is_value outcome) e).1
value_gives w other e = cc

undelivered_gives : (w : WaitId) (a : Act) → settles_undelivered w a ≡ true → gives_up a ≡ true
undelivered_gives w (Settle v outcome) e = (and_parts (same_wait w v) (is_undelivered outcome) e).1
undelivered_gives w other e = cc

value_given : (a : Act) → gives_value a ≡ true → (w : WaitId) × (settles_value w a ≡ true)
value_given (Settle v outcome) e = (v, and_from (same_wait v v) (is_value outcome) (same_wait-refl v) e)
value_given other e = cc

undelivered_given : (a : Act) → gives_up a ≡ true → (w : WaitId) × (settles_undelivered w a ≡ true)
undelivered_given (Settle v outcome) e = (v, and_from (same_wait v v) (is_undelivered outcome) (same_wait-refl v) e)
undelivered_given other e = cc

one_settled : (v w : WaitId) (a : Act) → settles_wait v a ≡ true → settles_wait w a ≡ true → v ≡ w
one_settled v w (Settle u outcome) e f = same_wait-eq v u e ∙ sym (same_wait-eq w u f)
one_settled v w other e f = cc

wait_never : (o : Option WaitId) → of_wait (λ w. false) o ≡ false
wait_never None = refl
wait_never (Some w) = refl

hand_resolves : (c p : ℕ) (act : Act) → hands c p act ≡ true → resolver c p act ≡ true
hand_resolves c p (Hand d q v) e = e
hand_resolves c p other e = cc

answer_resolves : (c p : ℕ) (act : Act) → answers c p act ≡ true → resolver c p act ≡ true
answer_resolves c p (Hand d q v) e = e
answer_resolves c p (WakeClosed d q) e = e
answer_resolves c p other e = cc

any_by : (f g : Act → Bool) → ((act : Act) → f act ≡ true → g act ≡ true) → (acts : List Act) → list_any f acts ≡ true
    → list_any g acts ≡ true
any_by f g k acts e = let x = found f acts e in x.2 g (k x.0 x.1)

name_is : (w : WaitId) → name_of w.channel w.place ≡ w
name_is w = same_wait-eq (name_of w.channel w.place) w (same_wait-refl w)

here_offers : (f : WaitId → Bool) (c p : ℕ) (act : Act) → offers_here f c p act ≡ true → offers c p act ≡ true
here_offers f c p (Offer d q v w k) e = (and_parts (is_at c p d q) (f w) e).0
here_offers f c p other e = cc

-- ---- the one offer of a place

none_offered : (f : WaitId → Bool) (c p : ℕ) (acts : List Act) → how_many (enters c p) acts ≡ 0 → how_many (offers_here f c p) acts ≡ 0
none_offered f c p acts e =
    let a = count_less (offers_here f c p) (offers c p) (here_offers f c p) acts in
    let b = enters_count c p acts in
    omega arith

not_offered : (c p : ℕ) (acts : List Act) → how_many (enters c p) acts ≡ 0 → list_any (offers c p) acts ≡ false
not_offered c p acts e = false_from_ne_true (list_any (offers c p) acts) (λ h. let n = any_count (offers c p) acts h
    in let b = enters_count c p acts
    in absurd (omega arith))

-- what offers here, if at most one does
abbrev OfferedOnce : (WaitId → Bool) → ℕ → ℕ → List Act → Type 0
OfferedOnce f c p acts = how_many (enters c p) acts + how_many (awaits c p) acts ≤ 1
    → how_many (offers_here f c p) acts ≡ cond (list_any (offers c p) acts && of_wait f (wait_at c p acts)) 1 0

offer_first : (b : Bool) (f : WaitId → Bool) (w : WaitId) (c p : ℕ) (acts : List Act)
    → cond b 1 0 + how_many (enters c p) acts + how_many (awaits c p) acts ≤ 1 → OfferedOnce f c p acts
    → cond (b && f w) 1 0 + how_many (offers_here f c p) acts ≡
    cond ((b || list_any (offers c p) acts) && of_wait f (or_else (if b then Some w else None) (wait_at c p acts))) 1 0
offer_first true f w c p acts h k = let n = none_offered f c p acts (omega arith) in omega arith
offer_first false f w c p acts h k = let n = k (omega arith) in omega arith

await_first : (b : Bool) (f : WaitId → Bool) (w : WaitId) (c p : ℕ) (acts : List Act)
    → how_many (enters c p) acts + (cond b 1 0 + how_many (awaits c p) acts) ≤ 1 → OfferedOnce f c p acts
    → how_many (offers_here f c p) acts ≡ cond (list_any (offers c p) acts
    && of_wait f (or_else (if b then Some w else None) (wait_at c p acts))) 1 0
await_first true f w c p acts h k =
    let n = none_offered f c p acts (omega arith) in
    let a = counts_none (list_any (offers c p) acts && f w) (ap (λ x. x && f w) (not_offered c p acts (omega arith))) in
    omega arith
await_first false f w c p acts h k = k (omega arith)

pub offered_once : (f : WaitId → Bool) (c p : ℕ) (acts : List Act) → how_many (enters c p) acts + how_many (awaits c p) acts ≤ 1
    → how_many (offers_here f c p) acts ≡ cond (list_any (offers c p) acts && of_wait f (wait_at c p acts)) 1 0
offered_once f c p [] h = refl
offered_once f c p (Offer d q v w k ∷ acts) h = offer_first (is_at c p d q) f w c p acts (omega arith) (offered_once f c p acts)
offered_once f c p (Await d q w k ∷ acts) h = let n = await_first (is_at c p d q) f w c p acts (omega arith) (offered_once f c p acts)
    in omega arith
offered_once f c p (other ∷ acts) h = let n = offered_once f c p acts (omega arith) in omega arith

-- ---- the sums

-- no act settles the wait
abbrev still : List Act → WaitId → Bool
still acts w = not (list_any (settles_wait w) acts)

-- the act ends the wait of this place, at which an element was handed
abbrev handed_by : (WaitId → Act → Bool) → List Act → Act → ℕ → ℕ → Bool
handed_by test acts a c p = list_any (hands c p) acts && of_wait (λ w. test w a) (wait_at c p acts)

-- the act settles the wait of this place, at which it was resolved
abbrev chosen_by : List Act → Act → ℕ → ℕ → Bool
chosen_by acts a c p = list_any (resolver c p) acts && of_wait (λ w. settles_wait w a) (wait_at c p acts)

abbrev pub over : Shape → (ℕ → ℕ → ℕ) → ℕ
over shape f = sum_places (length shape) (places_at shape) f

module _ (shape : Shape) (acts : List Act) (s : State) (k : Kept shape acts s) where
  counted : (c p : ℕ) → Counted c p acts (s.channels c)
  counted = k.traced.told.counted

  answered : (c p : ℕ) → list_any (answers c p) acts ≡ true → IsPlace shape c p
  answered c p e = let n = any_count (answers c p) acts e in let h = counted c p in k.given.range c p (omega (arith, h.receivers))

  handed_here : (c p : ℕ) → list_any (hands c p) acts ≡ true → IsPlace shape c p
  handed_here c p e = answered c p (any_by (hands c p) (answers c p) (hand_answers c p) acts e)

  left_here : (c p : ℕ) → 1 ≤ how_many (takes c p) acts + how_many (drains c p) acts + how_many (drops_at c p) acts + how_many
      (spurns_at c p) acts → IsPlace shape c p
  left_here c p l = let h = counted c p in k.given.range c p (omega (arith, h.queue, leaves_count c p acts))

  brought_here : (c p : ℕ) → 1 ≤ how_many (puts c p) acts + how_many (offers c p) acts → IsPlace shape c p
  brought_here c p l = k.given.range c p (omega (arith, enters_count c p acts))

  -- ---- kinds that name their place

  hand_at : (a : Act) → IsIn a acts → AtOne (length shape) (places_at shape) (λ c p. hands c p a) (is_hand a)
  hand_at (Hand d q v) i = at_its_place (length shape) (places_at shape) d q (handed_here d q (i (hands d q) (here d q)))
  hand_at other i = λ c p. refl

  pub hands_sum : over shape (λ c p. how_many (hands c p) acts) ≡ how_many is_hand acts
  hands_sum = by_places (length shape) (places_at shape) (λ a c p. hands c p a) is_hand acts hand_at

  answer_at : (a : Act) → IsIn a acts → AtOne (length shape) (places_at shape) (λ c p. answers c p a) (is_answer a)
  answer_at (Hand d q v) i = at_its_place (length shape) (places_at shape) d q (answered d q (i (answers d q) (here d q)))
  answer_at (WakeClosed d q) i = at_its_place (length shape) (places_at shape) d q (answered d q (i (answers d q) (here d q)))
  answer_at other i = λ c p. refl

  pub answers_sum : over shape (λ c p. how_many (answers c p) acts) ≡ how_many is_hand acts + how_many is_wake acts
  answers_sum = by_places (length shape) (places_at shape) (λ a c p. answers c p a) is_answer acts answer_at
      ∙ sym (count_sum is_hand is_wake is_answer hand_or_wake acts)

  put_at : (a : Act) → IsIn a acts → AtOne (length shape) (places_at shape) (λ c p. puts c p a) (is_put a)
  put_at (Put d q v) i = at_its_place (length shape) (places_at shape) d q
      (brought_here d q (let n = any_count (puts d q) acts (i (puts d q) (here d q)) in omega arith))
  put_at other i = λ c p. refl

  pub puts_sum : over shape (λ c p. how_many (puts c p) acts) ≡ how_many is_put acts
  puts_sum = by_places (length shape) (places_at shape) (λ a c p. puts c p a) is_put acts put_at

  offered_here : (d q : ℕ) → list_any (offers d q) acts ≡ true → IsPlace shape d q
  offered_here d q e = brought_here d q (let n = any_count (offers d q) acts e in omega arith)

  offer_at : (a : Act) → IsIn a acts → AtOne (length shape) (places_at shape) (λ c p. offers c p a) (is_offer a)
  offer_at (Offer d q v w j) i = at_its_place (length shape) (places_at shape) d q (offered_here d q (i (offers d q) (here d q)))
  offer_at other i = λ c p. refl

  pub offers_sum : over shape (λ c p. how_many (offers c p) acts) ≡ how_many is_offer acts
  offers_sum = by_places (length shape) (places_at shape) (λ a c p. offers c p a) is_offer acts offer_at

  take_at : (a : Act) → IsIn a acts → AtOne (length shape) (places_at shape) (λ c p. takes c p a) (is_take a)
  take_at (Take d q v) i = at_its_place (length shape) (places_at shape) d q
      (left_here d q (let n = any_count (takes d q) acts (i (takes d q) (here d q)) in omega arith))
  take_at other i = λ c p. refl

  pub takes_sum : over shape (λ c p. how_many (takes c p) acts) ≡ how_many is_take acts
  takes_sum = by_places (length shape) (places_at shape) (λ a c p. takes c p a) is_take acts take_at

  drop_at : (a : Act) → IsIn a acts → AtOne (length shape) (places_at shape) (λ c p. drops_at c p a) (is_drop a)
  drop_at (Drop d q v) i = at_its_place (length shape) (places_at shape) d q
      (left_here d q (let n = any_count (drops_at d q) acts (i (drops_at d q) (here d q)) in omega arith))
  drop_at other i = λ c p. refl

  pub drops_sum : over shape (λ c p. how_many (drops_at c p) acts) ≡ how_many is_drop acts
  drops_sum = by_places (length shape) (places_at shape) (λ a c p. drops_at c p a) is_drop acts drop_at

  spurn_at : (a : Act) → IsIn a acts → AtOne (length shape) (places_at shape) (λ c p. spurns_at c p a) (is_spurn a)
  spurn_at (Spurn d q v) i = at_its_place (length shape) (places_at shape) d q
      (left_here d q (let n = any_count (spurns_at d q) acts (i (spurns_at d q) (here d q)) in omega arith))
  spurn_at other i = λ c p. refl

  pub spurns_sum : over shape (λ c p. how_many (spurns_at c p) acts) ≡ how_many is_spurn acts
  spurns_sum = by_places (length shape) (places_at shape) (λ a c p. spurns_at c p a) is_spurn acts spurn_at

  drain_at : (a : Act) → IsIn a acts → AtOne (length shape) (places_at shape) (λ c p. drains c p a) (is_drain a)
  drain_at (Drain d q v) i = at_its_place (length shape) (places_at shape) d q
      (left_here d q (let n = any_count (drains d q) acts (i (drains d q) (here d q)) in omega arith))
  drain_at other i = λ c p. refl

  pub drains_sum : over shape (λ c p. how_many (drains c p) acts) ≡ how_many is_drain acts
  drains_sum = by_places (length shape) (places_at shape) (λ a c p. drains c p a) is_drain acts drain_at

  -- ---- open offers

  open_at : (a : Act) → IsIn a acts → AtOne (length shape) (places_at shape) (λ c p. offers_here (still acts) c p a) (offers_openly acts a)
  open_at (Offer d q v w j) i =
      by_one_test (length shape) (places_at shape) (λ c p. is_at c p d q && still acts w) (still acts w)
      (λ e. let r = offered_here d q (i (offers d q) (here d q)) in (
        d,
        q,
        r.0,
        r.1,
        and_from (is_at d q d q) (still acts w) (here d q) e,
        λ c p h. let m =
            at_both c p d q (and_parts (is_at c p d q) (still acts w) h).0 in (sym m.0, sym m.1),
      ))
      (λ e c p. and_right (is_at c p d q) (still acts w) e)
  open_at other i = λ c p. refl

  pub open_sum : over shape (λ c p. cond (is_open_at acts c p) 1 0) ≡ how_many (offers_openly acts) acts
  open_sum =
      places_same (length shape) (places_at shape) (λ c p. cond (is_open_at acts c p) 1 0)
      (λ c p. how_many (offers_here (still acts) c p) acts) (λ c p l m. sym (offered_once (still acts) c p acts (counted c p).given))
      ∙ by_places (length shape) (places_at shape) (λ a c p. offers_here (still acts) c p a) (offers_openly acts) acts open_at

  -- ---- waits that were handed an element

  module _ (test : WaitId → Act → Bool) (kind : Act → Bool) (within : (w : WaitId) (a : Act) → test w a ≡ true
      → settles_wait w a ≡ true) (gives : (w : WaitId) (a : Act) → test w a ≡ true → kind a ≡ true)
      (given : (a : Act) → kind a ≡ true → (w : WaitId) × (test w a ≡ true)) (handed : (w : WaitId) → list_any (test w) acts ≡ true
      → WasHanded (s.waits w)) where
    handed_at : (a : Act) → IsIn a acts → AtOne (length shape) (places_at shape) (handed_by test acts a) (kind a)
    handed_at a i = by_one_test (length shape) (places_at shape) (handed_by test acts a) (kind a) there nowhere
      where
        there : kind a ≡ true → AtOne (length shape) (places_at shape) (handed_by test acts a) true
        there e =
            let g = given a e in
            let x = k.given.handed g.0 (handed g.0 (i (test g.0) g.1)) in
            let r = handed_here x.0 x.1 x.3 in
            (x.0, x.1, r.0, r.1, and_from (list_any (hands x.0 x.1) acts) _ x.3 (ap (of_wait (λ w. test w a)) x.2 ∙ g.1), only g.0 g.1 x)
          where
            only : (w : WaitId) → test w a ≡ true → (x : HandPlace acts w) → (d q : ℕ) → handed_by test acts a d q ≡ true → (d ≡ x.0)
                × (q ≡ x.1)
            only w f x d q h =
                let b = and_parts (list_any (hands d q) acts) (of_wait (λ w. test w a) (wait_at d q acts)) h in
                let u = some_wait (λ w. test w a) (wait_at d q acts) b.1 in
                let same : u.0 ≡ w = one_settled u.0 w a (within u.0 a u.2) (within w a f) in
                k.traced.chosen.one d q x.0 x.1 w
                (u.1 ∙ ap (λ v. Some v) same, any_by (hands d q) (resolver d q) (hand_resolves d q) acts b.0)
                (x.2, any_by (hands x.0 x.1) (resolver x.0 x.1) (hand_resolves x.0 x.1) acts x.3)

        nowhere : kind a ≡ false → AtOne (length shape) (places_at shape) (handed_by test acts a) false
        nowhere e c p = false_from_ne_true (handed_by test acts a c p)
            (λ h. let u = some_wait (λ w. test w a) (wait_at c p acts)
            (and_parts (list_any (hands c p) acts) (of_wait (λ w. test w a) (wait_at c p acts)) h).1
            in both_ways (kind a) e (gives u.0 a u.2))

    test_once : (w : WaitId) → how_many (test w) acts ≤ 1
    test_once w = let a = count_less (test w) (settles_wait w) (within w) acts in omega (arith, k.settled_once w)

    pub handed_sum : over shape (λ c p. cond (is_handed_as test acts c p) 1 0) ≡ how_many kind acts
    handed_sum =
        places_same (length shape) (places_at shape) (λ c p. cond (is_handed_as test acts c p) 1 0)
        (λ c p. how_many (λ a. handed_by test acts a c p) acts)
        (λ c p l m. sym (spread (list_any (hands c p) acts) (wait_at c p acts) test acts test_once))
        ∙ by_places (length shape) (places_at shape) (handed_by test acts) kind acts handed_at

  pub values_sum : over shape (λ c p. cond (is_handed_as settles_value acts c p) 1 0) ≡ how_many gives_value acts
  values_sum = handed_sum settles_value gives_value value_settles value_gives value_given k.given.value

  pub given_up_sum : over shape (λ c p. cond (is_handed_as settles_undelivered acts c p) 1 0) ≡ how_many gives_up acts
  given_up_sum = handed_sum settles_undelivered gives_up undelivered_settles undelivered_gives undelivered_given k.given.undelivered

  -- ---- waits, at the places that have their names

  begun_none : (x : Option Wait) → HasBegun x → x ≡ None → ⊥
  begun_none None h e = cc
  begun_none (Some x) h e = cc

  -- the place with its name is that of its first clause
  pub own_wait : (w : WaitId) → HasBegun (s.waits w) → wait_at w.channel w.place acts ≡ Some w
  own_wait w h =
      ⊎_elim
      (λ e. absurd (begun_none (s.waits w) h (ap s.waits (sym (name_is w)) ∙ e)))
      (λ e. e ∙ ap (λ v. Some v) (name_is w))
      (k.traced.own.begun w.channel w.place)

  resolved_begun : (x : Option Wait) → IsResolvedWait x → HasBegun x
  resolved_begun None h = absurd h
  resolved_begun (Some x) h = refl

  own_place : (w : WaitId) → IsResolvedWait (s.waits w) → IsPlace shape w.channel w.place
  own_place w h =
      let n = wait_counted w.channel w.place acts w (own_wait w (resolved_begun (s.waits w) h)) in
      k.given.range w.channel w.place (omega (arith, enters_count w.channel w.place acts))

  same_name : (c p : ℕ) (w : WaitId) → same_wait (name_of c p) w ≡ true → (c ≡ w.channel) × (p ≡ w.place)
  same_name c p w e = let m = same_wait-eq (name_of c p) w e in (ap (λ (x : WaitId). x.channel) m, ap (λ (x : WaitId). x.place) m)

  withdrawn_place : (w : WaitId) → list_any (withdraws w) acts ≡ true → IsPlace shape w.channel w.place
  withdrawn_place w e = own_place w (k.traced.chosen.withdrawn w e)

  withdraw_at : (a : Act) → IsIn a acts → AtOne (length shape) (places_at shape) (λ c p. withdraws (name_of c p) a) (is_withdraw a)
  withdraw_at (Withdraw w why) i =
      let r = withdrawn_place w (i (withdraws w) (same_wait-refl w)) in
      (w.channel, w.place, r.0, r.1, same_wait-refl w, λ c p h. same_name c p w h)
  withdraw_at other i = λ c p. refl

  -- a test of waits and the place of this one's name
  named_at : (f : WaitId → Bool) (w : WaitId) → (f w ≡ true → IsPlace shape w.channel w.place)
      → AtOne (length shape) (places_at shape) (λ c p. f (name_of c p) && same_wait (name_of c p) w) (f w)
  named_at f w there =
      by_one_test (length shape) (places_at shape) (λ c p. f (name_of c p) && same_wait (name_of c p) w) (f w)
      (λ e. let r = there e in (
        w.channel,
        w.place,
        r.0,
        r.1,
        and_from (f (name_of w.channel w.place)) _ (ap f (name_is w) ∙ e) (same_wait-refl w),
        λ c p h. same_name c p w (and_parts _ _ h).1,
      ))
      (λ e c p. false_from_ne_true _ (λ h. let b = and_parts (f (name_of c p)) (same_wait (name_of c p) w) h
      in both_ways _ (ap f (same_wait-eq (name_of c p) w b.1) ∙ e) b.0))

  settle_withdrawn_at : (a : Act) → IsIn a acts → AtOne (length shape) (places_at shape) (λ c p. list_any (withdraws (name_of c p)) acts
      && settles_wait (name_of c p) a) (settles_withdrawn acts a)
  settle_withdrawn_at (Settle w outcome) i = named_at (λ v. list_any (withdraws v) acts) w (withdrawn_place w)
  settle_withdrawn_at other i = λ c p. and_right (list_any (withdraws (name_of c p)) acts) false refl

  taken_at : (a : Act) → IsIn a acts → AtOne (length shape) (places_at shape) (λ c p. is_plain_offer acts (name_of c p)
      && withdraws (name_of c p) a) (takes_back acts a)
  taken_at (Withdraw w why) i = named_at (is_plain_offer acts) w (λ e. withdrawn_place w (i (withdraws w) (same_wait-refl w)))
  taken_at other i = λ c p. and_right (is_plain_offer acts (name_of c p)) false refl

  -- ---- plain offers that were taken back

  -- the wait of a plain offer has the name of its place
  plain_name : (c p : ℕ) (w : WaitId) → first_some (offers_at c p) acts ≡ Some 0 → wait_at c p acts ≡ Some w → name_of c p ≡ w
  plain_name c p w e f =
      let m = alone acts s k.traced.own c p w.channel w.place w e f (own_wait w (k.given.begun c p w f)) in
      ap (λ x. name_of x p) m.0 ∙ (ap (λ x. name_of w.channel x) m.1 ∙ name_is w)

  back_is : (c p j : ℕ) → first_some (offers_at c p) acts ≡ Some j → (j == 0) ≡ true
      → is_taken_back c p acts ≡ list_any (withdraws (name_of c p)) acts
  back_is c p j e z =
      let w = first_there (places_wait c p) (offers c p) (offer_waits c p) acts (clause_offered c p j acts e) in
      let same = plain_name c p w.0 (e ∙ ap (λ x. Some x) (eqb-true j 0 z)) w.1 in
      by_withdrawn w.0 w.1 (list_any (withdraws w.0) acts) refl ∙ ap (λ v. list_any (withdraws v) acts) (sym same)
    where
      by_withdrawn : (w : WaitId) → wait_at c p acts ≡ Some w → (b : Bool) → list_any (withdraws w) acts ≡ b
          → is_taken_back c p acts ≡ list_any (withdraws w) acts
      by_withdrawn w f true h =
          and_from (not (list_any (admits c p) acts)) _ (ap not
          (false_from_ne_true _ (λ a. k.traced.chosen.apart c p w (f, admitted_resolved c p acts a) h)))
          (ap (of_wait (λ v. list_any (withdraws v) acts)) f ∙ h) ∙ sym h
      by_withdrawn w f false h = and_right (not (list_any (admits c p) acts)) _ (ap (of_wait (λ v. list_any (withdraws v) acts)) f ∙ h)
          ∙ sym h

  taken_is : (c p : ℕ) → is_taken_offer acts c p ≡ (is_plain_offer acts (name_of c p) && list_any (withdraws (name_of c p)) acts)
  taken_is c p = by_clause (first_some (offers_at c p) acts) refl
    where
      by_zero : (b x y : Bool) → (b ≡ true → x ≡ y) → (b && x) ≡ (b && y)
      by_zero true x y h = h refl
      by_zero false x y h = refl

      by_clause : (o : Option ℕ) → first_some (offers_at c p) acts ≡ o
          → of_offer (λ j. (j == 0) && is_taken_back c p acts) o ≡ (of_offer (λ j. j == 0) o && list_any (withdraws (name_of c p)) acts)
      by_clause None e = refl
      by_clause (Some j) e = by_zero (j == 0) _ _ (λ z. back_is c p j e z)

  pub taken_sum : over shape (λ c p. cond (is_taken_offer acts c p) 1 0) ≡ how_many (takes_back acts) acts
  taken_sum =
      places_same (length shape) (places_at shape) (λ c p. cond (is_taken_offer acts c p) 1 0)
      (λ c p. how_many (λ a. is_plain_offer acts (name_of c p) && withdraws (name_of c p) a) acts)
      (λ c p l m. ap (λ b. cond b 1 0) (taken_is c p) ∙ sym
      (spread (is_plain_offer acts (name_of c p)) (Some (name_of c p)) withdraws acts k.withdrawn_once))
      ∙ by_places (length shape) (places_at shape) (λ a c p. is_plain_offer acts (name_of c p)
      && withdraws (name_of c p) a) (takes_back acts) acts taken_at

  -- ---- settled waits: withdrawn, or resolved at a place

  module _ (rest : ResolvedAreSettled s) where
    withdrawn_settled : (c p : ℕ) → how_many (λ a. list_any (withdraws (name_of c p)) acts && settles_wait (name_of c p) a) acts ≡
        how_many (withdraws (name_of c p)) acts
    withdrawn_settled c p =
        spread (list_any (withdraws (name_of c p)) acts) (Some (name_of c p)) settles_wait acts k.settled_once
        ∙ (ap (λ b. cond b 1 0) (by_test (list_any (withdraws (name_of c p)) acts) refl)
        ∙ any_one (withdraws (name_of c p)) acts (k.withdrawn_once (name_of c p)))
      where
        by_test : (b : Bool) → list_any (withdraws (name_of c p)) acts ≡ b
            → (b && list_any (settles_wait (name_of c p)) acts) ≡ list_any (withdraws (name_of c p)) acts
        by_test true e = k.settles (name_of c p) (rest (name_of c p) (k.traced.chosen.withdrawn (name_of c p) e)) ∙ sym e
        by_test false e = sym e

    -- each wait that was withdrawn is settled, once
    pub withdrawn_sum : how_many (settles_withdrawn acts) acts ≡ how_many is_withdraw acts
    withdrawn_sum =
        sym (by_places (length shape) (places_at shape) (λ a c p. list_any (withdraws (name_of c p)) acts
        && settles_wait (name_of c p) a) (settles_withdrawn acts) acts settle_withdrawn_at)
        ∙ (places_same (length shape) (places_at shape) (λ c p. how_many (λ a. list_any (withdraws (name_of c p)) acts
        && settles_wait (name_of c p) a) acts) (λ c p. how_many (withdraws (name_of c p)) acts) (λ c p l m. withdrawn_settled c p)
        ∙ by_places (length shape) (places_at shape) (λ a c p. withdraws (name_of c p) a) is_withdraw acts withdraw_at)

    chosen_here : (c p : ℕ) (w : WaitId) → chosen_by acts (Settle w settled.Cancelled) c p ≡ true → Chosen acts c p w
    chosen_here c p w h =
        let b = and_parts _ _ h in
        let u = some_wait (λ v. same_wait v w) (wait_at c p acts) b.1 in
        (u.1 ∙ ap (λ v. Some v) (same_wait-eq u.0 w u.2), b.0)

    chosen_place : (c p : ℕ) (w : WaitId) → Chosen acts c p w → IsPlace shape c p
    chosen_place c p w x = k.given.range c p (resolver_given c p acts (s.channels c) (counted c p) x.1)

    chosen_at : (a : Act) → IsIn a acts → AtOne (length shape) (places_at shape) (chosen_by acts a) (settles_chosen acts a)
    chosen_at (Settle w outcome) i =
        by_one_test (length shape) (places_at shape) (chosen_by acts (Settle w outcome)) (not (list_any (withdraws w) acts))
        (λ e. ⊎_elim
        (λ h. absurd (both_ways _ (ap not h) e))
        (λ x. let r = chosen_place x.0 x.1 w x.2 in (
          x.0,
          x.1,
          r.0,
          r.1,
          and_from (list_any (resolver x.0 x.1) acts) _ x.2.1 (ap (of_wait (λ v. same_wait v w)) x.2.0
              ∙ same_wait-refl w),
          λ d q h. k.traced.chosen.one d q x.0 x.1 w (chosen_here d q w h) x.2,
        ))
        (k.traced.chosen.known w (k.traced.ended.resolved w (k.settled w (i (settles_wait w) (same_wait-refl w))))))
        (λ e c p. false_from_ne_true _ (λ h. k.traced.chosen.apart c p w (chosen_here c p w h) (not-false (list_any (withdraws w) acts) e)))
    chosen_at other i = λ c p. and_right (list_any (resolver c p) acts) _ (wait_never (wait_at c p acts))

    pub chosen_sum : over shape (λ c p. cond (is_chosen_at acts c p) 1 0) ≡ how_many (settles_chosen acts) acts
    chosen_sum =
        places_same (length shape) (places_at shape) (λ c p. cond (is_chosen_at acts c p) 1 0)
        (λ c p. how_many (λ a. chosen_by acts a c p) acts)
        (λ c p l m. sym (spread (list_any (resolver c p) acts) (wait_at c p acts) settles_wait acts k.settled_once))
        ∙ by_places (length shape) (places_at shape) (chosen_by acts) (settles_chosen acts) acts chosen_at

    -- all that were settled
    pub settles_sum : how_many (settles_chosen acts) acts + how_many is_withdraw acts ≡ how_many is_settle acts
    settles_sum = let a = count_sum (settles_chosen acts) (settles_withdrawn acts) is_settle (chosen_or_withdrawn acts) acts
        in let b = withdrawn_sum in omega arith

    -- a place at which its wait was resolved is a receiver's, or an offer's
    pub chosen_share : (c p : ℕ) → cond (is_chosen_at acts c p) 1 0 ≡ how_many (answers c p) acts + cond (is_sent_at acts c p) 1 0
    chosen_share c p = by_answer (list_any (answers c p) acts) refl
      where
        by_answer : (b : Bool) → list_any (answers c p) acts ≡ b
            → cond (is_chosen_at acts c p) 1 0 ≡ how_many (answers c p) acts + cond (is_sent_at acts c p) 1 0
        by_answer true e =
            let n = any_count (answers c p) acts e in
            let h = counted c p in
            let m : 1 ≤ how_many (awaits c p) acts = omega (arith, h.receivers) in
            let w = first_there (places_wait c p) (awaits c p) (await_waits c p) acts (count_any (awaits c p) acts m) in
            let r = any_by (answers c p) (resolver c p) (answer_resolves c p) acts e in
            let x = k.settles w.0 (rest w.0 (k.traced.chosen.resolved c p w.0 (w.1, r))) in
            let a = counts_one (is_chosen_at acts c p) (and_from (list_any (resolver c p) acts) _ r
            (ap (of_wait (λ v. list_any (settles_wait v) acts)) w.1 ∙ x)) in
            let o = not_offered c p acts (omega (arith, h.given)) in
            let b = counts_none (is_sent_at acts c p) (ap (λ y. y && is_chosen_at acts c p) o) in
            omega (arith, h.receivers, h.given)
        by_answer false e =
            let n = none_count (answers c p) acts e in
            let a : ◌≡◌ {A = ℕ} (cond (is_chosen_at acts c p) 1 0) (cond (is_sent_at acts c p) 1 0) =
            ap (λ b. cond b 1 0) (by_chosen (is_chosen_at acts c p) refl) in
            omega arith
          where
            offered_at : is_chosen_at acts c p ≡ true → list_any (offers c p) acts ≡ true
            offered_at h =
                let b = and_parts _ _ h in
                let u = some_wait (λ v. list_any (settles_wait v) acts) (wait_at c p acts) b.1 in
                let f = found (resolver c p) acts b.0 in
                let g = counted c p in
                let entered : 1 ≤ how_many (enters c p) acts =
                ⊎_elim
                (λ y. absurd (both_ways _ e (f.2 (answers c p) y)))
                (λ z. ⊎_elim (λ y. let n = any_count (removes c p) acts (f.2 (removes c p) y)
                in omega (arith, g.queue)) (λ y. g.admitted (f.2 (admits c p) y)) z)
                (resolver_is c p f.0 f.1) in
                by_put entered u.0 u.1 (list_any (puts c p) acts) refl
              where
                by_put : 1 ≤ how_many (enters c p) acts → (w : WaitId) → wait_at c p acts ≡ Some w → (b : Bool)
                    → list_any (puts c p) acts ≡ b → list_any (offers c p) acts ≡ true
                by_put l w f true y = absurd (put_alone c p acts (s.channels c) w (counted c p) y f)
                by_put l w f false y = let z = none_count (puts c p) acts y
                    in count_any (offers c p) acts (omega (arith, enters_count c p acts))

            by_chosen : (b : Bool) → is_chosen_at acts c p ≡ b → b ≡ (list_any (offers c p) acts && b)
            by_chosen true h = sym (and_from (list_any (offers c p) acts) true (offered_at h) refl)
            by_chosen false h = sym (and_right (list_any (offers c p) acts) false refl)
